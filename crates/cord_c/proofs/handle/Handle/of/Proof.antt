-- `of` keeps the pointer and the allocator of what lies on the heap.
use Rattle.cord_c.proofs.Common.{[], ◌∷◌, refl, ftrue, ‵, ◌⊛◌, ◌$◌, ◌∵◌, !, qed, done, keep, drop, use1, split, join, fsplit, suffices, stop, fld, of_opd, no_more, and_then, returns, enter, alloc_all, pass_all, free_all, look_at, get, get_in, sets, agg, sub, whole, tables, yes, Testable, plain, nothing, Stays, stay_dropped, walk_of, ends_at, says, Goes-blank, Ptr-Good, proved, heap_typed}
use types.Kit.{given, learn}
use Rattle.cord_c.specs.Handles.{handle_owns}
use Rattle.cord_c.specs.Referent.{text_by}
use Rattle.cord_c.specs.declared.handle.Handle.{Handle}
use Rattle.cord_c.proofs.Handles.{word, RawReferent, handles, owners, owner_reports, typed, packs, held}
use Rattle.cord_c.specs.contracts.handle.Handle.of as f
use Rattle.cord_c.proofs.handle.Handle.of.Statement.{statement}
use Rattle.cord_c.proofs.handle.Handle.of.Code as code

abbrev stayed : Stays f.ended.signature.params f.ended.kept
stayed = (stay_dropped (plain (λ _. RawReferent)) yes, tt)

pub of_spec : {M : Type 1} → statement M
of_spec 𝓤 𝓛 𝓜 𝓡 wired =
    let c = f.clauses 𝓛 𝓜.mem 𝓡.returns in let W = walk_of 𝓛 f.ended stayed c in let 𝓣 = tables 𝓤 𝓛.H 𝓜 𝓡 𝓡.env in
    proved 𝓛 f.ended stayed c 𝓜 𝓡 (Goes-blank 𝓛 0 (plain (λ _. RawReferent)) yes (λ κs x w. tt), tt)
    f.Key.name code.function (code.unfolded 𝓤 𝓛.H 𝓜 𝓡 wired)
    (λ κs. ((λ r. word r.at ∷ []), tt)) (λ κs. (owner_reports, tt)) (λ κs qs bounds a g are.
    let r = a.0 in let y : W.Ghost = ((κs, qs, bounds, a, (word r.at ∷ [], tt)), g) in
    qed 𝓛 ((‵ ftrue ⊛ ‵ (RawReferent.own_val r (word r.at ∷ [])) ⊛ ‵ ftrue) ∷ ‵ ftrue ∷ []) ∵ split ! $ drop ! $ split ! $ fsplit ! $ keep
    ! (1 ∷ []) $
    use1 𝓛 (given (Testable r.at) (‵ (handle_owns r.at r.value))) (held 𝓛 r.at r.value) $ learn ! (λ t.
    let made : Handle = record { at = r.at; alloc = r.alloc; referent = r.value; text = text_by r.value; reported = refl; testable = t } in
    enter ! _ _ _ _ _ $ alloc_all ! (λ l. pass_all ! refl (typed owners 𝓛 r, tt) $
    sets ! (of_opd ! (get_in ! (fld ! refl (stop !)) (sub ! 0 refl (whole !)))) refl (Ptr-Good r.at) $
    sets ! (of_opd ! (get_in ! (fld ! refl (stop !)) (sub ! 1 refl (whole !)))) refl heap_typed $
    sets ! (of_opd ! (get ! refl)) refl (Ptr-Good r.at) $
    sets ! (agg ! (and_then ! (get ! refl) (and_then ! (get ! refl) (no_more !)))) refl (typed handles 𝓛 made) $
    packs handles ! made $
    returns ! (look_at ! 0 refl) $ free_all ! refl $
    suffices ! _ (ends_at 𝓛 f.ended stayed c y (word r.at) made (tt, tt) (tt, tt)) $ says ! refl $
    nothing ! $ nothing ! $ join ! $ nothing ! $ done !)))
