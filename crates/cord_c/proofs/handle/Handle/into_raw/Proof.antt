-- `into_raw` keeps pointer and allocator, where the pointer isn't null.
use Rattle.cord_c.proofs.Common.{[], ◌∷◌, refl, lit<, ftrue, tables, at_ret, ‵, ◌⊛◌, ◌$◌, ◌∵◌, !, qed, done, keep, drop, use1, split, join, suffices, bin, lit, stop, fld, of_opd, no_more, and_then, first, branches, skips, exec, returns, returns_within, enter, alloc_all, pass_all, free_all, look_at, get, get_in, sets, env, agg, sub, whole, yes, tests_null, plain, nothing, Stays, stay_dropped, walk_of, ends_at, says, Goes-blank, Ptr-Good, after, proved, heap_typed}
use Rattle.std.proofs.Common.{sym, Global}
use mir.Val.{of_list}
use types.Kit.{use0, rewrite}
use types.Match.{live}
use denote.Memory.{lone}
use denote.RawPtr.{Ptr}
use Rattle.core.proofs.option.Made.{Some-of, none_of}
use Rattle.core.specs.contracts.option.Option as OP
use Rattle.core.specs.declared.option.Option.TheVariants.{None, Some}
use Rattle.std_alloc.proofs.RcSteps.{some_Good}
use Rattle.std.specs.Box.Ownership.{box_owns}
use Rattle.cord_raw.specs.declared.raw.Raw.{Raw}
use Rattle.cord_raw.specs.inner.Ownership.{frees}
use Rattle.cord_c.specs.contracts.handle.Handle as handle
use Rattle.cord_c.specs.contracts.referent.Referent as referent
use Rattle.cord_c.specs.declared.referent.Referent.{Referent}
use Rattle.cord_c.proofs.handle.Handle.TheLaws as handle_laws
use Rattle.cord_c.proofs.Handles.{word, RawReferent, handles, owners, typed, packs, unpacks, at_null, at_block}
use Rattle.cord_c.specs.contracts.handle.Handle.into_raw as f
use Rattle.cord_c.proofs.handle.Handle.into_raw.Statement.{statement}
use Rattle.cord_c.proofs.handle.Handle.into_raw.Code as code

abbrev stayed : Stays f.ended.signature.params f.ended.kept
stayed = (stay_dropped (plain (λ _. handle.the_row)) yes, tt)

pub into_raw_spec : {M : Type 1} → statement M
into_raw_spec 𝓤 𝓛 𝓜 𝓡 wired =
    let c = f.clauses 𝓛 𝓜.mem 𝓡.returns in let W = walk_of 𝓛 f.ended stayed c in let 𝓣 = tables 𝓤 𝓛.H 𝓜 𝓡 𝓡.env in let fn = code.function in
    proved 𝓛 f.ended stayed c 𝓜 𝓡 (Goes-blank 𝓛 0 (plain (λ _. handle.the_row)) yes (λ κs x w. tt), tt)
    f.Key.name fn (code.unfolded 𝓤 𝓛.H 𝓜 𝓡 wired)
    (λ κs. ((λ h. word h.at ∷ []), tt)) (λ κs. (handle_laws.lowers.val_is, tt)) (λ κs qs bounds a g are.
    let h = a.0 in let y : W.Ghost = ((κs, qs, bounds, a, (word h.at ∷ [], tt)), g) in let Post = W.post y in
    let made : Raw Referent Global = record { at = h.at; alloc = h.alloc; value = h.referent } in let good = typed owners 𝓛 made in
    qed 𝓛 ((‵ ftrue ⊛ ‵ (handle.the_row.own_val h (word h.at ∷ [])) ⊛ ‵ ftrue) ∷ ‵ ftrue ∷ []) ∵ split ! $ drop ! $ split ! $
    unpacks ! h (word h.at ∷ []) (λ _. keep ! (0 ∷ []) $ enter ! 𝓣.C 𝓣.Λ fn _ Post $ alloc_all ! (λ l. pass_all ! refl (typed handles 𝓛 h, tt) $
    sets ! (of_opd ! (get_in ! (fld ! refl (stop !)) (sub ! 0 refl (whole !)))) refl (Ptr-Good h.at) $
    sets ! (of_opd ! (get_in ! (fld ! refl (stop !)) (sub ! 1 refl (whole !)))) refl heap_typed $
    sets ! (bin ! (get ! refl) (lit ! tt) (tests_null h.at h.testable)) refl (tt, tt) $
    first ! $ branches ! (get ! refl)
    (λ null. at_null ! h.at h.referent null (λ none. drop ! $
    sets ! (agg ! (and_then ! (lit ! tt) (no_more !))) refl (tt, (record { fits = lit< tt }, tt)) $
    returns_within ! Post refl (look_at ! 0 refl) $ free_all ! refl $
    use0 𝓛 (‵ ((OP.the_row RawReferent).own_val None (live 0 (of_list []) ∷ []))) (none_of 𝓛 RawReferent) $
    suffices ! _ (ends_at 𝓛 f.ended stayed c y (live 0 (of_list [])) None (tt, tt) (tt, tt)) $ says ! none $
    nothing ! $ nothing ! $ join ! $ nothing ! $ done !))
    (λ other. skips ! $ exec ! 𝓣.C 𝓣.Λ (env fn.locals l) (after 4 fn.body) (at_ret (env fn.locals l) Post) $
    sets ! (of_opd ! (get ! refl)) refl (Ptr-Good h.at) $
    sets ! (agg ! (and_then ! (get ! refl) (and_then ! (get ! refl) (no_more !)))) refl good $
    sets ! (agg ! (and_then ! (lit ! tt) (and_then ! (get ! refl) (no_more !)))) refl (some_Good (lone RawReferent.mir) (word h.at) good) $
    returns ! (look_at ! 0 refl) $ free_all ! refl $ at_block ! h.at h.referent other (λ b o e.
    rewrite ! 0 (λ (p : Ptr). ‵ (box_owns frees referent.the_row p h.referent)) (sym e) refl $ packs owners ! made $
    use1 𝓛 (‵ ((OP.the_row RawReferent).own_val (Some made) (live 1 (of_list (word h.at ∷ [])) ∷ []))) (Some-of 𝓛 RawReferent made (word h.at)) $
    suffices ! _ (ends_at 𝓛 f.ended stayed c y (live 1 (of_list (word h.at ∷ []))) (Some made) (tt, tt) (tt, tt)) $ says ! refl $
    nothing ! $ nothing ! $ join ! $ nothing ! $ done !)))))
