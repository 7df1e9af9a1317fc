-- `empty` makes the null pointer's handle.
use Rattle.cord_c.proofs.Common.{[], ◌∷◌, refl, lit<, ftrue, ‵, ◌⊛◌, ◌$◌, ◌∵◌, !, qed, done, keep, join, feq_i, suffices, lit, no_more, and_then, returns, enter, alloc_all, pass_all, free_all, look_at, get, sets, agg, tables, yes, null_ptr, plain, nothing, Stays, stay_dropped, walk_of, ends_at, says, proved, heap_typed}
use denote.Triple.Walked.{Goes-dropped}
use Rattle.std.specs.contracts.alloc.Global as heap
use Rattle.std.proofs.alloc.Global.TheLaws as heap_laws
use Rattle.cord_c.specs.Referent.{text_by}
use Rattle.cord_c.specs.declared.handle.Handle.{Handle}
use Rattle.cord_c.specs.declared.referent.Referent.{Referent}
use Rattle.cord_c.specs.declared.referent.Referent.TheVariants.{Nothing}
use Rattle.cord_raw.proofs.Words.{handle_val as heap_val}
use Rattle.cord_c.proofs.Handles.{word, handles, typed, packs}
use Rattle.cord_c.specs.contracts.handle.Handle.empty as f
use Rattle.cord_c.proofs.handle.Handle.empty.Statement.{statement}
use Rattle.cord_c.proofs.handle.Handle.empty.Code as code

abbrev stayed : Stays f.ended.signature.params f.ended.kept
stayed = (stay_dropped (plain (λ _. heap.the_row)) yes, tt)

pub empty_spec : {M : Type 1} → statement M
empty_spec 𝓤 𝓛 𝓜 𝓡 wired =
    let c = f.clauses 𝓛 𝓜.mem 𝓡.returns in let W = walk_of 𝓛 f.ended stayed c in let 𝓣 = tables 𝓤 𝓛.H 𝓜 𝓡 𝓡.env in
    proved 𝓛 f.ended stayed c 𝓜 𝓡 (Goes-dropped 𝓛 0 (plain (λ _. heap.the_row)) yes (λ κs x w. refl), tt)
    f.Key.name code.function (code.unfolded 𝓤 𝓛.H 𝓜 𝓡 wired)
    (λ κs. ((λ h. heap_val ∷ []), tt)) (λ κs. (heap_laws.lowers.val_is, tt)) (λ κs qs bounds a g are.
    let y : W.Ghost = ((κs, qs, bounds, a, (heap_val ∷ [], tt)), g) in
    let made : Handle =
    record { at = null_ptr; alloc = a.0; referent = Nothing; text = text_by Nothing; reported = refl; testable = lit< tt } in
    qed 𝓛 ((‵ ftrue ⊛ ‵ (heap.the_row.own_val a.0 (heap_val ∷ [])) ⊛ ‵ ftrue) ∷ ‵ ftrue ∷ []) ∵ keep ! [] $
    enter ! _ _ _ _ _ $ alloc_all ! (λ l. pass_all ! refl (heap_typed, tt) $
    sets ! (agg ! (and_then ! (lit ! tt) (and_then ! (get ! refl) (no_more !)))) refl (typed handles 𝓛 made) $
    feq_i ! Referent Nothing Nothing refl $ packs handles ! made $
    returns ! (look_at ! 0 refl) $ free_all ! refl $
    suffices ! _ (ends_at 𝓛 f.ended stayed c y (word null_ptr) made (tt, tt) (tt, tt)) $ says ! refl $
    nothing ! $ nothing ! $ join ! $ nothing ! $ done !))
