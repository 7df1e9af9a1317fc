-- `end` ends the lifetime for which the bytes were lent, and keeps the pointer and the allocator.
use Rattle.cord_c.proofs.Common.{[], ◌∷◌, refl, ftrue, tables, ‵, ◌⊛◌, ◌$◌, ◌∵◌, !, qed, done, keep, drop, split, join, fsplit, suffices, agg, sub, whole, stop, fld, of_opd, no_more, and_then, returns, enter, alloc_all, pass_all, free_all, look_at, get, get_in, sets, yes, plain, nothing, Stays, stay_dropped, walk_of, ends_at, says, Goes-blank, Ptr-Good, proved, heap_typed}
use Rattle.cord_c.specs.Referent.{text_by}
use Rattle.cord_c.specs.contracts.loan.Lender as lender
use Rattle.cord_c.specs.declared.handle.Handle.{Handle}
use Rattle.cord_c.proofs.loan.Lender.TheLaws as lender_laws
use Rattle.cord_c.proofs.Handles.{word, handles, typed, packs}
use Rattle.cord_c.proofs.Loans.{lenders, ends}
use Rattle.cord_c.specs.contracts.loan.Lender.end as f
use Rattle.cord_c.proofs.loan.Lender.end.Statement.{statement}
use Rattle.cord_c.proofs.loan.Lender.end.Code as code

abbrev stayed : Stays f.ended.signature.params f.ended.kept
stayed = (stay_dropped (plain (λ _. lender.the_row)) yes, tt)

pub end_spec : {M : Type 1} → statement M
end_spec 𝓤 𝓛 𝓜 𝓡 wired =
    let c = f.clauses 𝓛 𝓜.mem 𝓡.returns in let W = walk_of 𝓛 f.ended stayed c in let 𝓣 = tables 𝓤 𝓛.H 𝓜 𝓡 𝓡.env in
    proved 𝓛 f.ended stayed c 𝓜 𝓡 (Goes-blank 𝓛 0 (plain (λ _. lender.the_row)) yes (λ κs x w. tt), tt)
    f.Key.name code.function (code.unfolded 𝓤 𝓛.H 𝓜 𝓡 wired)
    (λ κs. ((λ l. lenders.val l ∷ []), tt)) (λ κs. (lender_laws.lowers.val_is, tt)) (λ κs qs bounds a g are.
    let l = a.0 in let y : W.Ghost = ((κs, qs, bounds, a, (lenders.val l ∷ [], tt)), g) in let made : Handle =
    record { at = l.at; alloc = l.alloc; referent = l.referent; text = text_by l.referent; reported = refl; testable = l.testable } in
    qed 𝓛 ((‵ ftrue ⊛ ‵ (lender.the_row.own_val l (lenders.val l ∷ [])) ⊛ ‵ ftrue) ∷ ‵ ftrue ∷ []) ∵ split ! $ drop ! $ split ! $ fsplit ! $
    keep ! (1 ∷ []) $ enter ! _ _ _ _ _ $ alloc_all ! (λ _. pass_all ! refl (typed lenders 𝓛 l, tt) $
    ends ! tt l.at l.referent l.bytes l.items $
    sets ! (of_opd ! (get_in ! (fld ! refl (stop !)) (sub ! 0 refl (whole !)))) refl (Ptr-Good l.at) $
    sets ! (of_opd ! (get_in ! (fld ! refl (stop !)) (sub ! 2 refl (whole !)))) refl heap_typed $
    sets ! (agg ! (and_then ! (get ! refl) (and_then ! (get ! refl) (no_more !)))) refl (typed handles 𝓛 made) $ packs handles ! made $
    returns ! (look_at ! 0 refl) $ free_all ! refl $
    suffices ! _ (ends_at 𝓛 f.ended stayed c y (word l.at) made (tt, tt) (tt, tt)) $ says ! refl $
    nothing ! $ nothing ! $ join ! $ nothing ! $ done !))
