-- `lend` begins a lifetime, lends for it what lies at the pointer, and takes what `leaf_at` gives of that; null lends nothing.
use Rattle.cord_c.proofs.Common.{[], ◌∷◌, refl, lit<, ftrue, tables, ‵, ◌⊛◌, at_ret, ◌$◌, ◌∵◌, !, qed, done, keep, drop, use1, split, join, fsplit, feq_i, suffices, bin, lit, stop, fld, of_opd, no_more, and_then, first, branches, skips, exec, returns, returns_within, enter, alloc_all, pass_all, free_all, look_at, get, get_in, sets, env, agg, sub, whole, yes, null_ptr, tests_null, plain, nothing, Stays, stay_dropped, walk_of, ends_at, says, Goes-blank, Ptr-Good, after, proved, heap_typed}
use Rattle.std.proofs.Common.{◌≡◌, ℕ, List, ap, sym, length, take, drop as drop_list, w64, Bor}
use mir.Val.{Val, vptr}
use base.Fraction.{full_share}
use base.Logic.{id⊢}
use base.Fml.{Incl-refl, flft}
use contract.BorrowLft.{⊑_static}
use contract.Monad.{fact}
use types.Kit.{raw, some, later, move, use2, fjoin, fpack, feq_l, flt_l, pick, await, rewrite}
use types.Run.{addr, from, hop, blocks}
use types.ByLocal.{look_in_at, through, sets_last, lands_as}
use types.Tokens.{lft_new, bor_new}
use denote.Builtin.{u64}
use denote.Memory.{shared_of}
use denote.Opens.{hide, unhide}
use denote.Plain.{uint_Makes, uint_vals, uint_Tells}
use denote.RawPtr.{Ptr, block_ptr}
use denote.Signature.{type_at}
use denote.Steps.{owned, heard, only}
use denote.Triple.Call.{calls_at}
use denote.Triple.Clauses.{lasts}
use denote.Triple.Spec.{triple_of}
use denote.Triple.Table.{framed}
use denote.Triple.Walked.{Goes-dropped}
use Rattle.cord_c.specs.Loans.{lends, lender_owns}
use Rattle.cord_c.specs.Referent.{text_by}
use Rattle.cord_c.specs.contracts.handle.Handle as handle
use Rattle.cord_c.specs.contracts.referent.Referent as referent
use Rattle.cord_c.specs.declared.loan.Loan.{Loan}
use Rattle.cord_c.specs.declared.referent.Referent.{Referent}
use Rattle.cord_c.proofs.handle.Handle.TheLaws as handle_laws
use Rattle.cord_c.proofs.referent.Referent.TheLaws as referent_laws
use Rattle.cord_c.proofs.Handles.{word, handles, typed, unpacks, at_block, in_block}
use Rattle.cord_c.proofs.Loans.{lenders, loan_val, loan_typed, packs_loan, lends_nothing}
use Rattle.cord_c.specs.contracts.loan.leaf_at as g
use Rattle.cord_c.proofs.loan.leaf_at.Met.{met}
use Rattle.cord_c.specs.contracts.handle.Handle.lend as f
use Rattle.cord_c.proofs.handle.Handle.lend.Statement.{statement}
use Rattle.cord_c.proofs.handle.Handle.lend.Code as code

abbrev stayed : Stays f.ended.signature.params f.ended.kept
stayed = (stay_dropped (plain (λ _. handle.the_row)) yes, (stay_dropped (plain (λ _. u64)) yes, tt))

pub lend_spec : {M : Type 1} → statement M
lend_spec 𝓤 𝓛 𝓜 𝓡 wired =
    let c = f.clauses 𝓛 𝓜.mem 𝓡.returns in let W = walk_of 𝓛 f.ended stayed c in let 𝓣 = tables 𝓤 𝓛.H 𝓜 𝓡 𝓡.env in
    let fn = code.function in let R = referent.the_row in
    proved 𝓛 f.ended stayed c 𝓜 𝓡
    (Goes-blank 𝓛 0 (plain (λ _. handle.the_row)) yes (λ κs x w. tt), (Goes-dropped 𝓛 0 (plain (λ _. u64)) yes (λ κs x w. refl), tt))
    f.Key.name fn (code.unfolded 𝓤 𝓛.H 𝓜 𝓡 wired)
    (λ κs. ((λ h. word h.at ∷ []), (uint_vals w64, tt))) (λ κs. (handle_laws.lowers.val_is, (uint_Tells w64, tt))) (λ κs qs bounds a _ are.
    let h = a.0 in let n = a.1.0 in let x : Referent = h.referent in let fit = are.1.0.1 in
    let y : W.Ghost = ((κs, qs, bounds, a, (word h.at ∷ [], (uint_vals w64 n, tt))), tt) in let Post = W.post y in
    let empty : Loan = record {
      lender = record { at = h.at; bytes = null_ptr; alloc = h.alloc; referent = x; items = []; testable = h.testable };
      count = 0;
      counted = refl;
    } in
    qed 𝓛 ((‵ ftrue ⊛ ‵ (handle.the_row.own_val h (word h.at ∷ [])) ⊛ ‵ (u64.own_val n (uint_vals w64 n)) ⊛ ‵ ftrue) ∷ ‵ ftrue ∷ []) ∵
    split ! $ drop ! $ split ! $ unpacks ! h (word h.at ∷ []) (λ _. keep ! (0 ∷ []) $
    enter ! _ _ _ _ _ $ alloc_all ! (λ l. pass_all ! refl (typed handles 𝓛 h, ((tt, record { fits = fit }), tt)) $
    sets ! (of_opd ! (get_in ! (fld ! refl (stop !)) (sub ! 0 refl (whole !)))) refl (Ptr-Good h.at) $
    sets ! (of_opd ! (get_in ! (fld ! refl (stop !)) (sub ! 1 refl (whole !)))) refl heap_typed $
    sets ! (of_opd ! (get ! refl)) refl (Ptr-Good h.at) $
    sets ! (bin ! (get ! refl) (lit ! tt) (tests_null h.at h.testable)) refl (tt, tt) $
    first ! $ branches ! (get ! refl)
    (λ null. sets ! (of_opd ! (get ! refl)) refl (Ptr-Good h.at) $ sets ! (of_opd ! (get ! refl)) refl heap_typed $
    sets ! (agg ! (and_then ! (get ! refl) (and_then ! (lit ! tt) (and_then ! (get ! refl) (no_more !))))) refl (typed lenders 𝓛 empty.lender) $
    sets ! (agg ! (and_then ! (get ! refl) (and_then ! (lit ! tt) (no_more !)))) refl (loan_typed 𝓛 empty (lit< tt)) $
    lends_nothing ! h.at x null $ packs_loan ! empty (lit< tt) $
    returns_within ! Post refl (look_at ! 0 refl) $ free_all ! refl $
    suffices ! _ (ends_at 𝓛 f.ended stayed c y (loan_val empty) empty (tt, (tt, tt)) (tt, (tt, tt))) $ says ! (refl, refl) $
    nothing ! $ nothing ! $ join ! $ nothing ! $ join ! $ nothing ! $ done !)
    (λ other. skips ! $ exec ! 𝓣.C 𝓣.Λ (env fn.locals l) (after 5 fn.body) (at_ret (env fn.locals l) Post) $
    at_block ! h.at x other (λ b o e.
    -- [what lies on the heap; the right to free it]
    fsplit ! $ lft_new ! tt (λ α. let κ = α ∷ [] in
    move ! (1 ∷ []) $ bor_new ! tt κ $ move ! (0 ∷ 2 ∷ []) $
    use2 𝓛 (later (‵ (shared_of R x b o κ) ⊛ ‵ (flft κ full_share)))
    (referent_laws.the_row_laws.shares 𝓛 x κ ((κ, full_share) ∷ []) b o (⊑_static κ) (Incl-refl κ)) $ await ! tt $ split ! $
    -- [what lies there, lent; the lifetime's token; it once the lifetime has ended; the right to free it]
    first ! $ blocks ! $ sets ! (of_opd ! (get ! refl)) refl (Ptr-Good h.at) $
    sets ! (of_opd ! (in_block e (get ! refl))) refl (tt, tt) $ sets_last ! (addr ! (through ! refl (stop !))) refl (tt, tt) $
    exec ! 𝓣.C 𝓣.Λ (env fn.locals l) (after 6 fn.body) (at_ret (env fn.locals l) Post) $
    sets ! (of_opd ! (get ! refl)) refl (tt, tt) $ sets ! (of_opd ! (get ! refl)) refl (tt, record { fits = fit }) $
    let it : Bor Referent = record { ref_ptr = (b, o); now = x } in
    let G = triple_of 𝓛 g.signature (g.spec 𝓛 𝓜.mem 𝓡.returns) in
    let z : G.Ghost = (((κ, tt), (full_share, tt), tt, (it, (n, tt)), (vptr b o ∷ [], (uint_vals w64 n, tt))), tt) in
    hide ! $ feq_i ! (List Val) (vptr b o ∷ []) (vptr b o ∷ []) refl $ fjoin ! $
    nothing ! $ owned ! u64 _ (uint_Makes 𝓛 w64) n _ (refl, fit) $ join ! $ move ! (1 ∷ 0 ∷ []) $ join ! $
    nothing ! $ move ! (2 ∷ 0 ∷ []) $ join ! $ join ! $ nothing ! $ move ! (1 ∷ 0 ∷ []) $ use2 𝓛 (raw (G.pre z)) (id⊢ 𝓤 _) $
    calls_at ! (framed 𝓤 𝓛.H 𝓜 𝓣) G (met 𝓤 𝓛 𝓜 𝓡 (code.calls-cord_c::loan::leaf_at 𝓡.env wired)) z
    (and_then ! (get ! refl) (and_then ! (get ! refl) (no_more !))) (λ v.
    let Lent = type_at g.signature.result z.0.0 in
    use1 𝓛 (later (some (λ (s : Bor (List ℕ)). ((‵ (flft κ full_share) ⊛ ‵ ftrue) ⊛ ‵ (Lent.own_val s (v ∷ []))) ⊛
    some (λ (ws : Unit {0} × (Unit {0} × Unit {0})). ‵ (lasts g.ended z.0.0 z.0.3 ws) ⊛
    raw (fact 𝓤 (s.now ≡ take (length s.now) (drop_list n (text_by x)))))))) (id⊢ 𝓤 _) $
    await ! tt $ pick ! (λ s. split ! $ split ! $ split ! $ move ! (3 ∷ []) $ pick ! (λ ws. split ! $ drop ! $ heard ! _ (λ has.
    -- [the token; nothing; the bytes; what lies there once the lifetime has ended; the right to free it]
    let xs = s.now in let p = block_ptr s.ref_ptr.0 s.ref_ptr.1 in
    move ! (2 ∷ []) $ fsplit ! $ fsplit ! $ feq_l ! (λ is. fsplit ! $ flt_l ! (λ few. flt_l ! (λ size. unhide ! $
    lands_as ! (ap only is) refl (tt, (tt, (record { fits = few }, tt))) $
    let made : Loan = record {
      lender = record { at = h.at; bytes = p; alloc = h.alloc; referent = x; items = xs; testable = h.testable };
      count = length xs;
      counted = refl;
    } in
    sets ! (of_opd ! (get ! refl)) refl (Ptr-Good h.at) $
    sets ! (addr ! (from ! (fld ! refl (hop ! (look_in_at ! 5 (sub ! 0 refl (whole !))) (stop !))))) refl (tt, tt) $
    sets ! (of_opd ! (get ! refl)) refl heap_typed $
    sets ! (agg ! (and_then ! (get ! refl) (and_then ! (get ! refl) (and_then ! (get ! refl) (no_more !))))) refl (typed lenders 𝓛 made.lender) $
    sets ! (of_opd ! (get_in ! (fld ! refl (stop !)) (sub ! 1 refl (whole !)))) refl (tt, record { fits = few }) $
    sets ! (agg ! (and_then ! (get ! refl) (and_then ! (get ! refl) (no_more !)))) refl (loan_typed 𝓛 made few) $
    move ! (2 ∷ []) $ drop ! $ move ! (0 ∷ 2 ∷ []) $ fjoin ! $ move ! (1 ∷ 0 ∷ []) $ fjoin ! $
    fpack ! ℕ (lends b o x p xs) α $ fjoin ! $ rewrite ! 0 (λ (q : Ptr). ‵ (lender_owns q x p xs)) (sym e) refl $ packs_loan ! made few $
    returns ! (look_at ! 0 refl) $ free_all ! refl $
    suffices ! _ (ends_at 𝓛 f.ended stayed c y (loan_val made) made (tt, (tt, tt)) (tt, (tt, tt))) $ says ! (refl, has) $
    nothing ! $ nothing ! $ join ! $ nothing ! $ join ! $ nothing ! $ done !)))))))))))))
