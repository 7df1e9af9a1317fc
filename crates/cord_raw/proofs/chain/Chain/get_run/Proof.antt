-- `get_run` reads a run of a block's bytes through the pointer of a place: the chain lends them to the call that copies them.
use Rattle.std.proofs.Common.{◌≡◌, ℕ, ◌+◌, ◌-◌, ◌≤◌, ◌<◌, ◌^◌, w64, List, [], ◌∷◌, length, take, refl, sym, ap, ◌∙◌, subst, arith, Bor}
use Rattle.std.proofs.lemmas.List.{length-take}
use lib.Dec.{T as Yes}
use mir.Syntax.{named, ty_unit}
use mir.Val.{Val, vunit, vint, vstruct, vcons, vnil, has_ty, WT}
use base.Fraction.{full_share}
use base.Fml.{ftrue, fhide, fat, feq, fbor, flft}
use types.Kit.{at_ret, ‵, raw, ◌⊛◌, later, given, ◌$◌, ◌∵◌, !, qed, done, move, keep, drop, use1, split, split3, learn, await, fsplit}
use types.Kit.{fjoin, feq_i, feq_l, rewrite, suffices, frame, group}
use types.Part.{whole, sub, agg}
use types.Run.{enter, of_opd, unit_lit, bin, addr, from, stop, fld, hop, and_then, no_more, first, blocks, exec, returns}
use types.ByLocal.{alloc_all, pass_all, free_all, look_at, look_in_at, get, get_in, through, sets, is, take_at, give_at, lands_last, env}
use contract.Monad.{fact}
use contract.Running.{tables}
use denote.Builtin.{u8, usize, RefOf}
use denote.Exit.{yes}
use denote.Lend.{Held}
use denote.Memory.{hidden_shr}
use denote.Opens.{unhide, hide}
use denote.Plain.{uint_vals, uint_Tells}
use denote.RattleType.{owns}
use denote.RawPtr.{Ptr, InBlock, block_of, count_of, at_block, ptr_val}
use denote.Ref.{ShrRef, shr_vals, shr_Tells}
use denote.Signature.{plain}
use denote.Slice.{MutSlice, ShrSlice, Room, finally, mut_slice_vals, mut_slice_Tells, shr_slice_vals}
use denote.Steps.{nothing, heard}
use denote.Struct.Lending.{lent_at, in_block_says}
use denote.Triple.Call.{calls_at_last}
use denote.Triple.Table.{framed}
use denote.Triple.Walked.{says, Stays, stay_dropped, gave_slice, walk_of, ends_at, Goes-dropped, Goes-gave_slice}
use Rattle.std_alloc.proofs.VecSteps.Shapes.{after}
use Rattle.std.proofs.raw_atomic.Walks.{proved}
use Rattle.cord_raw.specs.declared.block.Block.{Block}
use Rattle.cord_raw.specs.inner.Blocks.{place_after}
use Rattle.cord_raw.specs.inner.Ownership.{chain_lent}
use Rattle.cord_raw.specs.inner.Places.{IsPlaceOf, block_at}
use Rattle.cord_raw.specs.Texts.{text_of}
use Rattle.cord_raw.specs.contracts.block.Block.{the_row as B}
use Rattle.cord_raw.specs.contracts.chain.Chain.{the_row as C}
use Rattle.cord_raw.specs.contracts.chain.Place.{the_row as P}
use Rattle.cord_raw.proofs.chain.Place.TheLaws as place_laws
use Rattle.cord_raw.proofs.Copies.{Copies, copied, copying, asks, gives}
use Rattle.cord_raw.proofs.Links.{lent_nth}
use Rattle.cord_raw.proofs.Runs.{run_of, run_length, run_of_first}
use Rattle.cord_raw.proofs.Seen.{run_seen}
use Rattle.cord_raw.proofs.Texts.{range_is}
use Rattle.cord_raw.proofs.Words.{place_val, place_typed, fields_lent, lends}
use Rattle.cord_raw.specs.contracts.chain.Chain.get_run as f
use Rattle.cord_raw.proofs.chain.Chain.get_run.Statement.{statement}
use Rattle.cord_raw.proofs.chain.Chain.get_run.Code as code

abbrev stayed : Stays f.ended.signature.params f.ended.kept
stayed = (
  stay_dropped (RefOf (0 ∷ []) tt (plain (λ _. C)) (λ _. tt)) yes,
  (stay_dropped (plain (λ _. P)) yes, (stay_dropped (plain (λ _. usize)) yes, (gave_slice (1 ∷ []) tt (plain (λ _. u8)), tt))),
)

pub get_run_spec : {M : Type 1} → statement M
get_run_spec 𝓤 𝓛 𝓜 𝓡 wired =
    let c = f.clauses 𝓛 𝓜.mem 𝓡.returns in let W = walk_of 𝓛 f.ended stayed c in let 𝓣 = tables 𝓤 𝓛.H 𝓜 𝓡 𝓡.env in let fn = code.function in
    proved 𝓛 f.ended stayed c 𝓜 𝓡 (
      Goes-dropped 𝓛 2 (RefOf (0 ∷ []) tt (plain (λ _. C)) (λ _. tt)) yes (λ κs x w. refl),
      (
        Goes-dropped 𝓛 2 (plain (λ _. P)) yes (λ κs x w. refl),
        (Goes-dropped 𝓛 2 (plain (λ _. usize)) yes (λ κs x w. refl), (Goes-gave_slice 𝓛 2 1 tt (plain (λ _. u8)), tt)),
      ),
    )
    f.Key.name fn (code.unfolded 𝓤 𝓛.H 𝓜 𝓡 wired)
    (λ κs. (shr_vals, ((λ p. place_val p ∷ []), (uint_vals w64, (mut_slice_vals, tt)))))
    (λ κs. (shr_Tells (named 0) κs.0 C, (place_laws.lowers.val_is, (uint_Tells w64, (mut_slice_Tells (named 1) κs.1.0 u8, tt)))))
    (λ κs qs bounds a reported are.
    let κ = κs.0 in let q = qs.0 in let κ' = κs.1.0 in let q' = qs.1.0 in let d = a.0.now in let p = a.1.0 in let start : ℕ = a.1.1.0 in
    let out = a.1.1.1.0 in let n : ℕ = length out.now in
    let x : Block = block_at d p.index in let vals : List Val × (List Val × (List Val × (List Val × Unit {0}))) =
    (shr_vals a.0, (place_val p ∷ [], (uint_vals w64 start, (mut_slice_vals out, tt)))) in
    let y : W.Ghost = ((κs, qs, bounds, a, vals), reported) in
    let Asks : Type 0 = IsPlaceOf d p × (start + n ≤ length (text_of x)) in
    qed 𝓛 (((‵ (flft κ q) ⊛ ‵ (flft κ' q') ⊛ ‵ ftrue) ⊛ ‵ (owns (ShrRef (named 0) κ C ∷ P ∷ usize ∷ MutSlice (named 1) κ' u8 ∷ []) a vals))
    ∷ raw (fact 𝓤 Asks) ∷ []) ∵
    move ! (1 ∷ []) $ heard ! Asks (λ asked. split ! $ split3 ! $ move ! (3 ∷ []) $ fsplit ! $ move ! (1 ∷ []) $ fsplit ! $ move !
    (1 ∷ []) $ fsplit ! $ move ! (1 ∷ []) $ fsplit ! $ keep ! (4 ∷ 0 ∷ 5 ∷ 6 ∷ []) $
    let roomy : Room u8 n = are.1.1.1.0.0.1 in let inside : start + n ≤ length x.bytes = let all = length-take x.len x.bytes in
    omega (arith, asked.1) in
    fsplit ! $ drop ! $ use1 𝓛 (‵ (hidden_shr C κ d a.0.ref_ptr.0 a.0.ref_ptr.1) ⊛ ‵ (fields_lent 𝓛 κ a.0.ref_ptr.0 a.0.ref_ptr.1 d) ⊛ ‵
    (fhide (chain_lent d.first d.older d.last d.newest κ))) (lends 𝓛 κ a.0.ref_ptr.0 a.0.ref_ptr.1 d) $ split3 ! $
    keep ! (2 ∷ 3 ∷ 4 ∷ 5 ∷ []) $ unhide ! $ rewrite ! 0 (λ (r : Ptr). ‵ (chain_lent d.first d.older r d.newest κ)) d.leads refl $
    use1 𝓛 (‵ (lent_at B (place_after d.first (take p.index d.older)) x κ))
    (lent_nth 𝓛 κ d.first d.older d.newest p.index d.newest asked.0.1) $
    rewrite ! 0 (λ (r : Ptr). ‵ (lent_at B r x κ)) (sym asked.0.0) refl $
    fsplit ! $ use1 𝓛 (raw (fact 𝓤 (InBlock p.at))) (in_block_says 𝓛 p.at) $ heard ! (InBlock p.at) (λ lies. hide ! $
    -- [a `&` to the block; the bytes that are to be written; the tokens]
    let b = block_of p.at in let at : ℕ = start + (count_of p.at + 16) in let run : Bor (List ℕ) =
    record { ref_ptr = (b, at); now = run_of x.bytes start n } in
    use1 𝓛 (‵ (feq ℕ (length x.bytes) 128) ⊛ ‵ ((ShrSlice (named 1) κ u8).own_val run (shr_slice_vals run)))
    (run_seen 𝓛 κ b x (count_of p.at) start n inside roomy) $ split ! $ feq_l ! (λ all.
    let end_fits : start + n < 2 ^ 64 = omega (arith, inside) in let long : length run.now ≡ n = run_length x.bytes start n inside in
    let only_run : start + n - start ≡ length run.now = omega arith in
    let run_fits : length run.now < 2 ^ 64 = omega (arith, roomy.0) in let below : start ≤ start + n = omega arith in
    enter ! _ _ _ _ _ $ alloc_all !
    (λ l. pass_all ! refl (
      (tt, tt),
      (
        place_typed 𝓛 p are.1.0,
        ((tt, record { fits = are.1.1.0.1 }), ((tt, (tt, (record { fits = roomy.0 }, tt))), tt)),
      ),
    ) $
    take_at ! 2 $ rewrite ! 0
    (λ (r : Ptr). ‵ (fat full_share place_laws.mir (l 2) 0 (vstruct (vcons (ptr_val r) (vcons (vint w64 p.index) vnil)))))
    (at_block p.at lies) refl $ give_at ! 2 $
    -- [the run; the bytes that are to be written; the tokens]
    sets ! (of_opd ! (get_in ! (fld ! refl (stop !)) (sub ! 1 refl (whole !)))) refl (tt, record { fits = roomy.0 }) $
    sets ! (bin ! (get ! refl) (get ! refl) (record { fits = end_fits })) refl (tt, record { fits = end_fits }) $
    first ! $ blocks ! $
    sets ! (addr ! (from ! (fld ! refl (hop ! (look_in_at ! 4 (sub ! 0 refl (whole !))) (stop !))))) refl (tt, tt) $
    sets ! (agg ! (and_then ! (get ! refl) (and_then ! (get_in ! (fld ! refl (stop !)) (sub ! 1 refl (whole !))) (no_more !)))) refl
    (tt, (tt, (record { fits = roomy.0 }, tt))) $
    sets ! (addr ! (from ! (fld ! refl (hop ! (look_in_at ! 2 (sub ! 0 refl (whole !))) (fld ! refl (stop !)))))) refl (tt, tt) $
    sets ! (bin ! (get ! refl) (get ! refl) tt) refl (tt, tt) $
    sets ! (is ! (bin ! (get ! refl) (get ! refl) below) (ap (vint w64) only_run)) refl (tt, record { fits = run_fits }) $
    sets ! (addr ! (through ! refl (stop !))) refl (tt, tt) $
    sets ! (agg ! (and_then ! (get ! refl) (and_then ! (get ! refl) (no_more !)))) refl (tt, (tt, (record { fits = run_fits }, tt))) $
    let z = copying 𝓛 𝓜.mem 𝓡.returns κ' κ q' q out run in
    move ! (1 ∷ 3 ∷ 0 ∷ 2 ∷ []) $ group ! 4 $ use1 𝓛 (raw ((Copies 𝓛 𝓜.mem 𝓡.returns).pre z))
    (asks 𝓛 𝓜.mem 𝓡.returns κ' κ q' q out run (sym long)) $
    let copies = copied 𝓛 𝓜 𝓡 (code.calls-core::slice::edits::slice+T::copy_from_slice 𝓡.env wired)
    (code.calls-core::clone::U8Clone::clone 𝓡.env wired) in
    calls_at_last ! (framed 𝓤 𝓛.H 𝓜 𝓣) (Copies 𝓛 𝓜.mem 𝓡.returns) copies z (and_then ! (get ! refl) (and_then ! (get ! refl) (no_more !)))
    (λ v.
    use1 𝓛 (later (given (v ≡ vunit) (‵ (finally u8 out.ghost_name run.now) ⊛ ‵
    (fbor κ' (Held u8 n out.ref_ptr.0 out.ref_ptr.1 out.ghost_name)) ⊛ ‵ (flft κ' q') ⊛ ‵ (flft κ q))))
    (gives 𝓛 𝓜.mem 𝓡.returns κ' κ q' q out run v) $ await ! tt $ learn ! (λ is_unit. split3 ! $ move ! (2 ∷ []) $ split ! $
    lands_last ! refl (subst (λ (u : Val). Yes (has_ty ty_unit u) × WT u) (sym is_unit) (tt, tt)) $ exec ! 𝓣.C 𝓣.Λ (env fn.locals l)
    (after 3 fn.body) (at_ret _ (W.post y)) $
    sets ! (of_opd ! (unit_lit !)) refl (tt, tt) $ returns ! (look_at ! 0 refl) $ free_all ! refl $
    -- [the token of the bytes that were written; the chain's; what those bytes are; their borrow]
    suffices ! _ (ends_at 𝓛 f.ended stayed c y vunit tt (tt, (tt, (tt, (run.now, tt)))) (tt, (tt, (tt, (long, tt))))) $ says !
    (sym (run_of_first x.bytes x.len start n asked.1) ∙ sym (range_is (text_of x) start n)) $
    move ! (2 ∷ 3 ∷ []) $ fjoin ! $ nothing ! $ move ! (1 ∷ 0 ∷ []) $ fjoin ! $ nothing ! $ fjoin ! $ nothing ! $ fjoin ! $ nothing ! $
    fjoin ! $
    nothing ! $ move ! (3 ∷ 2 ∷ 0 ∷ []) $ group ! 3 $ frame ! $ frame ! $ feq_i ! _ (vunit ∷ []) _ refl $ done !)))))))
