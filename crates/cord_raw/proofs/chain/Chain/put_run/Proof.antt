-- `put_run` follows the chain's second pointer, lends the run of bytes after the newest block's text for the call that copies into it, and
-- counts what was copied.
use Rattle.std.proofs.Common.{◌≡◌, ℕ, ◌+◌, ◌-◌, ◌≤◌, ◌<◌, ◌^◌, w64, List, [], ◌∷◌, length, refl, sym, ap, ◌∙◌, subst, arith, MutBor}
use mir.Syntax.{named}
use mir.Val.{Val, vunit, vint}
use base.Fraction.{full_share}
use base.Fml.{GName, ftrue, feq, fbor, flft, flent}
use types.Kit.{at_ret, ‵, raw, ◌⊛◌, some, later, ◌$◌, ◌∵◌, !, qed, done, move, keep, drop, use1, use2, use3, split, split3, join, pick}
use types.Kit.{learn, given, await, fsplit, fsplit3, fjoin, feq_i, feq_l, rewrite, suffices, frame, group}
use types.Part.{whole, sub, look_in, agg}
use types.Run.{enter, of_opd, unit_lit, bin, addr, load, look, store, stop, fld, hop, and_then, no_more, assigns_last, first, blocks, exec}
use types.Run.{returns}
use types.ByLocal.{alloc_all, pass_all, free_all, look_at, get, get_in, through, sets, is, lands_as, env}
use types.SemTy.{cells, Arr}
use types.Tokens.{lft_new, lft_end}
use contract.Monad.{fact}
use contract.Running.{tables}
use denote.Builtin.{u8, SliceRefOf}
use denote.Exit.{yes}
use denote.Index.{row, whole_in, whole_out}
use denote.Lend.{Held, lends_slice, slice_back}
use denote.Memory.{cell_at, part_at, mem}
use denote.RattleType.{owns}
use denote.RawPtr.{Ptr, RawPtr}
use denote.Ref.{MutRef, mut_vals, mut_Tells}
use denote.Signature.{plain}
use denote.Slice.{MutSlice, ShrSlice, Room, slice_val, finally, shr_slice_vals, shr_slice_Tells}
use denote.Steps.{nothing, opens, closes, heard}
use denote.Triple.Call.{calls_at}
use denote.Triple.Table.{framed}
use denote.Triple.Walked.{says, Stays, stay_ref, stay_dropped, walk_of, ends_at, Goes-ref, Goes-dropped}
use Rattle.std_alloc.proofs.VecSteps.Shapes.{after}
use Rattle.std.proofs.raw_atomic.Walks.{proved}
use Rattle.cord_raw.specs.declared.block.TheConstants.{ROOM}
use Rattle.cord_raw.specs.declared.block.Block.{Block}
use Rattle.cord_raw.specs.inner.Loans.{with_newest}
use Rattle.cord_raw.specs.inner.Ownership.{block_owns}
use Rattle.cord_raw.specs.contracts.block.Block.{the_row as B}
use Rattle.cord_raw.specs.contracts.chain.Chain.{the_row as C}
use Rattle.cord_raw.proofs.Bytes.{Back, len_at, bytes_apart, bytes_back}
use Rattle.cord_raw.proofs.Copies.{Copies, copied, copying, asks, gives}
use Rattle.cord_raw.proofs.Runs.{run_of, with_run, run_length, with_run_length, take_with_run, around, run_out, run_back}
use Rattle.cord_raw.proofs.Words.{words, chain_val, packs, unpacks, lies, few_fit}
use Rattle.cord_raw.specs.contracts.chain.Chain.put_run as f
use Rattle.cord_raw.proofs.chain.Chain.put_run.Statement.{statement}
use Rattle.cord_raw.proofs.chain.Chain.put_run.Code as code

abbrev stayed : Stays f.ended.signature.params f.ended.kept
stayed = (stay_ref (0 ∷ []) tt (plain (λ _. C)), (stay_dropped (SliceRefOf (1 ∷ []) tt (plain (λ _. u8)) (λ _. tt)) yes, tt))

-- the block x with these bytes after its text
abbrev with_bytes : Block → List ℕ → Block
with_bytes x run = record { next = x.next; len = x.len + length run; bytes = with_run x.bytes x.len (length run) run }

pub put_run_spec : {M : Type 1} → statement M
put_run_spec 𝓤 𝓛 𝓜 𝓡 wired =
    let c = f.clauses 𝓛 𝓜.mem 𝓡.returns in let W = walk_of 𝓛 f.ended stayed c in let 𝓣 = tables 𝓤 𝓛.H 𝓜 𝓡 𝓡.env in let fn = code.function in
    proved 𝓛 f.ended stayed c 𝓜 𝓡 (
      Goes-ref 𝓛 2 0 tt (plain (λ _. C)),
      (Goes-dropped 𝓛 2 (SliceRefOf (1 ∷ []) tt (plain (λ _. u8)) (λ _. tt)) yes (λ κs x w. refl), tt),
    )
    f.Key.name fn (code.unfolded 𝓤 𝓛.H 𝓜 𝓡 wired)
    (λ κs. (mut_vals, (shr_slice_vals, tt))) (λ κs. (mut_Tells (named 0) κs.0 C, (shr_slice_Tells (named 1) κs.1.0 u8, tt)))
    (λ κs qs bounds a reported are.
    let κ = κs.0 in let q = qs.0 in let κ' = κs.1.0 in let q' = qs.1.0 in
    let ab = a.0.ref_ptr.0 in let ao = a.0.ref_ptr.1 in let d = a.0.now in let x : Block = d.newest in let vs = mut_vals a.0 in
    let src = a.1.0 in let run : List ℕ = src.now in let n : ℕ = length run in let ws = shr_slice_vals src in
    let y : W.Ghost = ((κs, qs, bounds, a, (vs, (ws, tt))), reported) in
    qed 𝓛 (((‵ (flft κ q) ⊛ ‵ (flft κ' q') ⊛ ‵ ftrue) ⊛ ‵ (owns (MutRef (named 0) κ C ∷ ShrSlice (named 1) κ' u8 ∷ []) a (vs, (ws, tt))))
    ∷ raw (fact 𝓤 (x.len + n ≤ ROOM)) ∷ []) ∵
    move ! (1 ∷ []) $ heard ! (x.len + n ≤ ROOM) (λ room. split ! $ split3 ! $ move ! (3 ∷ []) $ fsplit ! $ move !
    (1 ∷ []) $ fsplit ! $ keep ! (2 ∷ 3 ∷ 0 ∷ 4 ∷ []) $
    -- [self; its token; the run; its token]
    let new = with_newest d (with_bytes x run) in let place : x.len < 2 ^ 64 = omega arith in let more : x.len + n < 2 ^ 64 = omega arith in
    let fits : n < 2 ^ 64 = omega arith in
    enter ! _ _ _ _ _ $ alloc_all ! (λ l. pass_all ! refl ((tt, tt), ((tt, (tt, (record { fits = fits }, tt))), tt)) $
    fsplit3 ! $ move ! (1 ∷ 2 ∷ 3 ∷ []) $ opens ! tt C ab ao (λ us.
    move ! (1 ∷ []) $ unpacks ! d us (λ word. fsplit ! $ move ! (1 ∷ []) $ lies ! d.last x (λ b o e.
    use1 𝓛 (‵ (len_at 𝓛 x.len b o) ⊛ ‵ (feq ℕ (length x.bytes) 128) ⊛ ‵ (row u8 full_share x.bytes b (o + 16)) ⊛ ‵
    (part_at RawPtr full_share x.next b (o + 0)) ⊛ raw (Back 𝓛 b o)) (bytes_apart 𝓛 x b o) $
    split ! $ move ! (1 ∷ []) $ split ! $ move ! (1 ∷ []) $ split ! $ move ! (1 ∷ []) $ split ! $ move ! (3 ∷ 2 ∷ 4 ∷ []) $ feq_l ! (λ all.
    let inside : x.len + n ≤ length x.bytes = subst (λ (k : ℕ). x.len + n ≤ k) (sym all) room in let at : ℕ = x.len + (o + 16) in
    let old : List ℕ = run_of x.bytes x.len n in let long : length old ≡ n = run_length x.bytes x.len n inside in
    let below : x.len ≤ x.len + n = omega arith in let only_run : x.len + n - x.len ≡ length old = omega arith in
    let roomy : Room u8 (length old) = (omega arith, omega arith) in
    use1 𝓛 (‵ (row u8 full_share old b at) ⊛ ‵ (around 𝓛 full_share x.bytes x.len n b (o + 16) inside))
    (run_out 𝓛 full_share x.bytes x.len n b (o + 16) inside) $ split ! $
    let Cell = λ (ws : List Val). ‵ (cell_at full_share C.mir ws ab ao) in
    rewrite ! 7 Cell word refl $ rewrite ! 7 (λ (p : Ptr). Cell (words d.first p d.count ∷ [])) e refl $
    -- [the bytes that are to be written; those around; the length; the pointer; the way back; the right to free; the older ones; the
    -- chain's cell; the open borrow, in three entries; self's first part; the run; its token]
    first ! $ blocks ! $
    sets ! (of_opd ! (load ! (through ! refl (fld ! refl (hop ! (look_in ! 7 (sub ! 1 refl (whole !))) (fld ! refl (stop !)))))
    (look ! 2 refl))) refl (tt, record { fits = place }) $
    sets ! (of_opd ! (get_in ! (fld ! refl (stop !)) (sub ! 1 refl (whole !)))) refl (tt, record { fits = fits }) $
    sets ! (bin ! (get ! refl) (get ! refl) (record { fits = more })) refl (tt, record { fits = more }) $
    sets ! (addr ! (through ! refl (fld ! refl (hop ! (look_in ! 7 (sub ! 1 refl (whole !))) (fld ! refl (stop !)))))) refl (tt, tt) $
    sets ! (bin ! (get ! refl) (get ! refl) tt) refl (tt, tt) $
    sets ! (is ! (bin ! (get ! refl) (get ! refl) below) (ap (vint w64) only_run)) refl (tt, record { fits = roomy.0 }) $
    sets ! (addr ! (through ! refl (stop !))) refl (tt, tt) $
    sets ! (agg ! (and_then ! (get ! refl) (and_then ! (get ! refl) (no_more !)))) refl (tt, (tt, (record { fits = roomy.0 }, tt))) $
    use1 𝓛 (‵ (cells (mem u8) old b at)) (whole_in 𝓛 u8 old b at) $ lft_new ! tt (λ α. let κ₀ = α ∷ [] in move ! (1 ∷ []) $
    use1 𝓛 (later (some (λ (γ : GName). ‵ ((MutSlice (named 0) κ₀ u8).own_val (record { ref_ptr = (b, at); ghost_name = γ; now = old })
    (slice_val (b, at) (length old) ∷ [])) ⊛ ‵ (flent κ₀ (Held u8 (length old) b at γ)))))
    (lends_slice 𝓛 u8 (named 0) κ₀ old b at roomy) $ await ! tt $ pick ! (λ γ. split ! $
    -- [the loan; what the lender keeps; its token; the bytes around; the length; the pointer; the way back; the right to free; the older
    -- ones; the chain's cell; the open borrow, in three entries; self's first part; the run; its token]
    let loan : MutBor (List ℕ) = record { ref_ptr = (b, at); ghost_name = γ; now = old } in
    let z = copying 𝓛 𝓜.mem 𝓡.returns κ₀ κ' full_share q' loan src in
    move ! (0 ∷ 2 ∷ 14 ∷ 15 ∷ []) $ group ! 4 $ use1 𝓛 (raw ((Copies 𝓛 𝓜.mem 𝓡.returns).pre z))
    (asks 𝓛 𝓜.mem 𝓡.returns κ₀ κ' full_share q' loan src long) $
    let copies = copied 𝓛 𝓜 𝓡 (code.calls-core::slice::edits::slice+T::copy_from_slice 𝓡.env wired)
    (code.calls-core::clone::U8Clone::clone 𝓡.env wired) in
    calls_at ! (framed 𝓤 𝓛.H 𝓜 𝓣) (Copies 𝓛 𝓜.mem 𝓡.returns) copies z (and_then ! (get ! refl) (and_then ! (get ! refl) (no_more !))) (λ v.
    use1 𝓛 (later (given (v ≡ vunit) (‵ (finally u8 γ run) ⊛ ‵ (fbor κ₀ (Held u8 (length old) b at γ)) ⊛ ‵ (flft κ₀ full_share) ⊛ ‵
    (flft κ' q')))) (gives 𝓛 𝓜.mem 𝓡.returns κ₀ κ' full_share q' loan src v) $ await ! tt $ learn !
    (λ is_unit. split3 ! $ move ! (1 ∷ []) $ drop ! $ move ! (1 ∷ []) $ split ! $
    lands_as ! is_unit refl (tt, tt) $ lft_end ! tt $ move ! (0 ∷ 3 ∷ 2 ∷ []) $
    -- [the lifetime is over; what the lender keeps; the bytes that were copied; the run's token; the bytes around; the length; the pointer;
    -- the way back; the right to free; the older ones; the chain's cell; ..]
    use3 𝓛 (later (‵ ((Arr (mem u8) (length old)).own_at run b at))) (slice_back 𝓛 u8 κ₀ γ run (length old) b at) $ await ! tt $ fsplit ! $
    drop ! $
    use1 𝓛 (‵ (row u8 full_share run b at)) (whole_out 𝓛 u8 run b at) $ move ! (0 ∷ 2 ∷ []) $
    use2 𝓛 (‵ (row u8 full_share (with_bytes x run).bytes b (o + 16))) (run_back 𝓛 full_share x.bytes x.len n b (o + 16) inside run refl) $
    feq_i ! ℕ (length (with_bytes x run).bytes) 128 (with_run_length x.bytes x.len n run inside refl ∙ all) $
    -- [how many bytes; the bytes; the run's token; the length; the pointer; the way back; the right to free; the older ones; the chain's
    -- cell; the open borrow, in three entries; self's first part]
    assigns_last ! (of_opd ! (get ! refl))
    (through ! refl (fld ! refl (hop ! (look_in ! 8 (sub ! 1 refl (whole !))) (fld ! refl (stop !)))))
    (store ! 3 refl (tt, record { fits = more })) $
    exec ! 𝓣.C 𝓣.Λ (env fn.locals l) (after 1 fn.body) (at_ret _ (W.post y)) $
    sets ! (of_opd ! (unit_lit !)) refl (tt, tt) $
    move ! (3 ∷ 0 ∷ 1 ∷ 4 ∷ 5 ∷ []) $ group ! 5 $ use1 𝓛 (‵ (part_at B full_share (with_bytes x run) b o))
    (bytes_back 𝓛 (with_bytes x run) b o) $ move ! (0 ∷ 2 ∷ []) $ fjoin ! $
    rewrite ! 0 (λ (p : Ptr). ‵ (block_owns p (with_bytes x run))) (sym e) refl $ move ! (2 ∷ 0 ∷ []) $ fjoin ! $ packs ! new
    (few_fit new) $ move ! (2 ∷ []) $
    rewrite ! 0 (λ (p : Ptr). Cell (words d.first p d.count ∷ [])) (sym e) refl $ move ! (0 ∷ 1 ∷ 3 ∷ 4 ∷ 5 ∷ []) $ closes ! tt C new
    (chain_val new ∷ []) ab ao $
    -- [two parts of self; its token; the run's token; self's first part]
    returns ! (look_at ! 0 refl) $ free_all ! refl $ keep ! (4 ∷ 0 ∷ 1 ∷ 2 ∷ 3 ∷ []) $
    suffices ! _ (ends_at 𝓛 f.ended stayed c y vunit tt (new, (tt, tt)) (tt, (tt, tt))) $ says !
    (refl, refl, take_with_run x.bytes x.len n run inside refl) $
    group ! 3 $ nothing ! $ nothing ! $ join ! $ move ! (1 ∷ 0 ∷ []) $ join ! $ nothing ! $ move !
    (2 ∷ 3 ∷ 0 ∷ []) $ group ! 3 $ frame ! $ frame ! $
    feq_i ! _ (vunit ∷ []) _ refl $ done !)))))))))))
