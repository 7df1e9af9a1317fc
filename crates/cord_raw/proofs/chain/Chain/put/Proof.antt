-- `put` follows the chain's second pointer, writes one of the newest block's bytes, and counts it.
use Rattle.std.proofs.Common.{ℕ, ◌+◌, ◌<◌, ◌^◌, w8, List, [], ◌∷◌, length, set, get_or, refl, sym, ◌∙◌, subst, arith, length-set}
use mir.Syntax.{named}
use mir.Val.{Val, vunit}
use base.Fraction.{full_share}
use base.Fml.{ftrue, feq, flft}
use types.Kit.{at_ret, ‵, raw, ◌⊛◌, ◌$◌, ◌∵◌, !, qed, done, move, keep, use1, use2, split, join, fsplit, fsplit3, fjoin, feq_i, feq_l}
use types.Kit.{rewrite, suffices, frame, group}
use types.Part.{whole, sub, look_in}
use types.Run.{enter, of_opd, lit, unit_lit, bin, addr, load, look, store, stop, fld, hop, assigns, assigns_last, first, blocks, exec}
use types.Run.{returns}
use types.ByLocal.{alloc_all, pass_all, free_all, look_at, get, through, sets, env}
use contract.Monad.{fact}
use contract.Running.{tables}
use denote.Builtin.{u8}
use denote.Exit.{yes}
use denote.Index.{row}
use denote.Memory.{cell_at, part_at}
use denote.Plain.{uint_vals, uint_Tells}
use denote.RattleType.{owns}
use denote.RawPtr.{Ptr, RawPtr}
use denote.Ref.{MutRef, mut_vals, mut_Tells}
use denote.Signature.{plain}
use denote.Steps.{nothing, opens, closes, heard}
use denote.Triple.Walked.{says, Stays, stay_ref, stay_dropped, walk_of, ends_at, Goes-ref, Goes-dropped}
use Rattle.std_alloc.proofs.VecSteps.Shapes.{after}
use Rattle.std.proofs.raw_atomic.Walks.{proved}
use Rattle.cord_raw.specs.declared.block.TheConstants.{ROOM}
use Rattle.cord_raw.specs.declared.block.Block.{Block}
use Rattle.cord_raw.specs.inner.Loans.{with_newest}
use Rattle.cord_raw.specs.inner.Ownership.{block_owns}
use Rattle.cord_raw.specs.contracts.block.Block.{the_row as B}
use Rattle.cord_raw.specs.contracts.chain.Chain.{the_row as C}
use Rattle.cord_raw.proofs.Bytes.{take_set, Back, len_at, bytes_apart, bytes_back, rest, byte, byte_out, byte_back}
use Rattle.cord_raw.proofs.Words.{words, chain_val, packs, unpacks, lies, few_fit}
use Rattle.cord_raw.specs.contracts.chain.Chain.put as f
use Rattle.cord_raw.proofs.chain.Chain.put.Statement.{statement}
use Rattle.cord_raw.proofs.chain.Chain.put.Code as code

abbrev stayed : Stays f.ended.signature.params f.ended.kept
stayed = (stay_ref (0 ∷ []) tt (plain (λ _. C)), (stay_dropped (plain (λ _. u8)) yes, tt))

-- the block x with one more byte
abbrev with_byte : Block → ℕ → Block
with_byte x n = record { next = x.next; len = x.len + 1; bytes = set x.bytes x.len n }

pub put_spec : {M : Type 1} → statement M
put_spec 𝓤 𝓛 𝓜 𝓡 wired =
    let c = f.clauses 𝓛 𝓜.mem 𝓡.returns in let W = walk_of 𝓛 f.ended stayed c in let 𝓣 = tables 𝓤 𝓛.H 𝓜 𝓡 𝓡.env in let fn = code.function in
    proved 𝓛 f.ended stayed c 𝓜 𝓡 (Goes-ref 𝓛 1 0 tt (plain (λ _. C)), (Goes-dropped 𝓛 1 (plain (λ _. u8)) yes (λ κs x w. refl), tt))
    f.Key.name fn (code.unfolded 𝓤 𝓛.H 𝓜 𝓡 wired)
    (λ κs. (mut_vals, (uint_vals w8, tt))) (λ κs. (mut_Tells (named 0) κs.0 C, (uint_Tells w8, tt))) (λ κs qs bounds a g are.
    let κ = κs.0 in let q = qs.0 in let ab = a.0.ref_ptr.0 in let ao = a.0.ref_ptr.1 in let d = a.0.now in let n = a.1.0 in
    let vs = mut_vals a.0 in let x : Block = d.newest in
    let y : W.Ghost = ((κs, qs, bounds, a, (vs, (uint_vals w8 n, tt))), g) in
    qed 𝓛 (((‵ (flft κ q) ⊛ ‵ ftrue) ⊛ ‵ (owns (MutRef (named 0) κ C ∷ u8 ∷ []) a (vs, (uint_vals w8 n, tt))))
    ∷ raw (fact 𝓤 (x.len < ROOM)) ∷ []) ∵
    move ! (1 ∷ []) $ heard ! (x.len < ROOM) (λ low. split ! $ split ! $ move ! (2 ∷ []) $ fsplit ! $ keep ! (0 ∷ 2 ∷ []) $
    -- [self; the token]
    let new = with_newest d (with_byte x n) in let place : x.len < 2 ^ 64 = omega arith in let more : x.len + 1 < 2 ^ 64 = omega arith in
    enter ! _ _ _ _ _ $ alloc_all ! (λ l. pass_all ! refl ((tt, tt), ((tt, record { fits = are.1.0.1 }), tt)) $
    fsplit3 ! $ move ! (1 ∷ 2 ∷ 3 ∷ []) $ opens ! tt C ab ao (λ us.
    move ! (1 ∷ []) $ unpacks ! d us (λ word. fsplit ! $ move ! (1 ∷ []) $ lies ! d.last x (λ b o e.
    use1 𝓛 (‵ (len_at 𝓛 x.len b o) ⊛ ‵ (feq ℕ (length x.bytes) 128) ⊛ ‵ (row u8 full_share x.bytes b (o + 16)) ⊛ ‵
    (part_at RawPtr full_share x.next b (o + 0)) ⊛ raw (Back 𝓛 b o)) (bytes_apart 𝓛 x b o) $
    split ! $ move ! (1 ∷ []) $ split ! $ move ! (1 ∷ []) $ split ! $ move ! (1 ∷ []) $ split ! $ move ! (3 ∷ 2 ∷ 4 ∷ []) $ feq_l ! (λ all.
    let inside : x.len < length x.bytes = subst (λ (k : ℕ). x.len < k) (sym all) low in
    use1 𝓛 (‵ (byte 𝓛 x.bytes x.len n b (o + 16) (get_or x.bytes x.len 0)) ⊛ ‵ (rest 𝓛 x.bytes x.len n b (o + 16)))
    (byte_out 𝓛 x.bytes x.len n b (o + 16) inside) $ split ! $
    let Cell = λ (ws : List Val). ‵ (cell_at full_share C.mir ws ab ao) in
    rewrite ! 7 Cell word refl $ rewrite ! 7 (λ (p : Ptr). Cell (words d.first p d.count ∷ [])) e refl $
    -- [the byte; the other bytes; the length; the pointer; the way back; the right to free; the older ones; the chain's cell; the open
    -- borrow, in three entries; self's first part]
    first ! $ blocks ! $
    sets ! (of_opd ! (load ! (through ! refl (fld ! refl (hop ! (look_in ! 7 (sub ! 1 refl (whole !))) (fld ! refl (stop !)))))
    (look ! 2 refl))) refl (tt, record { fits = place }) $
    sets ! (addr ! (through ! refl (fld ! refl (hop ! (look_in ! 7 (sub ! 1 refl (whole !))) (fld ! refl (stop !)))))) refl (tt, tt) $
    sets ! (bin ! (get ! refl) (get ! refl) tt) refl (tt, tt) $
    assigns ! (of_opd ! (get ! refl)) (through ! refl (stop !)) (store ! 0 refl (tt, record { fits = are.1.0.1 })) $
    sets ! (bin ! (get ! refl) (lit ! tt) (record { fits = more })) refl (tt, record { fits = more }) $
    assigns_last ! (of_opd ! (get ! refl))
    (through ! refl (fld ! refl (hop ! (look_in ! 7 (sub ! 1 refl (whole !))) (fld ! refl (stop !)))))
    (store ! 2 refl (tt, record { fits = more })) $
    exec ! 𝓣.C 𝓣.Λ (env fn.locals l) (after 1 fn.body) (at_ret _ (W.post y)) $
    sets ! (of_opd ! (unit_lit !)) refl (tt, tt) $
    use2 𝓛 (‵ (row u8 full_share (set x.bytes x.len n) b (o + 16))) (byte_back 𝓛 x.bytes x.len n b (o + 16) inside) $
    feq_i ! ℕ (length (set x.bytes x.len n)) 128 (length-set x.bytes x.len n ∙ all) $ move ! (2 ∷ 0 ∷ 1 ∷ []) $ group ! 5 $
    use1 𝓛 (‵ (part_at B full_share (with_byte x n) b o)) (bytes_back 𝓛 (with_byte x n) b o) $ fjoin ! $
    rewrite ! 0 (λ (p : Ptr). ‵ (block_owns p (with_byte x n))) (sym e) refl $ move ! (1 ∷ 0 ∷ []) $ fjoin ! $ packs ! new
    (few_fit new) $ move ! (1 ∷ []) $
    rewrite ! 0 (λ (p : Ptr). Cell (words d.first p d.count ∷ [])) (sym e) refl $ closes ! tt C new (chain_val new ∷ []) ab ao $
    returns ! (look_at ! 0 refl) $ free_all ! refl $ move ! (3 ∷ []) $
    suffices ! _ (ends_at 𝓛 f.ended stayed c y vunit tt (new, (tt, tt)) (tt, (tt, tt))) $ says !
    (refl, refl, take_set x.bytes x.len n inside) $
    group ! 3 $ nothing ! $ nothing ! $ join ! $ move ! (1 ∷ 0 ∷ []) $ join ! $ nothing ! $ move !
    (2 ∷ 0 ∷ []) $ join ! $ frame ! $ frame ! $
    feq_i ! _ (vunit ∷ []) _ refl $ done !)))))))
