-- `newest` opens the chain, lends the block after its second pointer, and keeps what gives the chain back.
use Rattle.std.proofs.Common.{◌≡◌, ℕ, List, [], ◌∷◌, refl, sym, MutBor}
use seplogic.Ra.Ura.{Ura}
use mir.Syntax.{named}
use mir.Raw.{raw as bare}
use mir.Val.{Val, vptr}
use base.Fraction.{full_share}
use base.Logic.{ent, sep, id⊢}
use base.Fml.{Fml, GName, ftrue, flft, fsep}
use types.Logic.{Logic, sem}
use types.Kit.{at_ret, ‵, ◌⊛◌, some, later, ◌$◌, ◌∵◌, !, qed, move, keep, use1, drop, split, split3, join, pick, await, group, fsplit}
use types.Kit.{fsplit3, fjoin, fpack, rewrite, raw, suffices, frame, done}
use types.Part.{whole, sub, look_in}
use types.Run.{stop, hop, fld, of_opd, first, blocks, exec, returns, enter, addr}
use types.ByLocal.{alloc_all, pass_all, free_all, look_at, get, through, sets, sets_last, env}
use contract.Running.{tables}
use denote.Exit.{no}
use denote.Follow.{follows, Part, lends_Part}
use denote.Memory.{cell_at, part_at, part_of, mem, lone}
use denote.RawPtr.{Ptr, block_ptr}
use denote.Ref.{MutRef, mut_vals, mut_Tells}
use denote.RattleType.{owns}
use denote.Signature.{plain, mut_ref_to}
use denote.Steps.{nothing, opens}
use denote.Triple.Walked.{says, Stays, stay_dropped, walk_of, ends_at, Goes-spent_ref}
use Rattle.std_alloc.proofs.VecSteps.Shapes.{after}
use Rattle.std.proofs.raw_atomic.Walks.{proved}
use Rattle.cord_raw.specs.declared.block.Block.{Block}
use Rattle.cord_raw.specs.declared.chain.Chain.{Chain}
use Rattle.cord_raw.specs.inner.Loans.{with_newest}
use Rattle.cord_raw.specs.inner.Ownership.{frees, block_owns, links}
use Rattle.cord_raw.specs.contracts.block.Block.{the_row as B}
use Rattle.cord_raw.specs.contracts.chain.Chain.{the_row as C}
use Rattle.cord_raw.proofs.Words.{words, chain_val, packs, unpacks, lies, few_fit}
use Rattle.cord_raw.specs.contracts.chain.Chain.newest as f
use Rattle.cord_raw.proofs.chain.Chain.newest.Statement.{statement}
use Rattle.cord_raw.proofs.chain.Chain.newest.Code as code

module _ {M : Type 1} {𝓤 : Ura M} (𝓛 : Logic 𝓤) (at_b at_o : ℕ) (c : Chain) (b o : ℕ) where
  -- the chain at (at_b, at_o) without its newest block, while that is lent
  abbrev Kept : Fml
  Kept = fsep (fsep (frees (bare (lone B.mir)) (block_ptr b o)) (links c.first c.older))
      (cell_at full_share C.mir (words c.first (block_ptr b o) c.count ∷ []) at_b at_o)

  -- the chain with the block that came back
  returned : c.last ≡ block_ptr b o → (w : Block) → ent 𝓤 (sep 𝓤 (sem 𝓛 ((mem B).own_at w b o)) (sem 𝓛 Kept))
      (sem 𝓛 ((mem C).own_at (with_newest c w) at_b at_o))
  unfolding part_of
  returned e w =
      qed 𝓛 (‵ (part_at B full_share w b o) ∷ ‵ Kept ∷ []) ∵ move ! (1 ∷ []) $ fsplit ! $ fsplit ! $ move ! (3 ∷ 0 ∷ []) $ fjoin ! $
      rewrite ! 0 (λ (p : Ptr). ‵ (block_owns p w)) (sym e) refl $ move ! (1 ∷ 0 ∷ []) $ fjoin ! $ packs ! (with_newest c w)
      (few_fit c) $ move ! (1 ∷ []) $
      rewrite ! 0 (λ (p : Ptr). ‵ (cell_at full_share C.mir (words c.first p c.count ∷ []) at_b at_o)) (sym e) refl $ fjoin ! $
      fpack ! (List Val) (λ us. fsep (cell_at full_share C.mir us at_b at_o) (C.own_val (with_newest c w) us)) (chain_val c ∷ []) $ done !

abbrev stayed : Stays f.ended.signature.params f.ended.kept
stayed = (stay_dropped (mut_ref_to (0 ∷ []) tt (plain (λ _. C))) no, tt)

pub newest_spec : {M : Type 1} → statement M
newest_spec 𝓤 𝓛 𝓜 𝓡 wired =
    let c = f.clauses 𝓛 𝓜.mem 𝓡.returns in let W = walk_of 𝓛 f.ended stayed c in let 𝓣 = tables 𝓤 𝓛.H 𝓜 𝓡 𝓡.env in let fn = code.function in
    proved 𝓛 f.ended stayed c 𝓜 𝓡 (Goes-spent_ref 𝓛 1 (0 ∷ []) tt (plain (λ _. C)), tt)
    f.Key.name fn (code.unfolded 𝓤 𝓛.H 𝓜 𝓡 wired)
    (λ κs. (mut_vals, tt)) (λ κs. (mut_Tells (named 0) κs.0 C, tt)) (λ κs qs bounds a _ are.
    let κ = κs.0 in let q = qs.0 in let ab = a.0.ref_ptr.0 in let ao = a.0.ref_ptr.1 in let γ = a.0.ghost_name in let d = a.0.now in
    let y : W.Ghost = ((κs, qs, bounds, a, (vptr ab ao ∷ [], tt)), tt) in let Post = W.post y in
    qed 𝓛 (((‵ (flft κ q) ⊛ ‵ ftrue) ⊛ ‵ (owns (MutRef (named 0) κ C ∷ []) a (vptr ab ao ∷ [], tt))) ∷ raw ((c κs a).requires tt) ∷ []) ∵
    split ! $ move ! (1 ∷ []) $ fsplit ! $ fsplit3 ! $ drop ! $ move ! (3 ∷ []) $ split ! $
    enter ! _ _ _ _ _ $ alloc_all ! (λ l. pass_all ! refl ((tt, tt), tt) $
    move ! (2 ∷ 3 ∷ 0 ∷ []) $ opens ! tt C ab ao (λ us. move ! (1 ∷ []) $ unpacks ! d us
    (λ word. fsplit ! $ move ! (1 ∷ []) $ lies ! d.last d.newest (λ b o e.
    rewrite ! 3 (λ (ws : List Val). ‵ (cell_at full_share C.mir ws ab ao)) word refl $ rewrite ! 3
    (λ (p : Ptr). ‵ (cell_at full_share C.mir (words d.first p d.count ∷ []) ab ao)) e refl $
    -- [the newest block; the right to free it; the older ones; the chain's cell; the open borrow, in three entries; ..]
    first ! $ blocks ! $
    sets_last ! (addr ! (through ! refl (fld ! refl (hop ! (look_in ! 3 (sub ! 1 refl (whole !))) (stop !))))) refl (tt, tt) $
    exec ! 𝓣.C 𝓣.Λ (env fn.locals l) (after 1 fn.body) (at_ret _ Post) $
    sets ! (of_opd ! (get ! refl)) refl (tt, tt) $
    move ! (1 ∷ 2 ∷ []) $ fjoin ! $ move ! (0 ∷ 2 ∷ []) $ fjoin ! $ move ! (2 ∷ 3 ∷ 4 ∷ 1 ∷ 0 ∷ []) $ group ! 5 $
    use1 𝓛 (later (some (λ (γ' : GName). raw (Part 𝓛 C B (with_newest d) (named 0) κ q ab ao b o γ (sem 𝓛 (Kept 𝓛 ab ao d b o))
    (returned 𝓛 ab ao d b o e) d.newest γ'))))
    (lends_Part 𝓛 C B (with_newest d) (named 0) κ q ab ao b o γ (sem 𝓛 (Kept 𝓛 ab ao d b o)) (returned 𝓛 ab ao d b o e) (C.coded.code d)
    (C.coded.code d) d.newest) $ await ! tt $ pick ! (λ γ'.
    let loan : MutBor Block = record { ref_ptr = (b, o); ghost_name = γ'; now = d.newest } in
    use1 𝓛 (‵ ((MutRef (named 0) κ B).own_val loan (vptr b o ∷ [])) ⊛ ‵ (flft κ q) ⊛ ‵ (follows C B γ γ' (with_newest d)))
    (id⊢ 𝓤 _) $ split3 ! $
    returns ! (look_at ! 0 refl) $ free_all ! refl $
    -- [the loan; the token; what gives the chain back; the other tokens]
    keep ! (0 ∷ 1 ∷ 2 ∷ 3 ∷ []) $ suffices ! _ (ends_at 𝓛 f.ended stayed c y (vptr b o) loan (tt, tt) (tt, tt)) $
    nothing ! $ nothing ! $ fjoin ! $ join ! $ move ! (1 ∷ 3 ∷ 0 ∷ []) $ join ! $ join ! $ frame ! $ says ! refl $ done !))))))
