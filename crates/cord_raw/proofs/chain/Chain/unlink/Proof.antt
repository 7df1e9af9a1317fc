-- `unlink` reads the pointer of the first block, and gives what it leads to away.
use Rattle.std.proofs.Common.{◌≡◌, ◌-◌, ◌≤◌, ◌<◌, List, [], ◌∷◌, length, refl, sym, ap, ◌∙◌, arith}
use lib.Dec.{lit<}
use mir.Syntax.{named}
use mir.Val.{Val}
use base.Fraction.{full_share}
use base.Fml.{ftrue, flft}
use types.Kit.{at_ret, ‵, raw, ◌⊛◌, ◌$◌, ◌∵◌, !, qed, done, move, keep, use1, use2, split, join, fsplit, fsplit3, fjoin, rewrite, suffices}
use types.Kit.{frame, group}
use types.Part.{agg, whole, sub, look_in, store_in}
use types.Run.{enter, of_opd, bin, lit, and_then, no_more, load, look, stop, fld, hop, assigns, first, blocks, exec, returns}
use types.ByLocal.{alloc_all, pass_all, free_all, look_at, get, through, sets, sets_last, env}
use contract.Monad.{fact}
use contract.Running.{tables}
use denote.Memory.{cell_at, part_at}
use denote.RattleType.{owns}
use denote.RawPtr.{Ptr}
use denote.Ref.{MutRef, mut_vals, mut_Tells}
use denote.Signature.{plain}
use denote.Steps.{nothing, opens, closes, heard}
use denote.Triple.Walked.{says, Stays, stay_ref, walk_of, ends_at, Goes-ref}
use Rattle.std_alloc.proofs.RcSteps.{Ptr-Good}
use Rattle.std_alloc.proofs.VecSteps.Shapes.{after}
use Rattle.std.proofs.raw_atomic.Walks.{proved}
use Rattle.cord_raw.specs.declared.block.Block.{Block}
use Rattle.cord_raw.specs.declared.chain.Chain.{Chain}
use Rattle.cord_raw.specs.inner.Blocks.{place_after}
use Rattle.cord_raw.specs.inner.Ownership.{block_owns, links}
use Rattle.cord_raw.specs.contracts.block.Block.{the_row as B}
use Rattle.cord_raw.specs.contracts.chain.Chain.{the_row as C}
use Rattle.cord_raw.proofs.Fields.{pointer, Rest, pointer_apart, pointer_back}
use Rattle.cord_raw.proofs.Links.{uncons}
use Rattle.cord_raw.proofs.Words.{words, chain_val, chain_typed, packs, unpacks, lies, few_fit}
use Rattle.cord_raw.specs.contracts.chain.Chain.unlink as f
use Rattle.cord_raw.proofs.chain.Chain.unlink.Statement.{statement}
use Rattle.cord_raw.proofs.chain.Chain.unlink.Code as code

abbrev stayed : Stays f.ended.signature.params f.ended.kept
stayed = (stay_ref (0 ∷ []) tt (plain (λ _. C)), tt)

-- the first block of a chain alone
abbrev prefix : Chain → Block → Chain
prefix d x = record { first = d.first; last = d.first; count = 1; older = []; newest = x; leads = refl; counted = refl; few = lit< tt }

-- and the others
abbrev rest : (d : Chain) (x : Block) (xs : List Block) → d.older ≡ x ∷ xs → Chain
rest d x xs e = record {
  first = x.next;
  last = d.last;
  count = d.count - 1;
  older = xs;
  newest = d.newest;
  leads = d.leads ∙ ap (place_after d.first) e;
  counted = let many = ap length e in let here = d.counted in omega arith;
  few = let few = d.few in omega arith;
}

pub unlink_spec : {M : Type 1} → statement M
unlink_spec 𝓤 𝓛 𝓜 𝓡 wired =
    let c = f.clauses 𝓛 𝓜.mem 𝓡.returns in let W = walk_of 𝓛 f.ended stayed c in let 𝓣 = tables 𝓤 𝓛.H 𝓜 𝓡 𝓡.env in let fn = code.function in
    proved 𝓛 f.ended stayed c 𝓜 𝓡 (Goes-ref 𝓛 1 0 tt (plain (λ _. C)), tt)
    f.Key.name fn (code.unfolded 𝓤 𝓛.H 𝓜 𝓡 wired)
    (λ κs. (mut_vals, tt)) (λ κs. (mut_Tells (named 0) κs.0 C, tt)) (λ κs qs bounds a g are.
    let κ = κs.0 in let q = qs.0 in let ab = a.0.ref_ptr.0 in let ao = a.0.ref_ptr.1 in let d = a.0.now in let vs = mut_vals a.0 in
    let y : W.Ghost = ((κs, qs, bounds, a, (vs, tt)), g) in
    qed 𝓛 (((‵ (flft κ q) ⊛ ‵ ftrue) ⊛ ‵ (owns (MutRef (named 0) κ C ∷ []) a (vs, tt))) ∷ raw (fact 𝓤 (0 < length d.older)) ∷ []) ∵
    move ! (1 ∷ []) $ heard ! (0 < length d.older) (λ more. split ! $ split ! $ move ! (2 ∷ []) $ fsplit ! $ keep ! (0 ∷ 2 ∷ []) $
    -- [self; the token]
    let parts = uncons d.older more in let x = parts.0 in let xs = parts.1 in let e' = parts.2 in let given = rest d x xs e' in
    let kept = prefix d x in
    let counted = d.counted in let least : 1 ≤ d.count = omega arith in
    enter ! _ _ _ _ _ $ alloc_all ! (λ l. pass_all ! refl ((tt, tt), tt) $
    fsplit3 ! $ move ! (1 ∷ 2 ∷ 3 ∷ []) $ opens ! tt C ab ao (λ us. move ! (1 ∷ []) $ unpacks ! d us (λ word. fsplit ! $
    rewrite ! 0 (λ (bs : List Block). ‵ (links d.first bs)) e' refl $ fsplit ! $ lies ! d.first x (λ b o e.
    use1 𝓛 (‵ (pointer 𝓛 x.next b o) ⊛ raw (Rest 𝓛 x b o)) (pointer_apart 𝓛 x b o) $ split ! $
    let Cell = λ (ws : List Val). ‵ (cell_at full_share C.mir ws ab ao) in
    rewrite ! 5 Cell word refl $ rewrite ! 5 (λ (p : Ptr). Cell (words p d.last d.count ∷ [])) e refl $
    -- [its pointer; the rest of the block; the right to free it; the blocks between; the newest; the chain's cell; the open borrow, in
    -- three entries; self's first part]
    first ! $ blocks ! $
    sets_last ! (of_opd ! (load ! (through ! refl (fld ! refl (hop ! (look_in ! 5 (sub ! 0 refl (whole !))) (fld ! refl (stop !)))))
    (look ! 0 refl))) refl (Ptr-Good x.next) $
    exec ! 𝓣.C 𝓣.Λ (env fn.locals l) (after 1 fn.body) (at_ret _ (W.post y)) $
    sets ! (of_opd ! (get ! refl)) refl (Ptr-Good x.next) $
    sets ! (of_opd ! (load ! (through ! refl (fld ! refl (stop !))) (look_in ! 5 (sub ! 1 refl (whole !))))) refl (Ptr-Good d.last) $
    sets ! (of_opd ! (load ! (through ! refl (fld ! refl (stop !))) (look_in ! 5 (sub ! 2 refl (whole !))))) refl
    (tt, record { fits = few_fit d }) $
    sets ! (bin ! (get ! refl) (lit ! tt) least) refl (tt, record { fits = few_fit given }) $
    sets ! (agg ! (and_then ! (get ! refl) (and_then ! (get ! refl) (and_then ! (get ! refl) (no_more !))))) refl
    (chain_typed 𝓛 given (few_fit given)) $
    sets ! (of_opd ! (load ! (through ! refl (fld ! refl (stop !))) (look_in ! 5 (sub ! 0 refl (whole !))))) refl (tt, tt) $
    assigns ! (of_opd ! (get ! refl)) (through ! refl (fld ! refl (stop !))) (store_in ! 5 (sub ! 1 refl (whole !)) (tt, tt)) $
    assigns ! (of_opd ! (lit ! tt)) (through ! refl (fld ! refl (stop !)))
    (store_in ! 5 (sub ! 2 refl (whole !)) (tt, record { fits = lit< tt })) $
    sets ! (of_opd ! (get ! refl)) refl (chain_typed 𝓛 given (few_fit given)) $
    use2 𝓛 (‵ (part_at B full_share x b o)) (pointer_back 𝓛 x x.next b o) $ fjoin ! $
    rewrite ! 0 (λ (p : Ptr). ‵ (block_owns p x)) (sym e) refl $ nothing ! $ fjoin ! $ packs ! kept (few_fit kept) $
    move ! (1 ∷ 2 ∷ []) $ fjoin ! $ packs ! given (few_fit given) $ move ! (2 ∷ []) $
    rewrite ! 0 (λ (p : Ptr). Cell (words p p 1 ∷ [])) (sym e) refl $ move ! (0 ∷ 2 ∷ 3 ∷ 4 ∷ 5 ∷ []) $ closes ! tt C kept
    (chain_val kept ∷ []) ab ao $
    -- [two parts of self; the token; the other blocks; self's first part]
    returns ! (look_at ! 0 refl) $ free_all ! refl $ move ! (4 ∷ 0 ∷ 1 ∷ 2 ∷ []) $
    suffices ! _ (ends_at 𝓛 f.ended stayed c y (chain_val given) given (kept, tt) (tt, tt)) $ says ! (e', refl, refl) $
    group ! 3 $ nothing ! $ move ! (1 ∷ 0 ∷ []) $ join ! $ nothing ! $ move ! (2 ∷ 0 ∷ []) $ join ! $ frame ! $ frame ! $ done !))))))
