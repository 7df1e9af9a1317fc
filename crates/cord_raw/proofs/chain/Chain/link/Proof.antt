-- `link` writes the pointer of the newest block, and takes over the other chain's blocks.
use Rattle.std.proofs.Common.{◌+◌, ◌≤◌, List, [], ◌∷◌, ◌++◌, length, refl, sym, ◌∙◌, arith, length-append}
use mir.Syntax.{named}
use mir.Val.{Val, vunit}
use base.Fraction.{full_share}
use base.Fml.{ftrue, flft}
use types.Kit.{at_ret, ‵, raw, ◌⊛◌, ◌$◌, ◌∵◌, !, qed, done, move, keep, use1, use2, split, join, fsplit, fsplit3, fjoin, feq_i, rewrite}
use types.Kit.{suffices, frame, group}
use types.Part.{whole, sub, look_in, store_in}
use types.Run.{enter, of_opd, unit_lit, bin, load, store, stop, fld, hop, assigns, assigns_last, first, blocks, exec, returns}
use types.ByLocal.{alloc_all, pass_all, free_all, look_at, get, get_in, through, sets, env}
use contract.Monad.{fact}
use contract.Running.{tables}
use denote.Exit.{yes}
use denote.Memory.{cell_at, part_at}
use denote.RattleType.{owns}
use denote.RawPtr.{Ptr}
use denote.Ref.{MutRef, mut_vals, mut_Tells}
use denote.Signature.{plain}
use denote.Steps.{nothing, opens, closes, heard}
use denote.Triple.Walked.{says, Stays, stay_ref, stay_dropped, walk_of, ends_at, Goes-ref}
use Rattle.core.proofs.alloc.Calls.{Goes-blank}
use Rattle.std_alloc.proofs.RcSteps.{Ptr-Good}
use Rattle.std_alloc.proofs.VecSteps.Shapes.{after}
use Rattle.std.proofs.raw_atomic.Walks.{proved}
use Rattle.cord_raw.specs.declared.block.TheConstants.{MOST_BLOCKS}
use Rattle.cord_raw.specs.declared.chain.Chain.{Chain}
use Rattle.cord_raw.specs.inner.Blocks.{pointing}
use Rattle.cord_raw.specs.inner.Ownership.{block_owns, links}
use Rattle.cord_raw.specs.contracts.block.Block.{the_row as B}
use Rattle.cord_raw.specs.contracts.chain.Chain.{the_row as C}
use Rattle.cord_raw.proofs.chain.Chain.TheLaws as chain_laws
use Rattle.cord_raw.proofs.Fields.{pointer, Rest, pointer_apart, pointer_back}
use Rattle.cord_raw.proofs.Links.{place_append, links_append}
use Rattle.cord_raw.proofs.Words.{words, chain_val, chain_typed, packs, unpacks, lies, few_fit}
use Rattle.cord_raw.specs.contracts.chain.Chain.link as f
use Rattle.cord_raw.proofs.chain.Chain.link.Statement.{statement}
use Rattle.cord_raw.proofs.chain.Chain.link.Code as code

abbrev stayed : Stays f.ended.signature.params f.ended.kept
stayed = (stay_ref (0 ∷ []) tt (plain (λ _. C)), (stay_dropped (plain (λ _. C)) yes, tt))

-- the chain d with the blocks of e after its newest
abbrev linked : (d e : Chain) → length d.older + length e.older + 2 ≤ MOST_BLOCKS → Chain
linked d e few = record {
  first = d.first;
  last = e.last;
  count = d.count + e.count;
  older = d.older ++ pointing d.newest e.first ∷ e.older;
  newest = e.newest;
  leads = e.leads ∙ sym (place_append d.first d.older (pointing d.newest e.first ∷ e.older));
  counted = let many = length-append d.older (pointing d.newest e.first ∷ e.older) in let here = d.counted in
      let there = e.counted in omega arith;
  few = let here = d.counted in let there = e.counted in omega arith;
}

pub link_spec : {M : Type 1} → statement M
link_spec 𝓤 𝓛 𝓜 𝓡 wired =
    let c = f.clauses 𝓛 𝓜.mem 𝓡.returns in let W = walk_of 𝓛 f.ended stayed c in let 𝓣 = tables 𝓤 𝓛.H 𝓜 𝓡 𝓡.env in let fn = code.function in
    proved 𝓛 f.ended stayed c 𝓜 𝓡 (Goes-ref 𝓛 1 0 tt (plain (λ _. C)), (Goes-blank 𝓛 1 (plain (λ _. C)) yes (λ κs x w. tt), tt))
    f.Key.name fn (code.unfolded 𝓤 𝓛.H 𝓜 𝓡 wired)
    (λ κs. (mut_vals, ((λ d. chain_val d ∷ []), tt))) (λ κs. (mut_Tells (named 0) κs.0 C, (chain_laws.lowers.val_is, tt)))
    (λ κs qs bounds a g are.
    let κ = κs.0 in let q = qs.0 in let ab = a.0.ref_ptr.0 in let ao = a.0.ref_ptr.1 in let d = a.0.now in let other = a.1.0 in
    let vs = mut_vals a.0 in
    let y : W.Ghost = ((κs, qs, bounds, a, (vs, (chain_val other ∷ [], tt))), g) in
    qed 𝓛 (((‵ (flft κ q) ⊛ ‵ ftrue) ⊛ ‵ (owns (MutRef (named 0) κ C ∷ C ∷ []) a (vs, (chain_val other ∷ [], tt))))
    ∷ raw (fact 𝓤 (length d.older + length other.older + 2 ≤ MOST_BLOCKS)) ∷ []) ∵
    move ! (1 ∷ []) $ heard ! (length d.older + length other.older + 2 ≤ MOST_BLOCKS)
    (λ few. split ! $ split ! $ move ! (2 ∷ []) $ fsplit ! $ move ! (1 ∷ []) $ fsplit ! $ keep ! (2 ∷ 3 ∷ 0 ∷ []) $
    -- [self; the token; the other chain]
    let new = linked d other few in
    enter ! _ _ _ _ _ $ alloc_all ! (λ l. pass_all ! refl ((tt, tt), (chain_typed 𝓛 other (few_fit other), tt)) $
    fsplit3 ! $ move ! (1 ∷ 2 ∷ 3 ∷ []) $ opens ! tt C ab ao (λ us.
    move ! (1 ∷ []) $ unpacks ! d us (λ word. fsplit ! $ move ! (1 ∷ []) $ lies ! d.last d.newest (λ b o e.
    use1 𝓛 (‵ (pointer 𝓛 d.newest.next b o) ⊛ raw (Rest 𝓛 d.newest b o)) (pointer_apart 𝓛 d.newest b o) $ split ! $
    let Cell = λ (ws : List Val). ‵ (cell_at full_share C.mir ws ab ao) in
    rewrite ! 4 Cell word refl $ rewrite ! 4 (λ (p : Ptr). Cell (words d.first p d.count ∷ [])) e refl $
    -- [its pointer; the rest of the block; the right to free it; the older ones; the chain's cell; the open borrow, in three entries;
    -- self's first part; the other chain]
    sets ! (of_opd ! (get_in ! (fld ! refl (stop !)) (sub ! 0 refl (whole !)))) refl (Ptr-Good other.first) $
    sets ! (of_opd ! (get_in ! (fld ! refl (stop !)) (sub ! 1 refl (whole !)))) refl (Ptr-Good other.last) $
    sets ! (of_opd ! (get_in ! (fld ! refl (stop !)) (sub ! 2 refl (whole !)))) refl (tt, record { fits = few_fit other }) $
    first ! $ blocks ! $
    assigns_last ! (of_opd ! (get ! refl))
    (through ! refl (fld ! refl (hop ! (look_in ! 4 (sub ! 1 refl (whole !))) (fld ! refl (stop !)))))
    (store ! 0 refl (Ptr-Good other.first)) $
    exec ! 𝓣.C 𝓣.Λ (env fn.locals l) (after 4 fn.body) (at_ret _ (W.post y)) $
    assigns ! (of_opd ! (get ! refl)) (through ! refl (fld ! refl (stop !))) (store_in ! 4 (sub ! 1 refl (whole !)) (Ptr-Good other.last)) $
    sets ! (of_opd ! (load ! (through ! refl (fld ! refl (stop !))) (look_in ! 4 (sub ! 2 refl (whole !))))) refl
    (tt, record { fits = few_fit d }) $
    sets ! (bin ! (get ! refl) (get ! refl) (record { fits = few_fit new })) refl (tt, record { fits = few_fit new }) $
    assigns ! (of_opd ! (get ! refl)) (through ! refl (fld ! refl (stop !)))
    (store_in ! 4 (sub ! 2 refl (whole !)) (tt, record { fits = few_fit new })) $
    sets ! (of_opd ! (unit_lit !)) refl (tt, tt) $
    use2 𝓛 (‵ (part_at B full_share (pointing d.newest other.first) b o)) (pointer_back 𝓛 d.newest other.first b o) $ fjoin ! $
    rewrite ! 0 (λ (p : Ptr). ‵ (block_owns p (pointing d.newest other.first))) (sym e ∙ d.leads) refl $
    move ! (7 ∷ []) $ unpacks ! other (chain_val other ∷ []) (λ _. fsplit ! $
    -- [the other chain's older blocks; its newest; the block that leads to them; the older ones; the chain's cell; the open borrow, in
    -- three entries; self's first part]
    move ! (2 ∷ 0 ∷ []) $ fjoin ! $ move ! (2 ∷ 0 ∷ []) $ use2 𝓛 (‵ (links d.first new.older))
    (links_append 𝓛 d.first d.older (pointing d.newest other.first ∷ other.older)) $
    fjoin ! $ packs ! new (few_fit new) $ move ! (1 ∷ 0 ∷ []) $ closes ! tt C new (chain_val new ∷ []) ab ao $
    returns ! (look_at ! 0 refl) $ free_all ! refl $ move ! (3 ∷ []) $
    suffices ! _ (ends_at 𝓛 f.ended stayed c y vunit tt (new, (tt, tt)) (tt, (tt, tt))) $ says ! (refl, refl) $
    group ! 3 $ nothing ! $ nothing ! $ join ! $ move ! (1 ∷ 0 ∷ []) $ join ! $ nothing ! $ move !
    (2 ∷ 0 ∷ []) $ join ! $ frame ! $ frame ! $
    feq_i ! _ (vunit ∷ []) _ refl $ done !)))))))
