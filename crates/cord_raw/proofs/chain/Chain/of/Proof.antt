-- `of` keeps the pointer and the allocator of one block's owner.
use Rattle.std.proofs.Common.{[], ◌∷◌, refl}
use lib.Dec.{lit<}
use base.Fml.{ftrue}
use Rattle.cord_raw.specs.declared.chain.Chain.{Chain}
use types.Kit.{‵, ◌⊛◌, ◌$◌, ◌∵◌, !, qed, done, keep, drop, split, join, fsplit, fjoin, suffices}
use types.Run.{stop, fld, of_opd, lit, no_more, and_then, returns, enter}
use types.ByLocal.{alloc_all, pass_all, free_all, look_at, get, get_in, sets}
use types.Part.{agg, sub, whole}
use contract.Running.{tables}
use denote.Exit.{yes}
use denote.Signature.{plain}
use denote.Steps.{nothing}
use denote.Triple.Walked.{Stays, stay_dropped, walk_of, ends_at, says}
use Rattle.core.proofs.alloc.Calls.{Goes-blank}
use Rattle.std_alloc.proofs.RcSteps.{Ptr-Good}
use Rattle.std.proofs.raw_atomic.Walks.{proved}
use Rattle.std.specs.contracts.impls.GlobalAllocator.TheImpl.{ghosts}
use Rattle.std.specs.contracts.alloc.Global as heap
use Rattle.std.proofs.alloc.Global.TheLaws as heap_laws
use Rattle.cord_raw.specs.contracts.block.Block as block
use Rattle.cord_raw.proofs.block.Block.TheLaws as block_laws
use Rattle.cord_raw.proofs.raw.Raw.TheLaws as raw_laws
use Rattle.cord_raw.proofs.Words.{Owner, owner_val, owner_typed, chain_val, chain_typed, packs}
use Rattle.cord_raw.specs.contracts.chain.Chain.of as f
use Rattle.cord_raw.proofs.chain.Chain.of.Statement.{statement}
use Rattle.cord_raw.proofs.chain.Chain.of.Code as code

abbrev stayed : Stays f.ended.signature.params f.ended.kept
stayed = (stay_dropped (plain (λ _. Owner)) yes, tt)

pub of_spec : {M : Type 1} → statement M
of_spec 𝓤 𝓛 𝓜 𝓡 wired =
    let c = f.clauses 𝓛 𝓜.mem 𝓡.returns in let W = walk_of 𝓛 f.ended stayed c in let 𝓣 = tables 𝓤 𝓛.H 𝓜 𝓡 𝓡.env in
    proved 𝓛 f.ended stayed c 𝓜 𝓡 (Goes-blank 𝓛 0 (plain (λ _. Owner)) yes (λ κs x w. tt), tt)
    f.Key.name code.function (code.unfolded 𝓤 𝓛.H 𝓜 𝓡 wired)
    (λ κs. ((λ r. owner_val r ∷ []), tt))
    (λ κs. (
      (raw_laws.lowers block.the_row heap.the_row ghosts block_laws.the_row_laws heap_laws.the_row_laws
          heap_laws.the_told).val_is,
      tt,
    )) (λ κs qs bounds a g are.
    let r = a.0 in let y : W.Ghost = ((κs, qs, bounds, a, (owner_val r ∷ [], tt)), g) in
    let made : Chain =
    record { first = r.at; last = r.at; count = 1; older = []; newest = r.value; leads = refl; counted = refl; few = lit< tt } in
    qed 𝓛 ((‵ ftrue ⊛ ‵ (Owner.own_val r (owner_val r ∷ [])) ⊛ ‵ ftrue) ∷ ‵ ftrue ∷ []) ∵ split ! $ drop ! $ split ! $ fsplit ! $ keep !
    (1 ∷ []) $
    -- [the block]
    enter ! _ _ _ _ _ $ alloc_all ! (λ l. pass_all ! refl (owner_typed 𝓛 r, tt) $
    sets ! (of_opd ! (get_in ! (fld ! refl (stop !)) (sub ! 0 refl (whole !)))) refl (Ptr-Good r.at) $
    sets ! (agg ! (and_then ! (get ! refl) (and_then ! (get ! refl) (and_then ! (lit ! tt) (no_more !))))) refl
    (chain_typed 𝓛 made (lit< tt)) $
    nothing ! $ fjoin ! $ packs ! made (lit< tt) $
    returns ! (look_at ! 0 refl) $ free_all ! refl $
    suffices ! _ (ends_at 𝓛 f.ended stayed c y (chain_val made) made (tt, tt) (tt, tt)) $ says ! (refl, refl) $
    nothing ! $ nothing ! $ join ! $ nothing ! $ done !))
