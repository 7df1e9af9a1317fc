-- How a block is freed: `Box::from_raw` makes a box of its pointer, and the box is let go. What each call asks and gives.
use Rattle.std.proofs.Common.{◌≡◌, ℕ, List, [], ◌∷◌, refl, sym, ap, subst}
use seplogic.Ra.Ura.{Ura}
use mir.Syntax.{Symbol, Dict, impl, tcons, tnil, dnil}
use mir.Raw.{raw as bare}
use mir.Val.{Val, vunit, vptr}
use base.Fraction.{full_share}
use base.Logic.{SProp, ent, sep, ex, guard, emp, id⊢}
use base.Fml.{Lft, ftrue, flft}
use contract.BorrowLft.{◌⊑◌, ⊑_static}
use contract.Monad.{Fun, fact, fact_i}
use prog.Memory.{Memory}
use prog.Routine.{Routine}
use types.Logic.{Logic, sem}
use types.Kit.{Item, mean, ‵, raw, ◌⊛◌, some, given, later, ◌$◌, ◌∵◌, !, qed, done, move, drop, use0, use1, split, join, fjoin, feq_i}
use types.Kit.{feq_l, pick, await, updating, now as at_once, check, show, rewrite}
use denote.Builtin.{unit}
use denote.Exit.{no}
use denote.Param.{layout, arg}
use denote.Param.Laws.{Laws, arg_laws}
use denote.RattleType.{RattleType}
use denote.RawPtr.{block_ptr}
use denote.Shadow.{pure_i}
use denote.Steps.{nothing, only}
use denote.Triple.Clauses.{Ended, Lasts, lasts}
use denote.Triple.Spec.{triple_of}
use denote.Triple.Statement.{Contract}
use Rattle.core.proofs.cell.Inside.{Good}
use Rattle.std_alloc.proofs.BoxSteps.Form as box
use Rattle.std_alloc.proofs.BoxSteps.Steps.{box_out, box_in}
use Rattle.std_alloc.specs.contracts.boxed.Box.drop as let_go
use Rattle.std_alloc.specs.contracts.boxed.Box.from_raw as from_raw
use Rattle.std.specs.contracts.alloc.Global as heap
use Rattle.std.proofs.alloc.Global.TheLaws as heap_laws
use Rattle.std.specs.contracts.impls.GlobalAllocator.TheImpl.{ghosts, dict}
use Rattle.cord_raw.specs.declared.block.Block.{Block}
use Rattle.cord_raw.specs.inner.Ownership.{the_heap, block_owns}
use Rattle.cord_raw.specs.contracts.block.Block as block
use Rattle.cord_raw.proofs.block.Block.TheLaws as block_laws
use Rattle.cord_raw.proofs.Words.{handle_val, handle_is, handle_plain}

-- a block and the heap's handle, as a call passes their types
abbrev pub B : RattleType
B = arg (bare (layout block.the_row)) no block.the_row

abbrev pub A : RattleType
A = arg (bare (layout heap.the_row)) no heap.the_row

pub B_laws : Laws B
B_laws = arg_laws (bare (layout block.the_row)) no block.the_row block_laws.the_row_laws refl

pub A_laws : Laws A
A_laws = arg_laws (bare (layout heap.the_row)) no heap.the_row heap_laws.the_row_laws refl

-- the method that lets a value go that needs no drop, and what a call passes of it for a type
abbrev pub bare_drop : Symbol
bare_drop = "cord_raw::Destruct++none::drop"

abbrev pub goes : RattleType → Dict
goes R = impl (bare_drop ∷ []) (tcons (layout R) tnil) dnil

abbrev form : box.Bx
form = record { row = B; laws = B_laws; al = record { row = A; laws = A_laws; g = ghosts; d = dict; drops = goes A } }

abbrev pub Boxed : RattleType
Boxed = box.B form

abbrev Ended_makes : Ended
Ended_makes = from_raw.ended B A ghosts dict (goes A)

abbrev Ended_frees : Ended
Ended_frees = let_go.ended B A ghosts dict (goes B) (goes A)

-- two lifetimes that last as long as the calls, one for each type
abbrev pub tokens : {M : Type 1} {𝓤 : Ura M} → ℕ → ℕ → Item 𝓤
tokens α β = ‵ (flft (α ∷ []) full_share) ⊛ ‵ (flft (β ∷ []) full_share) ⊛ ‵ ftrue

module _ {M : Type 1} {𝓤 : Ura M} (𝓛 : Logic 𝓤) (at_mem : Memory → SProp 𝓤) (run : Routine → Fun 𝓤) (α β : ℕ) where
  open 𝓛 use {H}

  -- the contracts of the two calls
  abbrev pub Makes : Contract 𝓤
  Makes = triple_of 𝓛 (from_raw.signature B A ghosts dict (goes A)) (from_raw.spec B A ghosts dict (goes A) 𝓛 at_mem run)

  abbrev pub Frees : Contract 𝓤
  Frees = triple_of 𝓛 (let_go.signature B A ghosts dict (goes B) (goes A)) (let_go.spec B A ghosts dict (goes B) (goes A) 𝓛 at_mem run)

  abbrev κs : Lft × (Lft × Unit {0})
  κs = (α ∷ [], (β ∷ [], tt))

  abbrev pub at_makes : Block → ℕ → ℕ → Makes.Ghost
  at_makes x b o = ((κs, (full_share, (full_share, tt)), tt, (the_heap, (block_ptr b o, tt)), (handle_val ∷ [], (vptr b o ∷ [], tt))), x)

  abbrev pub at_frees : Boxed.Denot → Val → Frees.Ghost
  at_frees d u = ((κs, (full_share, (full_share, tt)), tt, (d, tt), (u ∷ [], tt)), tt)

  pub makes_asks : (x : Block) (b o : ℕ) → ent 𝓤 (sep 𝓤 (sem 𝓛 (block_owns (block_ptr b o) x)) (mean 𝓛 (tokens α β)))
      (Makes.pre (at_makes x b o))
  makes_asks x b o =
      qed 𝓛 (‵ (block_owns (block_ptr b o) x) ∷ tokens α β ∷ []) ∵
      use0 𝓛 (raw (fact 𝓤 (β ∷ [] ⊑ A.lives))) (fact_i 𝓤 (β ∷ [] ⊑ A.lives) (emp 𝓤) (⊑_static (β ∷ []))) $ join ! $
      use0 𝓛 (raw (fact 𝓤 (α ∷ [] ⊑ B.lives))) (fact_i 𝓤 (α ∷ [] ⊑ B.lives) (emp 𝓤) (⊑_static (α ∷ []))) $ join ! $
      nothing ! $ feq_i ! (List Val) (vptr b o ∷ []) (vptr b o ∷ []) refl $ fjoin ! $
      pure_i ! (A.own_val the_heap (handle_val ∷ [])) (handle_plain the_heap) (handle_is the_heap) $ fjoin ! $
      move ! (2 ∷ 0 ∷ []) $ join ! $ join ! $ done !

  abbrev Made : Val → Boxed.Denot → Item 𝓤
  Made u d = given (Good (layout Boxed) u) (‵ (Boxed.own_val d (u ∷ [])) ⊛ tokens α β)

  pub makes_gives : (x : Block) (b o : ℕ) (u : Val) → ent 𝓤 (Makes.post (at_makes x b o) u)
      (H.⇛ (ex 𝓤 (λ (d : Boxed.Denot). mean 𝓛 (Made u d))))
  makes_gives x b o u =
      qed 𝓛 (raw (Makes.post (at_makes x b o) u) ∷ []) ∵ updating ! $
      use1 𝓛 (later (some (λ (d : Boxed.Denot). (tokens α β ⊛ ‵ (Boxed.own_val d (u ∷ []))) ⊛ some
      (λ (ws : Lasts Ended_makes κs (at_makes x b o).0.3).
      ‵ (lasts Ended_makes κs (at_makes x b o).0.3 ws) ⊛ raw (fact 𝓤 (d.value ≡ x)) ⊛ raw (fact 𝓤 (d.alloc ≡ the_heap)))))) (id⊢ 𝓤 _) $
      await ! tt $ pick ! (λ d. split ! $ move ! (1 ∷ []) $ drop ! $ split ! $ move ! (1 ∷ []) $
      box_out form ! d (u ∷ []) (λ b' o' h e spelled fits. box_in form ! d b' o' d.value e refl $
      rewrite ! 0 (λ (us : List Val). ‵ (Boxed.own_val d us)) (sym spelled) refl $
      at_once ! $ show ! (λ (d' : Boxed.Denot). mean 𝓛 (Made u d')) d $ check !
      (subst (Good (layout Boxed)) (sym (ap only spelled)) (box.box_typed form h b' o' fits)) $ done !))

  pub frees_asks : (d : Boxed.Denot) (u : Val) → ent 𝓤 (sep 𝓤 (sem 𝓛 (Boxed.own_val d (u ∷ []))) (mean 𝓛 (tokens α β)))
      (Frees.pre (at_frees d u))
  frees_asks d u =
      qed 𝓛 (‵ (Boxed.own_val d (u ∷ [])) ∷ tokens α β ∷ []) ∵
      nothing ! $ move ! (1 ∷ 0 ∷ []) $ fjoin ! $ nothing ! $
      use0 𝓛 (raw (fact 𝓤 (β ∷ [] ⊑ A.lives))) (fact_i 𝓤 (β ∷ [] ⊑ A.lives) (emp 𝓤) (⊑_static (β ∷ []))) $ join ! $
      use0 𝓛 (raw (fact 𝓤 (α ∷ [] ⊑ B.lives))) (fact_i 𝓤 (α ∷ [] ⊑ B.lives) (emp 𝓤) (⊑_static (α ∷ []))) $ join ! $
      move ! (2 ∷ 1 ∷ []) $ join ! $ join ! $ done !

  pub frees_gives : (d : Boxed.Denot) (u v : Val) → ent 𝓤 (Frees.post (at_frees d u) v) (H.⇛ (guard 𝓤 (v ≡ vunit) (mean 𝓛 (tokens α β))))
  frees_gives d u v =
      qed 𝓛 (raw (Frees.post (at_frees d u) v) ∷ []) ∵ updating ! $
      use1 𝓛 (later (some (λ (r : Unit {0}). (tokens α β ⊛ ‵ (unit.own_val r (v ∷ []))) ⊛ some
      (λ (ws : Lasts Ended_frees κs (at_frees d u).0.3). ‵ (lasts Ended_frees κs (at_frees d u).0.3 ws) ⊛ ‵ ftrue)))) (id⊢ 𝓤 _) $
      await ! tt $ pick ! (λ r. split ! $ move ! (1 ∷ []) $ drop ! $ split ! $ move ! (1 ∷ []) $ feq_l !
      (λ is_unit. at_once ! $ check ! (ap only is_unit) $ done !))
