-- The machine values of handles and of what they lead to, as the walks meet them.
use Rattle.std.proofs.Common.{◌≡◌, ℕ, List, [], ◌∷◌, refl, subst, Global}
use mathlib.Core.Bool.{not}
use lib.Dec.{T as Yes}
use mir.Raw.{raw as bare}
use mir.Syntax.{Opd as Operand}
use mir.Val.{Val, vptr, vnull, ptr_same, vstruct, vcons, vnil, has_ty, WT}
use seplogic.Ra.Ura.{Ura}
use base.Fraction.{full_share}
use base.Logic.{ent, via, fst∗, snd∗, never, never_e, guard, guard_i}
use contract.Monad.{fact_use}
use types.Logic.{Logic, sem}
use prog.Wp.{Env}
use types.Kit.{Item, Goal, Seq, Step, step, ‵, ◌$◌, drop, fsplit, fjoin, feq_i, feq_l}
use types.Run.{Opd}
use denote.Laws.{Is, shows}
use denote.Memory.{lone}
use denote.RattleType.{RattleType}
use denote.RawPtr.{Ptr, block_ptr, null_ptr, ptr_val, lies_at, Testable}
use denote.Shadow.{pure_i}
use denote.Steps.{peeks}
use denote.Struct.Field.{rows}
use denote.Struct.Laws.{Lawss, RawPtr-plain, lawfuls}
use denote.Struct.Owning.{Owning, shape, to, row}
use denote.Struct.Struct.{Struct, Plains, Struct-Pure, Struct-Lawful, layout}
use Rattle.std.proofs.GlobalToken.{dealloc_token-Testable}
use Rattle.std.proofs.alloc.Global.TheLaws as heap_laws
use Rattle.std.specs.Box.Ownership.{box_owns}
use Rattle.std.specs.contracts.alloc.Global as heap
use Rattle.std.specs.contracts.impls.GlobalAllocator.TheImpl.{ghosts}
use Rattle.cord_raw.specs.contracts.raw.Raw as owner
use Rattle.cord_raw.specs.declared.raw.Raw.{Raw}
use Rattle.cord_raw.specs.inner.Ownership.{the_heap, frees}
use Rattle.cord_raw.proofs.Words.{handle_val as heap_val, handle_is as heap_is}
use Rattle.cord_raw.proofs.raw.Raw.TheLaws as owner_laws
use Rattle.cord_c.proofs.referent.Referent.TheLaws as referent_laws
use Rattle.cord_c.specs.contracts.referent.Referent as referent
use Rattle.cord_c.specs.Handles.{handle_owns}
use Rattle.cord_c.specs.contracts.handle.Handle as handle
use Rattle.cord_c.specs.declared.handle.Handle.{Handle}
use Rattle.cord_c.specs.declared.referent.Referent.{Referent}
use Rattle.cord_c.specs.declared.referent.Referent.TheVariants.{Nothing}
use Rattle.cord_c.proofs.handle.Handle.TheLaws as handle_laws

-- a struct of words that own nothing, beside what it owns on the heap
pub record Words : Type 2 where
  pub type : Owning
  pub laws : Lawss type.parts
  pub plains : Plains (rows type.parts)
  pub val : type.D → Val
  pub are : (d : type.D) → Is (Struct (shape type)) (to type d) (val d ∷ [])

module _ (N : Words) {M : Type 1} {𝓤 : Ura M} where
  -- it fits its type
  pub typed : (𝓛 : Logic 𝓤) (d : N.type.D) → Yes (has_ty (layout (shape N.type)) (N.val d)) × WT (N.val d)
  typed 𝓛 d = ((Struct-Lawful 𝓛 (shape N.type) (lawfuls 𝓛 N.type.parts N.laws)).typed (to N.type d) (N.val d ∷ []) (N.are d)).0

  -- and is made of what it owns
  pub packs : {𝓛 : Logic 𝓤} {X : Type 0} {Γ : List (Item 𝓤)} {G : Goal 𝓤 𝓛.H} → X → (d : N.type.D)
      → Step X 𝓛 (‵ ((row N.type).own_val d (N.val d ∷ [])) ∷ Γ) G (‵ (N.type.heap d) ∷ Γ) G
  packs t d = step (λ s. pure_i t ((Struct (shape N.type)).own_val (to N.type d) (N.val d ∷ []))
      (Struct-Pure (shape N.type) N.plains (to N.type d) (N.val d ∷ [])) (N.are d) $ fjoin t $ s)

-- two words: a pointer, and the allocator's handle
abbrev pub word : Ptr → Val
word p = vstruct (vcons (ptr_val p) (vcons heap_val vnil))

abbrev pub handles : Words
handles = record {
  type = handle.the_type;
  laws = handle_laws.the_laws;
  plains = (RawPtr-plain, (heap_laws.the_field_plain, tt));
  val = λ h. word h.at;
  are = λ h. ((ptr_val h.at ∷ [], (heap_val ∷ [], tt)), (refl, (refl, (heap_is h.alloc, tt))));
}

-- what a handle leads to, on the heap by its pointer
abbrev pub RawReferent : RattleType
RawReferent = owner.the_row referent.the_row heap.the_row ghosts

abbrev pub owners : Words
owners = record {
  type = owner.the_type referent.the_row heap.the_row ghosts;
  laws = owner_laws.the_laws referent.the_row heap.the_row ghosts referent_laws.the_row_laws heap_laws.the_row_laws heap_laws.the_told;
  plains = (RawPtr-plain, ((λ a vs. heap_laws.the_field_plain (heap.the_type.to a) vs), tt));
  val = λ r. word r.at;
  are = λ r. ((ptr_val r.at ∷ [], (heap_val ∷ [], tt)), (refl, (refl, (heap_is r.alloc, tt))));
}

pub owner_reports : (r : Raw Referent Global) (vs : List Val) → Is RawReferent r vs → vs ≡ word r.at ∷ []
owner_reports = (owner_laws.lowers referent.the_row heap.the_row ghosts referent_laws.the_row_laws heap_laws.the_row_laws
    heap_laws.the_told).val_is

module _ {M : Type 1} {𝓤 : Ura M} (𝓛 : Logic 𝓤) where
  -- what lies on the heap is a handle's, and lies where a pointer may be compared with null
  pub held : (p : Ptr) (c : Referent) → ent 𝓤 (sem 𝓛 (box_owns frees referent.the_row p c)) (guard 𝓤 (Testable p) (sem 𝓛 (handle_owns p c)))
  held (block_ptr b o) c = let p = block_ptr b o in let freed = sem 𝓛 (frees (bare (lone referent.the_row.mir)) p) in
      fact_use 𝓤 (Testable p) (via 𝓤 freed (snd∗ 𝓤 (sem 𝓛 (lies_at referent.the_row full_share p c)) freed)
      (dealloc_token-Testable 𝓛 the_heap (bare (lone referent.the_row.mir)) p)) (guard_i 𝓤 (Testable p) (sem 𝓛 (handle_owns p c)))
  held null_ptr c = via 𝓤 (never 𝓤) (fst∗ 𝓤 (never 𝓤) (sem 𝓛 (frees (bare (lone referent.the_row.mir)) null_ptr))) (never_e 𝓤 _)

-- a pointer that leads into a block is read as the machine has it
pub in_block : {M : Type 1} {𝓤 : Ura M} {𝓛 : Logic 𝓤} {X : Type 0} {Γ : List (Item 𝓤)} {E : Env 𝓤 𝓛.H} {c : Operand} {p : Ptr} {b o : ℕ}
    → p ≡ block_ptr b o → Opd X 𝓛 Γ E c (ptr_val p) → Opd X 𝓛 Γ E c (vptr b o)
in_block {M} {𝓤} {𝓛} {X} {Γ} {E} {c} e read = subst (λ (q : Ptr). Opd X 𝓛 Γ E c (ptr_val q)) e read

module _ {M : Type 1} {𝓤 : Ura M} {𝓛 : Logic 𝓤} {X : Type 0} {Γ : List (Item 𝓤)} {G : Goal 𝓤 𝓛.H} where
  -- a handle is taken apart to what it owns
  pub unpacks : X → (h : Handle) (vs : List Val) → (vs ≡ word h.at ∷ [] → Seq X 𝓛 (‵ (handle_owns h.at h.referent) ∷ Γ) G) →
      Seq X 𝓛 (‵ (handle.the_row.own_val h vs) ∷ Γ) G
  unpacks t h vs rest = peeks t handle.the_row (Is handle.the_row) (shows 𝓛 handle.the_row) h vs
      (λ is. fsplit t $ drop t $ rest (handle_laws.lowers.val_is h vs is))

  -- a null pointer's handle leads to nothing
  pub at_null : X → (p : Ptr) (c : Referent) → Yes (ptr_same (ptr_val p) vnull) → (c ≡ Nothing → Seq X 𝓛 (‵ (handle_owns p c) ∷ Γ) G)
      → Seq X 𝓛 (‵ (handle_owns p c) ∷ Γ) G
  at_null t null_ptr c null rest = feq_l t (λ none. feq_i t Referent c Nothing none $ rest none)
  at_null t (block_ptr b o) c null rest = absurd null

  -- another one's to what lies in a block
  pub at_block : X → (p : Ptr) (c : Referent) → Yes (not (ptr_same (ptr_val p) vnull))
      → ((b o : ℕ) → p ≡ block_ptr b o → Seq X 𝓛 (‵ (box_owns frees referent.the_row (block_ptr b o) c) ∷ Γ) G)
      → Seq X 𝓛 (‵ (handle_owns p c) ∷ Γ) G
  at_block t null_ptr c other rest = absurd other
  at_block t (block_ptr b o) c other rest = rest b o refl
