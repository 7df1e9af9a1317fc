-- The rows and machine values of blocks, of one block's owner, of a chain and of a place in it, as the walks meet them.
use Rattle.std.proofs.Common.{◌≡◌, ℕ, ◌+◌, ◌<◌, ◌^◌, List, [], ◌∷◌, refl, Global, w64, arith}
use lib.Dec.{T as Yes}
use seplogic.Ra.Ura.{Ura}
use mir.Val.{Val, vunit, vint, vstruct, vcons, vnil, has_ty, WT}
use types.Logic.{Logic, sem}
use types.Kit.{Item, Goal, Seq, Step, step, ‵, ◌⊛◌, ◌$◌, ◌∵◌, !, qed, move, keep, drop, split, fsplit, fjoin, use1, done}
use denote.Memory.{lone, part_at, hidden_shr}
use denote.Laws.{Is, shows}
use denote.RattleType.{RattleType, RowLaws}
use denote.RawPtr.{Ptr, RawPtr, ptr_val, block_ptr, null_ptr, in_a_block}
use base.Logic.{ent, sep, never, fst∗}
use base.Fraction.{full_share}
use mir.Raw.{raw as bare}
use denote.Shadow.{pure_i, Pure}
use denote.Steps.{peeks, owned}
use denote.Struct.Owning.{Owning, shape, to}
use denote.Struct.OwningLaws.{Laws as OwningLaws}
use denote.Struct.Struct.{Struct, Struct-row_laws, Struct-Pure, Struct-Lawful, layout}
use denote.Struct.Laws.{RawPtr-plain, usize-plain, RawPtr-copy, usize-copy, copy_row_laws, lawful, lawfuls, owes, makes}
use denote.Struct.Lending.{lent_out}
use denote.Opens.{shr_dup, unhide, hide}
use denote.Builtin.{usize}
use base.Fml.{Lft, Fml, fhide}
use Rattle.std.specs.contracts.impls.GlobalAllocator.TheImpl.{ghosts}
use Rattle.std.specs.contracts.alloc.Global as heap
use Rattle.std.proofs.alloc.Global.TheLaws as heap_laws
use Rattle.cord_raw.specs.declared.block.Block.{Block}
use Rattle.cord_raw.specs.declared.raw.Raw.{Raw}
use Rattle.cord_raw.specs.declared.chain.Chain.{Chain}
use Rattle.cord_raw.specs.declared.chain.Place.{Place}
use Rattle.cord_raw.specs.contracts.block.Block as block
use Rattle.cord_raw.specs.contracts.raw.Raw as raw
use Rattle.cord_raw.specs.contracts.chain.Chain as chain
use Rattle.cord_raw.specs.contracts.chain.Place as place
use Rattle.cord_raw.proofs.block.Block.TheLaws as block_laws
use Rattle.cord_raw.proofs.chain.Place.TheLaws as place_laws
use Rattle.cord_raw.proofs.raw.Raw.TheLaws as raw_laws
use Rattle.cord_raw.proofs.chain.Chain.TheLaws as chain_laws
use Rattle.cord_raw.specs.inner.Ownership.{frees, block_owns, chain_owns, chain_lent}

-- the allocator's handle is one value
abbrev pub handle_val : Val
handle_val = vstruct (vcons (vstruct (vcons vunit vnil)) vnil)

pub handle_is : (a : Global) → Is heap.the_row a (handle_val ∷ [])
handle_is a = ((vstruct (vcons vunit vnil) ∷ [], tt), (refl, (((vunit ∷ [], tt), (refl, (refl, tt))), tt)))

-- and owns nothing
pub handle_plain : (a : Global) → Pure (heap.the_row.own_val a (handle_val ∷ []))
handle_plain a = heap_laws.the_field_plain (heap.the_type.to a) (handle_val ∷ [])

pub handle_typed : Yes (has_ty (lone heap.the_row.mir) handle_val) × WT handle_val
handle_typed = (tt, ((tt, tt), tt))

-- one block's owner
abbrev pub Owner : RattleType
Owner = raw.the_row block.the_row heap.the_row ghosts

abbrev pub owner_val : Raw Block Global → Val
owner_val r = vstruct (vcons (ptr_val r.at) (vcons handle_val vnil))

abbrev owner_type : Owning
owner_type = raw.the_type block.the_row heap.the_row ghosts

abbrev owner_laws : OwningLaws owner_type
owner_laws = raw_laws.the_laws block.the_row heap.the_row ghosts block_laws.the_row_laws heap_laws.the_row_laws heap_laws.the_told

owner_are : (r : Raw Block Global) → Is (Struct (shape owner_type)) (to owner_type r) (owner_val r ∷ [])
owner_are r = ((ptr_val r.at ∷ [], (handle_val ∷ [], tt)), (refl, (refl, (handle_is r.alloc, tt))))

-- the three fields of a chain alone
abbrev pub Fields : RattleType
Fields = Struct (shape chain.the_type)

abbrev pub fields_of : Chain → Fields.Denot
fields_of = to chain.the_type

abbrev pub words : Ptr → Ptr → ℕ → Val
words first last count = vstruct (vcons (ptr_val first) (vcons (ptr_val last) (vcons (vint w64 count) vnil)))

abbrev pub chain_val : Chain → Val
chain_val d = words d.first d.last d.count

fields_laws : RowLaws Fields
fields_laws = Struct-row_laws (shape chain.the_type) (copy_row_laws chain.struct.parts (RawPtr-copy, (RawPtr-copy, (usize-copy, tt))))

fields_are : (d : Chain) → d.count < 2 ^ 64 → Is Fields (fields_of d) (chain_val d ∷ [])
fields_are d small = (
  (ptr_val d.first ∷ [], (ptr_val d.last ∷ [], (vint w64 d.count ∷ [], tt))),
  (refl, (refl, (refl, ((refl, small), tt)))),
)

fields_pure : (d : Chain) (vs : List Val) → Pure (Fields.own_val (fields_of d) vs)
fields_pure d vs = Struct-Pure (shape chain.the_type) (RawPtr-plain, (RawPtr-plain, (usize-plain, tt))) (fields_of d) vs

-- a place in a chain
abbrev pub place_val : Place → Val
place_val p = place_laws.lowers.lowered p

pub place_is : (p : Place) → p.index < 2 ^ 64 → Is place.the_row p (place_val p ∷ [])
place_is p small = owes place.the_type place_laws.the_laws p (refl, ((refl, small), tt))

-- the number of blocks is a machine word
pub few_fit : (d : Chain) → d.count < 2 ^ 64
few_fit d = let few = d.few in omega arith

module _ {M : Type 1} {𝓤 : Ura M} (𝓛 : Logic 𝓤) where
  -- the machine values of an owner and of a chain are of their types
  pub owner_typed : (r : Raw Block Global) → Yes (has_ty (lone Owner.mir) (owner_val r)) × WT (owner_val r)
  owner_typed r = ((Struct-Lawful 𝓛 (shape owner_type) (lawfuls 𝓛 owner_type.parts owner_laws)).typed (to owner_type r) (owner_val r ∷ [])
      (owner_are r)).0

  pub place_typed : (p : Place) → Is place.the_row p (place_val p ∷ []) → Yes (has_ty place_laws.mir (place_val p)) × WT (place_val p)
  place_typed p is = ((lawful place.the_type place_laws.the_laws 𝓛).typed p (place_val p ∷ []) is).0

  pub chain_typed : (d : Chain) → d.count < 2 ^ 64 → Yes (has_ty (layout (shape chain.the_type)) (chain_val d)) × WT (chain_val d)
  chain_typed d small = ((Struct-Lawful 𝓛 (shape chain.the_type) (lawfuls 𝓛 chain.struct.parts chain_laws.the_laws)).typed (fields_of d)
      (chain_val d ∷ []) (fields_are d small)).0

module _ {M : Type 1} {𝓤 : Ura M} {𝓛 : Logic 𝓤} {X : Type 0} {Γ : List (Item 𝓤)} {G : Goal 𝓤 𝓛.H} where
  -- a chain is made of the blocks that it owns
  pub packs : X → (d : Chain) → d.count < 2 ^ 64
      → Step X 𝓛 (‵ (chain.the_row.own_val d (chain_val d ∷ [])) ∷ Γ) G (‵ (chain_owns d.first d.older d.last d.newest) ∷ Γ) G
  packs t d small = step (λ s. pure_i t (Fields.own_val (fields_of d) (chain_val d ∷ [])) (fields_pure d (chain_val d ∷ []))
      (fields_are d small) $ fjoin t $ s)

  -- a place is two words alone
  pub owns_place : X → (p : Place) → p.index < 2 ^ 64 → Step X 𝓛 (‵ (place.the_row.own_val p (place_val p ∷ [])) ∷ Γ) G Γ G
  owns_place t p small = owned t place.the_row (Is place.the_row) (makes place.the_type (RawPtr-plain, (usize-plain, tt)) 𝓛) p
      (place_val p ∷ []) (place_is p small)

  -- and taken apart to them
  pub unpacks : X → (d : Chain) (vs : List Val) → (vs ≡ chain_val d ∷ [] → Seq X 𝓛 (‵ (chain_owns d.first d.older d.last d.newest) ∷ Γ) G)
      → Seq X 𝓛 (‵ (chain.the_row.own_val d vs) ∷ Γ) G
  unpacks t d vs rest = peeks t chain.the_row (Is chain.the_row) (shows 𝓛 chain.the_row) d vs
      (λ is. fsplit t $ drop t $ rest (chain_laws.lowers.val_is d vs is))

  -- a block lies somewhere
  pub lies : X → (p : Ptr) (b : Block) → ((bl o : ℕ) → p ≡ block_ptr bl o →
      Seq X 𝓛 (‵ (part_at block.the_row full_share b bl o) ∷ ‵ (frees (bare (lone block.the_row.mir)) (block_ptr bl o)) ∷ Γ) G)
      → Seq X 𝓛 (‵ (block_owns p b) ∷ Γ) G
  lies t p b rest = in_a_block t p (λ q. block_owns q b) (fst∗ 𝓤 (never 𝓤) (sem 𝓛 (frees (bare (lone block.the_row.mir)) null_ptr)))
      (λ bl o e. fsplit t $ rest bl o e)

module _ {M : Type 1} {𝓤 : Ura M} (𝓛 : Logic 𝓤) (κ : Lft) (b o : ℕ) (d : Chain) where
  -- a `&` to the three fields
  abbrev pub fields_lent : Fml
  fields_lent = hidden_shr Fields κ (fields_of d) b o

  -- what a `&` to a chain lends: itself again, its fields, and its blocks
  pub lends : ent 𝓤 (sem 𝓛 (hidden_shr chain.the_row κ d b o)) (sep 𝓤 (sem 𝓛 (hidden_shr chain.the_row κ d b o))
      (sep 𝓤 (sem 𝓛 fields_lent) (sem 𝓛 (fhide (chain_lent d.first d.older d.last d.newest κ)))))
  lends = qed 𝓛 (‵ (hidden_shr chain.the_row κ d b o) ∷ []) ∵ shr_dup ! chain.the_row chain_laws.the_row_laws.shr_laws d b o κ $
      use1 𝓛 (‵ fields_lent ⊛ ‵ (fhide (chain_lent d.first d.older d.last d.newest κ)))
      (lent_out 𝓛 chain.struct chain.the_codes chain.the_heap chain.the_lent κ d b o) $ split ! $
      move ! (2 ∷ 0 ∷ 1 ∷ []) $ done !

  -- the fields show the pointer to the first block, and the number of blocks
  pub shows_first : ent 𝓤 (sem 𝓛 fields_lent) (sep 𝓤 (sem 𝓛 (hidden_shr RawPtr κ d.first b (o + 0))) (sem 𝓛 fields_lent))
  shows_first = qed 𝓛 (‵ fields_lent ∷ []) ∵ shr_dup ! Fields fields_laws (fields_of d) b o κ $ unhide ! $ fsplit ! $ fsplit ! $ hide ! $
      keep ! (0 ∷ 3 ∷ []) $ done !

  pub shows_count : ent 𝓤 (sem 𝓛 fields_lent) (sep 𝓤 (sem 𝓛 (hidden_shr usize κ d.count b (o + 16))) (sem 𝓛 fields_lent))
  shows_count = qed 𝓛 (‵ fields_lent ∷ []) ∵ shr_dup ! Fields fields_laws (fields_of d) b o κ $ unhide ! $ fsplit ! $ fsplit ! $ move !
      (1 ∷ []) $ fsplit ! $ move ! (1 ∷ []) $ fsplit ! $ hide ! $ keep ! (0 ∷ 5 ∷ []) $ done !

  -- a `&` to a block shows its pointer
  pub shows_next : (x : Block) → ent 𝓤 (sem 𝓛 (hidden_shr block.the_row κ x b o))
      (sep 𝓤 (sem 𝓛 (hidden_shr RawPtr κ x.next b (o + 0))) (sem 𝓛 (hidden_shr block.the_row κ x b o)))
  shows_next x = qed 𝓛 (‵ (hidden_shr block.the_row κ x b o) ∷ []) ∵ shr_dup ! block.the_row block_laws.the_row_laws.shr_laws x b o κ $
      unhide ! $ fsplit ! $ fsplit ! $ hide ! $ keep ! (0 ∷ 3 ∷ []) $ done !
