-- The pointer of a block in memory, apart from the rest of the block, and put back.
use Rattle.std.proofs.Common.{ℕ, ◌+◌, List, [], ◌∷◌, refl, ap}
use seplogic.Ra.Ura.{Ura}
use base.Fraction.{full_share}
use base.Logic.{SProp, ent, sep}
use base.Fml.{Fml, fat, feq}
use borrow.Table.OneValue.{part_in, part_out}
use mir.Syntax.{w64, w8, ty_int, ty_ptr, ty_array}
use mir.Val.{Val}
use types.Logic.{Logic, sem}
use types.Kit.{‵, raw, ◌⊛◌, some, ◌$◌, ◌∵◌, !, qed, done, move, use1, use2, split, feq_i, feq_l, pick, rewrite}
use denote.Array.{Array}
use denote.Builtin.{u8, usize}
use denote.Memory.{part_at}
use denote.RawPtr.{Ptr, RawPtr, ptr_val}
use denote.Steps.{only}
use denote.Struct.Laws.{lawfuls}
use denote.Struct.Members.{Member}
use denote.Struct.Parts.{PartsBack}
use denote.Struct.Pick.{rest_at, record_field_out, record_field_back}
use Rattle.cord_raw.specs.declared.block.Block.{Block}
use Rattle.cord_raw.specs.inner.Blocks.{pointing}
use Rattle.cord_raw.specs.contracts.block.Block as block
use Rattle.cord_raw.proofs.block.Block.TheLaws as block_laws

abbrev pub members : List Member
members = record { row = RawPtr; ty = ty_ptr } ∷ record { row = usize; ty = ty_int w64 }
    ∷ record { row = Array u8 128; ty = ty_array (ty_int w8) 128 } ∷ []

module _ {M : Type 1} {𝓤 : Ura M} (𝓛 : Logic 𝓤) where
  -- a block at (b, o) without its pointer
  abbrev pub Rest : Block → ℕ → ℕ → SProp 𝓤
  Rest x b o = sep 𝓤 (sem 𝓛 (rest_at full_share members 0 (block.the_type.to x) b o 0))
      (PartsBack 𝓛 full_share block.struct.name members b o)

  abbrev pub pointer : Ptr → ℕ → ℕ → Fml
  pointer p b o = fat full_share ty_ptr b (o + 0) (ptr_val p)

  pub pointer_apart : (x : Block) (b o : ℕ) → ent 𝓤 (sem 𝓛 (part_at block.the_row full_share x b o))
      (sep 𝓤 (sem 𝓛 (pointer x.next b o)) (Rest x b o))
  pointer_apart x b o =
      qed 𝓛 (‵ (part_at block.the_row full_share x b o) ∷ []) ∵
      use1 𝓛 (‵ (part_at RawPtr full_share x.next b (o + 0)) ⊛ raw (Rest x b o))
      (record_field_out 𝓛 full_share block.struct.name members Block block.the_type.to block.the_type.to_one
      (lawfuls 𝓛 block.struct.parts block_laws.the_laws) x b o 0) $ split ! $
      use1 𝓛 (some (λ (v : Val). ‵ (fat full_share ty_ptr b (o + 0) v) ⊛ ‵ (feq (List Val) (v ∷ []) (ptr_val x.next ∷ []))))
      (part_out 𝓛 RawPtr refl full_share x.next b (o + 0)) $
      pick ! (λ v. split ! $ move ! (1 ∷ []) $ feq_l ! (λ e. rewrite ! 0 (λ (w : Val). ‵ (fat full_share ty_ptr b (o + 0) w))
      (ap only e) refl $ done !))

  pub pointer_back : (x : Block) (p : Ptr) (b o : ℕ) → ent 𝓤 (sep 𝓤 (sem 𝓛 (pointer p b o)) (Rest x b o))
      (sem 𝓛 (part_at block.the_row full_share (pointing x p) b o))
  pointer_back x p b o =
      qed 𝓛 (‵ (pointer p b o) ∷ raw (Rest x b o) ∷ []) ∵
      feq_i ! (List Val) (ptr_val p ∷ []) (ptr_val p ∷ []) refl $ move ! (1 ∷ 0 ∷ []) $
      use2 𝓛 (‵ (part_at RawPtr full_share p b (o + 0))) (part_in 𝓛 RawPtr refl full_share p b (o + 0) (ptr_val p)) $
      use2 𝓛 (‵ (part_at block.the_row full_share (pointing x p) b o))
      (record_field_back 𝓛 full_share block.struct.name members Block block.the_type.to block.the_type.to_one (pointing x p) b o 0) $ done !
