-- The length and the bytes of a block in memory, apart from its pointer, and put back; and one of its bytes.
use Rattle.std.proofs.Common.{◌≡◌, ℕ, zero, suc, ◌+◌, ◌<◌, List, [], ◌∷◌, ◌++◌, length, take, set, get_or, refl, sym, ap, ◌∙◌, arith}
use seplogic.Ra.Ura.{Ura}
use base.Fraction.{full_share}
use base.Logic.{SProp, ent}
use base.Fml.{Fml, fat, feq, ftrue}
use mir.Syntax.{w64, w8, ty_int}
use mir.Val.{vint}
use types.Logic.{Logic, sem}
use types.Kit.{‵, raw, ◌⊛◌, ⋆, ◌$◌, ◌∵◌, !, qed, by, done, move, drop, use1, use3, split, split3, join, fsplit, fjoin, rewrite}
use denote.Array.{Array}
use denote.ArrayMemory.{Array-apart, Array-whole}
use denote.Builtin.{u8, usize}
use denote.Index.{row, others, takes, puts, place_byte, place as nth}
use denote.Memory.{part_at, shares}
use denote.Plain.{uint_in, uint_out}
use denote.RawPtr.{RawPtr}
use denote.Steps.{nothing}
use denote.Struct.Laws.{lawfuls}
use denote.Struct.Parts.{PartsBack}
use denote.Struct.Pick.{rest_at, record_field_out, record_field_back}
use Rattle.cord_raw.specs.declared.block.Block.{Block}
use Rattle.cord_raw.specs.contracts.block.Block as block
use Rattle.cord_raw.proofs.block.Block.TheLaws as block_laws
use Rattle.cord_raw.proofs.Fields.{members}

-- the first bytes once one is written after them
set_after : (xs : List ℕ) (n x : ℕ) → n < length xs → take (suc n) (set xs n x) ≡ take n xs ++ x ∷ []
set_after [] n x low = absurd (omega arith)
set_after (y ∷ xs) zero x low = refl
set_after (y ∷ xs) (suc n) x low = ap (λ t. y ∷ t) (set_after xs n x (omega arith))

pub take_set : (xs : List ℕ) (n x : ℕ) → n < length xs → take (n + 1) (set xs n x) ≡ take n xs ++ x ∷ []
take_set xs n x low = let onward : n + 1 ≡ suc n = omega arith in ap (λ k. take k (set xs n x)) onward ∙ set_after xs n x low

module _ {M : Type 1} {𝓤 : Ura M} (𝓛 : Logic 𝓤) where
  abbrev pub Back : ℕ → ℕ → SProp 𝓤
  Back b o = PartsBack 𝓛 full_share block.struct.name members b o

  abbrev pub len_at : ℕ → ℕ → ℕ → Fml
  len_at n b o = fat full_share (ty_int w64) b (o + 8) (vint w64 n)

  pub bytes_apart : (x : Block) (b o : ℕ) → ent 𝓤 (sem 𝓛 (part_at block.the_row full_share x b o))
      (⋆ 𝓛 (‵ (len_at x.len b o) ∷ ‵ (feq ℕ (length x.bytes) 128) ∷ ‵ (row u8 full_share x.bytes b (o + 16))
      ∷ ‵ (part_at RawPtr full_share x.next b (o + 0)) ∷ raw (Back b o) ∷ []))
  bytes_apart x b o =
      qed 𝓛 (‵ (part_at block.the_row full_share x b o) ∷ []) ∵
      use1 𝓛 (‵ ftrue ⊛ ‵ (rest_at full_share members 0 (block.the_type.to x) b o 3) ⊛ raw (Back b o))
      (record_field_out 𝓛 full_share block.struct.name members Block block.the_type.to block.the_type.to_one
      (lawfuls 𝓛 block.struct.parts block_laws.the_laws) x b o 3) $ split3 ! $ drop ! $
      fsplit ! $ move ! (1 ∷ []) $ fsplit ! $ move ! (1 ∷ []) $ fsplit ! $
      -- [the bytes; nothing; the length; the pointer; the way back]
      use1 𝓛 (‵ (feq ℕ (length x.bytes) 128) ⊛ ‵ (row u8 full_share x.bytes b (o + 16)))
      (Array-apart 𝓛 u8 full_share tt 128 x.bytes b (o + 16)) $ split ! $
      move ! (2 ∷ []) $ drop ! $ move ! (2 ∷ []) $ use1 𝓛 (‵ (len_at x.len b o)) (uint_out 𝓛 full_share w64 x.len b (o + 8)) $ done !

  pub bytes_back : (x : Block) (b o : ℕ)
      → ent 𝓤 (⋆ 𝓛 (‵ (len_at x.len b o) ∷ ‵ (feq ℕ (length x.bytes) 128) ∷ ‵ (row u8 full_share x.bytes b (o + 16))
      ∷ ‵ (part_at RawPtr full_share x.next b (o + 0)) ∷ raw (Back b o) ∷ []))
      (sem 𝓛 (part_at block.the_row full_share x b o))
  bytes_back x b o =
      qed 𝓛 (‵ (len_at x.len b o) ∷ ‵ (feq ℕ (length x.bytes) 128) ∷ ‵ (row u8 full_share x.bytes b (o + 16))
      ∷ ‵ (part_at RawPtr full_share x.next b (o + 0)) ∷ raw (Back b o) ∷ []) ∵
      use1 𝓛 (‵ (part_at usize full_share x.len b (o + 8))) (uint_in 𝓛 full_share w64 x.len b (o + 8)) $ nothing ! $ move !
      (2 ∷ 3 ∷ []) $ join ! $
      use1 𝓛 (‵ (part_at (Array u8 128) full_share x.bytes b (o + 16))) (Array-whole 𝓛 u8 full_share 128 x.bytes b (o + 16)) $ fjoin ! $
      move ! (1 ∷ 0 ∷ []) $ fjoin ! $ move ! (1 ∷ 0 ∷ []) $ fjoin ! $ nothing ! $
      use3 𝓛 (‵ (part_at block.the_row full_share x b o)) (record_field_back 𝓛 full_share block.struct.name members Block block.the_type.to
      block.the_type.to_one x b o 3) $ done !

  module _ (xs : List ℕ) (i x b o : ℕ) where
    abbrev pub rest : Fml
    rest = others (shares u8) full_share xs i b o

    abbrev pub byte : ℕ → Fml
    byte y = fat full_share (ty_int w8) b (i + o) (vint w8 y)

    pub byte_out : i < length xs → ent 𝓤 (sem 𝓛 (row u8 full_share xs b o)) (⋆ 𝓛 (‵ (byte (get_or xs i 0)) ∷ ‵ rest ∷ []))
    byte_out inside =
        qed 𝓛 (‵ (row u8 full_share xs b o) ∷ []) ∵
        use1 𝓛 (‵ (part_at u8 full_share (get_or xs i 0) b (nth 1 o i)) ⊛ ‵ rest) (takes (shares u8) full_share 𝓛 xs i 0 b o inside) $
        split ! $
        rewrite ! 0 (λ (k : ℕ). ‵ (part_at u8 full_share (get_or xs i 0) b k)) (place_byte o i) refl $
        use1 𝓛 (‵ (byte (get_or xs i 0))) (uint_out 𝓛 full_share w8 (get_or xs i 0) b (i + o)) $ done !

    pub byte_back : i < length xs → ent 𝓤 (⋆ 𝓛 (‵ (byte x) ∷ ‵ rest ∷ [])) (sem 𝓛 (row u8 full_share (set xs i x) b o))
    byte_back inside =
        qed 𝓛 (‵ (byte x) ∷ ‵ rest ∷ []) ∵
        use1 𝓛 (‵ (part_at u8 full_share x b (i + o))) (uint_in 𝓛 full_share w8 x b (i + o)) $
        rewrite ! 0 (λ (k : ℕ). ‵ (part_at u8 full_share x b k)) (sym (place_byte o i)) refl $
        by ! (puts (shares u8) full_share 𝓛 xs i x b o inside)
