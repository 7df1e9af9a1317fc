-- Lists of pieces that were read.
use Rattle.std.proofs.Common.{◌≡◌, ◌+◌, ◌-◌, ℕ, List, [], ◌∷◌, ◌++◌, length, refl, sym, ap, ◌∙◌, subst, append_assoc, length-append, arith}
use Rattle.cord_printf.specs.declared.errors.FormatError.{FormatError}
use Rattle.cord_printf.specs.declared.errors.FormatError.TheVariants.{BadFormat, NoMemory}
use Rattle.cord_printf.specs.declared.pieces.Piece.{Piece}
use Rattle.cord_printf.specs.declared.pieces.Piece.TheVariants.{Text, Signed, Unsigned, Byte, Cord, Percent}
use Rattle.cord_printf.specs.Pieces.{IsPiece, Conversion, spelling, Spells}
use Rattle.cord_printf.specs.Format.{HasPieces, Converts, BeginsConversion, IsFormatRefusal}
use Rattle.cord_printf.specs.inner.Format.{IsBadHere}

-- a conversion is a piece
spelled_piece : (c : Conversion) (p : Piece) (rest : List ℕ) → Spells c p → IsPiece (spelling c) p rest
spelled_piece c (Text t) rest s = absurd s
spelled_piece c (Signed f w p) rest s = (c, refl, s)
spelled_piece c (Unsigned r f w p) rest s = (c, refl, s)
spelled_piece c (Byte f w) rest s = (c, refl, s)
spelled_piece c (Cord f w p) rest s = (c, refl, s)
spelled_piece c Percent rest s = (c, refl, s)

pub converted_piece : (b bytes rest : List ℕ) (p : Piece) → bytes ≡ 37 ∷ b → Converts (37 ∷ b) p rest → (w : List ℕ) ×
    (bytes ≡ w ++ rest) × IsPiece w p rest
converted_piece b bytes rest p e h = (spelling h.0, e ∙ h.2, spelled_piece h.0 p rest h.1)

-- one more piece at the end
pub pieces_push : (b : List ℕ) (ps : List Piece) (p : Piece) (w middle after : List ℕ) → HasPieces b ps middle → middle ≡ w ++ after →
    IsPiece w p after → HasPieces b (ps ++ p ∷ []) after
pieces_push b [] p w middle after h e k = (w, after, h ∙ e, k, refl)
pieces_push b (q ∷ ps) p w middle after h e k = (h.0, h.1, h.2, h.3, pieces_push h.1 ps p w middle after h.4 e k)

pub more_read : (b rest : List ℕ) (ps new : List Piece) (p : Piece) (after : List ℕ) → (prefix : List ℕ) × (b ≡ prefix ++ rest) →
    HasPieces b ps rest → new ≡ ps ++ p ∷ []
    → (w : List ℕ) × (rest ≡ w ++ after) × IsPiece w p after
    → record { split : (prefix : List ℕ) × (b ≡ prefix ++ after); read : HasPieces b new after }
more_read b rest ps new p after s h e k = record {
  split = (s.0 ++ k.0, s.1 ∙ ap (λ x. s.0 ++ x) k.1 ∙ sym (append_assoc s.0 k.0 after));
  read = subst (λ x. HasPieces b x after) (sym e) (pieces_push b ps p k.0 rest after h k.1 k.2);
}

pub bad_at : (b rest : List ℕ) (ps : List Piece) (offset : ℕ) (e : FormatError) → (prefix : List ℕ) × (b ≡ prefix ++ rest) →
    HasPieces b ps rest → offset ≡ length b - length rest → IsBadHere rest offset e → IsFormatRefusal b e
bad_at b rest ps offset NoMemory s h o k = tt
bad_at b rest ps offset (BadFormat n) s h o k =
    let starts = k.1 in
    let lengths : length b ≡ length s.0 + length rest = ap length s.1 ∙ length-append s.0 rest in
    record {
      pieces = ps;
      prefix = s.0;
      rest = starts.0;
      whole = s.1 ∙ ap (λ x. s.0 ++ x) starts.1;
      read = subst (HasPieces b ps) starts.1 h;
      offset_is = omega (arith, k.0);
      bad = subst (λ x. ¬ BeginsConversion x) starts.1 k.2;
    }
