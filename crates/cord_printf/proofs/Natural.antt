-- Prints don't look at elements: changing each of the arguments' changes each of the text's.
use Rattle.std.proofs.Common.{◌≡◌, ℕ, ◌+◌, ◌-◌, Bool, true, false, Option, Some, None, List, [], ◌∷◌, ◌++◌, length, map, replicate, refl}
use Rattle.std.proofs.Common.{sym, ap, ◌∙◌}
use Rattle.std.specs.Prelude.{pos, negsuc, option_map}
use Rattle.std.proofs.lemmas.List.{map-append, length-map, take-map}
use Rattle.cord_printf.specs.declared.pieces.ArgKind.{ArgKind}
use Rattle.cord_printf.specs.declared.pieces.ArgKind.TheVariants as kinds
use Rattle.cord_printf.specs.declared.pieces.Piece.{Piece}
use Rattle.cord_printf.specs.declared.pieces.Piece.TheVariants.{Text, Signed, Unsigned, Byte, Cord, Percent}
use Rattle.cord_printf.specs.Pieces.{wants}
use Rattle.cord_printf.specs.PieceText.{PieceArgument, number, text, kind_of, padded, cut, piece_text, argument_if, others_if}
use Rattle.cord_printf.specs.inner.PieceText.{map_argument}
use Rattle.cord_printf.specs.PieceText.{count_if, printed, refusal, first_refusal}
use Rattle.cord_printf.proofs.Layouts.{map-run}

map-padded : {A B : Type 0} (f : A → B) (blank : A) (left : Bool) (width : ℕ) (x : List A) →
    map f (padded blank left width x) ≡ padded (f blank) left width (map f x)
map-padded f blank true width x = map-append f x (replicate (width - length x) blank)
    ∙ ap (λ y. map f x ++ y) (map-run f (width - length x) blank ∙ ap (λ n. replicate (width - n) (f blank)) (sym (length-map x f)))
map-padded f blank false width x = map-append f (replicate (width - length x) blank) x
    ∙ ap (λ y. y ++ map f x) (map-run f (width - length x) blank ∙ ap (λ n. replicate (width - n) (f blank)) (sym (length-map x f)))

map-cut : {A B : Type 0} (f : A → B) (precision : Option ℕ) (x : List A) → map f (cut precision x) ≡ cut precision (map f x)
map-cut f None x = refl
map-cut f (Some p) x = sym (take-map f p x)

map-bytes : {A B : Type 0} (f : A → B) (of_byte : ℕ → A) (x : List ℕ) → map f (map of_byte x) ≡ map (λ b. f (of_byte b)) x
map-bytes f of_byte [] = refl
map-bytes f of_byte (b ∷ x) = ap (λ y. f (of_byte b) ∷ y) (map-bytes f of_byte x)

-- the text of one piece
pub map-piece_text : {A B : Type 0} (f : A → B) (of_byte : ℕ → A) (p : Piece) (a : Option (PieceArgument A)) →
    map f (piece_text of_byte p a) ≡ piece_text (λ b. f (of_byte b)) p (option_map (map_argument f) a)
map-piece_text f of_byte (Text t) a = map-bytes f of_byte t
map-piece_text f of_byte (Signed flags width precision) None = refl
map-piece_text f of_byte (Signed flags width precision) (Some (number n)) = map-bytes f of_byte _
map-piece_text f of_byte (Signed flags width precision) (Some (text x)) = refl
map-piece_text f of_byte (Unsigned radix flags width precision) None = refl
map-piece_text f of_byte (Unsigned radix flags width precision) (Some (number n)) = map-bytes f of_byte _
map-piece_text f of_byte (Unsigned radix flags width precision) (Some (text x)) = refl
map-piece_text f of_byte (Byte flags width) None = refl
map-piece_text f of_byte (Byte flags width) (Some (number n)) = map-bytes f of_byte _
map-piece_text f of_byte (Byte flags width) (Some (text x)) = refl
map-piece_text f of_byte (Cord flags width precision) None = refl
map-piece_text f of_byte (Cord flags width precision) (Some (number n)) = refl
map-piece_text f of_byte (Cord flags width precision) (Some (text x)) = map-padded f (of_byte 32) flags.left width (cut precision x)
    ∙ ap (padded (f (of_byte 32)) flags.left width) (map-cut f precision x)
map-piece_text f of_byte Percent a = refl

map-argument_if : {A B : Type 0} (f : A → B) (k : Option ArgKind) (args : List (PieceArgument A)) →
    option_map (map_argument f) (argument_if k args) ≡ argument_if k (map (map_argument f) args)
map-argument_if f None args = refl
map-argument_if f (Some k) [] = refl
map-argument_if f (Some k) (a ∷ args) = refl

map-others_if : {A B : Type 0} (f : A → B) (k : Option ArgKind) (args : List (PieceArgument A)) →
    map (map_argument f) (others_if k args) ≡ others_if k (map (map_argument f) args)
map-others_if f None args = refl
map-others_if f (Some k) [] = refl
map-others_if f (Some k) (a ∷ args) = refl

-- the text of a print
pub map-printed : {A B : Type 0} (f : A → B) (of_byte : ℕ → A) (pieces : List Piece) (args : List (PieceArgument A)) →
    map f (printed of_byte pieces args) ≡ printed (λ b. f (of_byte b)) pieces (map (map_argument f) args)
map-printed f of_byte [] args = refl
map-printed f of_byte (p ∷ pieces) args =
    let first = map-piece_text f of_byte p (argument_if (wants p) args) ∙ ap (piece_text (λ b. f (of_byte b)) p)
    (map-argument_if f (wants p) args) in
    let rest = map-printed f of_byte pieces (others_if (wants p) args) ∙ ap (printed (λ b. f (of_byte b)) pieces)
    (map-others_if f (wants p) args) in
    map-append f (piece_text of_byte p (argument_if (wants p) args)) (printed of_byte pieces (others_if (wants p) args)) ∙ cc (first, rest)

same_refusal : {A B : Type 0} (f : A → B) (k : ℕ) (p : Piece) (a : Option (PieceArgument A)) →
    refusal k p (option_map (map_argument f) a) ≡ refusal k p a
same_refusal f k (Text t) a = refl
same_refusal f k (Signed flags width precision) a = refl
same_refusal f k (Unsigned radix flags width precision) None = refl
same_refusal f k (Unsigned radix flags width precision) (Some (number (pos n))) = refl
same_refusal f k (Unsigned radix flags width precision) (Some (number (negsuc n))) = refl
same_refusal f k (Unsigned radix flags width precision) (Some (text x)) = refl
same_refusal f k (Byte flags width) None = refl
same_refusal f k (Byte flags width) (Some (number (pos n))) = refl
same_refusal f k (Byte flags width) (Some (number (negsuc n))) = refl
same_refusal f k (Byte flags width) (Some (text x)) = refl
same_refusal f k (Cord flags width precision) a = refl
same_refusal f k Percent a = refl

-- what is refused is refused whatever the elements
pub first_refusal-map : {A B : Type 0} (f : A → B) (k : ℕ) (pieces : List Piece) (args : List (PieceArgument A)) →
    first_refusal k pieces (map (map_argument f) args) ≡ first_refusal k pieces args
first_refusal-map f k [] args = refl
first_refusal-map f k (p ∷ pieces) args =
    let here = ap (refusal k p) (sym (map-argument_if f (wants p) args)) ∙ same_refusal f k p (argument_if (wants p) args) in
    let later = ap (first_refusal (k + count_if (wants p)) pieces) (sym (map-others_if f (wants p) args))
    ∙ first_refusal-map f (k + count_if (wants p)) pieces (others_if (wants p) args) in
    cc (here, later)

-- and the kinds stay
pub kinds-map : {A B : Type 0} (f : A → B) (args : List (PieceArgument A)) → map kind_of (map (map_argument f) args) ≡ map kind_of args
kinds-map f [] = refl
kinds-map f (number n ∷ args) = ap (λ x. kinds.Number ∷ x) (kinds-map f args)
kinds-map f (text x ∷ args) = ap (λ y. kinds.Cord ∷ y) (kinds-map f args)
