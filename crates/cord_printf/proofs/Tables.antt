-- A print over a table of sources.
use Rattle.std.proofs.Common.{◌≡◌, ℕ, zero, suc, ◌-◌, Bool, true, false, Option, Some, None, List, [], ◌∷◌, length, map, replicate, refl}
use Rattle.std.proofs.Common.{sym, ap, ◌∙◌, subst}
use Rattle.std.proofs.lemmas.List.{length-map}
use Rattle.cord_io.specs.Table.{Table, Lengths}
use Rattle.cord_node.specs.declared.Node.{Node}
use Rattle.cord_node.specs.Tree.{Cell, known}
use Rattle.cord_node.specs.Tables.{lengths_of, byte_at, AreHeldIn}
use Rattle.cord_node.proofs.TableLemmas.{AreHeldIn-append, AreHeldIn-take}
use Rattle.cord_core.proofs.OverLemmas.{AreHeldIn-text, bytes-text}
use Rattle.cord_ec.specs.Grown.{IsCordOf}
use Rattle.cord_printf.specs.declared.arguments.Arg.{Arg}
use Rattle.cord_printf.specs.declared.arguments.Arg.TheVariants as arguments
use Rattle.cord_printf.specs.declared.pieces.ArgKind.{ArgKind}
use Rattle.cord_printf.specs.declared.pieces.Piece.{Piece}
use Rattle.cord_printf.specs.declared.pieces.Piece.TheVariants.{Text, Signed, Unsigned, Byte, Cord, Percent}
use Rattle.cord_printf.specs.Pieces.{wants}
use Rattle.cord_printf.specs.PieceText.{PieceArgument, number, text, padded, cut, piece_text, argument_if, others_if, printed}
use Rattle.cord_printf.specs.inner.PieceText.{map_argument}
use Rattle.cord_printf.specs.Printing.{arguments_of}
use Rattle.cord_printf.specs.Over.{ArgumentsFitIn, argument_over, IsPrintOf, IsLengthOfPrint}
use Rattle.cord_printf.proofs.Natural.{map-printed}

-- each element of an argument is held
abbrev IsHeldArgument : Lengths → PieceArgument Cell → Type 0
IsHeldArgument ls (number n) = Unit {0}
IsHeldArgument ls (text x) = AreHeldIn ls x

abbrev AreHeldArguments : Lengths → List (PieceArgument Cell) → Type 0
AreHeldArguments ls [] = Unit {0}
AreHeldArguments ls (a ∷ args) = IsHeldArgument ls a × AreHeldArguments ls args

held-known : (ls : Lengths) (b : List ℕ) → AreHeldIn ls (map known b)
held-known ls [] = tt
held-known ls (x ∷ b) = (tt, held-known ls b)

held-run : (ls : Lengths) (n : ℕ) → AreHeldIn ls (replicate n (known 32))
held-run ls zero = tt
held-run ls (suc n) = (tt, held-run ls n)

held-padded : (ls : Lengths) (left : Bool) (width : ℕ) (x : List Cell) → AreHeldIn ls x → AreHeldIn ls (padded (known 32) left width x)
held-padded ls true width x h = AreHeldIn-append ls x (replicate (width - length x) (known 32)) h (held-run ls (width - length x))
held-padded ls false width x h = AreHeldIn-append ls (replicate (width - length x) (known 32)) x (held-run ls (width - length x)) h

held-cut : (ls : Lengths) (precision : Option ℕ) (x : List Cell) → AreHeldIn ls x → AreHeldIn ls (cut precision x)
held-cut ls None x h = h
held-cut ls (Some p) x h = AreHeldIn-take ls p x h

-- a piece's text is held where its argument is
held-piece : (ls : Lengths) (p : Piece) (args : List (PieceArgument Cell)) → AreHeldArguments ls args →
    AreHeldIn ls (piece_text known p (argument_if (wants p) args))
held-piece ls (Text t) args h = held-known ls t
held-piece ls (Signed flags width precision) [] h = tt
held-piece ls (Signed flags width precision) (number n ∷ args) h = held-known ls _
held-piece ls (Signed flags width precision) (text x ∷ args) h = tt
held-piece ls (Unsigned radix flags width precision) [] h = tt
held-piece ls (Unsigned radix flags width precision) (number n ∷ args) h = held-known ls _
held-piece ls (Unsigned radix flags width precision) (text x ∷ args) h = tt
held-piece ls (Byte flags width) [] h = tt
held-piece ls (Byte flags width) (number n ∷ args) h = held-known ls _
held-piece ls (Byte flags width) (text x ∷ args) h = tt
held-piece ls (Cord flags width precision) [] h = tt
held-piece ls (Cord flags width precision) (number n ∷ args) h = tt
held-piece ls (Cord flags width precision) (text x ∷ args) h = held-padded ls flags.left width (cut precision x)
    (held-cut ls precision x h.0)
held-piece ls Percent args h = (tt, tt)

held-others : (ls : Lengths) (k : Option ArgKind) (args : List (PieceArgument Cell)) → AreHeldArguments ls args →
    AreHeldArguments ls (others_if k args)
held-others ls None args h = h
held-others ls (Some k) [] h = tt
held-others ls (Some k) (a ∷ args) h = h.1

held-printed : (ls : Lengths) (pieces : List Piece) (args : List (PieceArgument Cell)) → AreHeldArguments ls args →
    AreHeldIn ls (printed known pieces args)
held-printed ls [] args h = tt
held-printed ls (p ∷ pieces) args h = AreHeldIn-append ls (piece_text known p (argument_if (wants p) args))
    (printed known pieces (others_if (wants p) args)) (held-piece ls p args h)
    (held-printed ls pieces (others_if (wants p) args) (held-others ls (wants p) args h))

held-arguments : (ls : Lengths) (args : List Arg) → ArgumentsFitIn ls args → AreHeldArguments ls (arguments_of args)
held-arguments ls [] h = tt
held-arguments ls (arguments.Num n ∷ args) h = (tt, held-arguments ls args h)
held-arguments ls (arguments.Cord c ∷ args) h = (AreHeldIn-text ls c h.0, held-arguments ls args h.1)

-- the cells of the arguments become their bytes
arguments-over : (t : Table) (args : List Arg) → ArgumentsFitIn (lengths_of t) args → map (map_argument (byte_at t)) (arguments_of args)
    ≡ map (argument_over t) args
arguments-over t [] h = refl
arguments-over t (arguments.Num n ∷ args) h = ap (λ x. number n ∷ x) (arguments-over t args h)
arguments-over t (arguments.Cord c ∷ args) h =
    let first = ap (λ x. text x) (sym (bytes-text t c h.0)) in
    let rest = arguments-over t args h.1 in
    cc (first, rest)

pub print_of : (pieces : List Piece) (args : List Arg) (xs : List Cell) (c : Option Node) → IsCordOf xs c →
    xs ≡ printed known pieces (arguments_of args) → IsPrintOf pieces args c
print_of pieces args xs c h e = record {
  fits = λ ls fit. h.fits ls (subst (AreHeldIn ls) (sym e) (held-printed ls pieces (arguments_of args) (held-arguments ls args fit)));
  bytes = λ t fit.
      h.bytes t (subst (AreHeldIn (lengths_of t)) (sym e) (held-printed (lengths_of t) pieces (arguments_of args)
      (held-arguments (lengths_of t) args fit)))
      ∙ ap (map (byte_at t)) e
      ∙ map-printed (byte_at t) known pieces (arguments_of args)
      ∙ ap (printed (λ b. b) pieces) (arguments-over t args fit);
}

pub length_of_print : (pieces : List Piece) (args : List Arg) (n : ℕ) → n ≡ length (printed known pieces (arguments_of args)) →
    IsLengthOfPrint pieces args n
length_of_print pieces args n e = λ t fit.
    let cells : List Cell = printed known pieces (arguments_of args) in
    let bytes : map (byte_at t) cells ≡ printed (λ b. b) pieces (map (argument_over t) args) =
    map-printed (byte_at t) known pieces (arguments_of args) ∙ ap (printed (λ b. b) pieces) (arguments-over t args fit) in
    e ∙ sym (length-map cells (byte_at t)) ∙ ap length bytes
