-- Literals, starts of functions, cords of names and of extensible cords, and prints.
use Rattle.cord_run.proofs.Common.{AreHeldIn, Argument, Bytes, Cell, CordFitsIn, Digits, Entry, Err, ExtensibleFits, FaultKind, Function}
use Rattle.cord_run.proofs.Common.{IsCord, IsCordOf, IsCordOfText, IsExtended, IsFaultOver, IsGrownBy, IsOver, IsSameText, IsSourceRange}
use Rattle.cord_run.proofs.Common.{IsStartOf, IsTextOver, Lengths, List, MAX_LEN, Node, None, Ok, Option, Piece, Result, Some, Table, []}
use Rattle.cord_run.proofs.Common.{and_then, ap, argument_in, arith, byte_at, byte_value_at, bytes-text, bytes_of, bytes_of_cells}
use Rattle.cord_run.proofs.Common.{content_in, cord_in, digit_at, drop, extended_over, extensible_in, fault_of, format_text}
use Rattle.cord_run.proofs.Common.{function_source, inl, is_within, known, length, length-map, length-text_of, length_above, length_of}
use Rattle.cord_run.proofs.Common.{lengths_in, lengths_of, map, piece_argument, plain_of, refl, stop_of_print, subst, sym, table_in, take}
use Rattle.cord_run.proofs.Common.{unless_refused, within, ℕ, ◌∙◌, ◌≡◌, ◌≤◌, ◌+◌, ◌++◌, ◌≢◌, ◌<◌, ◌∷◌, Arg, PrintError}
use Rattle.cord_io.specs.FunctionTexts.{text_of}
use Rattle.cord_io.proofs.FunctionRanges.{range-text_of}
use Rattle.cord_run.proofs.Lengths.{content_text, cord_fits, operand_value}
use Rattle.cord_printf.specs.declared.arguments.Arg.TheVariants as args
use Rattle.cord_printf.specs.declared.errors.PrintError.TheVariants as refusals
use Rattle.cord_printf.specs.Over.{ArgumentsFitIn, IsPrintOf, argument_over}
use Rattle.cord_printf.specs.PieceText.{PieceArgument, number, text, first_refusal, printed}
use Rattle.cord_printf.specs.inner.PieceText.{map_argument}
use Rattle.cord_printf.specs.Printing.{IsPrintable, IsRefusedFor, arguments_of}
use Rattle.cord_printf.proofs.Natural.{first_refusal-map, map-printed}
use Rattle.cord_operands.specs.declared.operands.Argument.TheVariants as arguments

-- an extensible cord of no bytes that has grown by a text
pub gathered_text : (gathered : List ℕ) (before after : List Cell) (cord : Option Node) → before ≡ [] → length before + length gathered ≤ MAX_LEN →
    IsGrownBy before after gathered → IsCordOf after cord → IsCord cord → IsCordOfText gathered cord
gathered_text gathered before after cord none short grown of sound = record {
  sound = sound;
  short = let more : length gathered ≤ length before + length gathered = omega arith in omega (arith, more, short);
  whole = record {
    fits = λ lengths. of.fits lengths (held lengths);
    bytes = λ t. of.bytes t (held (lengths_of t)) ∙ grown.bytes t (nothing (lengths_of t))
        ∙ ap (λ (xs : List Cell). bytes_of_cells t xs ++ gathered) none;
  };
}
  where
    nothing : (lengths : Lengths) → AreHeldIn lengths before
    nothing lengths = subst (λ (xs : List Cell). AreHeldIn lengths xs) (sym none) tt

    held : (lengths : Lengths) → AreHeldIn lengths after
    held lengths = grown.fits lengths (nothing lengths)

-- the first bytes of a function's source are those of the function
start_text : (f : ℕ → ℕ) (n count : ℕ) → count ≤ n → take count (drop 0 (text_of f n)) ≡ text_of f count
unfolding text_of
start_text f n count h = range-text_of f n 0 count (omega arith)

module _ (count : ℕ) (cord : Option Node) (short : count ≤ MAX_LEN) (sound : IsCord cord) where
  inside : 0 + count ≤ MAX_LEN
  inside = omega (arith, short)

  start_by : (function : Function) → IsSourceRange (function_source function) 0 count cord → IsStartOf function count cord
  start_by Digits range = record {
    sound = sound;
    fits = λ now. range.fits (lengths_in now) (inl inside);
    bytes = λ now file_system. range.bytes (table_in now file_system)
        (inl (let long : length (text_of digit_at MAX_LEN) ≡ MAX_LEN = length-text_of digit_at MAX_LEN in
        subst (λ (n : ℕ). 0 + count ≤ n) (sym long) inside)) ∙ start_text digit_at MAX_LEN count short;
  }
  start_by Bytes range = record {
    sound = sound;
    fits = λ now. range.fits (lengths_in now) (inl inside);
    bytes = λ now file_system. range.bytes (table_in now file_system)
        (inl (let long : length (text_of byte_value_at MAX_LEN) ≡ MAX_LEN = length-text_of byte_value_at MAX_LEN in
        subst (λ (n : ℕ). 0 + count ≤ n) (sym long) inside)) ∙ start_text byte_value_at MAX_LEN count short;
  }

  pub start_made : (function : Function) (id : ℕ) → id ≡ function_source function → IsSourceRange id 0 count cord → IsStartOf function count cord
  start_made function id is range = start_by function (subst (λ (n : ℕ). IsSourceRange n 0 count cord) is range)

module _ (entries : List Entry) (name : List ℕ) where
  -- the same text as the cord of a name
  pub same_as_name : (from to : Option Node) → from ≡ cord_in (content_in entries name) → IsSameText from to → IsCord to →
      IsTextOver entries (λ s. Ok (s.texts name)) to
  same_as_name from to is same sound = record {
    sound = sound;
    fits = λ lengths over. same.fits lengths (there lengths over);
    bytes = λ t over. ap (λ (text : List ℕ). Ok text) (content_text t (content_in entries name)
        ∙ ap (λ (c : Option Node). bytes_of t c) (sym is) ∙ sym (same.bytes t (there (lengths_of t) over)));
  }
    where
      there : (lengths : Lengths) → IsOver lengths entries → CordFitsIn lengths from
      there lengths over = subst (λ (c : Option Node). CordFitsIn lengths c) (sym is)
          (cord_fits lengths (content_in entries name) (over.contents name))

  -- the text of the extensible cord of a name
  pub extended_text : (e : Option (List Cell)) (cord : Option Node) → e ≡ extensible_in entries name → IsExtended e cord →
      IsTextOver entries (λ s. Ok (s.extensibles name)) cord
  extended_text e cord is extended = record {
    sound = extended.sound;
    fits = λ lengths over. extended.fits lengths (there lengths over);
    bytes = λ t over. ap (λ (text : List ℕ). Ok text) (ap (λ (x : Option (List Cell)). extended_over t x) (sym is)
        ∙ sym (extended.bytes t (there (lengths_of t) over)));
  }
    where
      there : (lengths : Lengths) → IsOver lengths entries → ExtensibleFits lengths e
      there lengths over = subst (λ (x : Option (List Cell)). ExtensibleFits lengths x) (sym is) (over.extensibles name)

  pub extended_none : extensible_in entries name ≡ None → (cord : Option Node) → cord ≡ None →
      IsTextOver entries (λ s. Ok (s.extensibles name)) cord
  extended_none none cord is = extended_text None cord (sym none)
      (subst (λ (c : Option Node). IsExtended None c) (sym is) (record { sound = tt; fits = λ lengths fits. tt; bytes = λ t fits. refl }))

-- the arguments that names give, in order
abbrev arguments_in : List Entry → List Argument → List Arg
arguments_in entries list = map (λ a. argument_in entries a) list

-- their cords fit
given_fits : (lengths : Lengths) (entries : List Entry) → IsOver lengths entries → (list : List Argument) →
    ArgumentsFitIn lengths (arguments_in entries list)
given_fits lengths entries over [] = tt
given_fits lengths entries over (arguments.Number n ∷ list) = given_fits lengths entries over list
given_fits lengths entries over (arguments.Cord name ∷ list) = (
  cord_fits lengths (content_in entries name) (over.contents name),
  given_fits lengths entries over list,
)

-- over a table they are what the statement is given
given_over : (t : Table) (entries : List Entry) (list : List Argument) →
    map (argument_over t) (arguments_in entries list) ≡ map (λ a. piece_argument (plain_of t entries) a) list
given_over t entries [] = refl
given_over t entries (arguments.Number n ∷ list) = λ i. number (operand_value t entries n i) ∷ given_over t entries list i
given_over t entries (arguments.Cord name ∷ list) = λ i. text (sym (content_text t (content_in entries name)) i)
    ∷ given_over t entries list i

-- cords as their cells
cells_over : (t : Table) (list : List Arg) → ArgumentsFitIn (lengths_of t) list →
    map (argument_over t) list ≡ map (map_argument (byte_at t)) (arguments_of list)
cells_over t [] fits = refl
cells_over t (args.Num n ∷ list) fits = ap (λ (r : List (PieceArgument ℕ)). number n ∷ r) (cells_over t list fits)
cells_over t (args.Cord c ∷ list) fits = λ i. text (bytes-text t c fits.0 i) ∷ cells_over t list fits.1 i

-- what is known of a print over a table
record Prints (entries : List Entry) (format : List Piece) (list : List Argument) (t : Table) : Type 0 where
  refused : first_refusal 0 format (map (λ a. piece_argument (plain_of t entries) a) list)
      ≡ first_refusal 0 format (arguments_of (arguments_in entries list))
  long : length (printed known format (arguments_of (arguments_in entries list)))
      ≡ length (printed (λ b. b) format (map (λ a. piece_argument (plain_of t entries) a) list))

prints : (entries : List Entry) (format : List Piece) (list : List Argument) (t : Table) → IsOver (lengths_of t) entries →
    Prints entries format list t
prints entries format list t over =
    let cells : map (argument_over t) (arguments_in entries list)
    ≡ map (map_argument (byte_at t)) (arguments_of (arguments_in entries list)) =
    cells_over t (arguments_in entries list) (given_fits (lengths_of t) entries over list) in
    let same : map (λ a. piece_argument (plain_of t entries) a) list
    ≡ map (map_argument (byte_at t)) (arguments_of (arguments_in entries list)) =
    sym (given_over t entries list) ∙ cells in
    record {
      refused = ap (λ (vs : List (PieceArgument ℕ)). first_refusal 0 format vs) same
          ∙ first_refusal-map (byte_at t) 0 format (arguments_of (arguments_in entries list));
      long = sym (length-map (printed known format (arguments_of (arguments_in entries list))) (byte_at t))
          ∙ ap (λ (xs : List ℕ). length xs) (map-printed (byte_at t) known format (arguments_of (arguments_in entries list)))
          ∙ ap (λ (vs : List (PieceArgument ℕ)). length (printed (λ b. b) format vs)) (sym same);
    }

module _ (entries : List Entry) (format : List Piece) (list : List Argument) where
  -- where no argument is refused
  accepted : (t : Table) → IsOver (lengths_of t) entries → first_refusal 0 format (arguments_of (arguments_in entries list)) ≡ None →
      format_text (plain_of t entries) format list ≡ Ok (printed (λ b. b) format (map (λ a. piece_argument (plain_of t entries) a) list))
  accepted t over none = ap (λ (r : Option PrintError). unless_refused r
      (printed (λ b. b) format (map (λ a. piece_argument (plain_of t entries) a) list)))
      ((prints entries format list t over).refused ∙ none)

  -- the first argument that is refused
  rejected : (t : Table) → IsOver (lengths_of t) entries → (e : PrintError) →
      first_refusal 0 format (arguments_of (arguments_in entries list))
      ≡ Some e → and_then (format_text (plain_of t entries) format list) (λ text. within MAX_LEN text) ≡ Err (fault_of e)
  rejected t over e some =
      ap (λ (r : Option PrintError). and_then
      (unless_refused r (printed (λ b. b) format (map (λ a. piece_argument (plain_of t entries) a) list)))
      (λ text. within MAX_LEN text)) ((prints entries format list t over).refused ∙ some)

  module _ (all : List Arg) (same : all ≡ arguments_in entries list) where
    -- a cord of the print
    pub printed_cord : (cord : Option Node) → IsPrintable format (arguments_of all) → IsPrintOf format all cord → IsCord cord →
        IsTextOver entries (λ s. format_text s format list) cord
    printed_cord cord printable is sound = record {
      sound = sound;
      fits = λ lengths over. is.fits lengths (subst (λ (some : List Arg). ArgumentsFitIn lengths some) (sym same)
          (given_fits lengths entries over list));
      bytes = λ t over.
          accepted t over (subst (λ (some : List Arg). first_refusal 0 format (arguments_of some) ≡ None) same printable.none_refused)
          ∙ ap (λ (xs : List ℕ). Ok xs)
          (sym (is.bytes t (subst (λ (some : List Arg). ArgumentsFitIn (lengths_of t) some) (sym same)
          (given_fits (lengths_of t) entries over list))
          ∙ ap (λ (some : List Arg). printed (λ b. b) format (map (argument_over t) some)) same
          ∙ ap (λ (vs : List (PieceArgument ℕ)). printed (λ b. b) format vs) (given_over t entries list)));
    }

    -- its length alone
    pub printed_length : (len : ℕ) → IsPrintable format (arguments_of all) → len ≡ length (printed known format (arguments_of all)) →
        len ≤ MAX_LEN → (len ≤ MAX_LEN) × ((t : Table) → IsOver (lengths_of t) entries →
        length_of (and_then (format_text (plain_of t entries) format list) (λ x. within MAX_LEN x)) ≡ Ok len)
    printed_length len printable is short = (
      short,
      λ t over.
          let meant : List ℕ = printed (λ b. b) format (map (λ a. piece_argument (plain_of t entries) a) list) in
          let long : len ≡ length meant =
          is ∙ ap (λ (some : List Arg). length (printed known format (arguments_of some))) same
          ∙ (prints entries format list t over).long in
          ap (λ (r : Result (List ℕ) FaultKind). length_of (and_then r (λ text. within MAX_LEN text)))
          (accepted t over (subst (λ (some : List Arg). first_refusal 0 format (arguments_of some) ≡ None) same printable.none_refused))
          ∙ ap (λ (r : Result (List ℕ) FaultKind). length_of r) (is_within MAX_LEN meant (subst (λ (n : ℕ). n ≤ MAX_LEN) long short))
          ∙ ap (λ (n : ℕ). Ok n) (sym long),
    )

    -- why there is none
    pub unprinted : (e : PrintError) → IsRefusedFor MAX_LEN format (arguments_of all) e →
        IsFaultOver entries (λ s. and_then (format_text s format list) (λ text. within MAX_LEN text)) (stop_of_print e)
    unprinted (refusals.Negative k) h = λ t over. rejected t over (refusals.Negative k)
        (subst (λ (some : List Arg). first_refusal 0 format (arguments_of some) ≡ Some (refusals.Negative k)) same h.1)
    unprinted (refusals.BadByte k) h = λ t over. rejected t over (refusals.BadByte k)
        (subst (λ (some : List Arg). first_refusal 0 format (arguments_of some) ≡ Some (refusals.BadByte k)) same h.1)
    unprinted refusals.TooLong h = λ t over.
        let meant : List ℕ = printed (λ b. b) format (map (λ a. piece_argument (plain_of t entries) a) list) in
        let long : MAX_LEN < length meant =
        subst (λ (n : ℕ). MAX_LEN < n) (ap (λ (some : List Arg). length (printed known format (arguments_of some))) same
        ∙ (prints entries format list t over).long) h.2 in
        ap (λ (r : Result (List ℕ) FaultKind). and_then r (λ text. within MAX_LEN text))
        (accepted t over (subst (λ (some : List Arg). first_refusal 0 format (arguments_of some) ≡ None) same h.1))
        ∙ ap (λ (r : Result ℕ FaultKind). and_then r (λ _. Ok meant)) (length_above MAX_LEN (length meant) long)
    unprinted _ h = tt

    pub unprinted_unless : (e : PrintError) → (e ≢ refusals.NoMemory → IsRefusedFor MAX_LEN format (arguments_of all) e) →
        IsFaultOver entries (λ s. and_then (format_text s format list) (λ text. within MAX_LEN text)) (stop_of_print e)
    unprinted_unless (refusals.Negative k) h = unprinted (refusals.Negative k) (h (λ same. cc))
    unprinted_unless (refusals.BadByte k) h = unprinted (refusals.BadByte k) (h (λ same. cc))
    unprinted_unless refusals.TooLong h = unprinted refusals.TooLong (h (λ same. cc))
    unprinted_unless _ h = tt
