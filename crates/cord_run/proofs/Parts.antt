-- Cords of expressions, whole and of parts.
use Rattle.cord_run.proofs.Common.{ℕ, true, List, [], length, take, drop, Result, Ok, Err, refl, sym, ap, subst, ◌∙◌, arith, Option}
use Rattle.cord_run.proofs.Common.{take_all, Table, MAX_LEN, Node, lengths_of, PartsFrom, all_bytes, all_parts, parts_of, AllFitIn, IsCord}
use Rattle.cord_run.proofs.Common.{IsAllOf, FaultKind, Expr, all_texts, cords, length_of, text_in, Entry, extent_in, IsOver, holding_of}
use Rattle.cord_run.proofs.Common.{Wanted, plain_of, AddsExpression, AddsInTurn, InTurn, origins, AreWhole, Builds, IsBuilt, ℤ, replicate}
use Rattle.cord_run.proofs.Common.{inl, append-nil, length-append, Lengths, CordError, Part, PartsFrom-join, PartsFrom-self, bytes_of}
use Rattle.cord_run.proofs.Common.{text_len, CordFits, CordFitsIn, IsCatOf, IsSubstring, HasText, IsRefusal, length-bytes, Number, TooLong}
use Rattle.cord_run.proofs.Common.{number_value, and_then, as_index, as_byte, as_length, name, run, cat, sub, member, nothing, copies}
use Rattle.cord_run.proofs.Common.{measured_copies, part_of, within, Stop, stop_of_cord, content_in, cord_in, operand_in, IsUnbuilt, Origin}
use Rattle.cord_run.proofs.Common.{named, copied, IsCutOf, IsPieceFrom, stop_by, is_within, same_text, ◌≡◌, ◌∷◌, ◌++◌, ◌+◌, ◌≤◌, ◌<◌}
use Rattle.cord_run.proofs.Common.{IsErrAnd}
use Rattle.cord_run.proofs.Lengths.{text_reported, Both, cord_fits, content_text, length_passed, operand_value, texts_split}
use Rattle.cord_io.specs.declared.faults.CordError.TheVariants as errors
use Rattle.cord_run.specs.declared.stops.Stop.TheVariants as stops
use Rattle.cord_run.proofs.Definitions.{long_text, cord_within}
use Rattle.cord_run.proofs.MemberRanges.{joined, turns_joined, two_joined}
use Rattle.cord_run.proofs.Ranges.{all_both, all_fit_both}

-- a text that has a length
record Known (r : Result (List ℕ) FaultKind) (len : ℕ) : Type 0 where
  text : List ℕ
  is : r ≡ Ok text
  long : length text ≡ len

known : (r : Result (List ℕ) FaultKind) (len : ℕ) → Ok len ≡ length_of r → Known r len
known (Ok text) len e = let long : length text ≡ len = cc in record { text = text; is = refl; long = long }
known (Err kind) len e = let bad : ⊥ = cc in absurd bad

faulty : (r : Result (List ℕ) FaultKind) (kind : FaultKind) → Err kind ≡ length_of r → r ≡ Err kind
faulty (Ok text) kind e = let bad : ⊥ = cc in absurd bad
faulty (Err other) kind e = cc

empty_text : (text : List ℕ) → length text ≡ 0 → text ≡ []
empty_text [] h = refl
empty_text (b ∷ text) h = absurd (omega (arith, h))

module _ (entries : List Entry) (e : Expr) where
  -- an expression of no bytes needs no cord
  pub whole_nothing : (pieces : List (Option Node)) → pieces ≡ [] → extent_in entries e ≡ Ok 0 → AreWhole entries e pieces
  whole_nothing pieces none extent = subst (λ (ps : List (Option Node)). AreWhole entries e ps) (sym none) (record {
    fits = λ lengths over. tt;
    bytes = λ t over there.
        let k = known (text_in MAX_LEN (plain_of t entries) e) 0 (sym extent ∙ text_reported t entries over e there) in
        k.is ∙ ap (λ (u : List ℕ). Ok u) (empty_text k.text k.long);
  })

  -- all its bytes
  pub whole_range : (len : ℕ) (old pieces : List (Option Node)) → old ≡ [] → extent_in entries e ≡ Ok len →
      {after : Wanted} → AddsExpression entries e (record { skip = 0; count = len }) after old pieces → AreWhole entries e pieces
  whole_range len old pieces none extent part = record {
    fits = λ lengths over. part.added.fits lengths over (subst (λ (ps : List (Option Node)). AllFitIn lengths ps) (sym none) tt);
    bytes = λ t over there.
        let k = known (text_in MAX_LEN (plain_of t entries) e) len (sym extent ∙ text_reported t entries over e there) in
        let all : all_bytes t pieces ≡ k.text =
        part.added.bytes t over there k.text k.is
        ∙ ap (λ (ps : List (Option Node)). all_bytes t ps ++ take len (drop 0 k.text)) none
        ∙ take_all len k.text (omega (arith, k.long)) in
        k.is ∙ ap (λ (u : List ℕ). Ok u) (sym all);
  }

  -- and they come from its names in turn
  pub whole_in_turn : (old pieces : List (Option Node)) → old ≡ [] → AddsInTurn entries (origins e) old pieces →
      InTurn entries (origins e) pieces
  whole_in_turn old pieces none turns =
      let same : turns.added ≡ pieces = ap (λ (ps : List (Option Node)). ps ++ turns.added) (sym none) ∙ sym turns.is in
      subst (λ (ps : List (Option Node)). InTurn entries (origins e) ps) same turns.each

  -- one cord of them
  pub whole_built : (pieces : List (Option Node)) (cord : Option Node) → AreWhole entries e pieces → InTurn entries (origins e) pieces →
      PartsFrom (all_parts pieces) (parts_of cord) → IsAllOf pieces cord → IsCord cord → IsBuilt entries e cord
  whole_built pieces cord whole turns agrees all sound = record {
    sound = sound;
    fits = λ lengths over. all.fits lengths (whole.fits lengths over);
    bytes = λ t over there. whole.bytes t over there ∙ ap (λ (u : List ℕ). Ok u) (sym (all.bytes t (whole.fits (lengths_of t) over)));
    pieces = pieces;
    whole = whole;
    in_turn = turns;
    shared = agrees;
  }

  -- its fault
  pub whole_faulty : (kind : FaultKind) → Err kind ≡ extent_in entries e → (t : Table) → IsOver (lengths_of t) entries →
      all_texts (holding_of t entries) (cords e) ≡ true → text_in MAX_LEN (plain_of t entries) e ≡ Err kind
  whole_faulty kind extent t over there = faulty (text_in MAX_LEN (plain_of t entries) e) kind
      (extent ∙ text_reported t entries over e there)

-- it is what a `?` hands on
pub unbuilt : (entries : List Entry) (e : Expr) (stop : Stop) (r : Result (Option Node) Stop) → IsErrAnd r (λ x. x ≡ stop) →
    IsUnbuilt entries e stop → Builds entries e r
unbuilt entries e stop (Ok cord) is h = absurd is
unbuilt entries e stop (Err other) is h = record { built = tt; refused = subst (IsUnbuilt entries e) (sym is) h }

-- ---- one part
module _ (entries : List Entry) where
  -- one cord of one origin
  one_built : (e : Expr) (o : Origin) (cord : Option Node) → origins e ≡ o ∷ [] → IsPieceFrom entries o cord → IsCord cord →
      ((lengths : Lengths) → IsOver lengths entries → CordFitsIn lengths cord) →
      ((t : Table) → IsOver (lengths_of t) entries → text_in MAX_LEN (plain_of t entries) e ≡ Ok (bytes_of t cord)) → IsBuilt entries e cord
  one_built e o cord from piece sound fits text = record {
    sound = sound;
    fits = fits;
    bytes = λ t over there. text t over;
    pieces = cord ∷ [];
    whole = record {
      fits = λ lengths over. (fits lengths over, tt);
      bytes = λ t over there. text t over ∙ ap (λ (u : List ℕ). Ok u) (sym (append-nil (bytes_of t cord)));
    };
    in_turn = subst (λ (os : List Origin). InTurn entries os (cord ∷ [])) (sym from) (inl (piece, tt));
    shared = subst (λ (ps : List Part). PartsFrom ps (parts_of cord)) (sym (append-nil (parts_of cord))) (PartsFrom-self (parts_of cord));
  }

  -- a name
  whole_cut : (cord : Option Node) → IsCord cord → IsCutOf cord cord
  whole_cut cord sound = record {
    start = 0;
    count = text_len cord;
    range = record {
      fits = λ lengths h. h;
      bytes = λ t h.
          sym (take_all (text_len cord) (bytes_of t cord)
          (let long : text_len cord ≡ length (bytes_of t cord) = length-bytes t cord sound h in omega (arith, long)));
    };
    shared = PartsFrom-self (parts_of cord);
  }

  pub name_built : (x : List ℕ) (cord : Option Node) → cord ≡ cord_in (content_in entries x) → IsCord cord → IsBuilt entries (name x) cord
  name_built x cord is sound =
      let there : Option Node = cord_in (content_in entries x) in
      let sound_there : IsCord there = subst (λ (c : Option Node). IsCord c) is sound in
      subst (λ (c : Option Node). IsBuilt entries (name x) c) (sym is)
      (one_built (name x) (named x) there refl (whole_cut there sound_there) sound_there
      (λ lengths over. cord_fits lengths (content_in entries x) (over.contents x))
      (λ t over. ap (λ (u : List ℕ). Ok u) (content_text t (content_in entries x))))

  -- a range of a name
  module _ (x : List ℕ) (i n : Number) where
    range_text : (t : Table) (text : List ℕ) (start count : ℕ) → as_index (operand_in entries i) ≡ Ok start →
        as_index (operand_in entries n) ≡ Ok count →
        part_of MAX_LEN text (number_value (plain_of t entries) i) (number_value (plain_of t entries) n)
        ≡ within MAX_LEN (take count (drop start text))
    range_text t text start count first second =
        sym (λ j. part_of MAX_LEN text (operand_value t entries i j) (operand_value t entries n j))
        ∙ (λ j. and_then (first j) (λ a. and_then (second j) (λ m. within MAX_LEN (take m (drop a text)))))

    pub range_built : (start count : ℕ) (cord range : Option Node) → as_index (operand_in entries i) ≡ Ok start →
        as_index (operand_in entries n) ≡ Ok count → cord ≡ cord_in (content_in entries x) → IsSubstring start count cord range →
        PartsFrom (parts_of cord) (parts_of range) → IsCord range → IsBuilt entries (sub (name x) i n) range
    range_built start count cord range first second is cut kept sound =
        let there : Option Node = cord_in (content_in entries x) in
        let cut_there : IsSubstring start count there range = subst (λ (c : Option Node). IsSubstring start count c range) is cut in
        let kept_there : PartsFrom (parts_of there) (parts_of range) = subst (λ (c : Option Node). PartsFrom (parts_of c) (parts_of range))
        is kept in
        one_built (sub (name x) i n) (named x) range refl (record { start = start; count = count; range = cut_there; shared = kept_there })
        sound
        (λ lengths over. cut_there.fits lengths (cord_fits lengths (content_in entries x) (over.contents x)))
        (λ t over.
        let fits : CordFits t there = cord_fits (lengths_of t) (content_in entries x) (over.contents x) in
        ap (λ (u : List ℕ). part_of MAX_LEN u (number_value (plain_of t entries) i) (number_value (plain_of t entries) n))
        (content_text t (content_in entries x))
        ∙ range_text t (bytes_of t there) start count first second
        ∙ ap (λ (u : List ℕ). within MAX_LEN u) (sym (cut_there.bytes t fits))
        ∙ cord_within t range sound (cut_there.fits (lengths_of t) fits))

  -- copies of a byte
  module _ (c n : Number) where
    numbers_same : (t : Table) → text_in MAX_LEN (plain_of t entries) (run c n)
        ≡ copies MAX_LEN (operand_in entries c) (operand_in entries n)
    numbers_same t = sym (λ j. copies MAX_LEN (operand_value t entries c j) (operand_value t entries n j))

    copies_made : (z w : ℤ) (b count : ℕ) → as_byte z ≡ Ok b → measured_copies MAX_LEN z w ≡ Ok count →
        copies MAX_LEN z w ≡ Ok (replicate count b)
    copies_made z w b count byte reported = by_count (as_index w) refl
      where
        by_length : (m : ℕ) (r : Result ℕ FaultKind) → as_length MAX_LEN m ≡ r → r ≡ Ok count →
            and_then r (λ _. Ok (replicate m b)) ≡ Ok (replicate count b)
        by_length m (Ok k) e f =
            let same : m ≡ count = let passed : m ≡ k = (length_passed m k e).0 in cc in
            ap (λ (j : ℕ). Ok (replicate j b)) same
        by_length m (Err kind) e f = let bad : ⊥ = cc in absurd bad

        by_count : (r : Result ℕ FaultKind) → as_index w ≡ r → copies MAX_LEN z w ≡ Ok (replicate count b)
        by_count (Ok m) e =
            (λ j. and_then (byte j) (λ a. and_then (e j) (λ k. and_then (as_length MAX_LEN k) (λ _. Ok (replicate k a)))))
            ∙ by_length m (as_length MAX_LEN m) refl
            (sym (λ j. and_then (byte j) (λ a. and_then (e j) (λ k. as_length MAX_LEN k))) ∙ reported)
        by_count (Err kind) e =
            let none : Err kind ≡ Ok count = sym (λ j. and_then (byte j) (λ a. and_then (e j) (λ k. as_length MAX_LEN k))) ∙ reported in
            let bad : ⊥ = cc in absurd bad

    pub run_built : (b count : ℕ) (cord : Option Node) → as_byte (operand_in entries c) ≡ Ok b →
        measured_copies MAX_LEN (operand_in entries c) (operand_in entries n) ≡ Ok count → HasText (replicate count b) cord → IsCord cord →
        IsBuilt entries (run c n) cord
    run_built b count cord byte reported has sound = one_built (run c n) (copied c) cord refl
        (record { value = b; count = count; is = byte; text = has }) sound (λ lengths over. has.fits lengths)
        (λ t over. numbers_same t ∙ copies_made (operand_in entries c) (operand_in entries n) b count byte reported
        ∙ ap (λ (u : List ℕ). Ok u) (sym (has.bytes t)))

-- ---- two parts
module _ (entries : List Entry) (d e : Expr) where
  abbrev pub both : Expr
  both = cat (member d (member e nothing))

  -- the names of both hold texts
  here : (t : Table) → all_texts (holding_of t entries) (cords both) ≡ true →
      Both (all_texts (holding_of t entries) (cords d)) (all_texts (holding_of t entries) (cords e))
  here t there =
      let split = texts_split (holding_of t entries) (cords d) (cords e ++ []) there in
      record {
        first = split.first;
        second = subst (λ (xs : List (List ℕ)). all_texts (holding_of t entries) xs ≡ true) (append-nil (cords e)) split.second;
      }

  module _ (prefix suffix : Option Node) (one : IsBuilt entries d prefix) (other : IsBuilt entries e suffix) where
    long : (t : Table) → IsOver (lengths_of t) entries → text_len prefix + text_len suffix ≡ length (bytes_of t prefix ++ bytes_of t suffix)
    long t over =
        let first : text_len prefix ≡ length (bytes_of t prefix) = length-bytes t prefix one.sound (one.fits (lengths_of t) over) in
        let second : text_len suffix ≡ length (bytes_of t suffix) = length-bytes t suffix other.sound (other.fits (lengths_of t) over) in
        omega (arith, first, second, length-append (bytes_of t prefix) (bytes_of t suffix))

    pair_text : (t : Table) → IsOver (lengths_of t) entries → all_texts (holding_of t entries) (cords both) ≡ true →
        text_len prefix + text_len suffix ≤ MAX_LEN → text_in MAX_LEN (plain_of t entries) both ≡ Ok
        (bytes_of t prefix ++ bytes_of t suffix)
    pair_text t over there short =
        let h = here t there in
        two_joined (plain_of t entries) d e (bytes_of t prefix) (bytes_of t suffix) (one.bytes t over h.first) (other.bytes t over h.second)
        ∙ is_within MAX_LEN (bytes_of t prefix ++ bytes_of t suffix) (subst (λ (n : ℕ). n ≤ MAX_LEN) (long t over) short)

    -- the bytes of the pieces of both
    pieces_same : (t : Table) → IsOver (lengths_of t) entries → all_texts (holding_of t entries) (cords both) ≡ true →
        bytes_of t prefix ++ bytes_of t suffix ≡ all_bytes t (one.pieces ++ other.pieces)
    pieces_same t over there =
        let h = here t there in
        let prefix_same : bytes_of t prefix ≡ all_bytes t one.pieces =
        same_text _ (bytes_of t prefix) (all_bytes t one.pieces) (one.bytes t over h.first) (one.whole.bytes t over h.first) in
        let after_same : bytes_of t suffix ≡ all_bytes t other.pieces =
        same_text _ (bytes_of t suffix) (all_bytes t other.pieces) (other.bytes t over h.second) (other.whole.bytes t over h.second) in
        (λ j. prefix_same j ++ after_same j)
        ∙ sym (all_both (λ (ps : List (Option Node)). all_bytes t ps) (λ (p : Option Node). bytes_of t p) refl (λ p ps. refl) one.pieces other.pieces)

    pub pair_built : (cord : Option Node) → IsCatOf prefix suffix cord → IsCord cord →
        PartsFrom (parts_of prefix ++ parts_of suffix) (parts_of cord) → text_len prefix + text_len suffix ≤ MAX_LEN → IsBuilt entries both
        cord
    pair_built cord is sound kept short = record {
      sound = sound;
      fits = λ lengths over. is.fits lengths (one.fits lengths over) (other.fits lengths over);
      bytes = λ t over there. pair_text t over there short
          ∙ ap (λ (u : List ℕ). Ok u) (sym (is.bytes t (one.fits (lengths_of t) over) (other.fits (lengths_of t) over)));
      pieces = one.pieces ++ other.pieces;
      whole = record {
        fits = λ lengths over. all_fit_both lengths one.pieces other.pieces (one.whole.fits lengths over) (other.whole.fits lengths over);
        bytes = λ t over there. pair_text t over there short ∙ ap (λ (u : List ℕ). Ok u) (pieces_same t over there);
      };
      in_turn = turns_joined entries (origins d) (origins e ++ []) one.pieces other.pieces one.in_turn
          (subst (λ (os : List Origin). InTurn entries os other.pieces) (sym (append-nil (origins e))) other.in_turn);
      shared = subst (λ (ps : List Part). PartsFrom ps (parts_of cord))
          (sym (all_both all_parts parts_of refl (λ p ps. refl) one.pieces other.pieces))
          (PartsFrom-join (all_parts one.pieces) (all_parts other.pieces) (parts_of prefix) (parts_of suffix) (parts_of cord) one.shared
          other.shared kept);
    }

    -- they are too long together
    pub pair_too_long : MAX_LEN < text_len prefix + text_len suffix → IsUnbuilt entries both (stops.Fault TooLong)
    pair_too_long above = λ t over there.
        let h = here t there in
        two_joined (plain_of t entries) d e (bytes_of t prefix) (bytes_of t suffix) (one.bytes t over h.first) (other.bytes t over h.second)
        ∙ long_text (bytes_of t prefix ++ bytes_of t suffix) (subst (λ (n : ℕ). MAX_LEN < n) (long t over) above)

    -- their join is refused
    abbrev pub ReportsTooLong : Result (Option Node) CordError → Type 0
    ReportsTooLong r = r ≡ Err errors.TooLong → MAX_LEN < text_len prefix + text_len suffix

    pub pair_refused : (error : CordError) → IsRefusal error → ReportsTooLong (Err error) → IsUnbuilt entries both (stop_of_cord error)
    pair_refused errors.NoMemory refused above = tt
    pair_refused errors.TooLong refused above = pair_too_long (above refl)
    pair_refused _ refused above = refused

  -- the first has a fault, or no memory
  pub first_unbuilt : (stop : Stop) → IsUnbuilt entries d stop → IsUnbuilt entries both stop
  first_unbuilt = stop_by _ _ (λ kind faulty t over there.
      ap (λ (r : Result (List ℕ) FaultKind). and_then (joined r (joined (text_in MAX_LEN (plain_of t entries) e) (Ok [])))
      (λ text. within MAX_LEN text)) (faulty t over (here t there).first))

  -- the first one was built, and the other has a fault, or no memory
  pub second_unbuilt : (prefix : Option Node) → IsBuilt entries d prefix → (stop : Stop) → IsUnbuilt entries e stop →
      IsUnbuilt entries both stop
  second_unbuilt prefix one = stop_by _ _ (λ kind faulty t over there.
      let h = here t there in
      (λ j. and_then (joined (one.bytes t over h.first j) (joined (faulty t over h.second j) (Ok []))) (λ text. within MAX_LEN text)))
