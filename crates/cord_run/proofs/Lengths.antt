-- The lengths known of expressions are those of their texts, over every table that the names fit.
use Rattle.cord_run.proofs.Common.{ℕ, ℤ, Bool, true, false, List, [], length, replicate, Ok, Err, refl, sym, ap, subst, ◌∙◌, inl, inr}
use Rattle.cord_run.proofs.Common.{arith, nat_le, min, Some, None, leb-true, length-replicate, Table, Lengths, MAX_LEN, lengths_of}
use Rattle.cord_run.proofs.Common.{len_limit, bytes_of, CordFitsIn, IsCord, length-bytes, Number, Numeral, Named, TooLong, State}
use Rattle.cord_run.proofs.Common.{number_value, and_then, as_index, as_byte, as_length, Expr, name, run, cat, sub, measured}
use Rattle.cord_run.proofs.Common.{measured_members, length_of, text_in, Held, Text, Holding, plain, is_text, held_text, held_length}
use Rattle.cord_run.proofs.Common.{all_texts, cords, extent, Content, Whole, Long, Entry, extent_in, content_in, length_in, operand_in}
use Rattle.cord_run.proofs.Common.{content_length, cord_in, ContentFits, IsOver, held_over, holding_of, plain_of, passes, ◌≡◌, ◌≤◌, ◌-◌}
use Rattle.cord_run.proofs.Common.{◌&&◌, ◌∷◌, ◌++◌, if◌then◌else◌}
use Rattle.cord_plan.specs.Meaning as meaning
use Rattle.cord_plan.proofs.Evaluation.{In, value_same, extent_is}

-- the cord of a content that fits
pub cord_sound : (lengths : Lengths) (c : Content) → ContentFits lengths c → IsCord (cord_in c)
cord_sound lengths (Whole cord) h = h.0
cord_sound lengths (Long len) h = tt

pub cord_fits : (lengths : Lengths) (c : Content) → ContentFits lengths c → CordFitsIn lengths (cord_in c)
cord_fits lengths (Whole cord) h = h.1
cord_fits lengths (Long len) h = tt

-- the text of a content is that of its cord
pub content_text : (t : Table) (c : Content) → held_text (held_over t c) ≡ bytes_of t (cord_in c)
content_text t (Whole cord) = refl
content_text t (Long len) = refl

-- the length known of a content is that of what it holds
pub reported_length : (t : Table) (c : Content) → ContentFits (lengths_of t) c → content_length c ≡ held_length (held_over t c)
reported_length t (Whole cord) h = length-bytes t cord h.0 h.1
reported_length t (Long len) h = refl

-- a number operand has the value that the holding gives it
pub operand_value : (t : Table) (entries : List Entry) (n : Number) → operand_in entries n ≡ number_value (plain_of t entries) n
operand_value t entries (Numeral z) = refl
operand_value t entries (Named x) = refl

module _ (t : Table) (entries : List Entry) (over : IsOver (lengths_of t) entries) where
  -- the length known of an expression is the one that the meaning of plans has
  pub reported_extent : (e : Expr) → extent_in entries e ≡ extent MAX_LEN e (holding_of t entries)
  reported_extent e = λ i. measured MAX_LEN (λ x. reported_length t (content_in entries x) (over.contents x) i)
      (λ n. operand_value t entries n i) e

-- a text of the length that is reported
abbrev padded : Held → List ℕ
padded (Text text) = text
padded (meaning.Long len) = replicate len 0

padded_length : (k : Held) → held_length k ≡ length (padded k)
padded_length (Text text) = refl
padded_length (meaning.Long len) = sym (length-replicate len 0)

padded_same : (k : Held) → is_text k ≡ true → held_text k ≡ padded k
padded_same (Text text) e = refl
padded_same (meaning.Long len) e = let bad : ⊥ = cc in absurd bad

-- two tests that hold together
pub record Both (a b : Bool) : Type 0 where
  pub first : a ≡ true
  pub second : b ≡ true

pub both : (a b : Bool) → (a && b) ≡ true → Both a b
both true b e = record { first = refl; second = e }
both false b e = let bad : ⊥ = cc in absurd bad

-- one of the names that all hold texts
text_there : (h : Holding) (xs : List (List ℕ)) (y : List ℕ) → all_texts h xs ≡ true → In y xs → is_text (h.held y) ≡ true
text_there h [] y e i = absurd i
text_there h (x ∷ xs) y e (inl same) = ap (λ (z : List ℕ). is_text (h.held z)) same ∙ (both (is_text (h.held x)) (all_texts h xs) e).first
text_there h (x ∷ xs) y e (inr i) = text_there h xs y (both (is_text (h.held x)) (all_texts h xs) e).second i

-- the names of two lists
pub texts_split : (h : Holding) (xs ys : List (List ℕ)) → all_texts h (xs ++ ys) ≡ true → Both (all_texts h xs) (all_texts h ys)
texts_split h [] ys e = record { first = refl; second = e }
texts_split h (x ∷ xs) ys e =
    let here = both (is_text (h.held x)) (all_texts h (xs ++ ys)) e in
    let rest = texts_split h xs ys here.second in
    record { first = ap (λ (v : Bool). v && all_texts h xs) here.first ∙ rest.first; second = rest.second }

module _ (t : Table) (entries : List Entry) (over : IsOver (lengths_of t) entries) (e : Expr)
    (there : all_texts (holding_of t entries) (cords e) ≡ true) where
  -- the length known of an expression whose names all hold texts is that of its text
  pub text_reported : extent_in entries e ≡ length_of (text_in MAX_LEN (plain_of t entries) e)
  text_reported =
      let h : Holding = holding_of t entries in
      let full : State = record { texts = λ x. padded (h.held x); numbers = h.numbers; extensibles = h.extensibles } in
      let same : text_in MAX_LEN (plain h) e ≡ text_in MAX_LEN full e =
      value_same MAX_LEN (plain h) full e (λ y i. padded_same (h.held y) (text_there h (cords e) y there i)) (λ y i. refl) in
      reported_extent t entries over e ∙ extent_is MAX_LEN h full refl (λ y. padded_length (h.held y)) e ∙ ap length_of (sym same)

  -- such an expression is as long as its text
  pub text_length : (text : List ℕ) → text_in MAX_LEN (plain_of t entries) e ≡ Ok text → extent_in entries e ≡ Ok (length text)
  text_length text is = text_reported ∙ ap length_of is

-- no length is reported that is longer than a cord can be
cord_short : (lengths : Lengths) (c : Content) → ContentFits lengths c → content_length c ≤ MAX_LEN
cord_short lengths (Whole None) h = omega arith
cord_short lengths (Whole (Some node)) h = len_limit node h.0
cord_short lengths (Long len) h = h

-- a length that was let pass
pub length_passed : (n len : ℕ) → as_length MAX_LEN n ≡ Ok len → (n ≡ len) × (len ≤ MAX_LEN)
length_passed n len e = by_test (nat_le n MAX_LEN) refl e
  where
    by_test : (v : Bool) → nat_le n MAX_LEN ≡ v → (if v then Ok n else Err TooLong) ≡ Ok len → (n ≡ len) × (len ≤ MAX_LEN)
    by_test true t k =
        let same : n ≡ len = cc in
        let short : n ≤ MAX_LEN = leb-true n MAX_LEN t in
        (same, omega arith)
    by_test false t k = let bad : ⊥ = cc in absurd bad

module _ (lengths : List ℕ → ℕ) (numbers : Number → ℤ) (short : (x : List ℕ) → lengths x ≤ MAX_LEN) where
  -- nor one of an expression of such names
  pub measured_short : (e : Expr) (len : ℕ) → measured MAX_LEN lengths numbers e ≡ Ok len → len ≤ MAX_LEN
  measured_short (name x) len e =
      let same : lengths x ≡ len = cc in
      subst (λ (n : ℕ). n ≤ MAX_LEN) same (short x)
  measured_short (run c n) len e =
      let p = passes (as_byte (numbers c)) (λ b. and_then (as_index (numbers n)) (λ k. as_length MAX_LEN k)) len e in
      let q = passes (as_index (numbers n)) (λ k. as_length MAX_LEN k) len p.next in
      (length_passed q.middle len q.next).1
  measured_short (cat es) len e =
      let p = passes (measured_members MAX_LEN lengths numbers es) (λ k. as_length MAX_LEN k) len e in
      (length_passed p.middle len p.next).1
  measured_short (sub inner i n) len e =
      let p = passes (measured MAX_LEN lengths numbers inner)
      (λ k. and_then (as_index (numbers i)) (λ a. and_then (as_index (numbers n)) (λ m. as_length MAX_LEN (min m (k - a))))) len e in
      let q = passes (as_index (numbers i)) (λ a. and_then (as_index (numbers n)) (λ m. as_length MAX_LEN (min m (p.middle - a)))) len
      p.next in
      let r = passes (as_index (numbers n)) (λ m. as_length MAX_LEN (min m (p.middle - q.middle))) len q.next in
      (length_passed (min r.middle (p.middle - q.middle)) len r.next).1

-- a length that is known of a name is that of a cord
pub known_short : (lengths : Lengths) (entries : List Entry) → IsOver lengths entries → (x : List ℕ) → length_in entries x ≤ MAX_LEN
known_short lengths entries over x = cord_short lengths (content_in entries x) (over.contents x)

pub extent_short : (lengths : Lengths) (entries : List Entry) → IsOver lengths entries → (e : Expr) (len : ℕ) →
    extent_in entries e ≡ Ok len → len ≤ MAX_LEN
extent_short lengths entries over e len is =
    measured_short (λ x. length_in entries x) (λ n. operand_in entries n) (λ x. known_short lengths entries over x) e len is
