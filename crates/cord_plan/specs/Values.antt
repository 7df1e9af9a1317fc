-- What an expression means: its text or its fault, given what names hold; and its length or its fault, where only the
-- lengths of the names' texts are known. Every check is made, also of what stands inside, from left to right.
use Rattle.std.specs.Prelude.{ℕ, ℤ, ◌+◌, ◌-◌, min, List, [], ◌++◌, length, take, drop, replicate, Result, Ok, Err}
use Rattle.cord_operands.specs.declared.operands.Number.{Number}
use Rattle.cord_meaning.specs.declared.ends.FaultKind.{FaultKind}
use Rattle.cord_meaning.specs.State.{State, Outcome, number_value, and_then, as_index, as_byte, as_length, with_value}
use Rattle.cord_plan.specs.Exprs.{Expr, name, run, cat, sub, Exprs, nothing, member}

-- a text that is within the limit
abbrev pub within : ℕ → List ℕ → Result (List ℕ) FaultKind
within limit text = and_then (as_length limit (length text)) (λ _. Ok text)

-- so many copies of a byte
abbrev pub copies : ℕ → ℤ → ℤ → Result (List ℕ) FaultKind
copies limit byte count =
    and_then (as_byte byte) (λ b. and_then (as_index count) (λ n. and_then (as_length limit n) (λ _. Ok (replicate n b))))

-- at most so many bytes of a text from a place on
abbrev pub part_of : ℕ → List ℕ → ℤ → ℤ → Result (List ℕ) FaultKind
part_of limit text start count = and_then (as_index start) (λ i. and_then (as_index count) (λ n. within limit (take n (drop i text))))

-- the text of an expression, where names of cords hold these texts and number operands have these values; and the texts of members, joined
abbrev mutual
  pub value : ℕ → (List ℕ → List ℕ) → (Number → ℤ) → Expr → Result (List ℕ) FaultKind
  value limit texts numbers (name x) = Ok (texts x)
  value limit texts numbers (run c n) = copies limit (numbers c) (numbers n)
  value limit texts numbers (cat es) = and_then (values limit texts numbers es) (λ text. within limit text)
  value limit texts numbers (sub e i n) = and_then (value limit texts numbers e) (λ text. part_of limit text (numbers i) (numbers n))

  pub values : ℕ → (List ℕ → List ℕ) → (Number → ℤ) → Exprs → Result (List ℕ) FaultKind
  values limit texts numbers nothing = Ok []
  values limit texts numbers (member e es) = and_then (value limit texts numbers e)
      (λ text. and_then (values limit texts numbers es) (λ rest. Ok (text ++ rest)))

-- the length of so many copies of a byte
abbrev pub measured_copies : ℕ → ℤ → ℤ → Result ℕ FaultKind
measured_copies limit byte count = and_then (as_byte byte) (λ b. and_then (as_index count) (λ n. as_length limit n))

-- the length of at most so many bytes from a place on of a text of this length
abbrev pub measured_part : ℕ → ℕ → ℤ → ℤ → Result ℕ FaultKind
measured_part limit len start count = and_then (as_index start) (λ i. and_then (as_index count) (λ n. as_length limit (min n (len - i))))

-- the length of an expression's text, where the texts of names of cords have these lengths; and that of members together
abbrev mutual
  pub measured : ℕ → (List ℕ → ℕ) → (Number → ℤ) → Expr → Result ℕ FaultKind
  measured limit lengths numbers (name x) = Ok (lengths x)
  measured limit lengths numbers (run c n) = measured_copies limit (numbers c) (numbers n)
  measured limit lengths numbers (cat es) = and_then (measured_members limit lengths numbers es) (λ len. as_length limit len)
  measured limit lengths numbers (sub e i n) = and_then (measured limit lengths numbers e)
      (λ len. measured_part limit len (numbers i) (numbers n))

  pub measured_members : ℕ → (List ℕ → ℕ) → (Number → ℤ) → Exprs → Result ℕ FaultKind
  measured_members limit lengths numbers nothing = Ok 0
  measured_members limit lengths numbers (member e es) = and_then (measured limit lengths numbers e)
      (λ len. and_then (measured_members limit lengths numbers es) (λ others. Ok (len + others)))

-- the text of an expression in a state, and the length that is reported where no more than the lengths of its texts is known
abbrev pub text_in : ℕ → State → Expr → Result (List ℕ) FaultKind
text_in limit s e = value limit s.texts (λ n. number_value s n) e

abbrev pub length_in : ℕ → State → Expr → Result ℕ FaultKind
length_in limit s e = measured limit (λ x. length (s.texts x)) (λ n. number_value s n) e

-- the length of a text that may be a fault
abbrev pub length_of : Result (List ℕ) FaultKind → Result ℕ FaultKind
length_of (Ok text) = Ok (length text)
length_of (Err kind) = Err kind

-- a name of a cord gets the text of an expression, or the line meets its fault
abbrev pub gives_text : State → List ℕ → Result (List ℕ) FaultKind → Outcome
gives_text s target text = and_then text (λ t. Ok (record s { texts = with_value s.texts target t }, []))

-- the text of an expression is put, or the line meets its fault
abbrev pub puts_text : State → Result (List ℕ) FaultKind → Outcome
puts_text s text = and_then text (λ t. Ok (s, t))
