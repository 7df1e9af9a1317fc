-- Texts and lengths of expressions.
use Rattle.std.specs.Prelude.{◌≡◌, ◌+◌, ◌-◌, ◌≤◌, ◌++◌, if◌then◌else◌}
use Rattle.cord_plan.proofs.Common.{ℕ, ℤ, Bool, true, false, List, length, take, drop, Result, Ok, Err, refl, sym, ap, ◌∙◌, length-append}
use Rattle.cord_plan.proofs.Common.{subst, min, nat_le, replicate, leb-true, le-leb, length-take, length-drop, length-replicate, Number}
use Rattle.cord_plan.proofs.Common.{FaultKind, TooLong, State, number_value, and_then, as_index, as_byte, as_length, Expr, name, run, cat}
use Rattle.cord_plan.proofs.Common.{sub, Exprs, nothing, member, within, part_of, copies, value, values, measured_copies, measured_part}
use Rattle.cord_plan.proofs.Common.{measured, measured_members, length_of, text_in}

-- what comes after a result that is none of a fault
pub record Passes {A B : Type 0} (r : Result A FaultKind) (f : A → Result B FaultKind) (b : B) : Type 0 where
  pub middle : A
  pub first : r ≡ Ok middle
  pub next : f middle ≡ Ok b

pub passes : {A B : Type 0} (r : Result A FaultKind) (f : A → Result B FaultKind) (b : B) → and_then r f ≡ Ok b → Passes r f b
passes (Ok a) f b h = record { middle = a; first = refl; next = h }
passes (Err kind) f b h = let bad : ⊥ = cc in absurd bad

pub same_text : (r : Result (List ℕ) FaultKind) (t u : List ℕ) → r ≡ Ok t → r ≡ Ok u → t ≡ u
same_text r t u h k = cc

-- a text that was let pass is the same, and short
pub record Fits (limit : ℕ) (text passed : List ℕ) : Type 0 where
  pub same : text ≡ passed
  pub short : length text ≤ limit

pub fits_within : (limit : ℕ) (text passed : List ℕ) → within limit text ≡ Ok passed → Fits limit text passed
fits_within limit text passed h = pick (nat_le (length text) limit) refl h
  where
    pick : (v : Bool) → nat_le (length text) limit ≡ v → and_then {A = ℕ} (if v then Ok (length text) else Err TooLong) (λ _. Ok text)
        ≡ Ok passed → Fits limit text passed
    pick true e k =
        let same : text ≡ passed = cc in
        record { same = same; short = leb-true (length text) limit e }
    pick false e k = let bad : ⊥ = cc in absurd bad

pub is_within : (limit : ℕ) (text : List ℕ) → length text ≤ limit → within limit text ≡ Ok text
is_within limit text short = ap (λ (v : Bool). and_then {A = ℕ} (if v then Ok (length text) else Err TooLong) (λ _. Ok text))
    (le-leb (length text) limit short)

-- the length of a text within the limit
pub within_length : (limit : ℕ) (text : List ℕ) → as_length limit (length text) ≡ length_of (within limit text)
within_length limit text = pick (nat_le (length text) limit)
  where
    pick : (v : Bool) → (if v then Ok (length text) else Err TooLong)
        ≡ length_of (and_then {A = ℕ} (if v then Ok (length text) else Err TooLong) (λ _. Ok text))
    pick true = refl
    pick false = refl

copies_length : (limit : ℕ) (byte : ℤ) (count : ℤ) → measured_copies limit byte count ≡ length_of (copies limit byte count)
copies_length limit byte count = by_checks (as_byte byte) (as_index count)
  where
    by_limit : (b n : ℕ) (v : Bool) → (if v then Ok n else Err TooLong)
        ≡ length_of (and_then {A = ℕ} (if v then Ok n else Err TooLong) (λ _. Ok (replicate n b)))
    by_limit b n true = ap (λ (k : ℕ). Ok k) (sym (length-replicate n b))
    by_limit b n false = refl

    by_checks : (rb rn : Result ℕ FaultKind) → and_then rb (λ b. and_then rn (λ n. as_length limit n))
        ≡ length_of (and_then rb (λ b. and_then rn (λ n. and_then (as_length limit n) (λ _. Ok (replicate n b)))))
    by_checks (Err kind) rn = refl
    by_checks (Ok b) (Err kind) = refl
    by_checks (Ok b) (Ok n) = by_limit b n (nat_le n limit)

part_length : (limit : ℕ) (text : List ℕ) (start count : ℤ) → measured_part limit (length text) start count
    ≡ length_of (part_of limit text start count)
part_length limit text start count = by_checks (as_index start) (as_index count)
  where
    by_checks : (ri rn : Result ℕ FaultKind) → and_then ri (λ i. and_then rn (λ n. as_length limit (min n (length text - i))))
        ≡ length_of (and_then ri (λ i. and_then rn (λ n. within limit (take n (drop i text)))))
    by_checks (Err kind) rn = refl
    by_checks (Ok i) (Err kind) = refl
    by_checks (Ok i) (Ok n) =
        let len : length (take n (drop i text)) ≡ min n (length text - i) =
        length-take n (drop i text) ∙ ap (λ (k : ℕ). min n k) (length-drop i text) in
        ap (λ (k : ℕ). as_length limit k) (sym len) ∙ within_length limit (take n (drop i text))

joined_length : (limit : ℕ) (r : Result (List ℕ) FaultKind) → and_then (length_of r) (λ len. as_length limit len)
    ≡ length_of (and_then r (λ text. within limit text))
joined_length limit (Ok text) = within_length limit text
joined_length limit (Err kind) = refl

sub_length : (limit : ℕ) (start count : ℤ) (r : Result (List ℕ) FaultKind) →
    and_then (length_of r) (λ len. measured_part limit len start count) ≡ length_of (and_then r (λ text. part_of limit text start count))
sub_length limit start count (Ok text) = part_length limit text start count
sub_length limit start count (Err kind) = refl

member_length : (r q : Result (List ℕ) FaultKind) → and_then (length_of r) (λ len. and_then (length_of q) (λ others. Ok (len + others)))
    ≡ length_of (and_then r (λ text. and_then q (λ rest. Ok (text ++ rest))))
member_length (Ok t) (Ok u) = ap (λ (k : ℕ). Ok k) (sym (length-append t u))
member_length (Ok t) (Err kind) = refl
member_length (Err kind) q = refl

module _ (limit : ℕ) (texts : List ℕ → List ℕ) (numbers : Number → ℤ) where
  mutual
    pub measure_is : (e : Expr) → measured limit (λ x. length (texts x)) numbers e ≡ length_of (value limit texts numbers e)
    measure_is (name x) = refl
    measure_is (run c n) = copies_length limit (numbers c) (numbers n)
    measure_is (cat es) = ap (λ (r : Result ℕ FaultKind). and_then r (λ len. as_length limit len)) (measures_are es)
        ∙ joined_length limit (values limit texts numbers es)
    measure_is (sub e i n) = ap (λ (r : Result ℕ FaultKind). and_then r (λ len. measured_part limit len (numbers i) (numbers n)))
        (measure_is e) ∙ sub_length limit (numbers i) (numbers n) (value limit texts numbers e)

    pub measures_are : (es : Exprs) → measured_members limit (λ x. length (texts x)) numbers es ≡ length_of (values limit texts numbers es)
    measures_are nothing = refl
    measures_are (member e es) =
        ap (λ (r : Result ℕ FaultKind). and_then r (λ len. and_then (measured_members limit (λ x. length (texts x)) numbers es)
        (λ others. Ok (len + others)))) (measure_is e)
        ∙ ap (λ (r : Result ℕ FaultKind). and_then (length_of (value limit texts numbers e))
        (λ len. and_then r (λ others. Ok (len + others)))) (measures_are es)
        ∙ member_length (value limit texts numbers e) (values limit texts numbers es)

-- the texts of members in a state, joined
abbrev pub joined_in : ℕ → State → Exprs → Result (List ℕ) FaultKind
joined_in limit s es = values limit s.texts (λ n. number_value s n) es

-- the members of a `cat` without a fault have its text, which is short
pub record HasJoined (limit : ℕ) (s : State) (es : Exprs) (text : List ℕ) : Type 0 where
  pub joined : joined_in limit s es ≡ Ok text
  pub short : length text ≤ limit

pub cat_joined : (limit : ℕ) (s : State) (es : Exprs) (text : List ℕ) → text_in limit s (cat es) ≡ Ok text → HasJoined limit s es text
cat_joined limit s es text h =
    let p = passes (joined_in limit s es) (λ t. within limit t) text h in
    let f = fits_within limit p.middle text p.next in
    record { joined = p.first ∙ ap (λ (t : List ℕ). Ok t) f.same; short = subst (λ (t : List ℕ). length t ≤ limit) f.same f.short }
