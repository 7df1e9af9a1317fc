-- Words as sets of bits.
use Rattle.std.specs.Prelude.{◌≡◌, ◌≢◌, ◌+◌, ◌-◌, ◌*◌, ◌%◌, ◌^◌, ◌<◌, ◌==◌, ◌&&◌, ◌||◌, ◌∷◌}
use Rattle.cord_plan.proofs.Common.{ℕ, zero, suc, Bool, true, false, List, length, set, get_or, Option, Some, refl, sym, ap, arith, not}
use Rattle.cord_plan.proofs.Common.{min, max, bit_at, bit_not, w128, bit_and, bit_or, bit_at_or, bit_at_and, bit_at_not, bit_at-lt}
use Rattle.cord_plan.proofs.Common.{bit_at-zero, bit_at_set_same, bit_at_set_other, or_zero_l, or-false, some_of, bit, column, room, at}
use Rattle.cord_plan.proofs.Common.{flow}
use Rattle.std.proofs.lemmas.List.Sums.{sum_by-set}
use Rattle.std.specs.Option.{option_to_list}

-- a digit of two
of_max : (a b : ℕ) → a < 2 → b < 2 → (max a b == 1) ≡ ((a == 1) || (b == 1))
of_max zero zero p q = refl
of_max zero (suc zero) p q = refl
of_max (suc zero) zero p q = refl
of_max (suc zero) (suc zero) p q = refl
of_max (suc (suc a)) b p q = absurd (omega arith)
of_max a (suc (suc b)) p q = absurd (omega arith)

of_min : (a b : ℕ) → a < 2 → b < 2 → (min a b == 1) ≡ ((a == 1) && (b == 1))
of_min zero zero p q = refl
of_min zero (suc zero) p q = refl
of_min (suc zero) zero p q = refl
of_min (suc zero) (suc zero) p q = refl
of_min (suc (suc a)) b p q = absurd (omega arith)
of_min a (suc (suc b)) p q = absurd (omega arith)

of_not : (a : ℕ) → a < 2 → (1 - a == 1) ≡ not (a == 1)
of_not zero p = refl
of_not (suc zero) p = refl
of_not (suc (suc a)) p = absurd (omega arith)

pub bit_or_is : (a b i : ℕ) → bit (bit_or a b) i ≡ (bit a i || bit b i)
bit_or_is a b i = rw (bit_at_or a b i) (of_max (bit_at a i) (bit_at b i) (bit_at-lt a i) (bit_at-lt b i))

pub bit_and_is : (a b i : ℕ) → bit (bit_and a b) i ≡ (bit a i && bit b i)
bit_and_is a b i = rw (bit_at_and a b i) (of_min (bit_at a i) (bit_at b i) (bit_at-lt a i) (bit_at-lt b i))

pub bit_not_is : (a i : ℕ) → a < 2 ^ 128 → i < 128 → bit (bit_not w128 a) i ≡ not (bit a i)
bit_not_is a i lt within = rw (bit_at_not w128 a i lt within) (of_not (bit_at a i) (bit_at-lt a i))

pub bit_zero_is : (i : ℕ) → bit 0 i ≡ false
bit_zero_is i = rw (bit_at-zero i) refl

pub bit_one_same : (k : ℕ) → k < 128 → bit (1 * 2 ^ k % 2 ^ 128) k ≡ true
bit_one_same k within =
    let there : bit_at (1 * 2 ^ k % 2 ^ 128) k ≡ 1 = rw (or_zero_l (1 * 2 ^ k % 2 ^ 128)) at (bit_at_set_same w128 0 k within) in
    rw there refl

pub bit_one_other : (k i : ℕ) → k < 128 → i ≢ k → bit (1 * 2 ^ k % 2 ^ 128) i ≡ false
bit_one_other k i within other =
    let there : bit_at (1 * 2 ^ k % 2 ^ 128) i ≡ 0 =
    rw (or_zero_l (1 * 2 ^ k % 2 ^ 128), bit_at-zero i) at (bit_at_set_other w128 0 k within i other) in
    rw there refl

-- what the flow makes of a word
pub flow_bits : (word suffix assigned i : ℕ) → assigned < 2 ^ 128 → i < 128 → bit (bit_or word (bit_and suffix (bit_not w128 assigned))) i
    ≡ flow (bit word i) (bit suffix i) (bit assigned i)
flow_bits word suffix assigned i lt within = rw (
  bit_or_is word (bit_and suffix (bit_not w128 assigned)) i,
  bit_and_is suffix (bit_not w128 assigned) i,
  bit_not_is assigned i lt within,
) refl

-- the bits of two places after
pub after_bits : (words : List ℕ) (i first second : ℕ) (o : Option ℕ) (v w : ℕ) → o ≡ Some second → bit v i ≡ at (column words i) first →
    bit w i ≡ at (column words i) second → bit (bit_or v w) i ≡ some_of (λ q. at (column words i) q) (first ∷ option_to_list o)
after_bits words i first second o v w is one two = rw (is, bit_or_is v w i, one, two)
    (ap (λ (b : Bool). at (column words i) first || b) (sym (or-false (at (column words i) second))))

pub flow_same : (a b c d e f : Bool) → a ≡ d → b ≡ e → c ≡ f → flow a b c ≡ flow d e f
flow_same a b c d e f one two three = rw (one, two, three) refl

-- a greater word takes room
pub room_less : (words : List ℕ) (p new : ℕ) → p < length words → get_or words p 0 < new → new < 2 ^ 128 →
    room (set words p new) < room words
room_less words p new lt less within = less_room (room (set words p new)) (room words) (get_or words p 0)
    (sum_by-set (λ w. 2 ^ 128 - w) words p new 0 lt) less
  where
    less_room : (a b old : ℕ) → a + (2 ^ 128 - old) ≡ b + (2 ^ 128 - new) → old < new → a < b
    less_room a b old e more = omega arith
