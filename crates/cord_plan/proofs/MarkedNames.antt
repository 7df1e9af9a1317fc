-- Words that mark names.
use Rattle.std.specs.Prelude.{◌≡◌, ◌⊎◌, ◌+◌, ◌*◌, ◌/◌, ◌%◌, ◌^◌, ◌<◌, ◌||◌, ◌∷◌, ◌++◌}
use Rattle.cord_plan.proofs.Common.{ℕ, Bool, true, false, List, [], take, length, get_or, Option, Some, None, refl, sym, ap, ◌∙◌, subst}
use Rattle.cord_plan.proofs.Common.{inl, inr, arith, slice_get, bytes_eq, bit_or, or-false, div-add-mod, mod-lt, cases_eq, take_more}
use Rattle.cord_plan.proofs.Common.{Numbering, has, is_this_name, names_of, number_in, number_of, bit, IsBit, Marks}
use Rattle.cord_plan.proofs.Named.{has_both, same_bytes, own_bytes}
use Rattle.cord_plan.proofs.Numbers.{number_there}
use Rattle.cord_plan.proofs.Words.{bit_or_is, bit_zero_is, bit_one_same, bit_one_other}

module _ (t : Numbering) (g : ℕ) where
  module _ (y : List ℕ) where
    -- the word without bits marks a name that is none of the group
    pub marks_none : ((i : ℕ) → IsBit t g y i → ⊥) → Marks t g (λ x. bytes_eq x y) 0
    marks_none none x i b = rw (bit_zero_is i) (by_name (bytes_eq x y) refl)
      where
        by_name : (v : Bool) → bytes_eq x y ≡ v → false ≡ bytes_eq x y
        by_name false e = sym e
        by_name true e = absurd (none i (subst (λ (z : List ℕ). IsBit t g z i) (same_bytes x y e) b))

    -- a name of the group
    module _ (k : ℕ) (mine : IsBit t g y k) where
      same_number : (x : List ℕ) → IsBit t g x k → x ≡ y
      same_number x b =
          let one : slice_get (names_of t) (128 * g + k) ≡ Some x = number_there t x (128 * g + k) b.number in
          let other : slice_get (names_of t) (128 * g + k) ≡ Some y = number_there t y (128 * g + k) mine.number in
          cc

      same_bit : (x : List ℕ) (i : ℕ) → IsBit t g x i → x ≡ y → i ≡ k
      same_bit x i b same =
          let number : number_of t x ≡ Some (128 * g + k) = rw same mine.number in
          let is : 128 * g + i ≡ 128 * g + k = let one = b.number in cc in
          omega arith

      pub marks_one : Marks t g (λ x. bytes_eq x y) (1 * 2 ^ k % 2 ^ 128)
      marks_one x i b = by_bit (cases_eq i k)
        where
          other_name : (v : Bool) → bytes_eq x y ≡ v → (i ≡ k → ⊥) → false ≡ bytes_eq x y
          other_name false e differ = sym e
          other_name true e differ = absurd (differ (same_bit x i b (same_bytes x y e)))

          by_bit : (i ≡ k) ⊎ (i ≡ k → ⊥) → bit (1 * 2 ^ k % 2 ^ 128) i ≡ bytes_eq x y
          by_bit (inl same) =
              let mine_too : IsBit t g x k = rw (← same) b in
              rw (same, same_number x mine_too, own_bytes y) (bit_one_same k mine.within)
          by_bit (inr differ) = rw (bit_one_other k i mine.within differ) (other_name (bytes_eq x y) refl differ)

  pub marks_or : (f h : List ℕ → Bool) (v w : ℕ) → Marks t g f v → Marks t g h w → Marks t g (λ x. f x || h x) (bit_or v w)
  marks_or f h v w one two x i b = rw (bit_or_is v w i, one x i b, two x i b) refl

  pub marks_same : (f h : List ℕ → Bool) (w : ℕ) → ((x : List ℕ) → h x ≡ f x) → Marks t g f w → Marks t g h w
  marks_same f h w same marks x i b = marks x i b ∙ sym (same x)

pub has_one : (y x : List ℕ) → has (y ∷ []) x ≡ bytes_eq x y
has_one y x = or-false (bytes_eq x y)

pub has_more : (names : List (List ℕ)) (i : ℕ) (y x : List ℕ) → i < length names → y ≡ get_or names i y →
    has (take (i + 1) names) x ≡ (has (take i names) x || bytes_eq x y)
has_more names i y x lt is =
    let prefix : take (i + 1) names ≡ take i names ++ y ∷ [] =
    take_more names i y lt ∙ ap (λ (z : List ℕ). take i names ++ z ∷ []) (sym is) in
    rw (prefix, has_both (take i names) (y ∷ []) x, has_one y x) refl

module _ (t : Numbering) (g : ℕ) where
  -- a name by its number
  pub marks_number : (y : List ℕ) (n : ℕ) → number_of t y ≡ Some n → n / 128 ≡ g →
      Marks t g (λ x. bytes_eq x y) (1 * 2 ^ (n % 128) % 2 ^ 128)
  marks_number y n is group =
      let whole : 128 * g + n % 128 ≡ n = rw (← group) (div-add-mod n 128) in
      marks_one t g y (n % 128) (record { within = mod-lt n (omega arith); number = is ∙ ap Some (sym whole) })

  pub marks_apart : (y : List ℕ) (n : ℕ) → number_of t y ≡ Some n → (n / 128 ≡ g → ⊥) → Marks t g (λ x. bytes_eq x y) 0
  marks_apart y n is other = marks_none t g y (λ i b.
      let same : n ≡ 128 * g + i = let one = b.number in cc in
      let small : i < 128 = b.within in
      other (omega arith))

  -- the name of a number, where there is one
  pub marks_named : (o : Option (List ℕ)) (n w : ℕ) → Some n ≡ number_in t o →
      ((y : List ℕ) → number_of t y ≡ Some n → Marks t g (λ x. bytes_eq x y) w) → Marks t g (λ x. is_this_name o x) w
  marks_named None n w e marks = let bad : ⊥ = cc in absurd bad
  marks_named (Some y) n w e marks = marks y (sym e)

  pub marks_unnamed : (o : Option (List ℕ)) → None ≡ number_in t o → Marks t g (λ x. is_this_name o x) 0
  marks_unnamed None e x i b = bit_zero_is i
  marks_unnamed (Some y) e x i b = marks_none t g y (λ k mine. (let number = mine.number in let bad : ⊥ = cc in bad)) x i b
