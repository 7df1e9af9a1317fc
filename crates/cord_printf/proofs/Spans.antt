-- The longest spans at the prefix of bytes: there is one reading only.
use Rattle.std.proofs.Common.{◌≡◌, ℕ, List, [], ◌∷◌, ◌++◌, refl, sym, ap, ◌∙◌, subst, inl, inr}
use Rattle.std.specs.Prelude.{All}
use Rattle.std.proofs.lemmas.List.Elements.{All-head, All-tail}
use Rattle.cord_printf.specs.Pieces.{IsMark, IsDigit, StartsNo}
use Rattle.cord_printf.specs.inner.Reading.{AreParts, IsDotted}

-- one span of a kind stands at the front
pub span-unique : (P : ℕ → Type 0) (xs us ys vs : List ℕ) → All P xs → All P ys → StartsNo P us → StartsNo P vs → xs ++ us ≡ ys ++ vs →
    (xs ≡ ys) × (us ≡ vs)
span-unique P [] us [] vs ax ay su sv e = (refl, e)
span-unique P [] us (y ∷ ys) vs ax ay su sv e = absurd (subst (StartsNo P) e su (All-head P y ys ay))
span-unique P (x ∷ xs) us [] vs ax ay su sv e = absurd (subst (StartsNo P) (sym e) sv (All-head P x xs ax))
span-unique P (x ∷ xs) us (y ∷ ys) vs ax ay su sv e =
    let tails : xs ++ us ≡ ys ++ vs = cc in
    let heads : x ≡ y = cc in
    let rest = span-unique P xs us ys vs (All-tail P x xs ax) (All-tail P y ys ay) su sv tails in
    (cc (rest.0, heads), rest.1)

-- one point stands at the front
pub dotted-unique : (b p r q s : List ℕ) → IsDotted b p r → IsDotted b q s → (p ≡ q) × (r ≡ s)
dotted-unique b p r q s (e, inl h) (f, inl k) = (h.0 ∙ sym k.0, sym (e ∙ ap (λ x. x ++ r) h.0) ∙ f ∙ ap (λ x. x ++ s) k.0)
dotted-unique b p r q s (e, inl h) (f, inr k) =
    absurd (subst (StartsNo (λ c. c ≡ 46)) (sym (e ∙ ap (λ x. x ++ r) h.0) ∙ f ∙ ap (λ x. x ++ s) k.1) h.1 refl)
dotted-unique b p r q s (e, inr h) (f, inl k) =
    absurd (subst (StartsNo (λ c. c ≡ 46)) (sym (f ∙ ap (λ x. x ++ s) k.0) ∙ e ∙ ap (λ x. x ++ r) h.1) k.1 refl)
dotted-unique b p r q s (e, inr h) (f, inr k) =
    let same : 46 ∷ h.0 ++ r ≡ 46 ∷ k.0 ++ s = sym (e ∙ ap (λ x. x ++ r) h.1) ∙ f ∙ ap (λ x. x ++ s) k.1 in
    let tails : h.0 ++ r ≡ k.0 ++ s = cc same in
    let rest = span-unique IsDigit h.0 r k.0 s h.2 k.2 h.3 k.3 tails in
    (h.1 ∙ ap (λ x. 46 ∷ x) rest.0 ∙ sym k.1, rest.1)

-- the same parts
pub record SameParts (m d p l r n e q k s : List ℕ) : Type 0 where
  pub marks : m ≡ n
  pub digits : d ≡ e
  pub point : p ≡ q
  pub modifier : l ≡ k
  pub rest : r ≡ s

pub parts-unique : (b m d p l r n e q k s : List ℕ) → AreParts b m d p l r → AreParts b n e q k s → SameParts m d p l r n e q k s
parts-unique b m d p l r n e q k s x y =
    let one = span-unique IsMark m x.after_marks n y.after_marks x.marks_all y.marks_all x.marks_end y.marks_end
    (sym x.marks_whole ∙ y.marks_whole) in
    let two = span-unique IsDigit d x.after_digits e y.after_digits x.digits_all y.digits_all x.digits_end y.digits_end
    (sym x.digits_whole ∙ one.1 ∙ y.digits_whole) in
    let three = dotted-unique x.after_digits p x.after_point q y.after_point x.dotted
    (subst (λ z. IsDotted z q y.after_point) (sym two.1) y.dotted) in
    let four = span-unique (λ c. c ≡ 108) l r k s x.modifier_all y.modifier_all x.modifier_end y.modifier_end
    (sym x.modifier_whole ∙ three.1 ∙ y.modifier_whole) in
    record { marks = one.0; digits = two.0; point = three.0; modifier = four.0; rest = four.1 }
