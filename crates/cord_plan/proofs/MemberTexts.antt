-- The members of a `cat`: how their text grows, and that each is smaller than all of them.
use Rattle.std.specs.Prelude.{◌≡◌, ◌<◌, ◌+◌, ◌∷◌, ◌++◌, if◌then◌else◌}
use Rattle.cord_plan.proofs.Common.{ℕ, zero, suc, List, [], length, map, get_or, refl, sym, ap, ◌∙◌, subst, append_assoc, arith, expr}
use Rattle.cord_plan.proofs.Common.{more_exprs, exprs_after, is_nothing, Shared, members_of, shared_view}
use Rattle.cord_plan.specs.Exprs as plain
use Rattle.cord_plan.specs.PlanText.{exprs}
use Rattle.cord_plan.proofs.Spacing.{AreSpaced}

abbrev mutual
  pub weight : plain.Expr → ℕ
  weight (plain.name x) = 1
  weight (plain.run c n) = 1
  weight (plain.cat es) = weights es + 2
  weight (plain.sub e i n) = weight e + 1

  pub weights : plain.Exprs → ℕ
  weights plain.nothing = 0
  weights (plain.member e es) = weight e + weights es + 1

-- a member is smaller than all of them
pub member_below : (ms : List Shared) (i : ℕ) (d : Shared) → i < length ms →
    weight (shared_view (get_or ms i d)) < weights (members_of (map shared_view ms))
member_below [] i d h = absurd (omega (arith, h))
member_below (m ∷ ms) zero d h = omega arith
member_below (m ∷ ms) (suc i) d h = let below = member_below ms i d (omega (arith, h)) in omega (arith, below)

-- the text of members, where this stands before the first one
abbrev pub members_text : List ℕ → List Shared → List ℕ
members_text first ms = exprs_after first (members_of (map shared_view ms))

-- each after a blank
abbrev pub more_text : List Shared → List ℕ
more_text ms = more_exprs (members_of (map shared_view ms))

more_append : (a b : plain.Exprs) → more_exprs (plain.append a b) ≡ more_exprs a ++ more_exprs b
more_append plain.nothing b = refl
more_append (plain.member e a) b = ap (λ (text : List ℕ). 32 ∷ expr e ++ text) (more_append a b)
    ∙ sym (append_assoc (32 ∷ expr e) (more_exprs a) (more_exprs b))

-- the text of members after nothing, and after others
pub exprs_alone : (es : plain.Exprs) → exprs_after [] es ≡ exprs es
exprs_alone plain.nothing = refl
exprs_alone (plain.member e es) = refl

exprs_blank : (es : plain.Exprs) → exprs_after (32 ∷ []) es ≡ more_exprs es
exprs_blank plain.nothing = refl
exprs_blank (plain.member e es) = refl

-- what stands before the members that follow these
abbrev pub blank_after : plain.Exprs → List ℕ
blank_after es = if is_nothing es then [] else 32 ∷ []

pub exprs_append : (a b : plain.Exprs) → exprs (plain.append a b) ≡ exprs a ++ exprs_after (blank_after a) b
exprs_append plain.nothing b = sym (exprs_alone b)
exprs_append (plain.member e a) b = ap (λ (text : List ℕ). expr e ++ text) (more_append a b)
    ∙ (sym (append_assoc (expr e) (more_exprs a) (more_exprs b)) ∙ ap (λ (text : List ℕ). (expr e ++ more_exprs a) ++ text) (sym (exprs_blank b)))

-- one of them
abbrev pub member_text : Shared → List ℕ
member_text m = expr (shared_view m)

pub members_spaced : (first : List ℕ) → AreSpaced first (members_text first) more_text member_text
members_spaced first = record { nil = refl; cons = λ m ms. refl; suffix = record { nil = refl; cons = λ m ms. refl } }

-- the member at hand on a walk over all of them
pub member_there : (ms : List Shared) (i : ℕ) (m : Shared) → i < length ms → m ≡ get_or ms i m →
    weight (shared_view m) < weights (members_of (map shared_view ms))
member_there ms i m h is = subst (λ (x : Shared). weight (shared_view x) < weights (members_of (map shared_view ms))) (sym is)
    (member_below ms i m h)
