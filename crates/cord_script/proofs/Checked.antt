-- What follows where nothing is wrong.
use Rattle.std.specs.Prelude.{◌≡◌, ◌<◌, ◌⊎◌}
use Rattle.cord_script.proofs.Common.{inl, inr, Some, None, ℕ, Bool, true, false, refl, Option, nat_lt, ltb-true, String, is_utf8}
use Rattle.cord_script.proofs.Common.{is_utf8-from_IsUtf8, IsUtf8-string_bytes, Kind, RefusalKind, TooMany, MAX_NAMES, first_of, unless}
use Rattle.cord_script.proofs.Common.{kind_error, assigned_error}
use Rattle.std.specs.String.{string_bytes}
use Rattle.cord_script.specs.declared.kinds.Kind.TheVariants as kinds

-- the bytes of a string are UTF-8
pub string_is_utf8 : {Z : Type 0} (s : String Z) → is_utf8 (string_bytes s) ≡ true
string_is_utf8 s = is_utf8-from_IsUtf8 (string_bytes s) (IsUtf8-string_bytes s)

-- neither is wrong
pub neither : (o p : Option RefusalKind) → first_of o p ≡ None → (o ≡ None) × (p ≡ None)
neither None p h = (refl, h)
neither (Some k) p h = cc

-- the test holds
pub holds : (b : Bool) (k : RefusalKind) → unless b k ≡ None → b ≡ true
holds true k h = refl
holds false k h = cc

-- a name of this kind
pub kind_right : (o : Option Kind) (kind : Kind) → kind_error o kind ≡ None → o ≡ Some kind
kind_right (Some kinds.Cord) kinds.Cord h = refl
kind_right (Some kinds.Number) kinds.Number h = refl
kind_right (Some kinds.Extensible) kinds.Extensible h = refl
kind_right _ _ h = cc

-- a target of this kind
pub target_right : (o : Option Kind) (kind : Kind) (n : ℕ) → assigned_error o kind n ≡ None → (o ≡ Some kind) ⊎
    ((o ≡ None) × (n < MAX_NAMES))
target_right None kind n h = inr (refl, ltb-true n MAX_NAMES (holds (nat_lt n MAX_NAMES) TooMany h))
target_right (Some has) kind n h = inl (kind_right (Some has) kind h)
