-- The byte at a position, which has a copy of it.
use Rattle.std.proofs.Common.{◌≡◌, ◌<◌, ◌+◌, ◌-◌, ◌∙◌, ℕ, List, length, take, drop, min, get_or, ap, sym, arith}
use Rattle.std.specs.Prelude.{Some, None, nat_lt, if◌then◌else◌, Bool}
use Rattle.std.proofs.lemmas.Bool.{lt-ltb}
use Rattle.std.proofs.lemmas.List.{get_or-drop, get_or-take}
use Rattle.std.proofs.lemmas.Option.{slice_get-get_or}
use Rattle.cord_c.specs.Positions.{byte_in}

-- the byte a of the c bytes that are those of a text from s on, at most w of them
pub fetched : (text bytes : List ℕ) (s a c w : ℕ) → c ≡ min w (length text - s) → take c bytes ≡ take w (drop s text) → a < c →
    byte_in text (if nat_lt a c then Some (s + a) else None) ≡ Some (get_or bytes a 0)
fetched text bytes s a c w filled copied inside =
    ap (λ (stands : Bool). byte_in text (if stands then Some (s + a) else None)) (lt-ltb a c inside)
    ∙ slice_get-get_or text (s + a) 0 (omega (arith, filled, inside)) ∙ ap (λ (b : ℕ). Some b)
    (sym (get_or-drop s text a 0) ∙ sym (get_or-take w (drop s text) a 0 (omega (arith, filled, inside)))
    ∙ ap (λ (xs : List ℕ). get_or xs a 0) (sym copied) ∙ get_or-take c bytes a 0 inside)
