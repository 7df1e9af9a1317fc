-- How a visitor walks over bytes.
use Rattle.std.specs.Prelude.{◌≡◌, ℕ, Bool, true, false, if◌then◌else◌, List, [], ◌∷◌, ◌++◌}

-- a visitor's state after `byte` on each byte in order up to the first stop, and whether it stopped
abbrev pub walk : {S : Type 0} → (S → ℕ → S × Bool) → S → List ℕ → S × Bool
walk step s [] = (s, false)
walk step s (b ∷ bs) = if (step s b).1 then ((step s b).0, true) else walk step (step s b).0 bs

-- from one state to another a prefix of the bytes was walked over without a stop
pub record WalkedPrefix {S : Type 0} (step : S → ℕ → S × Bool) (old new : S) (bs : List ℕ) : Type 0 where
  pub prefix : List ℕ
  pub rest : List ℕ
  pub split : bs ≡ prefix ++ rest
  pub walked : walk step old prefix ≡ (new, false)
