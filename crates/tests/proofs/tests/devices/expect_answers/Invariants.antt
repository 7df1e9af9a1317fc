use Rattle.std.specs.Prelude.{◌≡◌, ℕ}
use Rattle.tests.proofs.tests.devices.expect_answers.Given as goal

-- what is opened stays
abbrev pub invariant-loop-ask : goal.invariant-loop-ask
invariant-loop-ask g l = (n : ℕ) → g.F.Files.opened l.files n ≡ g.F.Files.opened l.fn.files n
