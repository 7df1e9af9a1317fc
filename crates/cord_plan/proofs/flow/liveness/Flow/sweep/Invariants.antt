use Rattle.std.specs.Prelude.{◌≡◌, ◌≤◌, ◌<◌}
use Rattle.cord_plan.proofs.Common.{List, ℕ, true, false, ArePartly, finds, IsBit, column, room}
use Rattle.cord_plan.proofs.flow.liveness.Flow.sweep.Given as goal

abbrev pub invariant-loop-p : goal.invariant-loop-p
invariant-loop-p l = record {
  partly : ArePartly l.self.statements.now l.self.numbering.now l.self.group l.words;
  resting : l.again ≡ false → (x : List ℕ) (i : ℕ) → IsBit l.self.numbering.now l.self.group x i → (k : ℕ) → l.p ≤ k →
      finds l.self.statements.now x (column l.words i) k ≡ false;
  few : room l.words ≤ room l.initial.words;
  fewer : l.again ≡ true → room l.words < room l.initial.words;
}
