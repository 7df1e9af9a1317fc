use Rattle.std.proofs.Common.{◌≡◌, ◌∙◌}
use Rattle.cord.specs.Plain.{plain_bytes}
use Rattle.cord.specs.inner.Chunks.{left_from}
use Rattle.cord.proofs.Chunking.{left_at, run_joined}
use Rattle.cord.proofs.text.Text.chunks.Goals as goal

pub returns-clause-text : goal.returns-clause-text
returns-clause-text c =
    let left : left_from c.set.result.cord c.set.result.index ≡ plain_bytes c.self.inside.cord =
    rw (c.set.ensures.cord, c.set.ensures.index) (left_at c.self.inside.cord c.self.invariant 0) in
    left ∙ c.self.view_is

pub returns-clause-joined : goal.returns-clause-joined
returns-clause-joined c = λ p seen from whole. run_joined p whole ∙ (from ∙ returns-clause-text c)
