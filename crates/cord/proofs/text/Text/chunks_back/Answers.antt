use Rattle.std.proofs.Common.{◌≡◌, ◌-◌, ◌∙◌, List, ℕ, length, ap, arith}
use Rattle.cord_core.specs.Cord.{text_len}
use Rattle.cord.specs.Plain.{plain_bytes}
use Rattle.cord.specs.inner.Chunks.{left_to}
use Rattle.cord.proofs.Chunking.{left_whole, run_joined_back}
use Rattle.cord.proofs.text.Text.chunks_back.Goals as goal

pub returns-clause-text : goal.returns-clause-text
returns-clause-text c =
    let cord = c.self.inside.cord in
    let len : text_len cord ≡ length c.args.self.now = c.self.invariant.len ∙ ap (λ (x : List ℕ). length x) c.self.view_is in
    let last : c.saturating_sub.result ≡ text_len cord - 1 = omega (arith, len, c.len.ensures.value, c.saturating_sub.ensures) in
    let left : left_to c.set.result.cord c.set.result.index ≡ plain_bytes cord =
    rw (c.set.ensures.cord, c.set.ensures.index) (left_whole cord c.self.invariant c.saturating_sub.result last) in
    left ∙ c.self.view_is

pub returns-clause-joined : goal.returns-clause-joined
returns-clause-joined c = λ p seen from whole. run_joined_back p whole ∙ (from ∙ returns-clause-text c)
