use Rattle.std.proofs.Common.{◌≡◌, ◌∙◌, ℕ, take, ap}
use Rattle.std.proofs.Math.Seq.{take-length}
use Rattle.cord.proofs.text.Text.find.Goals as goal

pub returns-clause-first : goal.returns-clause-first
returns-clause-first c =
    let x = c.args.self.now in
    let all : take c.len.result x ≡ x = ap (λ (n : ℕ). take n x) c.len.ensures.value ∙ take-length x in
    rw all at c.find_in.ensures.first
