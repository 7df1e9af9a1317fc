use Rattle.std.proofs.Common.{refl, arith}
use Rattle.cord.proofs.Standing.{stand_by_each}
use Rattle.cord.proofs.text.Text.stands_at.Goals as goal

pub returns : goal.returns
returns c = (
  λ _. stand_by_each c.args.self.now c.args.bytes.now c.args.place (λ k lt. c.loop-offset.invariant k (omega (arith, lt))),
  λ _.
      refl,
)
