use Rattle.std.proofs.Common.{subst, arith}
use Rattle.cord_core.specs.Cord.{text_len}
use Rattle.cord_ec.specs.Gathered.{Growth}
use Rattle.cord_edit.specs.inner.Splices.{growth_of, both_of, IsSpliced}
use Rattle.cord_edit.proofs.Halves.{counted, as_long, put_after}
use Rattle.cord_edit.proofs.parted.Parted.splice_parted.Goals as goal

pub halves-requires-clause-inside : goal.halves-requires-clause-inside
halves-requires-clause-inside c = omega (arith, c.requires.inside, c.self.invariant.1, as_long c.self.view_is)

pub invariant_of-self : goal.invariant_of-self
invariant_of-self c =
    let halves = c.in_ok-prefix.ensures.halves in (
      omega (
        arith,
        c.in_ok-longer.ensures.made.len,
        halves.prefix_len,
        halves.back_len,
        c.requires.within_limit,
        c.self.invariant.1,
        as_long c.self.view_is,
      ),
      counted c.in_ok-longer.longer c.in_ok-prefix.back c.in_ok-longer.ensures.made.sound halves.back_sound,
    )

pub returns-clause-spliced : goal.returns-clause-spliced
returns-clause-spliced c =
    let middle = c.args.middle.now in
    subst (λ (old : Growth). IsSpliced c.args.from c.args.until (growth_of middle) (text_len middle) old
    (both_of c.in_ok-longer.longer c.in_ok-prefix.back))
    c.self.view_is
    (put_after c.in_ok-prefix.ensures.halves middle c.in_ok-longer.longer c.self.invariant.1 c.in_ok-longer.ensures.made.text
    c.in_ok-longer.ensures.made.sound c.in_ok-longer.ensures.made.len c.in_ok-longer.ensures.made.parts_from)
