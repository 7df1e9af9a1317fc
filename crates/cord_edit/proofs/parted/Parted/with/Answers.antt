use Rattle.std.proofs.Common.{◌∙◌, ◌++◌, take, drop, ap, subst, arith}
use Rattle.std.proofs.lemmas.Grind.{common_steps}
use Rattle.cord_ec.specs.Gathered.{Growth}
use Rattle.cord_edit.specs.inner.Splices.{growth_of, spliced, IsCordWith}
use Rattle.cord_edit.proofs.Halves.{counted, as_long, halves_len, halves_text, halves_parts, put_between, put_at_seam}
use Rattle.cord_edit.proofs.Parting.{as_before, as_seen}
use Rattle.cord_edit.proofs.parted.Parted.with.Goals as goal

pub halves-requires-clause-inside : goal.halves-requires-clause-inside
halves-requires-clause-inside c = omega (arith, c.requires.inside, c.self.invariant.1, as_long c.self.view_is)

pub joined-requires : goal.joined-requires
joined-requires c = omega (arith, c.requires.order, c.requires.inside, c.requires.within_limit, c.self.invariant.1, as_long c.self.view_is)

pub joined-requires-2 : goal.joined-requires-2
joined-requires-2 c =
    let halves = c.in_ok-prefix.ensures.halves in
    omega (arith, halves.prefix_len, halves.back_len, c.requires.within_limit, c.self.invariant.1, as_long c.self.view_is)

pub invariant_of-self : goal.invariant_of-self
invariant_of-self c =
    let halves = c.in_ok-prefix.ensures.halves in (
      omega (arith, halves.prefix_len, halves.back_len, c.requires.within_limit, c.self.invariant.1, as_long c.self.view_is),
      counted c.in_ok-prefix.prefix c.in_ok-prefix.back halves.prefix_sound halves.back_sound,
    )

pub returns-clause-cut : goal.returns-clause-cut
returns-clause-cut c = halves_text c.in_ok-prefix.ensures.halves
    ∙ ap (λ (old : Growth). take c.args.from old.text ++ drop c.args.until old.text) c.self.view_is

pub returns-clause-cut_len : goal.returns-clause-cut_len
returns-clause-cut_len c = halves_len c.in_ok-prefix.ensures.halves ∙ omega (arith, c.self.invariant.1, as_long c.self.view_is)

pub returns-then-from-len-clause-made : goal.returns-then-from-len-clause-made
returns-then-from-len-clause-made c =
    subst (λ (old : Growth). IsCordWith 1 (spliced c.args.from c.args.until (growth_of c.args.middle.now) old) c.in_ok-all.all)
    c.self.view_is
    (put_at_seam c.self.inside.prefix c.args.middle.now c.self.inside.back c.in_ok-all.all c.args.from c.args.until c.len.ensures.sound
    (grind (arith, common_steps)) (grind (arith, common_steps)) c.in_ok-all.ensures.joined)

pub returns-then-from-len-clause-stays : goal.returns-then-from-len-clause-stays
returns-then-from-len-clause-stays c = as_before 1 c.args.self.now.parts

pub returns-clause-made : goal.returns-clause-made
returns-clause-made c =
    subst (λ (old : Growth). IsCordWith 1 (spliced c.args.from c.args.until (growth_of c.args.middle.now) old) c.in_ok-all-2.all)
    c.self.view_is (put_between c.in_ok-prefix.ensures.halves c.in_ok-all-2.ensures.joined)

pub returns-clause-stays : goal.returns-clause-stays
returns-clause-stays c = as_seen c.self.view_is (halves_parts c.in_ok-prefix.ensures.halves)
