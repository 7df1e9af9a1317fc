use Rattle.cord_lines.proofs.Common.{ap, arith, drop, length, length-drop, length-take, plus, take, take-take, total_by, ◌-◌, ◌∙◌, ◌≤◌}
use Rattle.cord_lines.proofs.Sums.{few_some, then_some}
use Rattle.cord_lines.proofs.blocks.last_in_group.Goals as goal

pub last_with-found-requires-clause-few : goal.last_with-found-requires-clause-few
last_with-found-requires-clause-few g c =
    few_some g.T.Counted.part c.args.parts.now c.args.measure c.args.target c.args.group c.requires c.min-start.result
    (omega (arith, c.min-start.ensures, c.saturating_mul.ensures, c.requires.short)) c.min.result

pub returns : goal.returns
returns g c =
    let parts = c.args.parts.now in
    let start = c.min-start.result in
    let ys = take (length parts - start) (drop start parts) in
    let found = c.last_with-found.ensures in
    let few = length-take c.min.result ys in
    let within : c.last_with-found.result.index ≤ c.min.result = omega (arith, found.inside, few, c.min.ensures) in
    record {
      inside = omega (arith, found.inside, few, length-take (length parts - start) (drop start parts), length-drop start parts, c.min-start.ensures);
      before = found.before ∙ ap (λ y. plus c.args.group.before (total_by g.T.Counted.part y)) (take-take c.last_with-found.result.index c.min.result ys within)
          ∙ then_some g.T.Counted.part parts c.args.measure c.args.target c.args.group c.requires start
          (omega (arith, c.min-start.ensures, c.saturating_mul.ensures, c.requires.short)) c.last_with-found.result.index;
      short = c.requires.short;
      most = found.most;
    }
