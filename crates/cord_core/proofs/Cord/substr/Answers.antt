use Rattle.std.proofs.Common.{◌≡◌, ◌+◌, ◌≤◌, arith, rules}
use Rattle.std.specs.Prelude.{Some}
use Rattle.std.proofs.lemmas.Grind.{common_steps}
use Rattle.cord_node.specs.PartsFrom.{parts}
use Rattle.cord_node.specs.Touched.{touched}
use Rattle.cord_node.proofs.TouchedLemmas.{touched_longer}
use Rattle.cord_core.specs.Cord.{parts_of, IsCord}
use Rattle.cord_core.proofs.CordLemmas.{ranges}
use Rattle.cord_core.proofs.OverLemmas.{substring_over}
use Rattle.cord_core.proofs.Cord.substr.Goals as goal

pub returns-then-n-eq0-clause-text : goal.returns-then-n-eq0-clause-text
returns-then-n-eq0-clause-text c = grind (arith, common_steps, ranges)

pub returns-then-n-eq0-clause-over : goal.returns-then-n-eq0-clause-over
returns-then-n-eq0-clause-over c =
    let s : IsCord c.empty-then-n-eq0.result = grind (arith, common_steps) in
    substring_over c.args.i c.args.n c.args.self.now c.empty-then-n-eq0.result s (returns-then-n-eq0-clause-text c)

pub returns-clause-text : goal.returns-clause-text
returns-clause-text c = grind (arith, common_steps, ranges)

pub returns-clause-over : goal.returns-clause-over
returns-clause-over c = substring_over c.args.i c.args.n c.args.self.now (Some c.in_ok-part.part.value) c.in_ok-part.ensures.sound
    (returns-clause-text c)

pub returns-clause-few : goal.returns-clause-few
returns-clause-few c =
    let same : parts_of c.args.self.now ≡ parts c.in-Some.node.value = grind (arith, common_steps) in
    let k : c.args.i + c.min.result ≤ c.args.i + c.args.n = omega arith in
    let longer : touched c.args.i (c.args.i + c.min.result) (parts c.in-Some.node.value)
    ≤ touched c.args.i (c.args.i + c.args.n) (parts c.in-Some.node.value) = touched_longer _ _ _ _ k in
    rw same (omega (arith, longer, c.in_ok-part.ensures.few))

pub returns-clause-parts_from : goal.returns-clause-parts_from
returns-clause-parts_from c = search rules
