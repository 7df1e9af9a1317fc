use Rattle.std.proofs.Common.{◌≤◌, ◌+◌, ◌++◌, [], length, take, drop, arith, subst}
use Rattle.std.proofs.lemmas.Grind.{common_steps}
use Rattle.cord_io.specs.declared.TheConstants.{MAX_LEN}
use Rattle.cord.proofs.PlainTexts.{plain_limit, rest_limit}
use Rattle.cord.proofs.text.Text.remove.Goals as goal

pub within_memory-requires : goal.within_memory-requires
within_memory-requires c =
    let limit : length c.args.self.now ≤ MAX_LEN = subst (λ x. length x ≤ MAX_LEN) c.self.view_is
    (plain_limit c.self.inside.cord c.self.invariant) in
    let fits : length (take c.args.start c.args.self.now ++ [] ++ drop (c.args.start + c.args.count) c.args.self.now) ≤ MAX_LEN =
    rest_limit c.args.self.now c.args.start c.args.count limit in
    record { only_memory = grind (arith, common_steps, fits) }
