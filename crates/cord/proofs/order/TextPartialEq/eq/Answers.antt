use Rattle.std.proofs.Common.{◌∙◌, sym, ap}
use Rattle.std.specs.Ordering.{is_eq}
use Rattle.std.specs.Cmp.Lexicographic.{texts_ties}
use Rattle.cord.proofs.order.TextPartialEq.eq.Goals as goal

pub returns-then-len : goal.returns-then-len
returns-then-len c = c.is_eq.ensures ∙ ap is_eq c.compare.ensures ∙ sym (texts_ties c.args.self.now c.args.other.now)
