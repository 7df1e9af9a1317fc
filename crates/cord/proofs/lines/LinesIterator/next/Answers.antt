use Rattle.std.proofs.Common.{◌-◌, take, drop, sym, ◌∙◌}
use Rattle.cord.proofs.lines.LinesIterator.next.Goals as goal

pub returns-clause-steps : goal.returns-clause-steps
returns-clause-steps c =
    let start = c.self.inside.start in (
      take (c.line_end-end.result.0 - start) (drop start c.self.inside.text.now),
      sym c.self.view_is ∙ c.line_end-end.ensures.line,
      c.substr.ensures.text,
    )
