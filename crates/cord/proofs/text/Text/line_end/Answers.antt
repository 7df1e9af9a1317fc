use Rattle.std.proofs.Common.{sym}
use Rattle.cord.proofs.Lining.{next_with_end, next_bare, last_next}
use Rattle.cord.proofs.text.Text.line_end.Goals as goal

pub returns-in-Some-clause-line : goal.returns-in-Some-clause-line
returns-in-Some-clause-line c = rw c.if-with_end.true (next_with_end c.args.self.now c.args.start c.requires c.in-Some.place
    (sym c.in-Some.ensures.first))

pub returns-in-Some-2-clause-line : goal.returns-in-Some-2-clause-line
returns-in-Some-2-clause-line c = rw c.if-with_end.false (next_bare c.args.self.now c.args.start c.requires c.in-Some.place
    (sym c.in-Some.ensures.first))

pub returns-in-None-clause-line : goal.returns-in-None-clause-line
returns-in-None-clause-line c = last_next c.args.self.now c.args.start c.requires c.len-len.result c.len-len.ensures.value
    (sym c.in-None.ensures.first) c.args.with_end
