use Rattle.cord_plan.proofs.Common.{ap, Statement, statement}
use Rattle.cord_syntax.specs.Lines.{line_of}
use Rattle.cord_plan.proofs.Writing.{writes_same}
use Rattle.cord_plan.proofs.plan_text.statements.put_statement.Goals as goal

pub returns-in-Computation : goal.returns-in-Computation
returns-in-Computation g c =
    writes_same (ap (λ (l : Statement). statement l) c.in-Computation.ensures) (c.put_computation.ensures (line_of c.args.kept.now))

pub returns-in-Look : goal.returns-in-Look
returns-in-Look g c = writes_same (ap (λ (l : Statement). statement l) c.in-Look.ensures) (c.put_look.ensures (line_of c.args.kept.now))

pub returns-in-Search : goal.returns-in-Search
returns-in-Search g c =
    writes_same (ap (λ (l : Statement). statement l) c.in-Search.ensures) (c.put_search.ensures (line_of c.args.kept.now))

pub returns-in-Growth : goal.returns-in-Growth
returns-in-Growth g c =
    writes_same (ap (λ (l : Statement). statement l) c.in-Growth.ensures) (c.put_growth.ensures (line_of c.args.kept.now))

pub returns-in-Control : goal.returns-in-Control
returns-in-Control g c =
    writes_same (ap (λ (l : Statement). statement l) c.in-Control.ensures) (c.put_control.ensures (line_of c.args.kept.now))
