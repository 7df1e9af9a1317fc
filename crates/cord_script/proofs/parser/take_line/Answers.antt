use Rattle.std.specs.Prelude.{◌≢◌}
use Rattle.cord_script.proofs.Common.{None, ◌∙◌, sym, subst, append-nil, arith, IfSome, NoMemory, HasWrong, scope_of}
use Rattle.cord_script.proofs.Readings.{is_wrong}
use Rattle.cord_script.proofs.parser.take_line.Goals as goal

pub returns-then-branch-clause-takes : goal.returns-then-branch-clause-takes
returns-then-branch-clause-takes c = c.in_ok-take_statement.ensures.adds c.if-branch.true

pub returns-then-is_idle-clause-takes : goal.returns-then-is_idle-clause-takes
returns-then-is_idle-clause-takes c =
    let kept = c.in_ok-take_statement.ensures.keeps c.if-branch.false in
    (None, (c.if-is_idle.ensures, kept.0), kept.1 ∙ sym (append-nil c.args.statements.now.items))

pub returns-clause-first_error : goal.returns-clause-first_error
returns-clause-first_error c =
    let wrong = c.first_wrong.result in
    is_wrong c.args.number c.args.line.now (scope_of c.args.context.now) wrong c.unwrap_or.result (omega arith) c.unwrap_or.ensures
    (subst (λ scope. IfSome wrong (λ kind. kind ≢ NoMemory → HasWrong c.args.line.now scope kind))
    (c.in_ok-take_statement.ensures.keeps c.if-branch.false).0 c.first_wrong.ensures)
