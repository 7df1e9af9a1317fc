use Rattle.cord_run.proofs.Common.{map, rules, subst, IfOk, IsPlanOf, operation_view, IsPlanBy, whole}
use Rattle.cord_run.proofs.Meaning.{names_cause}
use Rattle.cord_run.proofs.Readers.{plan_alike}
use Rattle.cord_run.proofs.runner.run_by.Goals as goal

pub returns-in-Ok : goal.returns-in-Ok
returns-in-Ok g c =
    let s = c.args.read.now in
    let operations = map operation_view c.in-Ok.plan in
    let planned : IsPlanBy g.way s operations × IsPlanOf s operations =
    subst (λ made. IfOk made (λ plan. IsPlanBy g.way s (map operation_view plan) × IsPlanOf s (map operation_view plan))) c.in-Ok.is c.requires.1.1.0 in
    let alike = plan_alike g.way s operations planned.0 in
    record {
      run = λ script reads. (
        s,
        reads,
        (λ file_system agrees. c.run.ensures.faithful s planned.1 alike whole script reads file_system agrees),
        c.run.ensures.fails s alike,
      );
      cause = λ script reads. names_cause script s reads operations alike _ c.run.result.0 c.run.ensures.cause c.run.ensures.finish;
      earlier = c.run.ensures.earlier;
    }

-- a must-fail edit breaks these
pub returns-in-Err-clause-cause : goal.returns-in-Err-clause-cause
returns-in-Err-clause-cause g c = search rules

pub returns-in-Err-clause-run : goal.returns-in-Err-clause-run
returns-in-Err-clause-run g c = search rules
