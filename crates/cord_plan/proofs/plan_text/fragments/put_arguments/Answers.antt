use Rattle.std.specs.Prelude.{◌∷◌}
use Rattle.cord_plan.proofs.Common.{List, ℕ, refl, ap, Argument, argument, printed_arguments}
use Rattle.cord_plan.proofs.Writing.{AreJoined, writes_failed, writes_next, writes_broken, writes_then, writes_stopped, writes_same}
use Rattle.cord_plan.proofs.plan_text.fragments.put_arguments.Goals as goal

-- an argument after a blank
abbrev word : Argument → List ℕ
word a = 32 ∷ argument a

joined : AreJoined printed_arguments word
joined = record { nil = refl; cons = λ a rest. refl }

pub returns-in_err-put_all : goal.returns-in_err-put_all
returns-in_err-put_all g c = writes_failed c.from_residual.ensures.0
    (writes_broken printed_arguments word joined _ _ _ c.loop-argument-test.true c.loop-argument.invariant
    (writes_same (ap word c.argument-item.is) (writes_stopped (argument c.argument-item.result) c.in_err-put_all.ensures)))

pub returns-in_err-put_argument : goal.returns-in_err-put_argument
returns-in_err-put_argument g c = writes_failed c.from_residual-in_err-put_argument.ensures.0
    (writes_broken printed_arguments word joined _ _ _ c.loop-argument-test.true c.loop-argument.invariant
    (writes_same (ap word c.argument-item.is) (writes_then c.in_ok-put_all.ensures c.in_err-put_argument.ensures)))

pub loop-argument-preserved : goal.loop-argument-preserved
loop-argument-preserved g c = writes_next printed_arguments word joined _ _ _ c.loop-argument-test.true c.loop-argument.invariant
    (writes_same (ap word c.argument-item.is) (writes_then c.in_ok-put_all.ensures c.in_ok-put_argument.ensures))
