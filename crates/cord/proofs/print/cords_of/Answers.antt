use Rattle.std.proofs.Common.{◌≡◌, ◌+◌, ◌++◌, ◌∷◌, [], List, take, subst, sym, arith, rules}
use Rattle.std.proofs.lemmas.List.{take_more, take_all}
use Rattle.cord_printf.specs.declared.arguments.Arg.{Arg}
use Rattle.cord.specs.inner.Prints.{AreArgumentsFor}
use Rattle.cord.proofs.Printing.{none_made, one_made}
use Rattle.cord.proofs.print.cords_of.Goals as goal

pub loop-arg-init : goal.loop-arg-init
loop-arg-init c = subst (λ (xs : List Arg). AreArgumentsFor [] xs) (sym c.new-made.ensures.items) none_made

pub loop-arg-preserved : goal.loop-arg-preserved
loop-arg-preserved c =
    let args = c.args.args.now in
    let i = c.loop-arg.arg-index in
    let pushed : c.push.new.self.items ≡ c.loop-arg.made.items ++ c.in_ok-arg.arg ∷ [] = search rules in
    let taken : take (c.loop-arg.arg-index + 1) c.args.args.now ≡ take c.loop-arg.arg-index c.args.args.now ++ c.arg-item.result ∷ [] =
    rw c.arg-item.is (take_more c.args.args.now c.loop-arg.arg-index c.arg-item.result (omega arith)) in
    let one = one_made (take i args) c.arg-item.result c.loop-arg.made.items c.in_ok-arg.arg c.loop-arg.invariant
    c.in_ok-arg.ensures in
    rw (taken, pushed) one

pub returns : goal.returns
returns c = rw (← take_all c.loop-arg.arg-index c.args.args.now (omega arith)) c.loop-arg.invariant
