use Rattle.std.specs.Prelude.{◌≡◌}
use Rattle.cord_script.proofs.Common.{None, Some, ◌∙◌, false, refl, sym, ap, subst, Option, is_some, scope_of}
use Rattle.cord_script.proofs.Common.{IsStatementBuilt, left_after, verb_effect}
use Rattle.cord_script.proofs.Adding.{adds}
use Rattle.cord_script.proofs.line.take_statement.Goals as goal

nothing : {X : Type 0} (o : Option X) → false ≡ is_some o → o ≡ None
nothing None h = refl
nothing (Some x) h = cc

pub returns-clause-adds : goal.returns-clause-adds
returns-clause-adds c = λ _.
    let verb = c.in-Some.verb in
    let number = c.args.number in
    let statement = c.in-Some-statement_of.statement in
    let scope = scope_of c.args.context.now in
    let new = c.statement_of.new.words in
    let built = subst (λ w. IsStatementBuilt verb number w new statement) c.of-words.ensures c.in-Some-statement_of.ensures in
    let pushed = c.in_ok-is_added.ensures.adds c.if-not-is_added.false in
    let left = c.in_ok-leave.ensures.left
    ∙ ap (λ n. left_after (verb_effect verb) number n c.into_added-name.result.1 scope) c.into_added-name.ensures.name
    ∙ ap (λ p. left_after (verb_effect verb) number new.name p scope) c.into_added-name.ensures.path in
    adds verb number c.args.line.now scope c.in-Some.rest.now new (scope_of c.leave.new.self) statement c.args.statements.now.items
    c.push_of_all.new.items.items c.in-Some.ensures (sym c.block_error.ensures ∙ nothing c.block_error.result (c.if-is_some.ensures)) built
    (c.is_done.ensures pushed.0) left pushed.1
