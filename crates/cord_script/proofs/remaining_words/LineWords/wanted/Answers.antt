use Rattle.std.specs.Prelude.{◌≡◌, ◌∷◌, ◌++◌}
use Rattle.cord_script.proofs.Common.{[], ◌∙◌, ap, sym, subst, map, map-append, rules, take_more, argument_term, argument_want, GivesAll}
use Rattle.cord_script.specs.declared.kinds.Kind.TheVariants as kinds
use Rattle.cord_script.specs.declared.kinds.Want.TheVariants as wants
use Rattle.cord_script.proofs.LineReading.{no_field, field_pushed}
use Rattle.cord_script.proofs.remaining_words.LineWords.wanted.Goals as goal

pub loop-want-init : goal.loop-want-init
loop-want-init c =
    let old = c.args.self.now in
    record {
      gave = subst (λ arguments. GivesAll old (map argument_term arguments) old) (sym c.new-arguments.ensures.items) (no_field old);
      wants = ap (map argument_want) c.new-arguments.ensures.items;
    }

pub loop-want-preserved : goal.loop-want-preserved
loop-want-preserved c =
    let old = c.loop-want.arguments.items in
    let argument = c.in_ok-argument.argument in
    let pushed : c.push.new.self.items ≡ old ++ argument ∷ [] = search rules in
    let grown = ap (map argument_want) pushed ∙ map-append argument_want old (argument ∷ []) in
    let more = take_more c.args.wants.now c.loop-want.want-index (wants.Target kinds.Cord) c.loop-want-test.true in
    let wanted = c.in_ok-argument.ensures.want in
    let before = c.loop-want.invariant.wants in
    record {
      gave = field_pushed argument_term old c.push.new.self.items argument c.args.self.now c.loop-want.self c.argument.new.self
          pushed c.loop-want.invariant.gave c.in_ok-argument.ensures.gave;
      wants = cc;
    }
