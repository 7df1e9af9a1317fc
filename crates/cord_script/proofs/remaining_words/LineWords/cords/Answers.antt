use Rattle.std.specs.Prelude.{◌≡◌, ◌∷◌, ◌++◌}
use Rattle.cord_script.proofs.Common.{[], ap, sym, subst, map, length, length-append, arith, rules, Operand, GivesAll}
use Rattle.cord_script.specs.declared.kinds.Kind.TheVariants as kinds
use Rattle.cord_script.proofs.LineReading.{no_field, field_pushed}
use Rattle.cord_script.proofs.remaining_words.LineWords.cords.Goals as goal

pub cords-init : goal.cords-init
cords-init c =
    let old = c.args.self.now in
    record {
      gave = subst (λ names. GivesAll old (map (Operand kinds.Cord) names) old) (sym c.new-names.ensures.items) (no_field old);
      high = omega (arith, ap length c.new-names.ensures.items);
    }

pub cords-preserved : goal.cords-preserved
cords-preserved c =
    let name = c.in_ok-name.name in
    let grown : c.push.new.self.items ≡ c.cords.names.items ++ name ∷ [] = search rules in
    record {
      gave = field_pushed (Operand kinds.Cord) c.cords.names.items c.push.new.self.items name c.args.self.now c.cords.self
          c.operand.new.self grown c.cords.invariant.gave c.in_ok-name.ensures;
      high = omega (arith, ap length grown, length-append c.cords.names.items (name ∷ []));
    }
