use Rattle.std.specs.Prelude.{nat_eq}
use Rattle.cord_script.proofs.Common.{None, nat_le, nat_lt, ap, refl, arith, length, le-leb, suc}
use Rattle.cord_script.proofs.Tabled.{found}
use Rattle.cord_script.proofs.grammar.verb_of.Goals as goal

pub returns-in-2 : goal.returns-in-2
returns-in-2 c = found (nat_eq 2) c.args.word.now c.verb_of_two.result (ap (nat_eq 2) c.in-2.is) c.verb_of_two.ensures

pub returns-in-3 : goal.returns-in-3
returns-in-3 c = found (nat_eq 3) c.args.word.now c.verb_of_three.result (ap (nat_eq 3) c.in-3.is) c.verb_of_three.ensures

pub returns-in-4 : goal.returns-in-4
returns-in-4 c = found (nat_eq 4) c.args.word.now c.verb_of_four.result (ap (nat_eq 4) c.in-4.is) c.verb_of_four.ensures

pub returns-in-5 : goal.returns-in-5
returns-in-5 c = found (nat_eq 5) c.args.word.now c.verb_of_five.result (ap (nat_eq 5) c.in-5.is) c.verb_of_five.ensures

pub returns-in-6-to-max : goal.returns-in-6-to-max
returns-in-6-to-max c =
    found (nat_le 6) c.args.word.now c.verb_of_long.result (le-leb 6 (length c.args.word.now) (omega arith)) c.verb_of_long.ensures

pub returns-in_default : goal.returns-in_default
returns-in_default c = found (λ n. nat_lt n 2) c.args.word.now None (le-leb (suc (length c.args.word.now)) 2 (omega arith)) refl
