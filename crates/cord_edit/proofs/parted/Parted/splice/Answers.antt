use Rattle.std.proofs.Common.{◌≡◌, ◌∙◌, ◌++◌, append-nil, List, ap, sym, subst, arith}
use Rattle.std.proofs.lemmas.Grind.{common_steps}
use Rattle.std.specs.Prelude.{Option}
use Rattle.cord_node.specs.declared.Node.{Node}
use Rattle.cord_node.specs.PartsFrom.{Part}
use Rattle.cord_core.specs.Cord.{text_len, parts_of}
use Rattle.cord_ec.specs.Gathered.{Gathered}
use Rattle.cord_edit.proofs.Halves.{counted, one_cord, as_long, put_in_prefix, put_in_all}
use Rattle.cord_edit.proofs.Parting.{as_seen_with}
use Rattle.cord_edit.proofs.parted.Parted.splice.Goals as goal

pub returns-then-len-eq0-clause-spliced : goal.returns-then-len-eq0-clause-spliced
returns-then-len-eq0-clause-spliced c = record {
  text = grind (arith, common_steps);
  len = counted c.splice.new.self c.self.inside.back c.in_ok-splice.ensures.sound c.len.ensures.sound
      ∙ omega (arith, c.in_ok-splice.ensures.len, c.len.ensures.stored, c.if-len-eq0.true, c.requires.order, c.requires.inside, c.self.invariant.1, as_long c.self.view_is);
  gathered = as_seen_with (parts_of c.args.middle.now) c.self.view_is
      (put_in_prefix (parts_of c.self.inside.prefix) (parts_of c.self.inside.back) (parts_of c.args.middle.now) (parts_of c.splice.new.self)
      c.in_ok-splice.ensures.few c.in_ok-splice.ensures.from_there);
}

pub invariant_of-self-then-len-eq0 : goal.invariant_of-self-then-len-eq0
invariant_of-self-then-len-eq0 c =
    let both = counted c.splice.new.self c.self.inside.back c.in_ok-splice.ensures.sound c.len.ensures.sound in
    let len = (returns-then-len-eq0-clause-spliced c).len in
    (omega (arith, both, len, c.requires.within_limit), both)

pub invariant_of-self-2 : goal.invariant_of-self-2
invariant_of-self-2 c = one_cord c.splice-2.new.self c.empty.result c.in_ok-splice-2.ensures.sound c.empty.ensures

pub returns-clause-spliced : goal.returns-clause-spliced
returns-clause-spliced c =
    let m : List Part = parts_of c.args.middle.now in
    let none : text_len c.empty.result ≡ 0 = ap text_len c.empty.ensures in
    record {
      text = grind (arith, common_steps);
      len = (invariant_of-self-2 c).1
          ∙ omega (arith, none, c.in_ok-splice-2.ensures.len, c.in_ok-all.ensures.len, c.requires.order, c.requires.inside, c.self.invariant.1, as_long c.self.view_is);
      gathered = subst (λ (n : Option Node). Gathered 1 (c.args.self.now.parts ++ m) (parts_of c.splice-2.new.self ++ parts_of n)) (sym c.empty.ensures)
          (subst (λ (ps : List Part). Gathered 1 (c.args.self.now.parts ++ m) ps) (sym (append-nil (parts_of c.splice-2.new.self)))
          (as_seen_with m c.self.view_is (put_in_all (parts_of c.self.inside.prefix ++ parts_of c.self.inside.back) m (parts_of c.in_ok-all.all) (parts_of c.splice-2.new.self)
          c.in_ok-all.ensures.parts_from c.in_ok-splice-2.ensures.few c.in_ok-splice-2.ensures.from_there)));
    }
