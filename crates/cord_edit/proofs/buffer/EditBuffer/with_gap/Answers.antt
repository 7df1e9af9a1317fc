use Rattle.std.proofs.Common.{◌∙◌, ◌++◌, List, length, map, take, drop, ap, refl, subst, arith, rules}
use Rattle.cord_node.specs.Tree.{Cell, known}
use Rattle.cord_node.specs.PartsFrom.{Part}
use Rattle.cord_core.specs.Cord.{parts_of}
use Rattle.cord_ec.specs.Gathered.{Growth, Gathered, leaf_parts}
use Rattle.cord_edit.specs.inner.Gaps.{gap_bytes}
use Rattle.cord_ec.proofs.Leaves.{gathered_own, leaf_of_bytes}
use Rattle.cord_ec.specs.Gathered.{IsGathered}
use Rattle.cord_ec.proofs.MadeLemmas.{made_beside}
use Rattle.cord_edit.proofs.Lists.{still_around}
use Rattle.cord_edit.proofs.Parting.{as_before, as_seen, unchanged_parts}
use Rattle.cord_edit.proofs.buffer.EditBuffer.with_gap.Goals as goal

pub returns-in_err-leaf-clause-stays : goal.returns-in_err-leaf-clause-stays
returns-in_err-leaf-clause-stays c = record { same = refl; stays = as_before 1 c.args.self.now.parts }

pub returns-in_err-cord-clause-stays : goal.returns-in_err-cord-clause-stays
returns-in_err-cord-clause-stays c = record {
  same = ap (λ (n : Growth). take c.self.inside.cut_start n.text ++ map known (gap_bytes c.self.inside.gap) ++ drop c.self.inside.cut_end n.text)
      (c.in_err-cord.ensures.unchanged refl) ∙ ap (λ (g : Growth). g.text) c.self.view_is;
  stays = unchanged_parts 1 _ _ _ (ap (λ (g : Growth). g.parts) c.self.view_is)
      (ap (λ (n : Growth). n.parts ++ leaf_parts (gap_bytes c.self.inside.gap)) (c.in_err-cord.ensures.unchanged refl));
}

pub returns-clause-made : goal.returns-clause-made
returns-clause-made c = record {
  text = c.in_ok-cord.ensures.made.text
      ∙ ap (λ (xs : List Cell). take c.self.inside.cut_start c.self.inside.cords.text ++ xs ++ drop c.self.inside.cut_end c.self.inside.cords.text)
      (c.in_ok-leaf.ensures.text ∙ ap (map known) c.bytes.ensures) ∙ ap (λ (e : Growth). e.text) c.self.view_is;
  sound = c.in_ok-cord.ensures.made.sound;
  gathered = as_seen c.self.view_is (subst (λ (leaf : List Part). Gathered 1 (c.self.inside.cords.parts ++ leaf) (parts_of c.in_ok-cord.cord))
      (leaf_of_bytes c.bytes.result.now c.in_ok-leaf.leaf c.in_ok-leaf.ensures.sound c.in_ok-leaf.ensures.form
      ∙ ap leaf_parts c.bytes.ensures) c.in_ok-cord.ensures.made.gathered);
}

pub returns-clause-stays : goal.returns-clause-stays
returns-clause-stays c = record {
  same = still_around c.self.inside.cords.text c.with.new.self.text (gap_bytes c.self.inside.gap) c.self.inside.cut_start c.self.inside.cut_end
      (omega (arith, c.self.invariant.0, c.self.invariant.1)) c.in_ok-cord.ensures.cut ∙ ap (λ (e : Growth). e.text) c.self.view_is;
  stays = as_seen c.self.view_is
      (made_beside IsGathered gathered_own 1 c.self.inside.cords.parts c.with.new.self.parts (leaf_parts (gap_bytes c.self.inside.gap))
      c.in_ok-cord.ensures.stays);
}

pub with-requires : goal.with-requires
with-requires c = omega (arith, c.in_ok-leaf.ensures.len, ap length c.bytes.ensures, c.self.invariant.0, c.self.invariant.1)

pub invariant_of-self-2 : goal.invariant_of-self-2
invariant_of-self-2 c = search rules
