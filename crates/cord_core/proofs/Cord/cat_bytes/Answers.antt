use Rattle.cord_core.proofs.OverLemmas.{appended_over}
use Rattle.cord_core.proofs.Cord.cat_bytes.Goals as goal

pub returns-clause-text : goal.returns-clause-text
returns-clause-text c = rw (← c.in_ok-tail.ensures.text) c.in_ok-cord.ensures.text

pub returns-clause-over : goal.returns-clause-over
returns-clause-over c = appended_over c.args.cord.now c.in_ok-tail.tail c.in_ok-cord.cord c.args.bytes.now c.in_ok-tail.ensures.over
    c.in_ok-cord.ensures.over

pub returns-clause-cat : goal.returns-clause-cat
returns-clause-cat c = record {
  tail = c.in_ok-tail.tail;
  sound = c.in_ok-tail.ensures.sound;
  form = c.in_ok-tail.ensures.form;
  depth_is = c.in_ok-cord.ensures.depth;
  sides = c.in_ok-cord.ensures.sides;
  parts_from = c.in_ok-cord.ensures.parts_from;
}
