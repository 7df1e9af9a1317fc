use Rattle.cord_lines.proofs.Common.{AreBlocksOf, AreOfSomeText, Block, Counts, FollowEdit, List, arith, drop, length-drop, replaced, set}
use Rattle.cord_lines.proofs.Common.{subst, sum_by-take-le, sym, ◌+◌, ◌-◌}
use Rattle.std.proofs.Common.{Option}
use Rattle.cord_lines.specs.inner.Edits.{AreRemoved}
use Rattle.cord_lines.proofs.Cuts.{few_by, modest_by}
use Rattle.cord_lines.proofs.Edits.{few_with, replaced_follow, replaced_some, set_follows, set_some}
use Rattle.cord_lines.proofs.renewing.renew.Goals as goal

pub span_of-span-requires-clause-found : goal.span_of-span-requires-clause-found
span_of-span-requires-clause-found c = record { modest = modest_by c.args.blocks.now c.requires.blocks; found = c.requires.found }

pub block_with-requires-clause-few : goal.block_with-requires-clause-few
block_with-requires-clause-few c =
    few_with c.args.blocks.now c.span_of-span.result.first c.get.result c.count_range-inserted.result (drop c.args.edit.start c.args.after.now)
    ((c.args.edit.start + c.args.edit.inserted) - c.args.edit.start) (modest_by c.args.blocks.now c.requires.blocks) c.get.ensures
    c.count_range-inserted.ensures (omega (arith, c.len-len_after.ensures.value, c.len-len_after.ensures.limit, length-drop c.args.edit.start c.args.after.now))

pub set-requires-clause-few : goal.set-requires-clause-few
set-requires-clause-few c = few_by (set c.args.blocks.now c.span_of-span.result.first c.in-Some-block_with.block)
    (set_some c.args.after.now c.span_of-span.ensures (omega arith) c.in-Some-block_with.ensures c.requires.blocks c.requires.edit
    (omega (arith, c.len-len_after.ensures.value, c.len-len_after.ensures.limit)))

pub returns-in-Some-block_with-clause-blocks : goal.returns-in-Some-block_with-clause-blocks
returns-in-Some-block_with-clause-blocks c = subst AreOfSomeText (sym c.set.ensures)
    (set_some c.args.after.now c.span_of-span.ensures (omega arith) c.in-Some-block_with.ensures c.requires.blocks c.requires.edit
    (omega (arith, c.len-len_after.ensures.value, c.len-len_after.ensures.limit)))

pub returns-in-Some-block_with-clause-cut : goal.returns-in-Some-block_with-clause-cut
returns-in-Some-block_with-clause-cut c = λ before here known edited. subst (λ (ys : List Block). AreBlocksOf ys c.args.after.now) (sym c.set.ensures)
    (set_follows c.args.after.now c.span_of-span.ensures (omega arith) c.in-Some-block_with.ensures c.get.ensures c.count_range-inserted.ensures
    before here (subst (λ (r : Option Counts). AreRemoved r c.args.edit before) c.in-Some.is known) edited)

pub cut-requires-clause-range : goal.cut-requires-clause-range
cut-requires-clause-range c =
    let span = c.span_of-span.result in
    let covers = c.span_of-span.ensures in
    let edit = c.requires.edit in
    omega (arith, covers.span.end, sum_by-take-le (λ (b : Block). b.bytes) c.args.blocks.now (span.first + span.count))

pub replace-requires : goal.replace-requires
replace-requires c = record {
  inside = c.span_of-span.ensures.span.inside;
  old = modest_by c.args.blocks.now c.requires.blocks;
  new = modest_by (replaced c.args.blocks.now c.span_of-span.result.first c.span_of-span.result.count c.deref.result.now)
      (replaced_some c.deref.result.now c.args.after.now c.span_of-span.ensures (rw c.deref.ensures.value c.in_ok-fresh.ensures.cut)
      c.requires.blocks c.requires.edit (omega (arith, c.len-len_after.ensures.value, c.len-len_after.ensures.limit)));
}

pub returns-clause-blocks : goal.returns-clause-blocks
returns-clause-blocks c = subst AreOfSomeText (sym c.in_ok-replace.ensures.blocks)
    (replaced_some c.deref.result.now c.args.after.now c.span_of-span.ensures (rw c.deref.ensures.value c.in_ok-fresh.ensures.cut)
    c.requires.blocks c.requires.edit (omega (arith, c.len-len_after.ensures.value, c.len-len_after.ensures.limit)))

pub returns-clause-cut : goal.returns-clause-cut
returns-clause-cut c =
    subst (λ (ys : List Block). FollowEdit c.args.blocks.now ys c.args.after.now c.args.edit c.args.removed) (sym c.in_ok-replace.ensures.blocks)
    (replaced_follow c.deref.result.now c.args.after.now c.span_of-span.ensures (rw c.deref.ensures.value c.in_ok-fresh.ensures.cut) c.args.removed)
