use Rattle.std.proofs.Common.{◌+◌, ◌-◌, ◌^◌, arith, sym}
use Rattle.cord_core.specs.Cord.{text}
use Rattle.cord_core.proofs.OverLemmas.{spliced_over}
use Rattle.cord_core.proofs.Splices.{clamped_text}
use Rattle.cord_core.proofs.Cord.splice.Goals as goal

pub returns-in_ok-splice_tree-clause-text : goal.returns-in_ok-splice_tree-clause-text
returns-in_ok-splice_tree-clause-text c = clamped_text (text c.args.self.now) (text c.args.middle.now) (text c.splice_tree.new.cord)
    c.args.start (c.args.start + c.args.count) (2 ^ 64 - 1) c.len-len.result c.min-from.result c.saturating_add.result
    c.min-until.result (sym c.len-len.ensures.text) (omega (arith, c.len-len.ensures.limit)) c.min-from.ensures c.saturating_add.ensures
    c.min-until.ensures c.in_ok-splice_tree.ensures.text

pub returns-in_ok-changed-clause-text : goal.returns-in_ok-changed-clause-text
returns-in_ok-changed-clause-text c = clamped_text (text c.args.self.now) (text c.args.middle.now) (text c.in_ok-changed.changed)
    c.args.start (c.args.start + c.args.count) (2 ^ 64 - 1) c.len-len.result c.min-from.result c.saturating_add.result
    c.min-until.result (sym c.len-len.ensures.text) (omega (arith, c.len-len.ensures.limit)) c.min-from.ensures c.saturating_add.ensures
    c.min-until.ensures c.in_ok-changed.ensures.text

pub returns-in_ok-splice_tree-clause-over : goal.returns-in_ok-splice_tree-clause-over
returns-in_ok-splice_tree-clause-over c = spliced_over c.args.start c.args.count c.args.self.now c.args.middle.now c.splice_tree.new.cord
    c.in_ok-splice_tree.ensures.sound (returns-in_ok-splice_tree-clause-text c)

pub returns-in_ok-changed-clause-over : goal.returns-in_ok-changed-clause-over
returns-in_ok-changed-clause-over c = spliced_over c.args.start c.args.count c.args.self.now c.args.middle.now c.in_ok-changed.changed
    c.in_ok-changed.ensures.sound (returns-in_ok-changed-clause-text c)
