use Rattle.std.proofs.Common.{◌∙◌, ◌+◌, ap, refl, arith}
use Rattle.cord_core.specs.Cord.{parts_of}
use Rattle.cord_ec.specs.Gathered.{Growth}
use Rattle.cord_edit.specs.inner.Gaps.{gap_bytes}
use Rattle.cord_ec.proofs.Growing.{cord_of}
use Rattle.cord_edit.proofs.Lists.{around_nothing}
use Rattle.cord_edit.proofs.Parting.{as_seen, gap_kept, more, steps, no_gap, unchanged_parts}
use Rattle.cord_edit.proofs.buffer.EditBuffer.to_cord.Goals as goal

pub returns-in_err-end-clause-stays : goal.returns-in_err-end-clause-stays
returns-in_err-end-clause-stays c = unchanged_parts 1 _ _ _ (ap (λ (g : Growth). g.parts) c.self.view_is)
    (gap_kept (c.in_err-end.ensures.cords_unchanged refl) (c.in_err-end.ensures.gap_unchanged refl))

pub returns-in_err-cord-2-clause-stays : goal.returns-in_err-cord-2-clause-stays
returns-in_err-cord-2-clause-stays c = as_seen c.self.view_is
    (no_gap 1 _ c.flush.new.cords.parts (gap_bytes c.flush.new.gap) c.in_ok-end.ensures.cleared.bytes c.in_ok-end.ensures.spliced.gathered)

pub returns-then-has_edits-clause-over : goal.returns-then-has_edits-clause-over
returns-then-has_edits-clause-over c = cord_of c.args.self.now.text c.in_ok-cord.cord c.in_ok-cord.ensures.made.sound c.in_ok-cord.ensures.made.text

pub returns-clause-over : goal.returns-clause-over
returns-clause-over c = cord_of c.args.self.now.text c.in_ok-cord-2.cord c.in_ok-cord-2.ensures.made.sound
    (c.in_ok-cord-2.ensures.made.text ∙ c.in_ok-end.ensures.spliced.text ∙ ap (λ (e : Growth). e.text) c.self.view_is)

pub returns-clause-gathered : goal.returns-clause-gathered
returns-clause-gathered c = as_seen c.self.view_is (more (1 + 0) 1 _ _ (omega arith)
    (steps 1 0 _ c.flush.new.cords.parts (parts_of c.in_ok-cord-2.cord) c.in_ok-end.ensures.spliced.gathered c.in_ok-cord-2.ensures.made.gathered))

pub returns-clause-stays : goal.returns-clause-stays
returns-clause-stays c = as_seen c.self.view_is
    (no_gap 1 _ c.flush.new.cords.parts (gap_bytes c.flush.new.gap) c.in_ok-end.ensures.cleared.bytes c.in_ok-end.ensures.spliced.gathered)

pub returns-clause-same : goal.returns-clause-same
returns-clause-same c = around_nothing c.flush.new.cords.text (gap_bytes c.flush.new.gap) c.in_ok-end.end c.in_ok-end.ensures.cleared.bytes
    ∙ c.in_ok-end.ensures.spliced.text ∙ ap (λ (e : Growth). e.text) c.self.view_is
