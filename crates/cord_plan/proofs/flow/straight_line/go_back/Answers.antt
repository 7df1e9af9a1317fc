use Rattle.cord_plan.proofs.Common.{◌∙◌, read_by, target_of}
use Rattle.cord_plan.proofs.StraightLine.{line_more}
use Rattle.cord_plan.proofs.flow.straight_line.go_back.Goals as goal

pub returns : goal.returns
returns c = λ t l ls numbered before.
    let size = c.put.auto.places in
    line_more t l ls c.args.place c.args.next_reads.now c.put.new.places c.note_all.new.places (c.note_all.auto.places ∙ size)
    (c.put.ensures t (target_of l) numbered.target before.places_for)
    (c.note_all.ensures t (read_by l) numbered.read (size ∙ before.places_for)) before
