use Rattle.std.specs.Prelude.{◌≡◌}
use Rattle.cord_plan.proofs.Common.{Some, length, refl, ap, ◌∙◌, assigns, read_by, reads, target_of, PutsPlaces}
use Rattle.cord_plan.proofs.Begun.{written_back}
use Rattle.cord_plan.proofs.Lasts.{assigned_then, read_then, block_then}
use Rattle.cord_plan.proofs.flow.recent.Recent.note.Goals as goal

pub returns-clause-recent : goal.returns-clause-recent
returns-clause-recent c =
    let t = c.args.self.now.later.now.numbering in
    let l = c.args.statement.now in
    let b = c.args.place in
    let assigned = c.args.self.now.assigned in
    let read = c.args.self.now.read in
    let one : length c.put.new.places ≡ assigned.len = c.put.auto.places ∙ c.deref_mut.ensures.len in
    let two : length c.note_all.new.places ≡ read.len = c.note_all.auto.places ∙ c.deref_mut-2.ensures.len in
    λ s here old.
    let assigns_noted : PutsPlaces t (λ x. assigns l x) (Some b) assigned.items c.put.new.places =
    rw (← c.deref_mut.ensures.value) (c.put.ensures t (target_of l) c.requires.target (ap length c.deref_mut.ensures.value ∙ old.assigned_for)) in
    let reads_noted : PutsPlaces t (λ x. reads l x) (Some b) read.items c.note_all.new.places =
    rw (← c.deref_mut-2.ensures.value) (c.note_all.ensures t (read_by l) c.requires.read (ap length c.deref_mut-2.ensures.value ∙ old.read_for)) in
    record {
      numbered = old.numbered;
      assigned_for = rw (written_back assigned.len c.put.new.places assigned.items one) (one ∙ (assigned.ok.0 ∙ old.assigned_for));
      read_for = rw (written_back read.len c.note_all.new.places read.items two) (two ∙ (read.ok.0 ∙ old.read_for));
      assigned = rw (written_back assigned.len c.put.new.places assigned.items one)
          (assigned_then s t b l here assigned.items c.put.new.places assigns_noted old.assigned);
      read = rw (written_back read.len c.note_all.new.places read.items two)
          (read_then s t b l here read.items c.note_all.new.places reads_noted old.read);
      block = c.block_after-self.ensures ∙ block_then s t b l here c.args.self.now.block _ refl old.block;
    }
