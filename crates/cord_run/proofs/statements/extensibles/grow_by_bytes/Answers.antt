use Rattle.cord_run.proofs.Common.{Err, refl, sym, subst, Stop, Becomes, longer_text}
use Rattle.cord_run.proofs.Extensibles.{grown_becomes, grown_over, grown_refused}
use Rattle.cord_run.proofs.statements.extensibles.grow_by_bytes.Goals as goal

pub returns-in-Ok-clause-over : goal.returns-in-Ok-clause-over
returns-in-Ok-clause-over c =
    let g = c.in-Ok.ensures.grown in
    grown_over c.args.name.now _ c.args.store.now.entries.items refl g.after c.append.new.self.entries.items g.has (λ ls over. g.grown.fits ls)

pub returns-in-Ok-clause-becomes : goal.returns-in-Ok-clause-becomes
returns-in-Ok-clause-becomes c =
    let g = c.in-Ok.ensures.grown in
    grown_becomes c.args.name.now _ c.args.store.now.entries.items refl g.after c.append.new.self.entries.items g.has
    (λ t. c.args.bytes.now) (λ t over. g.grown.bytes t) (λ t over. c.in-Ok.ensures.fits)

pub returns-in-Err-clause-becomes : goal.returns-in-Err-clause-becomes
returns-in-Err-clause-becomes c =
    let old = c.args.store.now.entries.items in
    let new = c.append.new.self.entries.items in
    subst (λ (h : Stop). Becomes c.args.name.now (λ t. longer_text old c.args.name.now c.args.bytes.now t) old new (Err h))
    (sym c.refusal.ensures)
    (grown_refused c.args.name.now _ old refl new c.in-Err.error (λ t. c.args.bytes.now) (λ is t over. c.in-Err.ensures.too_long is))
