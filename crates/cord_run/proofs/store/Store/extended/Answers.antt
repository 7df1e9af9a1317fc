use Rattle.cord_run.proofs.Common.{ap, ◌∙◌, None, IfOk-weaker, Entry, cells_in}
use Rattle.cord_run.proofs.Entries.{absent_none, extensible_same, value_there}
use Rattle.cord_run.proofs.Literals.{extended_none, extended_text}
use Rattle.cord_run.proofs.store.Store.extended.Goals as goal

pub returns-in-None-clause-made : goal.returns-in-None-clause-made
returns-in-None-clause-made c = extended_none c.args.self.now.entries.items c.args.name.now
    (absent_none (λ entry. cells_in entry.extensible) None c.args.self.now.entries.items c.args.name.now c.in-None.ensures)
    c.empty.result c.empty.ensures

pub returns-in-Some-clause-made : goal.returns-in-Some-clause-made
returns-in-Some-clause-made c =
    let entries = c.args.self.now.entries.items in
    let name = c.args.name.now in
    let from : Entry = c.index_mut.result.now in
    IfOk-weaker c.cord_of.result _ _ (λ cord. extended_text entries name (cells_in from.extensible) cord
    (value_there (λ entry. cells_in entry.extensible) None entries name c.in-Some.place from c.in-Some.ensures.first c.index_mut.ensures.value))
    c.cord_of.ensures.made

pub returns-in-Some-clause-same : goal.returns-in-Some-clause-same
returns-in-Some-clause-same c =
    let is = c.index_mut.ensures.value in
    (extensible_same c.args.self.now.entries.items c.in-Some.place c.index_mut.result.now _ (ap (λ (e : Entry). e.name) is)
    (c.cord_of.ensures.same ∙ ap (λ (e : Entry). cells_in e.extensible) is) (ap (λ (e : Entry). e.content) is)
    (ap (λ (e : Entry). e.number) is)).set c.args.name.now c.in-Some.ensures.first

pub invariant_of-self : goal.invariant_of-self
invariant_of-self c =
    let is = c.index_mut.ensures.value in
    let same = extensible_same c.args.self.now.entries.items c.in-Some.place c.index_mut.result.now _ (ap (λ (e : Entry). e.name) is)
    (c.cord_of.ensures.same ∙ ap (λ (e : Entry). cells_in e.extensible) is) (ap (λ (e : Entry). e.content) is)
    (ap (λ (e : Entry). e.number) is) in
    record { distinct = same.distinct c.args.self.now.distinct; keyed = same.keyed c.args.self.now.keys c.args.self.now.keyed }
