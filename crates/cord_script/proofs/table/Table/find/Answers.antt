use Rattle.cord_script.proofs.Common.{sym, subst, AreNames}
use Rattle.cord_script.proofs.Firsts.{known_name, some_by}
use Rattle.cord_script.proofs.table.Table.find.Goals as goal

pub returns-in-Some-clause-is_name : goal.returns-in-Some-clause-is_name
returns-in-Some-clause-is_name c =
    known_name c.args.self.now c.args.name.now c.in-Some.entry.now.kind (subst AreNames c.self.view_is c.self.invariant.1)
    c.in-Some.ensures.1

pub returns-in-None-clause-is_name : goal.returns-in-None-clause-is_name
returns-in-None-clause-is_name c =
    let names = subst AreNames (sym c.as_slice-known.ensures.value) c.self.invariant.1 in
    some_by c.search.result _ _ _
    (λ found h. known_name c.as_slice-known.result.now c.args.name.now found.now.kind names h.1) c.search.ensures
