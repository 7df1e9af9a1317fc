use Rattle.cord_run.proofs.statements.numbers.look_number.Goals as goal

pub returns-clause-found : goal.returns-clause-found
returns-clause-found g c = λ file_system agrees line.
    rw (c.in-Ncmp.is, ← c.as_ref.ensures, ← c.as_ref-in-Ncmp.ensures, ← c.as_ref-in-Ncmp-2.ensures)
    (c.ranges_number.ensures.found file_system agrees line c.in-Ncmp.target.now)
