use Rattle.std.specs.Prelude.{◌≡◌}
use Rattle.cord_script.proofs.Common.{Some, length, refl, sym, subst, ◌∙◌, slice_get, slice_get_read, AreFirst}
use Rattle.cord_script.proofs.Firsts.{same_bytes, kind_at}
use Rattle.cord_script.proofs.table.Table.at.Goals as goal

pub returns-in-Some : goal.returns-in-Some
returns-in-Some c =
    let entry = c.in-Some.entry.now in
    let found = c.in-Some.ensures.lookup in
    let there = slice_get_read c.deref.result.now (length c.deref.result.now) c.args.place entry refl found.3.0 found.1 in
    let at = subst (λ names. slice_get names c.args.place ≡ Some entry) (c.deref.ensures.value ∙ c.self.view_is) there in
    let same : entry.name ≡ c.args.name.now = same_bytes entry.name c.args.name.now (sym c.is_spelled.ensures ∙ c.if-is_spelled.true) in
    (same, kind_at c.args.self.now c.args.place entry c.args.name.now (subst AreFirst c.self.view_is c.self.invariant.0) at same)
