use Rattle.std.specs.Prelude.{◌≡◌, ◌∷◌, ◌++◌}
use Rattle.cord_script.proofs.Common.{[], None, sym, subst, rules, Known, kind_of, IsTable}
use Rattle.cord_script.proofs.Firsts.{first_push, names_push}
use Rattle.cord_script.proofs.table.Table.push.Goals as goal

pub invariant_of-self-2 : goal.invariant_of-self-2
invariant_of-self-2 c =
    let last : Known = c.args.known in
    let is : c.push.new.self.items ≡ c.self.inside.known.items ++ last ∷ [] = search rules in
    let new : kind_of c.self.inside.known.items last.name ≡ None = search rules in
    let known = c.self.invariant in
    subst IsTable (sym is) (
      first_push c.self.inside.known.items last known.0 new,
      names_push c.self.inside.known.items last known.1 c.requires.is_name,
    )
