use Rattle.std.proofs.Common.{List, ℕ, Some, length, refl, sym, ap, ◌∙◌}
use Rattle.std.proofs.lemmas.Bool.{ltb-true}
use Rattle.std.proofs.lemmas.Option.{slice_get_read}
use Rattle.std.proofs.lemmas.Slice.Eq.{bytes_eq-Decides}
use Rattle.cord_operands.proofs.names.Name.place_in.Goals as goal

-- src/names.rt:89:5
pub returns-in-Some-clause-some : goal.returns-in-Some-clause-some
returns-in-Some-clause-some c =
    let same = (bytes_eq-Decides c.args.self.now c.in-Some.known.now).0 (sym c.is.ensures ∙ c.if-is.true) in
    let within = ltb-true c.hint-hint.result (length c.args.names.now) (sym c.in-Some.ensures.lookup.0) in
    slice_get_read c.args.names.now (length c.args.names.now) c.hint-hint.result c.in-Some.known.now refl within
    c.in-Some.ensures.lookup.1 ∙ ap (λ (x : List ℕ). Some x) (sym same)
