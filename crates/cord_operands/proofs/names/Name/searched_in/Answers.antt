use Rattle.std.proofs.Common.{List, ℕ, Some, length, refl, sym, ap, ◌∙◌}
use Rattle.std.proofs.lemmas.Option.{slice_get_read}
use Rattle.std.proofs.lemmas.Slice.Eq.{bytes_eq-Decides}
use Rattle.cord_operands.proofs.names.Name.searched_in.Goals as goal

-- src/names.rt:109:17
pub returns-then-is-clause-some : goal.returns-then-is-clause-some
returns-then-is-clause-some c =
    let same = (bytes_eq-Decides c.args.self.now c.index-names-place.result).0 (sym c.is.ensures ∙ c.if-is.true) in
    slice_get_read c.args.names.now (length c.args.names.now) c.loop-place.place c.index-names-place.result refl c.loop-place-test.true
    c.index-names-place.is ∙ ap (λ (x : List ℕ). Some x) (sym same)
