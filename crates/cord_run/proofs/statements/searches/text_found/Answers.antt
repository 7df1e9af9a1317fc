use Rattle.cord_run.proofs.Common.{ℕ, ℤ, Ok, refl, sym, subst, rules, IfSome, and_then, bytes_of, as_index, place_number, Finds, ⊤, ◌≡◌, ◌≤◌}
use Rattle.cord_core.specs.Texts.{first}
use Rattle.cord_run.proofs.Numbers.{handed, text_placed}
use Rattle.cord_run.proofs.statements.searches.text_found.Goals as goal

pub returns-in-Ok-clause-found : goal.returns-in-Ok-clause-found
returns-in-Ok-clause-found g c = λ file_system agrees.
    let checked : as_index c.args.start ≡ Ok c.in_ok-index.index = search rules in
    let table = g.R.Source.table c.args.source.now file_system in
    subst (λ (z : ℤ). Finds ⊤ (and_then (as_index c.args.start) (λ i. Ok (place_number
    (first (bytes_of table c.args.cord.now) i (bytes_of table c.args.pattern.now))))) (Ok z))
    (sym (handed c.place_number.result (search rules) refl))
    (text_placed (g.R.Source.lengths c.args.source.now) c.args.cord.now c.len-len.ensures.sound c.requires.fits c.args.start
    c.in_ok-index.index checked c.args.pattern.now table (g.met.R.Source.lengths_of_table c.args.source.now file_system
    (c.in-Ok.ensures.source.earlier file_system agrees)) c.in-Ok.place c.place_number.result
    (λ within. c.place_number.ensures (subst (λ (n : ℕ). IfSome c.in-Ok.place (λ p. p ≤ n)) (sym c.len-len.ensures.stored) within))
    (c.in-Ok.ensures.first file_system agrees))
