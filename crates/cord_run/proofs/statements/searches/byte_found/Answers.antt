use Rattle.cord_run.proofs.Common.{ℕ, ℤ, Ok, refl, sym, subst, rules, IfSome, bytes_of, text_len, as_byte, as_index, byte_place, Finds, ◌≡◌}
use Rattle.cord_run.proofs.Common.{⊤, ◌<◌, ◌≤◌}
use Rattle.cord_run.proofs.Numbers.{byte_placed, handed, past_byte}
use Rattle.cord_run.proofs.statements.searches.byte_found.Goals as goal

pub returns-then-len-index-clause-found : goal.returns-then-len-index-clause-found
returns-then-len-index-clause-found g c = λ file_system agrees.
    let checked : as_index c.args.start ≡ Ok c.in_ok-index.index = search rules in
    let good : as_byte c.args.byte ≡ Ok c.in_ok-wanted.wanted = search rules in
    past_byte (g.R.Source.lengths c.args.source.now) c.args.cord.now c.len-len.ensures.sound c.requires.fits c.args.start
    c.in_ok-index.index checked c.args.direction c.args.byte c.in_ok-wanted.wanted good (g.R.Source.table c.args.source.now file_system)
    (g.met.R.Source.lengths_of_table c.args.source.now file_system agrees) (search rules)

pub returns-in-Ok-clause-found : goal.returns-in-Ok-clause-found
returns-in-Ok-clause-found g c = λ file_system agrees.
    let checked : as_index c.args.start ≡ Ok c.in_ok-index.index = search rules in
    let good : as_byte c.args.byte ≡ Ok c.in_ok-wanted.wanted = search rules in
    let within : c.in_ok-index.index < text_len c.args.cord.now = search rules in
    let table = g.R.Source.table c.args.source.now file_system in
    subst (λ (z : ℤ). Finds ⊤ (byte_place c.args.direction (bytes_of table c.args.cord.now) c.args.start c.args.byte) (Ok z))
    (sym (handed c.place_number.result (search rules) refl))
    (byte_placed (g.R.Source.lengths c.args.source.now) c.args.cord.now c.len-len.ensures.sound c.requires.fits c.args.start
    c.in_ok-index.index checked c.args.direction c.args.byte c.in_ok-wanted.wanted good table
    (g.met.R.Source.lengths_of_table c.args.source.now file_system (c.in-Ok.ensures.same.earlier file_system agrees)) within c.in-Ok.place
    c.place_number.result (λ within. c.place_number.ensures
    (subst (λ (n : ℕ). IfSome c.in-Ok.place (λ p. p ≤ n)) (sym c.len-len.ensures.stored) within))
    (c.in-Ok.ensures.nearest file_system agrees))
