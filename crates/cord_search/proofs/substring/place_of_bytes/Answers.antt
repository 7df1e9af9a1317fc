use Rattle.cord_search.proofs.substring.place_of_bytes.Goals as goal

pub returns : goal.returns
returns g c = rw c.new-finder.ensures at c.first_of.ensures
