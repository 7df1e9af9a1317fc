use Rattle.std.proofs.Common.{ℕ, List, [], ◌∙◌, sym, ap}
use Rattle.std.specs.Prelude.{slice_get}
use Rattle.cord.specs.Plain.{no_lengths}
use Rattle.cord.proofs.text.Text.get.Goals as goal

pub fetch-requires-clause-fits : goal.fetch-requires-clause-fits
fetch-requires-clause-fits c = c.self.invariant.over.fits no_lengths

pub returns : goal.returns
returns c = sym (c.in-Ok.ensures.byte [] tt) ∙ ap (λ (x : List ℕ). slice_get x c.args.place) c.self.view_is
