use Rattle.std.proofs.Common.{ℕ, List, [], ◌++◌, ◌∙◌, ap, subst}
use Rattle.cord_iter.specs.Output.{IsPrefixOf, Takes}
use Rattle.cord.specs.Plain.{no_lengths}
use Rattle.cord.proofs.Results.{on_err}
use Rattle.cord.proofs.text.Text.put.Goals as goal

pub put-requires : goal.put-requires
put-requires g c = record { fits = c.self.invariant.over.fits no_lengths }

pub returns-in_err-put-clause-prefix : goal.returns-in_err-put-clause-prefix
returns-in_err-put-clause-prefix g c =
    let old = g.W.Sink.taken c.args.sink.now in
    let new = g.W.Sink.taken c.put.new.sink in
    on_err _ c.from_residual.result (subst (λ (x : List ℕ). Takes (IsPrefixOf x) old new) c.self.view_is
    (c.in_err-put.ensures.prefix [] tt))

pub returns-clause-text : goal.returns-clause-text
returns-clause-text g c = c.in_ok-put.ensures.text [] tt ∙ ap (λ (x : List ℕ). g.W.Sink.taken c.args.sink.now ++ x) c.self.view_is
