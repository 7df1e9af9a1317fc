use Rattle.std.proofs.Common.{[], ◌∙◌}
use Rattle.std.proofs.lemmas.Result.{IfOk-weaker}
use Rattle.cord.specs.Plain.{no_lengths}
use Rattle.cord.proofs.text.Text.to_vec.Goals as goal

pub to_vec-requires : goal.to_vec-requires
to_vec-requires c = record { fits = c.self.invariant.over.fits no_lengths }

pub returns : goal.returns
returns c =
    record {
      text = IfOk-weaker c.within_memory.result _ _ (λ v made. (rw made at (c.to_vec.ensures.text [] tt)) ∙ c.self.view_is) c.within_memory.ensures.made;
    }
