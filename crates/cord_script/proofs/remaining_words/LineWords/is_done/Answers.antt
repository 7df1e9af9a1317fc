use Rattle.cord_script.proofs.Common.{arith, All, eqb-true, subst, ap, ◌∙◌, take_all, IsBlank}
use Rattle.cord_script.proofs.remaining_words.LineWords.is_done.Goals as goal

-- a must-fail edit breaks it
pub returns : goal.returns
returns c = λ done.
    subst (All IsBlank) (take_all c.blanks.result _ (omega (arith, eqb-true c.blanks.result _ done)) ∙ ap (λ w. w.rest) c.self.view_is)
    c.blanks.ensures.blank
