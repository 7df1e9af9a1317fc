use Rattle.std.specs.Prelude.{◌≡◌, ◌∷◌, ◌++◌}
use Rattle.cord_plan.proofs.Common.{List, ℕ, [], map, sym, ap, ◌∙◌, append_assoc, codes, called, spaced, fragment_text}
use Rattle.cord_plan.proofs.Spacing.{two_words}
use Rattle.cord_plan.proofs.Writing.{writes_same, writes_then, writes_stopped, writes_failed}
use Rattle.cord_plan.proofs.plan_text.statements.put_given.Goals as goal

-- the head of the text, and its operands
opened : (target word operands : List ℕ) → (codes "number " ++ (target ++ 32 ∷ (word ++ 40 ∷ []))) ++ (operands ++ 41 ∷ [])
    ≡ codes "number " ++ (target ++ 32 ∷ called word operands)
opened target word operands =
    let rest = operands ++ 41 ∷ [] in
    ap (λ (t : List ℕ). codes "number " ++ t) (two_words target (word ++ 40 ∷ []) rest
    ∙ ap (λ (t : List ℕ). target ++ 32 ∷ t) (append_assoc word (40 ∷ []) rest ∙ sym (append_assoc word (40 ∷ operands) (41 ∷ []))))

pub returns-in_err-put_fragments : goal.returns-in_err-put_fragments
returns-in_err-put_fragments g c =
    let rest = spaced (map fragment_text c.args.operands.now) ++ 41 ∷ [] in
    writes_failed c.from_residual.ensures.0
    (writes_same (opened c.args.target.now c.args.word.now (spaced (map fragment_text c.args.operands.now)))
    (writes_stopped rest c.in_err-put_fragments.ensures))

pub returns-in_err-put_words : goal.returns-in_err-put_words
returns-in_err-put_words g c =
    let rest = spaced (map fragment_text c.args.operands.now) ++ 41 ∷ [] in
    writes_failed c.from_residual-in_err-put_words.ensures.0
    (writes_same (opened c.args.target.now c.args.word.now (spaced (map fragment_text c.args.operands.now)))
    (writes_then c.in_ok-put_fragments.ensures (writes_stopped (41 ∷ []) c.in_err-put_words.ensures)))

pub returns : goal.returns
returns g c =
    let rest = spaced (map fragment_text c.args.operands.now) ++ 41 ∷ [] in
    writes_same (opened c.args.target.now c.args.word.now (spaced (map fragment_text c.args.operands.now)))
    (writes_then c.in_ok-put_fragments.ensures (writes_then c.in_ok-put_words.ensures c.put_all.ensures))
