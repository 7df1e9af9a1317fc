use Rattle.cord_script.proofs.Common.{sym, subst, option_map, StartsWith, HasNext}
use Rattle.cord_script.proofs.Worded.{starts_push}
use Rattle.cord_script.proofs.words.words_of.Goals as goal

pub words-preserved : goal.words-preserved
words-preserved c =
    let old = c.words.words.items in
    let w = c.in-Some.word in
    let grown = c.in_ok-push-in-Some.ensures.items in
    let next = subst (λ o. HasNext c.words.rest.now (option_map (λ r. (r.0, r.1.now)) o)) c.in-Some.is c.in_ok-next_word.ensures.word in
    subst (λ ws. StartsWith c.args.line.now ws c.in-Some.suffix.now) (sym grown)
    (starts_push c.args.line.now c.words.rest.now c.in-Some.suffix.now old w c.words.invariant next.0)
