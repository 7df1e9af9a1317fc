use Rattle.cord_script.proofs.Common.{refl, rules, Plain}
use Rattle.cord_script.proofs.LineReading.{word_given}
use Rattle.cord_script.proofs.remaining_words.LineWords.number.Goals as goal

pub returns-then-begins_numeral : goal.returns-then-begins_numeral
returns-then-begins_numeral c =
    let word = c.in_ok-word.word.now in
    word_given (Plain word) _ _ _ c.in_ok-word.ensures (word, refl, search rules) tt (λ names. refl) (λ paths. refl)
