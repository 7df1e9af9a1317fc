use Rattle.cord_script.proofs.Common.{length, StartsWith}
use Rattle.cord_script.proofs.words.words_of.Given as goal

abbrev pub invariant-words : goal.invariant-words
invariant-words l = StartsWith l.line l.words.items l.rest

abbrev pub decreases-words : goal.decreases-words
decreases-words l = length l.rest
