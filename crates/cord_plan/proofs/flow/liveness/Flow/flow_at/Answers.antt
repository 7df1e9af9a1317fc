use Rattle.std.specs.Prelude.{◌≤◌}
use Rattle.cord_plan.proofs.Common.{List, ℕ, ap, ◌∙◌, arith, bit_and, bit_not, w128, column, at, some_of}
use Rattle.std.proofs.lemmas.Nat.{le_or_l, or_lt, and_le_l}
use Rattle.cord_plan.proofs.Words.{flow_bits, flow_same}
use Rattle.cord_plan.proofs.flow.liveness.Flow.flow_at.Goals as goal

pub returns-clause-bits : goal.returns-clause-bits
returns-clause-bits c = λ x i b.
    flow_bits c.word_at-here.result c.successor_word_at-successors.result c.word_at-kill.result i (omega arith) b.within
    ∙ flow_same _ _ _ _ _ _ (c.word_at-here.ensures.bits i) (c.successor_word_at-successors.ensures i
    ∙ ap (λ (qs : List ℕ). some_of (λ q. at (column c.args.words.now i) q) qs) (c.requires.paths c.args.place))
    (c.word_at-kill.ensures.bits i ∙ c.requires.assigned.reported x i b c.args.place)

pub returns-clause-grows : goal.returns-clause-grows
returns-clause-grows c =
    let added = bit_and c.successor_word_at-successors.result (bit_not w128 c.word_at-kill.result) in
    rw (← c.word_at-here.ensures.value) (le_or_l c.word_at-here.result added)

pub returns-clause-fits : goal.returns-clause-fits
returns-clause-fits c =
    let kept = bit_not w128 c.word_at-kill.result in
    let within : bit_and c.successor_word_at-successors.result kept ≤ c.successor_word_at-successors.result =
    and_le_l c.successor_word_at-successors.result kept in
    or_lt 128 c.word_at-here.result (bit_and c.successor_word_at-successors.result kept) (omega arith) (omega arith)
