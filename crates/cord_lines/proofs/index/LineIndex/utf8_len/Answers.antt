use Rattle.cord_lines.proofs.Common.{ap, arith, counts_of, drop, take, take-add, ◌++◌, ◌+◌, ◌∙◌, ◌≡◌}
use Rattle.cord_lines.proofs.Countings.{alike, counts-append}
use Rattle.cord_lines.proofs.Sums.{min_prefix}
use Rattle.cord_lines.proofs.index.LineIndex.utf8_len.Goals as goal

pub returns : goal.returns
returns c = λ is.
    let x = c.args.text.now in
    let start = c.args.start in
    let count = c.args.count in
    let whole : take c.min-end.result x ≡ take start x ++ take count (drop start x) =
    min_prefix x (start + count) c.min-end.result (omega (arith, c.min-end.ensures, c.saturating_add.ensures, c.len.ensures.value, c.len.ensures.limit))
    ∙ take-add start count x in
    let before = alike (c.counts_before-before.ensures is) in
    let after = alike (c.counts_before.ensures is ∙ ap counts_of whole ∙ counts-append (take start x) (take count (drop start x))) in
    omega (arith, before.chars, after.chars, c.saturating_sub.ensures)
