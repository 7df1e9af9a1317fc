use Rattle.cord_lines.proofs.Common.{AreFew, IsAhead, List, ap, arith, chunk_bytes, counts_of, drop, length, length-take, plus, subst, sym}
use Rattle.cord_lines.proofs.Common.{take, ℕ, ◌+◌, ◌∙◌, ◌≡◌}
use Rattle.cord_lines.proofs.Countings.{alike, few_bytes}
use Rattle.cord_lines.proofs.Readings.{counted_on, next_left}
use Rattle.cord_lines.proofs.reading.count_parts.Goals as goal

pub count_chunk-requires : goal.count_chunk-requires
count_chunk-requires c = omega (arith, c.in-Some.ensures.few, c.len-len.ensures.limit, c.len-len.ensures.value, c.requires.inside)

pub plus-counts-requires : goal.plus-counts-requires
plus-counts-requires c =
    let n = c.loop-counts.counts.bytes + length (chunk_bytes c.in-Some.cut.prefix) in
    let rest = drop c.args.from c.args.text.now in
    subst AreFew (sym (ap (plus c.loop-counts.counts) c.count_chunk.ensures ∙ counted_on c.loop-counts.invariant c.in-Some.ensures))
    (few_bytes (take n rest) (omega (
      arith,
      c.in-Some.ensures.few,
      c.loop-counts.invariant.few,
      c.len-len.ensures.limit,
      c.len-len.ensures.value,
      c.requires.inside,
      length-take n rest,
    )))

pub loop-counts-preserved : goal.loop-counts-preserved
loop-counts-preserved c =
    let x = c.args.text.now in
    let have = c.loop-counts.counts in
    let chunk = chunk_bytes c.in-Some.cut.prefix in
    let next : c.plus-counts.result ≡ plus have (counts_of chunk) = c.plus-counts.ensures ∙ ap (plus have) c.count_chunk.ensures in
    let all = alike next in
    record {
      enough = omega arith;
      few = omega (arith, all.bytes, c.in-Some.ensures.few, c.loop-counts.invariant.few);
      counts = next ∙ counted_on c.loop-counts.invariant c.in-Some.ensures
          ∙ ap (λ (n : ℕ). counts_of (take n (drop c.args.from x))) (sym all.bytes);
      held = subst (λ (y : List ℕ). IsAhead y c.in-Some.cut.back)
          (next_left x (c.args.from + have.bytes) (length chunk) (c.args.from + c.plus-counts.result.bytes) (omega (arith, all.bytes))) c.in-Some.ensures.back;
    }
