use Rattle.std.proofs.Common.{◌-◌, arith}
use Rattle.cord.specs.Chunks.{chunk_bytes}
use Rattle.cord.proofs.PassingLines.{after_chunk, at_end}
use Rattle.cord.proofs.text.Text.line_start.Goals as goal

pub returns-then-left-ends-clause-line : goal.returns-then-left-ends-clause-line
returns-then-left-ends-clause-line c =
    let l = c.loop-chunk in
    let found = c.nth_in.ensures in
    at_end c.args.self.now c.args.n l.chunks l.left l.start l.invariant (chunk_bytes c.in-Some.chunk) c.next.new.self c.in-Some.ensures.steps.1
    c.nth_in.result found.inside found.here found.before

pub loop-chunk-preserved : goal.loop-chunk-preserved
loop-chunk-preserved c =
    let l = c.loop-chunk in
    rw c.len-start.ensures (after_chunk c.args.self.now c.args.n l.chunks l.left l.start l.invariant (chunk_bytes c.in-Some.chunk)
    c.next.new.self c.in-Some.ensures.steps.1 (l.left - c.count_in-ends.result)
    (omega (arith, c.count_in-ends.ensures, c.if-left-ends.false)))
