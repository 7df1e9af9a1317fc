use Rattle.cord_lines.proofs.Common.{Chunk, Counts, after_ends, ap, arith, chunk_bytes, ends_in, sym, ◌-◌, ◌∙◌, ◌≡◌, ◌≤◌}
use Rattle.std.proofs.Common.{replicate}
use Rattle.cord_lines.proofs.Ends.{run_end}
use Rattle.cord_lines.proofs.Readings.{found_in, missing_in}
use Rattle.cord_lines.proofs.reading.end_in.Goals as goal

pub returns-then-n-ends : goal.returns-then-n-ends
returns-then-n-ends c =
    let x = chunk_bytes c.args.chunk in
    let ends : c.count_chunk-ends.result.ends ≡ ends_in x = ap (λ (a : Counts). a.ends) c.count_chunk-ends.ensures in
    let le : c.args.n ≤ ends_in x = omega (arith, ends, c.if-n-ends.true) in
    let is : x ≡ replicate c.in-Run.count c.in-Run.byte = ap (λ (chunk : Chunk). chunk_bytes chunk) c.in-Run.is in
    found_in x c.args.n c.args.n le (sym (run_end c.args.n c.in-Run.count c.in-Run.byte (rw is at le)) ∙ ap (after_ends c.args.n) (sym is))

pub returns-else-n-ends : goal.returns-else-n-ends
returns-else-n-ends c =
    let x = chunk_bytes c.args.chunk in
    let ends : c.count_chunk-ends.result.ends ≡ ends_in x = ap (λ (a : Counts). a.ends) c.count_chunk-ends.ensures in
    missing_in x c.args.n (c.args.n - c.count_chunk-ends.result.ends) (omega (arith, ends, c.if-n-ends.false)) (omega (arith, ends))
