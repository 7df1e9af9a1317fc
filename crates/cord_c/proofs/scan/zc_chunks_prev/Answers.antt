use Rattle.std.proofs.Common.{◌≡◌, ◌-◌, ℕ, take, ap, arith}
use Rattle.cord_c.specs.Shown.{shown}
use Rattle.cord_c.proofs.Scanning.{left_again, chunk_to_end}
use Rattle.cord_c.proofs.scan.zc_chunks_prev.Goals as goal

pub returns-clause-end : goal.returns-clause-end
returns-clause-end c = λ none.
    let old = c.args.chunks.now in
    let begin : old.next - old.count ≡ 0 = omega (arith, c.saturating_sub-start.ensures, none) in
    ap (λ (n : ℕ). take n old.text.text) begin

pub returns-clause-left : goal.returns-clause-left
returns-clause-left c =
    let text = c.copy_to-chunks.new.self.text in left_again c.args.chunks.now text text 0 c.copy_to-chunks.ensures.same

pub returns-clause-chunk : goal.returns-clause-chunk
returns-clause-chunk c =
    let old = c.args.chunks.now in let end = old.next - old.count in
    chunk_to_end old c.copy_to-chunks.new.self.text (shown c.move_to.new.self c.copy_to-chunks.new.bytes)
    (end - c.saturating_sub-start.result) c.copy_to-chunks.ensures.same c.chunks-1.given.1.1.1.1.0 c.chunks-1.given.1.1.1.1.1.1.0
