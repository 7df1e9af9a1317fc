use Rattle.cord_lines.proofs.Common.{chars_in, ends_in, length, ◌+◌, ◌≡◌, ◌≤◌}
use Rattle.cord_lines.proofs.counting.count_bytes.Given as goal

abbrev pub invariant-loop-rest : goal.invariant-loop-rest
invariant-loop-rest l = record {
  ends : l.ends + ends_in l.rest ≡ ends_in l.fn.bytes;
  chars : l.chars + chars_in l.rest ≡ chars_in l.fn.bytes;
  few_ends : l.ends + length l.rest ≤ length l.fn.bytes;
  few_chars : l.chars + length l.rest ≤ length l.fn.bytes;
}

abbrev pub decreases-loop-rest : goal.decreases-loop-rest
decreases-loop-rest l = length l.rest
