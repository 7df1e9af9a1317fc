use Rattle.cord_lines.proofs.Common.{chars_in, ends_in, take, ◌≡◌, ◌≤◌}
use Rattle.cord_lines.proofs.counting.count_few.Given as goal

abbrev pub invariant-loop-byte : goal.invariant-loop-byte
invariant-loop-byte l = record {
  ends : l.ends ≡ ends_in (take l.byte-index l.bytes);
  chars : l.chars ≡ chars_in (take l.byte-index l.bytes);
  few_ends : l.ends ≤ l.byte-index;
  few_chars : l.chars ≤ l.byte-index;
}
