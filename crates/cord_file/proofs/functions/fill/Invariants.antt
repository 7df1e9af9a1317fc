use Rattle.std.proofs.Common.{◌≡◌, ◌+◌, ◌-◌, ◌<◌, ◌≤◌, ℕ, length}
use Rattle.std.specs.Prelude.{slice_index}
use Rattle.cord_io.specs.inner.Functions.{function_byte}
use Rattle.cord_file.proofs.functions.fill.Given as goal

-- the bytes so far, which come again after them
abbrev pub invariant-loop-done : goal.invariant-loop-done
invariant-loop-done l = record {
  some : 0 < length l.out → 0 < l.done;
  done : l.done ≤ length l.out;
  again : l.done < length l.out → (k : ℕ) → function_byte l.fn.id.0 (k + l.done) ≡ function_byte l.fn.id.0 k;
  bytes : (k : ℕ) → k < l.done → slice_index l.out k ≡ function_byte l.fn.id.0 (l.start + k);
}

abbrev pub decreases-loop-done : goal.decreases-loop-done
decreases-loop-done l = length l.out - l.done
