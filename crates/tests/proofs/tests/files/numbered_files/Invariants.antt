use Rattle.std.proofs.Common.{◌≡◌, ℕ, ◌≤◌, length, None}
use Rattle.cord_io.specs.MemoryFileSystem.{file_system_in}
use Rattle.cord_io.specs.contracts.memory.MemFilesFiles.TheImpl.{ghosts}
use Rattle.tests.proofs.tests.files.numbered_files.Given as goal

-- nothing is opened, and there are as many files as were added
abbrev pub invariant-loop-i : goal.invariant-loop-i
invariant-loop-i g l = record {
  unopened : (n : ℕ) → ghosts.opened l.files n ≡ None;
  few : length (file_system_in l.files) ≤ l.i-counter;
}
