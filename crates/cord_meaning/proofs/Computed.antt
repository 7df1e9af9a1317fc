-- A run that is computed for as many steps as it takes.
use Rattle.std.specs.Prelude.{◌≡◌}
use Rattle.cord_meaning.proofs.Common.{ℕ, List, Some, ap, ◌∙◌, FileSystem, Statement, End, Event, output, State, start_state, rules}
use Rattle.cord_meaning.proofs.Common.{run_within, MeansWithin}
use Rattle.cord_meaning.proofs.Runs.{trace_when_ended, end_when_ended}

-- where k steps end the run, what they put is its output, and how they end it is its end
pub means_after : {limit most : ℕ} {statements : List Statement} {files : FileSystem} {out : List ℕ} {reported : End} (k : ℕ) →
    (run_within limit most statements files k).ended ≡ Some reported → output (run_within limit most statements files k).seen ≡ out →
    MeansWithin limit most statements files out reported
means_after {limit} {most} {statements} {files} {out} {reported} k ended puts = record {
  output_is = ap (λ (ms : List (Event State)). output ms) (trace_when_ended (rules limit files) most statements start_state k reported
      ended) ∙ puts;
  end_is = end_when_ended (rules limit files) most statements start_state k reported ended;
}
