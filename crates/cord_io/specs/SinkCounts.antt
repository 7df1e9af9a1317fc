-- How often a sink has failed and ended.
use Rattle.std.specs.Prelude.{ℕ}
use Rattle.cord_io.specs.declared.writing.Sink as sinks

-- before a call and after it
pub record SinkCounts : Type 0 where
  pub failed_before : ℕ
  pub failed_after : ℕ
  pub ended_before : ℕ
  pub ended_after : ℕ

-- those of a sink
abbrev pub sink_counts : {S : Type 0} → sinks.Ghosts S → S → S → SinkCounts
sink_counts s old new = record {
  failed_before = s.failures old;
  failed_after = s.failures new;
  ended_before = (s.finished old).ended;
  ended_after = (s.finished new).ended;
}
