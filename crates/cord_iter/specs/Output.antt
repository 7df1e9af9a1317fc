-- What a sink takes of a cord, and how often the devices have failed then.
use Rattle.std.specs.Prelude.{◌≡◌, ℕ, List, ◌++◌, Ok, Err}
use Rattle.std.specs.Result.{OnOk, OnErr}
use Rattle.std.specs.declared.result.Result.{Result}
use Rattle.cord_io.specs.Device.{raised}
use Rattle.cord_io.specs.declared.faults.CordError.{CordError}
use Rattle.cord_io.specs.declared.faults.CordError.TheVariants.{NoMemory, TooLong, ReadFailed, WriteFailed}
use Rattle.cord_io.specs.declared.sources.Source as sources
use Rattle.cord_io.specs.declared.writing.Sink as sinks

-- the second list stands at the prefix of the first one
abbrev pub IsPrefixOf : List ℕ → List ℕ → Type 0
IsPrefixOf whole out = (rest : List ℕ) × (whole ≡ out ++ rest)

-- a sink took bytes of which this holds
pub record Takes (P : List ℕ → Type 0) (old new : List ℕ) : Type 0 where
  pub out : List ℕ
  pub such : P out
  pub taken : new ≡ old ++ out

-- at Ok a sink took exactly this text and didn't fail; at Err it took a prefix of it and failed once; it wasn't ended
pub record Writes {S E : Type 0} (sink : sinks.Ghosts S) (text : List ℕ) (old new : S) (r : Result (Unit {0}) E) : Type 0 where
  pub ok : OnOk r ((sink.taken new ≡ sink.taken old ++ text) × (sink.failures new ≡ sink.failures old))
  pub err : OnErr r (Takes (IsPrefixOf text) (sink.taken old) (sink.taken new) × (sink.failures new ≡ raised (sink.failures old)))
  pub finished : sink.finished new ≡ sink.finished old

-- how often a source and a sink have failed
pub record FailureCounts : Type 0 where
  pub source : ℕ
  pub sink : ℕ

-- how often these two have failed
abbrev pub failures_of : {S W : Type 0} → sources.Ghosts S → sinks.Ghosts W → S → W → FailureCounts
failures_of source sink src out = record { source = source.failures src; sink = sink.failures out }

-- where the call is Ok no device failed; a fault names the one that failed, once, and there is no other fault
abbrev pub CountsFaults : {T : Type 0} → FailureCounts → FailureCounts → Result T CordError → Type 0
CountsFaults old new (Ok x) = (new.source ≡ old.source) × (new.sink ≡ old.sink)
CountsFaults old new (Err ReadFailed) = (new.source ≡ raised old.source) × (new.sink ≡ old.sink)
CountsFaults old new (Err WriteFailed) = (new.source ≡ old.source) × (new.sink ≡ raised old.sink)
CountsFaults old new (Err NoMemory) = ⊥
CountsFaults old new (Err TooLong) = ⊥

-- a fault of the source was counted once, and other calls weren't refused but when out of memory
abbrev pub CountsReads : {T : Type 0} → ℕ → ℕ → Result T CordError → Type 0
CountsReads old new (Ok x) = new ≡ old
CountsReads old new (Err ReadFailed) = new ≡ raised old
CountsReads old new (Err NoMemory) = new ≡ old
CountsReads old new (Err WriteFailed) = ⊥
CountsReads old new (Err TooLong) = ⊥
