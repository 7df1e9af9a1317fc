-- What a sink got, and whether it failed and was ended.
use Rattle.std.specs.Prelude.{◌≡◌, ◌⊎◌, ◌+◌, ℕ, List, [], ◌∷◌, ◌++◌}
use Rattle.cord_io.specs.Device.{raised}
use Rattle.cord_io.specs.SinkCounts.{SinkCounts}
use Rattle.cord_iter.specs.Output.{IsPrefixOf, Takes}
use Rattle.cord_meaning.specs.Ends.{Counts}

-- those of the sink of a run
abbrev pub sink_of : Counts → SinkCounts
sink_of n = record {
  failed_before = n.sink_before;
  failed_after = n.sink_after;
  ended_before = n.finished_before;
  ended_after = n.finished_after;
}

-- the sink was left alone
abbrev pub IsUntouched : List ℕ → List ℕ → SinkCounts → Type 0
IsUntouched before after n = (after ≡ before) × (n.failed_after ≡ n.failed_before) × (n.ended_after ≡ n.ended_before)

-- it took the text and was ended, and didn't fail
abbrev pub IsWritten : List ℕ → List ℕ → List ℕ → SinkCounts → Type 0
IsWritten text before after n = (after ≡ before ++ text) × (n.failed_after ≡ n.failed_before) × (n.ended_after ≡ n.ended_before + 1)

-- it took a prefix of the text and failed, and wasn't ended
abbrev pub IsCut : List ℕ → List ℕ → List ℕ → SinkCounts → Type 0
IsCut text before after n =
    Takes (IsPrefixOf text) before after × (n.failed_after ≡ raised n.failed_before) × (n.ended_after ≡ n.ended_before)

-- it was handed the message
abbrev pub SaysMessage : List ℕ → List ℕ → SinkCounts → List ℕ → Type 0
SaysMessage before after n message = IsWritten message before after n ⊎ IsCut message before after n

-- the same, but that with no message it was left alone
abbrev pub Reports : List ℕ → List ℕ → SinkCounts → List ℕ → Type 0
Reports before after n [] = IsUntouched before after n
Reports before after n (b ∷ message) = SaysMessage before after n (b ∷ message)
