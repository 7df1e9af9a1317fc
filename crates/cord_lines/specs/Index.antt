-- What the index of a text says, and that it stays so along edits.
use Rattle.std.specs.Prelude.{◌≡◌, ℕ, Bool, false, List, [], ◌∷◌, take, drop}
use Rattle.cord_lines.specs.Counts.{counts_of, no_counts}
use Rattle.cord_lines.specs.Lines.{lacks_end, IsEditOf}
use Rattle.cord_lines.specs.declared.counting.Counts.{Counts}

-- what pieces of a text hold, one after another, whether the last line lacks its end, and what some first bytes hold
pub record Indexed : Type 0 where
  pub pieces : List Counts
  pub lacks_end : Bool
  pub mark : Counts

-- that of no bytes
abbrev pub of_no_bytes : Indexed
of_no_bytes = record { pieces = []; lacks_end = false; mark = no_counts }

-- each of the counts is that of the next bytes, and none are left then
abbrev pub AreCountsOf : List Counts → List ℕ → Type 0
AreCountsOf [] x = x ≡ []
AreCountsOf (c ∷ cs) x = (c ≡ counts_of (take c.bytes x)) × AreCountsOf cs (drop c.bytes x)

-- the index is that of this text
pub record IsIndexOf (index : Indexed) (x : List ℕ) : Type 0 where
  pub counted : AreCountsOf index.pieces x
  pub end : index.lacks_end ≡ lacks_end x
  pub marked : index.mark ≡ counts_of (take index.mark.bytes x)

-- where the old index is that of a text before an edit, the new one is that of the text after it
abbrev pub FollowsEdit : Indexed → Indexed → List ℕ → ℕ → ℕ → ℕ → Type 0
FollowsEdit old new after start removed inserted =
    (before : List ℕ) → IsIndexOf old before → IsEditOf before after start removed inserted → IsIndexOf new after
