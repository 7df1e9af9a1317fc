-- The bytes in a gap.
use Rattle.std.specs.Prelude.{◌≡◌, ℕ, ◌+◌, ◌≤◌, List, [], slice_range}
use Rattle.cord_edit.specs.declared.gap.Gap.{Gap}
use Rattle.cord_edit.specs.declared.gap.TheConstants.{MOST, ROOM}

abbrev pub gap_bytes : Gap → List ℕ
gap_bytes g = slice_range g.room.items g.start g.end

-- so many bytes more have room after them, or in front of them
pub record FitsAfter (g : Gap) (count : ℕ) : Type 0 where
  pub room : g.end + count ≤ ROOM
  pub most : g.end + count ≤ g.start + MOST

pub record FitsBefore (g : Gap) (count : ℕ) : Type 0 where
  pub room : count ≤ g.start
  pub most : g.end + count ≤ g.start + MOST

-- there are none, and all the room
pub record IsCleared (g : Gap) : Type 0 where
  pub bytes : gap_bytes g ≡ []
  pub start : g.start ≡ MOST
  pub end : g.end ≡ MOST
