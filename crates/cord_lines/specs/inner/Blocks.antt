-- Blocks of a text: what they hold together, and the sums of groups of them.
use Rattle.std.specs.Prelude.{◌≡◌, ℕ, ◌+◌, ◌-◌, ◌*◌, ◌<◌, ◌≤◌, ◌^◌, List, [], ◌∷◌, length, take, drop}
use Rattle.std.specs.List.{sum_by}
use Rattle.cord_lines.specs.Counts.{plus, AreFew}
use Rattle.cord_lines.specs.declared.counting.Counts.{Counts}
use Rattle.cord_lines.specs.declared.blocks.Block.{Block}
use Rattle.cord_lines.specs.declared.blocks.Found.{Found}
use Rattle.cord_lines.specs.declared.blocks.Measure.{Measure}
use Rattle.cord_lines.specs.declared.blocks.Measure.TheVariants.{Bytes, Ends}

-- the counts of one block
abbrev pub block_counts : Block → Counts
block_counts b = record { bytes = b.bytes; ends = b.ends; chars = b.chars }

-- those of some blocks together
abbrev pub total : List Block → Counts
total bs = record { bytes = sum_by (λ b. b.bytes) bs; ends = sum_by (λ b. b.ends) bs; chars = sum_by (λ b. b.chars) bs }

abbrev pub amount : Measure → Counts → ℕ
amount Bytes c = c.bytes
amount Ends c = c.ends

-- those of things of which each has some
abbrev pub total_by : {A : Type 0} → (A → Counts) → List A → Counts
total_by part xs = record { bytes = sum_by (λ x. (part x).bytes) xs; ends = sum_by (λ x. (part x).ends) xs; chars = sum_by (λ x. (part x).chars) xs }

-- one with no more than so much before it, or the end of all, with the counts of what is before it
pub record IsFound {A : Type 0} (part : A → Counts) (xs : List A) (measure : Measure) (target : ℕ) (found : Found) : Type 0 where
  pub inside : found.index ≤ length xs
  pub before : found.before ≡ total_by part (take found.index xs)
  pub short : length xs < 2 ^ 64
  pub most : amount measure found.before ≤ target

-- the same, where others with these counts come before all
pub record IsFoundAfter {A : Type 0} (others : Counts) (part : A → Counts) (xs : List A) (measure : Measure) (target : ℕ) (found : Found) :
    Type 0 where
  pub inside : found.index ≤ length xs
  pub before : found.before ≡ plus others (total_by part (take found.index xs))
  pub most : amount measure found.before ≤ target

-- a group of 64 with no more than so much before it, or the end of all
pub record IsGroup {A : Type 0} (part : A → Counts) (xs : List A) (measure : Measure) (target : ℕ) (group : Found) : Type 0 where
  pub few : AreFew (total_by part xs)
  pub short : length xs < 2 ^ 64
  pub before : group.before ≡ total_by part (take (group.index * 64) xs)
  pub most : amount measure group.before ≤ target

-- each sum is that of the next 64
abbrev pub AreSumsOf : {A : Type 0} → (A → Counts) → List Counts → List A → Type 0
AreSumsOf part [] xs = xs ≡ []
AreSumsOf part (sum ∷ sums) xs = (sum ≡ total_by part (take 64 xs)) × (0 < length xs) × AreSumsOf part sums (drop 64 xs)

-- counts are their own
abbrev pub own : Counts → Counts
own c = c

-- the sums of groups of blocks, the sums of groups of those, and that of all
pub record AreSummed (tops sums : List Counts) (whole : Counts) (bs : List Block) : Type 0 where
  pub groups : AreSumsOf block_counts sums bs
  pub groups_of_groups : AreSumsOf own tops sums
  pub all : whole ≡ total bs

-- some are a part of others
pub record AreWithin (part all : Counts) : Type 0 where
  pub bytes : part.bytes ≤ all.bytes
  pub ends : part.ends ≤ all.ends
  pub chars : part.chars ≤ all.chars

-- a part of some counts is replaced
abbrev pub exchanged : Counts → Counts → Counts → Counts
exchanged all old new = record { bytes = all.bytes - old.bytes + new.bytes; ends = all.ends - old.ends + new.ends; chars = all.chars - old.chars + new.chars }

-- it can be replaced
pub record CanExchange (all old new : Counts) : Type 0 where
  pub within : AreWithin old all
  pub few : AreFew (exchanged all old new)

-- what some counts are without a part
abbrev pub without : Counts → Counts → Counts
without all part = record { bytes = all.bytes - part.bytes; ends = all.ends - part.ends; chars = all.chars - part.chars }
