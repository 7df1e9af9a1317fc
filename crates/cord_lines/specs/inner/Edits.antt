-- Blocks of a text that is edited.
use Rattle.std.specs.Prelude.{◌≡◌, ℕ, ◌+◌, ◌-◌, ◌<◌, ◌≤◌, ◌^◌, List, ◌++◌, length, take, drop, Option, IfSome}
use Rattle.cord_lines.specs.Counts.{counts_of}
use Rattle.cord_lines.specs.Lines.{IsEditOf}
use Rattle.cord_lines.specs.declared.counting.Counts.{Counts}
use Rattle.cord_lines.specs.declared.blocks.Block.{Block}
use Rattle.cord_lines.specs.declared.renewing.Edit.{Edit}
use Rattle.cord_lines.specs.declared.renewing.Span.{Span}
use Rattle.cord_lines.specs.inner.Blocks.{block_counts, exchanged, total}
use Rattle.cord_lines.specs.inner.Cuts.{AreBlocksOf, AreModest}

-- some blocks with others in the place of `count` of them
abbrev pub replaced : List Block → ℕ → ℕ → List Block → List Block
replaced bs start count fresh = take start bs ++ fresh ++ drop (start + count) bs

-- these can be put there
pub record CanReplace (bs : List Block) (start count : ℕ) (fresh : List Block) : Type 0 where
  pub inside : start + count ≤ length bs
  pub old : AreModest bs
  pub new : AreModest (replaced bs start count fresh)

-- the edit may make a text of one length of a text of another one
pub record EditFits (edit : Edit) (before after : ℕ) : Type 0 where
  pub inside : edit.start + edit.removed ≤ before
  pub len : before - edit.removed + edit.inserted ≡ after

-- these counts, if there are any, are those of what an edit takes out of a text
abbrev pub AreRemoved : Option Counts → Edit → List ℕ → Type 0
AreRemoved removed edit x = IfSome removed (λ counts. counts ≡ counts_of (take edit.removed (drop edit.start x)))

-- the block of so many bytes with counts of which a part is replaced: some bytes have them
pub record IsExchanged (own removed inserted : Counts) (len : ℕ) (b : Block) : Type 0 where
  pub counts : block_counts b ≡ exchanged own removed inserted
  pub bytes : b.bytes ≡ len
  pub ends : b.ends ≤ b.chars
  pub chars : b.chars ≤ b.bytes

-- where the old blocks are those of a text before an edit, the new ones are those of the text after it
abbrev pub FollowEdit : List Block → List Block → List ℕ → Edit → Option Counts → Type 0
FollowEdit old new after edit removed = (before : List ℕ) → AreBlocksOf old before → AreRemoved removed edit before →
    IsEditOf before after edit.start edit.removed edit.inserted → AreBlocksOf new after

-- these blocks, of modest ones, hold these bytes
pub record IsSpan (bs : List Block) (s : Span) : Type 0 where
  pub modest : AreModest bs
  pub short : length bs < 2 ^ 64
  pub inside : s.first + s.count ≤ length bs
  pub start : s.start ≡ (total (take s.first bs)).bytes
  pub end : s.start + s.bytes ≡ (total (take (s.first + s.count) bs)).bytes

-- they begin at a place, and reach as far as another one
pub record IsSpanTo (bs : List Block) (s : Span) (from to : ℕ) : Type 0 where
  pub span : IsSpan bs s
  pub start : s.start ≡ from
  pub end : to ≤ s.start + s.bytes

-- they hold what an edit takes out, and where it puts something
pub record Covers (bs : List Block) (s : Span) (edit : Edit) : Type 0 where
  pub span : IsSpan bs s
  pub from : s.start ≤ edit.start
  pub to : edit.start + edit.removed ≤ s.start + s.bytes
