-- What is edited by texts over no files has no byte in a file.
use Rattle.std.proofs.Common.{◌≡◌, ℕ, ◌+◌, List, ◌++◌, take, drop, refl, ◌∙◌, sym}
use Rattle.std.specs.Prelude.{Option}
use Rattle.cord_node.specs.declared.Node.{Node}
use Rattle.cord_node.specs.Tree.{Cell}
use Rattle.cord_node.specs.Tables.{lengths_of}
use Rattle.cord_core.specs.Equations.{HasText}
use Rattle.cord_edit.specs.Edits.{IsTextOf, IsEdited, IsEditedByCord}
use Rattle.cord.specs.Plain.{no_table, grown_bytes, IsPlainGrowth}

-- the text of a cord
pub buffer_of : (xs : List Cell) (b : List ℕ) (c : Option Node) → HasText b c → IsTextOf c xs → IsPlainGrowth xs
buffer_of xs b c h g = record {
  fits = λ ls. g.fits ls (h.fits ls);
  bytes = λ t. g.bytes t (h.fits (lengths_of t)) ∙ h.bytes t ∙ sym (h.bytes no_table) ∙ sym (g.bytes no_table (h.fits (lengths_of no_table)));
}

pub bytes_of_buffer : (xs : List Cell) (b : List ℕ) (c : Option Node) → HasText b c → IsTextOf c xs → grown_bytes xs ≡ b
bytes_of_buffer xs b c h g = g.bytes no_table (h.fits (lengths_of no_table)) ∙ h.bytes no_table

-- bytes in the place of others
pub edited_by : (start count : ℕ) (b : List ℕ) (old new : List Cell) → IsPlainGrowth old → IsEdited start count b old new → IsPlainGrowth new
edited_by start count b old new p g = record {
  fits = λ ls. g.fits ls (p.fits ls);
  bytes = λ t. g.bytes t (p.fits (lengths_of t)) ∙ (rw (p.bytes t) refl) ∙ sym (g.bytes no_table (p.fits (lengths_of no_table)));
}

pub bytes_edited : (start count : ℕ) (b : List ℕ) (old new : List Cell) → IsPlainGrowth old → IsEdited start count b old new →
    grown_bytes new ≡ take start (grown_bytes old) ++ b ++ drop (start + count) (grown_bytes old)
bytes_edited start count b old new p g = g.bytes no_table (p.fits (lengths_of no_table))

-- a text in the place of bytes
pub edited_by_text : (start count : ℕ) (b : List ℕ) (c : Option Node) (old new : List Cell) → IsPlainGrowth old → HasText b c →
    IsEditedByCord start count c old new → IsPlainGrowth new
edited_by_text start count b c old new p h g = record {
  fits = λ ls. g.fits ls (p.fits ls) (h.fits ls);
  bytes = λ t. g.bytes t (p.fits (lengths_of t)) (h.fits (lengths_of t)) ∙ (rw (p.bytes t, h.bytes t, ← h.bytes no_table) refl)
      ∙ sym (g.bytes no_table (p.fits (lengths_of no_table)) (h.fits (lengths_of no_table)));
}

pub bytes_edited_by_text : (start count : ℕ) (b : List ℕ) (c : Option Node) (old new : List Cell) → IsPlainGrowth old → HasText b c →
    IsEditedByCord start count c old new → grown_bytes new ≡ take start (grown_bytes old) ++ b ++ drop (start + count) (grown_bytes old)
bytes_edited_by_text start count b c old new p h g =
    g.bytes no_table (p.fits (lengths_of no_table)) (h.fits (lengths_of no_table)) ∙ (rw (h.bytes no_table) refl)
