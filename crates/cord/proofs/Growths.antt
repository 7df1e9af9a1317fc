-- What grows by texts over no files has no byte in a file.
use Rattle.std.proofs.Common.{◌≡◌, ℕ, List, ◌++◌, refl, ◌∙◌, sym}
use Rattle.std.specs.Prelude.{Option}
use Rattle.cord_node.specs.declared.Node.{Node}
use Rattle.cord_node.specs.Tree.{Cell}
use Rattle.cord_node.specs.Tables.{lengths_of}
use Rattle.cord_core.specs.Equations.{HasText}
use Rattle.cord_ec.specs.Grown.{IsGrownBy, IsGrownByCord, IsCordOf}
use Rattle.cord.specs.Plain.{no_table, grown_bytes, IsPlainGrowth}

-- some bytes more
pub growth_by : (old new : List Cell) (b : List ℕ) → IsPlainGrowth old → IsGrownBy old new b → IsPlainGrowth new
growth_by old new b p g = record {
  fits = λ ls. g.fits ls (p.fits ls);
  bytes = λ t. g.bytes t (p.fits (lengths_of t)) ∙ (rw (p.bytes t) refl) ∙ sym (g.bytes no_table (p.fits (lengths_of no_table)));
}

pub bytes_by : (old new : List Cell) (b : List ℕ) → IsPlainGrowth old → IsGrownBy old new b → grown_bytes new ≡ grown_bytes old ++ b
bytes_by old new b p g = g.bytes no_table (p.fits (lengths_of no_table))

-- one more text
pub growth_by_text : (old new : List Cell) (b : List ℕ) (c : Option Node) → IsPlainGrowth old → HasText b c → IsGrownByCord old new c →
    IsPlainGrowth new
growth_by_text old new b c p h g = record {
  fits = λ ls. g.fits ls (p.fits ls) (h.fits ls);
  bytes = λ t. g.bytes t (p.fits (lengths_of t)) (h.fits (lengths_of t)) ∙ (rw (p.bytes t, h.bytes t, ← h.bytes no_table) refl)
      ∙ sym (g.bytes no_table (p.fits (lengths_of no_table)) (h.fits (lengths_of no_table)));
}

pub bytes_by_text : (old new : List Cell) (b : List ℕ) (c : Option Node) → IsPlainGrowth old → HasText b c → IsGrownByCord old new c →
    grown_bytes new ≡ grown_bytes old ++ b
bytes_by_text old new b c p h g = g.bytes no_table (p.fits (lengths_of no_table)) (h.fits (lengths_of no_table))
    ∙ (rw (h.bytes no_table) refl)

-- the cord of a growing text
pub cord_has : (xs : List Cell) (c : Option Node) → IsPlainGrowth xs → IsCordOf xs c → HasText (grown_bytes xs) c
cord_has xs c p k = record {
  fits = λ ls. k.fits ls (p.fits ls);
  bytes = λ t. k.bytes t (p.fits (lengths_of t)) ∙ p.bytes t;
}
