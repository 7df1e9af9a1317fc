-- Operations that lead to the next one.
use Rattle.std.specs.Prelude.{◌≡◌, ◌+◌}
use Rattle.cord_plan.proofs.Common.{ℕ, List, Bool, false, Option, Some, None, drop, refl, slice_get, Shape, jump, jump_at, is_block}
use Rattle.cord_meaning.specs.Blocks.Shape.{Straight}

-- whether a shape, where there is one, belongs to a block
abbrev pub is_block_shape : Option Shape → Bool
is_block_shape None = false
is_block_shape (Some s) = is_block s

next_of : (shape : Option Shape) (p : ℕ) (rest : List Shape) → is_block_shape shape ≡ false → jump_at shape p rest ≡ p + 1
next_of None p rest e = refl
next_of (Some Straight) p rest e = refl
next_of (Some s) p rest e = cc

-- where no shape belongs to a block, each leads to the next place
pub all_next : (shapes : List Shape) → ((p : ℕ) → is_block_shape (slice_get shapes p) ≡ false) → (p : ℕ) → jump shapes p ≡ p + 1
all_next shapes none p = next_of (slice_get shapes p) p (drop (p + 1) shapes) (none p)
