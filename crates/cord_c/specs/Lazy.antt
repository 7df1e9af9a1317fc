-- The cords that handles own.
use Rattle.std.specs.Prelude.{ℕ, ◌+◌, ◌-◌, min}
use Rattle.std.specs.declared.option.Option.{Option}
use Rattle.cord_node.specs.declared.Node.{Node}
use Rattle.cord_core.specs.Cord.{text_len}
use Rattle.cord_c.specs.Referent.{cord_by}
use Rattle.cord_c.specs.declared.lazy.LazyHandle.{LazyHandle}

-- the cord of a handle
abbrev pub cord_of : LazyHandle → Option Node
cord_of x = cord_by x.handle.referent

-- the length of x with y in the place of the n bytes from i on, of those that there are
abbrev pub spliced_len : ℕ → ℕ → Option Node → Option Node → ℕ
spliced_len i n x y = min i (text_len x) + text_len y + (text_len x - (i + n))
