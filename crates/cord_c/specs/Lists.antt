-- Handles in a list.
use Rattle.std.specs.Prelude.{ℕ, List, map}
use Rattle.cord_c.specs.declared.handle.Handle.{Handle}

-- the bytes of each
abbrev pub texts_of : List Handle → List (List ℕ)
texts_of handles = map (λ h. h.text) handles
