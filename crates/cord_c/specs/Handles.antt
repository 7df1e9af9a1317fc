-- What a handle owns.
use base.Fml.{Fml, feq}
use denote.RawPtr.{Ptr, block_ptr, null_ptr}
use Rattle.std.specs.Box.Ownership.{box_owns}
use Rattle.cord_raw.specs.inner.Ownership.{frees}
use Rattle.cord_c.specs.contracts.referent.Referent.{the_row}
use Rattle.cord_c.specs.declared.referent.Referent.{Referent}
use Rattle.cord_c.specs.declared.referent.Referent.TheVariants.{Nothing}

-- what lies on the heap at a pointer, with the right to free it; at null nothing
abbrev pub handle_owns : Ptr → Referent → Fml
handle_owns (block_ptr b o) referent = box_owns frees the_row (block_ptr b o) referent
handle_owns null_ptr referent = feq Referent referent Nothing
