-- What a loan of bytes owns.
use Rattle.std.specs.Prelude.{ℕ, List, [], ◌∷◌}
use base.Fraction.{full_share}
use base.Fml.{Fml, fsep, fex, feq, flft, flent}
use denote.Builtin.{u8}
use denote.RawPtr.{Ptr, block_ptr, null_ptr, block_of, count_of, lies_at}
use denote.Slice.{elements_shared}
use denote.Memory.{lone}
use mir.Raw.{raw}
use Rattle.cord_raw.specs.inner.Ownership.{frees}
use Rattle.cord_c.specs.contracts.referent.Referent.{the_row}
use Rattle.cord_c.specs.declared.referent.Referent.{Referent}
use Rattle.cord_c.specs.declared.referent.Referent.TheVariants.{Nothing}

-- while the lifetime a lasts, the bytes at p may be read, and these are xs; once it has ended, the referent at b, o is back
abbrev pub lends : ℕ → ℕ → Referent → Ptr → List ℕ → ℕ → Fml
lends b o referent p xs a =
    fsep (flft (a ∷ []) full_share) (fsep (elements_shared u8 xs (block_of p) (count_of p) (a ∷ []))
    (flent (a ∷ []) (lies_at the_row full_share (block_ptr b o) referent)))

-- what lies on the heap, with the right to free it, and bytes of it that are lent; at null neither
abbrev pub lender_owns : Ptr → Referent → Ptr → List ℕ → Fml
lender_owns (block_ptr b o) referent p xs = fsep (fex ℕ (lends b o referent p xs)) (frees (raw (lone the_row.mir)) (block_ptr b o))
lender_owns null_ptr referent p xs = fsep (feq Referent referent Nothing) (feq (List ℕ) xs [])
