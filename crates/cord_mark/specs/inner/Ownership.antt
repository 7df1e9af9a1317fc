-- What a `&` to a mark holds.
use Rattle.std.specs.Prelude.{ℕ, List}
use Rattle.std.specs.Coded.{coded×, coded_ℕ}
use Rattle.cord_mark.specs.Part.{Part, coded_parts}
use mir.Val.{Val}
use base.Fraction.{full_share}
use base.SetCodes.{coded}
use base.Algebra.{Algebra}
use base.Algebras.{agreed}
use base.Fml.{Lft, GName, Fml, ffalse, fsep, fex, fown}
use denote.RattleType.{RattleType}
use denote.Memory.{cell_at}
use denote.RawPtr.{Ptr, block_ptr, null_ptr}
use denote.Sharing.{said, beside, some}
use denote.Hidden.{guarded}

-- the parts of a text, and where its mark lies
abbrev pub MarkedText : Type 0
MarkedText = List Part × (ℕ × ℕ)

-- a name that tells one of these, the same to all who see it
abbrev pub reporting : Algebra
reporting = agreed (coded (coded× coded_parts (coded× coded_ℕ coded_ℕ)))

-- the name γ tells the parts for which the mark at this place stands
abbrev pub reported : GName → List Part → ℕ → ℕ → Fml
reported γ parts b o = fown reporting γ (parts, (b, o))

module _ (F : RattleType) where
  -- the fields in memory, at any values
  abbrev pub fields_at : ℕ → ℕ → Fml
  fields_at b o = fex (List Val) (λ vs. fsep (cell_at full_share F.mir vs b o) (fex F.Denot (λ i. F.own_val i vs)))

  -- a name tells the parts and the place, and the fields are reached with the thread's token at that name
  abbrev pub mark_shares : List Part → Ptr → Lft → Fml
  mark_shares parts (block_ptr b o) = some GName (λ γ. beside (said (reported γ parts b o)) (guarded (γ, 0) (fields_at b o)))
  mark_shares parts null_ptr = said ffalse
