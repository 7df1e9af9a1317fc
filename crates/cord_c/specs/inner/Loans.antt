-- What a handle is once a loan of what it leads to is over.
use Rattle.std.proofs.Common.{refl}
use Rattle.std.specs.Prelude.{◌≡◌, ⊤}
use mathlib.Core.Option.{none}
use base.Fml.{Fml}
use denote.Ref.{MutBor}
use denote.Follow.{follows_if, follows_so}
use Rattle.core.specs.declared.option.Option.{Option}
use Rattle.core.specs.Option.{ghost_name_of}
use Rattle.cord_c.specs.Lazy.{cord_of}
use Rattle.cord_c.specs.LineIndexes.{index_in}
use Rattle.cord_c.specs.Referent.{text_by}
use Rattle.cord_c.specs.contracts.handle.Handle as handle
use Rattle.cord_c.specs.contracts.lazy.LazyHandle as lazy
use Rattle.cord_c.specs.contracts.line_index.Lines as line_index
use Rattle.cord_c.specs.contracts.referent.Referent as referent
use Rattle.cord_c.specs.declared.handle.Handle.{Handle}
use Rattle.cord_c.specs.declared.lazy.LazyHandle.{LazyHandle}
use Rattle.cord_c.specs.declared.line_index.Lines.{Lines}
use Rattle.cord_c.specs.declared.referent.Referent.{Referent}

-- the handle h that leads to r
abbrev pub with_referent : Handle → Referent → Handle
with_referent h r = record { at = h.at; alloc = h.alloc; referent = r; text = text_by r; reported = refl; testable = h.testable }

-- it leads to what was last written through the loan; where nothing is lent, it is as it was
abbrev pub LendsReferent : MutBor Handle → Option (MutBor Referent) → Fml
LendsReferent h loan = follows_if handle.the_row referent.the_row h.ghost_name (ghost_name_of loan) (with_referent h.now) h.now

-- its text is as it was
abbrev pub KeepsText : MutBor Handle → Fml
KeepsText h = follows_so handle.the_row handle.the_row h.ghost_name none (λ _ _. ⊤) (λ left. left.text ≡ h.now.text)

-- its cord is as it was
abbrev pub KeepsCord : MutBor LazyHandle → Fml
KeepsCord x = follows_so lazy.the_row lazy.the_row x.ghost_name none (λ _ _. ⊤) (λ left. cord_of left ≡ cord_of x.now)

-- its index is as it was
abbrev pub KeepsIndex : MutBor Lines → Fml
KeepsIndex x = follows_so line_index.the_row line_index.the_row x.ghost_name none (λ _ _. ⊤) (λ left. index_in left ≡ index_in x.now)
