-- The owner of a raw allocation, as its callers' proofs meet it: two words, and what stands after the pointer.
use Rattle.std.proofs.Common.{◌≡◌, ℕ, List, [], ◌∷◌, ◌++◌, refl, ap, ◌∙◌}
use mir.Raw.{raw as bare}
use base.Logic.{never, fst∗}
use mathlib.Core.Bool.{true, ◌&&◌}
use lib.Dec.{T as Yes}
use seplogic.Ra.Ura.{Ura}
use mir.Syntax.{impl, tnil, dnil}
use mir.Val.{Val, vptr, vstruct, vcons, vnil, of_list, has_ty, WT}
use types.Logic.{Logic, sem}
use types.Kit.{Item, Goal, Seq, Step, step, ‵, ◌$◌, move, drop, fsplit, fjoin, fpick, fpack, feq_i, feq_l}
use denote.RattleType.{RattleType, Valss}
use denote.Param.{param, layout}
use denote.Param.Laws.{Laws, param_laws}
use denote.Memory.{lone}
use denote.RawPtr.{Ptr, RawPtr, block_ptr, null_ptr, ptr_val, in_a_block}
use denote.Steps.{nothing}
use denote.Struct.Owning.{shape}
use denote.Struct.Struct.{within}
use Rattle.core.specs.declared.alloc.Allocator.{Ghosts}
use Rattle.core.proofs.alloc.Calls.{Al, handle_tells}
use Rattle.core.proofs.cell.Inside.{Good}
use Rattle.std_alloc.proofs.ResultValues.{and_tt}
use Rattle.std.specs.Box.Ownership.{box_owns}
use Rattle.cord_raw.specs.contracts.raw.Raw as owner

-- the machine value of an owner: its pointer, and the allocator h
abbrev pub words : ℕ → ℕ → Val → Val
words b o h = vstruct (vcons (vptr b o) (vcons h vnil))

-- machine values that are spelled by a pointer's and an allocator's are its two words
pub spells : (vs ps hs : List Val) (p : Ptr) (b o : ℕ) (h : Val) → vs ≡ vstruct (of_list (ps ++ (hs ++ []))) ∷ [] → ps ≡ ptr_val p ∷ [] →
    p ≡ block_ptr b o → hs ≡ h ∷ [] → vs ≡ words b o h ∷ []
spells vs ps hs p b o h both first place second =
    both ∙ ap (λ (us : List Val). vstruct (of_list (us ++ (hs ++ []))) ∷ []) first
    ∙ ap (λ (q : Ptr). vstruct (of_list (ptr_val q ∷ (hs ++ []))) ∷ []) place
    ∙ ap (λ (us : List Val). vstruct (of_list (vptr b o ∷ (us ++ []))) ∷ []) second

module _ (T A : RattleType) (L : Laws T) (K : Laws A) (g : Ghosts A.Denot) where
  abbrev pub R : RattleType
  R = param 0 T

  abbrev pub Z : RattleType
  Z = param 1 A

  abbrev pub O : RattleType
  O = owner.the_row R Z g

  abbrev handle_of : Al
  handle_of = record { row = Z; laws = param_laws 1 A K; g = g; d = impl [] tnil dnil; drops = impl [] tnil dnil }

  -- two words are typed where the allocator's is
  pub words_typed : (b o : ℕ) (h : Val) → Good (layout Z) h → Yes (has_ty (layout Z) h && true) × WT (words b o h)
  words_typed b o h fits = (and_tt (has_ty (layout Z) h) fits.0, (tt, (fits.1, tt)))

  module _ {M : Type 1} {𝓤 : Ura M} {𝓛 : Logic 𝓤} {X : Type 0} {Γ : List (Item 𝓤)} {G : Goal 𝓤 𝓛.H} where
    -- an owner is made of the value at a place in memory, the right to free it, and its allocator
    pub packs : X → (b o : ℕ) (h : Val) (a : Z.Denot) (x : R.Denot)
        → Step X 𝓛 (‵ (O.own_val (record { at = block_ptr b o; alloc = a; value = x }) (words b o h ∷ [])) ∷ Γ) G
        (‵ (box_owns (g.dealloc_token a) R (block_ptr b o) x) ∷ ‵ (Z.own_val a (h ∷ [])) ∷ Γ) G
    packs t b o h a x = step (λ s.
        nothing t $ move t (2 ∷ 0 ∷ []) $ fjoin t $ feq_i t (List Val) (vptr b o ∷ []) (vptr b o ∷ []) refl $ fjoin t $ feq_i t (List Val)
        (words b o h ∷ []) (words b o h ∷ []) refl $ fjoin t $
        fpack t (Valss (RawPtr ∷ Z ∷ [])) (within (shape (owner.the_type R Z g)) (block_ptr b o, (a, tt)) (words b o h ∷ []))
        (vptr b o ∷ [], (h ∷ [], tt)) $ fjoin t $ s)

    -- and taken apart to them
    pub unpacks : X → (d : O.Denot) (vs : List Val)
        → ((b o : ℕ) (h : Val) → d.at ≡ block_ptr b o → vs ≡ words b o h ∷ [] → Good (layout Z) h →
        Seq X 𝓛 (‵ (box_owns (g.dealloc_token d.alloc) R (block_ptr b o) d.value) ∷ ‵ (Z.own_val d.alloc (h ∷ [])) ∷ Γ) G)
        → Seq X 𝓛 (‵ (O.own_val d vs) ∷ Γ) G
    unpacks t d vs k =
        fsplit t $ fpick t (λ vss. fsplit t $ feq_l t (λ both. fsplit t $ feq_l t (λ first. fsplit t $
        handle_tells handle_of t d.alloc vss.1.0 (λ h second fits. move t (1 ∷ []) $ drop t $ move t (1 ∷ []) $
        in_a_block t d.at (λ p. box_owns (g.dealloc_token d.alloc) R p d.value)
        (fst∗ 𝓤 (never 𝓤) (sem 𝓛 (g.dealloc_token d.alloc (bare (lone R.mir)) null_ptr))) (λ b o place.
        k b o h place (spells vs vss.0 vss.1.0 d.at b o h both first place second) fits)))))
