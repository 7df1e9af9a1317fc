-- The machine values of lenders and of loans, as the walks meet them.
use Rattle.std.proofs.Common.{◌<◌, ◌^◌, ℕ, List, [], ◌∷◌, refl, w64}
use lib.Dec.{T as Yes}
use mir.Val.{Val, vnull, ptr_same, vint, vstruct, vcons, vnil, has_ty, WT}
use seplogic.Ra.Ura.{Ura}
use types.Logic.{Logic}
use types.Kit.{Item, Goal, Soaks, Step, step, ‵, ◌$◌, move, drop, fsplit, fsplit3, fjoin, fpick, fpack, feq_i}
use types.Tokens.{lft_end, lent_back}
use denote.Builtin.{usize}
use denote.Memory.{lone}
use denote.Plain.{uint_Makes}
use denote.RattleType.{Valss}
use denote.RawPtr.{Ptr, block_ptr, null_ptr, ptr_val}
use denote.Steps.{nothing, owned}
use denote.Struct.Declared.{shape}
use denote.Struct.Laws.{RawPtr-plain}
use denote.Struct.Struct.{layout, within, as_fields}
use Rattle.std.proofs.alloc.Global.TheLaws as heap_laws
use Rattle.cord_c.specs.Handles.{handle_owns}
use Rattle.cord_c.specs.Loans.{lender_owns}
use Rattle.cord_c.specs.contracts.loan.Lender as lender
use Rattle.cord_c.specs.contracts.loan.Loan as loan
use Rattle.cord_c.specs.declared.loan.Loan.{Loan}
use Rattle.cord_c.specs.declared.referent.Referent.{Referent}
use Rattle.cord_c.proofs.loan.Lender.TheLaws as lender_laws
use Rattle.cord_raw.proofs.Words.{handle_val as heap_val, handle_is as heap_is}
use Rattle.cord_c.proofs.Handles.{Words, typed, packs}

abbrev pub lenders : Words
lenders = record {
  type = lender.the_type;
  laws = lender_laws.the_laws;
  plains = (RawPtr-plain, (RawPtr-plain, (heap_laws.the_field_plain, tt)));
  val = λ l. vstruct (vcons (ptr_val l.at) (vcons (ptr_val l.bytes) (vcons heap_val vnil)));
  are = λ l. ((ptr_val l.at ∷ [], (ptr_val l.bytes ∷ [], (heap_val ∷ [], tt))), (refl, (refl, (refl, (heap_is l.alloc, tt)))));
}

-- a loan is its lender and a number
abbrev pub loan_val : Loan → Val
loan_val l = vstruct (vcons (lenders.val l.lender) (vcons (vint w64 l.count) vnil))

-- which fits its type
pub loan_typed : {M : Type 1} {𝓤 : Ura M} (𝓛 : Logic 𝓤) (l : Loan) → l.count < 2 ^ 64
    → Yes (has_ty (layout (shape loan.the_type)) (loan_val l)) × WT (loan_val l)
loan_typed 𝓛 l few = as_fields (lone lender.the_row.mir ∷ lone usize.mir ∷ []) (lenders.val l.lender ∷ vint w64 l.count ∷ [])
    (typed lenders 𝓛 l.lender, ((tt, record { fits = few }), tt))

module _ {M : Type 1} {𝓤 : Ura M} {𝓛 : Logic 𝓤} {X : Type 0} {Γ : List (Item 𝓤)} {G : Goal 𝓤 𝓛.H} where
  -- a loan is made of what its lender owns
  pub packs_loan : X → (l : Loan) → l.count < 2 ^ 64 → Step X 𝓛 (‵ (loan.the_row.own_val l (loan_val l ∷ [])) ∷ Γ) G
      (‵ (lender_owns l.lender.at l.lender.referent l.lender.bytes l.lender.items) ∷ Γ) G
  packs_loan t l few = step (λ s. let v = loan_val l in let d = l.lender in packs lenders t d $
      nothing t $ owned t usize _ (uint_Makes 𝓛 w64) l.count _ (refl, few) $ fjoin t $ move t (1 ∷ 0 ∷ []) $ fjoin t $
      feq_i t (List Val) (v ∷ []) (v ∷ []) refl $ fjoin t $
      fpack t (Valss (lender.the_row ∷ usize ∷ [])) (within (shape loan.the_type) (d, (l.count, tt)) (v ∷ []))
      (lenders.val d ∷ [], (vint w64 l.count ∷ [], tt)) $ s)

  -- of null nothing is lent
  pub lends_nothing : X → (p : Ptr) (r : Referent) → Yes (ptr_same (ptr_val p) vnull)
      → Step X 𝓛 (‵ (lender_owns p r null_ptr []) ∷ Γ) G (‵ (handle_owns p r) ∷ Γ) G
  lends_nothing t null_ptr r null = step (λ s. feq_i t (List ℕ) [] [] refl $ move t (1 ∷ 0 ∷ []) $ fjoin t $ s)
  lends_nothing t (block_ptr b o) r null = absurd null

  -- what was lent comes back
  pub ends : X → Soaks G → (p : Ptr) (r : Referent) (bytes : Ptr) (xs : List ℕ)
      → Step X 𝓛 (‵ (handle_owns p r) ∷ Γ) G (‵ (lender_owns p r bytes xs) ∷ Γ) G
  ends t a null_ptr r bytes xs = step (λ s. fsplit t $ move t (1 ∷ []) $ drop t $ s)
  -- [the lifetime's token; the bytes; the referent once it has ended; the right to free it]
  ends t a (block_ptr b o) r bytes xs = step (λ s. fsplit t $ fpick t (λ α. fsplit3 t $ lft_end t a $ move t (1 ∷ []) $ drop t $
      lent_back t a $ fjoin t $ s))
