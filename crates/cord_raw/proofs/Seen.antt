-- A run of the bytes of a block, as a `&` to the block lends them.
use Rattle.std.proofs.Common.{◌≡◌, ℕ, zero, suc, ◌+◌, ◌≤◌, List, [], ◌∷◌, length, take, drop, refl, sym, subst, arith}
use native.Mathlib.Nat.{zero-add}
use seplogic.Ra.Ura.{Ura}
use mir.Syntax.{named}
use base.Logic.{ent, id⊢}
use base.Fml.{Lft, Fml, feq}
use types.Logic.{Logic, sem}
use types.Kit.{‵, ⋆, ◌$◌, ◌∵◌, !, qed, by, done, move, keep, use1, fsplit, fjoin}
use denote.Builtin.{u8}
use denote.Memory.{hidden_shr}
use denote.Opens.{unhide, hide}
use denote.Shadow.{pure_i}
use denote.Slice.{ShrSlice, Room, elements_shared, shr_slice_at, shr_slice_vals}
use denote.Steps.{nothing}
use Rattle.cord_raw.specs.declared.block.Block.{Block}
use Rattle.cord_raw.specs.contracts.block.Block.{the_row as B}
use Rattle.cord_raw.proofs.Runs.{run_of, run_length}

module _ {M : Type 1} {𝓤 : Ura M} (𝓛 : Logic 𝓤) (κ : Lft) (b : ℕ) where
  abbrev seen : List ℕ → ℕ → Fml
  seen xs o = elements_shared u8 xs b o κ

  seen_from : (i : ℕ) (xs : List ℕ) (o : ℕ) → ent 𝓤 (sem 𝓛 (seen xs o)) (sem 𝓛 (seen (drop i xs) (i + o)))
  seen_from zero xs o = subst (λ (k : ℕ). ent 𝓤 (sem 𝓛 (seen xs o)) (sem 𝓛 (seen xs k))) (sym (zero-add o)) (id⊢ 𝓤 (sem 𝓛 (seen xs o)))
  seen_from (suc i) [] o = id⊢ 𝓤 (sem 𝓛 (seen [] o))
  seen_from (suc i) (x ∷ xs) o =
      let onward : i + (o + 1) ≡ suc i + o = omega arith in
      qed 𝓛 (‵ (seen (x ∷ xs) o) ∷ []) ∵ fsplit ! $ keep ! (1 ∷ []) $
      by ! (subst (λ (k : ℕ). ent 𝓤 (sem 𝓛 (seen xs (o + 1))) (sem 𝓛 (seen (drop i xs) k))) onward (seen_from i xs (o + 1)))

  seen_to : (n : ℕ) (xs : List ℕ) (o : ℕ) → ent 𝓤 (sem 𝓛 (seen xs o)) (sem 𝓛 (seen (take n xs) o))
  seen_to zero xs o = qed 𝓛 (‵ (seen xs o) ∷ []) ∵ keep ! [] $ nothing ! $ done !
  seen_to (suc n) [] o = id⊢ 𝓤 (sem 𝓛 (seen [] o))
  seen_to (suc n) (x ∷ xs) o =
      qed 𝓛 (‵ (seen (x ∷ xs) o) ∷ []) ∵ fsplit ! $ move ! (1 ∷ []) $ use1 𝓛 (‵ (seen (take n xs) (o + 1))) (seen_to n xs (o + 1)) $ move !
      (1 ∷ 0 ∷ []) $ fjoin ! $ done !

  -- n bytes of the block x at (b, o), from the one at i on; and how many bytes it has room for
  pub run_seen : (x : Block) (o i n : ℕ) → i + n ≤ length x.bytes → Room u8 n
      → ent 𝓤 (sem 𝓛 (hidden_shr B κ x b o)) (⋆ 𝓛 (‵ (feq ℕ (length x.bytes) 128) ∷
      ‵ ((ShrSlice (named 1) κ u8).own_val (record { ref_ptr = (b, i + (o + 16)); now = run_of x.bytes i n })
      (shr_slice_vals (record { ref_ptr = (b, i + (o + 16)); now = run_of x.bytes i n }))) ∷ []))
  run_seen x o i n inside roomy =
      let at : ℕ = i + (o + 16) in let run = run_of x.bytes i n in
      qed 𝓛 (‵ (hidden_shr B κ x b o) ∷ []) ∵ unhide ! $ fsplit ! $ fsplit ! $ move ! (1 ∷ []) $ fsplit ! $ move !
      (1 ∷ []) $ fsplit ! $ keep ! (0 ∷ []) $ fsplit ! $ move ! (1 ∷ []) $
      use1 𝓛 (‵ (seen (drop i x.bytes) at)) (seen_from i x.bytes (o + 16)) $ use1 𝓛 (‵ (seen run at))
      (seen_to n (drop i x.bytes) at) $ hide ! $
      pure_i ! (shr_slice_at u8 (record { ref_ptr = (b, at); now = run }) (shr_slice_vals (record { ref_ptr = (b, at); now = run })))
      (tt, (tt, tt))
      (refl, subst (Room u8) (sym (run_length x.bytes i n inside)) roomy) $ fjoin ! $ move ! (1 ∷ 0 ∷ []) $ done !
