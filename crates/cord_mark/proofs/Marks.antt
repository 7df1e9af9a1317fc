-- A mark is one byte, and is reached through a `&` with the thread's token. Assumes `Logic`.
use Rattle.std.proofs.Common.{◌≡◌, ℕ, Bool, true, List, [], ◌∷◌, ◌++◌, refl, ap, ◌∙◌}
use seplogic.Ra.Ura.{Ura}
use mir.Syntax.{Ty, ty_bool}
use mir.Val.{Val, vbool, vstruct, of_list}
use base.Fraction.{full_share}
use base.Logic.{sep, wand, apply∗}
use base.Fml.{GName, Key, Lft, Mask, Share, Fml, Incl-refl, fsep, fex, fat, flft, ftok}
use base.Mask.{less}
use types.Logic.{Logic, sem}
use types.Kit.{Item, Goal, Seq, Step, Soaks, step, ‵, raw, ◌⊛◌, later, ◌$◌, move, use1, use2, use3, split, join, fsplit, fjoin, fpick}
use types.Kit.{fpack, feq_i, feq_l, rewrite, await}
use types.Na.{na_bor, na_acc_in}
use denote.RattleType.{RattleType}
use denote.Plain.{Boolean, bool_Lawful}
use denote.Memory.{cell_at, hidden_shr, lone}
use denote.Opens.{unhide}
use denote.Struct.Members.{Member}
use Rattle.core.proofs.cell.Inside.{round, wraps, unwraps}
use Rattle.cord_mark.specs.Part.{Part}
use Rattle.cord_mark.specs.inner.Ownership.{fields_at, reported}
use Rattle.cord_mark.specs.contracts.mark.Mark as mark
use Rattle.cord_mark.specs.contracts.mark.Mark.TheInside as inside

abbrev pub Fields : RattleType
Fields = inside.the_row

abbrev pub flag : Member
flag = record { row = Boolean; ty = ty_bool }

abbrev pub mark_type : Ty
mark_type = lone Fields.mir

abbrev pub flag_val : Bool → Val
flag_val y = round (vbool y)

abbrev pub Shut : {M : Type 1} {𝓤 : Ura M} (𝓛 : Logic 𝓤) → Mask → Key → ℕ → ℕ → Lft → Share → Item 𝓤
Shut {𝓤 = 𝓤} 𝓛 E k b o κ q =
    raw (wand 𝓤 (sep 𝓤 (sem 𝓛 (fields_at Fields b o)) (𝓛.A.tok (less E k))) (𝓛.H.⇛ (sep 𝓤 (𝓛.A.lft κ q) (𝓛.A.tok E))))

module _ {M : Type 1} {𝓤 : Ura M} {𝓛 : Logic 𝓤} {K : Type 0} {Γ : List (Item 𝓤)} {G : Goal 𝓤 𝓛.H} (b o : ℕ) where
  open 𝓛 use {H, A}

  -- [the name's word; what reaches the fields]
  pub named : K → {κ : Lft} (parts : List Part)
      → ((γ : GName) → Seq K 𝓛 (‵ (reported γ parts b o) ∷ ‵ (na_bor κ (γ, 0) (fields_at Fields b o)) ∷ Γ) G)
      → Seq K 𝓛 (‵ (hidden_shr mark.the_row κ parts b o) ∷ Γ) G
  named t parts k = unhide t $ fpick t (λ γ. fsplit t $ k γ)

  -- [the flag; the token; what shuts it]
  pub opens_mark : K → Soaks G → {κ : Lft} {q : Share} (E : Mask) (k : Key) → E k ≡ true
      → ((y : Bool) → Seq K 𝓛 (‵ (fat full_share mark_type b o (flag_val y)) ∷ ‵ (ftok (less E k)) ∷ Shut 𝓛 E k b o κ q ∷ Γ) G)
      → Seq K 𝓛 (‵ (na_bor κ k (fields_at Fields b o)) ∷ ‵ (flft κ q) ∷ ‵ (ftok E) ∷ Γ) G
  opens_mark t z {κ} {q} E k has next =
      let P : Fml = fields_at Fields b o in
      use3 𝓛 (later (‵ P ⊛ ‵ (ftok (less E k)) ⊛ Shut 𝓛 E k b o κ q)) (na_acc_in 𝓛 κ ((κ, q) ∷ []) E k P (Incl-refl κ) has) $ await t z $
      split t $
      fpick t (λ vs. fsplit t $ move t (1 ∷ []) $ fpick t (λ i. unwraps flag t (bool_Lawful 𝓛) [] [] i.flag vs (λ v good e. feq_l t (λ f.
      rewrite t 0 (λ (us : List Val). ‵ (cell_at full_share Fields.mir us b o))
      (e ∙ ap (λ (us : List Val). vstruct (of_list (us ++ [])) ∷ []) f) refl $
      use1 𝓛 (‵ (fat full_share mark_type b o (flag_val i.flag))) (𝓛.laws.raw_at full_share mark_type b o (flag_val i.flag)) $
      move t (1 ∷ []) $ split t $ move t (2 ∷ 0 ∷ 1 ∷ []) $ next i.flag))))

  pub shuts_mark : K → Soaks G → {κ : Lft} {q : Share} (E : Mask) (k : Key) (y : Bool)
      → Step K 𝓛 (‵ (flft κ q) ∷ ‵ (ftok E) ∷ Γ) G (‵ (fat full_share mark_type b o (flag_val y)) ∷ ‵ (ftok (less E k))
      ∷ Shut 𝓛 E k b o κ q ∷ Γ) G
  shuts_mark t z {κ} {q} E k y = step (λ s.
      let P : Fml = fields_at Fields b o in
      let i : Fields.Denot = record { flag = y } in
      use1 𝓛 (‵ (cell_at full_share Fields.mir (flag_val y ∷ []) b o)) (𝓛.laws.at_raw full_share mark_type b o (flag_val y)) $
      feq_i t (List Val) (vbool y ∷ []) (vbool y ∷ []) refl $ use1 𝓛 (‵ (Fields.own_val i (flag_val y ∷ [])))
      (wraps flag 𝓛 [] [] y (vbool y)) $
      fpack t Fields.Denot (λ j. Fields.own_val j (flag_val y ∷ [])) i $ move t (1 ∷ 0 ∷ []) $ fjoin t $
      fpack t (List Val) (λ us. fsep (cell_at full_share Fields.mir us b o) (fex Fields.Denot (λ j. Fields.own_val j us)))
      (flag_val y ∷ []) $ join t $ move t (1 ∷ 0 ∷ []) $
      move t (1 ∷ 0 ∷ []) $ use2 𝓛 (later (‵ (flft κ q) ⊛ ‵ (ftok E)))
      (apply∗ 𝓤 (sep 𝓤 (sem 𝓛 P) (A.tok (less E k))) (H.⇛ (sep 𝓤 (A.lft κ q) (A.tok E)))) $ await t z $ split t $ s)
