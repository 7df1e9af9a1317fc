-- The call that copies one slice of bytes over another, as the walks make it: what it asks, and what it gives.
use Rattle.std.proofs.Common.{◌≡◌, ℕ, List, [], ◌∷◌, length, refl, ap, Bor, MutBor}
use seplogic.Ra.Ura.{Ura}
use mir.Syntax.{Args, a_type, dcons, dnil, named}
use mir.Val.{Val, vunit}
use prog.Memory.{Memory}
use prog.Model.{Model}
use prog.Routine.{Routine}
use prog.Wired.{Wired}
use base.Fraction.{full_share}
use base.Logic.{SProp, ent, emp}
use base.Fml.{Lft, Share, ftrue, fbor, flft}
use types.Logic.{Logic}
use types.Kit.{‵, raw, ◌⊛◌, ⋆, some, later, given, mean, ◌$◌, ◌∵◌, !, qed, done, move, keep, use0, updating, await, now, check, split}
use types.Kit.{split3, join, pick, fsplit, fjoin, feq_l, rewrite}
use contract.BorrowLft.{◌⊑◌, ⊑_static, ⊑_refl}
use contract.Monad.{Fun, fact, fact_i}
use contract.Running.{Running}
use denote.Builtin.{u8, unit}
use denote.Lend.{Held}
use denote.Param.{bounded}
use denote.Param.Laws.{Laws, IsCopy, of_field, of_copyable}
use denote.Param.Shared.{copy_shared}
use denote.Slice.{MutSlice, ShrSlice, finally, mut_slice_vals, shr_slice_vals}
use denote.Steps.{nothing, heard, only}
use denote.Struct.Field.{u8-field}
use denote.Struct.Laws.{u8-laws, u8-copy}
use denote.Triple.Clauses.{lasts}
use denote.Triple.Spec.{Meets, triple_of}
use denote.Triple.Statement.{Contract}
use Rattle.core.specs.contracts.clone.U8Clone.TheImpl as u8_clone
use Rattle.core.specs.contracts.slice.edits.slice+T.copy_from_slice as copy
use Rattle.core.proofs.clone.U8Clone.TheImpl.Met as u8_clones
use Rattle.core.proofs.clone.U8Clone.clone.Symbol as clone_symbol
use Rattle.core.proofs.slice.edits.slice+T.copy_from_slice.Met.{met}
use Rattle.core.proofs.slice.edits.slice+T.copy_from_slice.Symbol as copy_symbol

abbrev byte_laws : Laws u8
byte_laws = of_field u8-field u8-laws refl (copy_shared u8-field u8-copy)

abbrev byte_copies : IsCopy u8
byte_copies = of_copyable u8-field u8-copy

-- what a call at bytes passes in place of the type parameter
abbrev byte_args : Args
byte_args = bounded (a_type ∷ []) (u8, tt) (dcons u8_clone.dict dnil)

-- the library's proof of it at bytes
module _ {M : Type 1} {𝓤 : Ura M} (𝓛 : Logic 𝓤) where
  pub copied : (𝓜 : Model 𝓤 𝓛.H) (𝓡 : Running 𝓤 𝓛.H 𝓜) → Wired 𝓡.env copy_symbol.code → Wired 𝓡.env clone_symbol.code
      → Meets 𝓛 (copy.signature u8) (𝓡.run (𝓡.env (copy_symbol.name byte_args)))
      (copy.spec u8 u8_clone.ghosts u8_clone.dict 𝓛 𝓜.mem 𝓡.returns)
  copied 𝓜 𝓡 copies clones = met 𝓤 𝓛 𝓜 𝓡 copies u8 byte_laws byte_copies u8_clone.ghosts u8_clone.dict
      (u8_clones.passed 𝓡.env clones M 𝓤 𝓛 𝓜 𝓡)

module _ {M : Type 1} {𝓤 : Ura M} (𝓛 : Logic 𝓤) (at_mem : Memory → SProp 𝓤) (returns : Routine → Fun 𝓤) where
  abbrev pub Copies : Contract 𝓤
  Copies = triple_of 𝓛 (copy.signature u8) (copy.spec u8 u8_clone.ghosts u8_clone.dict 𝓛 at_mem returns)

  module _ (κ κ' : Lft) (q q' : Share) (to : MutBor (List ℕ)) (run : Bor (List ℕ)) where
    -- the call that copies the bytes of run over those of to
    abbrev pub copying : Copies.Ghost
    copying = (
      (
        (κ, (κ', ([], tt))),
        (q, (q', (full_share, tt))),
        (⊑_static κ, (⊑_static κ', tt)),
        (to, (run, tt)),
        (mut_slice_vals to, (shr_slice_vals run, tt)),
      ),
      tt,
    )

    -- it asks for both slices, and for as many bytes in the one as in the other
    pub asks : length to.now ≡ length run.now
        → ent 𝓤 (⋆ 𝓛 (‵ ((MutSlice (named 0) κ u8).own_val to (mut_slice_vals to)) ∷ ‵ (flft κ q)
        ∷ ‵ ((ShrSlice (named 1) κ' u8).own_val run (shr_slice_vals run)) ∷ ‵ (flft κ' q') ∷ [])) (Copies.pre copying)
    asks long =
        qed 𝓛 (‵ ((MutSlice (named 0) κ u8).own_val to (mut_slice_vals to)) ∷ ‵ (flft κ q)
        ∷ ‵ ((ShrSlice (named 1) κ' u8).own_val run (shr_slice_vals run)) ∷ ‵ (flft κ' q') ∷ []) ∵
        nothing ! $ move ! (3 ∷ 0 ∷ []) $ fjoin ! $ move ! (1 ∷ 0 ∷ []) $ fjoin ! $
        nothing ! $ use0 𝓛 (‵ (flft [] full_share)) (𝓛.lfts.lft-nil full_share) $ join ! $ move ! (3 ∷ 0 ∷ []) $ join ! $ move !
        (2 ∷ 0 ∷ []) $ join ! $ join ! $
        use0 𝓛 (raw (fact 𝓤 (length to.now ≡ length run.now))) (fact_i 𝓤 (length to.now ≡ length run.now) (emp 𝓤) long) $
        use0 𝓛 (raw (fact 𝓤 ([] ⊑ u8.lives))) (fact_i 𝓤 ([] ⊑ u8.lives) (emp 𝓤) (⊑_refl [])) $ join ! $ move ! (1 ∷ 0 ∷ []) $ done !

    -- it gives the bytes of run as the last ones of to
    pub gives : (v : Val) →
        ent 𝓤 (Copies.post copying v)
        (mean 𝓛 (later (given (v ≡ vunit) (‵ (finally u8 to.ghost_name run.now) ⊛ ‵
        (fbor κ (Held u8 (length to.now) to.ref_ptr.0 to.ref_ptr.1 to.ghost_name)) ⊛ ‵ (flft κ q) ⊛ ‵ (flft κ' q')))))
    gives v =
        qed 𝓛 (later (some (λ (u : Unit {0}). ((‵ (flft κ q) ⊛ ‵ (flft κ' q') ⊛ ‵ (flft [] full_share) ⊛ ‵ ftrue) ⊛ ‵
        (unit.own_val u (v ∷ []))) ⊛
        some (λ (ls : List ℕ × (Unit {0} × Unit {0})). ‵ (lasts (copy.ended u8 u8_clone.ghosts u8_clone.dict) (κ, (κ', ([], tt)))
        (to, (run, tt)) ls) ⊛ (raw (fact 𝓤 (length ls.0 ≡ length to.now)) ⊛ raw (fact 𝓤 (ls.0 ≡ run.now)))))) ∷ []) ∵
        updating ! $ await ! tt $ pick ! (λ u. split ! $ split ! $ split3 ! $ move ! (3 ∷ []) $ feq_l !
        (λ is_unit. move ! (3 ∷ []) $ pick ! (λ ls. split ! $ move ! (1 ∷ []) $ split ! $
        heard ! (length ls.0 ≡ length to.now) (λ _. heard ! (ls.0 ≡ run.now)
        (λ same. fsplit ! $ fsplit ! $ fsplit ! $ rewrite ! 0 (λ (xs : List ℕ). ‵ (finally u8 to.ghost_name xs)) same refl $
        now ! $ check ! (ap only is_unit) $ keep ! (0 ∷ 2 ∷ 4 ∷ 5 ∷ []) $ done !)))))
