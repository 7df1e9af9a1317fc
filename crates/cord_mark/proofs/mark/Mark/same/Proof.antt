-- `same` turns the one flag and reads the other. If two names reach the marks, both are open and the other flag stays; if one does, the
-- marks are one. Assumes `Logic`.
use Rattle.std.proofs.Common.{◌≡◌, ℕ, Bool, true, false, not, List, [], ◌∷◌, ◌++◌, refl, sym, true≢false}
use mathlib.Core.Bool.{beq}
use mir.Syntax.{Fn}
use mir.Val.{Val, vbool, vptr}
use base.Logic.{SProp, ent, emp}
use base.Fml.{GName, Key, Lft, Mask, Share, ftrue, flft, ftok}
use base.Mask.{every, less, less_other, Key-Dec}
use prog.Wp.{Env, WpFn}
use contract.Monad.{fact, fact_i}
use types.Kit.{‵, raw, ⋆, ◌⊛◌, prop, at_ret, ◌$◌, ◌∵◌, !, qed, by, move, keep, use0, use2, split, split3, join, rewrite, regoal, fsplit}
use types.Kit.{fjoin, feq_i}
use types.Na.{na_bor}
use types.Part.{whole, sub, look_in, store_in}
use types.Run.{stop, fld, load, addr, un, bin, of_opd, assigns, first, blocks, exec, returns, enter}
use types.ByLocal.{alloc_all, pass_all, free_all, look_at, get, through, sets, sets_last, env}
use denote.RattleType.{owns}
use denote.Signature.{types_at}
use denote.Steps.{nothing, heard}
use denote.Triple.Walked.{Stays, stay_dropped, walk_of, Goes-dropped}
use Rattle.core.proofs.alloc.Shapes.{after}
use Rattle.std.proofs.raw_atomic.Walks.{leaves}
use Rattle.cord_mark.specs.Part.{Part}
use Rattle.cord_mark.specs.inner.Ownership.{MarkedText, reported, fields_at}
use Rattle.cord_mark.proofs.Reported.{reported_same}
use Rattle.cord_mark.proofs.Marks.{Fields, named, opens_mark, shuts_mark}
use Rattle.cord_mark.proofs.Token.{parameter, held, met_with_token}
use Rattle.cord_mark.specs.contracts.mark.Mark.same.{ended, clauses}
use Rattle.cord_mark.specs.contracts.mark.Mark.same.Key.{name as #self}
use Rattle.cord_mark.proofs.mark.Mark.same.Statement.{statement}
use Rattle.cord_mark.proofs.mark.Mark.same.Code as compiled
use Rattle.cord_mark.proofs.mark.Mark.same.Code.{code}

-- a flag that was read twice
still : {X : Type 0} (y : Bool) → not (beq y y) ≡ true → X
still true e = absurd (true≢false (sym e))
still false e = absurd (true≢false (sym e))

pub same_spec : {M : Type 1} → statement M
unfolding code
same_spec 𝓤 𝓛 𝓜 𝓡 wired =
    let H = 𝓛.H in
    let c₀ = clauses 𝓛 𝓜.mem 𝓡.returns in
    let fn : Fn = compiled.function in
    let stays : Stays ended.signature.params ended.kept = (
      stay_dropped (parameter ended.signature.params 0) ended.kept.0,
      (stay_dropped (parameter ended.signature.params 1) ended.kept.1.0, tt),
    ) in
    let c = held 𝓛 ended stays c₀ in
    met_with_token 𝓛 ended stays c₀ 𝓜 𝓡 (
      Goes-dropped 𝓛 2 (parameter ended.signature.params 0) ended.kept.0 (λ κs x f. refl),
      (Goes-dropped 𝓛 2 (parameter ended.signature.params 1) ended.kept.1.0 (λ κs x f. refl), tt),
    ) #self fn (wired.0.0 #self refl)
    (λ C Λ z are.
    let Post : Val → SProp 𝓤 = (walk_of 𝓛 ended stays c).post z in
    let a = z.0.3 in
    let vss = z.0.4 in
    let κ : Lft = z.0.0.0 in
    let q : Share = z.0.1.0 in
    let μ : Lft = z.0.0.1.0 in
    let r : Share = z.0.1.1.0 in
    let b = a.0.ref_ptr.0 in
    let o = a.0.ref_ptr.1 in
    let d = a.1.0.ref_ptr.0 in
    let e = a.1.0.ref_ptr.1 in
    let s : List Part = a.0.now in
    let t : List Part = a.1.0.now in
    let exits : (y : Bool) → (y ≡ true → s ≡ t) → ent 𝓤 (⋆ 𝓛 (‵ (flft κ q) ∷ ‵ (ftok every) ∷ ‵ (flft μ r) ∷ [])) (Post (vbool y)) =
    λ y says.
    qed 𝓛 (‵ (flft κ q) ∷ ‵ (ftok every) ∷ ‵ (flft μ r) ∷ []) ∵
    use0 𝓛 (raw (fact 𝓤 (y ≡ true → s ≡ t))) (fact_i 𝓤 (y ≡ true → s ≡ t) (emp 𝓤) says) $ move ! (2 ∷ 0 ∷ []) $ join ! $
    feq_i ! (List Val) (vbool y ∷ []) (vbool y ∷ []) refl $ nothing ! $ nothing ! $ fjoin ! $ nothing ! $ fjoin ! $
    nothing ! $ move ! (5 ∷ 0 ∷ []) $ join ! $ move ! (4 ∷ 0 ∷ []) $ join ! $ move ! (0 ∷ 1 ∷ 2 ∷ []) $
    by ! (leaves 𝓛 ended stays c z (vbool y) y (tt, (tt, tt)) (tt, (tt, tt))) in
    -- one mark
    let one_mark : (γ : GName) → s ≡ t →
    ent 𝓤 (⋆ 𝓛 (‵ (na_bor κ (γ, 0) (fields_at Fields b o)) ∷ ‵ (flft κ q) ∷ ‵ (ftok every) ∷ ‵ (flft μ r) ∷ []))
    (WpFn 𝓤 H C Λ fn (vptr b o ∷ vptr b o ∷ []) Post) = λ γ says.
    qed 𝓛 (‵ (na_bor κ (γ, 0) (fields_at Fields b o)) ∷ ‵ (flft κ q) ∷ ‵ (ftok every) ∷ ‵ (flft μ r) ∷ []) ∵
    enter ! C Λ fn (vptr b o ∷ vptr b o ∷ []) Post $
    alloc_all ! (λ l. pass_all ! refl ((tt, tt), ((tt, tt), tt)) $ let En : Env 𝓤 H = env fn.locals l in
    opens_mark b o ! tt every (γ, 0) refl (λ y.
    sets ! (addr ! (through ! refl (fld ! refl (stop !)))) refl (tt, tt) $
    sets ! (addr ! (through ! refl (fld ! refl (stop !)))) refl (tt, tt) $
    first ! $ blocks ! $
    sets ! (of_opd ! (load ! (through ! refl (stop !)) (look_in ! 0 (sub ! 0 refl (whole !))))) refl (tt, tt) $
    sets ! (un ! (get ! refl) tt) refl (tt, tt) $
    assigns ! (of_opd ! (get ! refl)) (through ! refl (stop !)) (store_in ! 0 (sub ! 0 refl (whole !)) (tt, tt)) $
    sets ! (of_opd ! (load ! (through ! refl (stop !)) (look_in ! 0 (sub ! 0 refl (whole !))))) refl (tt, tt) $
    sets_last ! (bin ! (get ! refl) (get ! refl) tt) refl (tt, tt) $
    exec ! C Λ En (after 3 fn.body) (at_ret En Post) $
    sets ! (of_opd ! (get ! refl)) refl (tt, tt) $
    shuts_mark b o ! tt every (γ, 0) (not y) $
    returns ! (look_at ! 0 refl) $ free_all ! refl $ keep ! (0 ∷ 1 ∷ 2 ∷ []) $ by ! (exits (not (beq (not y) y)) (λ _. says)))) in
    -- two names
    let two_marks : (γ δ : GName) → ¬ (◌≡◌ {A = Key} (γ, 0) (δ, 0)) →
    ent 𝓤 (⋆ 𝓛 (‵ (na_bor κ (γ, 0) (fields_at Fields b o)) ∷ ‵ (flft κ q) ∷ ‵ (ftok every) ∷ ‵ (na_bor μ (δ, 0) (fields_at Fields d e))
    ∷ ‵ (flft μ r) ∷ []))
    (WpFn 𝓤 H C Λ fn (vptr b o ∷ vptr d e ∷ []) Post) = λ γ δ apart. let E : Mask = less every (γ, 0) in
    qed 𝓛 (‵ (na_bor κ (γ, 0) (fields_at Fields b o)) ∷ ‵ (flft κ q) ∷ ‵ (ftok every) ∷ ‵ (na_bor μ (δ, 0) (fields_at Fields d e))
    ∷ ‵ (flft μ r) ∷ []) ∵
    enter ! C Λ fn (vptr b o ∷ vptr d e ∷ []) Post $
    alloc_all ! (λ l. pass_all ! refl ((tt, tt), ((tt, tt), tt)) $ let En : Env 𝓤 H = env fn.locals l in
    opens_mark b o ! tt every (γ, 0) refl (λ x. move ! (3 ∷ 4 ∷ 1 ∷ []) $
    opens_mark d e ! tt E (δ, 0) (less_other every (γ, 0) (δ, 0) apart) (λ y.
    -- [the other flag, the token, what shuts it; this flag, what shuts it]
    sets ! (addr ! (through ! refl (fld ! refl (stop !)))) refl (tt, tt) $
    sets ! (addr ! (through ! refl (fld ! refl (stop !)))) refl (tt, tt) $
    first ! $ blocks ! $
    sets ! (of_opd ! (load ! (through ! refl (stop !)) (look_in ! 0 (sub ! 0 refl (whole !))))) refl (tt, tt) $
    sets ! (un ! (get ! refl) tt) refl (tt, tt) $
    assigns ! (of_opd ! (get ! refl)) (through ! refl (stop !)) (store_in ! 3 (sub ! 0 refl (whole !)) (tt, tt)) $
    sets ! (of_opd ! (load ! (through ! refl (stop !)) (look_in ! 0 (sub ! 0 refl (whole !))))) refl (tt, tt) $
    sets_last ! (bin ! (get ! refl) (get ! refl) tt) refl (tt, tt) $
    exec ! C Λ En (after 3 fn.body) (at_ret En Post) $
    sets ! (of_opd ! (get ! refl)) refl (tt, tt) $
    shuts_mark d e ! tt E (δ, 0) y $ move ! (2 ∷ 1 ∷ 3 ∷ []) $ shuts_mark b o ! tt every (γ, 0) (not y) $
    returns ! (look_at ! 0 refl) $ free_all ! refl $ keep ! (0 ∷ 1 ∷ 2 ∷ []) $ by ! (exits (not (beq y y)) (still y))))) in
    qed 𝓛 (((‵ (flft κ q) ⊛ ‵ (flft μ r) ⊛ ‵ ftrue) ⊛ ‵ (owns (types_at ended.signature.params z.0.0) a vss)) ∷ (‵ (ftok every) ⊛ ‵ ftrue)
    ∷ []) ∵
    split ! $ split3 ! $ move ! (3 ∷ []) $ fsplit ! $ fsplit ! $ move ! (2 ∷ []) $ fsplit ! $ fsplit ! $ move ! (8 ∷ []) $ split ! $ keep !
    (6 ∷ 3 ∷ 7 ∷ 0 ∷ 8 ∷ []) $
    -- [what this & holds; what the other holds; the token of κ, the thread's, that of μ]
    regoal ! (λ (us : List Val). prop (WpFn 𝓤 H C Λ fn us Post)) (λ i. are.0.0 i ++ (are.1.0.0 i ++ [])) refl $
    named b o ! s (λ γ. move ! (2 ∷ []) $ named d e ! t (λ δ.
    -- [the other's word, and what reaches it; this one's; the tokens]
    elim (Key-Dec (γ, 0) (δ, 0)) [
      | yes one ↦ let Both : Type 0 = ◌≡◌ {A = MarkedText} (s, (b, o)) (t, (d, e)) in
          rewrite ! 0 (λ (g : GName). ‵ (reported g t d e)) (λ i. (sym one i).0) refl $ move ! (2 ∷ 0 ∷ []) $ use2 𝓛 (raw (fact 𝓤 Both))
          (reported_same 𝓛 γ s t b o d e) $
          heard ! Both (λ both. keep ! (1 ∷ 2 ∷ 3 ∷ 4 ∷ []) $
          regoal ! (λ (k : MarkedText). prop (WpFn 𝓤 H C Λ fn (vptr b o ∷ vptr k.1.0 k.1.1 ∷ []) Post)) (sym both) refl $ by !
          (one_mark γ (λ i. (both i).0)))
      | no apart ↦ keep ! (3 ∷ 4 ∷ 5 ∷ 1 ∷ 6 ∷ []) $ by ! (two_marks γ δ apart)
    ])))
