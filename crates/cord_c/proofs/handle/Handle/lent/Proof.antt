-- `lent` lends what lies at the pointer, and keeps what gives the handle back; a null pointer's handle stays as it is.
use Rattle.cord_c.proofs.Common.{[], ◌∷◌, refl, lit<, ftrue, at_ret, ‵, ◌⊛◌, ◌$◌, ◌∵◌, !, qed, keep, use1, drop, split, join, fsplit, suffices, done, agg, whole, sub, stop, fld, of_opd, bin, lit, and_then, no_more, first, branches, skips, exec, returns, returns_within, enter, alloc_all, pass_all, free_all, look_at, get, sets, env, tables, tests_null, plain, nothing, says, Stays, stay_dropped, walk_of, ends_at, Ptr-Good, after, proved}
use Rattle.std.proofs.Common.{◌≡◌, ℕ, List, sym, MutBor}
use seplogic.Ra.Ura.{Ura}
use mir.Syntax.{named}
use mir.Raw.{raw as bare}
use mir.Val.{Val, vptr, of_list}
use base.Fraction.{full_share}
use base.Logic.{ent, sep, id⊢}
use base.Fml.{Fml, GName, flft, fres, fsep}
use types.Logic.{Logic, sem}
use types.Kit.{some, later, move, use0, split3, pick, await, group}
use types.Kit.{fsplit3, fjoin, fpack, rewrite, raw, frame}
use types.Match.{live}
use types.Part.{look_in}
use types.Run.{load, blocks, addr}
use types.ByLocal.{through, sets_last}
use denote.Exit.{no}
use denote.Follow.{follows, follows_by, Part, lends_Part}
use denote.Memory.{cell_at, part_at, part_of, mem, lone}
use denote.RawPtr.{Ptr, block_ptr}
use denote.Ref.{MutRef, mut_vals, mut_Tells}
use denote.RattleType.{owns}
use denote.Signature.{mut_ref_to}
use denote.Steps.{opens, closes}
use denote.Triple.Walked.{Goes-spent_ref}
use Rattle.core.proofs.option.Made.{Some-of, none_of}
use Rattle.core.specs.contracts.option.Option as OP
use Rattle.core.specs.declared.option.Option.TheVariants.{None, Some}
use Rattle.cord_raw.specs.inner.Ownership.{frees}
use Rattle.cord_c.specs.Handles.{handle_owns}
use Rattle.cord_c.specs.inner.Loans.{with_referent}
use Rattle.cord_c.specs.declared.handle.Handle.{Handle}
use Rattle.cord_c.specs.declared.referent.Referent.{Referent}
use Rattle.cord_c.specs.contracts.referent.Referent.{the_row as R}
use Rattle.cord_c.specs.contracts.handle.Handle.{the_row as H}
use Rattle.cord_c.proofs.Handles.{word, handles, packs, unpacks, at_null, at_block, in_block}
use Rattle.cord_c.specs.contracts.handle.Handle.lent as f
use Rattle.cord_c.proofs.handle.Handle.lent.Statement.{statement}
use Rattle.cord_c.proofs.handle.Handle.lent.Code as code

module _ {M : Type 1} {𝓤 : Ura M} (𝓛 : Logic 𝓤) (at_b at_o : ℕ) (h : Handle) (b o : ℕ) where
  -- the handle at (at_b, at_o) without what it leads to, while that is lent
  abbrev PartsFrom : Fml
  PartsFrom = fsep (frees (bare (lone R.mir)) (block_ptr b o)) (cell_at full_share H.mir (word (block_ptr b o) ∷ []) at_b at_o)

  -- the handle with what came back
  returned : h.at ≡ block_ptr b o → (w : Referent) → ent 𝓤 (sep 𝓤 (sem 𝓛 ((mem R).own_at w b o)) (sem 𝓛 PartsFrom))
      (sem 𝓛 ((mem H).own_at (with_referent h w) at_b at_o))
  unfolding part_of
  returned e w =
      qed 𝓛 (‵ (part_at R full_share w b o) ∷ ‵ PartsFrom ∷ []) ∵ move ! (1 ∷ []) $ fsplit ! $ move ! (2 ∷ 0 ∷ []) $ fjoin ! $
      rewrite ! 0 (λ (p : Ptr). ‵ (handle_owns p w)) (sym e) refl $ packs handles ! (with_referent h w) $ move ! (1 ∷ []) $
      rewrite ! 0 (λ (p : Ptr). ‵ (cell_at full_share H.mir (word p ∷ []) at_b at_o)) (sym e) refl $ fjoin ! $
      fpack ! (List Val) (λ us. fsep (cell_at full_share H.mir us at_b at_o) (H.own_val (with_referent h w) us)) (word h.at ∷ []) $ done !

abbrev stayed : Stays f.ended.signature.params f.ended.kept
stayed = (stay_dropped (mut_ref_to (0 ∷ []) tt (plain (λ _. H))) no, tt)

pub lent_spec : {M : Type 1} → statement M
unfolding follows_by
lent_spec 𝓤 𝓛 𝓜 𝓡 wired =
    let c = f.clauses 𝓛 𝓜.mem 𝓡.returns in let W = walk_of 𝓛 f.ended stayed c in let 𝓣 = tables 𝓤 𝓛.H 𝓜 𝓡 𝓡.env in let fn = code.function in
    proved 𝓛 f.ended stayed c 𝓜 𝓡 (Goes-spent_ref 𝓛 1 (0 ∷ []) tt (plain (λ _. H)), tt)
    f.Key.name fn (code.unfolded 𝓤 𝓛.H 𝓜 𝓡 wired)
    (λ κs. (mut_vals, tt)) (λ κs. (mut_Tells (named 0) κs.0 H, tt)) (λ κs qs bounds a _ are.
    let κ = κs.0 in let q = qs.0 in let ab = a.0.ref_ptr.0 in let ao = a.0.ref_ptr.1 in let γ = a.0.ghost_name in let d = a.0.now in
    let y : W.Ghost = ((κs, qs, bounds, a, (vptr ab ao ∷ [], tt)), tt) in let Post = W.post y in let Lent = MutRef (named 0) κ R in
    qed 𝓛 (((‵ (flft κ q) ⊛ ‵ ftrue) ⊛ ‵ (owns (MutRef (named 0) κ H ∷ []) a (vptr ab ao ∷ [], tt))) ∷ raw ((c κs a).requires tt) ∷ []) ∵
    split ! $ move ! (1 ∷ []) $ fsplit ! $ fsplit3 ! $ drop ! $ move ! (3 ∷ []) $ split ! $
    enter ! _ _ _ _ _ $ alloc_all ! (λ l. pass_all ! refl ((tt, tt), tt) $
    move ! (2 ∷ 3 ∷ 0 ∷ []) $ opens ! tt H ab ao (λ us. move ! (1 ∷ []) $ unpacks ! d us (λ is.
    rewrite ! 1 (λ (ws : List Val). ‵ (cell_at full_share H.mir ws ab ao)) is refl $
    -- [what the handle owns; the handle's cell; the open borrow, in three entries; ..]
    sets ! (of_opd ! (load ! (through ! refl (fld ! refl (stop !))) (look_in ! 1 (sub ! 0 refl (whole !))))) refl (Ptr-Good d.at) $
    sets ! (of_opd ! (get ! refl)) refl (Ptr-Good d.at) $
    sets ! (bin ! (get ! refl) (lit ! tt) (tests_null d.at d.testable)) refl (tt, tt) $
    first ! $ branches ! (get ! refl)
    (λ null. sets ! (agg ! (and_then ! (lit ! tt) (no_more !))) refl (tt, (record { fits = lit< tt }, tt)) $
    at_null ! d.at d.referent null (λ none. packs handles ! d $ move ! (1 ∷ []) $
    closes ! tt H d (word d.at ∷ []) ab ao $
    use1 𝓛 (‵ (fres γ (H.coded.code d))) (𝓛.names.obs-res γ (H.coded.code d)) $ move ! (1 ∷ []) $ drop ! $
    use0 𝓛 (‵ ((OP.the_row Lent).own_val None (live 0 (of_list []) ∷ []))) (none_of 𝓛 Lent) $
    returns_within ! Post refl (look_at ! 0 refl) $ free_all ! refl $
    -- [nothing; what settles the handle; the token; the other tokens]
    keep ! (0 ∷ 2 ∷ 1 ∷ 3 ∷ []) $ suffices ! _ (ends_at 𝓛 f.ended stayed c y (live 0 (of_list [])) None (tt, tt) (tt, tt)) $
    nothing ! $ nothing ! $ fjoin ! $ join ! $ move ! (1 ∷ 3 ∷ 0 ∷ []) $ join ! $ join ! $ frame ! $ says ! none $ done !))
    (λ other. skips ! $ exec ! 𝓣.C 𝓣.Λ (env fn.locals l) (after 4 fn.body) (at_ret (env fn.locals l) Post) $
    at_block ! d.at d.referent other (λ b o e. fsplit ! $
    rewrite ! 2 (λ (p : Ptr). ‵ (cell_at full_share H.mir (word p ∷ []) ab ao)) e refl $
    -- [what is led to; the right to free it; the handle's cell; the open borrow; ..]
    first ! $ blocks ! $ sets ! (of_opd ! (get ! refl)) refl (Ptr-Good d.at) $ sets ! (of_opd ! (in_block e (get ! refl))) refl (tt, tt) $
    sets_last ! (addr ! (through ! refl (stop !))) refl (tt, tt) $
    exec ! 𝓣.C 𝓣.Λ (env fn.locals l) (after 5 fn.body) (at_ret (env fn.locals l) Post) $
    sets ! (of_opd ! (get ! refl)) refl (tt, tt) $
    sets ! (agg ! (and_then ! (lit ! tt) (and_then ! (get ! refl) (no_more !)))) refl (tt, (record { fits = lit< tt }, (tt, tt))) $
    move ! (1 ∷ 2 ∷ []) $ fjoin ! $ move ! (2 ∷ 3 ∷ 4 ∷ 1 ∷ 0 ∷ []) $ group ! 5 $
    use1 𝓛 (later (some (λ (γ' : GName). raw (Part 𝓛 H R (with_referent d) (named 0) κ q ab ao b o γ (sem 𝓛 (PartsFrom 𝓛 ab ao d b o))
    (returned 𝓛 ab ao d b o e) d.referent γ'))))
    (lends_Part 𝓛 H R (with_referent d) (named 0) κ q ab ao b o γ (sem 𝓛 (PartsFrom 𝓛 ab ao d b o)) (returned 𝓛 ab ao d b o e)
    (H.coded.code d)
    (H.coded.code d) d.referent) $ await ! tt $ pick ! (λ γ'.
    let loan : MutBor Referent = record { ref_ptr = (b, o); ghost_name = γ'; now = d.referent } in
    use1 𝓛 (‵ (Lent.own_val loan (vptr b o ∷ [])) ⊛ ‵ (flft κ q) ⊛ ‵ (follows H R γ γ' (with_referent d))) (id⊢ 𝓤 _) $ split3 ! $
    use1 𝓛 (‵ ((OP.the_row Lent).own_val (Some loan) (live 1 (of_list (vptr b o ∷ [])) ∷ []))) (Some-of 𝓛 Lent loan (vptr b o)) $
    returns ! (look_at ! 0 refl) $ free_all ! refl $
    -- [the loan; the token; what gives the handle back; the other tokens]
    keep ! (0 ∷ 1 ∷ 2 ∷ 3 ∷ []) $ suffices ! _ (ends_at 𝓛 f.ended stayed c y (live 1 (of_list (vptr b o ∷ []))) (Some loan) (tt, tt) (tt, tt)) $
    nothing ! $ nothing ! $ fjoin ! $ join ! $ move ! (1 ∷ 3 ∷ 0 ∷ []) $ join ! $ join ! $ frame ! $ says ! refl $ done !)))))))
