-- `next` follows the pointer of a place, and reads the pointer of the block there.
use Rattle.std.proofs.Common.{◌≡◌, ℕ, suc, ◌+◌, ◌<◌, ◌^◌, List, [], ◌∷◌, length, take, refl, ap, sym, ◌∙◌, arith}
use Rattle.std.proofs.lemmas.List.{get_or_append_left}
use mir.Syntax.{named, w64}
use mir.Val.{Val, vint, vstruct, vcons, vnil}
use base.Fraction.{full_share}
use base.Fml.{ftrue, fat, fhide, flft}
use types.Kit.{at_ret, ‵, ◌⊛◌, ◌$◌, ◌∵◌, !, qed, move, keep, use1, drop, split, split3, join, fsplit, fjoin, rewrite, raw, suffices, frame}
use types.Kit.{done}
use types.Part.{whole, sub, agg}
use types.Run.{look, lit, load, from, stop, hop, fld, of_opd, bin, and_then, no_more, first, blocks, exec, returns, enter}
use types.ByLocal.{alloc_all, pass_all, free_all, look_at, look_in_at, get, get_in, sets, sets_last, take_at, give_at, env}
use contract.Monad.{fact}
use contract.Running.{tables}
use denote.Builtin.{RefOf}
use denote.Exit.{yes}
use denote.RattleType.{owns}
use denote.Memory.{hidden_shr}
use denote.Opens.{unhide, hide}
use denote.RawPtr.{Ptr, InBlock, block_ptr, block_of, count_of, at_block, ptr_val}
use denote.Ref.{ShrRef, shr_vals, shr_Tells}
use denote.Signature.{plain}
use denote.Steps.{heard, nothing}
use denote.Struct.Lending.{lent_at, in_block_says}
use denote.Triple.Walked.{says, Stays, stay_dropped, walk_of, ends_at, Goes-dropped}
use Rattle.std_alloc.proofs.Words.{pointer_in, pointer_out}
use Rattle.std_alloc.proofs.VecSteps.Shapes.{after}
use Rattle.std.proofs.raw_atomic.Walks.{proved}
use Rattle.cord_raw.specs.declared.block.Block.{Block}
use Rattle.cord_raw.specs.declared.chain.Place.{Place}
use Rattle.cord_raw.specs.inner.Blocks.{place_after}
use Rattle.cord_raw.specs.inner.Ownership.{chain_lent}
use Rattle.cord_raw.specs.inner.Places.{IsPlaceOf, block_at}
use Rattle.cord_raw.specs.contracts.block.Block.{the_row as B}
use Rattle.cord_raw.specs.contracts.chain.Chain.{the_row as C}
use Rattle.cord_raw.specs.contracts.chain.Place.{the_row as P}
use Rattle.cord_raw.proofs.chain.Place.TheLaws as place_laws
use Rattle.cord_raw.proofs.Links.{lent_nth, next_place}
use Rattle.cord_raw.proofs.Words.{place_val, place_is, place_typed, owns_place, fields_lent, lends, shows_next}
use Rattle.cord_raw.specs.contracts.chain.Chain.next as f
use Rattle.cord_raw.proofs.chain.Chain.next.Statement.{statement}
use Rattle.cord_raw.proofs.chain.Chain.next.Code as code

abbrev stayed : Stays f.ended.signature.params f.ended.kept
stayed = (stay_dropped (RefOf (0 ∷ []) tt (plain (λ _. C)) (λ _. tt)) yes, (stay_dropped (plain (λ _. P)) yes, tt))

pub next_spec : {M : Type 1} → statement M
next_spec 𝓤 𝓛 𝓜 𝓡 wired =
    let c = f.clauses 𝓛 𝓜.mem 𝓡.returns in let W = walk_of 𝓛 f.ended stayed c in let 𝓣 = tables 𝓤 𝓛.H 𝓜 𝓡 𝓡.env in let fn = code.function in
    proved 𝓛 f.ended stayed c 𝓜 𝓡 (
      Goes-dropped 𝓛 1 (RefOf (0 ∷ []) tt (plain (λ _. C)) (λ _. tt)) yes (λ κs x w. refl),
      (Goes-dropped 𝓛 1 (plain (λ _. P)) yes (λ κs x w. refl), tt),
    )
    f.Key.name fn (code.unfolded 𝓤 𝓛.H 𝓜 𝓡 wired)
    (λ κs. (shr_vals, ((λ p. place_val p ∷ []), tt))) (λ κs. (shr_Tells (named 0) κs.0 C, (place_laws.lowers.val_is, tt)))
    (λ κs qs bounds a reported are.
    let κ = κs.0 in let q = qs.0 in let cb = a.0.ref_ptr.0 in let co = a.0.ref_ptr.1 in let d = a.0.now in let this = a.1.0 in
    let i : ℕ = this.index in let x : Block = block_at d i in
    let vals : List Val × (List Val × Unit {0}) = (shr_vals a.0, (place_val this ∷ [], tt)) in let y : W.Ghost =
    ((κs, qs, bounds, a, vals), reported) in
    let Asks : Type 0 = IsPlaceOf d this × (i < length d.older) in let Blocks = λ (r : Ptr). chain_lent d.first d.older r d.newest κ in
    qed 𝓛 (((‵ (flft κ q) ⊛ ‵ ftrue) ⊛ ‵ (owns (ShrRef (named 0) κ C ∷ P ∷ []) a vals)) ∷ raw (fact 𝓤 Asks) ∷ []) ∵
    move ! (1 ∷ []) $ heard ! Asks (λ asked. split ! $ split ! $ move ! (2 ∷ []) $ fsplit ! $ fsplit ! $ drop ! $ keep ! (0 ∷ 2 ∷ []) $
    let p : Ptr = x.next in let more : i < length d.older = asked.1 in
    let leads : p ≡ place_after d.first (take (suc i) d.older) =
    ap (λ (z : Block). z.next) (get_or_append_left d.older (d.newest ∷ []) d.newest i more)
    ∙ next_place d.first d.older i d.newest more in
    -- the next block lies somewhere
    use1 𝓛 (‵ (hidden_shr C κ d cb co) ⊛ ‵ (fields_lent 𝓛 κ cb co d) ⊛ ‵ (fhide (Blocks d.last))) (lends 𝓛 κ cb co d) $ split3 ! $ move !
    (2 ∷ []) $ unhide ! $ rewrite ! 0 (λ (r : Ptr). ‵ (Blocks r)) d.leads refl $
    use1 𝓛 (‵ (lent_at B (place_after d.first (take (suc i) d.older)) (block_at d (suc i)) κ))
    (lent_nth 𝓛 κ d.first d.older d.newest (suc i) d.newest (omega arith)) $
    rewrite ! 0 (λ (r : Ptr). ‵ (lent_at B r (block_at d (suc i)) κ)) (sym leads) refl $
    fsplit ! $ use1 𝓛 (raw (fact 𝓤 (InBlock p))) (in_block_says 𝓛 p) $ heard ! (InBlock p) (λ inside. keep ! (1 ∷ 3 ∷ []) $
    -- and so does this one
    use1 𝓛 (‵ (hidden_shr C κ d cb co) ⊛ ‵ (fields_lent 𝓛 κ cb co d) ⊛ ‵ (fhide (Blocks d.last))) (lends 𝓛 κ cb co d) $ split3 ! $ move !
    (2 ∷ []) $ unhide ! $ rewrite ! 0 (λ (r : Ptr). ‵ (Blocks r)) d.leads refl $
    use1 𝓛 (‵ (lent_at B (place_after d.first (take i d.older)) x κ)) (lent_nth 𝓛 κ d.first d.older d.newest i d.newest asked.0.1) $
    rewrite ! 0 (λ (r : Ptr). ‵ (lent_at B r x κ)) (sym asked.0.0) refl $
    fsplit ! $ use1 𝓛 (raw (fact 𝓤 (InBlock this.at))) (in_block_says 𝓛 this.at) $ heard ! (InBlock this.at)
    (λ lies. hide ! $ keep ! (0 ∷ 3 ∷ []) $
    -- [a `&` to this block; the token]
    let b = block_of this.at in let o = count_of this.at in let place : Place =
    record { at = block_ptr (block_of p) (count_of p); index = i + 1 } in
    let many = d.few in let counted = d.counted in let small : place.index < 2 ^ 64 = omega arith in let here : i < 2 ^ 64 = omega arith in
    let onward : suc i ≡ i + 1 = omega arith in
    enter ! _ _ _ _ _ $ alloc_all ! (λ l. pass_all ! refl ((tt, tt), (place_typed 𝓛 this are.1.0, tt)) $
    take_at ! 2 $ rewrite ! 0
    (λ (r : Ptr). ‵ (fat full_share place_laws.mir (l 2) 0 (vstruct (vcons (ptr_val r) (vcons (vint w64 i) vnil)))))
    (at_block this.at lies) refl $ give_at ! 2 $
    first ! $ blocks ! $ pointer_in ! tt p inside b (o + 0) (shows_next 𝓛 κ b o d x) (λ q'.
    sets_last ! (of_opd ! (load ! (from ! (fld ! refl (hop ! (look_in_at ! 2 (sub ! 0 refl (whole !))) (fld ! refl (stop !)))))
    (look ! 1 refl))) refl (tt, tt) $
    exec ! 𝓣.C 𝓣.Λ (env fn.locals l) (after 1 fn.body) (at_ret _ (W.post y)) $ pointer_out ! tt p inside b (o + 0) $
    sets ! (of_opd ! (get ! refl)) refl (tt, tt) $ sets ! (of_opd ! (get_in ! (fld ! refl (stop !)) (sub ! 1 refl (whole !)))) refl
    (tt, record { fits = here }) $
    sets ! (bin ! (get ! refl) (lit ! tt) (record { fits = small })) refl (tt, record { fits = small }) $
    sets ! (agg ! (and_then ! (get ! refl) (and_then ! (get ! refl) (no_more !)))) refl (place_typed 𝓛 place (place_is place small)) $
    returns ! (look_at ! 0 refl) $ free_all ! refl $ keep ! (0 ∷ []) $
    suffices ! _ (ends_at 𝓛 f.ended stayed c y (place_val place) place (tt, (tt, tt)) (tt, (tt, tt))) $
    says ! ((sym (at_block p inside) ∙ leads ∙ ap (λ (k : ℕ). place_after d.first (take k d.older)) onward, omega arith), refl) $
    nothing ! $ move ! (1 ∷ 0 ∷ []) $ join ! $ frame ! $ nothing ! $ nothing ! $ fjoin ! $ nothing ! $ fjoin ! $ frame ! $ owns_place !
    place small $ done !))))))
