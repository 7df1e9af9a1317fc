-- `first` reads the pointer to the first block through the `&`.
use Rattle.std.proofs.Common.{◌+◌, ◌<◌, ◌^◌, [], ◌∷◌, refl, sym, arith}
use mir.Syntax.{named}
use mir.Val.{vptr}
use base.Fml.{ftrue, fhide, flft}
use types.Kit.{‵, ◌⊛◌, ◌$◌, ◌∵◌, !, qed, move, keep, use1, drop, split, split3, join, fsplit, fjoin, rewrite, raw, suffices, frame, done}
use types.Part.{agg}
use types.Run.{look, lit, load, stop, fld, of_opd, and_then, no_more, returns, enter}
use types.ByLocal.{alloc_all, pass_all, free_all, look_at, get, through, sets}
use contract.Monad.{fact}
use denote.Builtin.{RefOf}
use denote.Exit.{yes}
use denote.RattleType.{owns}
use denote.Memory.{hidden_shr}
use denote.Opens.{unhide}
use denote.RawPtr.{Ptr, InBlock, block_ptr, block_of, count_of, at_block}
use denote.Ref.{ShrRef, shr_vals, shr_Tells}
use denote.Signature.{plain}
use denote.Steps.{heard, nothing}
use denote.Struct.Lending.{lent_at, in_block_says}
use denote.Triple.Walked.{says, Stays, stay_dropped, walk_of, ends_at, Goes-dropped}
use Rattle.std_alloc.proofs.Words.{pointer_in, pointer_out}
use Rattle.std.proofs.raw_atomic.Walks.{proved}
use Rattle.cord_raw.specs.declared.chain.Place.{Place}
use Rattle.cord_raw.specs.inner.Ownership.{chain_lent}
use Rattle.cord_raw.specs.inner.Places.{block_at}
use Rattle.cord_raw.specs.contracts.block.Block.{the_row as B}
use Rattle.cord_raw.specs.contracts.chain.Chain.{the_row as C}
use Rattle.cord_raw.proofs.Links.{lent_nth}
use Rattle.cord_raw.proofs.Words.{place_val, place_is, place_typed, owns_place, fields_lent, lends, shows_first}
use Rattle.cord_raw.specs.contracts.chain.Chain.first as f
use Rattle.cord_raw.proofs.chain.Chain.first.Statement.{statement}
use Rattle.cord_raw.proofs.chain.Chain.first.Code as code

abbrev stayed : Stays f.ended.signature.params f.ended.kept
stayed = (stay_dropped (RefOf (0 ∷ []) tt (plain (λ _. C)) (λ _. tt)) yes, tt)

pub first_spec : {M : Type 1} → statement M
first_spec 𝓤 𝓛 𝓜 𝓡 wired =
    let c = f.clauses 𝓛 𝓜.mem 𝓡.returns in let W = walk_of 𝓛 f.ended stayed c in
    proved 𝓛 f.ended stayed c 𝓜 𝓡 (Goes-dropped 𝓛 1 (RefOf (0 ∷ []) tt (plain (λ _. C)) (λ _. tt)) yes (λ κs x w. refl), tt)
    f.Key.name code.function (code.unfolded 𝓤 𝓛.H 𝓜 𝓡 wired)
    (λ κs. (shr_vals, tt)) (λ κs. (shr_Tells (named 0) κs.0 C, tt)) (λ κs qs bounds a _ are.
    let κ = κs.0 in let q = qs.0 in let b = a.0.ref_ptr.0 in let o = a.0.ref_ptr.1 in let d = a.0.now in
    let y : W.Ghost = ((κs, qs, bounds, a, (vptr b o ∷ [], tt)), tt) in let p : Ptr = d.first in
    qed 𝓛 (((‵ (flft κ q) ⊛ ‵ ftrue) ⊛ ‵ (owns (ShrRef (named 0) κ C ∷ []) a (vptr b o ∷ [], tt))) ∷ raw ((c κs a).requires tt) ∷ []) ∵
    split ! $ split ! $ move ! (2 ∷ []) $ fsplit ! $ fsplit ! $ drop ! $ keep ! (0 ∷ 2 ∷ []) $
    use1 𝓛 (‵ (hidden_shr C κ d b o) ⊛ ‵ (fields_lent 𝓛 κ b o d) ⊛ ‵ (fhide (chain_lent d.first d.older d.last d.newest κ)))
    (lends 𝓛 κ b o d) $ split3 ! $
    move ! (2 ∷ []) $ unhide ! $ rewrite ! 0 (λ (r : Ptr). ‵ (chain_lent d.first d.older r d.newest κ)) d.leads refl $
    use1 𝓛 (‵ (lent_at B p (block_at d 0) κ)) (lent_nth 𝓛 κ d.first d.older d.newest 0 d.newest (omega arith)) $
    fsplit ! $ use1 𝓛 (raw (fact 𝓤 (InBlock p))) (in_block_says 𝓛 p) $ heard ! (InBlock p) (λ inside. keep ! (2 ∷ 3 ∷ []) $
    -- [a `&` to the chain's fields; the token]
    let place : Place = record { at = block_ptr (block_of p) (count_of p); index = 0 } in let small : place.index < 2 ^ 64 = omega arith in
    enter ! _ _ _ _ _ $ alloc_all ! (λ l. pass_all ! refl ((tt, tt), tt) $ pointer_in ! tt p inside b (o + 0) (shows_first 𝓛 κ b o d) (λ q'.
    sets ! (of_opd ! (load ! (through ! refl (fld ! refl (stop !))) (look ! 1 refl))) refl (tt, tt) $ pointer_out ! tt p inside b (o + 0) $
    sets ! (agg ! (and_then ! (get ! refl) (and_then ! (lit ! tt) (no_more !)))) refl (place_typed 𝓛 place (place_is place small)) $
    returns ! (look_at ! 0 refl) $ free_all ! refl $ keep ! (0 ∷ []) $
    suffices ! _ (ends_at 𝓛 f.ended stayed c y (place_val place) place (tt, tt) (tt, tt)) $ says !
    ((sym (at_block p inside), omega arith), refl) $
    nothing ! $ move ! (1 ∷ 0 ∷ []) $ join ! $ frame ! $ nothing ! $ nothing ! $ fjoin ! $ frame ! $ owns_place ! place small $ done !))))
