-- `count` reads a number through the `&`.
use Rattle.std.proofs.Common.{◌+◌, ◌^◌, List, [], ◌∷◌, refl, w64}
use mir.Syntax.{named}
use mir.Val.{Val, vptr, vint}
use base.Fml.{ftrue, fhide, flft}
use types.Kit.{‵, ◌⊛◌, ◌$◌, ◌∵◌, !, qed, move, keep, use1, drop, split, split3, join, fsplit, fjoin, feq_i, flt_i, raw, suffices, frame}
use types.Kit.{done}
use types.Run.{look, load, stop, fld, of_opd, returns, enter}
use types.ByLocal.{alloc_all, pass_all, free_all, look_at, through, sets}
use denote.Exit.{yes}
use denote.RattleType.{owns}
use denote.Memory.{hidden_shr}
use denote.Ref.{ShrRef, shr_vals, shr_Tells}
use denote.Signature.{plain}
use denote.Steps.{nothing}
use denote.Triple.Walked.{says, Stays, stay_none_ref, walk_of, ends_at, Goes-none_ref}
use Rattle.std_alloc.proofs.Words.{word_in, word_out}
use Rattle.std.proofs.raw_atomic.Walks.{proved}
use Rattle.cord_raw.specs.inner.Ownership.{chain_lent}
use Rattle.cord_raw.specs.contracts.chain.Chain.{the_row as C}
use Rattle.cord_raw.proofs.Words.{few_fit, fields_lent, lends, shows_count}
use Rattle.cord_raw.specs.contracts.chain.Chain.count as f
use Rattle.cord_raw.proofs.chain.Chain.count.Statement.{statement}
use Rattle.cord_raw.proofs.chain.Chain.count.Code as code

abbrev stayed : Stays f.ended.signature.params f.ended.kept
stayed = (stay_none_ref (0 ∷ []) tt (plain (λ _. C)) yes, tt)

pub count_spec : {M : Type 1} → statement M
count_spec 𝓤 𝓛 𝓜 𝓡 wired =
    let c = f.clauses 𝓛 𝓜.mem 𝓡.returns in let W = walk_of 𝓛 f.ended stayed c in
    proved 𝓛 f.ended stayed c 𝓜 𝓡 (Goes-none_ref 𝓛 1 (0 ∷ []) tt (plain (λ _. C)) yes, tt)
    f.Key.name code.function (code.unfolded 𝓤 𝓛.H 𝓜 𝓡 wired)
    (λ κs. (shr_vals, tt)) (λ κs. (shr_Tells (named 0) κs.0 C, tt)) (λ κs qs bounds a _ are.
    let κ = κs.0 in let q = qs.0 in let b = a.0.ref_ptr.0 in let o = a.0.ref_ptr.1 in let d = a.0.now in
    let y : W.Ghost = ((κs, qs, bounds, a, (vptr b o ∷ [], tt)), tt) in
    qed 𝓛 (((‵ (flft κ q) ⊛ ‵ ftrue) ⊛ ‵ (owns (ShrRef (named 0) κ C ∷ []) a (vptr b o ∷ [], tt))) ∷ raw ((c κs a).requires tt) ∷ []) ∵
    split ! $ move ! (1 ∷ []) $ fsplit ! $ fsplit ! $ drop ! $ move ! (2 ∷ []) $ split ! $ move ! (2 ∷ []) $
    use1 𝓛 (‵ (hidden_shr C κ d b o) ⊛ ‵ (fields_lent 𝓛 κ b o d) ⊛ ‵ (fhide (chain_lent d.first d.older d.last d.newest κ)))
    (lends 𝓛 κ b o d) $ split3 ! $
    -- [a `&` to the chain; one to its fields; its blocks, lent; the token; ..]
    enter ! _ _ _ _ _ $ alloc_all ! (λ l. pass_all ! refl ((tt, tt), tt) $ move ! (1 ∷ 3 ∷ []) $
    word_in ! tt d.count b (o + 16) (shows_count 𝓛 κ b o d) (λ q' fits.
    sets ! (of_opd ! (load ! (through ! refl (fld ! refl (stop !))) (look ! 1 refl))) refl (tt, record { fits = few_fit d }) $
    word_out ! tt d.count b (o + 16) (few_fit d) $ returns ! (look_at ! 0 refl) $ free_all ! refl $
    -- [the token; its fields; a `&` to the chain; its blocks; the other tokens; ..]
    keep ! (0 ∷ 4 ∷ 2 ∷ []) $
    suffices ! _ (ends_at 𝓛 f.ended stayed c y (vint w64 d.count) d.count (tt, tt) (tt, tt)) $ says ! d.counted $
    join ! $ frame ! $ feq_i ! (List Val) (vptr b o ∷ []) (vptr b o ∷ []) refl $ fjoin ! $ nothing ! $ move !
    (1 ∷ 0 ∷ []) $ fjoin ! $ frame ! $
    flt_i ! d.count (2 ^ 64) (few_fit d) $ feq_i ! (List Val) (vint w64 d.count ∷ []) (vint w64 d.count ∷ []) refl $ fjoin ! $ done !)))
