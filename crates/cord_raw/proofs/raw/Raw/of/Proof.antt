-- `of` takes pointer and allocator out of a box, by `Box::into_raw_with_allocator`, and keeps them.
use Rattle.std.proofs.Common.{◌≡◌, List, [], ◌∷◌, ◌++◌, refl, sym, ap, subst}
use mir.Syntax.{a_type, dcons, dnil}
use mir.Raw.{raw as bare}
use mir.Val.{Val}
use mir.MapTy.{inst_fn}
use base.Logic.{SProp, ent, emp, never, id⊢, fst∗}
use base.Fml.{ftrue, fsep, flft}
use prog.Wp.{WpFn}
use types.Logic.{sem}
use types.Kit.{‵, raw, ◌⊛◌, some, later, ◌$◌, ◌∵◌, !, qed, by, move, keep, drop, split, split3, join, fsplit, fjoin, fpick, pick, suffices}
use types.Kit.{use0, use1, await, rewrite, feq_l}
use types.Run.{stop, fld, of_opd, no_more, and_then, returns, enter}
use types.ByLocal.{alloc_all, pass_all, free_all, look_at, get, get_in, sets, lands_as}
use types.Part.{agg, sub, whole}
use contract.Monad.{fact, fact_i}
use contract.Running.{tables}
use denote.Builtin.{RawPtr}
use denote.Exit.{no}
use denote.Param.{bounded, layout}
use denote.RattleType.{owns}
use denote.RawPtr.{Ptr, block_ptr, null_ptr, in_a_block}
use denote.Signature.{types_at, plain}
use denote.Steps.{nothing, only, heard}
use denote.Struct.Tuple.{Tuple}
use denote.Triple.Call.{calls_at}
use denote.Triple.Spec.{triple_of}
use denote.Triple.Table.{framed}
use denote.Triple.Walked.{Stays, stay_dropped, walk_of}
use Rattle.core.proofs.alloc.Calls.{Goes-blank, handle_tells}
use Rattle.std.specs.Box.Ownership.{box_owns}
use Rattle.std_alloc.proofs.BoxSteps.Form as box
use Rattle.std_alloc.proofs.BoxSteps.Steps.{box_out, box_in}
use Rattle.std_alloc.specs.contracts.boxed.Box.into_raw_with_allocator as taken
use Rattle.std_alloc.proofs.boxed.Box.into_raw_with_allocator.Met.{met}
use Rattle.std.proofs.raw_atomic.Walks.{proved_at, leaves}
use Rattle.cord_raw.proofs.Owner as owner
use Rattle.cord_raw.specs.contracts.raw.Raw.of as f
use Rattle.cord_raw.proofs.raw.Raw.of.Statement.{statement}
use Rattle.cord_raw.proofs.raw.Raw.of.Code as code

pub of_spec : {M : Type 1} → statement M
of_spec 𝓤 𝓛 𝓜 𝓡 wired T A L K g d dx dd allocates drops_value drops_allocator =
    let 𝓣 = tables 𝓤 𝓛.H 𝓜 𝓡 𝓡.env in let R = owner.R T A L K g in let Z = owner.Z T A L K g in
    let E = f.ended T A g d dx dd in let c = f.clauses T A g d dx dd 𝓛 𝓜.mem 𝓡.returns in
    let form : box.Bx = record { row = T; laws = L; al = record { row = A; laws = K; g = g; d = d; drops = dd } } in let B = box.B form in
    let at = bounded (a_type ∷ a_type ∷ []) (T, (A, tt)) (dcons d (dcons dx (dcons dd dnil))) in let fn = inst_fn at code.function in
    let stays : Stays E.signature.params E.kept = (stay_dropped (plain (λ _. B)) no, tt) in
    proved_at 𝓛 E stays c 𝓜 𝓡 (Goes-blank 𝓛 2 (plain (λ _. B)) no (λ κs x w. tt), tt) (f.Key.name at) fn
    (code.unfolded 𝓤 𝓛.H 𝓜 𝓡 wired (T, (A, tt)) d dx dd) (λ y are.
    let κs = y.0.0 in let qs = y.0.1 in let x = y.0.3.0 in let Post = (walk_of 𝓛 E stays c).post y in let Runs : List Val → SProp 𝓤 =
    λ ws. WpFn 𝓤 𝓛.H 𝓣.C 𝓣.Λ fn ws Post in
    let tokens = ‵ (flft κs.0 qs.0) ⊛ ‵ (flft κs.1.0 qs.1.0) ⊛ ‵ ftrue in
    qed 𝓛 ((tokens ⊛ ‵ (owns (types_at E.signature.params κs) y.0.3 y.0.4)) ∷ raw ((c κs y.0.3).requires y.1) ∷ []) ∵
    split ! $ move ! (1 ∷ []) $ fsplit ! $ box_out form ! x y.0.4.0 (λ b o h e spelled fits. box_in form ! x b o x.value e refl $
    -- [the box; nothing; the tokens; the lifetimes]
    let G = triple_of 𝓛 (taken.signature T A g d dd dx) (taken.spec T A g d dd dx 𝓛 𝓜.mem 𝓡.returns) in
    let w = box.word form h b o in let z : G.Ghost = ((κs, qs, tt, (x, tt), (w ∷ [], tt)), tt) in
    let boxed = box.box_typed form h b o fits in
    fjoin ! $ move ! (1 ∷ 0 ∷ []) $ join ! $ join ! $ use1 𝓛 (raw (G.pre z)) (id⊢ 𝓤 _) $
    suffices ! (Runs (w ∷ [])) (subst (λ (us : List Val). ent 𝓤 (Runs (w ∷ [])) (Runs us)) (sym (ap (λ (us : List Val). us ++ []) spelled))
    (id⊢ 𝓤 (Runs (w ∷ [])))) $
    enter ! 𝓣.C 𝓣.Λ fn (w ∷ []) Post $ alloc_all ! (λ l. pass_all ! refl (boxed, tt) $ sets ! (of_opd ! (get ! refl)) refl boxed $
    calls_at ! (framed 𝓤 𝓛.H 𝓜 𝓣) G (met 𝓤 𝓛 𝓜 𝓡 (code.calls-std_alloc::boxed::Box::into_raw_with_allocator 𝓡.env wired) T A L K g d dd dx
    allocates drops_allocator drops_value) z (and_then ! (get ! refl) (no_more !)) (λ u.
    let Pair = Tuple (RawPtr ∷ Z ∷ []) in
    use1 𝓛 (later (some (λ (p : Ptr × A.Denot). (tokens ⊛ ‵ (Pair.own_val p (u ∷ []))) ⊛ some
    (λ (_ : (Unit {0} × (Unit {0} × Unit {0})) × Unit {0}).
    ‵ (fsep (fsep ftrue (fsep ftrue ftrue)) ftrue) ⊛ raw (fact 𝓤 (p.1 ≡ x.alloc)) ⊛ ‵
    (box_owns (g.dealloc_token x.alloc) R p.0 x.value))))) (id⊢ 𝓤 (G.post z u)) $
    await ! tt $ pick ! (λ p. split ! $ move ! (1 ∷ []) $ pick ! (λ _. split3 ! $ drop ! $ heard ! (p.1 ≡ x.alloc) (λ same.
    in_a_block ! p.0 (λ at'. box_owns (g.dealloc_token x.alloc) R at' x.value)
    (fst∗ 𝓤 (never 𝓤) (sem 𝓛 (g.dealloc_token x.alloc (bare (layout T)) null_ptr))) (λ b' o' e'.
    -- [the value and the right to free it; the tokens and the pair]
    move ! (1 ∷ []) $ split ! $ move ! (1 ∷ []) $ fpick ! (λ vss. fsplit ! $ feq_l ! (λ spelling. fsplit ! $ feq_l ! (λ first. fsplit ! $
    rewrite ! 0 (λ (a : A.Denot). ‵ (A.own_val a vss.1.0)) same refl $ handle_tells form.al ! x.alloc vss.1.0 (λ h' second fits'.
    -- [the allocator; nothing; the tokens; the value and the right to free it]
    let pair = owner.spells (u ∷ []) vss.0 vss.1.0 p.0 b' o' h' spelling first e' second in
    let made = owner.words_typed T A L K g b' o' h' fits' in
    lands_as ! (ap only pair) refl made $
    sets ! (of_opd ! (get_in ! (fld ! refl (stop !)) (sub ! 0 refl (whole !)))) refl (tt, tt) $
    sets ! (of_opd ! (get_in ! (fld ! refl (stop !)) (sub ! 1 refl (whole !)))) refl fits' $
    sets ! (of_opd ! (get ! refl)) refl fits' $ sets ! (agg ! (and_then ! (get ! refl) (and_then ! (get ! refl) (no_more !)))) refl made $
    move ! (3 ∷ 0 ∷ []) $ owner.packs T A L K g ! b' o' h' x.alloc x.value $
    use0 𝓛 (raw (fact 𝓤 (x.value ≡ x.value))) (fact_i 𝓤 (x.value ≡ x.value) (emp 𝓤) refl) $ nothing ! $ nothing ! $ fjoin ! $
    returns ! (look_at ! 0 refl) $ free_all ! refl $ keep ! (4 ∷ 0 ∷ 2 ∷ 1 ∷ []) $
    by ! (leaves 𝓛 E stays c y (owner.words b' o' h') (record { at = block_ptr b' o'; alloc = x.alloc; value = x.value })
    ((tt, (tt, tt)), tt) (tt, tt))))))))))))))
