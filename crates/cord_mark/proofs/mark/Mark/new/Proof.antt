-- `new` makes the byte, for any parts. Assumes `Logic`.
use Rattle.std.proofs.Common.{◌≡◌, List, [], ◌∷◌, ◌++◌, refl, false}
use mir.Syntax.{Fn, a_type}
use mir.Val.{Val, vbool, vptr}
use mir.MapTy.{inst_fn}
use base.Logic.{SProp, emp}
use base.Fml.{ftrue}
use prog.Wp.{WpFn}
use contract.Monad.{fact, fact_i}
use contract.Running.{tables}
use types.Kit.{‵, raw, ◌⊛◌, prop, ◌$◌, ◌∵◌, !, qed, by, move, keep, use0, use1, split, regoal, fjoin, fpack, feq_i}
use types.Part.{agg}
use types.Run.{false_lit, no_more, and_then, returns, enter}
use types.ByLocal.{alloc_all, pass_all, free_all, look_at, sets}
use denote.RattleType.{owns}
use denote.Laws.{Typed}
use denote.Param.{layouts}
use denote.Signature.{types_at}
use denote.Steps.{nothing}
use denote.Triple.Entry.{alive}
use denote.Triple.Walked.{Stays, stay_dropped, walk_of, Goes-dropped}
use Rattle.core.proofs.cell.Inside.{wraps}
use Rattle.std.proofs.raw_atomic.Walks.{proved_at, leaves}
use Rattle.cord_mark.proofs.Marks.{Fields, flag, flag_val}
use Rattle.cord_mark.proofs.Token.{parameter}
use Rattle.cord_mark.specs.contracts.mark.Mark.new.{ended, clauses}
use Rattle.cord_mark.specs.contracts.mark.Mark.new.Key.{name as #self}
use Rattle.cord_mark.proofs.mark.Mark.new.Statement.{statement}
use Rattle.cord_mark.proofs.mark.Mark.new.Code as compiled

pub new_spec : {M : Type 1} → statement M
new_spec 𝓤 𝓛 𝓜 𝓡 wired X Y LX LY =
    let H = 𝓛.H in
    let T = ended X Y in
    let c = clauses X Y 𝓛 𝓜.mem 𝓡.returns in
    let args = layouts (a_type ∷ a_type ∷ []) (X, (Y, tt)) in
    let fn : Fn = inst_fn args compiled.function in
    let stays : Stays T.signature.params T.kept =
    (stay_dropped (parameter T.signature.params 0) T.kept.0, (stay_dropped (parameter T.signature.params 1) T.kept.1.0, tt)) in
    let C = (tables 𝓤 H 𝓜 𝓡 𝓡.env).C in
    let Λ = (tables 𝓤 H 𝓜 𝓡 𝓡.env).Λ in
    proved_at 𝓛 T stays c 𝓜 𝓡 (
      Goes-dropped 𝓛 4 (parameter T.signature.params 0) T.kept.0 (λ κs x f. refl),
      (Goes-dropped 𝓛 4 (parameter T.signature.params 1) T.kept.1.0 (λ κs x f. refl), tt),
    )
    (#self args) fn (compiled.unfolded 𝓤 H 𝓜 𝓡 wired (X, (Y, tt))) (λ z are.
    let Post : Val → SProp 𝓤 = (walk_of 𝓛 T stays c).post z in
    let a = z.0.3 in
    let v : Val = flag_val false in
    let us : List Val = vptr a.0.ref_ptr.0 a.0.ref_ptr.1 ∷ vptr a.1.0.ref_ptr.0 a.1.0.ref_ptr.1 ∷ [] in
    qed 𝓛 ((raw (alive 𝓛 T.signature z.0.0 z.0.1) ⊛ ‵ (owns (types_at T.signature.params z.0.0) z.0.3 z.0.4))
    ∷ raw ((c z.0.0 z.0.3).requires z.1) ∷ []) ∵ split ! $ keep ! (0 ∷ []) $
    regoal ! (λ (ws : List Val). prop (WpFn 𝓤 H C Λ fn ws Post)) (λ i. are.0.0 i ++ (are.1.0.0 i ++ [])) refl $
    enter ! C Λ fn us Post $
    alloc_all ! (λ l. pass_all ! refl ((tt, tt), ((tt, tt), tt)) $
    sets ! (agg ! (and_then ! (false_lit !) (no_more !))) refl (tt, (tt, tt)) $
    returns ! (look_at ! 0 refl) $ free_all ! refl $
    feq_i ! (List Val) (vbool false ∷ []) (vbool false ∷ []) refl $ use1 𝓛 (‵ (Fields.own_val (record { flag = false }) (v ∷ [])))
    (wraps flag 𝓛 [] [] false (vbool false)) $
    fpack ! Fields.Denot (λ i. Fields.own_val i (v ∷ [])) (record { flag = false }) $
    nothing ! $ fpack ! (Typed Fields.mir (v ∷ [])) (λ _. ftrue) ((tt, (tt, tt)), tt) $ fjoin ! $
    use0 𝓛 (raw (fact 𝓤 (z.1 ≡ z.1))) (fact_i 𝓤 (z.1 ≡ z.1) (emp 𝓤) refl) $ nothing ! $ nothing ! $ fjoin ! $ nothing ! $ fjoin ! $ move !
    (3 ∷ 0 ∷ 2 ∷ 1 ∷ []) $
    by ! (leaves 𝓛 T stays c z v z.1 (tt, (tt, tt)) (tt, (tt, tt)))))
