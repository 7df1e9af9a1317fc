-- `then` makes a trace of nothing: it reads neither argument.
use Rattle.std.proofs.Common.{[], ◌∷◌, refl}
use mir.Syntax.{named}
use types.Kit.{‵, raw, ◌⊛◌, ◌$◌, ◌∵◌, !, qed, done, keep, move, split, join, suffices}
use types.Run.{no_more, returns, enter}
use types.ByLocal.{alloc_all, pass_all, free_all, look_at, sets}
use types.Part.{agg}
use denote.Builtin.{RefOf}
use denote.Exit.{yes}
use denote.RattleType.{owns}
use denote.Ref.{shr_vals, shr_Tells}
use denote.Signature.{plain, types_at, named_lft}
use denote.Steps.{nothing}
use denote.Triple.Entry.{alive}
use denote.Triple.Walked.{Stays, stay_dropped, Goes-dropped, walk_of, ends_at, says}
use Rattle.std.proofs.raw_atomic.Walks.{proved}
use Rattle.cord_io.specs.inner.Answers.{reported_by}
use Rattle.cord_io.specs.declared.trace.Trace.{Trace}
use Rattle.cord_io.specs.contracts.trace.Trace.{the_row as Row}
use Rattle.cord_io.specs.contracts.trace.Answer as arg
use Rattle.cord_io.proofs.Walks.{bare_val, makes_bare}
use Rattle.cord_io.specs.contracts.trace.Trace.then as f
use Rattle.cord_io.proofs.trace.Trace.then.Statement.{statement}
use Rattle.cord_io.proofs.trace.Trace.then.Code as code

abbrev stayed : Stays f.ended.signature.params f.ended.kept
stayed = (stay_dropped _ yes, (stay_dropped _ yes, tt))

pub then_spec : {M : Type 1} → statement M
then_spec 𝓤 𝓛 𝓜 𝓡 wired =
    let c = f.clauses 𝓛 𝓜.mem 𝓡.returns in let W = walk_of 𝓛 f.ended stayed c in
    let self_goes = Goes-dropped 𝓛 3 (RefOf (0 ∷ []) tt (plain (λ _. Row)) (λ _. tt)) yes (λ κs x w. refl) in
    let reported_goes = Goes-dropped 𝓛 3 (RefOf (1 ∷ []) tt (plain (λ κs. arg.the_row (named_lft 3 2 tt κs))) (λ _. tt)) yes
    (λ κs x w. refl) in
    proved 𝓛 f.ended stayed c 𝓜 𝓡 (self_goes, (reported_goes, tt)) f.Key.name code.function (code.unfolded 𝓤 𝓛.H 𝓜 𝓡 wired)
    (λ κs. (shr_vals, (shr_vals, tt)))
    (λ κs. (shr_Tells (named 0) κs.0 Row, (shr_Tells (named 1) κs.1.0 (arg.the_row (named_lft 3 2 tt κs)), tt))) (λ κs qs bounds a n are.
    let y : W.Ghost = ((κs, qs, bounds, a, (shr_vals a.0, (shr_vals a.1.0, tt))), n) in
    let made : Trace = record { reported = reported_by a.1.0.now ∷ a.0.now.reported } in
    qed 𝓛 ((raw (alive 𝓛 f.signature κs qs) ⊛ ‵ (owns (types_at f.signature.params κs) a y.0.4)) ∷ raw ((c κs a).requires n) ∷ []) ∵
    -- [the tokens]
    split ! $ keep ! (0 ∷ []) $
    enter ! _ _ _ _ _ $ alloc_all ! (λ l. pass_all ! refl ((tt, tt), ((tt, tt), tt)) $
    sets ! (agg ! (no_more !)) refl (tt, tt) $ makes_bare ! $
    returns ! (look_at ! 0 refl) $ free_all ! refl $
    suffices ! _ (ends_at 𝓛 f.ended stayed c y bare_val made (tt, (tt, tt)) (tt, (tt, tt))) $ says ! refl $
    nothing ! $ nothing ! $ join ! $ nothing ! $ join ! $ move ! (2 ∷ 0 ∷ 1 ∷ []) $ done !))
