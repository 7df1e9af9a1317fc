-- `new` makes a trace of nothing.
use Rattle.std.proofs.Common.{[], ◌∷◌, refl}
use types.Kit.{raw, ◌$◌, ◌∵◌, !, qed, done, drop, suffices}
use types.Run.{no_more, returns, enter}
use types.ByLocal.{alloc_all, pass_all, free_all, look_at, sets}
use types.Part.{agg}
use denote.Steps.{nothing}
use denote.Triple.Entry.{on_entry}
use denote.Triple.Walked.{Stays, walk_of, ends_at, says}
use Rattle.std.proofs.raw_atomic.Walks.{proved}
use Rattle.cord_io.specs.declared.trace.Trace.{Trace}
use Rattle.cord_io.proofs.Walks.{bare_val, makes_bare}
use Rattle.cord_io.specs.contracts.trace.Trace.new as f
use Rattle.cord_io.proofs.trace.Trace.new.Statement.{statement}
use Rattle.cord_io.proofs.trace.Trace.new.Code as code

abbrev stayed : Stays f.ended.signature.params f.ended.kept
stayed = tt

pub new_spec : {M : Type 1} → statement M
new_spec 𝓤 𝓛 𝓜 𝓡 wired =
    let c = f.clauses 𝓛 𝓜.mem 𝓡.returns in let W = walk_of 𝓛 f.ended stayed c in
    proved 𝓛 f.ended stayed c 𝓜 𝓡 tt f.Key.name code.function (code.unfolded 𝓤 𝓛.H 𝓜 𝓡 wired) (λ κs. tt) (λ κs. tt) (λ κs qs bounds a n are.
    let y : W.Ghost = ((κs, qs, bounds, a, tt), n) in
    let made : Trace = record { reported = [] } in
    qed 𝓛 (raw (on_entry 𝓛 f.signature κs qs a y.0.4) ∷ raw ((c κs a).requires n) ∷ []) ∵ drop ! $ drop ! $
    enter ! _ _ _ _ _ $ alloc_all ! (λ l. pass_all ! refl tt $
    sets ! (agg ! (no_more !)) refl (tt, tt) $ makes_bare ! $
    returns ! (look_at ! 0 refl) $ free_all ! refl $
    suffices ! _ (ends_at 𝓛 f.ended stayed c y bare_val made tt tt) $ says ! refl $
    nothing ! $ nothing ! $ done !))
