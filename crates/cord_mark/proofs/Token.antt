-- A function's contract, from a walk of its body with the thread's token in hand. Assumes `Logic`.
use Rattle.std.proofs.Common.{ℕ, zero, suc, List, [], ◌∷◌, subst}
use seplogic.Ra.Ura.{Ura}
use mir.Syntax.{Fn, Callee}
use base.Logic.{SProp, ent, via, fst∗, snd∗}
use base.Mask.{every}
use prog.Wp.{Calls, Loops, WpFn, Tables}
use prog.Model.{Model}
use prog.Routine.{over, ◌≼⁺◌}
use types.Logic.{Logic, sem}
use contract.Monad.{fact_use}
use contract.Running.{Running, tables_of, bare_tables}
use contract.Beside.{Carries}
use contract.Named.{bare_unfolds}
use sound.WpLaws.{WpFn-mono}
use denote.RattleType.{owns}
use denote.Laws.{Ises, Are, owns_show, showss}
use denote.Builtin.{unit}
use denote.Signature.{Signature, Slot, plain, types_at}
use denote.Triple.Clauses.{Ended, Clauses, closing}
use denote.Triple.Entry.{on_entry, alive}
use denote.Triple.Spec.{Meets, triple_of}
use denote.Triple.Table.{entered}
use denote.Triple.Handed.{holding, hands}
use denote.Triple.Walked.{Stays, AllGo, walk_of, walk_Meets}

-- the slot of a parameter, counted from 0
abbrev pub parameter : {n : ℕ} → List (Slot n) → ℕ → Slot n
parameter [] k = plain (λ _. unit)
parameter (s ∷ ss) zero = s
parameter (s ∷ ss) (suc k) = parameter ss k

module _ {M : Type 1} {𝓤 : Ura M} (𝓛 : Logic 𝓤) (T : Ended) (stays : Stays T.signature.params T.kept) (c : Clauses 𝓤 T) where
  open 𝓛 use {H, A}

  abbrev S : Signature
  S = T.signature

  -- the clauses, with the token before and after
  abbrev pub held : Clauses 𝓤 T
  held = holding 𝓤 T (A.tok every) c

  abbrev pub Ghost : Type 0
  Ghost = (walk_of 𝓛 T stays held).Ghost

  abbrev pub Related : Ghost → Type 0
  Related y = Are (types_at S.params y.0.0) (Ises (types_at S.params y.0.0)) y.0.3 y.0.4

  -- what a walk shows, in any tables
  abbrev pub Runs : Fn → Calls 𝓤 H → Loops 𝓤 H → Ghost → Type 1
  Runs e C Λ y = ent 𝓤 ((walk_of 𝓛 T stays held).pre y) (WpFn 𝓤 H C Λ e ((walk_of 𝓛 T stays held).args y) ((walk_of 𝓛 T stays held).post y))

  -- what is had at the start tells how the machine values relate to what they stand for
  related : (e : Fn) (C : Calls 𝓤 H) (Λ : Loops 𝓤 H) (y : Ghost) → (Related y → Runs e C Λ y) → Runs e C Λ y
  related e C Λ y walk = let Rs = types_at S.params y.0.0 in let start : SProp 𝓤 = on_entry 𝓛 S y.0.0 y.0.1 y.0.3 y.0.4 in
      fact_use 𝓤 (Related y) (via 𝓤 (sem 𝓛 (owns Rs y.0.3 y.0.4)) (via 𝓤 start (fst∗ 𝓤 start ((held y.0.0 y.0.3).requires y.1))
      (snd∗ 𝓤 (alive 𝓛 S y.0.0 y.0.1) (sem 𝓛 (owns Rs y.0.3 y.0.4)))) (owns_show 𝓛 Rs (Ises Rs) (showss 𝓛 Rs) y.0.3 y.0.4)) walk

  pub met_with_token : (𝓜 : Model 𝓤 H) (𝓡 : Running 𝓤 H 𝓜) → AllGo 𝓛 S.lifetimes S.params T.kept stays → (k : Callee) (e : Fn) →
      over 𝓡.env e ≼⁺ 𝓡.env k
      → ((C : Calls 𝓤 H) (Λ : Loops 𝓤 H) (y : Ghost) → Related y → Runs e C Λ y) → Meets 𝓛 S (𝓡.run (𝓡.env k)) (closing 𝓛 T c)
  unfolding tables_of
  met_with_token 𝓜 𝓡 go k e is walk =
      let beside : Carries 𝓤 H 𝓜 (A.tok every) = subst (Carries 𝓤 H 𝓜) 𝓛.turn_is 𝓡.carries in
      let tables : Tables 𝓤 H = tables_of 𝓤 H beside.inner (bare_tables 𝓤 H beside.inner 𝓡.allowed 𝓡.how 𝓡.env) in
      let unfolds = bare_unfolds 𝓤 H beside.inner 𝓡.allowed 𝓡.how 𝓡.env k e is in
      let meets = walk_Meets 𝓛 T stays go held (WpFn 𝓤 H tables.C tables.Λ e) (WpFn-mono 𝓤 H 𝓛.laws tables e)
      (λ y. related e tables.C tables.Λ y (walk tables.C tables.Λ y)) in
      hands 𝓛 T (A.tok every) c 𝓜 beside 𝓡 (𝓡.env k) (entered 𝓤 H (triple_of 𝓛 S (closing 𝓛 T held)) tables.C tables.Λ k e unfolds meets)
