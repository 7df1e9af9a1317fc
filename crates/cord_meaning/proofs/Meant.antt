-- A run ends by itself only as Done or by a fault.
use Rattle.std.specs.Prelude.{◌∷◌, if◌then◌else◌}
use Rattle.cord_meaning.proofs.Common.{ℕ, zero, suc, Bool, true, false, List, [], Option, Some, None, Result, Ok, Err, nat_lt, ℤ, pos}
use Rattle.cord_meaning.proofs.Common.{negsuc, slice_get, unwrap_or, End, Done, FaultKind, TooManyTurns, Shape, Straight, Loop, Branch}
use Rattle.cord_meaning.proofs.Common.{Otherwise, Close, Rules, Block, Turns, Config, notes, faults, acted, turned, begins, repeats}
use Rattle.cord_meaning.proofs.Common.{chooses, closes, if_running, jump_from, runs_shape, runs, step, after, enough, run_end, IsMeant}
use Rattle.cord_meaning.specs.Machine.{whole}

-- it goes on, or has ended as Done or by a fault
abbrev pub MeantSoFar : Option End → Type 0
MeantSoFar None = Unit {0}
MeantSoFar (Some e) = IsMeant e

module _ {S : Type 0} where
  begins_meant : (most : ℕ) (c : Config S) → MeantSoFar c.ended → (place line left : ℕ) (blocks : List Block) →
      MeantSoFar (begins most c place line left blocks).ended
  begins_meant most c h place line left blocks = elim (nat_lt c.turns most) as
      (λ v. MeantSoFar (if v then turned c place line left blocks else faults c line TooManyTurns).ended) [ true ↦ h | false ↦ tt ]

  acted_meant : (c : Config S) → MeantSoFar c.ended → (line : ℕ) (r : Result (S × List ℕ) FaultKind) → MeantSoFar (acted c line r).ended
  acted_meant c h line (Ok r) = h
  acted_meant c h line (Err k) = tt

  repeats_meant : (most : ℕ) (c : Config S) → MeantSoFar c.ended → (line beyond : ℕ) (n : ℤ) →
      MeantSoFar (repeats most c line beyond n).ended
  repeats_meant most c h line beyond (negsuc n) = tt
  repeats_meant most c h line beyond (pos zero) = h
  repeats_meant most c h line beyond (pos (suc n)) = begins_meant most (notes c line []) h c.place line n c.blocks

  chooses_meant : (c : Config S) → MeantSoFar c.ended → (line other : ℕ) (holds : Bool) → MeantSoFar (chooses c line other holds).ended
  chooses_meant c h line other true = h
  chooses_meant c h line other false = h

  closes_meant : (most : ℕ) (c : Config S) → MeantSoFar c.ended → (blocks : List Block) → MeantSoFar (closes most c blocks).ended
  closes_meant most c h (Turns place line (suc n) ∷ blocks) = begins_meant most c h place line n blocks
  closes_meant most c h _ = h

module _ {L S : Type 0} (rules : Rules L S) (most : ℕ) (statements : List L) where
  shape_meant : (c : Config S) → MeantSoFar c.ended → (l : L) (shape : Shape) →
      MeantSoFar (runs_shape rules most statements c l shape).ended
  shape_meant c h l Straight = acted_meant c h (rules.line l) (rules.act c.place l c.state)
  shape_meant c h l Loop = repeats_meant most c h (rules.line l) (jump_from rules most statements c.place) (rules.count l c.state)
  shape_meant c h l Branch = chooses_meant c h (rules.line l) (jump_from rules most statements c.place) (rules.holds l c.state)
  shape_meant c h l Otherwise = h
  shape_meant c h l Close = closes_meant most c h c.blocks

  runs_meant : (c : Config S) → MeantSoFar c.ended → (o : Option L) → MeantSoFar (runs rules most statements c o).ended
  runs_meant c h None = tt
  runs_meant c h (Some l) = shape_meant c h l (rules.shape l)

  step_meant : (c : Config S) → MeantSoFar c.ended → MeantSoFar (step rules most statements c).ended
  step_meant c h = by_end c.ended
    where
      by_end : (o : Option End) → MeantSoFar (if_running o c (runs rules most statements c (slice_get statements c.place))).ended
      by_end None = runs_meant c h (slice_get statements c.place)
      by_end (Some e) = h

  pub meant_after : (a : S) (k : ℕ) → MeantSoFar (after rules most statements k a).ended
  meant_after a zero = tt
  meant_after a (suc k) = step_meant (after rules most statements k a) (meant_after a k)

  -- the end of a run is Done or a fault
  pub end_meant : (a : S) → IsMeant (run_end rules most statements a)
  unfolding whole
  end_meant a = by_end (after rules most statements (enough most statements) a).ended (meant_after a (enough most statements))
    where
      by_end : (o : Option End) → MeantSoFar o → IsMeant (unwrap_or o Done)
      by_end None h = tt
      by_end (Some e) h = h
