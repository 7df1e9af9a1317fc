-- The unrolled run, by the blocks of a script: a loop is its body as many times as its `repeat` read, an `if` is one of its branches.
use Rattle.std.specs.Prelude.{◌≡◌, ℕ, zero, suc, ◌+◌, ℤ, pos, negsuc, Bool, true, false, List, [], ◌∷◌, ◌++◌, Option, Some, None, Result}
use Rattle.std.specs.Prelude.{Ok, Err, nat_lt, if◌then◌else◌}
use Rattle.cord_meaning.specs.declared.ends.End.{End}
use Rattle.cord_meaning.specs.declared.ends.End.TheVariants.{Fault}
use Rattle.cord_meaning.specs.declared.ends.FaultKind.{FaultKind}
use Rattle.cord_meaning.specs.declared.ends.FaultKind.TheVariants.{Negative, TooManyTurns}
use Rattle.cord_meaning.specs.Blocks.{Shape, Straight, Loop, Branch, Otherwise, Close}
use Rattle.cord_meaning.specs.Machine.{Rules, Event}

-- statements by their blocks, in order; of a block its first and last statement, and its `else`, are kept
pub data Parts (L : Type 0) : Type 0 where
  Nothing : Parts L
  Then : (statement : L) (rest : Parts L) → Parts L
  Repeats : (opening closing : L) (body rest : Parts L) → Parts L
  Chooses : (opening closing : L) (branch rest : Parts L) → Parts L
  ChoosesElse : (opening middle closing : L) (branch other rest : Parts L) → Parts L

-- the statements, one after the other
abbrev pub flat : {L : Type 0} → Parts L → List L
flat Nothing = []
flat (Then l rest) = l ∷ flat rest
flat (Repeats l e body rest) = l ∷ (flat body ++ (e ∷ flat rest))
flat (Chooses l e branch rest) = l ∷ (flat branch ++ (e ∷ flat rest))
flat (ChoosesElse l m e branch other rest) = l ∷ (flat branch ++ (m ∷ (flat other ++ (e ∷ flat rest))))

-- each statement is of the kind that its place asks for
abbrev pub IsWell : {L : Type 0} → (L → Shape) → Parts L → Type 0
IsWell shape Nothing = Unit {0}
IsWell shape (Then l rest) = (shape l ≡ Straight) × IsWell shape rest
IsWell shape (Repeats l e body rest) = (shape l ≡ Loop) × (shape e ≡ Close) × IsWell shape body × IsWell shape rest
IsWell shape (Chooses l e branch rest) = (shape l ≡ Branch) × (shape e ≡ Close) × IsWell shape branch × IsWell shape rest
IsWell shape (ChoosesElse l m e branch other rest) = (shape l ≡ Branch) × (shape m ≡ Otherwise) × (shape e ≡ Close) × IsWell shape branch ×
    IsWell shape other × IsWell shape rest

-- what was run, how it ended if it did, and the turns and the state then
pub record Unrolled (S : Type 0) : Type 0 where
  pub members : List (Event S)
  pub ended : Option End
  pub turns : ℕ
  pub state : S

module _ {S : Type 0} where
  -- one after the other: what follows an end isn't run
  abbrev pub joined : List (Event S) → Option End → ℕ → S → (ℕ → S → Unrolled S) → Unrolled S
  joined members None turns state next = record (next turns state) { members = members ++ (next turns state).members }
  joined members (Some e) turns state next = record { members = members; ended = Some e; turns = turns; state = state }

  abbrev pub then_on : Unrolled S → (ℕ → S → Unrolled S) → Unrolled S
  then_on u next = joined u.members u.ended u.turns u.state next

  -- one event that puts this, and how it ends
  abbrev pub member : ℕ → ℕ → S → List ℕ → Option End → S → Unrolled S
  member line turns before puts ended state = record {
    members = record { line = line; turns = turns; state = before; puts = puts } ∷ [];
    ended = ended;
    turns = turns;
    state = state;
  }

  -- a straight-line statement
  abbrev pub acted_once : ℕ → ℕ → S → Result (S × List ℕ) FaultKind → Unrolled S
  acted_once line turns state (Ok next) = member line turns state next.1 None next.0
  acted_once line turns state (Err kind) = member line turns state [] (Some (Fault line kind)) state

  -- the beginning of a turn, which is one event, and then its body
  abbrev pub turn : ℕ → ℕ → (ℕ → S → Unrolled S) → ℕ → S → Unrolled S
  turn most line body turns state =
      if nat_lt turns most then joined (record { line = line; turns = turns; state = state; puts = [] } ∷ []) None (turns + 1) state body
      else member line turns state [] (Some (Fault line TooManyTurns)) state

  -- so many turns
  abbrev pub all_turns : ℕ → ℕ → (ℕ → S → Unrolled S) → ℕ → ℕ → S → Unrolled S
  all_turns most line body zero turns state = record { members = []; ended = None; turns = turns; state = state }
  all_turns most line body (suc n) turns state = then_on (turn most line body turns state)
      (λ turns state. all_turns most line body n turns state)

  -- a `repeat` that read this number, and its turns
  abbrev pub repeated : ℕ → ℕ → (ℕ → S → Unrolled S) → ℤ → ℕ → S → Unrolled S
  repeated most line body (pos n) turns state = then_on (member line turns state [] None state)
      (λ turns state. all_turns most line body n turns state)
  repeated most line body (negsuc n) turns state = member line turns state [] (Some (Fault line Negative)) state

  -- the branch that a comparison chooses
  abbrev pub chosen : Bool → (ℕ → S → Unrolled S) → (ℕ → S → Unrolled S) → ℕ → S → Unrolled S
  chosen true branch other turns state = branch turns state
  chosen false branch other turns state = other turns state

module _ {L S : Type 0} (rules : Rules L S) (most : ℕ) where
  -- the unrolled run from a state in which so many turns have begun
  abbrev pub unrolled : Parts L → ℕ → S → Unrolled S
  unrolled Nothing turns state = record { members = []; ended = None; turns = turns; state = state }
  unrolled (Then l rest) turns state = then_on (acted_once (rules.line l) turns state (rules.act 0 l state))
      (λ turns state. unrolled rest turns state)
  unrolled (Repeats l e body rest) turns state =
      then_on (repeated most (rules.line l) (λ turns state. unrolled body turns state) (rules.count l state) turns state)
      (λ turns state. unrolled rest turns state)
  unrolled (Chooses l e branch rest) turns state =
      then_on (member (rules.line l) turns state [] None state)
      (λ turns state. then_on (chosen (rules.holds l state) (λ turns state. unrolled branch turns state)
      (λ turns state. record { members = []; ended = None; turns = turns; state = state }) turns state)
      (λ turns state. unrolled rest turns state))
  unrolled (ChoosesElse l m e branch other rest) turns state =
      then_on (member (rules.line l) turns state [] None state)
      (λ turns state. then_on (chosen (rules.holds l state) (λ turns state. unrolled branch turns state)
      (λ turns state. unrolled other turns state) turns state)
      (λ turns state. unrolled rest turns state))
