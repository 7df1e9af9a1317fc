-- A runner's end is faithful: what is to be proved of each way in which a run stops.
use Rattle.std.specs.Prelude.{◌≡◌, ◌<◌, ◌++◌}
use Rattle.cord_meaning.proofs.Common.{ℕ, suc, List, [], Some, refl, sym, ap, ◌∙◌, inl, inr, append_assoc, append-nil, slice_get, End, Done}
use Rattle.cord_meaning.proofs.Common.{Fault, NoMemory, ReadFailed, WriteFailed, Straight, Loop, Branch, Rules, Event, Block, Config, step}
use Rattle.cord_meaning.proofs.Common.{after, run_trace, run_end, output, IsMeant, IsComplete, StopsAt, FaithfulEnd, FaithfulOutput, Ran}
use Rattle.cord_meaning.proofs.Common.{puts_of}
use Rattle.cord_meaning.proofs.Runs.{GoesOn, EndsIn, stands_first, acts_seen, chooses_seen, counts_seen, trace_when_ended, end_when_ended}
use Rattle.cord_meaning.proofs.Runs.{stops_inside, stops_within}

complete_faithful : {S : Type 0} (ms : List (Event S)) (meant : End) (out : List ℕ) (e : End) → IsMeant e → IsComplete ms meant out e →
    FaithfulEnd ms meant out e
complete_faithful ms meant out Done i h = h
complete_faithful ms meant out (Fault line kind) i h = h
complete_faithful ms meant out _ i h = absurd i

-- bytes after others, in two parts
taken_both : (a b c x y : List ℕ) → b ≡ a ++ x → c ≡ b ++ y → c ≡ a ++ (x ++ y)
taken_both a b c x y first next = next ∙ ap (λ (l : List ℕ). l ++ y) first ∙ append_assoc a x y

module _ {L S : Type 0} (rules : Rules L S) (most : ℕ) (statements : List L) (from : S) where
  -- before the first step
  pub ran_first : (a : List ℕ) → Ran rules most statements from a a 0 0 [] from
  ran_first a = record { steps = 0; stands = stands_first rules most statements from; taken = sym (append-nil a) }

  -- one step more, that put what the sink took
  pub ran_on : (a b c : List ℕ) (p t q u : ℕ) (bs ds : List Block) (f g : S) (puts : List ℕ)
      (ran : Ran rules most statements from a b p t bs f) → GoesOn (after rules most statements ran.steps from)
      (step rules most statements (after rules most statements ran.steps from)) puts q u ds g → c ≡ b ++ puts →
      Ran rules most statements from a c q u ds g
  ran_on a b c p t q u bs ds f g puts ran goes took =
      let d : Config S = after rules most statements ran.steps from in
      record {
        steps = suc ran.steps;
        stands = goes.stands;
        taken = taken_both a b c (output d.seen) puts ran.taken took ∙ ap (λ (l : List ℕ). a ++ l) (sym goes.out);
      }

  -- one step more, that put nothing, and the sink kept what it had
  pub ran_quietly : (a b : List ℕ) (p t q u : ℕ) (bs ds : List Block) (f g : S) (ran : Ran rules most statements from a b p t bs f) →
      GoesOn (after rules most statements ran.steps from) (step rules most statements (after rules most statements ran.steps from)) [] q u
      ds g → Ran rules most statements from a b q u ds g
  ran_quietly a b p t q u bs ds f g ran goes = ran_on a b b p t q u bs ds f g [] ran goes (sym (append-nil b))

  module _ (a b : List ℕ) (p t : ℕ) (bs : List Block) (f : S) (ran : Ran rules most statements from a b p t bs f) where
    abbrev now : Config S
    now = after rules most statements ran.steps from

    -- the next step ends the run
    pub ran_out : (e : End) → IsMeant e → EndsIn now (step rules most statements now) e →
        FaithfulOutput (run_trace rules most statements from) (run_end rules most statements from) a b e
    ran_out e meant ends =
        let all : run_trace rules most statements from ≡ (step rules most statements now).seen =
        trace_when_ended rules most statements from (suc ran.steps) e ends.ended in
        record {
          out = output now.seen;
          taken = ran.taken;
          faithful = complete_faithful (run_trace rules most statements from) (run_end rules most statements from) (output now.seen) e meant (
            sym ends.out ∙ ap (λ (ms : List (Event S)). output ms) (sym all),
            sym (end_when_ended rules most statements from (suc ran.steps) e ends.ended),
          );
        }

    module _ (l : L) (here : slice_get statements p ≡ Some l) where
      -- the run stopped inside a straight-line statement, after a prefix of what it puts
      pub stops_acting : rules.shape l ≡ Straight → (prefix rest : List ℕ) → puts_of (rules.act p l f) ≡ prefix ++ rest →
          StopsAt (run_trace rules most statements from) (rules.line l) (output now.seen ++ prefix)
      stops_acting straight prefix rest puts = stops_inside rules most statements from ran.steps ran.stands.running
          (record { line = rules.line l; turns = t; state = f; puts = puts_of (rules.act p l f) })
          (acts_seen rules most statements now p t bs f ran.stands l here straight) prefix rest puts

      -- the run stopped inside an `if`
      pub stops_choosing : rules.shape l ≡ Branch → StopsAt (run_trace rules most statements from) (rules.line l) (output now.seen ++ [])
      stops_choosing branch = stops_inside rules most statements from ran.steps ran.stands.running
          (record { line = rules.line l; turns = t; state = f; puts = [] })
          (chooses_seen rules most statements now p t bs f ran.stands l here branch) [] [] refl

      -- the run stopped inside a `repeat`
      pub stops_counting : rules.shape l ≡ Loop → StopsAt (run_trace rules most statements from) (rules.line l) (output now.seen ++ [])
      stops_counting loop =
          let seen = counts_seen rules most statements now p t bs f ran.stands l here loop in
          stops_within rules most statements from ran.steps ran.stands.running
          (record { line = rules.line l; turns = t; state = f; puts = [] }) seen.0 seen.1 [] [] refl

  module _ (a b c : List ℕ) (p t : ℕ) (bs : List Block) (f : S) (ran : Ran rules most statements from a b p t bs f) (line : ℕ)
      (prefix : List ℕ) (took : c ≡ b ++ prefix) (numbered : 0 < line)
      (stops : StopsAt (run_trace rules most statements from) line (output (after rules most statements ran.steps from).seen
      ++ prefix)) where
    abbrev meant : End
    meant = run_end rules most statements from

    abbrev out : List ℕ
    out = output (after rules most statements ran.steps from).seen ++ prefix

    both : c ≡ a ++ out
    both = taken_both a b c (output (after rules most statements ran.steps from).seen) prefix ran.taken took

    -- where memory was refused
    pub no_memory : FaithfulOutput (run_trace rules most statements from) meant a c (NoMemory line)
    no_memory = record { out = out; taken = both; faithful = inr (numbered, stops) }

    -- where a file couldn't be read
    pub read_failed : FaithfulOutput (run_trace rules most statements from) meant a c (ReadFailed line)
    read_failed = record { out = out; taken = both; faithful = (numbered, stops) }

    -- where the sink couldn't be written to
    pub write_failed : FaithfulOutput (run_trace rules most statements from) meant a c (WriteFailed line)
    write_failed = record { out = out; taken = both; faithful = inr (numbered, stops) }

module _ {S : Type 0} (ms : List (Event S)) (meant : End) (a b : List ℕ) where
  -- all was put, and then the sink couldn't be finished
  pub unfinished : (e : End) → IsMeant e → FaithfulOutput ms meant a b e → FaithfulOutput ms meant a b (WriteFailed 0)
  unfinished e i h = record { out = h.out; taken = h.taken; faithful = inl (refl, all_out e i h.faithful) }
    where
      all_out : (e : End) → IsMeant e → FaithfulEnd ms meant h.out e → h.out ≡ output ms
      all_out Done i x = x.0
      all_out (Fault line kind) i x = x.0
      all_out _ i x = absurd i
