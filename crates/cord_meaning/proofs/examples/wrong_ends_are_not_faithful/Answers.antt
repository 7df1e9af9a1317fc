use Rattle.std.specs.Prelude.{◌≡◌, ◌∷◌, ◌++◌}
use Rattle.cord_meaning.proofs.Common.{⊎_elim, ℕ, List, [], arith, refl, ◌∙◌, codes, MAX_LEN, MAX_TURNS, Done, Fault, OutOfRange, Negative}
use Rattle.cord_meaning.proofs.Common.{Means, trace, Event, output, State, start_state, rules}
use Rattle.cord_meaning.specs.Examples
use Rattle.cord_meaning.proofs.Computed.{means_after}
use Rattle.cord_meaning.proofs.Runs.{trace_when_ended}
use Rattle.cord_meaning.proofs.examples.wrong_ends_are_not_faithful.Goals as goal

hello_means : Means Examples.hello [] (codes "hello") Done
hello_means = means_after 3 refl refl

fetch_means : Means Examples.fetch_past_end [] (codes "ab") (Fault 3 OutOfRange)
fetch_means = means_after 3 refl refl

-- nothing is put before the second event, whose line is 2
nothing_at_first : (ms earlier later : List (Event State)) (m one two : Event State) (prefix rest : List ℕ) → ms ≡ one ∷ two ∷ [] →
    one.puts ≡ [] → two.line ≡ 2 → ms ≡ earlier ++ m ∷ later → m.line ≡ 1 → m.puts ≡ prefix ++ rest → codes "h" ≡ output earlier ++ prefix → ⊥
nothing_at_first ms [] later m one two [] rest is puts line run at_line put took = let bad : ⊥ = cc in bad
nothing_at_first ms [] later m one two (b ∷ prefix) rest is puts line run at_line put took = let bad : ⊥ = cc in bad
nothing_at_first ms (x ∷ []) later m one two prefix rest is puts line run at_line put took = let bad : ⊥ = cc in bad
nothing_at_first ms (x ∷ y ∷ []) later m one two prefix rest is puts line run at_line put took = let bad : ⊥ = cc in bad
nothing_at_first ms (x ∷ y ∷ z ∷ earlier) later m one two prefix rest is puts line run at_line put took = let bad : ⊥ = cc in bad

pub returns : goal.returns
returns c = record {
  too_little_put = λ n h.
      let same : codes "hell" ≡ codes "hello" = h.puts.taken ∙ h.puts.faithful.0 ∙ hello_means.output_is in
      let bad : ⊥ = cc in
      bad;
  put_too_early = λ n h.
      ⊎_elim (λ none. let bad : ⊥ = cc in bad)
      (λ some. nothing_at_first (trace Examples.hello []) some.1.earlier some.1.later some.1.event _ _ some.1.prefix some.1.rest
      (trace_when_ended (rules MAX_LEN []) MAX_TURNS Examples.hello start_state 3 Done refl) refl refl some.1.run some.1.line some.1.puts
      (h.puts.taken ∙ some.1.taken))
      h.puts.faithful;
  later_line = λ n h.
      let same : Fault 4 OutOfRange ≡ Fault 3 OutOfRange = h.puts.faithful.1 ∙ fetch_means.end_is in
      let bad : ⊥ = cc in
      bad;
  another_fault = λ n h.
      let same : Fault 3 Negative ≡ Fault 3 OutOfRange = h.puts.faithful.1 ∙ fetch_means.end_is in
      let bad : ⊥ = cc in
      bad;
  done_without_finish = λ n rose h. let kept = h.names.device.sink_kept in absurd (omega (arith, rose, kept));
  fault_without_finish = λ n same h. let once = h.names.device.finished in absurd (omega (arith, same, once));
  finish_after_write_failed = λ n once h. let same = h.names.device.unfinished in absurd (omega (arith, same, once));
  no_read_failed = λ n same h. let rose = h.names.device.files_failed in absurd (omega (arith, same, rose));
  read_failure_as_no_memory = λ n rose h. let same = h.names.device.files_kept in absurd (omega (arith, same, rose));
  write_failure_as_no_memory = λ n rose h. let same = h.names.device.puts_kept in absurd (omega (arith, same, rose));
  write_failure_as_read_failure = λ n rose h. let same = h.names.device.puts_kept in absurd (omega (arith, same, rose));
  no_put_failed = λ n same h. let rose = h.names.device.put (omega arith) in absurd (omega (arith, same, rose));
  put_failure_as_finish = λ n rose h. let same = h.names.finish refl in absurd (omega (arith, rose, same));
  failed_and_finished = λ n rose once h. let asked = h.names.device.asked in absurd (omega (arith, rose, once, asked));
  nothing_reads_there = λ n h. ⊎_elim (λ first. first.1) (λ others. ⊎_elim (λ second. let bad : ⊥ = cc in bad) (λ none. none) others) h.fails;
  nothing_puts_there = λ n h. ⊎_elim (λ none. let bad : ⊥ = cc in
      bad) (λ some. ⊎_elim (λ first. first.1) (λ others. ⊎_elim (λ second. let bad : ⊥ = cc in bad) (λ none. none) others) some) h.fails;
}
