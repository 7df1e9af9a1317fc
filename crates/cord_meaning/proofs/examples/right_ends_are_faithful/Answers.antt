use Rattle.std.specs.Prelude.{◌∷◌}
use Rattle.cord_meaning.proofs.Common.{[], arith, inl, inr, refl, sym, codes, MAX_LEN, MAX_TURNS, Done, Means, start_state, rules}
use Rattle.cord_meaning.specs.Examples
use Rattle.cord_meaning.proofs.Computed.{means_after}
use Rattle.cord_meaning.proofs.Runs.{trace_when_ended}
use Rattle.cord_meaning.proofs.examples.right_ends_are_faithful.Goals as goal

pub returns-clause-whole : goal.returns-clause-whole
returns-clause-whole c =
    let run : Means Examples.hello [] (codes "hello") Done = means_after 3 refl refl in
    record {
      puts = record { out = codes "hello"; taken = refl; faithful = (sym run.output_is, sym run.end_is) };
      fails = tt;
      names = record {
        device = record { files_kept = refl; sink_kept = refl; finished = refl };
        finish = λ is. refl;
      };
    }

pub returns-clause-cut : goal.returns-clause-cut
returns-clause-cut c = record {
  puts = record {
    out = codes "hel";
    taken = refl;
    faithful = inr (
      omega arith,
      record {
        earlier = _ ∷ [];
        event = _;
        later = [];
        prefix = codes "hel";
        rest = codes "lo";
        run = trace_when_ended (rules MAX_LEN []) MAX_TURNS Examples.hello start_state 3 Done refl;
        line = refl;
        puts = refl;
        taken = refl;
      },
    );
  };
  fails = inr (inr (inl (refl, tt)));
  names = record {
    device = record { sink_failed = refl; put = λ _. omega arith; unfinished = refl; files_kept = refl };
    finish = λ is. let bad : ⊥ = cc in absurd bad;
  };
}
