-- What the machine gave of a file, call by call.
use Rattle.std.specs.Prelude.{ℕ, List, ◌∷◌, take, Ok, Err}
use Rattle.std.specs.declared.result.Result.{Result}
use Rattle.cord_io.specs.Reported.{Reported, has_len, has_bytes}

-- what was given after a read from a place on, which filled the prefix of out: a fault gives nothing
abbrev pub after_asking : {E : Type 0} → List ℕ → ℕ → List ℕ → Result ℕ E → List Reported → List Reported
after_asking path start out (Ok k) reported = has_bytes path start (take k out) ∷ reported
after_asking path start out (Err e) reported = reported

-- what was given after its length was asked for
abbrev pub after_measuring : {E : Type 0} → List ℕ → Result ℕ E → List Reported → List Reported
after_measuring path (Ok len) reported = has_len path len ∷ reported
after_measuring path (Err e) reported = reported
