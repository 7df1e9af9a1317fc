-- Messages on a sink.
use Rattle.std.proofs.Common.{◌≡◌, ℕ, List, subst, sym, inl, inr, Ok, Err}
use Rattle.std.specs.declared.result.Result.{Result}
use Rattle.std.specs.Prelude.{OnOk, OnErr}
use Rattle.cord_io.specs.declared.faults.WriteFault.{WriteFault}
use Rattle.cord_shell.specs.Outcomes.{line_text}
use Rattle.cord_io.specs.SinkCounts.{SinkCounts}
use Rattle.cord_shell.specs.Reports.{IsCut, IsWritten, SaysMessage, Reports}

-- what was reported of a message
pub said : (a c message : List ℕ) (n : SinkCounts) (r : Result (Unit {0}) WriteFault) → OnOk r (IsWritten message a c n) →
    OnErr r (IsCut message a c n) → SaysMessage a c n message
said a c message n (Ok x) ok err = inl ok
said a c message n (Err e) ok err = inr err

-- a message that names a line is the one that was wanted
pub reported_at : (a c : List ℕ) (n : SinkCounts) (line : ℕ) (text reported message : List ℕ) → SaysMessage a c n (line_text line text) → text ≡
    reported →
    message ≡ line_text line reported → Reports a c n message
reported_at a c n line text reported message h e is = subst (Reports a c n) (sym is)
    (subst (λ (t : List ℕ). SaysMessage a c n (line_text line t)) e h)
