use Rattle.std.specs.Prelude.{◌≡◌}
use Rattle.cord_script.proofs.Common.{◌∙◌, ℕ, List, sym, Result, Ok, Err, MatchResult, IsUtf8, is_utf8, IsUtf8-from_is_utf8}
use Rattle.cord_script.proofs.Common.{is_utf8-from_IsUtf8, false_from_ne_true}
use Rattle.std.specs.Result.{is_ok}
use Rattle.cord_script.proofs.fields.is_utf8.Goals as goal

-- whether bytes are UTF-8, by what was answered
reported : {S E : Type 0} (bytes : List ℕ) (r : Result S E) (P : S → Type 0) (Q : E → Type 0) → ((s : S) → P s → IsUtf8 bytes) →
    ((e : E) → Q e → ¬ (IsUtf8 bytes)) → MatchResult r P Q → is_ok r ≡ is_utf8 bytes
reported bytes (Ok s) P Q f g h = sym (is_utf8-from_IsUtf8 bytes (f s h))
reported bytes (Err e) P Q f g h = sym (false_from_ne_true (is_utf8 bytes) (λ t. g e h (IsUtf8-from_is_utf8 bytes t)))

pub returns : goal.returns
returns c = c.is_ok.ensures.value ∙ reported c.args.bytes.now c.from_utf8.result _ _ (λ s p. p.1) (λ e q. q.0) c.from_utf8.ensures.cases
