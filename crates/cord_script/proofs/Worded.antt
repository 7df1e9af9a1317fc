-- Words of a line.
use Rattle.std.specs.Prelude.{◌≡◌, ◌≢◌, ◌≤◌, ◌<◌, ◌∷◌, ◌++◌}
use Rattle.cord_script.proofs.Common.{ℕ, zero, suc, List, [], refl, sym, ◌∙◌, ap, subst, append_assoc, take, drop, length, arith}
use Rattle.cord_script.proofs.Common.{length-append, All, MAX_TEXT, RefusalKind, Word, Plain, Quoted, IsBlank, IsPlainByte, EndsPlain}
use Rattle.cord_script.proofs.Common.{SpellsText, HasWord, StartsWith, IsBadText, BeginsBadText, StartsNoBlank}
use Rattle.cord_script.proofs.Lines.{parts}

-- a quoted word that is none, after blanks
pub begins_bad : (line rest inner : List ℕ) (b first : ℕ) (kind : RefusalKind) → rest ≡ drop b line → rest ≡ first ∷ inner → first ≡ 34 →
    All IsBlank (take b line) → IsBadText inner kind → BeginsBadText line kind
begins_bad line rest inner b first kind r q f blank bad =
    (take b line, inner, blank, parts b line ∙ ap (λ x. take b line ++ x) (sym r ∙ q ∙ ap (λ x. x ∷ inner) f), bad)

shorter : (line prefix middle rest : List ℕ) → line ≡ prefix ++ middle ++ rest → middle ≢ [] → length rest < length line
shorter line prefix [] rest e n = absurd (n refl)
shorter line prefix (c ∷ cs) rest e n = omega (arith, ap length e, length-append (prefix ++ c ∷ cs) rest, length-append prefix (c ∷ cs))

-- a quoted word after blanks
pub quoted_next : (line rest inner w after text : List ℕ) (b first : ℕ) → rest ≡ drop b line → rest ≡ first ∷ inner → first ≡ 34 →
    inner ≡ w ++ 34 ∷ after → All IsBlank (take b line) → SpellsText w text → length text ≤ MAX_TEXT → HasWord line (Quoted text) after ×
    (length after < length line)
quoted_next line rest inner w after text b first r q f i blank s few =
    let whole : line ≡ take b line ++ 34 ∷ w ++ 34 ∷ after =
    parts b line ∙ ap (λ x. take b line ++ x) (sym r ∙ q ∙ ap (λ x. x ∷ inner) f ∙ ap (λ x. 34 ∷ x) i)
    ∙ sym (append_assoc (take b line) (34 ∷ w) (34 ∷ after)) in (
      (take b line, w, blank, whole, s, few),
      omega (
        arith,
        ap length whole,
        length-append (take b line ++ 34 ∷ w) (34 ∷ after),
        length-append (take b line) (34 ∷ w),
      ),
    )

some_plain : (c : ℕ) (cs : List ℕ) (len : ℕ) → ¬ IsBlank c → c ≢ 34 → EndsPlain (drop len (c ∷ cs)) → take len (c ∷ cs) ≢ []
some_plain c cs zero nb nq h e = h (nb, nq)
some_plain c cs (suc len) nb nq h e = cc

-- a plain word after blanks
pub plain_next : (line rest inner p after : List ℕ) (c b len : ℕ) → p ≡ take len rest → after ≡ drop len rest → rest ≡ drop b line →
    rest ≡ c ∷ inner → All IsBlank (take b line) → StartsNoBlank (drop b line) → c ≢ 34 → All IsPlainByte (take len rest) →
    EndsPlain (drop len rest) → HasWord line (Plain p) after × (length after < length line)
plain_next line rest inner p after c b len ep ea r q blank stops nq plain ends =
    let nb : ¬ IsBlank c = subst StartsNoBlank (sym r ∙ q) stops in
    let some : take len rest ≢ [] =
    subst (λ x. take len x ≢ []) (sym q) (some_plain c inner len nb nq (subst (λ x. EndsPlain (drop len x)) q ends)) in
    let whole : line ≡ take b line ++ p ++ after =
    parts b line ∙ ap (λ x. take b line ++ x) (sym r ∙ parts len rest)
    ∙ sym (append_assoc (take b line) (take len rest) (drop len rest)) ∙ ap (λ x. take b line ++ x ++ drop len rest) (sym ep)
    ∙ ap (λ x. take b line ++ p ++ x) (sym ea) in
    let one : p ≢ [] = λ e. some (sym ep ∙ e) in (
      (take b line, blank, whole, one, subst (All IsPlainByte) (sym ep) plain, subst EndsPlain (sym ea) ends),
      shorter line (take b line) p after whole one,
    )

-- one more word
pub starts_push : (line rest suffix : List ℕ) (ws : List Word) (w : Word) → StartsWith line ws rest → HasWord rest w suffix →
    StartsWith line (ws ++ w ∷ []) suffix
starts_push line rest suffix [] w h s = (suffix, subst (λ x. HasWord x w suffix) (sym h) s, refl)
starts_push line rest suffix (x ∷ xs) w h s = (h.0, h.1, starts_push h.0 rest suffix xs w h.2 s)
