-- The lines of a script and what they say, one after the other.
use Rattle.std.specs.Prelude.{◌≡◌, ◌≢◌, ◌≤◌, ◌+◌, ◌∷◌, ◌++◌, ◌==◌}
use Rattle.cord_script.proofs.Common.{inl, inr, Some, None, ℕ, zero, suc, List, [], refl, sym, ◌∙◌, ap, subst, append_assoc, append-nil}
use Rattle.cord_script.proofs.Common.{length, length-append, arith, Bool, true, false, eqb-true, All, All-cons, eqb-false, MAX_SCRIPT}
use Rattle.cord_script.proofs.Common.{MAX_LINES, Word, Statement, RefusalKind, NoMemory, IsSplit, IsIdle, HasWords, line_of, Grammar, Scope}
use Rattle.cord_script.proofs.Common.{Block, ReadsBy, ReadsUpTo, Says, LinesSay, whole, start, after, after_all, InRepeat}
use Rattle.cord_script.proofs.Common.{FirstErrorBy, HasBadLine, IfSome, IsInnermostOpen, Option, TakesLine, HasWrong}
use Rattle.std.specs.Option.{unwrap_or}

-- a byte in front of lines
abbrev with_byte : (c : ℕ) (cs : List ℕ) (lines : List (List ℕ)) → c ≢ 10 → IsSplit cs lines → (more : List (List ℕ)) × IsSplit (c ∷ cs) more
with_byte c cs [] n h =
    ((c ∷ []) ∷ [], (All-cons (λ x. x ≢ 10) c [] n (λ k d lt. absurd (omega arith)), inl (refl, (λ e. cc), ap (λ x. c ∷ x) h)))
with_byte c cs (l ∷ ls) n (all, inl h) = ((c ∷ l) ∷ ls, (All-cons (λ x. x ≢ 10) c l n all, inl (h.0, (λ e. cc), ap (λ x. c ∷ x) h.2)))
with_byte c cs (l ∷ ls) n (all, inr h) = ((c ∷ l) ∷ ls, (All-cons (λ x. x ≢ 10) c l n all, inr (h.0, ap (λ x. c ∷ x) h.1, h.2)))

abbrev line_by : (c : ℕ) (cs : List ℕ) (x : Bool) (lines : List (List ℕ)) → (c == 10) ≡ x → IsSplit cs lines → (more : List (List ℕ)) ×
    IsSplit (c ∷ cs) more
line_by c cs true lines e h = ([] ∷ lines, ((λ k d lt. absurd (omega arith)), inr (cs, ap (λ k. k ∷ cs) (eqb-true c 10 e), h)))
line_by c cs false lines e h = with_byte c cs lines (eqb-false c 10 e) h

-- each text has lines
abbrev pub some_lines : (b : List ℕ) → (lines : List (List ℕ)) × IsSplit b lines
some_lines [] = ([], refl)
some_lines (c ∷ cs) = let r = some_lines cs in line_by c cs (c == 10) r.0 refl r.1

-- what statements in a row leave
pub after_push : (ss more : List Statement) (scope : Scope) → after_all (ss ++ more) scope ≡ after_all more (after_all ss scope)
after_push [] more scope = refl
after_push (s ∷ ss) more scope = after_push ss more (after s scope)

-- one more line that says nothing
pub says_idle : (g : Grammar) (n : ℕ) (scope : Scope) (prefix : List (List ℕ)) (line : List ℕ) (ss : List Statement) →
    LinesSay g n scope prefix ss → IsIdle line → LinesSay g n scope (prefix ++ line ∷ []) ss
says_idle g n scope [] line ss h idle = inl (idle, h)
says_idle g n scope (x ∷ prefix) line ss (inl h) idle = inl (h.0, says_idle g (n + 1) scope prefix line ss h.1 idle)
says_idle g n scope (x ∷ prefix) line ss (inr h) idle =
    inr (h.0, h.1, h.2, h.3, h.4, h.5, h.6, says_idle g (n + 1) (after h.1 scope) prefix line h.3 h.7 idle)

-- one more line that says a statement
pub says_more : (g : Grammar) (n m : ℕ) (scope : Scope) (prefix : List (List ℕ)) (line : List ℕ) (ss : List Statement) (s : Statement)
    (words : List Word) → LinesSay g n scope prefix ss → m ≡ n + length prefix → ¬ IsIdle line → HasWords line words →
    Says g m (after_all ss scope) words s → LinesSay g n scope (prefix ++ line ∷ []) (ss ++ s ∷ [])
says_more g n m scope [] line ss s words h e shows hw says =
    let same : m ≡ n = omega arith in
    inr (
      shows,
      s,
      words,
      [],
      ap (λ x. x ++ s ∷ []) h,
      hw,
      subst (λ k. Says g k scope words s) same
          (subst (λ x. Says g m (after_all x scope) words s) h says),
      refl,
    )
says_more g n m scope (x ∷ prefix) line ss s words (inl h) e shows hw says =
    inl (h.0, says_more g (n + 1) m scope prefix line ss s words h.1 (omega arith) shows hw says)
says_more g n m scope (x ∷ prefix) line ss s words (inr h) e shows hw says =
    inr (
      h.0,
      h.1,
      h.2,
      h.3 ++ s ∷ [],
      ap (λ x. x ++ s ∷ []) h.4,
      h.5,
      h.6,
      says_more g (n + 1) m (after h.1 scope) prefix line h.3 s words h.7 (omega arith) shows hw
          (subst (λ x. Says g m (after_all x scope) words s) h.4 says),
    )

-- the lines that were read in front of the rest, what they say, and what they leave
pub record HasReadLines (b rest : List ℕ) (n : ℕ) (scope : Scope) (statements : List Statement) : Type 0 where
  pub prefix : List (List ℕ)
  pub split : (later : List (List ℕ)) → IsSplit rest later → IsSplit b (prefix ++ later)
  pub say : LinesSay whole 1 start prefix statements
  pub number : n ≡ length prefix + 1
  pub leaves : after_all statements start ≡ scope

-- a line that was read is one of the lines in front
pub reads_line : {b rest : List ℕ} {n : ℕ} {old : Scope} {ss : List Statement} (suffix line : List ℕ) (new : Scope) (grown : List Statement) →
    HasReadLines b rest n old ss →
    ((lines : List (List ℕ)) → IsSplit suffix lines → IsSplit rest (line ∷ lines)) → TakesLine n line old new ss grown →
    HasReadLines b suffix (n + 1) new grown
reads_line {b = b} {ss = ss} suffix line new grown r first (None, t, e) =
    let same : grown ≡ ss = e ∙ append-nil ss in
    record {
      prefix = r.prefix ++ line ∷ [];
      split = λ later h. subst (IsSplit b) (sym (append_assoc r.prefix (line ∷ []) later)) (r.split (line ∷ later) (first later h));
      say = subst (LinesSay whole 1 start (r.prefix ++ line ∷ [])) (sym same) (says_idle whole 1 start r.prefix line ss r.say t.0);
      number = omega (arith, r.number, length-append r.prefix (line ∷ []));
      leaves = ap (λ x. after_all x start) same ∙ r.leaves ∙ sym t.1;
    }
reads_line {b = b} {n = n} {ss = ss} suffix line new grown r first (Some s, t, e) =
    record {
      prefix = r.prefix ++ line ∷ [];
      split = λ later h. subst (IsSplit b) (sym (append_assoc r.prefix (line ∷ []) later)) (r.split (line ∷ later) (first later h));
      say = subst (LinesSay whole 1 start (r.prefix ++ line ∷ [])) (sym e)
          (says_more whole 1 n start r.prefix line ss s t.1 r.say (omega (arith, r.number)) t.0 t.2
          (subst (λ x. Says whole n x t.1 s) (sym r.leaves) t.3));
      number = omega (arith, r.number, length-append r.prefix (line ∷ []));
      leaves = ap (λ x. after_all x start) e ∙ after_push ss (s ∷ []) start ∙ ap (after s) r.leaves ∙ t.4;
    }

-- the line that is being read
pub reached : {b rest : List ℕ} {n : ℕ} {scope : Scope} {ss : List Statement} (suffix line : List ℕ) → length b ≤ MAX_SCRIPT → n ≤ MAX_LINES →
    HasReadLines b rest n scope ss → ((lines : List (List ℕ)) → IsSplit suffix lines → IsSplit rest (line ∷ lines)) → ReadsUpTo b n
reached {ss = ss} suffix line small few r first =
    let later = some_lines suffix in
    record {
      size = small;
      few = few;
      prefix = r.prefix;
      line = line;
      later = later.0;
      split = r.split (line ∷ later.0) (first later.0 later.1);
      number = r.number;
      statements = ss;
      say = r.say;
    }

-- an open block is no out of memory
pub left_found : (blocks : List Block) (n : ℕ) (kind : RefusalKind) → IsInnermostOpen blocks n kind → kind ≢ NoMemory
left_found [] n kind h = absurd h
left_found (InRepeat line ∷ blocks) n kind h = λ e. cc
left_found (_ ∷ blocks) n kind h = λ e. cc

-- the first line that is wrong
pub stops : {b rest : List ℕ} {n : ℕ} {scope : Scope} {ss : List Statement} (suffix line : List ℕ) (kind : RefusalKind) → length b ≤ MAX_SCRIPT →
    HasReadLines b rest n scope ss → ((lines : List (List ℕ)) → IsSplit suffix lines → IsSplit rest (line ∷ lines)) →
    HasBadLine whole n scope line kind → FirstErrorBy whole b n kind
stops {n = n} {ss = ss} suffix line kind small r first wrong =
    let later = some_lines suffix in
    inr (inl (record {
      size = small;
      prefix = r.prefix;
      line = line;
      later = later.0;
      split = r.split (line ∷ later.0) (first later.0 later.1);
      number = r.number;
      statements = ss;
      say = r.say;
      wrong = subst (λ x. HasBadLine whole n x line kind) (sym r.leaves) wrong;
    }))

-- a line that is wrong
pub is_wrong : (n : ℕ) (line : List ℕ) (scope : Scope) (wrong : Option RefusalKind) (kind : RefusalKind) → n ≤ MAX_LINES →
    kind ≡ unwrap_or wrong NoMemory → IfSome wrong (λ k. k ≢ NoMemory → HasWrong line scope k) → kind ≢ NoMemory →
    HasBadLine whole n scope line kind
is_wrong n line scope None kind few e h other = absurd (other e)
is_wrong n line scope (Some k) kind few e h other =
    let shown = h (λ is. other (e ∙ is)) in
    subst (HasBadLine whole n scope line) (sym e) (inr (few, shown.0, shown.1))

-- the bytes are these statements, where no line and no block is left
pub read_whole : {b rest : List ℕ} {n : ℕ} {scope : Scope} {ss : List Statement} → length b ≤ MAX_SCRIPT → n ≤ MAX_LINES + 1 → rest ≡ [] →
    HasReadLines b rest n scope ss → scope.blocks ≡ [] → ReadsBy whole b ss
read_whole {b = b} small few e r closed = record {
  size = small;
  lines = r.prefix;
  split = subst (IsSplit b) (append-nil r.prefix) (r.split [] e);
  count = omega (arith, r.number);
  say = r.say;
  closed = ap (λ x. x.blocks) r.leaves ∙ closed;
}

-- a block that is open where no line is left
pub leaves_open : {b rest : List ℕ} {n : ℕ} {scope : Scope} {ss : List Statement} (at : ℕ) (kind : RefusalKind) (blocks : List Block) →
    length b ≤ MAX_SCRIPT → n ≤ MAX_LINES + 1 → rest ≡ [] → HasReadLines b rest n scope ss → scope.blocks ≡ blocks →
    IsInnermostOpen blocks at kind → FirstErrorBy whole b at kind
leaves_open at kind [] small few e r same h = absurd h
leaves_open {b = b} {ss = ss} at kind (block ∷ others) small few e r same h =
    inr (inr (record {
      size = small;
      lines = r.prefix;
      split = subst (IsSplit b) (append-nil r.prefix) (r.split [] e);
      count = omega (arith, r.number);
      statements = ss;
      say = r.say;
      block = block;
      others = others;
      blocks = ap (λ x. x.blocks) r.leaves ∙ same;
      left = h;
    }))

-- one more statement with a number
pub numbered_push : (ss : List Statement) (s : Statement) → All (λ x. 1 ≤ line_of x) ss → 1 ≤ line_of s →
    All (λ x. 1 ≤ line_of x) (ss ++ s ∷ [])
numbered_push [] s h l = All-cons (λ x. 1 ≤ line_of x) s [] l h
numbered_push (x ∷ xs) s h l = All-cons (λ y. 1 ≤ line_of y) x (xs ++ s ∷ []) (h zero x (omega arith))
    (numbered_push xs s (λ k d lt. h (suc k) d (omega arith)) l)

-- what a line adds has its number
pub numbered_line : (n : ℕ) (line : List ℕ) (old new : Scope) (ss grown : List Statement) → 1 ≤ n → All (λ x. 1 ≤ line_of x) ss →
    TakesLine n line old new ss grown → All (λ x. 1 ≤ line_of x) grown
numbered_line n line old new ss grown one h (None, t, e) = subst (All (λ x. 1 ≤ line_of x)) (sym (e ∙ append-nil ss)) h
numbered_line n line old new ss grown one h (Some s, t, e) =
    let own : 1 ≤ line_of s = omega (arith, t.3.line) in
    subst (All (λ x. 1 ≤ line_of x)) (sym e) (numbered_push ss s h own)
