-- Each text is a script, or has a first error.
use Rattle.std.specs.Prelude.{◌≡◌, ◌≤◌, ◌+◌, ◌⊎◌, ◌∷◌, ◌++◌}
use Rattle.cord_script.proofs.Common.{inl, inr, ℕ, List, [], refl, sym, ap, subst, length, arith, FormatOrBad, MAX_SCRIPT}
use Rattle.cord_script.proofs.Common.{MAX_LINES, Word, RefusalKind, TooBig, MissingEnd, MissingIfEnd, Statement, IsSplit, IsIdle, HasWords}
use Rattle.cord_script.proofs.Common.{Grammar, Scope, Block, Says, LinesSay, ReadsBy, start, after, after_all, InRepeat, InIf, InElse}
use Rattle.cord_script.proofs.Common.{HasBadLine, IsLeftOpen, FirstErrorBy}
use Rattle.cord_script.specs.Laws.{ReadOrError}
use Rattle.cord_script.proofs.Spelled.{less_or_not}
use Rattle.cord_script.proofs.Readings.{some_lines}
use Rattle.cord_script.proofs.Found.{idle_or_not, words_or_bad, some_words}
use Rattle.cord_script.proofs.Filled.{says_or_bad}

-- a line that isn't idle says a statement
pub record LineSays (g : Grammar) (n : ℕ) (scope : Scope) (line : List ℕ) : Type 0 where
  pub statement : Statement
  pub words : List Word
  pub has : HasWords line words
  pub says : Says g n scope words statement

abbrev LineOrBad : Grammar → ℕ → Scope → List ℕ → Type 0
LineOrBad g n scope line = LineSays g n scope line ⊎ ((kind : RefusalKind) × HasBadLine g n scope line kind)

-- a line that isn't idle says a statement, or is wrong
abbrev line_or_bad : FormatOrBad → (g : Grammar) (n : ℕ) (scope : Scope) (line : List ℕ) → n ≤ MAX_LINES → ¬ IsIdle line →
    LineOrBad g n scope line
line_or_bad law g n scope line few shows = elim (words_or_bad line) [
  | inr bad ↦ inr (bad.0, inr (few, shows, inl bad.1))
  | inl ws ↦ elim (says_or_bad law g n scope ws.0 (some_words line ws.0 shows ws.1)) [
    | inl s ↦ inl (record { statement = s.0; words = ws.0; has = ws.1; says = s.1 })
    | inr bad ↦ inr (bad.0, inr (few, shows, inr (ws.0, ws.1, bad.1)))
  ]
]

-- the first of these lines that is wrong
pub record Stops (g : Grammar) (n : ℕ) (scope : Scope) (lines : List (List ℕ)) : Type 0 where
  pub prefix : List (List ℕ)
  pub line : List ℕ
  pub later : List (List ℕ)
  pub whole : lines ≡ prefix ++ line ∷ later
  pub statements : List Statement
  pub say : LinesSay g n scope prefix statements
  pub kind : RefusalKind
  pub wrong : HasBadLine g (n + length prefix) (after_all statements scope) line kind

-- these lines say statements, and are no more than there may be
pub record Goes (g : Grammar) (n : ℕ) (scope : Scope) (lines : List (List ℕ)) : Type 0 where
  pub statements : List Statement
  pub say : LinesSay g n scope lines statements
  pub few : n + length lines ≤ MAX_LINES + 1

abbrev GoesOrStops : Grammar → ℕ → Scope → List (List ℕ) → Type 0
GoesOrStops g n scope lines = Goes g n scope lines ⊎ Stops g n scope lines

abbrev stops_here : (g : Grammar) (n : ℕ) (scope : Scope) (line : List ℕ) (lines : List (List ℕ)) (kind : RefusalKind) →
    HasBadLine g n scope line kind → GoesOrStops g n scope (line ∷ lines)
stops_here g n scope line lines kind wrong =
    let here : n ≡ n + 0 = omega arith in
    inr (record {
      prefix = [];
      line = line;
      later = lines;
      whole = refl;
      statements = [];
      say = refl;
      kind = kind;
      wrong = subst (λ m. HasBadLine g m scope line kind) here wrong;
    })

-- after a line that says these statements, which lead from one scope to another
abbrev after_line : (g : Grammar) (n : ℕ) (scope next : Scope) (line : List ℕ) (lines : List (List ℕ)) (said : List Statement) →
    ((ss : List Statement) → after_all (said ++ ss) scope ≡ after_all ss next) →
    ((ls : List (List ℕ)) (ss : List Statement) → LinesSay g (n + 1) next ls ss → LinesSay g n scope (line ∷ ls) (said ++ ss)) →
    GoesOrStops g (n + 1) next lines → GoesOrStops g n scope (line ∷ lines)
after_line g n scope next line lines said leads say (inl h) =
    inl (record { statements = said ++ h.statements; say = say lines h.statements h.say; few = omega (arith, h.few) })
after_line g n scope next line lines said leads say (inr h) =
    let number : (n + 1) + length h.prefix ≡ n + length (line ∷ h.prefix) = omega arith in
    inr (record {
      prefix = line ∷ h.prefix;
      line = h.line;
      later = h.later;
      whole = ap (λ x. line ∷ x) h.whole;
      statements = said ++ h.statements;
      say = say h.prefix h.statements h.say;
      kind = h.kind;
      wrong = subst (λ m. HasBadLine g m (after_all (said ++ h.statements) scope) h.line h.kind) number
          (subst (λ s. HasBadLine g ((n + 1) + length h.prefix) s h.line h.kind) (sym (leads h.statements)) h.wrong);
    })

-- the lines from number n on all say something, or one of them is the first that is wrong
abbrev lines_by : FormatOrBad → (g : Grammar) (n : ℕ) (scope : Scope) (lines : List (List ℕ)) → n ≤ MAX_LINES + 1 → GoesOrStops g n scope lines
lines_by law g n scope [] few = inl (record { statements = []; say = refl; few = omega (arith, few) })
lines_by law g n scope (line ∷ lines) few = elim (less_or_not MAX_LINES n) [
  | inl past ↦ stops_here g n scope line lines TooBig (inl (omega (arith, few, past), refl))
  | inr low ↦ elim (idle_or_not line) [
    | inl idle ↦ after_line g n scope scope line lines [] (λ ss. refl) (λ ls ss say. inl (idle, say))
        (lines_by law g (n + 1) scope lines (omega (arith, low)))
    | inr shows ↦ elim (line_or_bad law g n scope line low shows) [
      | inl s ↦ after_line g n scope (after s.statement scope) line lines (s.statement ∷ []) (λ ss. refl)
          (λ ls ss say. inr (shows, s.statement, s.words, ss, refl, s.has, s.says, say))
          (lines_by law g (n + 1) (after s.statement scope) lines (omega (arith, low)))
      | inr bad ↦ stops_here g n scope line lines bad.0 bad.1
    ]
  ]
]

-- an open block is an error at the end
abbrev left_open : (block : Block) → (n : ℕ) × (kind : RefusalKind) × IsLeftOpen block n kind
left_open (InRepeat line) = (line, MissingEnd, (refl, refl))
left_open (InIf line) = (line, MissingIfEnd, (refl, refl))
left_open (InElse line) = (line, MissingIfEnd, (refl, refl))

abbrev pub Either : Grammar → List ℕ → Type 0
Either g b = ((ss : List Statement) × ReadsBy g b ss) ⊎ ((n : ℕ) × (kind : RefusalKind) × FirstErrorBy g b n kind)

-- all lines say something: each block is closed, or the innermost open one is an error
abbrev closed_or_open : (g : Grammar) (b : List ℕ) (lines : List (List ℕ)) (blocks : List Block) → length b ≤ MAX_SCRIPT → IsSplit b lines →
    (h : Goes g 1 start lines) → (after_all h.statements start).blocks ≡ blocks → Either g b
closed_or_open g b lines [] small split h e = inl (
  h.statements,
  record {
    size = small;
    lines = lines;
    split = split;
    count = omega (arith, h.few);
    say = h.say;
    closed = e;
  },
)
closed_or_open g b lines (block ∷ others) small split h e =
    let left = left_open block in
    inr (
      left.0,
      left.1,
      inr (inr (record {
        size = small;
        lines = lines;
        split = split;
        count = omega (arith, h.few);
        statements = h.statements;
        say = h.say;
        block = block;
        others = others;
        blocks = e;
        left = left.2;
      })),
    )

abbrev by_lines : (g : Grammar) (b : List ℕ) (lines : List (List ℕ)) → length b ≤ MAX_SCRIPT → IsSplit b lines → GoesOrStops g 1 start lines →
    Either g b
by_lines g b lines small split (inl h) = closed_or_open g b lines (after_all h.statements start).blocks small split h refl
by_lines g b lines small split (inr h) =
    inr (
      1 + length h.prefix,
      h.kind,
      inr (inl (record {
        size = small;
        prefix = h.prefix;
        line = h.line;
        later = h.later;
        split = subst (IsSplit b) h.whole split;
        number = omega arith;
        statements = h.statements;
        say = h.say;
        wrong = h.wrong;
      })),
    )

abbrev pub read_or_error : FormatOrBad → ReadOrError
read_or_error law g b = elim (less_or_not MAX_SCRIPT (length b)) [
  | inl big ↦ inr (0, TooBig, inl (record { size = big; line = refl; is = refl }))
  | inr small ↦ let split = some_lines b in
      by_lines g b split.0 small split.1 (lines_by law g 1 start split.0 (omega arith))
]
