-- Each line is idle or isn't, and has words or a first error of its bytes.
use Rattle.std.specs.Prelude.{◌≡◌, ◌≢◌, ◌≤◌, ◌<◌, ◌⊎◌, ◌∷◌, ◌++◌}
use Rattle.cord_script.proofs.Common.{inl, inr, Some, None, ℕ, zero, suc, List, [], refl, sym, ◌∙◌, ap, append_assoc, length, length-append}
use Rattle.cord_script.proofs.Common.{arith, All, Option, All-nil, All-cons, MAX_TEXT, RefusalKind, Unterminated}
use Rattle.cord_script.proofs.Common.{BadEscape, LiteralTooLong, Word, Plain, Quoted, IsBlank, IsIdle, IsPlainByte, EndsPlain, Stands}
use Rattle.cord_script.proofs.Common.{SpellsText, HasWord, HasWords, IsBadText, BeginsBadText, HasBadBytes, unit_of}
use Rattle.cord_script.proofs.Lines.{note_shows}
use Rattle.cord_script.proofs.Spelled.{same_or_not, less_or_not, spells_push, unit_stands}
use Rattle.cord_script.proofs.Unique.{Begins, one_beginning, no_beginning, no_some, stands_unit}

-- which of two holds, if one does
abbrev one_or_not : {A B : Type 0} → A ⊎ (¬ A) → B ⊎ (¬ B) → (A ⊎ B) ⊎ (¬ (A ⊎ B))
one_or_not (inl a) b = inl (inl a)
one_or_not (inr na) (inl b) = inl (inr b)
one_or_not (inr na) (inr nb) = inr (λ h. elim h [ inl a ↦ na a | inr b ↦ nb b ])

abbrev blank_or_not : (c : ℕ) → IsBlank c ⊎ (¬ IsBlank c)
blank_or_not c = one_or_not (same_or_not c 32) (one_or_not (same_or_not c 9) (same_or_not c 13))

abbrev plain_or_not : (c : ℕ) → IsPlainByte c ⊎ (¬ IsPlainByte c)
plain_or_not c = elim (blank_or_not c) [
  | inl blank ↦ inr (λ p. p.0 blank)
  | inr shows ↦ elim (same_or_not c 34) [
    | inl quote ↦ inr (λ p. p.1 quote)
    | inr other ↦ inl (shows, other)
  ]
]

-- what stands after the blanks at the front, if anything does
abbrev shown : (line : List ℕ) → All IsBlank line ⊎ ((c : ℕ) × (rest : List ℕ) × Begins line c rest)
shown [] = inl (All-nil IsBlank)
shown (c ∷ cs) = elim (blank_or_not c) [
  | inr shows ↦ inr (c, cs, record { prefix = []; blank = All-nil IsBlank; shows = shows; whole = refl })
  | inl b ↦ elim (shown cs) [
    | inl all ↦ inl (All-cons IsBlank c cs b all)
    | inr h ↦ inr (
      h.0,
      h.1,
      record {
        prefix = c ∷ h.2.prefix;
        blank = All-cons IsBlank c h.2.prefix b h.2.blank;
        shows = h.2.shows;
        whole = ap (λ x. c ∷ x) h.2.whole;
      },
    )
  ]
]

-- a line that begins with another byte than `#` says something
pub not_idle : (line rest : List ℕ) (c : ℕ) → Begins line c rest → c ≢ 35 → ¬ IsIdle line
not_idle line rest c b n (inl all) = no_beginning line rest c b all
not_idle line rest c b n (inr note) =
    n ((one_beginning line rest note.1 c 35 b (record { prefix = note.0; blank = note.2; shows = note_shows; whole = note.3 })).0)

abbrev note_or_not : (line rest : List ℕ) (c : ℕ) → Begins line c rest → IsIdle line ⊎ (¬ IsIdle line)
note_or_not line rest c b = elim (same_or_not c 35) [
  | inl e ↦ inl (inr (b.prefix, rest, b.blank, b.whole ∙ ap (λ k. b.prefix ++ k ∷ rest) e))
  | inr n ↦ inr (not_idle line rest c b n)
]

-- a line says nothing or something
abbrev pub idle_or_not : (line : List ℕ) → IsIdle line ⊎ (¬ IsIdle line)
idle_or_not line = elim (shown line) [
  | inl all ↦ inl (inl all)
  | inr h ↦ note_or_not line h.1 h.0 h.2
]

pub stands_some : (u : List ℕ) (b : ℕ) → Stands u b → 0 < length u
stands_some [] b h = absurd (no_some (b, []) (stands_unit [] [] b h))
stands_some (c ∷ cs) b h = omega arith

-- a part that stands for a byte at the front, before fewer bytes
pub record HasUnit (rest : List ℕ) : Type 0 where
  pub unit : List ℕ
  pub suffix : List ℕ
  pub byte : ℕ
  pub whole : rest ≡ unit ++ suffix
  pub stands : Stands unit byte
  pub shorter : length suffix < length rest

abbrev unit_or_none : (rest : List ℕ) (o : Option (ℕ × List ℕ)) → unit_of rest ≡ o → HasUnit rest ⊎ (unit_of rest ≡ None)
unit_or_none rest None e = inr e
unit_or_none rest (Some p) e =
    let s = unit_stands rest p.1 p.0 e in
    inl (record {
      unit = s.0;
      suffix = p.1;
      byte = p.0;
      whole = s.1;
      stands = s.2;
      shorter = omega (arith, ap length s.1, length-append s.0 p.1, stands_some s.0 p.0 s.2);
    })

pub none_stands : (rest : List ℕ) → unit_of rest ≡ None → (u v : List ℕ) (b : ℕ) → rest ≡ u ++ v → ¬ Stands u b
none_stands rest none u v b e s = no_some (b, v) (sym none ∙ ap unit_of e ∙ stands_unit u v b s)

-- nothing stands at a byte other than a quote: it is a `\`
pub backslash : (c : ℕ) (rest : List ℕ) → c ≢ 34 → unit_of (c ∷ rest) ≡ None → c ≡ 92
backslash c rest n none = elim (same_or_not c 92) [
  | inl e ↦ e
  | inr m ↦ absurd (none_stands (c ∷ rest) none (c ∷ []) rest c refl (inl (refl, n, m)))
]

-- what stands after the first quote of a quoted word: its text and a quote, or an error
abbrev Inside : List ℕ → Type 0
Inside inner = ((w rest text : List ℕ) × (inner ≡ w ++ 34 ∷ rest) × SpellsText w text × (length text ≤ MAX_TEXT)) ⊎
    ((kind : RefusalKind) × IsBadText inner kind)

-- what is read of it so far
pub record SoFar (inner rest : List ℕ) : Type 0 where
  pub read : List ℕ
  pub text : List ℕ
  pub whole : inner ≡ read ++ rest
  pub spells : SpellsText read text
  pub few : length text ≤ MAX_TEXT

abbrev one_more : (inner rest : List ℕ) (h : SoFar inner rest) (u : HasUnit rest) → length h.text < MAX_TEXT → SoFar inner u.suffix
one_more inner rest h u room = record {
  read = h.read ++ u.unit;
  text = h.text ++ u.byte ∷ [];
  whole = h.whole ∙ ap (λ x. h.read ++ x) u.whole ∙ sym (append_assoc h.read u.unit u.suffix);
  spells = spells_push h.read u.unit h.text u.byte h.spells u.stands;
  few = omega (arith, room, length-append h.text (u.byte ∷ []));
}

abbrev inside : (n : ℕ) (inner rest : List ℕ) → length rest ≤ n → SoFar inner rest → Inside inner
inside n inner [] le h = inr (Unterminated, (h.read, [], h.text, h.whole, h.spells, h.few, inr (inr (refl, refl))))
inside zero inner (c ∷ rest) le h = absurd (omega (arith, le))
inside (suc n) inner (c ∷ rest) le h = elim (same_or_not c 34) [
  | inl e ↦ inl (h.read, rest, h.text, h.whole ∙ ap (λ k. h.read ++ k ∷ rest) e, h.spells, h.few)
  | inr other ↦ elim (unit_or_none (c ∷ rest) (unit_of (c ∷ rest)) refl) [
    | inr none ↦ inr (
      BadEscape,
      (
        h.read,
        c ∷ rest,
        h.text,
        h.whole,
        h.spells,
        h.few,
        inl (refl, (rest, ap (λ k. k ∷ rest) (backslash c rest other none)), none_stands (c ∷ rest) none),
      ),
    )
    | inl u ↦ elim (less_or_not (length h.text) MAX_TEXT) [
      | inl room ↦ inside n inner u.suffix (omega (arith, le, u.shorter)) (one_more inner (c ∷ rest) h u room)
      | inr full ↦ inr (
        LiteralTooLong,
        (
          h.read,
          c ∷ rest,
          h.text,
          h.whole,
          h.spells,
          h.few,
          inr (inl (refl, omega (arith, full, h.few), (u.unit, u.suffix, u.byte, u.whole, u.stands))),
        ),
      )
    ]
  ]
]

-- the bytes of a plain word at the front
pub record PlainPrefix (b : List ℕ) : Type 0 where
  pub prefix : List ℕ
  pub rest : List ℕ
  pub whole : b ≡ prefix ++ rest
  pub all : All IsPlainByte prefix
  pub ends : EndsPlain rest

abbrev plain_prefix : (b : List ℕ) → PlainPrefix b
plain_prefix [] = record { prefix = []; rest = []; whole = refl; all = All-nil IsPlainByte; ends = tt }
plain_prefix (c ∷ cs) = longer (plain_prefix cs) (plain_or_not c)
  where
    longer : PlainPrefix cs → IsPlainByte c ⊎ (¬ IsPlainByte c) → PlainPrefix (c ∷ cs)
    longer l (inl h) = record {
      prefix = c ∷ l.prefix;
      rest = l.rest;
      whole = ap (λ x. c ∷ x) l.whole;
      all = All-cons IsPlainByte c l.prefix h l.all;
      ends = l.ends;
    }
    longer l (inr n) = record { prefix = []; rest = c ∷ cs; whole = refl; all = All-nil IsPlainByte; ends = n }

-- the next word
pub record HasFirst (line : List ℕ) : Type 0 where
  pub word : Word
  pub rest : List ℕ
  pub is : HasWord line word rest
  pub shorter : length rest < length line

abbrev plain_first : (line rest : List ℕ) (c : ℕ) → Begins line c rest → c ≢ 34 → HasFirst line
plain_first line rest c b n =
    let l = plain_prefix rest in
    let whole : line ≡ b.prefix ++ (c ∷ l.prefix) ++ l.rest =
    b.whole ∙ ap (λ x. b.prefix ++ c ∷ x) l.whole ∙ sym (append_assoc b.prefix (c ∷ l.prefix) l.rest) in
    record {
      word = Plain (c ∷ l.prefix);
      rest = l.rest;
      is = (b.prefix, b.blank, whole, (λ e. cc), All-cons IsPlainByte c l.prefix (b.shows, n) l.all, l.ends);
      shorter = omega (arith, ap length whole, length-append (b.prefix ++ (c ∷ l.prefix)) l.rest, length-append b.prefix (c ∷ l.prefix));
    }

abbrev quoted_first : (line inner prefix : List ℕ) → All IsBlank prefix → line ≡ prefix ++ 34 ∷ inner → Inside inner → HasFirst line ⊎
    ((kind : RefusalKind) × BeginsBadText line kind)
quoted_first line inner prefix blank e (inr bad) = inr (bad.0, (prefix, inner, blank, e, bad.1))
quoted_first line inner prefix blank e (inl h) =
    let whole : line ≡ (prefix ++ 34 ∷ h.0) ++ 34 ∷ h.1 =
    e ∙ ap (λ x. prefix ++ 34 ∷ x) h.3 ∙ sym (append_assoc prefix (34 ∷ h.0) (34 ∷ h.1)) in
    inl (record {
      word = Quoted h.2;
      rest = h.1;
      is = (prefix, h.0, blank, whole, h.4, h.5);
      shorter = omega (arith, ap length whole, length-append (prefix ++ 34 ∷ h.0) (34 ∷ h.1));
    })

abbrev first_or_bad : (line rest : List ℕ) (c : ℕ) → Begins line c rest → HasFirst line ⊎ ((kind : RefusalKind) × BeginsBadText line kind)
first_or_bad line rest c b = elim (same_or_not c 34) [
  | inl e ↦ quoted_first line rest b.prefix b.blank (b.whole ∙ ap (λ k. b.prefix ++ k ∷ rest) e)
      (inside (length rest) rest rest (omega arith) (record { read = []; text = []; whole = refl; spells = refl; few = omega arith }))
  | inr n ↦ inl (plain_first line rest c b n)
]

abbrev WordsOrBad : List ℕ → Type 0
WordsOrBad line = ((ws : List Word) × HasWords line ws) ⊎ ((kind : RefusalKind) × HasBadBytes line kind)

-- one more word in front
abbrev after_word : (line : List ℕ) (w : HasFirst line) → WordsOrBad w.rest → WordsOrBad line
after_word line w (inl h) = inl (w.word ∷ h.0, (h.1.0, (w.rest, w.is, h.1.1), h.1.2))
after_word line w (inr h) = inr (h.0, (w.word ∷ h.1.0, h.1.1, (w.rest, w.is, h.1.2), h.1.3))

abbrev words_by : (line : List ℕ) → ((rest : List ℕ) → length rest < length line → WordsOrBad rest) → WordsOrBad line
words_by line more = elim (shown line) [
  | inl all ↦ inl ([], (line, refl, all))
  | inr h ↦ elim (first_or_bad line h.1 h.0 h.2) [
    | inl w ↦ after_word line w (more w.rest w.shorter)
    | inr bad ↦ inr (bad.0, ([], line, refl, bad.1))
  ]
]

abbrev words_up_to : (n : ℕ) (line : List ℕ) → length line ≤ n → WordsOrBad line
words_up_to zero line le = words_by line (λ rest lt. absurd (omega (arith, le, lt)))
words_up_to (suc n) line le = words_by line (λ rest lt. words_up_to n rest (omega (arith, le, lt)))

-- a line has words, or a first error of its bytes
abbrev pub words_or_bad : (line : List ℕ) → WordsOrBad line
words_or_bad line = words_up_to (length line) line (omega arith)

-- a line that isn't idle has a word
pub some_words : (line : List ℕ) (ws : List Word) → ¬ IsIdle line → HasWords line ws → ws ≢ []
some_words line [] shows h e = shows (inl (rw (h.1) h.2))
some_words line (w ∷ ws) shows h e = cc
