-- The laws of scripts, line by line.
use Rattle.std.specs.Prelude.{◌≡◌, ◌≤◌, ◌+◌, ◌∷◌, ◌⊎◌, ◌++◌}
use Rattle.cord_script.proofs.Common.{inl, inr, ℕ, List, [], refl, sym, ◌∙◌, ap, subst, length, length-append, arith, OneFormat}
use Rattle.cord_script.proofs.Common.{BadIsNoFormat, MAX_LINES, Statement, RefusalKind, IsSplit, Grammar, Scope, Block}
use Rattle.cord_script.proofs.Common.{Says, LinesSay, ReadsBy, start, after, after_all, whole, without_branches, InRepeat}
use Rattle.cord_script.proofs.Common.{HasBadWords, HasBadLine, IsFirstWrongAt, IsLeftOpen, FirstErrorBy}
use Rattle.cord_script.proofs.Unique.{one_words, good_bytes, one_bad_bytes, one_split}
use Rattle.cord_script.proofs.OneStatement.{good_words, one_bad_words, one_statement}

-- lines say one list of statements
one_saying : OneFormat → BadIsNoFormat → (g : Grammar) (n : ℕ) (scope : Scope) (lines : List (List ℕ)) (ss more : List Statement) →
    LinesSay g n scope lines ss → LinesSay g n scope lines more → ss ≡ more
one_saying one bad g n scope [] ss more h k = h ∙ sym k
one_saying one bad g n scope (line ∷ lines) ss more (inl h) (inl k) = one_saying one bad g (n + 1) scope lines ss more h.1 k.1
one_saying one bad g n scope (line ∷ lines) ss more (inl h) (inr k) = absurd (k.0 h.0)
one_saying one bad g n scope (line ∷ lines) ss more (inr h) (inl k) = absurd (h.0 k.0)
one_saying one bad g n scope (line ∷ lines) ss more (inr h) (inr k) =
    let words = one_words line h.2 k.2 h.5 k.5 in
    let s = one_statement one bad g n scope h.2 h.1 k.1 h.6 (subst (λ ws. Says g n scope ws k.1) (sym words) k.6) in
    let rest = one_saying one bad g (n + 1) (after h.1 scope) lines h.3 k.3 h.7
    (subst (λ x. LinesSay g (n + 1) (after x scope) lines k.3) (sym s) k.7) in
    h.4 ∙ ap (λ x. x ∷ h.3) s ∙ ap (λ x. k.1 ∷ x) rest ∙ sym k.4

-- a line that says something isn't wrong
says_fine : OneFormat → BadIsNoFormat → (g : Grammar) (n : ℕ) (scope : Scope) (line : List ℕ) (lines : List (List ℕ))
    (ss : List Statement) (kind : RefusalKind) → n ≤ MAX_LINES → LinesSay g n scope (line ∷ lines) ss → HasBadLine g n scope line kind → ⊥
says_fine one bad g n scope line lines ss kind few h (inl w) = omega (arith, w.0)
says_fine one bad g n scope line lines ss kind few (inl h) (inr w) = w.1 h.0
says_fine one bad g n scope line lines ss kind few (inr h) (inr (m, shows, inl w)) = good_bytes line h.2 kind h.5 w
says_fine one bad g n scope line lines ss kind few (inr h) (inr (m, shows, inr w)) =
    let words = one_words line h.2 w.0 h.5 w.1 in
    good_words one bad g n scope h.2 h.1 kind h.6 (subst (λ ws. HasBadWords g scope ws kind) (sym words) w.2)

-- lines that all say something are none of them wrong
no_stop : OneFormat → BadIsNoFormat → (g : Grammar) (n m : ℕ) (scope : Scope) (prefix : List (List ℕ)) (line : List ℕ)
    (later : List (List ℕ)) (ss more : List Statement) (kind : RefusalKind) → m ≡ n + length prefix → m ≤ MAX_LINES →
    LinesSay g n scope (prefix ++ line ∷ later) ss → LinesSay g n scope prefix more → HasBadLine g m (after_all more scope) line kind → ⊥
no_stop one bad g n m scope [] line later ss more kind e few h k w =
    let same : m ≡ n = omega arith in
    says_fine one bad g n scope line later ss kind (omega arith) h
    (subst (λ x. HasBadLine g x scope line kind) same (subst (λ x. HasBadLine g m (after_all x scope) line kind) k w))
no_stop one bad g n m scope (x ∷ prefix) line later ss more kind e few (inl h) (inl k) w =
    no_stop one bad g (n + 1) m scope prefix line later ss more kind (omega arith) few h.1 k.1 w
no_stop one bad g n m scope (x ∷ prefix) line later ss more kind e few (inl h) (inr k) w = k.0 h.0
no_stop one bad g n m scope (x ∷ prefix) line later ss more kind e few (inr h) (inl k) w = h.0 k.0
no_stop one bad g n m scope (x ∷ prefix) line later ss more kind e few (inr h) (inr k) w =
    let words = one_words x h.2 k.2 h.5 k.5 in
    let s = one_statement one bad g n scope h.2 h.1 k.1 h.6 (subst (λ ws. Says g n scope ws k.1) (sym words) k.6) in
    no_stop one bad g (n + 1) m (after k.1 scope) prefix line later h.3 k.3 kind (omega arith) few
    (subst (λ y. LinesSay g (n + 1) (after y scope) (prefix ++ line ∷ later) h.3) s h.7) k.7
    (subst (λ y. HasBadLine g m (after_all y scope) line kind) k.4 w)

line_within : (prefix : List (List ℕ)) (line : List ℕ) (later lines : List (List ℕ)) (n : ℕ) → prefix ++ line ∷ later ≡ lines →
    n ≡ length prefix + 1 → length lines ≤ MAX_LINES → n ≤ MAX_LINES
line_within prefix line later lines n e m few =
    let lengths = length-append prefix (line ∷ later) in
    let same = ap length e in
    omega arith

-- no line is wrong among these that say something
none_among : OneFormat → BadIsNoFormat → (g : Grammar) (b : List ℕ) (n : ℕ) (kind : RefusalKind) (h : IsFirstWrongAt g b n kind)
    (later lines : List (List ℕ)) (ss : List Statement) → h.prefix ++ h.line ∷ later ≡ lines → length lines ≤ MAX_LINES →
    LinesSay g 1 start lines ss → ⊥
none_among one bad g b n kind h later lines ss same few say =
    no_stop one bad g 1 n start h.prefix h.line later ss h.statements kind (omega (arith, h.number))
    (line_within h.prefix h.line later lines n same h.number few) (subst (λ x. LinesSay g 1 start x ss) (sym same) say) h.say h.wrong

-- a script that is read stops at no line
read_goes_on : OneFormat → BadIsNoFormat → (g : Grammar) (b : List ℕ) (lines : List (List ℕ)) (ss : List Statement) (n : ℕ)
    (kind : RefusalKind) → IsSplit b lines → length lines ≤ MAX_LINES → LinesSay g 1 start lines ss → IsFirstWrongAt g b n kind → ⊥
read_goes_on one bad g b lines ss n kind split few say h = none_among one bad g b n kind h h.later lines ss
    (one_split b (h.prefix ++ h.line ∷ h.later) lines h.split split) few say

-- a script that is read has no error
pub no_error : OneFormat → BadIsNoFormat → (g : Grammar) (b : List ℕ) (ss : List Statement) (n : ℕ) (kind : RefusalKind) → ReadsBy g b ss →
    FirstErrorBy g b n kind → ⊥
no_error one bad g b ss n kind r (inl h) = omega (arith, r.size, h.size)
no_error one bad g b ss n kind r (inr (inl h)) = read_goes_on one bad g b r.lines ss n kind r.split r.count r.say h
no_error one bad g b ss n kind r (inr (inr h)) =
    let lines = one_split b h.lines r.lines h.split r.split in
    let same = one_saying one bad g 1 start r.lines h.statements ss (subst (λ x. LinesSay g 1 start x h.statements) lines h.say) r.say in
    let clash : h.block ∷ h.others ≡ [] = sym h.blocks ∙ ap (λ x. (after_all x start).blocks) same ∙ r.closed in
    cc

-- at most one script is read
pub one_script : OneFormat → BadIsNoFormat → (g : Grammar) (b : List ℕ) (ss more : List Statement) → ReadsBy g b ss → ReadsBy g b more →
    ss ≡ more
one_script one bad g b ss more r q =
    let lines = one_split b q.lines r.lines q.split r.split in
    one_saying one bad g 1 start r.lines ss more r.say (subst (λ x. LinesSay g 1 start x more) lines q.say)

-- a line has one first error
one_bad_line : OneFormat → BadIsNoFormat → (g : Grammar) (n : ℕ) (scope : Scope) (line : List ℕ) (kind other : RefusalKind) →
    HasBadLine g n scope line kind → HasBadLine g n scope line other → kind ≡ other
one_bad_line one bad g n scope line kind other (inl h) (inl k) = h.1 ∙ sym k.1
one_bad_line one bad g n scope line kind other (inl h) (inr k) = absurd (omega (arith, h.0, k.0))
one_bad_line one bad g n scope line kind other (inr h) (inl k) = absurd (omega (arith, h.0, k.0))
one_bad_line one bad g n scope line kind other (inr (m, shows, inl h)) (inr (m', shows', inl k)) = one_bad_bytes line kind other h k
one_bad_line one bad g n scope line kind other (inr (m, shows, inl h)) (inr (m', shows', inr k)) = absurd (good_bytes line k.0 kind k.1 h)
one_bad_line one bad g n scope line kind other (inr (m, shows, inr h)) (inr (m', shows', inl k)) = absurd (good_bytes line h.0 other h.1 k)
one_bad_line one bad g n scope line kind other (inr (m, shows, inr h)) (inr (m', shows', inr k)) =
    let words = one_words line h.0 k.0 h.1 k.1 in
    one_bad_words one bad g scope h.0 kind other h.2 (subst (λ ws. HasBadWords g scope ws other) (sym words) k.2)

bad_number : (g : Grammar) (n : ℕ) (scope : Scope) (line : List ℕ) (kind : RefusalKind) → HasBadLine g n scope line kind →
    n ≤ MAX_LINES + 1
bad_number g n scope line kind (inl h) = omega (arith, h.0)
bad_number g n scope line kind (inr h) = omega (arith, h.0)

-- lines up to two places: the places are one, or one is in front of the other
parted : (p q : List (List ℕ)) (l m : List ℕ) (s t : List (List ℕ)) → p ++ l ∷ s ≡ q ++ m ∷ t → ((p ≡ q) × (l ≡ m)) ⊎
    ((more : List (List ℕ)) × (p ++ l ∷ more ≡ q)) ⊎ ((more : List (List ℕ)) × (q ++ m ∷ more ≡ p))
parted [] [] l m s t e = inl (refl, cc)
parted [] (y ∷ q) l m s t e = inr (inl (q, let same : l ≡ y = cc in ap (λ k. k ∷ q) same))
parted (x ∷ p) [] l m s t e = inr (inr (p, let same : m ≡ x = cc in ap (λ k. k ∷ p) same))
parted (x ∷ p) (y ∷ q) l m s t e =
    let first : x ≡ y = cc in
    let others : p ++ l ∷ s ≡ q ++ m ∷ t = cc in
    elim (parted p q l m s t others) [
      | inl h ↦ inl (ap (λ k. k ∷ p) first ∙ ap (λ k. y ∷ k) h.0, h.1)
      | inr h ↦ inr (elim h [
        | inl k ↦ inl (k.0, ap (λ z. z ∷ p ++ l ∷ k.0) first ∙ ap (λ z. y ∷ z) k.1)
        | inr k ↦ inr (k.0, ap (λ z. z ∷ q ++ m ∷ k.0) (sym first) ∙ ap (λ z. x ∷ z) k.1)
      ])
    ]

few_before : (g : Grammar) (b : List ℕ) (n : ℕ) (kind : RefusalKind) (h : IsFirstWrongAt g b n kind) → length h.prefix ≤ MAX_LINES
few_before g b n kind h = omega (arith, h.number, bad_number g n (after_all h.statements start) h.line kind h.wrong)

-- lines stop at one line
one_stop : OneFormat → BadIsNoFormat → (g : Grammar) (b : List ℕ) (m n : ℕ) (kind other : RefusalKind) → IsFirstWrongAt g b m kind →
    IsFirstWrongAt g b n other → (m ≡ n) × (kind ≡ other)
one_stop one bad g b m n kind other h k = elim (parted h.prefix k.prefix h.line k.line h.later k.later (one_split b _ _ h.split k.split)) [
  | inl same ↦
      let statements = one_saying one bad g 1 start k.prefix h.statements k.statements
      (subst (λ x. LinesSay g 1 start x h.statements) same.0 h.say) k.say in
      let numbers : m ≡ n = omega (arith, h.number, k.number, ap length same.0) in
      let wrong = subst (λ x. HasBadLine g x (after_all h.statements start) h.line kind) numbers h.wrong in
      let here = subst (λ x. HasBadLine g n (after_all x start) h.line kind) statements wrong in (
        numbers,
        one_bad_line one bad g n (after_all k.statements start) k.line kind other
            (subst (λ x. HasBadLine g n (after_all k.statements start) x kind) same.1 here) k.wrong,
      )
  | inr apart ↦ absurd (elim apart [
    | inl x ↦ none_among one bad g b m kind h x.0 k.prefix k.statements x.1 (few_before g b n other k) k.say
    | inr x ↦ none_among one bad g b n other k x.0 h.prefix h.statements x.1 (few_before g b m kind h) h.say
  ])
]

one_left : (block : Block) (m n : ℕ) (kind other : RefusalKind) → IsLeftOpen block m kind → IsLeftOpen block n other →
    (m ≡ n) × (kind ≡ other)
one_left (InRepeat line) m n kind other h k = (h.0 ∙ sym k.0, h.1 ∙ sym k.1)
one_left _ m n kind other h k = (h.0 ∙ sym k.0, h.1 ∙ sym k.1)

-- bytes have one first error
pub one_error : OneFormat → BadIsNoFormat → (g : Grammar) (b : List ℕ) (m n : ℕ) (kind other : RefusalKind) → FirstErrorBy g b m kind →
    FirstErrorBy g b n other → (m ≡ n) × (kind ≡ other)
one_error one bad g b m n kind other (inl h) (inl k) = (h.line ∙ sym k.line, h.is ∙ sym k.is)
one_error one bad g b m n kind other (inl h) (inr (inl k)) = absurd (omega (arith, h.size, k.size))
one_error one bad g b m n kind other (inl h) (inr (inr k)) = absurd (omega (arith, h.size, k.size))
one_error one bad g b m n kind other (inr (inl h)) (inl k) = absurd (omega (arith, h.size, k.size))
one_error one bad g b m n kind other (inr (inr h)) (inl k) = absurd (omega (arith, h.size, k.size))
one_error one bad g b m n kind other (inr (inl h)) (inr (inl k)) = one_stop one bad g b m n kind other h k
one_error one bad g b m n kind other (inr (inl h)) (inr (inr k)) =
    absurd (read_goes_on one bad g b k.lines k.statements m kind k.split k.count k.say h)
one_error one bad g b m n kind other (inr (inr h)) (inr (inl k)) =
    absurd (read_goes_on one bad g b h.lines h.statements n other h.split h.count h.say k)
one_error one bad g b m n kind other (inr (inr h)) (inr (inr k)) =
    let lines = one_split b k.lines h.lines k.split h.split in
    let same = one_saying one bad g 1 start h.lines k.statements h.statements
    (subst (λ x. LinesSay g 1 start x k.statements) lines k.say) h.say in
    let blocks : h.block ∷ h.others ≡ k.block ∷ k.others = sym h.blocks ∙ ap (λ x. (after_all x start).blocks) (sym same) ∙ k.blocks in
    let block : h.block ≡ k.block = cc in
    one_left h.block m n kind other h.left (subst (λ x. IsLeftOpen x n other) (sym block) k.left)

-- a line that says a statement without branches says it with them
more_lines : (n : ℕ) (scope : Scope) (lines : List (List ℕ)) (ss : List Statement) → LinesSay without_branches n scope lines ss →
    LinesSay whole n scope lines ss
more_lines n scope [] ss h = h
more_lines n scope (line ∷ lines) ss (inl h) = inl (h.0, more_lines (n + 1) scope lines ss h.1)
more_lines n scope (line ∷ lines) ss (inr h) =
    let says : Says whole n scope h.2 h.1 = record {
      has = refl;
      line = h.6.line;
      others = h.6.others;
      word = h.6.word;
      terms = h.6.terms;
      suits = h.6.suits;
      allowed = h.6.allowed;
      blocks = h.6.blocks;
    } in
    inr (h.0, h.1, h.2, h.3, h.4, h.5, says, more_lines (n + 1) (after h.1 scope) lines h.3 h.7)

-- a script that is read without branches is read with them
pub with_branches : (b : List ℕ) (ss : List Statement) → ReadsBy without_branches b ss → ReadsBy whole b ss
with_branches b ss r = record {
  size = r.size;
  lines = r.lines;
  split = r.split;
  count = r.count;
  say = more_lines 1 start r.lines ss r.say;
  closed = r.closed;
}
