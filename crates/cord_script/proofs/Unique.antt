-- A script has one list of lines, and a line one list of words or one first error of its bytes.
use Rattle.std.specs.Prelude.{◌≡◌, ◌≢◌, ◌≤◌, ◌<◌, ◌+◌, ◌*◌, ◌⊎◌, ◌∷◌, ◌++◌, ◌==◌, ◌&&◌, if◌then◌else◌}
use Rattle.cord_script.proofs.Common.{inl, inr, Some, None, ℕ, List, [], Bool, true, false, refl, sym, ◌∙◌, ap, subst, append_assoc, length}
use Rattle.cord_script.proofs.Common.{arith, Option, All, All-head, nat_le, le-leb, ne_eqb, MAX_TEXT, RefusalKind, Word, Plain, Quoted}
use Rattle.cord_script.proofs.Common.{IsSplit, IsBlank, IsPlainByte, EndsPlain, Stands, SpellsText, HexDigit, HasWord, HasWords, StartsWith}
use Rattle.cord_script.proofs.Common.{IsBadEnd, IsBadText, BeginsBadText, HasBadBytes, Unterminated, BadEscape, LiteralTooLong, digit_of, byte_of, escape_of, unit_of}
use Rattle.cord_script.proofs.Common.{and_from}
use Rattle.std.proofs.lemmas.Bool.Decides.{nat_tests}
use Rattle.cord_script.proofs.Lines.{split_nil, among_all, one_run, one_shown}
use Rattle.cord_script.proofs.Spelled.{same_pair, unit_stands}

pub within : (low high c : ℕ) → low ≤ c → c ≤ high → (nat_le low c && nat_le c high) ≡ true
within low high c l h = and_from (nat_le low c) (nat_le c high) (le-leb low c l) (le-leb c high h)

pub above : (low high c : ℕ) → high < c → (nat_le low c && nat_le c high) ≡ false
above low high c h = grind (arith, nat_tests)

pub below : (low high c : ℕ) → c < low → (nat_le low c && nat_le c high) ≡ false
below low high c h = grind (arith, nat_tests)

-- the value of a digit is computed
digit_read : (c v : ℕ) → HexDigit c v → digit_of c ≡ Some v
digit_read c v (inl h) = grind (arith, nat_tests)
digit_read c v (inr (inl h)) = grind (arith, nat_tests)
digit_read c v (inr (inr h)) = grind (arith, nat_tests)

self_by : (b : ℕ) (v : List ℕ) (x y : Bool) → x ≡ false → y ≡ false → (if x then escape_of v else (if y then None else Some (b, v)))
    ≡ Some (b, v)
self_by b v false false p q = refl
self_by b v _ _ p q = cc

byte_read : (high low : Option ℕ) (x y : ℕ) (v : List ℕ) → high ≡ Some x → low ≡ Some y → byte_of high low v ≡ Some (16 * x + y, v)
byte_read high low x y v p q = ap (λ k. byte_of k low v) p ∙ ap (λ k. byte_of (Some x) k v) q

-- what stands for a byte is read at the front
pub stands_unit : (u v : List ℕ) (b : ℕ) → Stands u b → unit_of (u ++ v) ≡ Some (b, v)
stands_unit u v b (inl h) = ap (λ x. unit_of (x ++ v)) h.0 ∙ self_by b v (b == 92) (b == 34) (ne_eqb b 92 h.2) (ne_eqb b 34 h.1)
stands_unit u v b (inr (inl h)) = ap (λ x. unit_of (x ++ v)) h.0 ∙ ap (λ k. Some (k, v)) (sym h.1)
stands_unit u v b (inr (inr (inl h))) = ap (λ x. unit_of (x ++ v)) h.0 ∙ ap (λ k. Some (k, v)) (sym h.1)
stands_unit u v b (inr (inr (inr (inl h)))) = ap (λ x. unit_of (x ++ v)) h.0 ∙ ap (λ k. Some (k, v)) (sym h.1)
stands_unit u v b (inr (inr (inr (inr (inl h))))) = ap (λ x. unit_of (x ++ v)) h.0 ∙ ap (λ k. Some (k, v)) (sym h.1)
stands_unit u v b (inr (inr (inr (inr (inr h))))) =
    ap (λ x. unit_of (x ++ v)) h.4 ∙ byte_read (digit_of h.0) (digit_of h.1) h.2 h.3 v (digit_read h.0 h.2 h.5) (digit_read h.1 h.3 h.6)
    ∙ ap (λ k. Some (k, v)) (sym h.7)

-- the first byte of a spelled text is read at its front
whole_unit : (w u v rest : List ℕ) (b : ℕ) → w ≡ u ++ v → Stands u b → unit_of (w ++ rest) ≡ Some (b, v ++ rest)
whole_unit w u v rest b e s = ap (λ x. unit_of (x ++ rest)) e ∙ ap unit_of (append_assoc u v rest) ∙ stands_unit u (v ++ rest) b s

-- A text that ends, with so many bytes of it in front: nothing is read of the rest, or the text is as long as it may be.
abbrev Ends : ℕ → List ℕ → List ℕ → Type 0
Ends k t rest = ((unit_of rest ≡ None) × (k + length t ≤ MAX_TEXT)) ⊎ (k + length t ≡ MAX_TEXT)

pub no_some : (p : ℕ × List ℕ) → None ≡ Some p → ⊥
no_some p e = cc

ends_next : (k b : ℕ) (t rest : List ℕ) → Ends k (b ∷ t) rest → Ends (k + 1) t rest
ends_next k b t rest (inl h) = inl (h.0, omega (arith, h.1))
ends_next k b t rest (inr h) = inr (omega (arith, h))

-- a text that goes on doesn't end before another that ends
no_sooner : (k b : ℕ) (t rest rest' : List ℕ) (p : ℕ × List ℕ) → unit_of rest ≡ Some p → Ends k [] rest → Ends k (b ∷ t) rest' → ⊥
no_sooner k b t rest rest' p read (inl h) longer = no_some p (sym h.0 ∙ read)
no_sooner k b t rest rest' p read (inr h) (inl longer) = omega (arith, h, longer.1)
no_sooner k b t rest rest' p read (inr h) (inr longer) = omega (arith, h, longer)

-- a text ends at one place
pub one_text : (k : ℕ) (w w' rest rest' t t' : List ℕ) → SpellsText w t → SpellsText w' t' → w ++ rest ≡ w' ++ rest' → Ends k t rest → Ends k t' rest' →
    (t ≡ t') × (rest ≡ rest')
one_text k w w' rest rest' [] [] s s' e n n' = (refl, sym (ap (λ x. x ++ rest) s) ∙ e ∙ ap (λ x. x ++ rest') s')
one_text k w w' rest rest' [] (b ∷ t') s s' e n n' =
    let same = ap unit_of (sym (ap (λ x. x ++ rest) s) ∙ e) in
    absurd (no_sooner k b t' rest rest' _ (same ∙ whole_unit w' s'.0 s'.1 rest' b s'.2 s'.3) n n')
one_text k w w' rest rest' (b ∷ t) [] s s' e n n' =
    let same = ap unit_of (sym (ap (λ x. x ++ rest') s') ∙ sym e) in
    absurd (no_sooner k b t rest' rest _ (same ∙ whole_unit w s.0 s.1 rest b s.2 s.3) n' n)
one_text k w w' rest rest' (b ∷ t) (b' ∷ t') s s' e n n' =
    let read = whole_unit w s.0 s.1 rest b s.2 s.3 in
    let read' = whole_unit w' s'.0 s'.1 rest' b' s'.2 s'.3 in
    let p = same_pair (b, s.1 ++ rest) (b', s'.1 ++ rest') (sym read ∙ ap unit_of e ∙ read') in
    let r = one_text (k + 1) s.1 s'.1 rest rest' t t' s.4 s'.4 p.1 (ends_next k b t rest n) (ends_next k b' t' rest' n') in
    (ap (λ k. k ∷ t) p.0 ∙ ap (λ k. b' ∷ k) r.0, r.1)

none_of : (o : Option (ℕ × List ℕ)) → ((p : ℕ × List ℕ) → o ≡ Some p → ⊥) → o ≡ None
none_of None h = refl
none_of (Some p) h = absurd (h p refl)

-- nothing is read where nothing stands
stuck : (rest : List ℕ) → ((u v : List ℕ) (b : ℕ) → rest ≡ u ++ v → ¬ Stands u b) → unit_of rest ≡ None
stuck rest h = none_of (unit_of rest) (λ p e. let s = unit_stands rest p.1 p.0 e in h s.0 p.1 p.0 s.1 s.2)

-- a text with an error ends
bad_ends : (t rest : List ℕ) (kind : RefusalKind) → length t ≤ MAX_TEXT → IsBadEnd t rest kind → Ends 0 t rest
bad_ends t rest kind few (inl h) = inl (stuck rest h.2, omega (arith, few))
bad_ends t rest kind few (inr (inl h)) = inr (omega (arith, h.1))
bad_ends t rest kind few (inr (inr h)) = inl (ap unit_of h.1, omega (arith, few))

-- the error is that of what is read of the rest
abbrev end_error : Option (ℕ × List ℕ) → List ℕ → RefusalKind
end_error (Some p) rest = LiteralTooLong
end_error None [] = Unterminated
end_error None (c ∷ cs) = BadEscape

bad_is : (t rest : List ℕ) (kind : RefusalKind) → IsBadEnd t rest kind → kind ≡ end_error (unit_of rest) rest
bad_is t rest kind (inl h) = h.0 ∙ sym (ap (λ o. end_error o rest) (stuck rest h.2) ∙ ap (end_error None) h.1.1)
bad_is t rest kind (inr (inl h)) = h.0 ∙ sym (ap (λ o. end_error o rest) (ap unit_of h.2.3 ∙ stands_unit h.2.0 h.2.1 h.2.2 h.2.4))
bad_is t rest kind (inr (inr h)) = h.0 ∙ sym (ap (λ r. end_error (unit_of r) r) h.1)

-- the first byte, or 0
abbrev pub head_or : List ℕ → ℕ
head_or [] = 0
head_or (c ∷ cs) = c

-- a quote is no error
quote_ends : (t r : List ℕ) (kind : RefusalKind) → IsBadEnd t (34 ∷ r) kind → ⊥
quote_ends t r kind (inl h) = let clash : 34 ≡ 92 = ap head_or h.1.1 in omega (arith, clash)
quote_ends t r kind (inr (inl h)) = no_some (h.2.2, h.2.1) (ap unit_of h.2.3 ∙ stands_unit h.2.0 h.2.1 h.2.2 h.2.4)
quote_ends t r kind (inr (inr h)) = cc

-- a closed text has no error
closed_good : (inner w r t : List ℕ) (kind : RefusalKind) → inner ≡ w ++ 34 ∷ r → SpellsText w t → length t ≤ MAX_TEXT → IsBadText inner kind →
    ⊥
closed_good inner w r t kind e s few (w', rest, t', e', s', few', h) =
    let q = one_text 0 w w' (34 ∷ r) rest t t' s s' (sym e ∙ e') (inl (refl, omega (arith, few))) (bad_ends t' rest kind few' h) in
    quote_ends t' r kind (subst (λ x. IsBadEnd t' x kind) (sym q.1) h)

-- a text has one error
pub one_bad_text : (inner : List ℕ) (kind kind' : RefusalKind) → IsBadText inner kind → IsBadText inner kind' → kind ≡ kind'
one_bad_text inner kind kind' (w, rest, t, e, s, few, h) (w', rest', t', e', s', few', h') =
    let q = one_text 0 w w' rest rest' t t' s s' (sym e ∙ e') (bad_ends t rest kind few h) (bad_ends t' rest' kind' few' h') in
    bad_is t rest kind h ∙ ap (λ r. end_error (unit_of r) r) q.1 ∙ sym (bad_is t' rest' kind' h')

-- the first byte that is no blank, and what follows it
pub record Begins (line : List ℕ) (c : ℕ) (rest : List ℕ) : Type 0 where
  pub prefix : List ℕ
  pub blank : All IsBlank prefix
  pub shows : ¬ IsBlank c
  pub whole : line ≡ prefix ++ c ∷ rest

quote_shows : ¬ IsBlank 34
quote_shows = λ h. elim h [ inl e ↦ omega arith | inr k ↦ elim k [ inl e ↦ omega arith | inr e ↦ omega arith ] ]

pub one_beginning : (line rest rest' : List ℕ) (c c' : ℕ) → Begins line c rest → Begins line c' rest' → (c ≡ c') × (rest ≡ rest')
one_beginning line rest rest' c c' b b' =
    one_shown b.prefix b'.prefix c c' rest rest' b.blank b.shows b'.blank b'.shows (sym b.whole ∙ b'.whole)

pub no_beginning : (line rest : List ℕ) (c : ℕ) → Begins line c rest → All IsBlank line → ⊥
no_beginning line rest c b all = b.shows (among_all IsBlank b.prefix rest c (subst (All IsBlank) b.whole all))

-- how a plain word begins
pub record BeginsPlain (line p rest : List ℕ) : Type 0 where
  pub first : ℕ
  pub others : List ℕ
  pub is : p ≡ first ∷ others
  pub no_quote : first ≢ 34
  pub begins : Begins line first (others ++ rest)

pub plain_begins : (line p rest : List ℕ) → HasWord line (Plain p) rest → BeginsPlain line p rest
plain_begins line [] rest h = absurd (h.3 refl)
plain_begins line (c ∷ cs) rest h =
    let plain = All-head IsPlainByte c cs h.4 in
    record {
      first = c;
      others = cs;
      is = refl;
      no_quote = plain.1;
      begins = record { prefix = h.0; blank = h.1; shows = plain.0; whole = h.2 ∙ append_assoc h.0 (c ∷ cs) rest };
    }

quoted_begins : (line text rest : List ℕ) (h : HasWord line (Quoted text) rest) → Begins line 34 (h.1 ++ 34 ∷ rest)
quoted_begins line text rest h = record {
  prefix = h.0;
  blank = h.2;
  shows = quote_shows;
  whole = h.3 ∙ append_assoc h.0 (34 ∷ h.1) (34 ∷ rest);
}

bad_begins : (line : List ℕ) (kind : RefusalKind) (h : BeginsBadText line kind) → Begins line 34 h.1
bad_begins line kind h = record { prefix = h.0; blank = h.2; shows = quote_shows; whole = h.3 }

-- a plain word begins with no quote
no_quote : (line p rest inner : List ℕ) → HasWord line (Plain p) rest → Begins line 34 inner → ⊥
no_quote line p rest inner h q =
    let b = plain_begins line p rest h in
    b.no_quote ((one_beginning line (b.others ++ rest) inner b.first 34 b.begins q).0)

-- a line has one first word
one_word : (line rest rest' : List ℕ) (w w' : Word) → HasWord line w rest → HasWord line w' rest' → (w ≡ w') × (rest ≡ rest')
one_word line rest rest' (Plain p) (Plain p') h h' =
    let b = plain_begins line p rest h in
    let b' = plain_begins line p' rest' h' in
    let r = one_beginning line (b.others ++ rest) (b'.others ++ rest') b.first b'.first b.begins b'.begins in
    let whole : p ++ rest ≡ p' ++ rest' = ap (λ x. x ++ rest) b.is ∙ ap (λ x. x ∷ b.others ++ rest) r.0 ∙ ap (λ x. b'.first ∷ x) r.1
    ∙ sym (ap (λ x. x ++ rest') b'.is) in
    let q = one_run IsPlainByte EndsPlain (λ _ _ ends. ends) p p' rest rest' h.4 h.5 h'.4 h'.5 whole in
    (ap Plain q.0, q.1)
one_word line rest rest' (Plain p) (Quoted t') h h' = absurd (no_quote line p rest (h'.1 ++ 34 ∷ rest') h (quoted_begins line t' rest' h'))
one_word line rest rest' (Quoted t) (Plain p') h h' = absurd (no_quote line p' rest' (h.1 ++ 34 ∷ rest) h' (quoted_begins line t rest h))
one_word line rest rest' (Quoted t) (Quoted t') h h' =
    let r = one_beginning line (h.1 ++ 34 ∷ rest) (h'.1 ++ 34 ∷ rest') 34 34 (quoted_begins line t rest h)
    (quoted_begins line t' rest' h') in
    let q = one_text 0 h.1 h'.1 (34 ∷ rest) (34 ∷ rest') t t' h.4 h'.4 r.1 (inl (refl, omega (arith, h.5))) (inl (refl, omega (arith, h'.5))) in
    let suffix : rest ≡ rest' = let e = q.1 in cc in
    (ap Quoted q.0, suffix)

-- no word stands first
abbrev NoWord : List ℕ → Type 0
NoWord line = (rest : List ℕ) (w : Word) → ¬ HasWord line w rest

no_word : (line : List ℕ) → All IsBlank line → NoWord line
no_word line all rest (Plain p) h = let b = plain_begins line p rest h in no_beginning line (b.others ++ rest) b.first b.begins all
no_word line all rest (Quoted t) h = no_beginning line (h.1 ++ 34 ∷ rest) 34 (quoted_begins line t rest h) all

good_word : (line : List ℕ) (kind : RefusalKind) → BeginsBadText line kind → NoWord line
good_word line kind bad rest (Plain p) h = no_quote line p rest bad.1 h (bad_begins line kind bad)
good_word line kind bad rest (Quoted t) h =
    let r = one_beginning line (h.1 ++ 34 ∷ rest) bad.1 34 34 (quoted_begins line t rest h) (bad_begins line kind bad) in
    closed_good bad.1 h.1 rest t kind (sym r.1) h.4 h.5 bad.4

-- words that no word follows end at one place
starts_one : (line rest rest' : List ℕ) (ws ws' : List Word) → StartsWith line ws rest → NoWord rest → StartsWith line ws' rest' →
    NoWord rest' → (ws ≡ ws') × (rest ≡ rest')
starts_one line rest rest' [] [] s stops s' stops' = (refl, sym s ∙ s')
starts_one line rest rest' [] (w' ∷ ws') s stops s' stops' = absurd (stops s'.0 w' (subst (λ x. HasWord x w' s'.0) s s'.1))
starts_one line rest rest' (w ∷ ws) [] s stops s' stops' = absurd (stops' s.0 w (subst (λ x. HasWord x w s.0) s' s.1))
starts_one line rest rest' (w ∷ ws) (w' ∷ ws') s stops s' stops' =
    let r = one_word line s.0 s'.0 w w' s.1 s'.1 in
    let q = starts_one s.0 rest rest' ws ws' s.2 stops (subst (λ x. StartsWith x ws' rest') (sym r.1) s'.2) stops' in
    (ap (λ k. k ∷ ws) r.0 ∙ ap (λ k. w' ∷ k) q.0, q.1)

-- a line has one list of words
pub one_words : (line : List ℕ) (ws ws' : List Word) → HasWords line ws → HasWords line ws' → ws ≡ ws'
one_words line ws ws' h h' = (starts_one line h.0 h'.0 ws ws' h.1 (no_word h.0 h.2) h'.1 (no_word h'.0 h'.2)).0

-- a line that has words has no error of its bytes
pub good_bytes : (line : List ℕ) (ws : List Word) (kind : RefusalKind) → HasWords line ws → HasBadBytes line kind → ⊥
good_bytes line ws kind h bad =
    let same = (starts_one line h.0 bad.1 ws bad.0 h.1 (no_word h.0 h.2) bad.2 (good_word bad.1 kind bad.3)).1 in
    no_beginning bad.1 bad.3.1 34 (bad_begins bad.1 kind bad.3) (subst (All IsBlank) same h.2)

-- the bytes of a line have one first error
pub one_bad_bytes : (line : List ℕ) (kind kind' : RefusalKind) → HasBadBytes line kind → HasBadBytes line kind' → kind ≡ kind'
one_bad_bytes line kind kind' h h' =
    let same = (starts_one line h.1 h'.1 h.0 h'.0 h.2 (good_word h.1 kind h.3) h'.2 (good_word h'.1 kind' h'.3)).1 in
    let at = subst (λ x. BeginsBadText x kind) same h.3 in
    let r = one_beginning h'.1 at.1 h'.3.1 34 34 (bad_begins h'.1 kind at) (bad_begins h'.1 kind' h'.3) in
    one_bad_text at.1 kind kind' at.4 (subst (λ x. IsBadText x kind') (sym r.1) h'.3.4)

-- a line ends at its first byte 10
one_end : (l l' r r' : List ℕ) → All (λ c. c ≢ 10) l → All (λ c. c ≢ 10) l' → l ++ 10 ∷ r ≡ l' ++ 10 ∷ r' → (l ≡ l') × (r ≡ r')
one_end l l' r r' a a' e =
    let q = one_run (λ c. c ≢ 10) (λ s. head_or s ≡ 10) (λ _ _ is other. other is) l l' (10 ∷ r) (10 ∷ r') a refl a' refl e in
    (q.0, let same = q.1 in cc)

no_end : (l prefix r : List ℕ) → All (λ c. c ≢ 10) l → l ≡ prefix ++ 10 ∷ r → ⊥
no_end l prefix r a e = among_all (λ c. c ≢ 10) prefix r 10 (subst (All (λ c. c ≢ 10)) e a) refl

-- a script has one list of lines
pub one_split : (b : List ℕ) (ls ls' : List (List ℕ)) → IsSplit b ls → IsSplit b ls' → ls ≡ ls'
one_split b [] ls' h h' = sym (split_nil ls' (subst (λ x. IsSplit x ls') h h'))
one_split b (l ∷ ls) [] h h' = split_nil (l ∷ ls) (subst (λ x. IsSplit x (l ∷ ls)) h' h)
one_split b (l ∷ ls) (l' ∷ ls') (a, inl h) (a', inl h') = ap (λ k. k ∷ ls) (sym h.2 ∙ h'.2) ∙ ap (λ k. l' ∷ k) (h.0 ∙ sym h'.0)
one_split b (l ∷ ls) (l' ∷ ls') (a, inl h) (a', inr h') = absurd (no_end l l' h'.0 a (sym h.2 ∙ h'.1))
one_split b (l ∷ ls) (l' ∷ ls') (a, inr h) (a', inl h') = absurd (no_end l' l h.0 a' (sym h'.2 ∙ h.1))
one_split b (l ∷ ls) (l' ∷ ls') (a, inr h) (a', inr h') =
    let q = one_end l l' h.0 h'.0 a a' (sym h.1 ∙ h'.1) in
    let r = one_split h.0 ls ls' h.2 (subst (λ x. IsSplit x ls') (sym q.1) h'.2) in
    ap (λ k. k ∷ ls) q.0 ∙ ap (λ k. l' ∷ k) r
