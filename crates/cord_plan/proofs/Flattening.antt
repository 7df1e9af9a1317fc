-- A `cat` flattened means what the nested one means; expressions in the place of operands mean what the operands do.
use Rattle.std.specs.Prelude.{◌≡◌, ◌∷◌, ◌++◌}
use Rattle.cord_plan.proofs.Common.{ℕ, pos, List, [], map, Option, Some, Result, Ok, Err, refl, sym, ap, ◌∙◌, append_assoc}
use Rattle.cord_plan.proofs.Common.{append-nil, Numeral, Statement, Chars, Nul, Cat, Catn, Catc, Substr, Put, FaultKind, State}
use Rattle.cord_plan.proofs.Common.{number_value, and_then, Expr, name, run, cat, Exprs, nothing, member, append, preceding, members}
use Rattle.cord_plan.proofs.Common.{read_by, expr_with, defining, within, part_of, text_in, nested, HaveTexts}
use Rattle.cord_plan.proofs.Values.{passes, joined_in, cat_joined}

-- one text after another
abbrev suffix : Result (List ℕ) FaultKind → Result (List ℕ) FaultKind → Result (List ℕ) FaultKind
suffix r q = and_then r (λ text. and_then q (λ rest. Ok (text ++ rest)))

after_assoc : (r q p : Result (List ℕ) FaultKind) → suffix r (suffix q p) ≡ suffix (suffix r q) p
after_assoc (Ok t) (Ok u) (Ok v) = ap (λ (x : List ℕ). Ok x) (sym (append_assoc t u v))
after_assoc _ _ _ = refl

none_preceding : (r : Result (List ℕ) FaultKind) → r ≡ suffix (Ok []) r
none_preceding (Ok t) = refl
none_preceding (Err kind) = refl

module _ (limit : ℕ) (s : State) where
  append_joined : (es others : Exprs) → joined_in limit s (append es others) ≡ suffix (joined_in limit s es) (joined_in limit s others)
  append_joined nothing others = none_preceding (joined_in limit s others)
  append_joined (member e es) others =
      ap (λ (r : Result (List ℕ) FaultKind). suffix (text_in limit s e) r) (append_joined es others)
      ∙ after_assoc (text_in limit s e) (joined_in limit s es) (joined_in limit s others)

  prefix_joined : (e : Expr) (others : Exprs) (text : List ℕ) → text_in limit s e ≡ Ok text →
      joined_in limit s (preceding e others) ≡ suffix (Ok text) (joined_in limit s others)
  prefix_joined (cat es) others text h = append_joined es others
      ∙ ap (λ (r : Result (List ℕ) FaultKind). suffix r (joined_in limit s others)) (cat_joined limit s es text h).joined
  prefix_joined e others text h = ap (λ (r : Result (List ℕ) FaultKind). suffix r (joined_in limit s others)) h

  nested_joined : (es : List Expr) (text : List ℕ) → joined_in limit s (nested es) ≡ Ok text → joined_in limit s (members es) ≡ Ok text
  nested_joined [] text h = h
  nested_joined (e ∷ es) text h =
      let p = passes (text_in limit s e) (λ t. and_then (joined_in limit s (nested es)) (λ rest. Ok (t ++ rest))) text h in
      let q = passes (joined_in limit s (nested es)) (λ rest. Ok (p.middle ++ rest)) text p.next in
      prefix_joined e (members es) p.middle p.first
      ∙ ap (λ (r : Result (List ℕ) FaultKind). suffix (Ok p.middle) r) (nested_joined es q.middle q.first)
      ∙ q.next

  -- a `cat` of members is their `cat` as they stand, where that has no fault
  pub flattened : (es : List Expr) (text : List ℕ) → text_in limit s (cat (nested es)) ≡ Ok text →
      text_in limit s (cat (members es)) ≡ Ok text
  flattened es text h =
      let p = passes (joined_in limit s (nested es)) (λ t. within limit t) text h in
      ap (λ (r : Result (List ℕ) FaultKind). and_then r (λ t. within limit t)) (nested_joined es p.middle p.first) ∙ p.next

  -- expressions of the same texts are the same as members
  same_joined : (es fs : List Expr) (ts : List (List ℕ)) (more : List Expr) → HaveTexts limit s es ts → HaveTexts limit s fs ts →
      joined_in limit s (members (es ++ more)) ≡ joined_in limit s (members (fs ++ more))
  same_joined [] [] [] more h k = refl
  same_joined [] (f ∷ fs) [] more h k = absurd k
  same_joined (e ∷ es) [] (t ∷ ts) more h k = absurd k
  same_joined (e ∷ es) (f ∷ fs) (t ∷ ts) more h k =
      prefix_joined e (members (es ++ more)) t h.0
      ∙ ap (λ (r : Result (List ℕ) FaultKind). suffix (Ok t) r) (same_joined es fs ts more h.1 k.1)
      ∙ sym (prefix_joined f (members (fs ++ more)) t k.0)
  same_joined _ _ _ more h k = absurd h

  names_have : (xs : List (List ℕ)) → HaveTexts limit s (map (λ x. name x) xs) (map s.texts xs)
  names_have [] = tt
  names_have (x ∷ xs) = (refl, names_have xs)

  -- a `cat` with these members means what it means with the names
  cat_replaced : (es : List Expr) (xs : List (List ℕ)) (more : List Expr) → HaveTexts limit s es (map s.texts xs) →
      text_in limit s (cat (members (es ++ more))) ≡ text_in limit s (cat (members (map (λ x. name x) xs ++ more)))
  cat_replaced es xs more h = ap (λ (r : Result (List ℕ) FaultKind). and_then r (λ t. within limit t))
      (same_joined es (map (λ x. name x) xs) (map s.texts xs) more h (names_have xs))

  all_replaced : (es : List Expr) (xs : List (List ℕ)) → HaveTexts limit s es (map s.texts xs) →
      text_in limit s (cat (members es)) ≡ text_in limit s (cat (members (map (λ x. name x) xs)))
  all_replaced es xs h =
      ap (λ (fs : List Expr). text_in limit s (cat (members fs))) (sym (append-nil es))
      ∙ cat_replaced es xs [] h
      ∙ ap (λ (fs : List Expr). text_in limit s (cat (members fs))) (append-nil (map (λ x. name x) xs))

  -- two expressions mean the same, where both are there
  abbrev pub MeanSame : Option Expr → Option Expr → Type 0
  MeanSame (Some e) (Some o) = text_in limit s e ≡ text_in limit s o
  MeanSame _ _ = Unit {0}

  pub replaced_means : (l : Statement) (es : List Expr) → HaveTexts limit s es (map s.texts (read_by l)) → MeanSame (expr_with l es)
      (defining l)
  replaced_means (Cat line target left right) es h = all_replaced es (left ∷ right ∷ []) h
  replaced_means (Catn line target many) es h = all_replaced es many h
  replaced_means (Catc line target operand byte) es h = cat_replaced es (operand ∷ []) (run byte (Numeral (pos 1)) ∷ []) h
  replaced_means (Chars line target byte n) es h = refl
  replaced_means (Nul line target n) es h = refl
  replaced_means (Substr line target operand start n) (e ∷ es) h =
      ap (λ (r : Result (List ℕ) FaultKind). and_then r (λ text. part_of limit text (number_value s start) (number_value s n))) h.0
  replaced_means (Put line operand) (e ∷ es) h = h.0
  replaced_means l es h = tt
