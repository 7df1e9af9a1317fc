-- The places that may come next after a statement are those that its blocks give.
use Rattle.std.specs.Prelude.{◌≡◌, ◌+◌, ◌≤◌, ◌⊎◌, ◌∷◌, ◌++◌}
use Rattle.cord_meaning.proofs.Common.{ℕ, zero, suc, pos, true, List, [], length, map, drop, Option, Some, None, Ok, refl, sym, ap, ◌∙◌}
use Rattle.cord_meaning.proofs.Common.{subst, inl, inr, arith, append_assoc, append-nil, slice_get, unwrap_or, drop-map, length-append}
use Rattle.cord_meaning.proofs.Common.{length-map, slice_get_past, Shape, Straight, Loop, Branch, Otherwise, Close, jump, jump_of, opened}
use Rattle.cord_meaning.proofs.Common.{open_at, NextOf, NextOfClose, Next, Rules, Parts, Nothing, Then, Repeats, Chooses, ChoosesElse, flat}
use Rattle.cord_meaning.proofs.Common.{IsWell, at_here, next_here}
use Rattle.cord_meaning.specs.Leads.{leads, IsAmong}
use Rattle.cord_meaning.proofs.Follows.{open_next}
use Rattle.cord_meaning.proofs.Unrolls.{inner_here, closing_here, rest_here, all_here, end_after, else_after, no_else_after, jump_here}

-- as many statements lead as there are
length-leads : {L : Type 0} (parts : Parts L) (p : ℕ) → length (leads p parts) ≡ length (flat parts)
length-leads Nothing p = refl
length-leads (Then l rest) p = ap suc (length-leads rest (p + 1))
length-leads (Repeats l e body rest) p =
    simp (length-append, length-leads body (p + 1), length-leads rest (p + 1 + length (flat body) + 1)) (omega arith)
length-leads (Chooses l e branch rest) p =
    simp (length-append, length-leads branch (p + 1), length-leads rest (p + 1 + length (flat branch) + 1)) (omega arith)
length-leads (ChoosesElse l m e branch other rest) p =
    let k : ℕ = p + 1 + length (flat branch) in
    simp (length-append, length-leads branch (p + 1), length-leads other (k + 1), length-leads rest (k + 1 + length (flat other) + 1))
    (omega arith)

module _ {L : Type 0} (shape : L → Shape) (statements : List L) where
  abbrev shapes : List Shape
  shapes = map shape statements

  -- what may come next after p is one of these places, and each of them may
  pub record Leading (p : ℕ) (qs : List ℕ) : Type 0 where
    pub no_more : (q : ℕ) → Next shapes p q → IsAmong qs q
    pub no_less : (q : ℕ) → IsAmong qs q → Next shapes p q

  -- so it is from p on
  abbrev AllLead : ℕ → List (List ℕ) → Type 0
  AllLead p [] = Unit {0}
  AllLead p (qs ∷ rest) = Leading p qs × AllLead (p + 1) rest

  both_lead : (p : ℕ) (xs ys : List (List ℕ)) → AllLead p xs → AllLead (p + length xs) ys → AllLead p (xs ++ ys)
  both_lead p [] ys a b = let same : p + 0 ≡ p = omega arith in subst (λ (n : ℕ). AllLead n ys) same b
  both_lead p (x ∷ xs) ys a b =
      let same : p + suc (length xs) ≡ p + 1 + length xs = omega arith in
      (a.0, both_lead (p + 1) xs ys a.1 (subst (λ (n : ℕ). AllLead n ys) same b))

  -- whole parts, and what follows them
  parts_lead : (parts : Parts L) (p : ℕ) (ys : List (List ℕ)) → AllLead p (leads p parts) → AllLead (p + length (flat parts)) ys →
      AllLead p (leads p parts ++ ys)
  parts_lead parts p ys a b = both_lead p (leads p parts) ys a
      (subst (λ (n : ℕ). AllLead (p + n) ys) (sym (length-leads parts p)) b)

  leading_by : (p : ℕ) (o : Option Shape) → slice_get shapes p ≡ o → (qs : List ℕ) → ((q : ℕ) → NextOf shapes p o q → IsAmong qs q) →
      ((q : ℕ) → IsAmong qs q → NextOf shapes p o q) → Leading p qs
  leading_by p o e qs f g = record {
    no_more = λ q h. f q (subst (λ (w : Option Shape). NextOf shapes p w q) e h);
    no_less = λ q h. subst (λ (w : Option Shape). NextOf shapes p w q) (sym e) (g q h);
  }

  -- one place, and two
  one_of : (a q : ℕ) → IsAmong (a ∷ []) q → q ≡ a
  one_of a q (inl e) = e
  one_of a q (inr none) = absurd none

  two_of : (a b q : ℕ) → IsAmong (a ∷ b ∷ []) q → (q ≡ a) ⊎ (q ≡ b)
  two_of a b q (inl e) = inl e
  two_of a b q (inr (inl e)) = inr e
  two_of a b q (inr (inr none)) = absurd none

  among_two : (a b q : ℕ) → (q ≡ a) ⊎ (q ≡ b) → IsAmong (a ∷ b ∷ []) q
  among_two a b q (inl e) = inl e
  among_two a b q (inr e) = inr (inl e)

  -- where control jumps
  or_jump : (p b q : ℕ) → jump shapes p ≡ b → (q ≡ p + 1) ⊎ (q ≡ jump shapes p) → (q ≡ p + 1) ⊎ (q ≡ b)
  or_jump p b q e h = subst (λ (n : ℕ). (q ≡ p + 1) ⊎ (q ≡ n)) e h

  no_jump : (p b q : ℕ) → jump shapes p ≡ b → (q ≡ p + 1) ⊎ (q ≡ b) → (q ≡ p + 1) ⊎ (q ≡ jump shapes p)
  no_jump p b q e h = subst (λ (n : ℕ). (q ≡ p + 1) ⊎ (q ≡ n)) (sym e) h

  module _ (p : ℕ) (l : L) (rest : List L) (d : drop p statements ≡ l ∷ rest) where
    shape_is : (x : Shape) → shape l ≡ x → slice_get shapes p ≡ Some x
    shape_is x is = at_here shapes p x (map shape rest) (drop-map shape p statements ∙ ap (λ (xs : List L). map shape xs) d
        ∙ ap (λ (w : Shape). w ∷ map shape rest) is)

    straight_leads : shape l ≡ Straight → Leading p ((p + 1) ∷ [])
    straight_leads is = leading_by p (Some Straight) (shape_is Straight is) ((p + 1) ∷ []) (λ q h. inl h) (λ q h. one_of (p + 1) q h)

    loop_leads : shape l ≡ Loop → (b : ℕ) → jump shapes p ≡ b → Leading p ((p + 1) ∷ b ∷ [])
    loop_leads is b e = leading_by p (Some Loop) (shape_is Loop is) ((p + 1) ∷ b ∷ [])
        (λ q h. among_two (p + 1) b q (or_jump p b q e h)) (λ q h. no_jump p b q e (two_of (p + 1) b q h))

    branch_leads : shape l ≡ Branch → (b : ℕ) → jump shapes p ≡ b → Leading p ((p + 1) ∷ b ∷ [])
    branch_leads is b e = leading_by p (Some Branch) (shape_is Branch is) ((p + 1) ∷ b ∷ [])
        (λ q h. among_two (p + 1) b q (or_jump p b q e h)) (λ q h. no_jump p b q e (two_of (p + 1) b q h))

    else_leads : shape l ≡ Otherwise → (b : ℕ) → jump shapes p ≡ b → Leading p (b ∷ [])
    else_leads is b e = leading_by p (Some Otherwise) (shape_is Otherwise is) (b ∷ []) (λ q h. inl (h ∙ e))
        (λ q h. one_of b q h ∙ sym e)

    close_by : (os : List (Option ℕ)) → open_at shapes p ≡ os → shape l ≡ Close → (qs : List ℕ) →
        ((q : ℕ) → NextOfClose p os q → IsAmong qs q) → ((q : ℕ) → IsAmong qs q → NextOfClose p os q) → Leading p qs
    close_by os o is qs f g = leading_by p (Some Close) (shape_is Close is) qs
        (λ q h. f q (subst (λ (bs : List (Option ℕ)). NextOfClose p bs q) o h))
        (λ q h. subst (λ (bs : List (Option ℕ)). NextOfClose p bs q) (sym o) (g q h))

    loop_end_leads : (r : ℕ) (bs : List (Option ℕ)) → open_at shapes p ≡ Some r ∷ bs → shape l ≡ Close →
        Leading p ((r + 1) ∷ (p + 1) ∷ [])
    loop_end_leads r bs o is = close_by (Some r ∷ bs) o is ((r + 1) ∷ (p + 1) ∷ []) (λ q h. among_two (r + 1) (p + 1) q h)
        (λ q h. two_of (r + 1) (p + 1) q h)

    branch_end_leads : (bs : List (Option ℕ)) → open_at shapes p ≡ None ∷ bs → shape l ≡ Close → Leading p ((p + 1) ∷ [])
    branch_end_leads bs o is = close_by (None ∷ bs) o is ((p + 1) ∷ []) (λ q h. inl h) (λ q h. one_of (p + 1) q h)

    -- the blocks that are open after it
    opens : (x : Shape) → shape l ≡ x → (os : List (Option ℕ)) → open_at shapes p ≡ os →
        open_at shapes (p + 1) ≡ opened p os (Some x)
    opens x is os o = open_next shapes p (Some x) (shape_is x is) ∙ ap (λ (bs : List (Option ℕ)). opened p bs (Some x)) o

  -- a rule for each statement, of which only the shape matters
  abbrev by_shape : Rules L (Unit {0})
  by_shape = record {
    shape = shape;
    line = λ l. 0;
    count = λ l s. pos 0;
    holds = λ l s. true;
    act = λ p l s. Ok (s, []);
  }

  module _ (p : ℕ) (l e : L) (inner rest more : List L) (d : drop p statements ≡ (l ∷ (inner ++ (e ∷ rest))) ++ more) where
    -- where its first statement jumps
    jumps : (x : Shape) → shape l ≡ x → jump shapes p ≡ jump_of x p (map shape (inner ++ (e ∷ (rest ++ more))))
    jumps x is = jump_here by_shape 0 statements p l ((inner ++ (e ∷ rest)) ++ more) d
        ∙ ap (λ (w : Shape). jump_of w p (map shape ((inner ++ (e ∷ rest)) ++ more))) is
        ∙ ap (λ (xs : List L). jump_of x p (map shape xs)) (append_assoc inner (e ∷ rest) more)

  -- the parts that stand at p lead so, and after them the same blocks are open
  abbrev Goes : Parts L → ℕ → List (Option ℕ) → Type 0
  Goes parts p os = AllLead p (leads p parts) × (open_at shapes (p + length (flat parts)) ≡ os)

  go : (parts : Parts L) → IsWell shape parts → (p : ℕ) (more : List L) → drop p statements ≡ flat parts ++ more →
      (os : List (Option ℕ)) → open_at shapes p ≡ os → Goes parts p os
  go Nothing w p more d os o = let same : p + 0 ≡ p = omega arith in (tt, ap (λ (n : ℕ). open_at shapes n) same ∙ o)
  go (Then l rest) w p more d os o =
      let r = go rest w.1 (p + 1) more (next_here statements p l (flat rest ++ more) d) os
      (opens p l (flat rest ++ more) d Straight w.0 os o) in
      let same : p + suc (length (flat rest)) ≡ p + 1 + length (flat rest) = omega arith in
      ((straight_leads p l (flat rest ++ more) d w.0, r.0), ap (λ (n : ℕ). open_at shapes n) same ∙ r.1)
  go (Repeats l e body rest) w p more d os o =
      let q : ℕ = p + 1 + length (flat body) in
      let after_first : List L = (flat body ++ (e ∷ flat rest)) ++ more in
      let closing : drop q statements ≡ e ∷ (flat rest ++ more) = closing_here statements p l e (flat body) (flat rest) more d in
      let jumped : jump shapes p ≡ q + 1 = jumps p l e (flat body) (flat rest) more d Loop w.0
      ∙ ap (λ (n : ℕ). p + 1 + n + 1) (end_after by_shape 0 body w.2 e w.1 (flat rest ++ more)) in
      let b = go body w.2 (p + 1) (e ∷ (flat rest ++ more)) (inner_here statements p l e (flat body) (flat rest) more d) (Some p ∷ os)
      (opens p l after_first d Loop w.0 os o) in
      let r = go rest w.3 (q + 1) more (rest_here statements p l e (flat body) (flat rest) more d) os
      (opens q e (flat rest ++ more) closing Close w.1 (Some p ∷ os) b.1) in (
        (
          loop_leads p l after_first d w.0 (q + 1) jumped,
          parts_lead body (p + 1) (((p + 1) ∷ (q + 1) ∷ []) ∷ leads (q + 1) rest) b.0
              (loop_end_leads q e (flat rest ++ more) closing p os b.1 w.1, r.0),
        ),
        ap (λ (n : ℕ). open_at shapes n) (sym (all_here statements p l e (flat body) (flat rest) more d)) ∙ r.1,
      )
  go (Chooses l e branch rest) w p more d os o =
      let q : ℕ = p + 1 + length (flat branch) in
      let after_first : List L = (flat branch ++ (e ∷ flat rest)) ++ more in
      let closing : drop q statements ≡ e ∷ (flat rest ++ more) = closing_here statements p l e (flat branch) (flat rest) more d in
      let jumped : jump shapes p ≡ q = jumps p l e (flat branch) (flat rest) more d Branch w.0
      ∙ ap (λ (n : ℕ). p + 1 + n) (no_else_after by_shape 0 branch w.2 e w.1 (flat rest ++ more)) in
      let b = go branch w.2 (p + 1) (e ∷ (flat rest ++ more)) (inner_here statements p l e (flat branch) (flat rest) more d) (None ∷ os)
      (opens p l after_first d Branch w.0 os o) in
      let r = go rest w.3 (q + 1) more (rest_here statements p l e (flat branch) (flat rest) more d) os
      (opens q e (flat rest ++ more) closing Close w.1 (None ∷ os) b.1) in (
        (
          branch_leads p l after_first d w.0 q jumped,
          parts_lead branch (p + 1) (((q + 1) ∷ []) ∷ leads (q + 1) rest) b.0
              (branch_end_leads q e (flat rest ++ more) closing os b.1 w.1, r.0),
        ),
        ap (λ (n : ℕ). open_at shapes n) (sym (all_here statements p l e (flat branch) (flat rest) more d)) ∙ r.1,
      )
  go (ChoosesElse l m e branch other rest) w p more d os o =
      let others : List L = flat other ++ (e ∷ flat rest) in
      let k : ℕ = p + 1 + length (flat branch) in
      let q : ℕ = k + 1 + length (flat other) in
      let after_first : List L = (flat branch ++ (m ∷ others)) ++ more in
      let middle : drop k statements ≡ m ∷ (others ++ more) = closing_here statements p l m (flat branch) others more d in
      let closing : drop q statements ≡ e ∷ (flat rest ++ more) = closing_here statements k m e (flat other) (flat rest) more middle in
      let one_on : p + 1 + (length (flat branch) + 1) ≡ k + 1 = omega arith in
      let jumped : jump shapes p ≡ k + 1 = jumps p l m (flat branch) others more d Branch w.0
      ∙ ap (λ (n : ℕ). p + 1 + n) (else_after by_shape 0 branch w.3 m w.1 (others ++ more)) ∙ one_on in
      let passed : jump shapes k ≡ q = jumps k m e (flat other) (flat rest) more middle Otherwise w.1
      ∙ ap (λ (n : ℕ). k + 1 + n) (end_after by_shape 0 other w.4 e w.2 (flat rest ++ more)) in
      let b = go branch w.3 (p + 1) (m ∷ (others ++ more)) (inner_here statements p l m (flat branch) others more d) (None ∷ os)
      (opens p l after_first d Branch w.0 os o) in
      let a = go other w.4 (k + 1) (e ∷ (flat rest ++ more)) (inner_here statements k m e (flat other) (flat rest) more middle) (None ∷ os)
      (opens k m (others ++ more) middle Otherwise w.1 (None ∷ os) b.1) in
      let r = go rest w.5 (q + 1) more (rest_here statements k m e (flat other) (flat rest) more middle) os
      (opens q e (flat rest ++ more) closing Close w.2 (None ∷ os) a.1) in
      let first = all_here statements p l m (flat branch) others more d in
      let second = all_here statements k m e (flat other) (flat rest) more middle in
      let whole : p + length (flat (ChoosesElse l m e branch other rest)) ≡ q + 1 + length (flat rest) = omega (arith, first, second) in (
        (
          branch_leads p l after_first d w.0 (k + 1) jumped,
          parts_lead branch (p + 1) ((q ∷ []) ∷ (leads (k + 1) other ++ (((q + 1) ∷ []) ∷ leads (q + 1) rest))) b.0 (
            else_leads k m (others ++ more) middle w.1 q passed,
            parts_lead other (k + 1) (((q + 1) ∷ []) ∷ leads (q + 1) rest) a.0
                (branch_end_leads q e (flat rest ++ more) closing os a.1 w.2, r.0),
          ),
        ),
        ap (λ (n : ℕ). open_at shapes n) whole ∙ r.1,
      )

  -- after the last statement nothing comes
  none_leads : (p : ℕ) → slice_get shapes p ≡ None → Leading p []
  none_leads p e = leading_by p None e [] (λ q h. h) (λ q h. h)

  leads_at : (xs : List (List ℕ)) (p k : ℕ) → AllLead p xs → ((j : ℕ) → length xs ≤ j → slice_get shapes (p + j) ≡ None) →
      Leading (p + k) (unwrap_or (slice_get xs k) [])
  leads_at [] p k a past = none_leads (p + k) (past k (omega arith))
  leads_at (x ∷ xs) p zero a past = let same : p ≡ p + 0 = omega arith in subst (λ (n : ℕ). Leading n x) same a.0
  leads_at (x ∷ xs) p (suc k) a past =
      let one : (j : ℕ) → p + suc j ≡ p + 1 + j = λ j. omega arith in
      subst (λ (n : ℕ). Leading n (unwrap_or (slice_get xs k) [])) (sym (one k))
      (leads_at xs (p + 1) k a.1 (λ j le. ap (λ (n : ℕ). slice_get shapes n) (sym (one j)) ∙ past (suc j) (omega (arith, le))))

-- the statement at p leads to the places that its blocks give, and to no others
pub leading : {L : Type 0} (shape : L → Shape) (parts : Parts L) → IsWell shape parts → (p : ℕ) →
    Leading shape (flat parts) p (unwrap_or (slice_get (leads 0 parts) p) [])
leading shape parts w p =
    let all = go shape (flat parts) parts w 0 [] (sym (append-nil (flat parts))) [] refl in
    let same : 0 + p ≡ p = omega arith in
    subst (λ (n : ℕ). Leading shape (flat parts) n (unwrap_or (slice_get (leads 0 parts) p) [])) same
    (leads_at shape (flat parts) (leads 0 parts) 0 p all.0 (λ j le. past j le))
  where
    past : (j : ℕ) → length (leads 0 parts) ≤ j → slice_get (map shape (flat parts)) (0 + j) ≡ None
    past j le = let a = length-leads parts 0 in let b = length-map (flat parts) shape in slice_get_past (map shape (flat parts)) (0 + j) (omega (arith, le, a, b))
