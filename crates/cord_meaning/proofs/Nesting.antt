-- Statements whose blocks are closed are parts, one after the other.
use Rattle.std.specs.Prelude.{◌≡◌, ◌<◌, ◌≤◌, ◌⊎◌, ◌∷◌, ◌++◌}
use Rattle.cord_meaning.proofs.Common.{ℕ, zero, suc, Bool, true, false, List, [], length, map, refl, sym, ap, ◌∙◌, inl, inr, ⊎_elim, arith}
use Rattle.cord_meaning.proofs.Common.{append_assoc, Shape, Straight, Loop, Branch, Otherwise, Close, IsNested, Parts, Nothing, Then}
use Rattle.cord_meaning.proofs.Common.{Repeats, Chooses, ChoosesElse, flat, IsWell}

module _ {L : Type 0} (shape : L → Shape) where
  abbrev shapes : List L → List Shape
  shapes ls = map shape ls

  -- whole parts, and then the statement that closes the innermost block or begins its other branch
  record Split (b : Bool) (blocks : List Bool) (ls : List L) : Type 0 where
    body : Parts L
    well : IsWell shape body
    closing : L
    rest : List L
    is : ls ≡ flat body ++ (closing ∷ rest)
    less : length rest < length ls
    closes : ((shape closing ≡ Close) × IsNested blocks (shapes rest)) ⊎
        ((shape closing ≡ Otherwise) × (b ≡ true) × IsNested (false ∷ blocks) (shapes rest))

  -- all are parts
  pub record Whole (ls : List L) : Type 0 where
    pub parts : Parts L
    pub well : IsWell shape parts
    pub is : ls ≡ flat parts

  differ : false ≡ true → ⊥
  differ e = cc

  abbrev Splits : ℕ → Type 0
  Splits n = (ls : List L) → length ls ≤ n → (b : Bool) (blocks : List Bool) → IsNested (b ∷ blocks) (shapes ls) → Split b blocks ls

  -- a block that ends with e, and what follows it
  after_block : (x e : L) (xs inner rest : List L) (b : Bool) (blocks : List Bool) (r : Split b blocks rest) (body : Parts L) →
      xs ≡ inner ++ (e ∷ rest) → length rest < length xs → flat body ≡ x ∷ (inner ++ (e ∷ flat r.body)) → IsWell shape body →
      Split b blocks (x ∷ xs)
  after_block x e xs inner rest b blocks r body is lt made well = record {
    body = body;
    well = well;
    closing = r.closing;
    rest = r.rest;
    is = ap (λ (ls : List L). x ∷ ls) (is ∙ ap (λ (ls : List L). inner ++ (e ∷ ls)) r.is
        ∙ sym (append_assoc inner (e ∷ flat r.body) (r.closing ∷ r.rest)))
        ∙ ap (λ (ls : List L). ls ++ (r.closing ∷ r.rest)) (sym made);
    less = omega (arith, lt, r.less);
    closes = r.closes;
  }

  split_one : (n : ℕ) → Splits n → (x : L) (xs : List L) → length xs ≤ n → (b : Bool) (blocks : List Bool) (w : Shape) → shape x ≡ w →
      IsNested (b ∷ blocks) (w ∷ shapes xs) → Split b blocks (x ∷ xs)
  split_one n ih x xs le b blocks Straight is h =
      let s = ih xs le b blocks h in
      record {
        body = Then x s.body;
        well = (is, s.well);
        closing = s.closing;
        rest = s.rest;
        is = ap (λ (ls : List L). x ∷ ls) s.is;
        less = omega (arith, s.less);
        closes = s.closes;
      }
  split_one n ih x xs le b blocks Close is h = record {
    body = Nothing;
    well = tt;
    closing = x;
    rest = xs;
    is = refl;
    less = omega arith;
    closes = inl (is, h);
  }
  split_one n ih x xs le true blocks Otherwise is h = record {
    body = Nothing;
    well = tt;
    closing = x;
    rest = xs;
    is = refl;
    less = omega arith;
    closes = inr (is, refl, h);
  }
  split_one n ih x xs le false blocks Otherwise is h = absurd h
  split_one n ih x xs le b blocks Loop is h =
      let s = ih xs le false (b ∷ blocks) h in
      ⊎_elim
      (λ c.
      let r = ih s.rest (omega (arith, s.less)) b blocks c.1 in
      after_block x s.closing xs (flat s.body) s.rest b blocks r (Repeats x s.closing s.body r.body) s.is s.less refl
      (is, c.0, s.well, r.well))
      (λ c. absurd (differ c.1))
      s.closes
  split_one n ih x xs le b blocks Branch is h =
      let s = ih xs le true (b ∷ blocks) h in
      ⊎_elim
      (λ c.
      let r = ih s.rest (omega (arith, s.less)) b blocks c.1 in
      after_block x s.closing xs (flat s.body) s.rest b blocks r (Chooses x s.closing s.body r.body) s.is s.less refl
      (is, c.0, s.well, r.well))
      (λ c.
      let o = ih s.rest (omega (arith, s.less)) false (b ∷ blocks) c.2 in
      ⊎_elim
      (λ k.
      let r = ih o.rest (omega (arith, s.less, o.less)) b blocks k.1 in
      after_block x o.closing xs (flat s.body ++ (s.closing ∷ flat o.body)) o.rest b blocks r
      (ChoosesElse x s.closing o.closing s.body o.body r.body)
      (s.is ∙ ap (λ (ls : List L). flat s.body ++ (s.closing ∷ ls)) o.is
      ∙ sym (append_assoc (flat s.body) (s.closing ∷ flat o.body) (o.closing ∷ o.rest)))
      (omega (arith, s.less, o.less))
      (ap (λ (ls : List L). x ∷ ls) (sym (append_assoc (flat s.body) (s.closing ∷ flat o.body) (o.closing ∷ flat r.body))))
      (is, c.0, k.0, s.well, o.well, r.well))
      (λ k. absurd (differ k.1))
      o.closes)
      s.closes

  split : (n : ℕ) → Splits n
  split n [] le b blocks h = absurd h
  split zero (x ∷ xs) le b blocks h = absurd (omega arith)
  split (suc n) (x ∷ xs) le b blocks h = split_one n (split n) x xs (omega arith) b blocks (shape x) refl h

  abbrev Wholes : ℕ → Type 0
  Wholes n = (ls : List L) → length ls ≤ n → IsNested [] (shapes ls) → Whole ls

  whole_one : (n : ℕ) → Wholes n → (x : L) (xs : List L) → length xs ≤ n → (w : Shape) → shape x ≡ w → IsNested [] (w ∷ shapes xs) →
      Whole (x ∷ xs)
  whole_one n ih x xs le Straight is h =
      let r = ih xs le h in
      record { parts = Then x r.parts; well = (is, r.well); is = ap (λ (ls : List L). x ∷ ls) r.is }
  whole_one n ih x xs le Loop is h =
      let s = split n xs le false [] h in
      ⊎_elim
      (λ c.
      let r = ih s.rest (omega (arith, s.less)) c.1 in
      record {
        parts = Repeats x s.closing s.body r.parts;
        well = (is, c.0, s.well, r.well);
        is = ap (λ (ls : List L). x ∷ ls) (s.is ∙ ap (λ (ls : List L). flat s.body ++ (s.closing ∷ ls)) r.is);
      })
      (λ c. absurd (differ c.1))
      s.closes
  whole_one n ih x xs le Branch is h =
      let s = split n xs le true [] h in
      ⊎_elim
      (λ c.
      let r = ih s.rest (omega (arith, s.less)) c.1 in
      record {
        parts = Chooses x s.closing s.body r.parts;
        well = (is, c.0, s.well, r.well);
        is = ap (λ (ls : List L). x ∷ ls) (s.is ∙ ap (λ (ls : List L). flat s.body ++ (s.closing ∷ ls)) r.is);
      })
      (λ c.
      let o = split n s.rest (omega (arith, s.less)) false [] c.2 in
      ⊎_elim
      (λ k.
      let r = ih o.rest (omega (arith, s.less, o.less)) k.1 in
      record {
        parts = ChoosesElse x s.closing o.closing s.body o.body r.parts;
        well = (is, c.0, k.0, s.well, o.well, r.well);
        is = ap (λ (ls : List L). x ∷ ls) (s.is ∙ ap (λ (ls : List L). flat s.body ++ (s.closing ∷ ls))
            (o.is ∙ ap (λ (ls : List L). flat o.body ++ (o.closing ∷ ls)) r.is));
      })
      (λ k. absurd (differ k.1))
      o.closes)
      s.closes
  whole_one n ih x xs le _ is h = absurd h

  whole_of : (n : ℕ) → Wholes n
  whole_of n [] le h = record { parts = Nothing; well = tt; is = refl }
  whole_of zero (x ∷ xs) le h = absurd (omega arith)
  whole_of (suc n) (x ∷ xs) le h = whole_one n (whole_of n) x xs (omega arith) (shape x) refl h

  -- statements whose blocks are closed are parts
  pub are_parts : (ls : List L) → IsNested [] (shapes ls) → Whole ls
  are_parts ls h = whole_of (length ls) ls (omega arith) h
