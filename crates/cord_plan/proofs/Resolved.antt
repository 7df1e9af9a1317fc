-- A `sub` over a `cat`, resolved by the lengths of the members.
use Rattle.std.specs.Prelude.{◌≡◌, ◌+◌, ◌-◌, ◌<◌, ◌≤◌, ◌∷◌, ◌++◌, ◌&&◌, if◌then◌else◌}
use Rattle.cord_plan.proofs.Common.{ℕ, pos, Bool, true, false, List, [], length, take, drop, Result, Ok, refl, sym, ap, ◌∙◌, arith}
use Rattle.cord_plan.proofs.Common.{append-nil, length-append, min, nat_le, nat_lt, leb-true, leb-false, ltb-false, length-take}
use Rattle.cord_plan.proofs.Common.{length-drop, take-append-le, drop-append-le, drop_all, take_all, take_min, Numeral, FaultKind, State}
use Rattle.cord_plan.proofs.Common.{number_value, and_then, Expr, cat, sub, Exprs, nothing, member, within, text_in, length_in, length_of}
use Rattle.std.proofs.Math.Seq.{take-append-add, drop-append-add, take-nil, drop-nil}
use Rattle.cord_plan.specs.Resolved.{picked, resolved, HaveLengths}
use Rattle.cord_plan.proofs.Values.{passes, same_text, is_within, measure_is, joined_in, cat_joined}

-- the first bytes of two texts
take_both : (n : ℕ) (t u : List ℕ) → take n (t ++ u) ≡ take n t ++ take (n - length t) u
take_both n t u = pick (nat_le n (length t)) refl
  where
    pick : (v : Bool) → nat_le n (length t) ≡ v → take n (t ++ u) ≡ take n t ++ take (n - length t) u
    pick true e =
        let short : n ≤ length t = leb-true n (length t) e in
        let none : 0 ≡ n - length t = omega arith in
        take-append-le n t u short ∙ sym (append-nil (take n t)) ∙ ap (λ (k : ℕ). take n t ++ take k u) none
    pick false e =
        let long : length t < n = leb-false n (length t) e in
        let sum : n ≡ length t + (n - length t) = omega arith in
        ap (λ (k : ℕ). take k (t ++ u)) sum ∙ take-append-add t u (n - length t) ∙ ap (λ (x : List ℕ). x ++ take (n - length t) u)
        (sym (take_all n t (omega arith)))

-- the bytes after the first of two texts
drop_both : (i : ℕ) (t u : List ℕ) → drop i (t ++ u) ≡ drop i t ++ drop (i - length t) u
drop_both i t u = pick (nat_le i (length t)) refl
  where
    pick : (v : Bool) → nat_le i (length t) ≡ v → drop i (t ++ u) ≡ drop i t ++ drop (i - length t) u
    pick true e =
        let short : i ≤ length t = leb-true i (length t) e in
        let none : 0 ≡ i - length t = omega arith in
        drop-append-le i t u short ∙ ap (λ (k : ℕ). drop i t ++ drop k u) none
    pick false e =
        let long : length t < i = leb-false i (length t) e in
        let sum : i ≡ length t + (i - length t) = omega arith in
        ap (λ (k : ℕ). drop k (t ++ u)) sum ∙ drop-append-add t u (i - length t) ∙ ap (λ (x : List ℕ). x ++ drop (i - length t) u)
        (sym (drop_all i t (omega arith)))

-- a part of two texts is a part of each
part_both : (i n : ℕ) (t u : List ℕ) → take n (drop i (t ++ u)) ≡ take n (drop i t) ++ take (n - (length t - i)) (drop (i - length t) u)
part_both i n t u =
    ap (λ (x : List ℕ). take n x) (drop_both i t u)
    ∙ take_both n (drop i t) (drop (i - length t) u)
    ∙ ap (λ (k : ℕ). take n (drop i t) ++ take (n - k) (drop (i - length t) u)) (length-drop i t)

-- a member that gets no byte
none_of_it : (i n : ℕ) (t : List ℕ) → (nat_lt i (length t) && nat_lt 0 n) ≡ false → take n (drop i t) ≡ []
none_of_it i n t = pick (nat_lt i (length t)) (nat_lt 0 n) refl refl
  where
    pick : (v w : Bool) → nat_lt i (length t) ≡ v → nat_lt 0 n ≡ w → (v && w) ≡ false → take n (drop i t) ≡ []
    pick true true e f h = let bad : ⊥ = cc in absurd bad
    pick true false e f h =
        let most : n ≤ 0 = ltb-false 0 n f in
        let none : n ≡ 0 = omega arith in
        ap (λ (k : ℕ). take k (drop i t)) none
    pick false w e f h = ap (λ (x : List ℕ). take n x) (drop_all i t (ltb-false i (length t) e)) ∙ take-nil n

module _ (limit : ℕ) (s : State) where
  picked_joined : (e : Expr) (t : List ℕ) (i n : ℕ) (others : Exprs) (rest : List ℕ) → text_in limit s e ≡ Ok t → length t ≤ limit →
      joined_in limit s others ≡ Ok rest → joined_in limit s (picked e (length t) i n others) ≡ Ok (take n (drop i t) ++ rest)
  picked_joined e t i n others rest h short k = pick (nat_lt i (length t) && nat_lt 0 n) refl
    where
      pick : (v : Bool) → (nat_lt i (length t) && nat_lt 0 n) ≡ v →
          joined_in limit s (if v then member (sub e (Numeral (pos i)) (Numeral (pos (min n (length t - i))))) others else others)
          ≡ Ok (take n (drop i t) ++ rest)
      pick true e_is =
          let m = min n (length t - i) in
          let fits : length (take m (drop i t)) ≤ limit = omega (arith, length-take m (drop i t), length-drop i t) in
          let part : take m (drop i t) ≡ take n (drop i t) =
          ap (λ (k : ℕ). take (min n k) (drop i t)) (sym (length-drop i t)) ∙ take_min n (drop i t) in
          ap (λ (r : Result (List ℕ) FaultKind). and_then (and_then r (λ text. within limit (take m (drop i text))))
          (λ text. and_then (joined_in limit s others) (λ more. Ok (text ++ more)))) h
          ∙ ap (λ (r : Result (List ℕ) FaultKind). and_then r (λ text. and_then (joined_in limit s others) (λ more. Ok (text ++ more))))
          (is_within limit (take m (drop i t)) fits)
          ∙ ap (λ (r : Result (List ℕ) FaultKind). and_then r (λ more. Ok (take m (drop i t) ++ more))) k
          ∙ ap (λ (x : List ℕ). Ok (x ++ rest)) part
      pick false e_is = k ∙ ap (λ (x : List ℕ). Ok (x ++ rest)) (sym (none_of_it i n t e_is))

  reported_length : (e : Expr) (t : List ℕ) (len : ℕ) → length_in limit s e ≡ Ok len → text_in limit s e ≡ Ok t → length t ≡ len
  reported_length e t len h k =
      let reported : Ok (length t) ≡ length_in limit s e =
      ap (λ (r : Result (List ℕ) FaultKind). length_of r) (sym k) ∙ sym (measure_is limit s.texts (λ n. number_value s n) e) in
      cc

  resolved_joined : (es : Exprs) (lens text : List ℕ) (i n : ℕ) → HaveLengths limit s es lens → joined_in limit s es ≡ Ok text →
      length text ≤ limit → joined_in limit s (resolved es lens i n) ≡ Ok (take n (drop i text))
  resolved_joined nothing [] text i n lengths h short =
      let empty : [] ≡ text = cc in
      ap (λ (x : List ℕ). Ok x) (sym (take-nil n) ∙ ap (λ (x : List ℕ). take n x) (sym (drop-nil i) ∙ ap (λ (x : List ℕ). drop i x) empty))
  resolved_joined nothing (len ∷ lens) text i n lengths h short = absurd lengths
  resolved_joined (member e es) [] text i n lengths h short = absurd lengths
  resolved_joined (member e es) (len ∷ lens) text i n lengths h short =
      let p = passes (text_in limit s e) (λ t. and_then (joined_in limit s es) (λ rest. Ok (t ++ rest))) text h in
      let q = passes (joined_in limit s es) (λ rest. Ok (p.middle ++ rest)) text p.next in
      let t : List ℕ = p.middle in
      let u : List ℕ = q.middle in
      let whole : t ++ u ≡ text = same_text (Ok (t ++ u)) (t ++ u) text refl q.next in
      let sum : length t + length u ≡ length text = sym (length-append t u) ∙ ap (λ (x : List ℕ). length x) whole in
      let is : length t ≡ len = reported_length e t len lengths.0 p.first in
      let rest : List ℕ = take (n - (length t - i)) (drop (i - length t) u) in
      let others : joined_in limit s (resolved es lens (i - length t) (n - (length t - i))) ≡ Ok rest =
      resolved_joined es lens u (i - length t) (n - (length t - i)) lengths.1 q.first (omega arith) in
      let mine : joined_in limit s (picked e (length t) i n (resolved es lens (i - length t) (n - (length t - i))))
      ≡ Ok (take n (drop i t) ++ rest) =
      picked_joined e t i n (resolved es lens (i - length t) (n - (length t - i))) rest p.first (omega arith) others in
      ap (λ (k : ℕ). joined_in limit s (picked e k i n (resolved es lens (i - k) (n - (k - i))))) (sym is)
      ∙ mine
      ∙ ap (λ (x : List ℕ). Ok x) (sym (part_both i n t u) ∙ ap (λ (x : List ℕ). take n (drop i x)) whole)

  -- the members, resolved, mean what the part of the joined text does
  pub resolves : (es : Exprs) (lens text : List ℕ) (i n : ℕ) → HaveLengths limit s es lens → text_in limit s (cat es) ≡ Ok text →
      text_in limit s (cat (resolved es lens i n)) ≡ text_in limit s (sub (cat es) (Numeral (pos i)) (Numeral (pos n)))
  resolves es lens text i n lengths h =
      let j = cat_joined limit s es text h in
      ap (λ (r : Result (List ℕ) FaultKind). and_then r (λ t. within limit t)) (resolved_joined es lens text i n lengths j.joined j.short)
      ∙ sym (ap (λ (r : Result (List ℕ) FaultKind). and_then r (λ t. within limit (take n (drop i t)))) h)
