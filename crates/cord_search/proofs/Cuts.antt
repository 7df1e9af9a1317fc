-- Places of a text in the first bytes of another.
use Rattle.cord_search.proofs.Common.{Ghosts, IfOk, IfSome, IsAnswer, IsPieceOf, IsReadable, IsReported, Lengths, List, Node, None, Ok, Option}
use Rattle.cord_search.proofs.Common.{Result, Shows, Some, StandsAt, StandsNot, Table, ap, append_assoc, arith, bytes_of, cases_lt, drop, first}
use Rattle.cord_search.proofs.Common.{length, length-take, min, sym, take, take-append-drop, take_all, take_min, text_len, ℕ, ⊎_elim, ◌++◌, ◌+◌, ◌-◌}
use Rattle.cord_search.proofs.Common.{◌<◌, ◌∙◌, ◌≡◌, ◌≤◌}
use Rattle.std.proofs.lemmas.List.{drop-append-le, drop-take}
use Rattle.cord_node.proofs.Ranges.{take-append_right}
use Rattle.cord_search.proofs.Finding.{first_is, first_only}
use Rattle.cord_search.proofs.Reading.{answered, len_in, shown_once, shown_so}
use Rattle.cord_search.proofs.Standing.{prefix_stands, stands_inside}
use Rattle.cord_search.specs.inner.Searches.{Finds}

-- as many bytes as there are
pub take_limit : (t : Table) (x : Option Node) (end n e : ℕ) → length (bytes_of t x) ≡ text_len x → n ≡ text_len x → e ≡ min end n →
    take e (bytes_of t x) ≡ take end (bytes_of t x)
take_limit t x end n e len is h = rw (h, is, ← len) (take_min end (bytes_of t x))

module _ (xs s : List ℕ) (e : ℕ) where
  -- what stands in the first bytes stands in all
  pub stands_whole : (q : ℕ) → StandsAt (take e xs) s q → StandsAt xs s q
  stands_whole q at = record {
    within = omega (arith, at.within, length-take e xs);
    rest = at.rest ++ drop e xs;
    here = ap (λ (ys : List ℕ). drop q ys) (sym (take-append-drop e xs)) ∙ drop-append-le q (take e xs) (drop e xs) at.within
        ∙ ap (λ (ys : List ℕ). ys ++ drop e xs) at.here ∙ append_assoc s at.rest (drop e xs);
  }

  -- and ends in them
  pub stands_before : (q : ℕ) → StandsAt (take e xs) s q → q + length s ≤ e
  stands_before q at = omega (arith, stands_inside (take e xs) s q at, length-take e xs)

  -- what ends in the first bytes stands there
  pub stands_cut : (q : ℕ) → q + length s ≤ e → StandsAt xs s q → StandsAt (take e xs) s q
  stands_cut q fits at =
      let whole : e ≡ q + (e - q) = omega (arith, fits) in
      record {
        within = omega (arith, fits, at.within, length-take e xs);
        rest = take (e - q - length s) at.rest;
        here = ap (λ (n : ℕ). drop q (take n xs)) whole ∙ drop-take q (e - q) xs ∙ ap (λ (ys : List ℕ). take (e - q) ys) at.here
            ∙ take-append_right s at.rest (e - q) (omega (arith, fits));
      }

  module _ (i : ℕ) where
    -- the first place in all is that in the first bytes, if the text ends there
    pub first_within : (q : ℕ) → q + length s ≤ e → Some q ≡ first xs i s → Some q ≡ first (take e xs) i s
    first_within q fits is =
        let least = first_is xs s i (Some q) is in
        first_only (take e xs) s i (Some q)
        (least.0, stands_cut q fits least.1, λ k low to at. least.2 k low to (stands_whole k at))

    -- and the other way round
    pub first_whole : (q : ℕ) → Some q ≡ first (take e xs) i s → Some q ≡ first xs i s
    first_whole q is =
        let least = first_is (take e xs) s i (Some q) is in
        first_only xs s i (Some q) (
          least.0,
          stands_whole q least.1,
          λ k low to at. least.2 k low to (stands_cut k (omega (arith, to, stands_before q least.1)) at),
        )

    -- it stands there
    pub first_stands : (q : ℕ) → Some q ≡ first (take e xs) i s → (i ≤ q) × (q + length s ≤ e) × StandsAt xs s q
    first_stands q is =
        let least = first_is (take e xs) s i (Some q) is in
        (least.0, stands_before q least.1, stands_whole q least.1)

    -- nothing is found where the text stands nowhere
    pub first_nowhere : None ≡ first (take e xs) i s → (q : ℕ) → i ≤ q → q + length s ≤ e → StandsAt xs s q → ⊥
    first_nowhere is q low fits at =
        let least = first_is (take e xs) s i None is in
        least q low (stands_cut q fits at)

-- the first bytes, where they are all
pub whole_found : {E : Type 0} {lengths : Lengths} {t : Table} {x : Option Node} {n : ℕ} (s : List ℕ) (i : ℕ) (r : Result (Option ℕ) E) →
    IsReported lengths t → IsReadable lengths x → n ≡ text_len x → IfOk r (λ place. place ≡ first (take n (bytes_of t x)) i s) →
    IfOk r (λ place. place ≡ first (bytes_of t x) i s)
whole_found {t = t} {x = x} {n = n} s i r held readable all h = rw (take_all n (bytes_of t x) (omega (arith, len_in held readable, all))) at h

-- no place is left
pub none_within : (t : Table) (x : Option Node) (s : List ℕ) (start place e : ℕ) → e < place + length s → StandsNot t x s start place →
    None ≡ first (take e (bytes_of t x)) start s
none_within t x s start place e past none =
    let xs = bytes_of t x in
    first_only (take e xs) s start None
    (λ k low at. none k low (omega (arith, past, stands_before xs s e k at)) (stands_whole xs s e k at))

-- a text stands nowhere where its prefix doesn't
pub prefix_none : (t : Table) (x s : Option Node) (start place e : ℕ) (head : List ℕ) → None ≡ first (take e (bytes_of t x)) place head →
    IsPieceOf t s 0 head → StandsNot t x (bytes_of t s) start place → None ≡ first (take e (bytes_of t x)) start (bytes_of t s)
prefix_none t x s start place e head is f none =
    let xs = bytes_of t x in
    let least = first_is (take e xs) head place None is in
    first_only (take e xs) (bytes_of t s) start None (λ k low at.
    ⊎_elim (λ (lt : k < place). none k low lt (stands_whole xs (bytes_of t s) e k at))
    (λ (le : place ≤ k). least k le (prefix_stands (take e xs) (bytes_of t s) head k f at)) (cases_lt k place))

module _ {S E : Type 0} {s : Ghosts S} {a b : S} (x : Option Node) (text : Table → List ℕ) (end start place : ℕ) {n : ℕ}
    (len : (t : Table) → IsReported (s.lengths a) t → length (text t) ≡ n) where
  -- where a text stands first, if it ends in the first bytes
  pub found_in : Shows s a b (λ t. Some place ≡ first (bytes_of t x) start (text t)) → start ≤ place → place + n ≤ end →
      Finds {E = E} s a b x start end n text (Ok (Some place))
  found_in found low fits = answered (record { from = low; within = fits })
      (shown_so found (λ t held is. first_within (bytes_of t x) (text t) end start place (omega (arith, len t held, fits)) is))

  -- or it stands nowhere up to a place past them
  pub nowhere_in : Shows s a b (λ t. StandsNot t x (text t) start place) → end < place + n →
      Finds {E = E} s a b x start end n text (Ok None)
  nowhere_in none past = answered (record { from = tt; within = tt })
      (shown_so none (λ t held none. none_within t x (text t) start place end (omega (arith, len t held, past)) none))

-- what was found in as many of the first bytes as there are
pub cut_found : {S E : Type 0} {s : Ghosts S} {a b : S} {Q : Option ℕ → Type 0} {r : Option ℕ} {n e : ℕ} (x : Option Node)
    (text : Table → List ℕ) (end start : ℕ) → IsAnswer {E = E} s a b (Ok r) Q (λ t found. found ≡ first (take e (bytes_of t x)) start (text t)) →
    IsReadable (s.lengths a) x → n ≡ text_len x → e ≡ min end n → Shows s a b (λ t. r ≡ first (take end (bytes_of t x)) start (text t))
cut_found {n = n} {e = e} x text end start h readable is cut = shown_once h (λ t held found.
    found ∙ ap (λ (ys : List ℕ). first ys start (text t)) (take_limit t x end n e (len_in held readable) is cut))

-- what ends before a place ends before a later one
pub ends_within : (r : Option ℕ) (n a b : ℕ) → a ≤ b → IfSome r (λ place. place + n ≤ a) → IfSome r (λ place. place + n ≤ b)
ends_within None n a b le h = tt
ends_within (Some p) n a b le h = omega (arith, le, h)
