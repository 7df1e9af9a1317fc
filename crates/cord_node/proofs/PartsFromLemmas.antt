-- Laws of `AreFrom` and `PartsFrom`.
use Rattle.std.proofs.Common.{◌≡◌, inl, inr, List, [], ◌∷◌, ◌++◌, length-append, append_assoc, refl, arith, ◌∙◌, ⊎_elim}
use Rattle.cord_node.specs.PartsFrom.{Part, leaf_part, run_part, func_part, IsSmall, IsRangeOf, IsFrom, AreFrom, PartsFrom}

-- a part is a range of itself
pub IsRangeOf-self : (p : Part) → IsRangeOf p p
IsRangeOf-self (leaf_part bytes start len) = (refl, (omega arith, omega arith))
IsRangeOf-self (run_part byte len) = (refl, omega arith)
IsRangeOf-self (func_part id start len) = (refl, (omega arith, omega arith))

-- a small leaf comes from anywhere
pub IsFrom-small : (p : Part) (qs : List Part) → IsSmall p → IsFrom p qs
IsFrom-small p [] h = h
IsFrom-small p (q ∷ qs) h = inr (IsFrom-small p qs h)

-- from the first of two lists
pub IsFrom-append_left : (p : Part) (qs rs : List Part) → IsFrom p qs → IsFrom p (qs ++ rs)
IsFrom-append_left p [] rs h = IsFrom-small p rs h
IsFrom-append_left p (q ∷ qs) rs h = ⊎_elim (λ a. inl a) (λ b. inr (IsFrom-append_left p qs rs b)) h

-- from the second of two lists
pub IsFrom-append_right : (p : Part) (qs rs : List Part) → IsFrom p rs → IsFrom p (qs ++ rs)
IsFrom-append_right p [] rs h = h
IsFrom-append_right p (q ∷ qs) rs h = inr (IsFrom-append_right p qs rs h)

-- all from the first of two lists
pub AreFrom-append_left : (ps qs rs : List Part) → AreFrom ps qs → AreFrom ps (qs ++ rs)
AreFrom-append_left [] qs rs h = h
AreFrom-append_left (p ∷ ps) qs rs h = (IsFrom-append_left p qs rs h.0, AreFrom-append_left ps qs rs h.1)

-- all from the second of two lists
pub AreFrom-append_right : (ps qs rs : List Part) → AreFrom ps rs → AreFrom ps (qs ++ rs)
AreFrom-append_right [] qs rs h = h
AreFrom-append_right (p ∷ ps) qs rs h = (IsFrom-append_right p qs rs h.0, AreFrom-append_right ps qs rs h.1)

-- two lists, both from a third
pub AreFrom-append : (ps ps' qs : List Part) → AreFrom ps qs → AreFrom ps' qs → AreFrom (ps ++ ps') qs
AreFrom-append [] ps' qs h h' = h'
AreFrom-append (p ∷ ps) ps' qs h h' = (h.0, AreFrom-append ps ps' qs h.1 h')

-- parts are from themselves
pub AreFrom-self : (ps : List Part) → AreFrom ps ps
AreFrom-self [] = tt
AreFrom-self (p ∷ ps) = (inl (IsRangeOf-self p), AreFrom-append_right ps (p ∷ []) ps (AreFrom-self ps))

-- and from a list that is written as themselves
pub AreFrom_same : (old new : List Part) → new ≡ old → AreFrom new old
AreFrom_same old new e = rw e (AreFrom-self old)

-- parts come from themselves
pub PartsFrom-self : (ps : List Part) → PartsFrom ps ps
PartsFrom-self ps = record { no_more = omega arith; from_there = AreFrom-self ps }

-- the parts of both, in a list that is written as one
pub PartsFrom_same : (old new : List Part) → new ≡ old → PartsFrom old new
PartsFrom_same old new e = rw e (PartsFrom-self old)

-- a range of a small leaf is a small leaf
pub IsSmall-range : (p q : Part) → IsRangeOf p q → IsSmall q → IsSmall p
IsSmall-range (leaf_part bytes start len) (leaf_part bytes' start' len') h k = omega (arith, h.1, k)
IsSmall-range (leaf_part bytes start len) (run_part byte' len') h k = absurd k
IsSmall-range (leaf_part bytes start len) (func_part id' start' len') h k = absurd k
IsSmall-range (run_part byte len) (leaf_part bytes' start' len') h k = absurd h
IsSmall-range (run_part byte len) (run_part byte' len') h k = absurd k
IsSmall-range (run_part byte len) (func_part id' start' len') h k = absurd k
IsSmall-range (func_part id start len) (leaf_part bytes' start' len') h k = absurd h
IsSmall-range (func_part id start len) (run_part byte' len') h k = absurd k
IsSmall-range (func_part id start len) (func_part id' start' len') h k = absurd k

-- a range of a range is a range
pub IsRangeOf-trans : (p q r : Part) → IsRangeOf p q → IsRangeOf q r → IsRangeOf p r
IsRangeOf-trans (leaf_part bytes start len) (leaf_part bytes' start' len') (leaf_part bytes'' start'' len'') h k =
    (h.0 ∙ k.0, (omega arith, omega arith))
IsRangeOf-trans (leaf_part bytes start len) (leaf_part bytes' start' len') (run_part byte'' len'') h k = absurd k
IsRangeOf-trans (leaf_part bytes start len) (leaf_part bytes' start' len') (func_part id'' start'' len'') h k = absurd k
IsRangeOf-trans (leaf_part bytes start len) (run_part byte' len') r h k = absurd h
IsRangeOf-trans (leaf_part bytes start len) (func_part id' start' len') r h k = absurd h
IsRangeOf-trans (run_part byte len) (leaf_part bytes' start' len') r h k = absurd h
IsRangeOf-trans (run_part byte len) (run_part byte' len') (leaf_part bytes'' start'' len'') h k = absurd k
IsRangeOf-trans (run_part byte len) (run_part byte' len') (run_part byte'' len'') h k = (h.0 ∙ k.0, omega arith)
IsRangeOf-trans (run_part byte len) (run_part byte' len') (func_part id'' start'' len'') h k = absurd k
IsRangeOf-trans (run_part byte len) (func_part id' start' len') r h k = absurd h
IsRangeOf-trans (func_part id start len) (leaf_part bytes' start' len') r h k = absurd h
IsRangeOf-trans (func_part id start len) (run_part byte' len') r h k = absurd h
IsRangeOf-trans (func_part id start len) (func_part id' start' len') (leaf_part bytes'' start'' len'') h k = absurd k
IsRangeOf-trans (func_part id start len) (func_part id' start' len') (run_part byte'' len'') h k = absurd k
IsRangeOf-trans (func_part id start len) (func_part id' start' len') (func_part id'' start'' len'') h k =
    (h.0 ∙ k.0, (omega arith, omega arith))

-- a range of what comes from a list comes from it
pub IsFrom-range : (p q : Part) (rs : List Part) → IsRangeOf p q → IsFrom q rs → IsFrom p rs
IsFrom-range p q [] h k = IsSmall-range p q h k
IsFrom-range p q (r ∷ rs) h k = ⊎_elim (λ a. inl (IsRangeOf-trans p q r h a)) (λ b. inr (IsFrom-range p q rs h b)) k

-- what comes from what comes from a list
pub IsFrom-through : (p : Part) (qs rs : List Part) → IsFrom p qs → AreFrom qs rs → IsFrom p rs
IsFrom-through p [] rs h k = IsFrom-small p rs h
IsFrom-through p (q ∷ qs) rs h k = ⊎_elim (λ a. IsFrom-range p q rs a k.0) (λ b. IsFrom-through p qs rs b k.1) h

-- so for all of a list
pub AreFrom-trans : (ps qs rs : List Part) → AreFrom ps qs → AreFrom qs rs → AreFrom ps rs
AreFrom-trans [] qs rs h k = tt
AreFrom-trans (p ∷ ps) qs rs h k = (IsFrom-through p qs rs h.0 k, AreFrom-trans ps qs rs h.1 k)

-- through parts between
pub PartsFrom-trans : (a b c : List Part) → PartsFrom a b → PartsFrom b c → PartsFrom a c
PartsFrom-trans a b c h k = record { no_more = omega arith; from_there = AreFrom-trans c b a k.from_there h.from_there }

-- from the first of two lists
pub PartsFrom-left : (a b ps : List Part) → PartsFrom a ps → PartsFrom (a ++ b) ps
PartsFrom-left a b ps h = record {
  no_more = omega (arith, h.no_more, length-append a b);
  from_there = AreFrom-append_left ps a b
      h.from_there;
}

-- from the second of two lists
pub PartsFrom-right : (a b ps : List Part) → PartsFrom b ps → PartsFrom (a ++ b) ps
PartsFrom-right a b ps h = record {
  no_more = omega (arith, h.no_more, length-append a b);
  from_there = AreFrom-append_right ps a b h.from_there;
}

-- two lists, one after the other
pub PartsFrom-both : (a b ps qs : List Part) → PartsFrom a ps → PartsFrom b qs → PartsFrom (a ++ b) (ps ++ qs)
PartsFrom-both a b ps qs h k = record {
  no_more = omega (arith, h.no_more, k.no_more, length-append a b, length-append ps qs);
  from_there = AreFrom-append ps qs (a ++ b) (AreFrom-append_left ps a b h.from_there) (AreFrom-append_right qs a b k.from_there);
}

-- two lists, joined to a third
pub PartsFrom-join : (a b ps qs rs : List Part) → PartsFrom a ps → PartsFrom b qs → PartsFrom (ps ++ qs) rs → PartsFrom (a ++ b) rs
PartsFrom-join a b ps qs rs h k j = PartsFrom-trans (a ++ b) (ps ++ qs) rs (PartsFrom-both a b ps qs h k) j

-- one more of a list in order
pub PartsFrom-more : (all old x rest new : List Part) → PartsFrom all (old ++ (x ++ rest)) → PartsFrom (old ++ x) new → PartsFrom all
    (new ++ rest)
PartsFrom-more all old x rest new a b =
    let p : PartsFrom ((old ++ x) ++ rest) (new ++ rest) = PartsFrom-both (old ++ x) rest new rest b (PartsFrom-self rest) in
    let q : PartsFrom (old ++ (x ++ rest)) (new ++ rest) = rw (← append_assoc old x rest) p in
    PartsFrom-trans all (old ++ (x ++ rest)) (new ++ rest) a q
