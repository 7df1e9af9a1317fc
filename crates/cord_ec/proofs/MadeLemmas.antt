-- Laws of `AreFromOr` and `MadeOf`.
use Rattle.std.proofs.Common.{inl, inr, ℕ, ◌+◌, ◌≤◌, List, [], ◌∷◌, ◌++◌, length, length-append, arith, ⊎_elim}
use Rattle.cord_node.specs.PartsFrom.{Part, IsSmall, IsRangeOf, IsFrom, AreFrom, PartsFrom}
use Rattle.cord_node.proofs.PartsFromLemmas.{IsRangeOf-self, IsRangeOf-trans}
use Rattle.cord_ec.specs.Gathered.{IsFromOr, AreFromOr, MadeOf}

-- what a call may have of its own: each range of its own parts, and each small leaf
pub record IsOwn (own : Part → Type 0) : Type 0 where
  pub range : (p q : Part) → IsRangeOf p q → own q → own p
  pub small : (p : Part) → IsSmall p → own p

module _ (own : Part → Type 0) (laws : IsOwn own) where
  -- a call's own part comes from anywhere
  from_own : (p : Part) (qs : List Part) → own p → IsFromOr own p qs
  from_own p [] h = h
  from_own p (q ∷ qs) h = inr (from_own p qs h)

  -- from the first of two lists
  from_left : (p : Part) (qs rs : List Part) → IsFromOr own p qs → IsFromOr own p (qs ++ rs)
  from_left p [] rs h = from_own p rs h
  from_left p (q ∷ qs) rs h = ⊎_elim (λ a. inl a) (λ b. inr (from_left p qs rs b)) h

  -- from the second of two lists
  from_right : (p : Part) (qs rs : List Part) → IsFromOr own p rs → IsFromOr own p (qs ++ rs)
  from_right p [] rs h = h
  from_right p (q ∷ qs) rs h = inr (from_right p qs rs h)

  pub are_left : (ps qs rs : List Part) → AreFromOr own ps qs → AreFromOr own ps (qs ++ rs)
  are_left [] qs rs h = tt
  are_left (p ∷ ps) qs rs h = (from_left p qs rs h.0, are_left ps qs rs h.1)

  pub are_right : (ps qs rs : List Part) → AreFromOr own ps rs → AreFromOr own ps (qs ++ rs)
  are_right [] qs rs h = tt
  are_right (p ∷ ps) qs rs h = (from_right p qs rs h.0, are_right ps qs rs h.1)

  -- two lists, both from a third
  pub are_both : (ps ps' qs : List Part) → AreFromOr own ps qs → AreFromOr own ps' qs → AreFromOr own (ps ++ ps') qs
  are_both [] ps' qs h h' = h'
  are_both (p ∷ ps) ps' qs h h' = (h.0, are_both ps ps' qs h.1 h')

  -- parts are from themselves
  pub are_self : (ps : List Part) → AreFromOr own ps ps
  are_self [] = tt
  are_self (p ∷ ps) = (inl (IsRangeOf-self p), are_right ps (p ∷ []) ps (are_self ps))

  -- a range of what comes from a list comes from it
  from_range : (p q : Part) (rs : List Part) → IsRangeOf p q → IsFromOr own q rs → IsFromOr own p rs
  from_range p q [] h k = laws.range p q h k
  from_range p q (r ∷ rs) h k = ⊎_elim (λ a. inl (IsRangeOf-trans p q r h a)) (λ b. inr (from_range p q rs h b)) k

  -- what comes from what comes from a list
  from_through : (p : Part) (qs rs : List Part) → IsFromOr own p qs → AreFromOr own qs rs → IsFromOr own p rs
  from_through p [] rs h k = from_own p rs h
  from_through p (q ∷ qs) rs h k = ⊎_elim (λ a. from_range p q rs a k.0) (λ b. from_through p qs rs b k.1) h

  pub are_through : (ps qs rs : List Part) → AreFromOr own ps qs → AreFromOr own qs rs → AreFromOr own ps rs
  are_through [] qs rs h k = tt
  are_through (p ∷ ps) qs rs h k = (from_through p qs rs h.0 k, are_through ps qs rs h.1 k)

  -- what comes from parts is so too
  or_from : (p : Part) (qs : List Part) → IsFrom p qs → IsFromOr own p qs
  or_from p [] h = laws.small p h
  or_from p (q ∷ qs) h = ⊎_elim (λ a. inl a) (λ b. inr (or_from p qs b)) h

  pub are_from : (ps qs : List Part) → AreFrom ps qs → AreFromOr own ps qs
  are_from [] qs h = tt
  are_from (p ∷ ps) qs h = (or_from p qs h.0, are_from ps qs h.1)

  pub made_from : (old new : List Part) → PartsFrom old new → MadeOf own 0 old new
  made_from old new k = record { no_more = omega (arith, k.no_more); from_there = are_from new old k.from_there }

  pub made_self : (ps : List Part) → MadeOf own 0 ps ps
  made_self ps = record { no_more = omega arith; from_there = are_self ps }

  -- what is made of what is made
  pub made_through : (m n : ℕ) (a b c : List Part) → MadeOf own m a b → MadeOf own n b c → MadeOf own (m + n) a c
  made_through m n a b c h k = record {
    no_more = omega (arith, h.no_more, k.no_more);
    from_there = are_through c b a k.from_there h.from_there;
  }

  -- more is allowed
  pub made_more : (m n : ℕ) (a b : List Part) → m ≤ n → MadeOf own m a b → MadeOf own n a b
  made_more m n a b le h = record { no_more = omega (arith, le, h.no_more); from_there = h.from_there }

  -- the same parts after both
  pub made_beside : (m : ℕ) (a b qs : List Part) → MadeOf own m a b → MadeOf own m (a ++ qs) (b ++ qs)
  made_beside m a b qs h = record {
    no_more = omega (arith, h.no_more, length-append a qs, length-append b qs);
    from_there = are_both b qs (a ++ qs) (are_left b a qs h.from_there) (are_right qs a qs (are_self qs));
  }

  -- other parts after the same ones, which come from anywhere
  pub made_after : (m : ℕ) (a qs rs : List Part) → length rs ≤ length qs + m → AreFromOr own rs [] → MadeOf own m (a ++ qs) (a ++ rs)
  made_after m a qs rs few h = record {
    no_more = omega (arith, few, length-append a qs, length-append a rs);
    from_there = are_both a rs (a ++ qs) (are_left a a qs (are_self a)) (are_left rs [] (a ++ qs) h);
  }

  -- parts of a call's own that stood after others are no longer asked for
  pub made_without : (m : ℕ) (a qs b : List Part) → AreFromOr own qs [] → MadeOf own m (a ++ qs) b → MadeOf own (length qs + m) a b
  made_without m a qs b h k = record {
    no_more = omega (arith, k.no_more, length-append a qs);
    from_there = are_through b (a ++ qs) a k.from_there (are_both a qs a (are_self a) (are_left qs [] a h));
  }

-- a call that may have more of its own
module _ (own own' : Part → Type 0) (wider : (p : Part) → own p → own' p) where
  from_wider : (p : Part) (qs : List Part) → IsFromOr own p qs → IsFromOr own' p qs
  from_wider p [] h = wider p h
  from_wider p (q ∷ qs) h = ⊎_elim (λ a. inl a) (λ b. inr (from_wider p qs b)) h

  are_wider : (ps qs : List Part) → AreFromOr own ps qs → AreFromOr own' ps qs
  are_wider [] qs h = tt
  are_wider (p ∷ ps) qs h = (from_wider p qs h.0, are_wider ps qs h.1)

  pub made_wider : (m : ℕ) (a b : List Part) → MadeOf own m a b → MadeOf own' m a b
  made_wider m a b h = record { no_more = h.no_more; from_there = are_wider b a h.from_there }
