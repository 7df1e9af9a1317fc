-- A run follows paths.
use Rattle.std.specs.Prelude.{◌≡◌, ◌+◌, ◌<◌, ◌≤◌, ◌∷◌, ◌++◌, if◌then◌else◌}
use Rattle.cord_meaning.proofs.Common.{ℕ, zero, suc, ℤ, pos, negsuc, Bool, true, false, List, [], length, map, drop, Option, Some, None}
use Rattle.cord_meaning.proofs.Common.{Result, Ok, Err, refl, sym, ap, ◌∙◌, subst, inl, inr, nat_lt, arith, slice_get, End, FaultKind}
use Rattle.cord_meaning.proofs.Common.{TooManyTurns, Shape, Straight, Loop, Branch, Otherwise, Close, IsNested, to_end, to_else, jump_at}
use Rattle.cord_meaning.proofs.Common.{jump_of, opened, open_at, NextOf, NextOfClose, Next, Rules, Block, Turns, Chosen, Config, acted}
use Rattle.cord_meaning.proofs.Common.{begins, turned, faults, notes, repeats, chooses, closes, goes_to, if_running, jump_from, runs_shape}
use Rattle.cord_meaning.proofs.Common.{runs, after, slice_get_within, slice_get-map, option_map, at_here, next_here, some_here}

-- what a block of a run is to paths
abbrev block_place : Block → Option ℕ
block_place (Turns place line left) = Some place
block_place Chosen = None

abbrev block_places : List Block → List (Option ℕ)
block_places bs = map block_place bs

-- the place of the first block, if it is a `repeat`
abbrev first_place : List (Option ℕ) → ℕ
first_place (Some r ∷ blocks) = r
first_place _ = 0

abbrev outer : List (Option ℕ) → List (Option ℕ)
outer [] = []
outer (b ∷ blocks) = blocks

not_nil : (xs : List (Option ℕ)) (x : Option ℕ) (rest : List (Option ℕ)) → xs ++ (x ∷ rest) ≡ [] → ⊥
not_nil [] x rest e = cc
not_nil (y ∷ xs) x rest e = cc

drop-outer : (d : ℕ) (blocks : List (Option ℕ)) → drop d (outer blocks) ≡ drop (suc d) blocks
drop-outer zero [] = refl
drop-outer (suc d) [] = refl
drop-outer d (b ∷ blocks) = refl

opened-close : (p : ℕ) (blocks : List (Option ℕ)) → opened p blocks (Some Close) ≡ outer blocks
opened-close p [] = refl
opened-close p (b ∷ blocks) = refl

module _ (shapes : List Shape) where
  -- one statement further
  pub open_next : (p : ℕ) (o : Option Shape) → slice_get shapes p ≡ o → open_at shapes (p + 1) ≡ opened p (open_at shapes p) o
  open_next p o e = let one : p + 1 ≡ suc p = omega arith in
      ap (λ (n : ℕ). open_at shapes n) one ∙ ap (λ (w : Option Shape). opened p (open_at shapes p) w) e

  module _ (r : ℕ) (rest : List (Option ℕ)) where
    after_loop : (p : ℕ) (xs : List (Option ℕ)) → slice_get shapes p ≡ Some Loop → Some p ∷ open_at shapes p ≡ xs ++ (Some r ∷ rest) →
        ((ys : List (Option ℕ)) → open_at shapes p ≡ ys ++ (Some r ∷ rest) → open_at shapes (r + 1) ≡ Some r ∷ rest) →
        open_at shapes (r + 1) ≡ Some r ∷ rest
    after_loop p [] s e ih = let same : p ≡ r = ap first_place e in
        subst (λ (n : ℕ). open_at shapes (n + 1) ≡ Some r ∷ rest) same (open_next p (Some Loop) s ∙ e)
    after_loop p (y ∷ ys) s e ih = ih ys (ap outer e)

    after_branch : (p : ℕ) (xs : List (Option ℕ)) → None ∷ open_at shapes p ≡ xs ++ (Some r ∷ rest) →
        ((ys : List (Option ℕ)) → open_at shapes p ≡ ys ++ (Some r ∷ rest) → open_at shapes (r + 1) ≡ Some r ∷ rest) →
        open_at shapes (r + 1) ≡ Some r ∷ rest
    after_branch p [] e ih = absurd (differ (ap is_loop e))
      where
        is_loop : List (Option ℕ) → Bool
        is_loop (Some q ∷ blocks) = true
        is_loop _ = false

        differ : false ≡ true → ⊥
        differ e = cc
    after_branch p (y ∷ ys) e ih = ih ys (ap outer e)

    after_close : (p : ℕ) (xs stack : List (Option ℕ)) → open_at shapes p ≡ stack → opened p stack (Some Close) ≡ xs ++ (Some r ∷ rest) →
        ((ys : List (Option ℕ)) → open_at shapes p ≡ ys ++ (Some r ∷ rest) → open_at shapes (r + 1) ≡ Some r ∷ rest) →
        open_at shapes (r + 1) ≡ Some r ∷ rest
    after_close p xs [] k e ih = absurd (not_nil xs (Some r) rest (sym e))
    after_close p xs (b ∷ stack) k e ih = ih (b ∷ xs) (k ∙ ap (λ (ys : List (Option ℕ)). b ∷ ys) e)

    after_one : (p : ℕ) (xs : List (Option ℕ)) (o : Option Shape) → slice_get shapes p ≡ o →
        opened p (open_at shapes p) o ≡ xs ++ (Some r ∷ rest) →
        ((ys : List (Option ℕ)) → open_at shapes p ≡ ys ++ (Some r ∷ rest) → open_at shapes (r + 1) ≡ Some r ∷ rest) →
        open_at shapes (r + 1) ≡ Some r ∷ rest
    after_one p xs (Some Loop) s e ih = after_loop p xs s e ih
    after_one p xs (Some Branch) s e ih = after_branch p xs e ih
    after_one p xs (Some Close) s e ih = after_close p xs (open_at shapes p) refl e ih
    after_one p xs _ s e ih = ih xs e

    -- the blocks that are open inside an open `repeat`, at its first place
    open_after : (p : ℕ) (xs : List (Option ℕ)) → open_at shapes p ≡ xs ++ (Some r ∷ rest) → open_at shapes (r + 1) ≡ Some r ∷ rest
    open_after zero xs e = absurd (not_nil xs (Some r) rest (sym e))
    open_after (suc p) xs e = after_one p xs (slice_get shapes p) refl e (λ ys k. open_after p ys k)

  -- what stands at q is passed over, with the blocks that it opens
  abbrev Passed : ℕ → ℕ → ℕ → Type 0
  Passed q d n = open_at shapes (q + n) ≡ drop d (open_at shapes q)

  passed_on : (q n d e : ℕ) (x : Shape) (ls : List Shape) → drop q shapes ≡ x ∷ ls →
      drop e (opened q (open_at shapes q) (Some x)) ≡ drop d (open_at shapes q) →
      open_at shapes (q + 1 + n) ≡ drop e (open_at shapes (q + 1)) → open_at shapes (q + suc n) ≡ drop d (open_at shapes q)
  passed_on q n d e x ls here same ih =
      let one : q + suc n ≡ q + 1 + n = omega arith in
      ap (λ (m : ℕ). open_at shapes m) one ∙ ih ∙ ap (λ (bs : List (Option ℕ)). drop e bs)
      (open_next q (Some x) (at_here shapes q x ls here)) ∙ same

  still : (q : ℕ) → open_at shapes (q + 0) ≡ open_at shapes q
  still q = let same : q + 0 ≡ q = omega arith in ap (λ (n : ℕ). open_at shapes n) same

  -- what stands at q is passed over up to the `end` that closes d blocks and one more
  abbrev Ends : ℕ → ℕ → ℕ → Type 0
  Ends q d n = Passed q d n × (slice_get shapes (q + n) ≡ Some Close)

  ends_on : (q n d e : ℕ) (x : Shape) (ls : List Shape) → drop q shapes ≡ x ∷ ls →
      drop e (opened q (open_at shapes q) (Some x)) ≡ drop d (open_at shapes q) → Ends (q + 1) e n → Ends q d (suc n)
  ends_on q n d e x ls here same ih = let one : q + suc n ≡ q + 1 + n = omega arith in
      (passed_on q n d e x ls here same ih.0, ap (λ (m : ℕ). slice_get shapes m) one ∙ ih.1)

  end_comes : (ls : List Shape) (q d : ℕ) (st : List Bool) → drop q shapes ≡ ls → IsNested st ls → d < length st → Ends q d (to_end d ls)
  end_comes [] q d [] here n lt = absurd (omega arith)
  end_comes [] q d (b ∷ st) here n lt = absurd n
  end_comes (Straight ∷ ls) q d st here n lt = ends_on q (to_end d ls) d d Straight ls here refl
      (end_comes ls (q + 1) d st (next_here shapes q Straight ls here) n lt)
  end_comes (Loop ∷ ls) q d st here n lt = ends_on q (to_end (suc d) ls) d (suc d) Loop ls here refl
      (end_comes ls (q + 1) (suc d) (false ∷ st) (next_here shapes q Loop ls here) n (omega arith))
  end_comes (Branch ∷ ls) q d st here n lt = ends_on q (to_end (suc d) ls) d (suc d) Branch ls here refl
      (end_comes ls (q + 1) (suc d) (true ∷ st) (next_here shapes q Branch ls here) n (omega arith))
  end_comes (Otherwise ∷ ls) q d (true ∷ st) here n lt = ends_on q (to_end d ls) d d Otherwise ls here refl
      (end_comes ls (q + 1) d (false ∷ st) (next_here shapes q Otherwise ls here) n lt)
  end_comes (Otherwise ∷ ls) q d _ here n lt = absurd n
  end_comes (Close ∷ ls) q zero st here n lt = let same : q + 0 ≡ q = omega arith in
      (still q, ap (λ (m : ℕ). slice_get shapes m) same ∙ at_here shapes q Close ls here)
  end_comes (Close ∷ ls) q (suc d) [] here n lt = absurd n
  end_comes (Close ∷ ls) q (suc d) (b ∷ st) here n lt = ends_on q (to_end d ls) (suc d) d Close ls here
      (ap (λ (bs : List (Option ℕ)). drop d bs) (opened-close q (open_at shapes q)) ∙ drop-outer d (open_at shapes q))
      (end_comes ls (q + 1) d st (next_here shapes q Close ls here) n (omega arith))

  -- after the `else`, or up to the `end`, of an `if`
  else_comes : (ls : List Shape) (q d : ℕ) (st : List Bool) → drop q shapes ≡ ls → IsNested st ls → d < length st → Passed q d (to_else d ls)
  else_comes [] q d [] here n lt = absurd (omega arith)
  else_comes [] q d (b ∷ st) here n lt = absurd n
  else_comes (Straight ∷ ls) q d st here n lt = passed_on q (to_else d ls) d d Straight ls here refl
      (else_comes ls (q + 1) d st (next_here shapes q Straight ls here) n lt)
  else_comes (Loop ∷ ls) q d st here n lt = passed_on q (to_else (suc d) ls) d (suc d) Loop ls here refl
      (else_comes ls (q + 1) (suc d) (false ∷ st) (next_here shapes q Loop ls here) n (omega arith))
  else_comes (Branch ∷ ls) q d st here n lt = passed_on q (to_else (suc d) ls) d (suc d) Branch ls here refl
      (else_comes ls (q + 1) (suc d) (true ∷ st) (next_here shapes q Branch ls here) n (omega arith))
  else_comes (Otherwise ∷ ls) q d [] here n lt = absurd n
  else_comes (Otherwise ∷ ls) q d (false ∷ st) here n lt = absurd n
  else_comes (Otherwise ∷ ls) q zero (true ∷ st) here n lt = open_next q (Some Otherwise) (at_here shapes q Otherwise ls here)
  else_comes (Otherwise ∷ ls) q (suc d) (true ∷ st) here n lt = passed_on q (to_else (suc d) ls) (suc d) (suc d) Otherwise ls here refl
      (else_comes ls (q + 1) (suc d) (false ∷ st) (next_here shapes q Otherwise ls here) n lt)
  else_comes (Close ∷ ls) q zero st here n lt = still q
  else_comes (Close ∷ ls) q (suc d) [] here n lt = absurd n
  else_comes (Close ∷ ls) q (suc d) (b ∷ st) here n lt =
      passed_on q (to_else d ls) (suc d) d Close ls here (ap (λ (bs : List (Option ℕ)). drop d bs) (opened-close q (open_at shapes q))
      ∙ drop-outer d (open_at shapes q)) (else_comes ls (q + 1) d st (next_here shapes q Close ls here) n (omega arith))

  nested_one : (p : ℕ) (x : Shape) (rest : List Shape) (st : List Bool) (blocks : List (Option ℕ)) → IsNested st (x ∷ rest) →
      length st ≡ length blocks → (more : List Bool) × IsNested more rest × (length more ≡ length (opened p blocks (Some x)))
  nested_one p Straight rest st blocks n e = (st, n, e)
  nested_one p Loop rest st blocks n e = (false ∷ st, n, omega (arith, e))
  nested_one p Branch rest st blocks n e = (true ∷ st, n, omega (arith, e))
  nested_one p Otherwise rest [] blocks n e = absurd n
  nested_one p Otherwise rest (false ∷ st) blocks n e = absurd n
  nested_one p Otherwise rest (true ∷ st) blocks n e = (false ∷ st, n, e)
  nested_one p Close rest [] blocks n e = absurd n
  nested_one p Close rest (b ∷ st) [] n e = absurd (omega (arith, e))
  nested_one p Close rest (b ∷ st) (c ∷ blocks) n e = (st, n, omega (arith, e))

  -- the blocks that are open at a place are closed after it
  nested_at : IsNested [] shapes → (p : ℕ) → p ≤ length shapes → (st : List Bool) × IsNested st (drop p shapes) ×
      (length st ≡ length (open_at shapes p))
  nested_at n zero le = ([], n, refl)
  nested_at n (suc p) le =
      let here = some_here shapes p (omega arith) in
      let before = nested_at n p (omega arith) in
      let now : IsNested before.0 (here.0 ∷ here.1) = subst (λ (ls : List Shape). IsNested before.0 ls) here.2 before.1 in
      let one = nested_one p here.0 here.1 before.0 (open_at shapes p) now before.2 in
      let same : p + 1 ≡ suc p = omega arith in
      let beyond : drop (suc p) shapes ≡ here.1 = ap (λ (m : ℕ). drop m shapes) (sym same) ∙ next_here shapes p here.0 here.1 here.2 in
      let shape : slice_get shapes p ≡ Some here.0 = at_here shapes p here.0 here.1 here.2 in (
        one.0,
        subst (λ (ls : List Shape). IsNested one.0 ls) (sym beyond) one.1,
        one.2
            ∙ ap (λ (o : Option Shape). length (opened p (open_at shapes p) o)) (sym shape),
      )

  module _ (nested : IsNested [] shapes) (p : ℕ) (inside : p < length shapes) where
    -- some block is open after a statement that opens one
    one_open : (x : Shape) (blocks : List (Option ℕ)) (b : Option ℕ) → slice_get shapes p ≡ Some x →
        opened p (open_at shapes p) (Some x) ≡ b ∷ blocks → (st : List Bool) × IsNested st (drop (p + 1) shapes) × (0 < length st)
    one_open x blocks b s e =
        let beyond = nested_at nested (p + 1) (omega (arith, inside)) in
        let some : length (open_at shapes (p + 1)) ≡ length (b ∷ blocks) =
        ap (λ (bs : List (Option ℕ)). length bs) (open_next p (Some x) s ∙ e) in
        (beyond.0, beyond.1, omega (arith, some, beyond.2))

    -- after the `end` of a `repeat` the same blocks are open as before it
    open_after_loop : slice_get shapes p ≡ Some Loop → open_at shapes (jump_of Loop p (drop (p + 1) shapes)) ≡ open_at shapes p
    open_after_loop s =
        let w = one_open Loop (open_at shapes p) (Some p) s refl in
        let e : ℕ = p + 1 + to_end 0 (drop (p + 1) shapes) in
        let end = end_comes (drop (p + 1) shapes) (p + 1) 0 w.0 refl w.1 w.2 in
        open_next e (Some Close) end.1 ∙ ap (λ (bs : List (Option ℕ)). opened e bs (Some Close)) (end.0 ∙ open_next p (Some Loop) s)

    -- where an `if` doesn't hold it is open
    open_after_else : slice_get shapes p ≡ Some Branch → open_at shapes (jump_of Branch p (drop (p + 1) shapes)) ≡ None ∷ open_at shapes p
    open_after_else s =
        let w = one_open Branch (open_at shapes p) None s refl in
        else_comes (drop (p + 1) shapes) (p + 1) 0 w.0 refl w.1 w.2 ∙ open_next p (Some Branch) s

    -- an `else` leads to where the same blocks are open
    open_at_end : slice_get shapes p ≡ Some Otherwise → open_at shapes (jump_of Otherwise p (drop (p + 1) shapes)) ≡ open_at shapes p
    open_at_end s =
        let before = nested_at nested p (omega (arith, inside)) in
        let here = some_here shapes p inside in
        let now : IsNested before.0 (here.0 ∷ here.1) = subst (λ (ls : List Shape). IsNested before.0 ls) here.2 before.1 in
        let is : Some here.0 ≡ Some Otherwise = sym (at_here shapes p here.0 here.1 here.2) ∙ s in
        let some : 0 < length before.0 = some_block before.0 here.0 here.1 is now in
        let beyond = nested_at nested (p + 1) (omega (arith, inside)) in
        let same : length (open_at shapes (p + 1)) ≡ length (open_at shapes p) =
        ap (λ (bs : List (Option ℕ)). length bs) (open_next p (Some Otherwise) s) in
        (end_comes (drop (p + 1) shapes) (p + 1) 0 beyond.0 refl beyond.1 (omega (arith, some, same, beyond.2, before.2))).0
        ∙ open_next p (Some Otherwise) s
      where
        some_block : (st : List Bool) (x : Shape) (rest : List Shape) → Some x ≡ Some Otherwise → IsNested st (x ∷ rest) → 0 < length st
        some_block (b ∷ st) x rest is n = omega arith
        some_block [] x rest is n = absurd (subst (λ (o : Option Shape). NestedHere o rest) is n)
          where
            NestedHere : Option Shape → List Shape → Type 0
            NestedHere None rest = ⊥
            NestedHere (Some y) rest = IsNested [] (y ∷ rest)

module _ {L S : Type 0} (rules : Rules L S) (most : ℕ) (statements : List L) where
  abbrev shapes_of : List Shape
  shapes_of = map rules.shape statements

  -- the open blocks of a run are those that are open at its place
  abbrev Fits : Config S → Type 0
  Fits c = block_places c.blocks ≡ open_at shapes_of c.place

  -- it goes on to a place that may come next, with the blocks that are open there
  abbrev Follows : Config S → Config S → Type 0
  Follows c d = Next shapes_of c.place d.place × Fits d

  ended_not : (e : End) → Some e ≡ None → ⊥
  ended_not e h = cc

  module _ (nested : IsNested [] shapes_of) (c : Config S) (fits : Fits c) (l : L) (here : slice_get statements c.place ≡ Some l) where
    module _ (x : Shape) (is : rules.shape l ≡ x) where
      shape_here : slice_get shapes_of c.place ≡ Some x
      shape_here = slice_get-map rules.shape statements c.place ∙ ap (λ (o : Option L). option_map rules.shape o) here
          ∙ ap (λ (w : Shape). Some w) is

      next_by : (q : ℕ) → NextOf shapes_of c.place (Some x) q → Next shapes_of c.place q
      next_by q h = subst (λ (o : Option Shape). NextOf shapes_of c.place o q) (sym shape_here) h

      jump_is : jump_from rules most statements c.place ≡ jump_of x c.place (drop (c.place + 1) shapes_of)
      jump_is = ap (λ (o : Option Shape). jump_at o c.place (drop (c.place + 1) shapes_of)) shape_here

      inside : c.place < length shapes_of
      inside = slice_get_within shapes_of c.place x shape_here

      -- one statement further
      steps_on : opened c.place (open_at shapes_of c.place) (Some x) ≡ opened c.place (block_places c.blocks) (Some x)
      steps_on = ap (λ (bs : List (Option ℕ)). opened c.place bs (Some x)) (sym fits)

      fits_next : (bs : List Block) → block_places bs ≡ opened c.place (block_places c.blocks) (Some x) →
          block_places bs ≡ open_at shapes_of (c.place + 1)
      fits_next bs e = e ∙ sym steps_on ∙ sym (open_next shapes_of c.place (Some x) shape_here)

    acted_follows : rules.shape l ≡ Straight → (line : ℕ) (r : Result (S × List ℕ) FaultKind) → (acted c line r).ended ≡ None →
        Follows c (acted c line r)
    acted_follows is line (Ok next) e = (next_by Straight is (c.place + 1) refl, fits_next Straight is c.blocks refl)
    acted_follows is line (Err kind) e = absurd (ended_not _ e)

    begins_follows : (d : Config S) (place line left : ℕ) (bs : List Block) → Next shapes_of c.place (place + 1) →
        Some place ∷ block_places bs ≡ open_at shapes_of (place + 1) → (begins most d place line left bs).ended ≡ None →
        Follows c (begins most d place line left bs)
    begins_follows d place line left bs next fit = pick (nat_lt d.turns most)
      where
        pick : (v : Bool) → (if v then turned d place line left bs else faults d line TooManyTurns).ended ≡ None →
            Follows c (if v then turned d place line left bs else faults d line TooManyTurns)
        pick true e = (next, fit)
        pick false e = absurd (ended_not _ e)

    repeats_follows : rules.shape l ≡ Loop → (line : ℕ) (z : ℤ) → (repeats most c line (jump_from rules most statements c.place) z).ended
        ≡ None → Follows c (repeats most c line (jump_from rules most statements c.place) z)
    repeats_follows is line (negsuc n) e = absurd (ended_not _ e)
    repeats_follows is line (pos zero) e = (
      next_by Loop is (jump_from rules most statements c.place) (inr refl),
      fits
          ∙ sym (open_after_loop shapes_of nested c.place (inside Loop is) (shape_here Loop is))
          ∙ ap (λ (q : ℕ). open_at shapes_of q) (sym (jump_is Loop is)),
    )
    repeats_follows is line (pos (suc n)) e = begins_follows (notes c line []) c.place line n c.blocks
        (next_by Loop is (c.place + 1) (inl refl)) (fits_next Loop is (Turns c.place line n ∷ c.blocks) refl) e

    chooses_follows : rules.shape l ≡ Branch → (line : ℕ) (v : Bool) →
        Follows c (chooses c line (jump_from rules most statements c.place) v)
    chooses_follows is line true = (next_by Branch is (c.place + 1) (inl refl), fits_next Branch is (Chosen ∷ c.blocks) refl)
    chooses_follows is line false = (
      next_by Branch is (jump_from rules most statements c.place) (inr refl),
      ap (λ (bs : List (Option ℕ)). None ∷ bs) fits
          ∙ sym (open_after_else shapes_of nested c.place (inside Branch is) (shape_here Branch is))
          ∙ ap (λ (q : ℕ). open_at shapes_of q) (sym (jump_is Branch is)),
    )

    -- an `end` where these blocks were open and those are left
    closes_on : rules.shape l ≡ Close → (bs rest : List Block) → c.blocks ≡ bs →
        block_places rest ≡ opened c.place (block_places bs) (Some Close) → NextOfClose c.place (block_places bs) (c.place + 1) →
        Follows c (goes_to c (c.place + 1) rest)
    closes_on is bs rest k e next = (
      next_by Close is (c.place + 1) (subst (λ (os : List (Option ℕ)). NextOfClose c.place os (c.place + 1))
          (ap block_places (sym k) ∙ fits) next),
      fits_next Close is rest (e ∙ ap (λ (xs : List Block). opened c.place (block_places xs) (Some Close)) (sym k)),
    )

    closes_follows : rules.shape l ≡ Close → (bs : List Block) → c.blocks ≡ bs → (closes most c bs).ended ≡ None →
        Follows c (closes most c bs)
    closes_follows is [] k e = closes_on is [] [] k refl refl
    closes_follows is (Chosen ∷ bs) k e = closes_on is (Chosen ∷ bs) bs k refl refl
    closes_follows is (Turns place line zero ∷ bs) k e = closes_on is (Turns place line zero ∷ bs) bs k refl (inr refl)
    closes_follows is (Turns place line (suc n) ∷ bs) k e =
        let opens : Some place ∷ block_places bs ≡ open_at shapes_of c.place = ap block_places (sym k) ∙ fits in
        begins_follows c place line n bs
        (next_by Close is (place + 1) (subst (λ (os : List (Option ℕ)). NextOfClose c.place os (place + 1)) opens (inl refl)))
        (sym (open_after shapes_of place (block_places bs) c.place [] (sym opens))) e

    shape_follows : (x : Shape) → rules.shape l ≡ x → (runs_shape rules most statements c l x).ended ≡ None →
        Follows c (runs_shape rules most statements c l x)
    shape_follows Straight is e = acted_follows is (rules.line l) (rules.act c.place l c.state) e
    shape_follows Loop is e = repeats_follows is (rules.line l) (rules.count l c.state) e
    shape_follows Branch is e = chooses_follows is (rules.line l) (rules.holds l c.state)
    shape_follows Otherwise is e = (
      next_by Otherwise is (jump_from rules most statements c.place) refl,
      fits
          ∙ sym (open_at_end shapes_of nested c.place (inside Otherwise is) (shape_here Otherwise is))
          ∙ ap (λ (q : ℕ). open_at shapes_of q) (sym (jump_is Otherwise is)),
    )
    shape_follows Close is e = closes_follows is c.blocks refl e

  module _ (nested : IsNested [] shapes_of) where
    runs_follows : (c : Config S) → Fits c → (o : Option L) → slice_get statements c.place ≡ o →
        (runs rules most statements c o).ended ≡ None → Follows c (runs rules most statements c o)
    runs_follows c fits None here e = absurd (ended_not _ e)
    runs_follows c fits (Some l) here e = shape_follows nested c fits l here (rules.shape l) refl e

    step_follows : (c : Config S) → Fits c → (o : Option End) → c.ended ≡ o →
        (if_running o c (runs rules most statements c (slice_get statements c.place))).ended ≡ None →
        Follows c (if_running o c (runs rules most statements c (slice_get statements c.place)))
    step_follows c fits None k e = runs_follows c fits (slice_get statements c.place) refl e
    step_follows c fits (Some x) k e = absurd (ended_not x (sym k ∙ e))

    was_running : (c : Config S) (o : Option End) → c.ended ≡ o →
        (if_running o c (runs rules most statements c (slice_get statements c.place))).ended ≡ None → c.ended ≡ None
    was_running c None k e = k
    was_running c (Some x) k e = e

    fits_after : (a : S) (k : ℕ) → (after rules most statements k a).ended ≡ None → Fits (after rules most statements k a)
    fits_after a zero e = refl
    fits_after a (suc k) e =
        let c : Config S = after rules most statements k a in
        (step_follows c (fits_after a k (was_running c c.ended refl e)) c.ended refl e).1

    -- a run goes from a place to one that may come next
    pub follows : (a : S) (k : ℕ) → (after rules most statements (suc k) a).ended ≡ None →
        Next shapes_of (after rules most statements k a).place (after rules most statements (suc k) a).place
    follows a k e =
        let c : Config S = after rules most statements k a in
        (step_follows c (fits_after a k (was_running c c.ended refl e)) c.ended refl e).0
