-- The machine runs a script as its unrolled run says.
use Rattle.std.specs.Prelude.{◌≡◌, ◌+◌, ◌∷◌, ◌++◌, if◌then◌else◌}
use Rattle.cord_meaning.proofs.Common.{ℕ, zero, suc, ℤ, pos, negsuc, Bool, true, false, List, [], length, map, drop, Option, Some, None}
use Rattle.cord_meaning.proofs.Common.{Result, Ok, Err, refl, sym, ap, ◌∙◌, subst, nat_lt, arith, append_assoc, append-nil, slice_get}
use Rattle.cord_meaning.proofs.Common.{unwrap_or, drop-map, length-append, End, Done, Fault, FaultKind, TooManyTurns, Shape, Straight, Loop}
use Rattle.cord_meaning.proofs.Common.{Branch, Otherwise, Close, to_end, to_else, jump_at, jump_of, Rules, Event, Block, Turns, Chosen}
use Rattle.cord_meaning.proofs.Common.{Config, acted, begins, turned, faults, repeats, chooses, jump_from, runs_shape, runs, step}
use Rattle.cord_meaning.proofs.Common.{after_from, after, run_trace, run_end, at_here, next_here, beyond, none_after, Parts, Nothing, Then}
use Rattle.cord_meaning.proofs.Common.{Repeats, Chooses, ChoosesElse, flat, Unrolled, joined, then_on, member, acted_once, all_turns}
use Rattle.cord_meaning.proofs.Common.{repeated, chosen, unrolled, IsWell}
use Rattle.std.proofs.Math.Seq.{drop-length}
use Rattle.cord_meaning.proofs.Runs.{trace_when_ended, end_when_ended}

-- where the parts of a block stand
module _ {L : Type 0} (statements : List L) (p : ℕ) (l e : L) (inner rest more : List L)
    (d : drop p statements ≡ (l ∷ (inner ++ (e ∷ rest))) ++ more) where
  pub inner_here : drop (p + 1) statements ≡ inner ++ (e ∷ (rest ++ more))
  inner_here = next_here statements p l ((inner ++ (e ∷ rest)) ++ more) d ∙ append_assoc inner (e ∷ rest) more

  pub closing_here : drop (p + 1 + length inner) statements ≡ e ∷ (rest ++ more)
  closing_here = beyond statements (p + 1) inner (e ∷ (rest ++ more)) inner_here

  pub rest_here : drop (p + 1 + length inner + 1) statements ≡ rest ++ more
  rest_here = next_here statements (p + 1 + length inner) e (rest ++ more) closing_here

  pub all_here : p + 1 + length inner + 1 + length rest ≡ p + length (l ∷ (inner ++ (e ∷ rest)))
  all_here = let long = length-append inner (e ∷ rest) in omega (arith, long)

module _ {L S : Type 0} (rules : Rules L S) (most : ℕ) where
  -- a count of statements that goes on over whole blocks, and knows how many are open
  module _ (count : ℕ → List Shape → ℕ)
      (at_straight : (d : ℕ) (rest : List Shape) → count d (Straight ∷ rest) ≡ suc (count d rest))
      (at_loop : (d : ℕ) (rest : List Shape) → count d (Loop ∷ rest) ≡ suc (count (suc d) rest))
      (at_branch : (d : ℕ) (rest : List Shape) → count d (Branch ∷ rest) ≡ suc (count (suc d) rest))
      (at_otherwise : (d : ℕ) (rest : List Shape) → count (suc d) (Otherwise ∷ rest) ≡ suc (count (suc d) rest))
      (at_close : (d : ℕ) (rest : List Shape) → count (suc d) (Close ∷ rest) ≡ suc (count d rest)) where
    -- all of these statements are counted, where a blocks are open before them and b after them
    abbrev Over : ℕ → ℕ → List L → Type 0
    Over a b xs = (more : List L) → count a (map rules.shape (xs ++ more)) ≡ length xs + count b (map rules.shape more)

    over_nothing : (d : ℕ) → Over d d []
    over_nothing d more = omega arith

    over_one : (a b c : ℕ) (x : L) (shape : Shape) → rules.shape x ≡ shape →
        ((rest : List Shape) → count a (shape ∷ rest) ≡ suc (count b rest)) → (xs : List L) → Over b c xs → Over a c (x ∷ xs)
    over_one a b c x shape is one xs h more =
        let first : count a (rules.shape x ∷ map rules.shape (xs ++ more)) ≡ suc (count b (map rules.shape (xs ++ more))) =
        ap (λ (w : Shape). count a (w ∷ map rules.shape (xs ++ more))) is ∙ one (map rules.shape (xs ++ more)) in
        let ih = h more in
        omega (arith, first, ih)

    over_both : (a b c : ℕ) (xs ys : List L) → Over a b xs → Over b c ys → Over a c (xs ++ ys)
    over_both a b c xs ys h k more =
        let first = h (ys ++ more) in
        let second = k more in
        let long = length-append xs ys in
        ap (λ (zs : List L). count a (map rules.shape zs)) (append_assoc xs ys more) ∙ omega (arith, first, second, long)

    over : (parts : Parts L) → IsWell rules.shape parts → (d : ℕ) → Over d d (flat parts)
    over Nothing w d = over_nothing d
    over (Then l rest) w d = over_one d d d l Straight w.0 (at_straight d) (flat rest) (over rest w.1 d)
    over (Repeats l e body rest) w d =
        over_one d (suc d) d l Loop w.0 (at_loop d) (flat body ++ (e ∷ flat rest))
        (over_both (suc d) (suc d) d (flat body) (e ∷ flat rest) (over body w.2 (suc d))
        (over_one (suc d) d d e Close w.1 (at_close d) (flat rest) (over rest w.3 d)))
    over (Chooses l e branch rest) w d =
        over_one d (suc d) d l Branch w.0 (at_branch d) (flat branch ++ (e ∷ flat rest))
        (over_both (suc d) (suc d) d (flat branch) (e ∷ flat rest) (over branch w.2 (suc d))
        (over_one (suc d) d d e Close w.1 (at_close d) (flat rest) (over rest w.3 d)))
    over (ChoosesElse l m e branch other rest) w d =
        over_one d (suc d) d l Branch w.0 (at_branch d) (flat branch ++ (m ∷ (flat other ++ (e ∷ flat rest))))
        (over_both (suc d) (suc d) d (flat branch) (m ∷ (flat other ++ (e ∷ flat rest))) (over branch w.3 (suc d))
        (over_one (suc d) (suc d) d m Otherwise w.1 (at_otherwise d) (flat other ++ (e ∷ flat rest))
        (over_both (suc d) (suc d) d (flat other) (e ∷ flat rest) (over other w.4 (suc d))
        (over_one (suc d) d d e Close w.2 (at_close d) (flat rest) (over rest w.5 d)))))

  -- the `end` after whole blocks
  pub end_after : (parts : Parts L) → IsWell rules.shape parts → (e : L) → rules.shape e ≡ Close → (more : List L) →
      to_end 0 (map rules.shape (flat parts ++ (e ∷ more))) ≡ length (flat parts)
  end_after parts w e is more =
      let all = over to_end (λ d rest. refl) (λ d rest. refl) (λ d rest. refl) (λ d rest. refl) (λ d rest. refl) parts w 0 (e ∷ more) in
      let none : to_end 0 (rules.shape e ∷ map rules.shape more) ≡ 0 = ap (λ (x : Shape). to_end 0 (x ∷ map rules.shape more)) is in
      omega (arith, all, none)

  -- the `else` after whole blocks
  pub else_after : (parts : Parts L) → IsWell rules.shape parts → (m : L) → rules.shape m ≡ Otherwise → (more : List L) →
      to_else 0 (map rules.shape (flat parts ++ (m ∷ more))) ≡ length (flat parts) + 1
  else_after parts w m is more =
      let all = over to_else (λ d rest. refl) (λ d rest. refl) (λ d rest. refl) (λ d rest. refl) (λ d rest. refl) parts w 0 (m ∷ more) in
      let one : to_else 0 (rules.shape m ∷ map rules.shape more) ≡ 1 = ap (λ (x : Shape). to_else 0 (x ∷ map rules.shape more)) is in
      omega (arith, all, one)

  -- the `end` of an `if` that has no `else`
  pub no_else_after : (parts : Parts L) → IsWell rules.shape parts → (e : L) → rules.shape e ≡ Close → (more : List L) →
      to_else 0 (map rules.shape (flat parts ++ (e ∷ more))) ≡ length (flat parts)
  no_else_after parts w e is more =
      let all = over to_else (λ d rest. refl) (λ d rest. refl) (λ d rest. refl) (λ d rest. refl) (λ d rest. refl) parts w 0 (e ∷ more) in
      let none : to_else 0 (rules.shape e ∷ map rules.shape more) ≡ 0 = ap (λ (x : Shape). to_else 0 (x ∷ map rules.shape more)) is in
      omega (arith, all, none)

  module _ (statements : List L) where
    -- where a statement leads, by what stands after it
    pub jump_here : (p : ℕ) (l : L) (rest : List L) → drop p statements ≡ l ∷ rest →
        jump_from rules most statements p ≡ jump_of (rules.shape l) p (map rules.shape rest)
    jump_here p l rest e =
        let here : slice_get (map rules.shape statements) p ≡ Some (rules.shape l) =
        at_here (map rules.shape statements) p (rules.shape l) (map rules.shape rest)
        (drop-map rules.shape p statements ∙ ap (λ (xs : List L). map rules.shape xs) e) in
        let beyond : drop (p + 1) (map rules.shape statements) ≡ map rules.shape rest =
        drop-map rules.shape (p + 1) statements ∙ ap (λ (xs : List L). map rules.shape xs) (next_here statements p l rest e) in
        ap (λ (o : Option Shape). jump_at o p (drop (p + 1) (map rules.shape statements))) here
        ∙ ap (λ (xs : List Shape). jump_of (rules.shape l) p xs) beyond

  module _ (statements : List L) where
    -- the run goes on from a place, with these blocks, turns, events and state
    abbrev at : ℕ → List Block → ℕ → List (Event S) → S → Config S
    at p bs t seen s = record { place = p; blocks = bs; turns = t; seen = seen; ended = None; state = s }

    -- it has run these events more, and ended so, or come to this place
    abbrev ComesTo : Config S → List (Event S) → List (Event S) → Option End → ℕ → S → ℕ → List Block → Type 0
    ComesTo d seen ms None t s q bs = d ≡ at q bs t (seen ++ ms) s
    ComesTo d seen ms (Some e) t s q bs = (d.ended ≡ Some e) × (d.seen ≡ seen ++ ms)

    -- from c the machine does what was unrolled, and comes to this place
    abbrev Does : Config S → List (Event S) → Unrolled S → ℕ → List Block → Type 0
    Does c seen u q bs = (k : ℕ) × ComesTo (after_from rules most statements k c) seen u.members u.ended u.turns u.state q bs

    after_both : (k j : ℕ) (c : Config S) → after_from rules most statements (k + j) c
        ≡ after_from rules most statements j (after_from rules most statements k c)
    after_both k zero c = let e : k + 0 ≡ k = omega arith in ap (λ (n : ℕ). after_from rules most statements n c) e
    after_both k (suc j) c = let e : k + suc j ≡ suc (k + j) = omega arith in
        ap (λ (n : ℕ). after_from rules most statements n c) e ∙ ap (λ (d : Config S). step rules most statements d) (after_both k j c)

    reassociated : (d : Config S) (seen ms ns : List (Event S)) (o : Option End) (t : ℕ) (s : S) (q : ℕ) (bs : List Block) →
        ComesTo d (seen ++ ms) ns o t s q bs → ComesTo d seen (ms ++ ns) o t s q bs
    reassociated d seen ms ns None t s q bs h = h ∙ ap (λ (xs : List (Event S)). at q bs t xs s) (append_assoc seen ms ns)
    reassociated d seen ms ns (Some e) t s q bs h = (h.0, h.1 ∙ append_assoc seen ms ns)

    -- after some steps
    later : (c d : Config S) (k : ℕ) → after_from rules most statements k c ≡ d →
        (seen : List (Event S)) (u : Unrolled S) (q : ℕ) (bs : List Block) → Does d seen u q bs → Does c seen u q bs
    later c d k e seen u q bs h = (
      k + h.0,
      subst (λ (x : Config S). ComesTo x seen u.members u.ended u.turns u.state q bs)
          (sym (after_both k h.0 c ∙ ap (λ (x : Config S). after_from rules most statements h.0 x) e)) h.1,
    )

    -- one thing, and then another
    first_then : (c : Config S) (seen ms : List (Event S)) (o : Option End) (t : ℕ) (s : S) (q r : ℕ) (bs cs : List Block)
        (next : ℕ → S → Unrolled S) → (k : ℕ) → ComesTo (after_from rules most statements k c) seen ms o t s q bs →
        Does (at q bs t (seen ++ ms) s) (seen ++ ms) (next t s) r cs → Does c seen (joined ms o t s next) r cs
    first_then c seen ms None t s q r bs cs next k e h =
        let on = later c (at q bs t (seen ++ ms) s) k e (seen ++ ms) (next t s) r cs h in (
          on.0,
          reassociated (after_from rules most statements on.0 c) seen ms (next t s).members (next t s).ended (next t s).turns
              (next t s).state r cs on.1,
        )
    first_then c seen ms (Some x) t s q r bs cs next k e h = (k, e)

    both_do : (c : Config S) (seen : List (Event S)) (u : Unrolled S) (q r : ℕ) (bs cs : List Block) (next : ℕ → S → Unrolled S) →
        Does c seen u q bs → ((t : ℕ) (s : S) (xs : List (Event S)) → Does (at q bs t xs s) xs (next t s) r cs) →
        Does c seen (then_on u next) r cs
    both_do c seen u q r bs cs next h k = first_then c seen u.members u.ended u.turns u.state q r bs cs next h.0 h.1
        (k u.turns u.state (seen ++ u.members))

    at_place : (c : Config S) (seen : List (Event S)) (u : Unrolled S) (q r : ℕ) (bs : List Block) → q ≡ r → Does c seen u q bs →
        Does c seen u r bs
    at_place c seen u q r bs e h = subst (λ (n : ℕ). Does c seen u n bs) e h

    -- a step that is no event
    and_step : (c : Config S) (seen : List (Event S)) (u : Unrolled S) (q r : ℕ) (bs cs : List Block) → Does c seen u q bs →
        ((t : ℕ) (s : S) (xs : List (Event S)) → step rules most statements (at q bs t xs s) ≡ at r cs t xs s) → Does c seen u r cs
    and_step c seen u q r bs cs h steps = by_end u.members u.ended u.turns u.state h.0 h.1
      where
        by_end : (ms : List (Event S)) (o : Option End) (t : ℕ) (s : S) (k : ℕ) →
            ComesTo (after_from rules most statements k c) seen ms o t s q bs → (j : ℕ) ×
            ComesTo (after_from rules most statements j c) seen ms o t s r cs
        by_end ms None t s k e = (suc k, ap (λ (d : Config S). step rules most statements d) e ∙ steps t s (seen ++ ms))
        by_end ms (Some x) t s k e = (k, e)

    -- one step from a place
    step_is : (p : ℕ) (l : L) (rest : List L) (shape : Shape) → drop p statements ≡ l ∷ rest → rules.shape l ≡ shape →
        (bs : List Block) (t : ℕ) (seen : List (Event S)) (s : S) →
        step rules most statements (at p bs t seen s) ≡ runs_shape rules most statements (at p bs t seen s) l shape
    step_is p l rest shape e is bs t seen s = ap (λ (o : Option L). runs rules most statements (at p bs t seen s) o)
        (at_here statements p l rest e) ∙ ap (λ (w : Shape). runs_shape rules most statements (at p bs t seen s) l w) is

    -- a straight-line statement
    acts_once : (p line : ℕ) (bs : List Block) (t : ℕ) (seen : List (Event S)) (s : S) (r : Result (S × List ℕ) FaultKind) →
        ComesTo (acted (at p bs t seen s) line r) seen (acted_once line t s r).members (acted_once line t s r).ended
        (acted_once line t s r).turns (acted_once line t s r).state (p + 1) bs
    acts_once p line bs t seen s (Ok next) = refl
    acts_once p line bs t seen s (Err kind) = (refl, refl)

    -- an `end` leaves an `if`
    leaves_branch : (p : ℕ) (e : L) (rest : List L) → drop p statements ≡ e ∷ rest → rules.shape e ≡ Close →
        (bs : List Block) (t : ℕ) (s : S) (seen : List (Event S)) → step rules most statements (at p (Chosen ∷ bs) t seen s)
        ≡ at (p + 1) bs t seen s
    leaves_branch p e rest d is bs t s seen = step_is p e rest Close d is (Chosen ∷ bs) t seen s

    -- an `else` leads to its `end`
    passes_else : (p : ℕ) (m : L) (rest : List L) → drop p statements ≡ m ∷ rest → rules.shape m ≡ Otherwise → (q : ℕ) →
        to_end 0 (map rules.shape rest) ≡ q → (bs : List Block) (t : ℕ) (s : S) (seen : List (Event S)) →
        step rules most statements (at p bs t seen s) ≡ at (p + 1 + q) bs t seen s
    passes_else p m rest d is q e bs t s seen = step_is p m rest Otherwise d is bs t seen s
        ∙ ap (λ (n : ℕ). at n bs t seen s) (jump_here statements p m rest d ∙ ap (λ (w : Shape). jump_of w p (map rules.shape rest)) is
        ∙ ap (λ (n : ℕ). p + 1 + n) e)

    module _ (p line : ℕ) (body : ℕ → S → Unrolled S) (e : ℕ) (closing : L) (rest : List L) (bs : List Block)
        (d : drop e statements ≡ closing ∷ rest) (is : rules.shape closing ≡ Close)
        (body_does : (n t : ℕ) (s : S) (seen : List (Event S)) → Does (at (p + 1) (Turns p line n ∷ bs) t seen s) seen (body t s) e
        (Turns p line n ∷ bs)) where
      abbrev first_member : ℕ → S → Event S
      first_member t s = record { line = line; turns = t; state = s; puts = [] }

      -- one turn from its beginning, and then what follows it
      turn_then : (n t : ℕ) (s : S) (seen : List (Event S)) (q : ℕ) (cs : List Block) →
          ((t : ℕ) (s : S) (xs : List (Event S)) → Does (at e (Turns p line n ∷ bs) t xs s) xs (all_turns most line body n t s)
          (e + 1) bs) → Does (begins most (at q cs t seen s) p line n bs) seen (all_turns most line body (suc n) t s) (e + 1) bs
      turn_then n t s seen q cs more = pick (nat_lt t most)
        where
          pick : (v : Bool) → Does (if v then turned (at q cs t seen s) p line n bs else faults (at q cs t seen s) line TooManyTurns) seen
              (then_on (if v then joined (first_member t s ∷ []) None (t + 1) s body else member line t s []
              (Some (Fault line TooManyTurns)) s) (λ turns state. all_turns most line body n turns state)) (e + 1) bs
          pick true =
              both_do (at (p + 1) (Turns p line n ∷ bs) (t + 1) (seen ++ first_member t s ∷ []) s) seen
              (joined (first_member t s ∷ []) None (t + 1) s body) e (e + 1) (Turns p line n ∷ bs) bs
              (λ turns state. all_turns most line body n turns state)
              (first_then (at (p + 1) (Turns p line n ∷ bs) (t + 1) (seen ++ first_member t s ∷ []) s) seen (first_member t s ∷ []) None
              (t + 1) s (p + 1) e (Turns p line n ∷ bs) (Turns p line n ∷ bs) body 0 refl
              (body_does n (t + 1) s (seen ++ first_member t s ∷ [])))
              more
          pick false = (0, (refl, refl))

      -- the turns, from the beginning of the first one
      turns_do : (n t : ℕ) (s : S) (seen : List (Event S)) (q : ℕ) (cs : List Block) →
          Does (begins most (at q cs t seen s) p line n bs) seen (all_turns most line body (suc n) t s) (e + 1) bs
      turns_do zero t s seen q cs = turn_then 0 t s seen q cs (λ t s xs. (
        1,
        step_is e closing rest Close d is (Turns p line 0 ∷ bs) t xs s ∙ ap (λ (ms : List (Event S)). at (e + 1) bs t ms s)
            (sym (append-nil xs)),
      ))
      turns_do (suc n) t s seen q cs = turn_then (suc n) t s seen q cs
          (λ t s xs. later (at e (Turns p line (suc n) ∷ bs) t xs s) (begins most (at e (Turns p line (suc n) ∷ bs) t xs s) p line n bs) 1
          (step_is e closing rest Close d is (Turns p line (suc n) ∷ bs) t xs s) xs (all_turns most line body (suc n) t s) (e + 1) bs
          (turns_do n t s xs e (Turns p line (suc n) ∷ bs)))

      -- a `repeat` of a number, and its turns
      repeats_do : (z : ℤ) (t : ℕ) (s : S) (seen : List (Event S)) →
          Does (repeats most (at p bs t seen s) line (e + 1) z) seen (repeated most line body z t s) (e + 1) bs
      repeats_do (negsuc n) t s seen = (0, (refl, refl))
      repeats_do (pos zero) t s seen = (0, refl)
      repeats_do (pos (suc n)) t s seen =
          let c : Config S = begins most (at p bs t (seen ++ first_member t s ∷ []) s) p line n bs in
          let turns = turns_do n t s (seen ++ first_member t s ∷ []) p bs in
          let u : Unrolled S = all_turns most line body (suc n) t s in (
            turns.0,
            reassociated (after_from rules most statements turns.0 c) seen (first_member t s ∷ []) u.members u.ended u.turns
                u.state (e + 1) bs turns.1,
          )

    one_on : (p n : ℕ) → p + 1 + (n + 1) ≡ p + 1 + n + 1
    one_on p n = omega arith

    abbrev nothing_more : ℕ → S → Unrolled S
    nothing_more t s = record { members = []; ended = None; turns = t; state = s }

    -- an `if`, the branch that it chooses, and the rest
    one_more : (p line : ℕ) (bs : List Block) (t : ℕ) (seen : List (Event S)) (s : S) (q : ℕ) (v : Bool) (branch other : ℕ → S →
        Unrolled S) (e r : ℕ) (rest : ℕ → S → Unrolled S) → step rules most statements (at p bs t seen s)
        ≡ chooses (at p bs t seen s) line q v →
        Does (at (p + 1) (Chosen ∷ bs) t (seen ++ record { line = line; turns = t; state = s; puts = [] } ∷ []) s)
        (seen ++ record { line = line; turns = t; state = s; puts = [] } ∷ []) (branch t s) e bs →
        Does (at q (Chosen ∷ bs) t (seen ++ record { line = line; turns = t; state = s; puts = [] } ∷ []) s)
        (seen ++ record { line = line; turns = t; state = s; puts = [] } ∷ []) (other t s) e bs →
        ((t : ℕ) (s : S) (xs : List (Event S)) → Does (at e bs t xs s) xs (rest t s) r bs) →
        Does (at p bs t seen s) seen (then_on (member line t s [] None s) (λ t s. then_on (chosen v branch other t s) rest)) r bs
    one_more p line bs t seen s q v branch other e r rest one taken otherwise then_rest =
        let m : Event S = record { line = line; turns = t; state = s; puts = [] } in
        let x : Unrolled S = then_on (chosen v branch other t s) rest in
        let all : Does (chooses (at p bs t seen s) line q v) (seen ++ m ∷ []) x r bs =
        both_do (chooses (at p bs t seen s) line q v) (seen ++ m ∷ []) (chosen v branch other t s) e r bs bs rest
        (by_truth v) then_rest in
        later (at p bs t seen s) (chooses (at p bs t seen s) line q v) 1 one seen
        (then_on (member line t s [] None s) (λ t s. then_on (chosen v branch other t s) rest)) r bs (
          all.0,
          reassociated (after_from rules most statements all.0 (chooses (at p bs t seen s) line q v)) seen
              (m ∷ []) x.members x.ended x.turns x.state r bs all.1,
        )
      where
        by_truth : (v : Bool) → Does (chooses (at p bs t seen s) line q v)
            (seen ++ record { line = line; turns = t; state = s; puts = [] } ∷ []) (chosen v branch other t s) e bs
        by_truth true = taken
        by_truth false = otherwise

    module _ (placeless : (p : ℕ) (l : L) (s : S) → rules.act p l s ≡ rules.act 0 l s) where
      go : (parts : Parts L) → IsWell rules.shape parts → (p : ℕ) (more : List L) → drop p statements ≡ flat parts ++ more →
          (bs : List Block) (t : ℕ) (s : S) (seen : List (Event S)) →
          Does (at p bs t seen s) seen (unrolled rules most parts t s) (p + length (flat parts)) bs
      go Nothing w p more d bs t s seen =
          let same : p ≡ p + 0 = omega arith in
          (0, ap (λ (n : ℕ). at n bs t seen s) same ∙ ap (λ (ms : List (Event S)). at (p + 0) bs t ms s) (sym (append-nil seen)))
      go (Then l rest) w p more d bs t s seen =
          let line : ℕ = rules.line l in
          let r : Result (S × List ℕ) FaultKind = rules.act 0 l s in
          let one : step rules most statements (at p bs t seen s) ≡ acted (at p bs t seen s) line r =
          step_is p l (flat rest ++ more) Straight d w.0 bs t seen s
          ∙ ap (λ (x : Result (S × List ℕ) FaultKind). acted (at p bs t seen s) line x) (placeless p l s) in
          let first : Does (at p bs t seen s) seen (acted_once line t s r) (p + 1) bs =
          later (at p bs t seen s) (acted (at p bs t seen s) line r) 1 one seen (acted_once line t s r) (p + 1) bs
          (0, acts_once p line bs t seen s r) in
          at_place (at p bs t seen s) seen (unrolled rules most (Then l rest) t s) (p + 1 + length (flat rest))
          (p + suc (length (flat rest))) bs (omega arith)
          (both_do (at p bs t seen s) seen (acted_once line t s r) (p + 1) (p + 1 + length (flat rest)) bs bs
          (λ t s. unrolled rules most rest t s) first
          (λ t s xs. go rest w.1 (p + 1) more (next_here statements p l (flat rest ++ more) d) bs t s xs))
      go (Repeats l e body rest) w p more d bs t s seen =
          let line : ℕ = rules.line l in
          let q : ℕ = p + 1 + length (flat body) in
          let run_body : ℕ → S → Unrolled S = λ t s. unrolled rules most body t s in
          let closing : drop q statements ≡ e ∷ (flat rest ++ more) = closing_here statements p l e (flat body) (flat rest) more d in
          let jumps : jump_from rules most statements p ≡ q + 1 =
          jump_here statements p l (flat body ++ (e ∷ flat rest) ++ more) d
          ∙ ap (λ (x : Shape). jump_of x p (map rules.shape (flat body ++ (e ∷ flat rest) ++ more))) w.0
          ∙ ap (λ (xs : List L). p + 1 + to_end 0 (map rules.shape xs) + 1) (append_assoc (flat body) (e ∷ flat rest) more)
          ∙ ap (λ (n : ℕ). p + 1 + n + 1) (end_after body w.2 e w.1 (flat rest ++ more)) in
          let one : step rules most statements (at p bs t seen s) ≡ repeats most (at p bs t seen s) line (q + 1) (rules.count l s) =
          step_is p l (flat body ++ (e ∷ flat rest) ++ more) Loop d w.0 bs t seen s
          ∙ ap (λ (n : ℕ). repeats most (at p bs t seen s) line n (rules.count l s)) jumps in
          let first : Does (at p bs t seen s) seen (repeated most line run_body (rules.count l s) t s) (q + 1) bs =
          later (at p bs t seen s) (repeats most (at p bs t seen s) line (q + 1) (rules.count l s)) 1 one seen
          (repeated most line run_body (rules.count l s) t s) (q + 1) bs
          (repeats_do p line run_body q e (flat rest ++ more) bs closing w.1
          (λ n t s xs. go body w.2 (p + 1) (e ∷ (flat rest ++ more)) (inner_here statements p l e (flat body) (flat rest) more d)
          (Turns p line n ∷ bs) t s xs) (rules.count l s) t s seen) in
          at_place (at p bs t seen s) seen (unrolled rules most (Repeats l e body rest) t s) (q + 1 + length (flat rest))
          (p + length (flat (Repeats l e body rest))) bs (all_here statements p l e (flat body) (flat rest) more d)
          (both_do (at p bs t seen s) seen (repeated most line run_body (rules.count l s) t s) (q + 1) (q + 1 + length (flat rest)) bs bs
          (λ t s. unrolled rules most rest t s) first
          (λ t s xs. go rest w.3 (q + 1) more (rest_here statements p l e (flat body) (flat rest) more d) bs t s xs))
      go (Chooses l e branch rest) w p more d bs t s seen =
          let line : ℕ = rules.line l in
          let q : ℕ = p + 1 + length (flat branch) in
          let run_branch : ℕ → S → Unrolled S = λ t s. unrolled rules most branch t s in
          let v : Bool = rules.holds l s in
          let m : Event S = record { line = line; turns = t; state = s; puts = [] } in
          let closing : drop q statements ≡ e ∷ (flat rest ++ more) = closing_here statements p l e (flat branch) (flat rest) more d in
          let jumps : jump_from rules most statements p ≡ q =
          jump_here statements p l (flat branch ++ (e ∷ flat rest) ++ more) d
          ∙ ap (λ (x : Shape). jump_of x p (map rules.shape (flat branch ++ (e ∷ flat rest) ++ more))) w.0
          ∙ ap (λ (xs : List L). p + 1 + to_else 0 (map rules.shape xs)) (append_assoc (flat branch) (e ∷ flat rest) more)
          ∙ ap (λ (n : ℕ). p + 1 + n) (no_else_after branch w.2 e w.1 (flat rest ++ more)) in
          let one : step rules most statements (at p bs t seen s) ≡ chooses (at p bs t seen s) line q v =
          step_is p l (flat branch ++ (e ∷ flat rest) ++ more) Branch d w.0 bs t seen s
          ∙ ap (λ (n : ℕ). chooses (at p bs t seen s) line n v) jumps in
          let taken : Does (at (p + 1) (Chosen ∷ bs) t (seen ++ m ∷ []) s) (seen ++ m ∷ []) (run_branch t s) (q + 1) bs =
          and_step (at (p + 1) (Chosen ∷ bs) t (seen ++ m ∷ []) s) (seen ++ m ∷ []) (run_branch t s) q (q + 1) (Chosen ∷ bs) bs
          (go branch w.2 (p + 1) (e ∷ (flat rest ++ more)) (inner_here statements p l e (flat branch) (flat rest) more d) (Chosen ∷ bs) t s
          (seen ++ m ∷ []))
          (leaves_branch q e (flat rest ++ more) closing w.1 bs) in
          let no_branch : Does (at q (Chosen ∷ bs) t (seen ++ m ∷ []) s) (seen ++ m ∷ []) (nothing_more t s) (q + 1) bs =
          and_step (at q (Chosen ∷ bs) t (seen ++ m ∷ []) s) (seen ++ m ∷ []) (nothing_more t s) q (q + 1) (Chosen ∷ bs) bs
          (0, ap (λ (ms : List (Event S)). at q (Chosen ∷ bs) t ms s) (sym (append-nil (seen ++ m ∷ []))))
          (leaves_branch q e (flat rest ++ more) closing w.1 bs) in
          at_place (at p bs t seen s) seen (unrolled rules most (Chooses l e branch rest) t s) (q + 1 + length (flat rest))
          (p + length (flat (Chooses l e branch rest))) bs (all_here statements p l e (flat branch) (flat rest) more d)
          (one_more p line bs t seen s q v run_branch (λ t s. nothing_more t s) (q + 1) (q + 1 + length (flat rest))
          (λ t s. unrolled rules most rest t s) one taken no_branch
          (λ t s xs. go rest w.3 (q + 1) more (rest_here statements p l e (flat branch) (flat rest) more d) bs t s xs))
      go (ChoosesElse l m e branch other rest) w p more d bs t s seen =
          let line : ℕ = rules.line l in
          let after_branch : List L = flat other ++ (e ∷ flat rest) in
          let a : ℕ = p + 1 + length (flat branch) in
          let q : ℕ = a + 1 + length (flat other) in
          let run_branch : ℕ → S → Unrolled S = λ t s. unrolled rules most branch t s in
          let run_other : ℕ → S → Unrolled S = λ t s. unrolled rules most other t s in
          let v : Bool = rules.holds l s in
          let seen_here : List (Event S) = seen ++ record { line = line; turns = t; state = s; puts = [] } ∷ [] in
          let middle : drop a statements ≡ m ∷ (after_branch ++ more) = closing_here statements p l m (flat branch) after_branch more d in
          let closing : drop q statements ≡ e ∷ (flat rest ++ more) = closing_here statements a m e (flat other) (flat rest) more middle in
          let jumps : jump_from rules most statements p ≡ a + 1 =
          jump_here statements p l (flat branch ++ (m ∷ after_branch) ++ more) d
          ∙ ap (λ (x : Shape). jump_of x p (map rules.shape (flat branch ++ (m ∷ after_branch) ++ more))) w.0
          ∙ ap (λ (xs : List L). p + 1 + to_else 0 (map rules.shape xs)) (append_assoc (flat branch) (m ∷ after_branch) more)
          ∙ ap (λ (n : ℕ). p + 1 + n) (else_after branch w.3 m w.1 (after_branch ++ more)) ∙ one_on p (length (flat branch)) in
          let one : step rules most statements (at p bs t seen s) ≡ chooses (at p bs t seen s) line (a + 1) v =
          step_is p l (flat branch ++ (m ∷ after_branch) ++ more) Branch d w.0 bs t seen s
          ∙ ap (λ (n : ℕ). chooses (at p bs t seen s) line n v) jumps in
          let ends : to_end 0 (map rules.shape (after_branch ++ more)) ≡ length (flat other) =
          ap (λ (xs : List L). to_end 0 (map rules.shape xs)) (append_assoc (flat other) (e ∷ flat rest) more)
          ∙ end_after other w.4 e w.2 (flat rest ++ more) in
          let to_middle : Does (at (p + 1) (Chosen ∷ bs) t seen_here s) seen_here (run_branch t s) a (Chosen ∷ bs) =
          go branch w.3 (p + 1) (m ∷ (after_branch ++ more)) (inner_here statements p l m (flat branch) after_branch more d) (Chosen ∷ bs)
          t s seen_here in
          let taken : Does (at (p + 1) (Chosen ∷ bs) t seen_here s) seen_here (run_branch t s) (q + 1) bs =
          and_step (at (p + 1) (Chosen ∷ bs) t seen_here s) seen_here (run_branch t s) q (q + 1) (Chosen ∷ bs) bs
          (and_step (at (p + 1) (Chosen ∷ bs) t seen_here s) seen_here (run_branch t s) a q (Chosen ∷ bs) (Chosen ∷ bs) to_middle
          (passes_else a m (after_branch ++ more) middle w.1 (length (flat other)) ends (Chosen ∷ bs)))
          (leaves_branch q e (flat rest ++ more) closing w.2 bs) in
          let otherwise : Does (at (a + 1) (Chosen ∷ bs) t seen_here s) seen_here (run_other t s) (q + 1) bs =
          and_step (at (a + 1) (Chosen ∷ bs) t seen_here s) seen_here (run_other t s) q (q + 1) (Chosen ∷ bs) bs
          (go other w.4 (a + 1) (e ∷ (flat rest ++ more)) (inner_here statements a m e (flat other) (flat rest) more middle)
          (Chosen ∷ bs) t s seen_here)
          (leaves_branch q e (flat rest ++ more) closing w.2 bs) in
          let whole_here : q + 1 + length (flat rest) ≡ p + length (flat (ChoosesElse l m e branch other rest)) =
          let second = all_here statements a m e (flat other) (flat rest) more middle in
          let first = all_here statements p l m (flat branch) after_branch more d in
          omega (arith, first, second) in
          at_place (at p bs t seen s) seen (unrolled rules most (ChoosesElse l m e branch other rest) t s) (q + 1 + length (flat rest))
          (p + length (flat (ChoosesElse l m e branch other rest))) bs whole_here
          (one_more p line bs t seen s (a + 1) v run_branch run_other (q + 1) (q + 1 + length (flat rest))
          (λ t s. unrolled rules most rest t s) one taken otherwise
          (λ t s xs. go rest w.5 (q + 1) more (rest_here statements a m e (flat other) (flat rest) more middle) bs t s xs))

module _ {L S : Type 0} (rules : Rules L S) (most : ℕ) (placeless : (p : ℕ) (l : L) (s : S) → rules.act p l s ≡ rules.act 0 l s)
    (parts : Parts L) (w : IsWell rules.shape parts) (s : S) where
  -- the run is over, and this is what it was
  whole_is : (k : ℕ) × ((after rules most (flat parts) k s).seen ≡ (unrolled rules most parts 0 s).members) ×
      ((after rules most (flat parts) k s).ended ≡ Some (unwrap_or (unrolled rules most parts 0 s).ended Done))
  whole_is =
      let u : Unrolled S = unrolled rules most parts 0 s in
      let all = go rules most (flat parts) placeless parts w 0 [] (sym (append-nil (flat parts))) [] 0 s [] in
      by_end u.members u.ended u.turns u.state all.0 all.1
    where
      past : slice_get (flat parts) (0 + length (flat parts)) ≡ None
      past = let same : 0 + length (flat parts) ≡ length (flat parts) = omega arith in
          none_after (flat parts) (0 + length (flat parts)) (ap (λ (n : ℕ). drop n (flat parts)) same ∙ drop-length (flat parts))

      by_end : (ms : List (Event S)) (o : Option End) (t : ℕ) (x : S) (k : ℕ) →
          ComesTo rules most (flat parts) (after rules most (flat parts) k s) [] ms o t x (0 + length (flat parts)) [] → (j : ℕ) ×
          ((after rules most (flat parts) j s).seen ≡ ms) × ((after rules most (flat parts) j s).ended ≡ Some (unwrap_or o Done))
      by_end ms None t x k e =
          let d : Config S = record { place = 0 + length (flat parts); blocks = []; turns = t; seen = [] ++ ms; ended = None; state = x } in
          let one : step rules most (flat parts) (after rules most (flat parts) k s) ≡ record d { ended = Some Done } =
          ap (λ (c : Config S). step rules most (flat parts) c) e ∙ ap (λ (o : Option L). runs rules most (flat parts) d o) past in
          (suc k, ap (λ (c : Config S). c.seen) one, ap (λ (c : Config S). c.ended) one)
      by_end ms (Some y) t x k e = (k, e.1, e.0)

  -- the events of the run are those of the unrolled one
  pub trace_unrolled : run_trace rules most (flat parts) s ≡ (unrolled rules most parts 0 s).members
  trace_unrolled = trace_when_ended rules most (flat parts) s whole_is.0 (unwrap_or (unrolled rules most parts 0 s).ended Done)
      whole_is.2 ∙ whole_is.1

  -- and so is the end
  pub end_unrolled : run_end rules most (flat parts) s ≡ unwrap_or (unrolled rules most parts 0 s).ended Done
  end_unrolled = end_when_ended rules most (flat parts) s whole_is.0 (unwrap_or (unrolled rules most parts 0 s).ended Done) whole_is.2
