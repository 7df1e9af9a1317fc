-- Two runs of one shape go together, where states stay related.
use Rattle.std.specs.Prelude.{◌≡◌, ◌+◌, ◌∷◌, ◌++◌, if◌then◌else◌}
use Rattle.cord_meaning.proofs.Common.{ℕ, zero, suc, ℤ, pos, negsuc, Bool, true, false, List, [], map, Option, Some, None, Result, Ok, Err}
use Rattle.cord_meaning.proofs.Common.{refl, sym, ap, ◌∙◌, subst, nat_lt, slice_get, IsSome, unwrap_or, option_map, map-append}
use Rattle.cord_meaning.proofs.Common.{slice_get-map, End, Done, FaultKind, TooManyTurns, Shape, Straight, Loop, Branch, Otherwise, Close}
use Rattle.cord_meaning.proofs.Common.{IsNested, jump, Next, Rules, Event, Block, Turns, Config, notes, goes_to, faults, acted, turned}
use Rattle.cord_meaning.proofs.Common.{begins, repeats, chooses, closes, if_running, jump_from, runs_shape, runs, step, after, enough}
use Rattle.cord_meaning.proofs.Common.{run_trace, run_end, reported}
use Rattle.cord_meaning.specs.inner.Simulation.{Agree, IsControl, Simulates}
use Rattle.cord_meaning.proofs.Terminates.{ends}
use Rattle.cord_meaning.proofs.Runs.{trace_when_ended, end_when_ended}
use Rattle.cord_meaning.proofs.Follows.{follows}

module _ {S T : Type 0} where
  -- the same place, blocks, turns and end at another kind of state
  abbrev with_other : Config S → List (Event T) → T → Config T
  with_other c seen t = record { place = c.place; blocks = c.blocks; turns = c.turns; seen = seen; ended = c.ended; state = t }

  -- d stands where c does and has reported the same, at the state t; c has this state
  record Beside (c : Config S) (d : Config T) (s : S) (t : T) : Type 0 where
    other : List (Event T)
    is : d ≡ with_other c other t
    reports : map reported c.seen ≡ map reported other
    state_is : c.state ≡ s

  -- one event more on both sides
  reports_more : (xs : List (Event S)) (ys : List (Event T)) (m : Event S) (n : Event T) → map reported xs ≡ map reported ys → reported m ≡
      reported n →
      map reported (xs ++ m ∷ []) ≡ map reported (ys ++ n ∷ [])
  reports_more xs ys m n e f =
      map-append reported xs (m ∷ []) ∙ ap (λ (zs : List (ℕ × ℕ × List ℕ)). zs ++ reported m ∷ []) e
      ∙ ap (λ (z : ℕ × ℕ × List ℕ). map reported ys ++ z ∷ []) f ∙ sym (map-append reported ys (n ∷ []))

  module _ (most : ℕ) (c : Config S) (seen : List (Event T)) (t : T) (same : map reported c.seen ≡ map reported seen) where
    abbrev d : Config T
    d = with_other c seen t

    abbrev mine : ℕ → Event S
    mine line = record { line = line; turns = c.turns; state = c.state; puts = [] }

    abbrev theirs : ℕ → Event T
    theirs line = record { line = line; turns = c.turns; state = t; puts = [] }

    noted : (line : ℕ) → map reported (c.seen ++ mine line ∷ []) ≡ map reported (seen ++ theirs line ∷ [])
    noted line = reports_more c.seen seen (mine line) (theirs line) same refl

    begins_beside : (place line left : ℕ) (bs : List Block) → Beside (begins most c place line left bs)
        (begins most d place line left bs) c.state t
    begins_beside place line left bs = pick (nat_lt c.turns most)
      where
        pick : (v : Bool) → Beside (if v then turned c place line left bs else faults c line TooManyTurns)
            (if v then turned d place line left bs else faults d line TooManyTurns) c.state t
        pick true = record { other = seen ++ theirs line ∷ []; is = refl; reports = noted line; state_is = refl }
        pick false = record { other = seen ++ theirs line ∷ []; is = refl; reports = noted line; state_is = refl }

    chooses_beside : (line other : ℕ) (v : Bool) → Beside (chooses c line other v) (chooses d line other v) c.state t
    chooses_beside line other true = record { other = seen ++ theirs line ∷ []; is = refl; reports = noted line; state_is = refl }
    chooses_beside line other false = record { other = seen ++ theirs line ∷ []; is = refl; reports = noted line; state_is = refl }

    closes_beside : (bs : List Block) → Beside (closes most c bs) (closes most d bs) c.state t
    closes_beside (Turns place line (suc n) ∷ bs) = begins_beside place line n bs
    closes_beside _ = record { other = seen; is = refl; reports = same; state_is = refl }

  repeats_beside : (most : ℕ) (c : Config S) (seen : List (Event T)) (t : T) → map reported c.seen ≡ map reported seen →
      (line beyond : ℕ) (z : ℤ) → Beside (repeats most c line beyond z) (repeats most (with_other c seen t) line beyond z) c.state t
  repeats_beside most c seen t same line beyond (negsuc n) = record {
    other = seen ++ theirs most c seen t same line ∷ [];
    is = refl;
    reports = noted most c seen t same line;
    state_is = refl;
  }
  repeats_beside most c seen t same line beyond (pos zero) = record {
    other = seen ++ theirs most c seen t same line ∷ [];
    is = refl;
    reports = noted most c seen t same line;
    state_is = refl;
  }
  repeats_beside most c seen t same line beyond (pos (suc n)) =
      begins_beside most (notes c line []) (seen ++ theirs most c seen t same line ∷ []) t (noted most c seen t same line) c.place line n
      c.blocks

module _ {L M S T : Type 0} (rules : Rules L S) (others : Rules M T) (most : ℕ) (statements : List L) (operations : List M)
    (Related : ℕ → S → T → Type 0) (sim : Simulates rules others statements operations Related) where
  abbrev shapes : List Shape
  shapes = map rules.shape statements

  same_jump : (p : ℕ) → jump_from others most operations p ≡ jump_from rules most statements p
  same_jump p = ap (λ (xs : List Shape). jump xs p) (sym sim.shapes)

  -- d goes beside c, and where c goes on by a path, their states are related
  record Alike (p : ℕ) (c : Config S) (d : Config T) : Type 0 where
    state : T
    other : List (Event T)
    is : d ≡ with_other c other state
    reports : map reported c.seen ≡ map reported other
    related : c.ended ≡ None → Next shapes p c.place → Related c.place c.state state

  ended_not : (e : End) → Some e ≡ None → ⊥
  ended_not e h = cc

  module _ (c : Config S) (seen : List (Event T)) (t : T) (same : map reported c.seen ≡ map reported seen) (rel : Related c.place c.state t)
    where
      abbrev beside : Config T
      beside = with_other c seen t

      module _ (l : L) (m : M) (here : slice_get statements c.place ≡ Some l) (there : slice_get operations c.place ≡ Some m)
          (line : others.line m ≡ rules.line l) where
        straight_alike : (r : Result (S × List ℕ) FaultKind) (u : Result (T × List ℕ) FaultKind) → Agree (Related (c.place + 1)) r u →
            Alike c.place (acted c (rules.line l) r) (acted beside (rules.line l) u)
        straight_alike (Ok r) (Ok u) g = record {
          state = u.0;
          other = seen ++ record { line = rules.line l; turns = c.turns; state = t; puts = u.1 } ∷ [];
          is = refl;
          reports = reports_more c.seen seen (record { line = rules.line l; turns = c.turns; state = c.state; puts = r.1 })
              (record { line = rules.line l; turns = c.turns; state = t; puts = u.1 }) same
              (ap (λ (puts : List ℕ). (rules.line l, c.turns, puts)) g.0);
          related = λ running next. g.1;
        }
        straight_alike (Err i) (Err j) g = record {
          state = t;
          other = seen ++ record { line = rules.line l; turns = c.turns; state = t; puts = [] } ∷ [];
          is = ap (λ (k : FaultKind). faults beside (rules.line l) k) (sym g);
          reports = noted most c seen t same (rules.line l);
          related = λ running next. absurd (ended_not _ running);
        }
        straight_alike (Ok r) (Err j) g = absurd g
        straight_alike (Err i) (Ok u) g = absurd g

        control_alike : (x : Shape) → rules.shape l ≡ x → IsControl x → (d : Config T) →
            Beside (runs_shape rules most statements c l x) d c.state t → Alike c.place (runs_shape rules most statements c l x) d
        control_alike x is control d b = record {
          state = t;
          other = b.other;
          is = b.is;
          reports = b.reports;
          related = λ running next.
              let e : ℕ = (runs_shape rules most statements c l x).place in
              let at : slice_get shapes c.place ≡ Some x =
              slice_get-map rules.shape statements c.place ∙ ap (λ (o : Option L). option_map rules.shape o) here
              ∙ ap (λ (w : Shape). Some w) is in
              subst (λ (s : S). Related e s t) (sym b.state_is) (sim.moves c.place e x at control next c.state t rel);
        }

        shape_alike : (x : Shape) → rules.shape l ≡ x → Alike c.place (runs_shape rules most statements c l x)
            (runs_shape others most operations beside m x)
        shape_alike Straight is =
            rw line (straight_alike (rules.act c.place l c.state) (others.act c.place m t) (sim.acts c.place l m here there is c.state t rel))
        shape_alike Loop is =
            let count : rules.count l c.state ≡ others.count m t = sim.counts c.place l m here there is c.state t rel in
            rw (line, same_jump c.place, ← count)
            (control_alike Loop is tt (repeats most beside (rules.line l) (jump_from rules most statements c.place) (rules.count l c.state))
            (repeats_beside most c seen t same (rules.line l) (jump_from rules most statements c.place) (rules.count l c.state)))
        shape_alike Branch is =
            let holds : rules.holds l c.state ≡ others.holds m t = sim.compares c.place l m here there is c.state t rel in
            rw (line, same_jump c.place, ← holds)
            (control_alike Branch is tt (chooses beside (rules.line l) (jump_from rules most statements c.place) (rules.holds l c.state))
            (chooses_beside most c seen t same (rules.line l) (jump_from rules most statements c.place) (rules.holds l c.state)))
        shape_alike Otherwise is =
            rw (same_jump c.place) (control_alike Otherwise is tt (goes_to beside (jump_from rules most statements c.place) c.blocks)
            (record { other = seen; is = refl; reports = same; state_is = refl }))
        shape_alike Close is = control_alike Close is tt (closes most beside c.blocks) (closes_beside most c seen t same c.blocks)

      injective : {A : Type 0} (x y : A) → Some x ≡ Some y → x ≡ y
      injective x y e = cc

      nothing_there : {A : Type 0} (x : A) → None ≡ Some x → ⊥
      nothing_there x e = cc

      runs_alike : (o : Option L) → slice_get statements c.place ≡ o → (u : Option M) → slice_get operations c.place ≡ u →
          option_map rules.shape o ≡ option_map others.shape u → option_map rules.line o ≡ option_map others.line u →
          Alike c.place (runs rules most statements c o) (runs others most operations beside u)
      runs_alike None here None there e f = record {
        state = t;
        other = seen;
        is = refl;
        reports = same;
        related = λ running next. absurd (ended_not _ running);
      }
      runs_alike None here (Some m) there e f = absurd (nothing_there _ e)
      runs_alike (Some l) here None there e f = absurd (nothing_there _ (sym e))
      runs_alike (Some l) here (Some m) there e f =
          let shape : rules.shape l ≡ others.shape m = injective (rules.shape l) (others.shape m) e in
          let line : rules.line l ≡ others.line m = injective (rules.line l) (others.line m) f in
          subst (λ (x : Shape). Alike c.place (runs_shape rules most statements c l (rules.shape l))
          (runs_shape others most operations beside m x)) shape (shape_alike l m here there (sym line) (rules.shape l) refl)

      next_alike : Alike c.place (runs rules most statements c (slice_get statements c.place))
          (runs others most operations beside (slice_get operations c.place))
      next_alike =
          let e : option_map rules.shape (slice_get statements c.place) ≡ option_map others.shape (slice_get operations c.place) =
          sym (slice_get-map rules.shape statements c.place) ∙ ap (λ (xs : List Shape). slice_get xs c.place) sim.shapes
          ∙ slice_get-map others.shape operations c.place in
          let f : option_map rules.line (slice_get statements c.place) ≡ option_map others.line (slice_get operations c.place) =
          sym (slice_get-map rules.line statements c.place) ∙ ap (λ (xs : List ℕ). slice_get xs c.place) sim.lines
          ∙ slice_get-map others.line operations c.place in
          runs_alike (slice_get statements c.place) refl (slice_get operations c.place) refl e f

  module _ (nested : IsNested [] shapes) (a : S) (b : T) (first : Related 0 a b) where
    -- after k steps both have reported the same, and their states are related
    record Together (c : Config S) (d : Config T) : Type 0 where
      state : T
      other : List (Event T)
      is : d ≡ with_other c other state
      reports : map reported c.seen ≡ map reported other
      related : c.ended ≡ None → Related c.place c.state state

    one_step : (k : ℕ) (o : Option End) → (after rules most statements k a).ended ≡ o → (d : Config T) →
        Together (after rules most statements k a) d → Together (after rules most statements (suc k) a) (step others most operations d)
    one_step k None e d h =
        let c : Config S = after rules most statements k a in
        let stepped : step rules most statements c ≡ runs rules most statements c (slice_get statements c.place) =
        ap (λ (o : Option End). if_running o c (runs rules most statements c (slice_get statements c.place))) e in
        let beside : Config T = with_other c h.other h.state in
        let others_step : step others most operations d ≡ runs others most operations beside (slice_get operations c.place) =
        ap (λ (x : Config T). step others most operations x) h.is
        ∙ ap (λ (o : Option End). if_running o beside (runs others most operations beside (slice_get operations c.place))) e in
        let w = next_alike c h.other h.state h.reports (h.related e) in
        record {
          state = w.state;
          other = w.other;
          is = others_step ∙ w.is ∙ ap (λ (x : Config S). with_other x w.other w.state) (sym stepped);
          reports = ap (λ (x : Config S). map reported x.seen) stepped ∙ w.reports;
          related = λ running.
              let next : Next shapes c.place (step rules most statements c).place = follows rules most statements nested a k running in
              let gone : (runs rules most statements c (slice_get statements c.place)).ended ≡ None =
              ap (λ (x : Config S). x.ended) (sym stepped) ∙ running in
              let to : Next shapes c.place (runs rules most statements c (slice_get statements c.place)).place =
              subst (λ (x : Config S). Next shapes c.place x.place) stepped next in
              subst (λ (x : Config S). Related x.place x.state w.state) (sym stepped) (w.related gone to);
        }
    one_step k (Some x) e d h =
        let c : Config S = after rules most statements k a in
        let stays : step rules most statements c ≡ c =
        ap (λ (o : Option End). if_running o c (runs rules most statements c (slice_get statements c.place))) e in
        let beside : Config T = with_other c h.other h.state in
        let others_stay : step others most operations d ≡ beside =
        ap (λ (y : Config T). step others most operations y) h.is
        ∙ ap (λ (o : Option End). if_running o beside (runs others most operations beside (slice_get operations c.place))) e in
        record {
          state = h.state;
          other = h.other;
          is = others_stay ∙ ap (λ (y : Config S). with_other y h.other h.state) (sym stays);
          reports = ap (λ (y : Config S). map reported y.seen) stays ∙ h.reports;
          related = λ running. absurd (ended_not x (sym (ap (λ (y : Config S). y.ended) stays ∙ e) ∙ running));
        }

    together : (k : ℕ) → Together (after rules most statements k a) (after others most operations k b)
    together zero = record { state = b; other = []; is = refl; reports = refl; related = λ running. first }
    together (suc k) = one_step k (after rules most statements k a).ended refl (after others most operations k b) (together k)

    the_end : (o : Option End) → IsSome o → o ≡ Some (unwrap_or o Done)
    the_end None h = absurd (nothing h)
      where
        nothing : IsSome {T = End} None → ⊥
        nothing h = cc
    the_end (Some e) h = refl

    ended_there : (after others most operations (enough most statements) b).ended
        ≡ Some (unwrap_or (after rules most statements (enough most statements) a).ended Done)
    ended_there =
        let w = together (enough most statements) in
        ap (λ (d : Config T). d.ended) w.is ∙ the_end (after rules most statements (enough most statements) a).ended
        (ends rules most statements a)

    ended_here : (after rules most statements (enough most statements) a).ended
        ≡ Some (unwrap_or (after rules most statements (enough most statements) a).ended Done)
    ended_here = the_end (after rules most statements (enough most statements) a).ended (ends rules most statements a)

    -- the whole runs report the same
    pub reported_same : map reported (run_trace others most operations b) ≡ map reported (run_trace rules most statements a)
    reported_same =
        let w = together (enough most statements) in
        let e : End = unwrap_or (after rules most statements (enough most statements) a).ended Done in
        ap (λ (ms : List (Event T)). map reported ms) (trace_when_ended others most operations b (enough most statements) e ended_there
        ∙ ap (λ (d : Config T). d.seen) w.is)
        ∙ sym w.reports ∙ ap (λ (ms : List (Event S)). map reported ms)
        (sym (trace_when_ended rules most statements a (enough most statements) e ended_here))

    -- and end the same
    pub end_same : run_end others most operations b ≡ run_end rules most statements a
    end_same =
        let e : End = unwrap_or (after rules most statements (enough most statements) a).ended Done in
        end_when_ended others most operations b (enough most statements) e ended_there
        ∙ sym (end_when_ended rules most statements a (enough most statements) e ended_here)
