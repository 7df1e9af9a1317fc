-- Texts that a sink got, one after the other.
use Rattle.std.specs.Prelude.{◌≡◌, ◌<◌, ◌+◌, ◌∷◌, ◌++◌}
use Rattle.cord_plan.proofs.Common.{ℕ, List, [], length, take, drop, get_or, Ok, Err, refl, sym, ap, subst, ◌∙◌, append-nil, append_assoc}
use Rattle.cord_plan.proofs.Common.{take-append-drop, take_more, IsErr, raised, Writes}
use Rattle.std.specs.declared.result.Result.{Result}
use Rattle.cord_io.specs.declared.writing.Sink as sinks
use Rattle.cord_iter.proofs.Takes.{appends_both, prefix_join, prefix_more, writes_err}

module _ {S E : Type 0} {sink : sinks.Ghosts S} where
  -- the same text
  pub writes_same : {x y : List ℕ} {a b : S} {r : Result (Unit {0}) E} → x ≡ y → Writes sink x a b r → Writes sink y a b r
  writes_same {x} {y} {a} {b} {r} e h = subst (λ (text : List ℕ). Writes sink text a b r) e h

  -- a text, and the one after it, as far as that came
  pub writes_then : {x y : List ℕ} {a b c : S} {r : Result (Unit {0}) E} → Writes {E = E} sink x a b (Ok tt) → Writes sink y b c r →
      Writes sink (x ++ y) a c r
  writes_then {x} {y} {a} {b} {c} {r = Ok v} h g = record {
    ok = (appends_both (sink.taken a) (sink.taken b) (sink.taken c) x y h.ok.0 g.ok.0, g.ok.1 ∙ h.ok.1);
    err = tt;
    finished = g.finished ∙ h.finished;
  }
  writes_then {x} {y} {a} {b} {c} {r = Err e} h g = record {
    ok = tt;
    err = (
      record {
        out = x ++ g.err.0.out;
        such = prefix_join (x ++ y) x y g.err.0.out refl g.err.0.such;
        taken = appends_both (sink.taken a) (sink.taken b) (sink.taken c) x g.err.0.out h.ok.0 g.err.0.taken;
      },
      g.err.1 ∙ ap raised h.ok.1,
    );
    finished = g.finished ∙ h.finished;
  }

  -- a text that wasn't taken whole, so that nothing of what is after it was
  pub writes_stopped : {x : List ℕ} {a b : S} {e : E} (y : List ℕ) → Writes sink x a b (Err e) → Writes sink (x ++ y) a b (Err e)
  writes_stopped {x} {a} {b} {e} y h = record {
    ok = tt;
    err = (record { out = h.err.0.out; such = prefix_more (x ++ y) x y h.err.0.out refl h.err.0.such; taken = h.err.0.taken }, h.err.1);
    finished = h.finished;
  }

  -- some of a text, and the next part of it, which wasn't taken whole
  pub writes_cut : {whole upto first next : List ℕ} {a b c : S} {e : E} (rest : List ℕ) → whole ≡ upto ++ rest → upto ≡ first ++ next →
      Writes {E = E} sink first a b (Ok tt) → Writes sink next b c (Err e) → Writes sink whole a c (Err e)
  writes_cut rest all more h g = writes_same (sym all) (writes_stopped rest (writes_same (sym more) (writes_then h g)))

  -- the error that is handed on
  pub writes_failed : {x : List ℕ} {a b : S} {e : E} {r : Result (Unit {0}) E} → IsErr r → Writes sink x a b (Err e) → Writes sink x a b r
  writes_failed is h = writes_err is h.err.0 h.err.1 h.finished

-- texts of the members of a list, one after the other
pub record AreJoined {A : Type 0} (text : List A → List ℕ) (one : A → List ℕ) : Type 0 where
  pub nil : text [] ≡ []
  pub cons : (x : A) (xs : List A) → text (x ∷ xs) ≡ one x ++ text xs

joined_append : {A : Type 0} (text : List A → List ℕ) (one : A → List ℕ) (xs ys : List A) → AreJoined text one →
    text (xs ++ ys) ≡ text xs ++ text ys
joined_append text one [] ys j = sym (ap (λ (t : List ℕ). t ++ text ys) j.nil)
joined_append text one (x ∷ xs) ys j =
    j.cons x (xs ++ ys) ∙ ap (λ (t : List ℕ). one x ++ t) (joined_append text one xs ys j) ∙ sym (append_assoc (one x) (text xs) (text ys))
    ∙ ap (λ (t : List ℕ). t ++ text ys) (sym (j.cons x xs))

-- so many of them, and the next
pub joined_next : {A : Type 0} (text : List A → List ℕ) (one : A → List ℕ) (xs : List A) (i : ℕ) (d : A) → AreJoined text one →
    i < length xs → text (take (i + 1) xs) ≡ text (take i xs) ++ one (get_or xs i d)
joined_next text one xs i d j h =
    ap text (take_more xs i d h) ∙ joined_append text one (take i xs) (get_or xs i d ∷ []) j
    ∙ ap (λ (t : List ℕ). text (take i xs) ++ t) (j.cons (get_or xs i d) [] ∙ ap (λ (t : List ℕ). one (get_or xs i d) ++ t) j.nil
    ∙ append-nil (one (get_or xs i d)))

-- all of them
pub joined_all : {A : Type 0} (text : List A → List ℕ) (one : A → List ℕ) (xs : List A) (i : ℕ) → AreJoined text one →
    text xs ≡ text (take i xs) ++ text (drop i xs)
joined_all text one xs i j = ap text (sym (take-append-drop i xs)) ∙ joined_append text one (take i xs) (drop i xs) j

module _ {A S E : Type 0} {sink : sinks.Ghosts S} (text : List A → List ℕ) (one : A → List ℕ) (j : AreJoined text one) (xs : List A)
    (i : ℕ) (d : A) (inside : i < length xs) where
  -- one more was taken
  pub writes_next : {a b c : S} → Writes {E = E} sink (text (take i xs)) a b (Ok tt) →
      Writes {E = E} sink (one (get_or xs i d)) b c (Ok tt) → Writes {E = E} sink (text (take (i + 1) xs)) a c (Ok tt)
  writes_next h g = writes_same (sym (joined_next text one xs i d j inside)) (writes_then h g)

  -- the next was not taken whole
  pub writes_broken : {a b c : S} {e : E} → Writes {E = E} sink (text (take i xs)) a b (Ok tt) →
      Writes sink (one (get_or xs i d)) b c (Err e) → Writes sink (text xs) a c (Err e)
  writes_broken = writes_cut (text (drop (i + 1) xs)) (joined_all text one xs (i + 1) j) (joined_next text one xs i d j inside)
