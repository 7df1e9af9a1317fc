-- A climb and a descent take the way to another index.
use Rattle.cord_pos.proofs.Common.{IsClimb, List, Node, Place, Some, [], ap, append_assoc, arith, below, len_limit, length, level, min, part_at, refl}
use Rattle.cord_pos.proofs.Common.{shared_level, sym, ℕ, ◌++◌, ◌+◌, ◌-◌, ◌^◌, ◌∙◌, ◌∷◌, ◌≡◌, ◌≤◌}
use Rattle.std.proofs.Common.{length-append}
use Rattle.cord_pos.proofs.Counts.{depth_limit}
use Rattle.cord_pos.proofs.Moves.{IsMove, IsUnder, LiesIn, lies_in, moved, under_root}
use Rattle.cord_pos.specs.inner.Path.{CanDescend, EndsIn, IsOnWay, IsTakenTo}

-- the old way, with the node at which the climb stopped
found_split : (old new : List Place) (n : Node) (t at : ℕ) (c : IsClimb old new at) (e : EndsIn new n t at) →
    old ≡ e.prefix ++ (Some n, t) ∷ c.left_out
found_split old new n t at c e = c.split ∙ (rw (e.split, append_assoc) refl)

-- from the node at which a climb from a way stopped one can step down
pub found : (old new : List Place) (n : Node) (t at count visits : ℕ) → IsOnWay old at → IsClimb old new at → EndsIn new n t at →
    count ≡ length new → visits ≤ 2 ^ 64 - 1 → CanDescend n t (at - t) count visits
found old new n t at count visits w c e z counted =
    let u : IsUnder w.root 0 (length e.prefix) n t =
    under_root w.root 0 w.from e.prefix c.left_out n t w.sound (sym w.way ∙ found_split old new n t at c e) in
    let k : length new ≡ length e.prefix + 1 = ap length e.split ∙ length-append e.prefix ((Some n, t) ∷ []) in
    let l : LiesIn n t at = lies_in n t at e.holds in
    record {
      sound = u.sound;
      inside = omega (arith, l.from, l.to);
      fits = omega (arith, u.to, len_limit w.root w.sound);
      room = omega (arith, z, k, u.depth, depth_limit w.root w.sound);
      counted = counted;
    }

-- a climb and the descent from where it stopped take the way to the index
pub taken : (old new new' : List Place) (n part : Node) (t start at visits visits' : ℕ) → IsClimb old new at → EndsIn new n t at →
    new' ≡ new ++ below n t (at - t) → visits' ≡ min (visits + level n (at - t)) (2 ^ 64 - 1) → (part, start) ≡ part_at n t (at - t) →
    IsTakenTo old at new' part start visits visits'
taken old new new' n part t start at visits visits' c e down counted p = λ root from sound inside old-way.
    let m : IsMove root 0 from at e.prefix n t at =
    moved root 0 from at at e.prefix c.left_out n t (omega arith) inside sound (sym old-way ∙ found_split old new n t at c e) e.holds
    c.none_holds in
    let k : level root at - shared_level root from at ≡ level n (at - t) = omega (arith, m.level, m.shared) in
    record {
      way = down ∙ (rw (e.split, append_assoc) m.way);
      part = p ∙ m.part;
      visits_more = rw k counted;
    }
