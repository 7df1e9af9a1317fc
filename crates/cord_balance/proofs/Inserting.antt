-- A balanced node is put after pieces.
use Rattle.std.proofs.Common.{◌≡◌, ℕ, ◌+◌, ◌<◌, ◌≤◌, List, ◌++◌, arith, subst, ⊎_elim, append_assoc}
use Rattle.std.specs.Prelude.{max, Option, Some, None, IfNone, IfSome}
use Rattle.std.proofs.lemmas.Bool.{cases_lt}
use Rattle.cord_io.specs.declared.TheConstants.{MAX_LEN, MAX_DEPTH}
use Rattle.cord_balance.specs.declared.TheConstants.{MAX_INDEX}
use Rattle.cord_node.specs.Tree.{depth_of}
use Rattle.cord_node.specs.PartsFrom.{Part, PartsFrom}
use Rattle.cord_node.proofs.PartsFromLemmas.{PartsFrom-self, PartsFrom-both, PartsFrom-trans}
use Rattle.cord_balance.specs.Fib.{fib_of, IsSlotOf}
use Rattle.cord_balance.specs.Pieces.{Shared}
use Rattle.cord_balance.specs.inner.Forest.{IsGatheredBelow}
use Rattle.cord_balance.proofs.FibLemmas.{fib_mono, fib_below, fib_sum, fib_index}

-- small pieces joined with a balanced one on their right
pub right_shallow : (dl dr ll lr : ℕ) → fib_of dl ≤ ll → fib_of (dl + 1) ≤ lr → fib_of (dr + 2) ≤ lr → fib_of (max dl dr + 1 + 1) ≤ ll + lr
right_shallow dl dr ll lr a b c =
    ⊎_elim
    (λ (h : dl < dr). let e : max dl dr + 1 + 1 ≡ dr + 2 = omega arith in rw e (omega arith))
    (λ (h : dr ≤ dl). let e : max dl dr ≡ dl = omega arith in
    let s : fib_of (dl + 1 + 1) ≡ fib_of dl + fib_of (dl + 1) = fib_sum dl (dl + 1 + 1) (omega arith) in rw e (omega arith))
    (cases_lt dl dr)

-- their join is not too deep
pub right_depth : (dl dr ll lr : ℕ) → fib_of dl ≤ ll → fib_of (dl + 1) ≤ lr → fib_of (dr + 2) ≤ lr → ll + lr ≤ MAX_LEN →
    max dl dr + 1 ≤ MAX_DEPTH
right_depth dl dr ll lr a b c h =
    let k : fib_of (max dl dr + 1 + 1) ≤ ll + lr = right_shallow dl dr ll lr a b c in
    let i : max dl dr + 1 + 1 < MAX_INDEX = fib_index (max dl dr + 1 + 1) (omega arith) in omega arith

-- their join may stand in its slot
pub right_joined : (d dl dr ll lr : ℕ) → fib_of dl ≤ ll → fib_of (dl + 1) ≤ lr → fib_of (dr + 2) ≤ lr → d ≤ max dl dr + 1 →
    fib_of (d + 1) ≤ ll + lr
right_joined d dl dr ll lr a b c h =
    let k : fib_of (max dl dr + 1 + 1) ≤ ll + lr = right_shallow dl dr ll lr a b c in
    let m : fib_of (d + 1) ≤ fib_of (max dl dr + 1 + 1) = fib_mono (d + 1) (max dl dr + 1 + 1) (omega arith) in omega arith

-- a balanced one may stand in its slot
pub balanced_alone : (d n : ℕ) → fib_of (d + 2) ≤ n → fib_of (d + 1) ≤ n
balanced_alone d n h = let m : fib_of (d + 1) ≤ fib_of (d + 2) = fib_mono (d + 1) (d + 2) (omega arith) in omega arith

-- what was gathered is no deeper than the slot, so its next number is no longer than the node
pub gathered_fits : (slot len : ℕ) (small : Option Shared) → IsSlotOf len slot → IsGatheredBelow slot small → (x : Shared) → small ≡ Some x →
    fib_of (depth_of x.value + 1) ≤ len
gathered_fits slot len small i g x e =
    let P : Option Shared → Type 0 = λ o. IsGatheredBelow slot o in
    let k : IsGatheredBelow slot (Some x) = subst P e g in
    let m : fib_of (depth_of x.value + 1) ≤ fib_of slot = fib_mono (depth_of x.value + 1) slot (omega (arith, k.2)) in
    omega (arith, i.above)

-- the joined node is no deeper than the slot
pub joined_depth_in_slot : (slot len dr d : ℕ) (small : Option Shared) → IsSlotOf len slot → IsGatheredBelow slot small →
    fib_of (dr + 2) ≤ len → IfNone small (d ≡ dr) → IfSome small (λ l. d ≤ max (depth_of l.value) dr + 1) → d ≤ slot
joined_depth_in_slot slot len dr d None i g b n s = let k : dr + 2 < slot + 1 = fib_below (dr + 2) (slot + 1) (omega (arith, i.below)) in
    omega arith
joined_depth_in_slot slot len dr d (Some x) i g b n s = let k : dr + 2 < slot + 1 =
    fib_below (dr + 2) (slot + 1) (omega (arith, i.below)) in let h : depth_of x.value < slot = g.2 in omega arith

-- parts of what is put into a forest come from there
pub insert_from : (old rest small n joined new : List Part) → PartsFrom old (rest ++ small) → PartsFrom (small ++ n) joined →
    PartsFrom (rest ++ joined) new → PartsFrom (old ++ n) new
insert_from old rest small n joined new a b c =
    let p : PartsFrom (old ++ n) ((rest ++ small) ++ n) = PartsFrom-both old n (rest ++ small) n a (PartsFrom-self n) in
    let q : PartsFrom (rest ++ (small ++ n)) (rest ++ joined) = PartsFrom-both rest (small ++ n) rest joined (PartsFrom-self rest) b in
    let e : PartsFrom ((rest ++ small) ++ n) (rest ++ joined) = rw (append_assoc rest small n) q in
    PartsFrom-trans (old ++ n) ((rest ++ small) ++ n) new p (PartsFrom-trans ((rest ++ small) ++ n) (rest ++ joined) new e c)

-- two parts of a tree, one after the other
pub two_from : (old l r mid new : List Part) → PartsFrom (old ++ l) mid → PartsFrom (mid ++ r) new → PartsFrom (old ++ (l ++ r)) new
two_from old l r mid new a b =
    let p : PartsFrom ((old ++ l) ++ r) (mid ++ r) = PartsFrom-both (old ++ l) r mid r a (PartsFrom-self r) in
    let q : PartsFrom (old ++ (l ++ r)) (mid ++ r) = rw (← append_assoc old l r) p in
    PartsFrom-trans (old ++ (l ++ r)) (mid ++ r) new q b
