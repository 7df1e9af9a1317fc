-- Entries and the map that they are.
use Rattle.std.proofs.Common.{take, drop, inl, inr, ◌≡◌, ◌≢◌, ℕ, ◌<◌, zero, suc, Bool, true, false, ◌&&◌, List, [], ◌∷◌, ◌++◌, None, Some}
use Rattle.std.proofs.Common.{refl, sym, ◌∙◌, ap, subst, arith}
use Rattle.std.specs.Prelude.{IsSome, IsSomeAnd, slice_get, slice_set, is_none, length, if◌then◌else◌}
use Rattle.std.specs.String.{string_bytes}
use Rattle.std.specs.Str.{bytes_eq}
use Rattle.std.specs.Option.{option_map, option_and_then, unwrap_or}
use Rattle.std.proofs.lemmas.Bool.{cases_eq}
use Rattle.std.proofs.lemmas.Slice.Eq.{bytes_eq-Decides}
use Rattle.std.proofs.lemmas.Option.{slice_get-map}
use Rattle.std.proofs.lemmas.List.{length-set}
use Rattle.std.proofs.Math.Seq.{take-append_seam}
use Rattle.cord_io.specs.Device.{FileSystem, file_at, bytes_at, Adds}
use Rattle.cord_io.specs.Memory.{pair_of, file_system_of, paths_differ, reported_of, opened_of}
use Rattle.cord_io.specs.inner.Memory.{with_bytes, MarksOpen, Rewrites}
use Rattle.cord_io.specs.declared.memory.Entry.{Entry}

pub and_true_left : (a b : Bool) → (a && b) ≡ true → a ≡ true
and_true_left true b h = refl
and_true_left false b h = h

pub and_true_right : (a b : Bool) → (a && b) ≡ true → b ≡ true
and_true_right true b h = h
and_true_right false b h = cc

-- a member is what its path has, where no path stands twice
pub file_of_member : (f : FileSystem) (n : ℕ) (p b : List ℕ) → paths_differ f ≡ true → slice_get f n ≡ Some (p, b) → file_at f p ≡ Some b
file_of_member [] n p b d h = cc
file_of_member (x ∷ xs) zero p b d h =
    let same : bytes_eq p p ≡ true = (bytes_eq-Decides p p).1 refl in
    let e : x ≡ (p, b) = cc in
    rw e (rw same refl)
file_of_member (x ∷ xs) (suc n) p b d h =
    let rest : file_at xs p ≡ Some b = file_of_member xs n p b (and_true_right (is_none (file_at xs x.0)) (paths_differ xs) d) h in
    elim (bytes_eq x.0 p) as (λ v. bytes_eq x.0 p ≡ v → (if v then Some x.1 else file_at xs p) ≡ Some b) [
      | true ↦ λ e.
          let path : x.0 ≡ p = (bytes_eq-Decides x.0 p).0 e in
          let none : is_none (file_at xs x.0) ≡ true = and_true_left (is_none (file_at xs x.0)) (paths_differ xs) d in
          let some : is_none (file_at xs x.0) ≡ false = rw path (rw rest refl) in
          cc
      | false ↦ λ e. rest
    ] refl

-- the entry with a number is what its path has
pub file_at_number : (es : List Entry) (n : ℕ) (e : Entry) → paths_differ (file_system_of es) ≡ true → slice_get es n ≡ Some e →
    file_at (file_system_of es) (string_bytes e.path) ≡ Some e.bytes.items
file_at_number es n e d h = file_of_member (file_system_of es) n (string_bytes e.path) e.bytes.items d
    (slice_get-map pair_of es n ∙ ap (option_map pair_of) h)

-- what the entries from one on have at its path
pub found_at : (es : List Entry) (n : ℕ) (p : List ℕ) (e : Entry) → slice_get es n ≡ Some e → bytes_eq (string_bytes e.path) p ≡ true →
    file_at (file_system_of (drop n es)) p ≡ Some e.bytes.items
found_at [] n p e h s = cc
found_at (x ∷ xs) zero p e h s =
    let same : x ≡ e = cc in
    rw same (rw s refl)
found_at (x ∷ xs) (suc n) p e h s = found_at xs n p e h s

pub get_set_same : {X : Type 0} (xs : List X) (n : ℕ) (x y : X) → slice_get xs n ≡ Some x → slice_get (slice_set xs n y) n ≡ Some y
get_set_same [] n x y h = cc
get_set_same (z ∷ xs) zero x y h = refl
get_set_same (z ∷ xs) (suc n) x y h = get_set_same xs n x y h

pub get_set_other : {X : Type 0} (xs : List X) (n k : ℕ) (y : X) → k ≢ n → slice_get (slice_set xs n y) k ≡ slice_get xs k
get_set_other [] n k y d = refl
get_set_other (z ∷ xs) zero zero y d = absurd (d refl)
get_set_other (z ∷ xs) zero (suc k) y d = refl
get_set_other (z ∷ xs) (suc n) zero y d = refl
get_set_other (z ∷ xs) (suc n) (suc k) y d = get_set_other xs n k y (λ e. d (ap suc e))

pub map_set : (es : List Entry) (n : ℕ) (e f : Entry) → slice_get es n ≡ Some e → pair_of f ≡ pair_of e →
    file_system_of (slice_set es n f) ≡ file_system_of es
map_set [] n e f h s = refl
map_set (x ∷ xs) zero e f h s =
    let same : x ≡ e = cc in
    rw (same, s) refl
map_set (x ∷ xs) (suc n) e f h s = ap (λ r. pair_of x ∷ r) (map_set xs n e f h s)

-- an open entry reports what it reported before
same_reported : (b : Bool) (x : List ℕ × ℕ) → IsSome (if b then Some x else None) → Some x ≡ (if b then Some x else None)
same_reported true x h = refl
same_reported false x h = cc

pub marked : (es : List Entry) (n : ℕ) (e : Entry) → slice_get es n ≡ Some e →
    MarksOpen es (slice_set es n (record { path = e.path; bytes = e.bytes; is_open = true })) n (length e.bytes.items)
marked es n e h =
    let f : Entry = record { path = e.path; bytes = e.bytes; is_open = true } in
    let at : slice_get (slice_set es n f) n ≡ Some f = get_set_same es n e f h in
    record {
      file_system = map_set es n e f h refl;
      reported = rw h (ap (option_and_then reported_of) at, refl);
      others = λ k d. ap (option_and_then reported_of) (get_set_other es n k f d);
      kept = λ k s. elim (cases_eq k n) [
        | inl same ↦
            let here : opened_of es n ≡ reported_of e = ap (option_and_then reported_of) h in
            let is_open : IsSome (reported_of e) = subst IsSome here (subst (λ j. IsSome (opened_of es j)) same s) in
            subst (λ j. opened_of (slice_set es n f) j ≡ opened_of es j) (sym same)
            (ap (option_and_then reported_of) at ∙ same_reported e.is_open (string_bytes e.path, length e.bytes.items) is_open ∙ sym here)
        | inr differs ↦ ap (option_and_then reported_of) (get_set_other es n k f differs)
      ];
    }

some_if : {X : Type 0} (b : Bool) (x : X) (P Q : X → Type 0) → IsSomeAnd (if b then Some x else None) P → Q x →
    IsSomeAnd (if b then Some x else None) Q
some_if true x P Q h q = q
some_if false x P Q h q = h

-- bytes of an open entry are bytes of the file that was reported
pub bytes_read : (es : List Entry) (n : ℕ) (e : Entry) (out : List ℕ) (k start : ℕ) → paths_differ (file_system_of es) ≡ true →
    slice_get es n ≡ Some e → IsSomeAnd (opened_of es n) (λ reported. start < reported.1) → take k out ≡ take k (drop start e.bytes.items) →
    IsSomeAnd (opened_of es n) (λ reported. take k out ≡ take k (drop start (bytes_at (file_system_of es) reported.0)))
bytes_read es n e out k start d h inside read =
    let here : opened_of es n ≡ reported_of e = ap (option_and_then reported_of) h in
    let file : file_at (file_system_of es) (string_bytes e.path) ≡ Some e.bytes.items = file_at_number es n e d h in
    let P : List ℕ × ℕ → Type 0 = λ reported. start < reported.1 in
    let Q : List ℕ × ℕ → Type 0 = λ reported. take k out ≡ take k (drop start (bytes_at (file_system_of es) reported.0)) in
    let same : bytes_at (file_system_of es) (string_bytes e.path) ≡ e.bytes.items = ap (λ o. unwrap_or o []) file in
    let q : Q (string_bytes e.path, length e.bytes.items) = subst (λ b. take k out ≡ take k (drop start b)) (sym same) read in
    subst (λ o. IsSomeAnd o Q) (sym here) (some_if e.is_open (string_bytes e.path, length e.bytes.items) P Q
    (subst (λ o. IsSomeAnd o P) here inside) q)

pub open_inside : (es : List Entry) (n : ℕ) (P : List ℕ × ℕ → Type 0) → IsSomeAnd (opened_of es n) P → n < length es
open_inside [] n P h = absurd h
open_inside (x ∷ xs) zero P h = omega arith
open_inside (x ∷ xs) (suc n) P h = omega (arith, open_inside xs n P h)

-- other bytes for a file add no path and drop none
pub is_none-with_bytes : (f : FileSystem) (n : ℕ) (b p : List ℕ) → is_none (file_at (with_bytes f n b) p) ≡ is_none (file_at f p)
is_none-with_bytes [] n b p = refl
is_none-with_bytes (x ∷ xs) zero b p =
    elim (bytes_eq x.0 p) as (λ v. is_none (if v then Some b else file_at xs p) ≡ is_none (if v then Some x.1 else file_at xs p))
    [ true ↦ refl | false ↦ refl ]
is_none-with_bytes (x ∷ xs) (suc n) b p =
    let rest : is_none (file_at (with_bytes xs n b) p) ≡ is_none (file_at xs p) = is_none-with_bytes xs n b p in
    elim (bytes_eq x.0 p) as (λ v. is_none (if v then Some x.1 else file_at (with_bytes xs n b) p)
    ≡ is_none (if v then Some x.1 else file_at xs p)) [ true ↦ refl | false ↦ rest ]

pub paths_differ-with_bytes : (f : FileSystem) (n : ℕ) (b : List ℕ) → paths_differ (with_bytes f n b) ≡ paths_differ f
paths_differ-with_bytes [] n b = refl
paths_differ-with_bytes (x ∷ xs) zero b = refl
paths_differ-with_bytes (x ∷ xs) (suc n) b = rw (is_none-with_bytes xs n b x.0, paths_differ-with_bytes xs n b) refl

get-with_bytes : (f : FileSystem) (n : ℕ) (b p c : List ℕ) → slice_get f n ≡ Some (p, c) → slice_get (with_bytes f n b) n ≡ Some (p, b)
get-with_bytes [] n b p c h = cc
get-with_bytes (x ∷ xs) zero b p c h =
    let same : x ≡ (p, c) = cc in
    rw same refl
get-with_bytes (x ∷ xs) (suc n) b p c h = get-with_bytes xs n b p c h

file_at-with_bytes : (f : FileSystem) (n : ℕ) (b p c q : List ℕ) → slice_get f n ≡ Some (p, c) → q ≢ p →
    file_at (with_bytes f n b) q ≡ file_at f q
file_at-with_bytes [] n b p c q h d = cc
file_at-with_bytes (x ∷ xs) zero b p c q h d =
    let same : x ≡ (p, c) = cc in
    elim (bytes_eq x.0 q) as (λ v. bytes_eq x.0 q ≡ v → (if v then Some b else file_at xs q) ≡ (if v then Some x.1 else file_at xs q)) [
      | true ↦ λ e. absurd (d (sym ((bytes_eq-Decides x.0 q).0 e) ∙ ap (λ y. y.0) same))
      | false ↦ λ e. refl
    ] refl
file_at-with_bytes (x ∷ xs) (suc n) b p c q h d =
    let rest : file_at (with_bytes xs n b) q ≡ file_at xs q = file_at-with_bytes xs n b p c q h d in
    elim (bytes_eq x.0 q) as (λ v. (if v then Some x.1 else file_at (with_bytes xs n b) q) ≡ (if v then Some x.1 else file_at xs q))
    [ true ↦ refl | false ↦ rest ]

-- other bytes for a file are added at its path
pub adds-with_bytes : (f : FileSystem) (n : ℕ) (b p c : List ℕ) → paths_differ f ≡ true → slice_get f n ≡ Some (p, c) →
    Adds f (with_bytes f n b) p b
adds-with_bytes f n b p c d h = record {
  file = file_of_member (with_bytes f n b) n p b (paths_differ-with_bytes f n b ∙ d) (get-with_bytes f n b p c h);
  others = λ q e. file_at-with_bytes f n b p c q h e;
}

-- a path that isn't there differs from the first one
not_first : (x : List ℕ × List ℕ) (xs : FileSystem) (p : List ℕ) → file_at (x ∷ xs) p ≡ None → (x.0 ≢ p) × (file_at xs p ≡ None)
not_first x xs p h =
    let apart : x.0 ≢ p = λ e.
    let same : bytes_eq x.0 p ≡ true = (bytes_eq-Decides x.0 p).1 e in
    let found : file_at (x ∷ xs) p ≡ Some x.1 = rw same refl in
    cc in
    elim (bytes_eq x.0 p) as (λ v. bytes_eq x.0 p ≡ v → (if v then Some x.1 else file_at xs p) ≡ None → (x.0 ≢ p) × (file_at xs p ≡ None)) [
      | true ↦ λ e g. absurd (apart ((bytes_eq-Decides x.0 p).0 e))
      | false ↦ λ e g. (apart, g)
    ] refl h

file_at-push : (f : FileSystem) (p b q : List ℕ) → q ≢ p → file_at (f ++ (p, b) ∷ []) q ≡ file_at f q
file_at-push [] p b q d =
    elim (bytes_eq p q) as (λ v. bytes_eq p q ≡ v → (if v then Some b else None) ≡ None) [
      | true ↦ λ e. absurd (d (sym ((bytes_eq-Decides p q).0 e)))
      | false ↦ λ e. refl
    ] refl
file_at-push (x ∷ xs) p b q d =
    let rest : file_at (xs ++ (p, b) ∷ []) q ≡ file_at xs q = file_at-push xs p b q d in
    elim (bytes_eq x.0 q) as (λ v. (if v then Some x.1 else file_at (xs ++ (p, b) ∷ []) q) ≡ (if v then Some x.1 else file_at xs q))
    [ true ↦ refl | false ↦ rest ]

file_at-pushed : (f : FileSystem) (p b : List ℕ) → file_at f p ≡ None → file_at (f ++ (p, b) ∷ []) p ≡ Some b
file_at-pushed [] p b h =
    let same : bytes_eq p p ≡ true = (bytes_eq-Decides p p).1 refl in
    rw same refl
file_at-pushed (x ∷ xs) p b h =
    let apart = not_first x xs p h in
    let rest : file_at (xs ++ (p, b) ∷ []) p ≡ Some b = file_at-pushed xs p b apart.1 in
    elim (bytes_eq x.0 p) as (λ v. bytes_eq x.0 p ≡ v → (if v then Some x.1 else file_at (xs ++ (p, b) ∷ []) p) ≡ Some b) [
      | true ↦ λ e. absurd (apart.0 ((bytes_eq-Decides x.0 p).0 e))
      | false ↦ λ e. rest
    ] refl

-- one more file, at a path that isn't there
pub adds-push : (f : FileSystem) (p b : List ℕ) → file_at f p ≡ None → Adds f (f ++ (p, b) ∷ []) p b
adds-push f p b h = record { file = file_at-pushed f p b h; others = λ q d. file_at-push f p b q d }

pub paths_differ-push : (f : FileSystem) (p b : List ℕ) → file_at f p ≡ None → paths_differ f ≡ true → paths_differ (f ++ (p, b) ∷ []) ≡
    true
paths_differ-push [] p b h d = refl
paths_differ-push (x ∷ xs) p b h d =
    let apart = not_first x xs p h in
    let first : is_none (file_at (xs ++ (p, b) ∷ []) x.0) ≡ true =
    ap is_none (file_at-push xs p b x.0 apart.0) ∙ and_true_left (is_none (file_at xs x.0)) (paths_differ xs) d in
    rw (first, paths_differ-push xs p b apart.1 (and_true_right (is_none (file_at xs x.0)) (paths_differ xs) d)) refl

pub file_system_of-push : (es : List Entry) (e : Entry) → file_system_of (es ++ e ∷ []) ≡ file_system_of es ++ pair_of e ∷ []
file_system_of-push [] e = refl
file_system_of-push (x ∷ xs) e = ap (λ r. pair_of x ∷ r) (file_system_of-push xs e)

-- one more entry that isn't open
pub unopened-push : (es : List Entry) (e : Entry) (n : ℕ) → reported_of e ≡ None → ((k : ℕ) → opened_of es k ≡ None) →
    opened_of (es ++ e ∷ []) n ≡ None
unopened-push [] e zero h all = h
unopened-push [] e (suc n) h all = refl
unopened-push (x ∷ xs) e zero h all = all zero
unopened-push (x ∷ xs) e (suc n) h all = unopened-push xs e n h (λ k. all (suc k))

file_system_of-set : (es : List Entry) (n : ℕ) (e f : Entry) → slice_get es n ≡ Some e → f.path ≡ e.path →
    file_system_of (slice_set es n f) ≡ with_bytes (file_system_of es) n f.bytes.items
file_system_of-set [] n e f h p = refl
file_system_of-set (x ∷ xs) zero e f h p =
    let same : x ≡ e = cc in
    rw (same, p) refl
file_system_of-set (x ∷ xs) (suc n) e f h p = ap (λ r. pair_of x ∷ r) (file_system_of-set xs n e f h p)

still_unreported : (b : Bool) (x y : List ℕ × ℕ) → (if b then Some x else None) ≡ None → (if b then Some y else None) ≡ None
still_unreported true x y h = cc
still_unreported false x y h = refl

-- a write of new bytes to an entry
pub rewritten : (es : List Entry) (n : ℕ) (e f : Entry) → slice_get es n ≡ Some e → f.path ≡ e.path → f.is_open ≡ e.is_open →
    Rewrites es (slice_set es n f) n f.bytes.items
rewritten es n e f h p o =
    let at : slice_get (slice_set es n f) n ≡ Some f = get_set_same es n e f h in
    let reported : reported_of f ≡ (if e.is_open then Some (string_bytes f.path, length f.bytes.items) else None) =
    ap (λ b. if b then Some (string_bytes f.path, length f.bytes.items) else None) o in
    record {
      file_system = file_system_of-set es n e f h p;
      count = length-set es n f;
      unopened = λ all k. elim (cases_eq k n) [
        | inl same ↦
            let here : opened_of es n ≡ reported_of e = ap (option_and_then reported_of) h in
            let none : reported_of f ≡ None =
            reported ∙ still_unreported e.is_open (string_bytes e.path, length e.bytes.items) (string_bytes f.path, length f.bytes.items)
            (sym here ∙ all n) in
            subst (λ j. opened_of (slice_set es n f) j ≡ None) (sym same) (ap (option_and_then reported_of) at ∙ none)
        | inr differs ↦ ap (option_and_then reported_of) (get_set_other es n k f differs) ∙ all k
      ];
    }

-- the whole of a slice that was written over
pub written_over : {X : Type 0} (n : ℕ) (xs ys : List X) → n ≡ length ys → length xs ≡ length ys → take n (xs ++ drop (length xs) ys) ≡ xs
written_over n xs ys h k = ap (λ i. take i (xs ++ drop (length xs) ys)) (h ∙ sym k) ∙ take-append_seam xs (drop (length xs) ys)
