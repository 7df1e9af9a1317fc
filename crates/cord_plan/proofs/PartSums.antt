-- The parts and the names of expressions, summed over members and operands.
use Rattle.cord_plan.proofs.Common.{ℕ, Bool, true, false, List, [], map, drop, length, get_or, pos, Option, Some, None, refl, sym, ap, ◌∙◌}
use Rattle.cord_plan.proofs.Common.{arith, length-append, nat_le, not, sum_by, leb-false, leb-true, lt-leb, le-leb, at_drop_more}
use Rattle.cord_plan.proofs.Common.{length-map, Numeral, Statement, Chars, Nul, Cat, Catn, Catc, Substr, Put, Expr, Exprs, name, run, cat}
use Rattle.cord_plan.proofs.Common.{parts, parts_of, append, preceding, members, Shared, members_of, shared_view, assigns_at, Choice}
use Rattle.cord_plan.proofs.Common.{expr_of, preserves, is_small, expr_with, room_left, room_left_by, simple_operands, parts_beside}
use Rattle.std.proofs.Common.{length-drop, ◌≡◌, ◌+◌, ◌-◌, ◌<◌, ◌≤◌, ◌&&◌, ◌∷◌, ◌++◌, if◌then◌else◌}
use Rattle.std.proofs.lemmas.List.Sums.{sum_by-cons}
use Rattle.cord_plan.proofs.Appending.{parts_append}

-- where one count of parts is too large, so is it with more
over_more : (n m room : ℕ) → nat_le n room ≡ false → nat_le (n + m) room ≡ false
over_more n m room e = let over : room < n = leb-false n room e in lt-leb (n + m) room (omega arith)

none_left : (n room : ℕ) → None ≡ room_left n room → nat_le n room ≡ false
none_left n room e = pick (nat_le n room) refl e
  where
    pick : (v : Bool) → nat_le n room ≡ v → None ≡ (if v then Some (room - n) else None) → nat_le n room ≡ false
    pick true f h = let bad : ⊥ = cc in absurd bad
    pick false f h = f

-- after a count that finds room, more has what is left
some_left : (n m room left : ℕ) → Some left ≡ room_left n room → nat_le (n + m) room ≡ nat_le m left
some_left n m room left e = first (nat_le n room) refl e
  where
    second : (v : Bool) → nat_le m (room - n) ≡ v → n ≤ room → nat_le (n + m) room ≡ v
    second true f le = let fits : m ≤ room - n = leb-true m (room - n) f in le-leb (n + m) room (omega arith)
    second false f le = let over : room - n < m = leb-false m (room - n) f in lt-leb (n + m) room (omega arith)

    first : (v : Bool) → nat_le n room ≡ v → Some left ≡ (if v then Some (room - n) else None) → nat_le (n + m) room ≡ nat_le m left
    first true f h =
        let same : room - n ≡ left = cc in
        let le : n ≤ room = leb-true n room f in
        second (nat_le m (room - n)) refl le ∙ ap (λ (k : ℕ). nat_le m k) same
    first false f h = let bad : ⊥ = cc in absurd bad

-- so it has none for more where it has none for the first, and else what the first leaves
pub none_for_more : (n m room : ℕ) → None ≡ room_left n room → None ≡ room_left (n + m) room
none_for_more n m room e = ap (λ (v : Bool). if v then Some (room - (n + m)) else None) (sym (over_more n m room (none_left n room e)))

left_is : (n room left : ℕ) → Some left ≡ room_left n room → left ≡ room - n
left_is n room left e = pick (nat_le n room) e
  where
    pick : (v : Bool) → Some left ≡ (if v then Some (room - n) else None) → left ≡ room - n
    pick true h = cc
    pick false h = let bad : ⊥ = cc in absurd bad

pub room_for_more : (n m room left : ℕ) → Some left ≡ room_left n room → room_left (n + m) room ≡ room_left m left
room_for_more n m room left e =
    let same : left ≡ room - n = left_is n room left e in
    let rest : room - (n + m) ≡ left - m = omega arith in
    ap (λ (v : Bool). if v then Some (room - (n + m)) else None) (some_left n m room left e)
    ∙ ap (λ (k : ℕ). if nat_le m left then Some k else None) rest

-- the parts of members, by the first
pub parts_member : (ms : List Shared) (k : ℕ) (m : Shared) → k < length ms → m ≡ get_or ms k m →
    parts_of (members_of (map shared_view (drop k ms))) ≡ parts (shared_view m) + parts_of (members_of (map shared_view (drop (k + 1) ms)))
parts_member ms k m lt is =
    at_drop_more (λ (es : List Shared). parts_of (members_of (map shared_view es))) ms k m lt
    ∙ ap (λ (e : Shared). parts_of (members_of (map shared_view (e ∷ drop (k + 1) ms)))) (sym is)

-- the room that members leave, by those in front
pub parts_both : (all prefix rest : Exprs) (room : ℕ) → all ≡ append prefix rest →
    room_left (parts_of all) room ≡ room_left (parts_of prefix + parts_of rest) room
parts_both all prefix rest room e = ap (λ (n : ℕ). room_left n room) (ap parts_of e ∙ parts_append prefix rest)

-- what preserves the names of two lists
pub preserves_append : (l : Option Statement) (xs ys : List (List ℕ)) → preserves l (xs ++ ys) ≡ preserves l xs && preserves l ys
preserves_append l [] ys = refl
preserves_append l (x ∷ xs) ys = pick (not (assigns_at l x)) (preserves_append l xs ys)
  where
    pick : (v : Bool) → preserves l (xs ++ ys) ≡ (preserves l xs && preserves l ys) → (v && preserves l (xs ++ ys))
        ≡ ((v && preserves l xs) && preserves l ys)
    pick true more = more
    pick false more = refl

abbrev pub sum_parts : List Expr → ℕ
sum_parts [] = 0
sum_parts (e ∷ es) = parts e + sum_parts es

parts_prefix : (e : Expr) (b : Exprs) → parts_of (preceding e b) ≡ parts e + parts_of b
parts_prefix (cat es) b = parts_append es b
parts_prefix e b = refl

pub parts_members : (es : List Expr) → parts_of (members es) ≡ sum_parts es
parts_members [] = refl
parts_members (e ∷ es) = parts_prefix e (members es) ∙ ap (λ (n : ℕ). parts e + n) (parts_members es)

pub sum_append : (a b : List Expr) → sum_parts (a ++ b) ≡ sum_parts a + sum_parts b
sum_append [] b = omega arith
sum_append (e ∷ a) b = let more : sum_parts (a ++ b) ≡ sum_parts a + sum_parts b = sum_append a b in omega arith

pub sum_names : (xs : List (List ℕ)) → sum_parts (map (λ y. name y) xs) ≡ length xs
sum_names [] = refl
sum_names (x ∷ xs) = let more : sum_parts (map (λ y. name y) xs) ≡ length xs = sum_names xs in omega arith

-- a line's expression stays small where the parts of its operands and those beside them do
pub small_sum : (l : Statement) (es : List Expr) (xs : List (List ℕ)) → simple_operands l ≡ Some xs → length es ≡ length xs →
    0 < length es → is_small (expr_with l es) ≡ nat_le (sum_parts es + parts_beside l) 64
small_sum (Cat line target left right) es xs e f g = ap (λ (n : ℕ). nat_le n 64) (parts_members es ∙ omega arith)
small_sum (Catn line target many) es xs e f g = ap (λ (n : ℕ). nat_le n 64) (parts_members es ∙ omega arith)
small_sum (Catc line target operand byte) es xs e f g =
    ap (λ (n : ℕ). nat_le n 64) (parts_members (es ++ run byte (Numeral (pos 1)) ∷ []) ∙ sum_append es (run byte (Numeral (pos 1)) ∷ []))
small_sum (Chars line target byte n) es xs e f g = let none : xs ≡ [] = cc in let empty : length xs ≡ 0 = ap length none in
    absurd (omega arith)
small_sum (Nul line target n) es xs e f g = let none : xs ≡ [] = cc in let empty : length xs ≡ 0 = ap length none in absurd (omega arith)
small_sum (Substr line target operand start n) [] xs e f g = absurd (omega arith)
small_sum (Substr line target operand start n) (r ∷ []) xs e f g = ap (λ (n : ℕ). nat_le n 64) (omega arith)
small_sum (Substr line target operand start n) (r ∷ q ∷ es) xs e f g = let one : xs ≡ operand ∷ [] = cc in let few : length xs ≡ 1 =
    ap length one in absurd (omega arith)
small_sum (Put line operand) [] xs e f g = absurd (omega arith)
small_sum (Put line operand) (r ∷ []) xs e f g = ap (λ (n : ℕ). nat_le n 64) (omega arith)
small_sum (Put line operand) (r ∷ q ∷ es) xs e f g = let one : xs ≡ operand ∷ [] = cc in let few : length xs ≡ 1 = ap length one in
    absurd (omega arith)
small_sum l es xs e f g = let bad : ⊥ = cc in absurd bad

sum_choices : (cs : List Choice) → sum_parts (map (λ c. expr_of c) cs) ≡ sum_by (λ c. parts (expr_of c)) cs
sum_choices [] = refl
sum_choices (c ∷ cs) = ap (λ (n : ℕ). parts (expr_of c) + n) (sum_choices cs) ∙ sym (sum_by-cons (λ c. parts (expr_of c)) c cs)

module _ (l : Statement) (xs : List (List ℕ)) (done : List Choice) (e : Expr) (k : ℕ) where
  -- the operands of a line, one of them replaced after those that were chosen for
  abbrev standing : List Expr
  standing = map (λ c. expr_of c) done ++ e ∷ map (λ y. name y) (drop (length done + 1) xs)

  module _ (simple : simple_operands l ≡ Some xs) (size : length done ≡ k) (more : k < length xs) where
    suffix : length (drop (length done + 1) xs) ≡ length xs - k - 1
    suffix = length-drop (length done + 1) xs ∙ omega arith

    standing_size : length standing ≡ length xs
    standing_size =
        let both : length standing ≡ length (map (λ c. expr_of c) done) + length (e ∷ map (λ y. name y) (drop (length done + 1) xs)) =
        length-append (map (λ c. expr_of c) done) (e ∷ map (λ y. name y) (drop (length done + 1) xs)) in
        let prefix : length (map (λ c. expr_of c) done) ≡ length done = length-map done (λ c. expr_of c) in
        let back : length (map (λ y. name y) (drop (length done + 1) xs)) ≡ length (drop (length done + 1) xs) =
        length-map (drop (length done + 1) xs) (λ y. name y) in
        let left : length (drop (length done + 1) xs) ≡ length xs - k - 1 = suffix in
        omega arith

    standing_sum : sum_parts standing + parts_beside l ≡ sum_by (λ c. parts (expr_of c)) done
        + (parts e + (length xs - k - 1 + parts_beside l))
    standing_sum =
        let both : sum_parts standing ≡ sum_parts (map (λ c. expr_of c) done) + sum_parts
        (e ∷ map (λ y. name y) (drop (length done + 1) xs)) =
        sum_append (map (λ c. expr_of c) done) (e ∷ map (λ y. name y) (drop (length done + 1) xs)) in
        let prefix : sum_parts (map (λ c. expr_of c) done) ≡ sum_by (λ c. parts (expr_of c)) done = sum_choices done in
        let back : sum_parts (map (λ y. name y) (drop (length done + 1) xs)) ≡ length (drop (length done + 1) xs) =
        sum_names (drop (length done + 1) xs) in
        let left : length (drop (length done + 1) xs) ≡ length xs - k - 1 = suffix in
        omega arith

    -- whether the line's expression stays small then
    small_standing : is_small (expr_with l standing) ≡ nat_le (sum_by (λ c. parts (expr_of c)) done
        + (parts e + (length xs - k - 1 + parts_beside l))) 64
    small_standing =
        let size' : length standing ≡ length xs = standing_size in
        small_sum l standing xs simple size' (omega arith) ∙ ap (λ (n : ℕ). nat_le n 64) standing_sum

    pub small_none : None ≡ room_left_by done 64 → false ≡ is_small (expr_with l standing)
    small_none none = sym (small_standing ∙ over_more (sum_by (λ c. parts (expr_of c)) done)
        (parts e + (length xs - k - 1 + parts_beside l)) 64 (none_left (sum_by (λ c. parts (expr_of c)) done) 64 none))

    pub small_some_none : (room : ℕ) → Some room ≡ room_left_by done 64 → None ≡ room_left (parts e) room →
        false ≡ is_small (expr_with l standing)
    small_some_none room some none = sym (small_standing
        ∙ (some_left (sum_by (λ c. parts (expr_of c)) done) (parts e + (length xs - k - 1 + parts_beside l)) 64 room some
        ∙ over_more (parts e) (length xs - k - 1 + parts_beside l) room (none_left (parts e) room none)))

    pub small_some_some : (room left : ℕ) → Some room ≡ room_left_by done 64 → Some left ≡ room_left (parts e) room →
        nat_le (length xs - k - 1 + parts_beside l) left ≡ is_small (expr_with l standing)
    small_some_some room left some more_left = sym (small_standing
        ∙ (some_left (sum_by (λ c. parts (expr_of c)) done) (parts e + (length xs - k - 1 + parts_beside l)) 64 room some
        ∙ some_left (parts e) (length xs - k - 1 + parts_beside l) room left more_left))
