-- Lines begin after the ends of those before them.
use Rattle.cord_lines.proofs.Common.{Bool, IsEditOf, List, Some, [], after_ends, ap, arith, cond, drop, drop-append_seam, ends_in, false}
use Rattle.cord_lines.proofs.Common.{get_or, if◌then◌else◌, is_end, is_inside_line, lacks_end, length, length-append, length-drop, lines}
use Rattle.cord_lines.proofs.Common.{lines_as, min, refl, slice_get, subst, suc, sym, take, take-append-drop, true, zero, ℕ, ◌++◌, ◌+◌, ◌-◌}
use Rattle.cord_lines.proofs.Common.{◌<◌, ◌∙◌, ◌∷◌, ◌≡◌, ◌≤◌}
use Rattle.std.proofs.Common.{None, map, add-zero, true≢false}
use Rattle.std.specs.Prelude.{◌||◌, not, option_map, Option}
use Rattle.std.proofs.lemmas.List.{drop_all, drop-map, length-map, take_min}
use Rattle.std.proofs.lemmas.Option.{slice_get_past, slice_get-get_or, slice_get-map}
use Rattle.cord_core.specs.Texts.{IsLast, here_or, last}
use Rattle.cord_core.proofs.Searches.{last_is_greatest}
use Rattle.cord.specs.Lines.{led_by, bare, bare_lines}
use Rattle.cord.specs.Places.{last_before}
use Rattle.cord_lines.proofs.Ends.{ends-cons, none_passed, one_more}

-- the last byte is no end
abbrev open_last : ℕ → List ℕ → Bool
open_last b [] = not (is_end b)
open_last b (c ∷ x) = open_last c x

last_is : (b : ℕ) (x : List ℕ) → not (is_end (get_or (b ∷ x) (length x) 0)) ≡ open_last b x
last_is b [] = refl
last_is b (c ∷ x) = last_is c x

lacks_is : (b : ℕ) (x : List ℕ) → lacks_end (b ∷ x) ≡ open_last b x
lacks_is b x =
    let at : length (b ∷ x) - 1 ≡ length x = omega arith in
    ap (λ (n : ℕ). is_inside_line (slice_get (b ∷ x) n)) at ∙ ap is_inside_line (slice_get-get_or (b ∷ x) (length x) 0 (omega arith)) ∙ last_is b x

-- the first byte leads the first line
more_lines : (b : ℕ) (ls : List (List ℕ)) → 0 < length ls → length (led_by b ls) ≡ length ls
more_lines b [] some = absurd (omega (arith, some))
more_lines b (line ∷ others) some = refl

abbrev unit : Bool → ℕ
unit is = cond is 1 0

one_byte : (b : ℕ) (is : Bool) → is_end b ≡ is → length (lines (b ∷ [])) ≡ ends_in (b ∷ []) + unit (open_last b [])
one_byte b true h = rw h refl
one_byte b false h = rw h refl

more_bytes : (b : ℕ) (x : List ℕ) (ls : List (List ℕ)) (rest : Bool) (is : Bool) → is_end b ≡ is → 0 < length ls → length ls ≡ ends_in x + unit rest →
    length (if is then (b ∷ []) ∷ ls else led_by b ls) ≡ ends_in (b ∷ x) + unit rest
more_bytes b x ls rest true h some e = omega (arith, e, ends-cons b x true h)
more_bytes b x ls rest false h some e = more_lines b ls some ∙ omega (arith, e, ends-cons b x false h)

some_lines : (b : ℕ) (x : List ℕ) (ls : List (List ℕ)) (is : Bool) → 0 < length (if is then (b ∷ []) ∷ ls else led_by b ls)
some_lines b x ls true = omega arith
some_lines b x [] false = omega arith
some_lines b x (line ∷ others) false = omega arith

count_from : (b : ℕ) (x : List ℕ) → length (lines (b ∷ x)) ≡ ends_in (b ∷ x) + unit (open_last b x)
count_from b [] = one_byte b (is_end b) refl
count_from b (c ∷ x) = more_bytes b (c ∷ x) (lines (c ∷ x)) (open_last c x) (is_end b) refl (some_lines c x (lines x) (is_end c)) (count_from c x)

-- as many lines as ends, and one more that lacks its end
pub line_count : (x : List ℕ) → length (lines x) ≡ ends_in x + cond (lacks_end x) 1 0
line_count [] = refl
line_count (b ∷ x) = count_from b x ∙ ap (λ (is : Bool). ends_in (b ∷ x) + unit is) (sym (lacks_is b x))

-- what is said of the n-th line, where the first n ends are passed
pub record IsNth (x : List ℕ) (n : ℕ) : Type 0 where
  pub here : after_ends n x < length x → lines (drop (after_ends n x) x) ≡ drop n (lines x)
  pub none : length x ≤ after_ends n x → length (lines x) ≤ n

drop_led : (n b : ℕ) (ls : List (List ℕ)) → 0 < n → drop n (led_by b ls) ≡ drop n ls
drop_led zero b ls some = absurd (omega (arith, some))
drop_led (suc n) b [] some = drop_all (suc n) ((b ∷ []) ∷ []) (omega arith) ∙ sym (drop_all (suc n) [] (omega arith))
drop_led (suc n) b (line ∷ others) some = refl

led-le : (n b : ℕ) (ls : List (List ℕ)) → 0 < n → length ls ≤ n → length (led_by b ls) ≤ n
led-le n b [] some le = omega (arith, some)
led-le n b (line ∷ others) some le = omega (arith, le)

lines_by : (b : ℕ) (x : List ℕ) (is : Bool) → is_end b ≡ is → lines (b ∷ x) ≡ (if is then (b ∷ []) ∷ lines x else led_by b (lines x))
lines_by b x is h = ap (λ (w : Bool). if w then (b ∷ []) ∷ lines x else led_by b (lines x)) h

nth_step : (n b : ℕ) (x : List ℕ) (is : Bool) → is_end b ≡ is → 0 < n → ((m : ℕ) → IsNth x m) → IsNth (b ∷ x) n
nth_step n b x true h some later =
    let r = later (n - 1) in
    let k = after_ends (n - 1) x in
    let past : after_ends n (b ∷ x) ≡ suc k = one_more n x b true h some ∙ omega arith in
    let at : n ≡ suc (n - 1) = omega (arith, some) in
    let all : lines (b ∷ x) ≡ (b ∷ []) ∷ lines x = lines_by b x true h in
    record {
      here = λ lt. ap (λ (m : ℕ). lines (drop m (b ∷ x))) past ∙ r.here (omega (arith, past, lt))
          ∙ sym (ap (λ (ls : List (List ℕ)). drop n ls) all ∙ ap (λ (m : ℕ). drop m ((b ∷ []) ∷ lines x)) at);
      none = λ le. omega (arith, ap (λ (ls : List (List ℕ)). length ls) all, r.none (omega (arith, past, le)), some);
    }
nth_step n b x false h some later =
    let r = later n in
    let k = after_ends n x in
    let past : after_ends n (b ∷ x) ≡ suc k = one_more n x b false h some ∙ omega arith in
    let all : lines (b ∷ x) ≡ led_by b (lines x) = lines_by b x false h in
    record {
      here = λ lt. ap (λ (m : ℕ). lines (drop m (b ∷ x))) past ∙ r.here (omega (arith, past, lt))
          ∙ sym (ap (λ (ls : List (List ℕ)). drop n ls) all ∙ drop_led n b (lines x) some);
      none = λ le. omega (arith, ap (λ (ls : List (List ℕ)). length ls) all, led-le n b (lines x) some (r.none (omega (arith, past, le))));
    }

pub nth : (x : List ℕ) (n : ℕ) → IsNth x n
nth [] n = record { here = λ lt. absurd (omega (arith, lt)); none = λ le. omega arith }
nth (b ∷ x) zero = record { here = λ lt. refl; none = λ le. absurd (omega (arith, le)) }
nth (b ∷ x) (suc n) = nth_step (suc n) b x (is_end b) refl (omega arith) (λ m. nth x m)

led_first : (b : ℕ) (ls : List (List ℕ)) (line : List ℕ) → slice_get ls 0 ≡ Some line → slice_get (led_by b ls) 0 ≡ Some (b ∷ line)
led_first b [] line e = cc
led_first b (l ∷ others) line e = let same : l ≡ line = cc in ap (λ (y : List ℕ). Some (b ∷ y)) same

-- an element after the first n
get_drop : {X : Type 0} (n i : ℕ) (x : List X) → slice_get (drop n x) i ≡ slice_get x (n + i)
get_drop zero i x = ap (λ (k : ℕ). slice_get x k) (let e : i ≡ 0 + i = omega arith in e)
get_drop (suc n) i [] = slice_get_past [] i (omega arith) ∙ sym (slice_get_past [] (suc n + i) (omega arith))
get_drop (suc n) i (b ∷ x) = get_drop n i x ∙ ap (λ (k : ℕ). slice_get (b ∷ x) k) (let e : suc (n + i) ≡ suc n + i = omega arith in e)

pub get_after : (n : ℕ) (ls : List (List ℕ)) (line : List ℕ) → slice_get (drop n ls) 0 ≡ Some line → slice_get ls n ≡ Some line
get_after n ls line e = ap (λ (k : ℕ). slice_get ls k) (sym (add-zero n)) ∙ sym (get_drop n 0 ls) ∙ e

-- the first line ends after the first k bytes, and what it is without its end
pub record IsFirst (x : List ℕ) (k : ℕ) : Type 0 where
  pub some : 0 < k
  pub line : slice_get (lines x) 0 ≡ Some (take k x)
  pub ended : is_inside_line (slice_get x (k - 1)) ≡ false → bare (take k x) ≡ take (k - 1) x
  pub unended : is_inside_line (slice_get x (k - 1)) ≡ true → bare (take k x) ≡ take k x

bare_by : (b : ℕ) (line : List ℕ) (is : Bool) → is_end b ≡ is → bare (b ∷ line) ≡ (if is then [] else b ∷ bare line)
bare_by b line is h = ap (λ (w : Bool). if w then [] else b ∷ bare line) h

first_by : (b : ℕ) (x : List ℕ) (is : Bool) → is_end b ≡ is →
    slice_get (lines (b ∷ x)) 0 ≡ slice_get (if is then (b ∷ []) ∷ lines x else led_by b (lines x)) 0
first_by b x is h = ap (λ (ls : List (List ℕ)). slice_get ls 0) (lines_by b x is h)

first_step : (b : ℕ) (x : List ℕ) (is : Bool) → is_end b ≡ is → (0 < length x → IsFirst x (after_ends 1 x)) → IsFirst (b ∷ x) (after_ends 1 (b ∷ x))
first_step b x true h later =
    let past : after_ends 1 (b ∷ x) ≡ 1 = one_more 1 x b true h (omega arith) ∙ ap (λ (k : ℕ). 1 + k) (none_passed x) in
    subst (λ (k : ℕ). IsFirst (b ∷ x) k) (sym past) (record {
      some = omega arith;
      line = first_by b x true h;
      ended = λ e. bare_by b [] true h;
      unended = λ e. absurd (true≢false (sym e ∙ ap not h));
    })
first_step b [] false h later =
    let past : after_ends 1 (b ∷ []) ≡ 1 = one_more 1 [] b false h (omega arith) in
    subst (λ (k : ℕ). IsFirst (b ∷ []) k) (sym past) (record {
      some = omega arith;
      line = first_by b [] false h;
      ended = λ e. absurd (true≢false (sym (ap not h) ∙ e));
      unended = λ e. bare_by b [] false h;
    })
first_step b (c ∷ x) false h later =
    let r = later (omega arith) in
    let k = after_ends 1 (c ∷ x) in
    let past : after_ends 1 (b ∷ c ∷ x) ≡ suc k = one_more 1 (c ∷ x) b false h (omega arith) ∙ omega arith in
    let less : suc k - 1 ≡ suc (k - 1) = omega (arith, r.some) in
    let same : slice_get (b ∷ c ∷ x) (suc k - 1) ≡ slice_get (c ∷ x) (k - 1) = ap (λ (n : ℕ). slice_get (b ∷ c ∷ x) n) less in
    let line : bare (take (suc k) (b ∷ c ∷ x)) ≡ b ∷ bare (take k (c ∷ x)) = bare_by b (take k (c ∷ x)) false h in
    subst (λ (n : ℕ). IsFirst (b ∷ c ∷ x) n) (sym past) (record {
      some = omega arith;
      line = first_by b (c ∷ x) false h ∙ led_first b (lines (c ∷ x)) (take k (c ∷ x)) r.line;
      ended = λ e. line ∙ ap (λ (y : List ℕ). b ∷ y) (r.ended (sym (ap is_inside_line same) ∙ e)) ∙ ap (λ (n : ℕ). take n (b ∷ c ∷ x)) (sym less);
      unended = λ e. line ∙ ap (λ (y : List ℕ). b ∷ y) (r.unended (sym (ap is_inside_line same) ∙ e));
    })

first_line : (x : List ℕ) → 0 < length x → IsFirst x (after_ends 1 x)
first_line [] some = absurd (omega (arith, some))
first_line (b ∷ x) some = first_step b x (is_end b) refl (first_line x)

-- the first line ends there, with its end or without it
first_as : (with_end inside : Bool) (x : List ℕ) → 0 < length x → is_inside_line (slice_get x (after_ends 1 x - 1)) ≡ inside →
    slice_get (lines_as with_end x) 0 ≡ Some (take (if with_end || inside then after_ends 1 x else after_ends 1 x - 1) x)
first_as true inside x some e = (first_line x some).line
first_as false true x some e =
    slice_get-map bare (lines x) 0 ∙ ap (option_map bare) (first_line x some).line ∙ ap (λ (y : List ℕ). Some y) ((first_line x some).unended e)
first_as false false x some e =
    slice_get-map bare (lines x) 0 ∙ ap (option_map bare) (first_line x some).line ∙ ap (λ (y : List ℕ). Some y) ((first_line x some).ended e)

-- lines with their ends or without
pub as_drop : (with_ends : Bool) (n : ℕ) (x y : List ℕ) → lines y ≡ drop n (lines x) → lines_as with_ends y ≡ drop n (lines_as with_ends x)
as_drop true n x y e = e
as_drop false n x y e = ap (map bare) e ∙ sym (drop-map bare n (lines x))

pub as_none : (with_ends : Bool) (n : ℕ) (x : List ℕ) → length (lines x) ≤ n → slice_get (lines_as with_ends x) n ≡ None
as_none true n x le = slice_get_past (lines x) n le
as_none false n x le = slice_get_past (bare_lines x) n (omega (arith, length-map (lines x) bare, le))

-- the first line of what is left
pub later : (x : List ℕ) (start : ℕ) → start < length x → 0 < after_ends 1 (drop start x)
later x start lt = (first_line (drop start x) (omega (arith, length-drop start x, lt))).some

end_as : (whole : Bool) (k start end : ℕ) → end ≡ start + k → 0 < k → (if whole then k else k - 1) ≡ (if whole then end else end - 1) - start
end_as true k start end e some = omega arith
end_as false k start end e some = omega arith

pub line_from : (with_end inside : Bool) (x : List ℕ) (start end : ℕ) → start < length x → end ≡ start + after_ends 1 (drop start x) →
    inside ≡ is_inside_line (slice_get x (end - 1)) →
    slice_get (lines_as with_end (drop start x)) 0 ≡ Some (take ((if with_end || inside then end else end - 1) - start) (drop start x))
line_from with_end inside x start end lt e is =
    let y = drop start x in
    let k = after_ends 1 y in
    let some = later x start lt in
    let there : start + (k - 1) ≡ end - 1 = omega (arith, e, some) in
    first_as with_end inside y (omega (arith, length-drop start x, lt))
    (ap is_inside_line (get_drop start (k - 1) x ∙ ap (λ (n : ℕ). slice_get x n) there) ∙ sym is)
    ∙ ap (λ (n : ℕ). Some (take n y)) (end_as (with_end || inside) k start end e some)

lacks_last : (x z : List ℕ) → 0 < length z → lacks_end (x ++ z) ≡ lacks_end z
lacks_last x z some =
    let last : length (x ++ z) - 1 ≡ length x + (length z - 1) = omega (arith, some, length-append x z) in
    ap (λ (n : ℕ). is_inside_line (slice_get (x ++ z) n)) last
    ∙ ap is_inside_line (sym (get_drop (length x) (length z - 1) (x ++ z)) ∙ ap (λ (y : List ℕ). slice_get y (length z - 1)) (drop-append_seam x z))

-- an edit before the last byte
pub keeps_end : (before after : List ℕ) (start removed inserted : ℕ) (e : IsEditOf before after start removed inserted) →
    start + removed < length before → lacks_end before ≡ lacks_end after
keeps_end before after start removed inserted e lt =
    let z = drop (start + removed) before in
    let some : 0 < length z = omega (arith, lt, length-drop (start + removed) before) in
    ap lacks_end (sym (take-append-drop (start + removed) before)) ∙ lacks_last (take (start + removed) before) z some
    ∙ sym (ap lacks_end e.text ∙ lacks_last (take start before ++ e.fresh) z some)

-- there is no byte in no bytes
no_byte : (n b : ℕ) → slice_get [] n ≡ Some b → ⊥
no_byte n b at = let none : None ≡ Some b = sym (slice_get_past {X = ℕ} [] n (omega arith)) ∙ at in cc

-- a byte more
ends_next : (n : ℕ) (x : List ℕ) (b : ℕ) → slice_get x n ≡ Some b → ends_in (take (suc n) x) ≡ ends_in (take n x) + cond (is_end b) 1 0
ends_next n [] b at = absurd (no_byte n b at)
ends_next zero (a ∷ x) b at =
    let same : a ≡ b = cc in
    omega (arith, ends-cons a [] (is_end a) refl, ap (λ (c : ℕ). unit (is_end c)) same)
ends_next (suc n) (a ∷ x) b at =
    omega (arith, ends-cons a (take (suc n) x) (is_end a) refl, ends-cons a (take n x) (is_end a) refl, ends_next n x b at)

-- an end more, after which the next line begins
begins_more : (a n k : ℕ) (x : List ℕ) (is : Bool) → is_end a ≡ is → 0 < k → after_ends k x ≡ suc n → after_ends (cond is 1 0 + k) (a ∷ x) ≡ suc (suc n)
begins_more a n k x true h some past =
    one_more (1 + k) x a true h (omega arith) ∙ ap (λ (m : ℕ). 1 + after_ends m x) (let e : 1 + k - 1 ≡ k = omega arith in e)
    ∙ ap (λ (m : ℕ). 1 + m) past ∙ omega arith
begins_more a n k x false h some past =
    one_more (0 + k) x a false h (omega (arith, some)) ∙ ap (λ (m : ℕ). 1 + after_ends m x) (let e : 0 + k ≡ k = omega arith in e)
    ∙ ap (λ (m : ℕ). 1 + m) past ∙ omega arith

begins_after : (n : ℕ) (x : List ℕ) (b : ℕ) → slice_get x n ≡ Some b → is_end b ≡ true → after_ends (ends_in (take (suc n) x)) x ≡ suc n
begins_after n [] b at h = absurd (no_byte n b at)
begins_after zero (a ∷ x) b at h =
    let same : a ≡ b = cc in
    let end : is_end a ≡ true = ap is_end same ∙ h in
    let one : ends_in (a ∷ []) ≡ 1 = omega (arith, ends-cons a [] true end) in
    ap (λ (n : ℕ). after_ends n (a ∷ x)) one ∙ one_more 1 x a true end (omega arith) ∙ ap (λ (n : ℕ). 1 + n) (none_passed x)
begins_after (suc n) (a ∷ x) b at h =
    let k = ends_in (take (suc n) x) in
    let some : 0 < k = omega (arith, ends_next n x b at, ap unit h) in
    ap (λ (m : ℕ). after_ends m (a ∷ x)) (ends-cons a (take (suc n) x) (is_end a) refl)
    ∙ begins_more a n k x (is_end a) refl some (begins_after n x b at h)

abbrev pub begin_of : Option ℕ → ℕ
begin_of None = 0
begin_of (Some place) = place + 1

last_step : (n : ℕ) (x : List ℕ) (b : ℕ) (is : Bool) (others : Option ℕ) → slice_get x n ≡ Some b → is_end b ≡ is →
    after_ends (ends_in (take n x)) x ≡ begin_of others → after_ends (ends_in (take (suc n) x)) x ≡ begin_of (if is then Some n else others)
last_step n x b true others at h before = begins_after n x b at h ∙ omega arith
last_step n x b false others at h before =
    let same : ends_in (take (suc n) x) ≡ ends_in (take n x) = omega (arith, ends_next n x b at, ap unit h) in
    ap (λ (k : ℕ). after_ends k x) same ∙ before

last_byte : (n : ℕ) (x : List ℕ) (others : Option ℕ) → n < length x → after_ends (ends_in (take n x)) x ≡ begin_of others →
    after_ends (ends_in (take (suc n) x)) x ≡ begin_of (here_or n (slice_get x n) 10 others)
last_byte n x others lt before =
    let b = get_or x n 0 in
    let at : slice_get x n ≡ Some b = slice_get-get_or x n 0 lt in
    last_step n x b (is_end b) others at refl before ∙ ap (λ (o : Option ℕ). begin_of (here_or n o 10 others)) (sym at)

last_to : (n : ℕ) (x : List ℕ) → n < length x → after_ends (ends_in (take (suc n) x)) x ≡ begin_of (last x n 10)
last_to zero x lt = last_byte zero x None lt (none_passed x)
last_to (suc n) x lt = last_byte (suc n) x (last x n 10) lt (last_to n x (omega (arith, lt)))

-- the line of a place begins after the last end before it
pub last_begins : (place : ℕ) (x : List ℕ) → place ≤ length x → after_ends (ends_in (take place x)) x ≡ begin_of (last_before x place 10)
last_begins zero x le = none_passed x
last_begins (suc n) x le = last_to n x (omega (arith, le))

-- and so there or before it
begin_le : (x : List ℕ) (n : ℕ) → begin_of (last_before x n 10) ≤ n
begin_le x zero = omega arith
begin_le x (suc n) = at (last x n 10) (last_is_greatest x 10 n)
  where
    at : (r : Option ℕ) → IsLast x n 10 r → begin_of r ≤ suc n
    at None h = omega arith
    at (Some p) h = omega (arith, h.0)

pub begins_before : (place : ℕ) (x : List ℕ) → after_ends (ends_in (take place x)) x ≤ min place (length x)
begins_before place x =
    let m : ℕ = min place (length x) in
    omega (arith, ap (λ (y : List ℕ). after_ends (ends_in y) x) (take_min place x), last_begins m x (omega arith), begin_le x m)
