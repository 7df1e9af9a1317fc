-- Lists of opened paths, and how they grow.
use Rattle.std.proofs.Common.{◌≡◌, ℕ, zero, suc, ◌+◌, ◌<◌, ◌≤◌, true, false, ◌⊎◌, inl, inr, List, [], ◌∷◌, ◌++◌, length, Option, Some, None}
use Rattle.std.proofs.Common.{refl, sym, ap, subst, ◌∙◌, arith}
use Rattle.std.specs.Prelude.{slice_get, IsSome, is_some, if◌then◌else◌, unwrap_or}
use Rattle.std.specs.Option.{option_map}
use Rattle.std.specs.Str.{bytes_eq}
use Rattle.std.proofs.lemmas.Slice.Eq.{bytes_eq-Decides}
use Rattle.cord_io.specs.declared.TheConstants.{MAX_LEN}
use Rattle.cord_io.specs.Device.{FileSystem, bytes_at}
use Rattle.cord_file.specs.declared.TheConstants.{MAX_FILES}
use Rattle.cord_file.specs.FileTable.{Opened, lengths_in, table_in, id_from, id_in}
use Rattle.cord_file.specs.Opening.{Grows, Opens}

-- a member stays where it is after more members
pub kept_place : {X Y : Type 0} (f : X → Y) (xs ys : List X) (n : ℕ) → IsSome (option_map f (slice_get xs n)) →
    slice_get (xs ++ ys) n ≡ slice_get xs n
kept_place f [] ys n h = cc
kept_place f (x ∷ xs) ys zero h = refl
kept_place f (x ∷ xs) ys (suc n) h = kept_place f xs ys n h

-- the same of a place inside
pub place_inside : {X : Type 0} (xs ys : List X) (n : ℕ) → n < length xs → slice_get (xs ++ ys) n ≡ slice_get xs n
place_inside [] ys n h = absurd (omega arith)
place_inside (x ∷ xs) ys zero h = refl
place_inside (x ∷ xs) ys (suc n) h = place_inside xs ys n (omega arith)

-- the last member
pub last_place : {X : Type 0} (xs : List X) (x : X) → slice_get (xs ++ x ∷ []) (length xs) ≡ Some x
last_place [] x = refl
last_place (y ∷ xs) x = last_place xs x

-- what a list with one more member has
pub one_more : {X : Type 0} (xs : List X) (x y : X) (n : ℕ) → slice_get (xs ++ x ∷ []) n ≡ Some y → (slice_get xs n ≡ Some y) ⊎ (y ≡ x)
one_more [] x y zero h = inr cc
one_more [] x y (suc n) h = cc
one_more (z ∷ xs) x y zero h = inl h
one_more (z ∷ xs) x y (suc n) h = one_more xs x y n h

-- where the source of a path stands
pub id_place : (m : ℕ) (opened : Opened) (path : List ℕ) (id : ℕ) → id_from m opened path ≡ Some id → (n : ℕ) × (len : ℕ) × (id ≡ m + n) ×
    (slice_get opened n ≡ Some (path, len))
id_place m [] path id h = cc
id_place m (file ∷ files) path id h =
    elim (bytes_eq file.0 path) as (λ v. bytes_eq file.0 path ≡ v → (n : ℕ) × (len : ℕ) × (id ≡ m + n) ×
    (slice_get (file ∷ files) n ≡ Some (path, len))) [
      | true ↦ λ e.
          let same : file.0 ≡ path = (bytes_eq-Decides file.0 path).0 e in
          let h2 = rw e at h in
          let here : m ≡ id = cc in
          (0, file.1, omega (arith, here), ap (λ p. Some (p, file.1)) same)
      | false ↦ λ e.
          let h2 = rw e at h in
          let rest = id_place (suc m) files path id h2 in
          (suc rest.0, rest.1, omega (arith, rest.2), rest.3)
    ] refl

-- a source keeps its id after more sources
pub id_kept : (m : ℕ) (opened more : Opened) (path : List ℕ) (id : ℕ) → id_from m opened path ≡ Some id →
    id_from m (opened ++ more) path ≡ Some id
id_kept m [] more path id h = cc
id_kept m (file ∷ files) more path id h =
    elim (bytes_eq file.0 path) as (λ v. (if v then Some m else id_from (suc m) files path) ≡ Some id →
    (if v then Some m else id_from (suc m) (files ++ more) path) ≡ Some id) [
      | true ↦ λ e. e
      | false ↦ λ e. id_kept (suc m) files more path id e
    ] h

-- a path that wasn't open gets the id after all others
pub id_added : (m : ℕ) (opened : Opened) (path : List ℕ) (len : ℕ) → id_from m opened path ≡ None →
    id_from m (opened ++ (path, len) ∷ []) path ≡ Some (m + length opened)
id_added m [] path len h =
    let same : bytes_eq path path ≡ true = (bytes_eq-Decides path path).1 refl in
    let sum : m ≡ m + 0 = omega arith in
    rw same (ap (λ n. Some n) sum)
id_added m (file ∷ files) path len h =
    elim (bytes_eq file.0 path) as (λ v. (if v then Some m else id_from (suc m) files path) ≡ None →
    (if v then Some m else id_from (suc m) (files ++ (path, len) ∷ []) path) ≡ Some (m + suc (length files))) [
      | true ↦ λ e. cc
      | false ↦ λ e.
          let sum : suc m + length files ≡ m + suc (length files) = omega arith in
          id_added (suc m) files path len e ∙ ap (λ n. Some n) sum
    ] h

-- a table that stays grows
pub grows_same : (opened : Opened) → Grows opened opened
grows_same opened = record { lengths = λ id h. refl; texts = λ file_system id h. refl; ids = λ path id h. h }

lengths_kept : (old more : Opened) (id : ℕ) → IsSome (lengths_in old id) → lengths_in (old ++ more) id ≡ lengths_in old id
lengths_kept old more zero h = refl
lengths_kept old more (suc zero) h = refl
lengths_kept old more (suc (suc n)) h = ap (option_map (λ file. file.1)) (kept_place (λ file. file.1) old more n h)

texts_kept : (old more : Opened) (file_system : FileSystem) (id : ℕ) → IsSome (lengths_in old id) →
    table_in (old ++ more) file_system id ≡ table_in old file_system id
texts_kept old more file_system zero h = refl
texts_kept old more file_system (suc zero) h = refl
texts_kept old more file_system (suc (suc n)) h = ap (λ o. unwrap_or (option_map (λ file. bytes_at file_system file.0) o) [])
    (kept_place (λ file. file.1) old more n h)

-- and so does one with more sources after all
pub grows_after : (old more : Opened) → Grows old (old ++ more)
grows_after old more = record {
  lengths = lengths_kept old more;
  texts = texts_kept old more;
  ids = λ path id h. id_kept 2 old more path id h;
}

grows_by : (old new : Opened) (path : List ℕ) (id len : ℕ) (o : Option ℕ) → id_in old path ≡ o → Opens old new path id len → Grows old new
grows_by old new path id len None e opens = subst (Grows old) (sym (opens.fresh e).1) (grows_after old ((path, len) ∷ []))
grows_by old new path id len (Some n) e opens = subst (Grows old) (sym (opens.again (ap is_some e))) (grows_same old)

-- opening a path grows the table
pub grows_opened : (old new : Opened) (path : List ℕ) (id len : ℕ) → Opens old new path id len → Grows old new
grows_opened old new path id len opens = grows_by old new path id len (id_in old path) refl opens

-- a path that is open stays so
pub opens_again : (opened : Opened) (path : List ℕ) (id len : ℕ) → id_in opened path ≡ Some id → lengths_in opened id ≡ Some len →
    len ≤ MAX_LEN → Opens opened opened path id len
opens_again opened path id len known reported limit = record {
  known = known;
  reported = reported;
  limit = limit;
  again = λ h. refl;
  fresh = λ none. cc;
}

-- a path that isn't is added after all sources
pub opens_after : (old : Opened) (path : List ℕ) (len : ℕ) → id_in old path ≡ None → length old < MAX_FILES → len ≤ MAX_LEN →
    Opens old (old ++ (path, len) ∷ []) path (length old + 2) len
opens_after old path len none room limit =
    let sum : 2 + length old ≡ length old + 2 = omega arith in
    let next : length old + 2 ≡ suc (suc (length old)) = omega arith in
    record {
      known = id_added 2 old path len none ∙ ap (λ n. Some n) sum;
      reported = ap (lengths_in (old ++ (path, len) ∷ [])) next ∙ ap (option_map (λ file. file.1)) (last_place old (path, len));
      limit = limit;
      again = λ h. cc;
      fresh = λ e. (room, refl);
    }

-- a source that is a file stands after the functions
pub is_file : (opened : Opened) (path : List ℕ) (id : ℕ) → id_in opened path ≡ Some id → 2 ≤ id
is_file opened path id h = let place = id_place 2 opened path id h in omega (arith, place.2)
