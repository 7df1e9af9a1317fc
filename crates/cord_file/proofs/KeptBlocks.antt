-- Blocks that are kept in a cache.
use Rattle.std.proofs.Common.{◌≡◌, Bool, List, [], ◌∷◌, ◌⊎◌, inl, inr, Contains, Some, Result, Ok, Err, subst}
use Rattle.std.specs.Prelude.{OnOk, OnErr, slice_get}
use Rattle.std.specs.Map.{lookup}
use Rattle.cord_file.specs.declared.blocks.BlockKey.{BlockKey}
use Rattle.cord_file.specs.Blocks.{Slotted}
use Rattle.lru.specs.LruCache.{LruCache, lru_cache, promoted, put_entries}
use Rattle.lru.proofs.Splits.{Contains-head}
use Rattle.lru.proofs.CallerLemmas.{IsPut, Contains-promoted, Contains-lookup, Contains-put_entries}

-- the first member is one
pub first_there : {X : Type 0} (xs : List X) (x : X) → Some x ≡ slice_get xs 0 → Contains xs x
first_there [] x h = cc
first_there (y ∷ ys) x h = let same : y ≡ x = cc in subst (Contains (y ∷ ys)) same (Contains-head y ys)

-- a kept block is one under its key
pub under_key : (entries : List Slotted) (e : Slotted) (key : BlockKey) → Contains entries e → e.1.0 ≡ key →
    Contains entries (e.0, (key, e.1.1))
under_key entries e key h same = subst (λ k. Contains entries (e.0, (k, e.1.1))) same h

module _ {K V : Type 0} (eq : K → K → Bool) where
  -- the value that was put, or a pair that was there
  put_or_there : (cache : LruCache K V) (key : K) (value : V) (e : K × V) → Contains cache.entries e ⊎ IsPut eq cache key value e →
      Contains cache.entries e ⊎ (e.1 ≡ value)
  put_or_there cache key value e (inl was) = inl was
  put_or_there cache key value e (inr put) = inr put.0

  -- each pair after one was put was there, or has the value that was put
  pub there_after_put : {A E : Type 0} (r : Result A E) (old new : LruCache K V) (key : K) (value : V) →
      OnOk r (new ≡ lru_cache (put_entries eq old key value) old.cap) → OnErr r (new ≡ old) → (e : K × V) → Contains new.entries e →
      Contains old.entries e ⊎ (e.1 ≡ value)
  there_after_put (Ok x) old new key value is stays e h = put_or_there old key value e
      (Contains-put_entries eq old key value e (subst (λ c. Contains c.entries e) is h))
  there_after_put (Err x) old new key value is stays e h = inl (subst (λ c. Contains c.entries e) stays h)

  -- what is found under a key is in a pair
  pub there_found : (entries : List (K × V)) (key : K) (value : V) → lookup (eq key) entries ≡ Some value →
      (k : K) × Contains entries (k, value)
  there_found entries key value h = let at = Contains-lookup (eq key) entries value h in (at.0, at.1)

  -- each pair after a look-up was there
  pub there_before : (old new : LruCache K V) (key : K) → new ≡ lru_cache (promoted (eq key) old.entries) old.cap → (e : K × V) →
      Contains new.entries e → Contains old.entries e
  there_before old new key is e h = Contains-promoted (eq key) old.entries e (subst (λ c. Contains c.entries e) is h)
