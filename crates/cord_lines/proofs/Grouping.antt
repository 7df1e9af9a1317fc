-- The sums of groups, made one after another.
use Rattle.cord_lines.proofs.Common.{AreSumsOf, Counts, List, [], append-nil, append_assoc, drop, length, take, total_by, ◌++◌, ◌<◌, ◌∷◌}
use Rattle.cord_lines.proofs.Common.{◌≡◌}

module _ {A : Type 0} (part : A → Counts) where
  -- whatever sums the rest has, with those made they are all
  pub record GroupsSoFar (sums : List Counts) (bs rest : List A) : Type 0 where
    pub all : (more : List Counts) → AreSumsOf part more rest → AreSumsOf part (sums ++ more) bs

  pub none_so_far : (bs : List A) → GroupsSoFar [] bs bs
  none_so_far bs = record { all = λ more s. s }

  pub one_group_more : (sums : List Counts) (bs rest : List A) (sum : Counts) (new : List A) → GroupsSoFar sums bs rest → 0 < length rest →
      sum ≡ total_by part (take 64 rest) → new ≡ drop 64 rest → GroupsSoFar (sums ++ sum ∷ []) bs new
  one_group_more sums bs rest sum new g some e f = record {
    all = λ more s. rw append_assoc (g.all (sum ∷ more) (e, some, rw f at s));
  }

  pub groups_done : (sums : List Counts) (bs rest : List A) → GroupsSoFar sums bs rest → rest ≡ [] → AreSumsOf part sums bs
  groups_done sums bs rest g none = let all = g.all [] none in rw append-nil at all
