-- How many paths a script has.
use Rattle.cord_run.proofs.Common.{ℕ, Bool, true, false, List, [], map, length, inl, inr, refl, sym, subst, length-append, arith, Argument}
use Rattle.cord_run.proofs.Common.{Grammar, argument_term, terms_of, AreAllowed, Scope, LinesSay, ReadsBy, after_all, paths_after, start}
use Rattle.cord_run.proofs.Common.{with_path, Statement, File, Eager, Lazy, Catn, Sprintf, ◌≡◌, ◌+◌, ◌<◌, ◌≤◌, ◌⊎◌, ◌∷◌, ◌++◌}
use Rattle.cord_run.proofs.Common.{if◌then◌else◌}
use Rattle.cord_file.specs.declared.TheConstants.{MAX_FILES}
use Rattle.cord_operands.specs.declared.operands.Argument.TheVariants as arguments
use Rattle.cord_script.specs.declared.TheConstants.{MAX_PATHS}
use Rattle.cord_script.specs.declared.kinds.Kind.TheVariants as kinds
use Rattle.cord_script.specs.Forms.Term.{Operand}
use Rattle.cord_script.specs.Script.{after, is_among}

-- names of cords and arguments of a format have no path
names_leave : (names : List (List ℕ)) (paths : List (List ℕ)) → paths_after (map (Operand kinds.Cord) names) paths ≡ paths
names_leave [] paths = refl
names_leave (name ∷ names) paths = names_leave names paths

arguments_leave : (args : List Argument) (paths : List (List ℕ)) → paths_after (map argument_term args) paths ≡ paths
arguments_leave [] paths = refl
arguments_leave (arguments.Number n ∷ args) paths = arguments_leave args paths
arguments_leave (arguments.Cord name ∷ args) paths = arguments_leave args paths

-- a path that is allowed
path_few : (paths : List (List ℕ)) (path : List ℕ) → (is_among paths path ≡ true) ⊎ (length paths < MAX_PATHS) → length paths ≤ MAX_PATHS →
    length (with_path paths path) ≤ MAX_PATHS
path_few paths path (inl h) few = subst (λ (b : Bool). length (if b then paths else paths ++ path ∷ []) ≤ MAX_PATHS) (sym h) few
path_few paths path (inr h) few = by_test (is_among paths path)
  where
    by_test : (b : Bool) → length (if b then paths else paths ++ path ∷ []) ≤ MAX_PATHS
    by_test true = few
    by_test false = omega (arith, length-append paths (path ∷ []), h)

-- the paths after a statement
few_after : (s : Statement) (scope : Scope) → AreAllowed scope (terms_of s) → length scope.paths ≤ MAX_PATHS →
    length (paths_after (terms_of s) scope.paths) ≤ MAX_PATHS
few_after (File line target path) scope allowed few = path_few scope.paths path allowed.1.0 few
few_after (Eager line target path) scope allowed few = path_few scope.paths path allowed.1.0 few
few_after (Lazy line target path) scope allowed few = path_few scope.paths path allowed.1.0 few
few_after (Catn line target parts) scope allowed few = subst (λ (paths : List (List ℕ)). length paths ≤ MAX_PATHS)
    (sym (names_leave parts scope.paths)) few
few_after (Sprintf line target text format args) scope allowed few = subst (λ (paths : List (List ℕ)). length paths ≤ MAX_PATHS)
    (sym (arguments_leave args scope.paths)) few
few_after _ scope allowed few = few

-- and after the lines of a script
few_said : (g : Grammar) (n : ℕ) (scope : Scope) (lines : List (List ℕ)) (ss : List Statement) → LinesSay g n scope lines ss →
    length scope.paths ≤ MAX_PATHS → length (after_all ss scope).paths ≤ MAX_PATHS
few_said g n scope [] ss say few = subst (λ (k : List Statement). length (after_all k scope).paths ≤ MAX_PATHS) (sym say) few
few_said g n scope (line ∷ lines) ss (inl idle) few = few_said g (n + 1) scope lines ss idle.1 few
few_said g n scope (line ∷ lines) ss (inr said) few =
    let s : Statement = said.1 in
    let rest : List Statement = said.3 in
    subst (λ (k : List Statement). length (after_all k scope).paths ≤ MAX_PATHS) (sym said.4)
    (few_said g (n + 1) (after s scope) lines rest said.7 (few_after s scope said.6.allowed few))

pub few_read : (g : Grammar) (b : List ℕ) (ss : List Statement) → ReadsBy g b ss → length (after_all ss start).paths ≤ MAX_FILES
few_read g b ss reads = few_said g 1 start reads.lines ss reads.say (omega arith)
