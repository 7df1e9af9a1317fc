-- A script that is read has closed blocks, and its lines are numbered from 1.
use Rattle.std.specs.Prelude.{◌≡◌, ◌≢◌, ◌<◌, ◌+◌, ◌∷◌}
use Rattle.cord_meaning.proofs.Common.{ℕ, Bool, true, false, List, [], map, refl, sym, subst, inl, inr, arith, All, Statement, Shape}
use Rattle.cord_meaning.proofs.Common.{Otherwise, Close, IsNested, line_of, shape_of}
use Rattle.std.proofs.lemmas.List.Elements.{All-nil, All-cons}
use Rattle.cord_syntax.specs.declared.statements.Statement.TheVariants.{Repeat, If, Else, End}
use Rattle.cord_script.specs.Forms.{Grammar, effect_of}
use Rattle.cord_script.specs.Script as scripts
use Rattle.cord_script.specs.Script.{Scope, LinesSay, ReadsBy, FitsBlocks, blocks_after, after_all}

-- an open block that may have an `else` yet
abbrev may_turn : scripts.Block → Bool
may_turn (scripts.Block.InIf line) = true
may_turn _ = false

abbrev may_turn_each : List scripts.Block → List Bool
may_turn_each blocks = map may_turn blocks

module _ (more : List Shape) where
  ends_block : (blocks : List scripts.Block) → blocks ≢ [] → IsNested (may_turn_each (scripts.closed blocks)) more →
      IsNested (may_turn_each blocks) (Close ∷ more)
  ends_block [] some h = absurd (some refl)
  ends_block (b ∷ blocks) some h = h

  turns_block : (blocks : List scripts.Block) → (line : ℕ) × (rest : List scripts.Block) × (blocks ≡ scripts.Block.InIf line ∷ rest) →
      IsNested (may_turn_each (scripts.turned blocks)) more → IsNested (may_turn_each blocks) (Otherwise ∷ more)
  turns_block blocks (line, rest, is) h =
      subst (λ (bs : List scripts.Block). IsNested (may_turn_each bs) (Otherwise ∷ more)) (sym is)
      (subst (λ (bs : List scripts.Block). IsNested (may_turn_each (scripts.turned bs)) more) is h)

  -- one statement in front
  one_nested : (s : Statement) (blocks : List scripts.Block) → FitsBlocks (effect_of s) blocks →
      IsNested (may_turn_each (blocks_after (effect_of s) (line_of s) blocks)) more → IsNested (may_turn_each blocks) (shape_of s ∷ more)
  one_nested (Repeat line count) blocks fits h = h
  one_nested (If line left relation right) blocks fits h = h
  one_nested (Else line) blocks fits h = turns_block blocks fits h
  one_nested (End line) blocks fits h = ends_block blocks fits h
  one_nested _ blocks fits h = h

module _ (g : Grammar) where
  lines_nested : (lines : List (List ℕ)) (n : ℕ) (scope : Scope) (ss : List Statement) → LinesSay g n scope lines ss →
      (after_all ss scope).blocks ≡ [] → IsNested (may_turn_each scope.blocks) (map shape_of ss)
  lines_nested [] n scope ss none closed =
      let shut : scope.blocks ≡ [] = subst (λ (xs : List Statement). (after_all xs scope).blocks ≡ []) none closed in
      subst (λ (xs : List Statement). IsNested (may_turn_each scope.blocks) (map shape_of xs)) (sym none)
      (subst (λ (bs : List scripts.Block). IsNested (may_turn_each bs) []) (sym shut) tt)
  lines_nested (line ∷ lines) n scope ss (inl (idle, rest)) closed = lines_nested lines (n + 1) scope ss rest closed
  lines_nested (line ∷ lines) n scope ss (inr (busy, s, words, rest, is, has, says, others)) closed =
      let shut : (after_all rest (scripts.after s scope)).blocks ≡ [] =
      subst (λ (xs : List Statement). (after_all xs scope).blocks ≡ []) is closed in
      subst (λ (xs : List Statement). IsNested (may_turn_each scope.blocks) (map shape_of xs)) (sym is)
      (one_nested (map shape_of rest) s scope.blocks says.blocks (lines_nested lines (n + 1) (scripts.after s scope) rest others shut))

  lines_numbered : (lines : List (List ℕ)) (n : ℕ) (scope : Scope) (ss : List Statement) → 0 < n → LinesSay g n scope lines ss →
      All (λ s. 0 < line_of s) ss
  lines_numbered [] n scope ss lt none = subst (λ (xs : List Statement). All (λ s. 0 < line_of s) xs) (sym none)
      (All-nil (λ s. 0 < line_of s))
  lines_numbered (line ∷ lines) n scope ss lt (inl (idle, rest)) = lines_numbered lines (n + 1) scope ss (omega arith) rest
  lines_numbered (line ∷ lines) n scope ss lt (inr (busy, s, words, rest, is, has, says, others)) =
      let first : 0 < line_of s = subst (λ (k : ℕ). 0 < k) (sym says.line) lt in
      subst (λ (xs : List Statement). All (λ s. 0 < line_of s) xs) (sym is)
      (All-cons (λ s. 0 < line_of s) s rest first (lines_numbered lines (n + 1) (scripts.after s scope) rest (omega arith) others))

-- the blocks of a script that is read are closed
pub read_nested : {g : Grammar} (b : List ℕ) (ss : List Statement) → ReadsBy g b ss → IsNested [] (map shape_of ss)
read_nested {g} b ss r = lines_nested g r.lines 1 scripts.start ss r.say r.closed

-- no statement of a script that is read stands at line 0
pub read_numbered : {g : Grammar} (b : List ℕ) (ss : List Statement) → ReadsBy g b ss → All (λ s. 0 < line_of s) ss
read_numbered {g} b ss r = lines_numbered g r.lines 1 scripts.start ss (omega arith) r.say
