-- What the lines before a line leave, what its words give after them, and what is wrong with it.
use Rattle.std.specs.Prelude.{◌∷◌, ◌≡◌, ◌⊎◌, ◌++◌, ◌==◌}
use Rattle.cord_script.specs.inner.Common.{ℕ, List, [], map, RefusalKind, Scope, Block, Option, Some, None, Known, Verb, Word, Statement}
use Rattle.cord_script.specs.inner.Common.{HasWord, HasWords, Effect, Term, word_of, terms_of, effect_of, IsTerm, IsAllowed, Suits}
use Rattle.cord_script.specs.inner.Common.{with_name, with_path, names_after, paths_after, blocks_after, option_to_list, IsIdle}
use Rattle.cord_script.specs.inner.Common.{HasBadBytes, Says, whole, after, length, Want}
use Rattle.cord_script.specs.declared.blocks.Open.{Open}
use Rattle.cord_script.specs.declared.context.Context.{Context}
use Rattle.cord_script.specs.Script.Block.{InRepeat, InIf, InElse}
use Rattle.cord_script.specs.FirstErrors.{IsLeftOpen, HasBadWords, first_of, unless, misfit, first_misfit, operand_error, word_target_error}
use Rattle.cord_script.specs.FirstErrors.{word_path_error, names_error, block_error}
use Rattle.cord_syntax.specs.Lines.{line_of}
use Rattle.cord_script.specs.inner.Verbal.{verb_word, verb_effect}
use Rattle.cord_script.specs.declared.errors.Pass.{Pass}
use Rattle.cord_script.specs.declared.refusals.RefusalKind.TheVariants.{WrongCount}
use Rattle.cord_script.specs.declared.blocks.Open.TheVariants as blocks
use Rattle.cord_script.specs.declared.errors.Pass.TheVariants as passes

-- an open block
abbrev pub block_of : Open → Block
block_of (blocks.Repeat line) = InRepeat line
block_of (blocks.If line) = InIf line
block_of (blocks.Else line) = InElse line

-- the innermost open block is reported so at the end of a script
abbrev pub IsInnermostOpen : List Block → ℕ → RefusalKind → Type 0
IsInnermostOpen [] n kind = ⊥
IsInnermostOpen (block ∷ blocks) n kind = IsLeftOpen block n kind

-- what the lines before leave
abbrev pub scope_of : Context → Scope
scope_of left = record { names = left.names; paths = left.paths.items; blocks = map block_of left.blocks.items }

-- what the lines before leave, what of the line is still to be read, and what its words add
pub record LineView : Type 0 where
  pub scope : Scope
  pub rest : List ℕ
  pub name : Option Known
  pub path : Option (List ℕ)

-- no word has added anything
pub record IsFresh (v : LineView) : Type 0 where
  pub name : v.name ≡ None
  pub path : v.path ≡ None

-- the names with what a line adds
abbrev pub names_with : List Known → Option Known → List Known
names_with names None = names
names_with names (Some known) = with_name names known.name known.kind

-- the paths with what a line adds
abbrev pub paths_with : List (List ℕ) → Option (List ℕ) → List (List ℕ)
paths_with paths None = paths
paths_with paths (Some path) = with_path paths path

-- what a line leaves that does this to the blocks, and adds a name and a path
abbrev pub left_after : Effect → ℕ → Option Known → Option (List ℕ) → Scope → Scope
left_after effect n name path scope = record {
  names = names_with scope.names name;
  paths = paths_with scope.paths path;
  blocks = blocks_after effect n scope.blocks;
}

-- one word was read
pub record PassesWord (old : LineView) (word : Word) (new : LineView) : Type 0 where
  pub has : HasWord old.rest word new.rest
  pub scope : new.scope ≡ old.scope
  pub name : new.name ≡ old.name
  pub path : new.path ≡ old.path

-- one word was read, which says a term that is allowed; what the term adds was added
pub record GivesTerm (old : LineView) (t : Term) (new : LineView) : Type 0 where
  pub word : Word
  pub has : HasWord old.rest word new.rest
  pub says : IsTerm word t
  pub allowed : IsAllowed old.scope t
  pub scope : new.scope ≡ old.scope
  pub names : names_with old.scope.names new.name ≡ names_after (t ∷ []) (names_with old.scope.names old.name)
  pub paths : paths_with old.scope.paths new.path ≡ paths_after (t ∷ []) (paths_with old.scope.paths old.path)

-- words were read that say these terms, one after another
unfoldable pub GivesAll : LineView → List Term → LineView → Type 0
GivesAll a [] b = a ≡ b
GivesAll a (t ∷ ts) b = (c : LineView) × GivesTerm a t c × GivesAll c ts b

-- a statement of the verb at the line, of the words that were read
pub record IsStatementBuilt (verb : Verb) (line : ℕ) (old new : LineView) (s : Statement) : Type 0 where
  pub word : word_of s ≡ verb_word verb
  pub effect : effect_of s ≡ verb_effect verb
  pub numbered : line_of s ≡ line
  pub fields : GivesAll old (terms_of s) new
  pub suits : Suits s

-- a line without a statement changes nothing; one with a statement has words that say it
abbrev pub ReadsLine : ℕ → List ℕ → Scope → Scope → Option Statement → Type 0
ReadsLine n line old new None = IsIdle line × (new ≡ old)
ReadsLine n line old new (Some s) =
    (¬ IsIdle line) × (words : List Word) × HasWords line words × Says whole n old words s × (after s old ≡ new)

-- the statement of a line, if it has one, is added to the others
abbrev pub TakesLine : ℕ → List ℕ → Scope → Scope → List Statement → List Statement → Type 0
TakesLine n line old new ss grown = (found : Option Statement) × ReadsLine n line old new found × (grown ≡ ss ++ option_to_list found)

-- what is wrong with a line after the lines before it
abbrev pub HasWrong : List ℕ → Scope → RefusalKind → Type 0
HasWrong line scope kind = (¬ IsIdle line) × (HasBadBytes line kind ⊎
    ((words : List Word) × HasWords line words × HasBadWords whole scope words kind))

-- what is wrong with a word in a pass
abbrev pub pair_error : Pass → Scope → Want → Word → Option RefusalKind
pair_error passes.Words scope = misfit
pair_error passes.Operands scope = operand_error scope.names
pair_error passes.Target scope = word_target_error scope.names
pair_error passes.Path scope = word_path_error scope.paths

-- what is wrong first with words where this is wanted: their number, the words by themselves, the names, the blocks
abbrev pub wanted_error : Effect → Scope → List Want → List Word → Option RefusalKind
wanted_error effect scope xs ws = first_of (unless (length ws == length xs) WrongCount)
    (first_of (first_misfit xs ws)
    (first_of (names_error scope xs ws) (block_error effect scope.blocks)))
