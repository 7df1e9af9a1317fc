-- What a script's bytes say: kinds of names, paths, open blocks, statements.
use Rattle.std.specs.Prelude.{◌≡◌, ◌≢◌, ℕ, ◌+◌, ◌<◌, ◌≤◌, ◌⊎◌, List, [], ◌∷◌, ◌++◌, map, length, Bool, true, false, not, ◌||◌, Option, Some}
use Rattle.std.specs.Prelude.{None, is_some, if◌then◌else◌}
use Rattle.std.specs.Str.{bytes_eq}
use Rattle.cord_printf.specs.Format.{IsFormat}
use Rattle.cord_script.specs.declared.TheConstants.{MAX_SCRIPT, MAX_LINES, MAX_NAMES, MAX_PATHS, MAX_BLOCKS, MIN_PARTS, MAX_PARTS}
use Rattle.cord_script.specs.declared.kinds.Kind.{Kind}
use Rattle.cord_script.specs.declared.kinds.Kind.TheVariants as kinds
use Rattle.cord_operands.specs.declared.operands.Number.TheVariants as numbers
use Rattle.cord_script.specs.declared.table.Known.{Known}
use Rattle.cord_script.specs.declared.words.Word.{Word}
use Rattle.cord_script.specs.declared.words.Word.TheVariants.{Plain, Quoted}
use Rattle.cord_syntax.specs.declared.statements.Statement.{Statement}
use Rattle.cord_syntax.specs.declared.statements.Statement.TheVariants.{Catn, Sprintf}
use Rattle.cord_script.specs.Words.{IsSplit, IsIdle, HasWords}
use Rattle.cord_script.specs.Tests.{is_name, numeral_of, is_path, function_word, relation_word}
use Rattle.cord_script.specs.Formats.{wants_of_pieces}
use Rattle.cord_syntax.specs.Lines.{line_of}
use Rattle.cord_script.specs.Forms.{Grammar, Effect, Term, word_of, terms_of, effect_of, argument_want, is_branch}
use Rattle.cord_script.specs.Forms.Effect.{Stays, OpensRepeat, OpensIf, Turns, Closes}
use Rattle.cord_script.specs.Forms.Term.{Target, Operand, Value, Literal, FilePath, Applies, Compares, Formats}

-- An open block, with the line of its `repeat` or `if`: a `repeat`, an `if`, an `if` that had its `else`.
pub data Block : Type 0 where
  InRepeat : ℕ → Block
  InIf : ℕ → Block
  InElse : ℕ → Block

-- What the lines before a line leave: the names with their kinds, in the order of their first assignment, the
-- distinct paths, and the open blocks, the innermost first.
pub record Scope : Type 0 where
  pub names : List Known
  pub paths : List (List ℕ)
  pub blocks : List Block

-- before the first line
abbrev pub start : Scope
start = record { names = []; paths = []; blocks = [] }

-- The kind of a name is that of the first line that assigns it.
abbrev pub kind_of : List Known → List ℕ → Option Kind
kind_of [] name = None
kind_of (k ∷ ks) name = if bytes_eq k.name name then Some k.kind else kind_of ks name

abbrev pub is_among : List (List ℕ) → List ℕ → Bool
is_among [] path = false
is_among (p ∷ ps) path = bytes_eq p path || is_among ps path

-- with a name that is assigned
abbrev pub with_name : List Known → List ℕ → Kind → List Known
with_name names name kind = if is_some (kind_of names name) then names else names ++ record { name = name; kind = kind } ∷ []

-- with a path that stands in a line
abbrev pub with_path : List (List ℕ) → List ℕ → List (List ℕ)
with_path paths path = if is_among paths path then paths else paths ++ path ∷ []

-- the names after the words of a line
abbrev pub names_after : List Term → List Known → List Known
names_after [] names = names
names_after (Target kind name ∷ ts) names = names_after ts (with_name names name kind)
names_after (_ ∷ ts) names = names_after ts names

-- the paths after the words of a line
abbrev pub paths_after : List Term → List (List ℕ) → List (List ℕ)
paths_after [] paths = paths
paths_after (FilePath path ∷ ts) paths = paths_after ts (with_path paths path)
paths_after (_ ∷ ts) paths = paths_after ts paths

-- An `else` turns the innermost `if`.
abbrev pub turned : List Block → List Block
turned (InIf line ∷ blocks) = InElse line ∷ blocks
turned blocks = blocks

-- An `end` closes the innermost block.
abbrev pub closed : List Block → List Block
closed [] = []
closed (block ∷ blocks) = blocks

-- the open blocks after a statement at a line
abbrev pub blocks_after : Effect → ℕ → List Block → List Block
blocks_after Stays line blocks = blocks
blocks_after OpensRepeat line blocks = InRepeat line ∷ blocks
blocks_after OpensIf line blocks = InIf line ∷ blocks
blocks_after Turns line blocks = turned blocks
blocks_after Closes line blocks = closed blocks

-- what a statement leaves
abbrev pub after : Statement → Scope → Scope
after s scope = record {
  names = names_after (terms_of s) scope.names;
  paths = paths_after (terms_of s) scope.paths;
  blocks = blocks_after (effect_of s) (line_of s) scope.blocks;
}

abbrev pub after_all : List Statement → Scope → Scope
after_all [] scope = scope
after_all (s ∷ ss) scope = after_all ss (after s scope)

-- A word says this: a name; a numeral or a name; a quoted text, path or format; the word of a function or relation.
abbrev pub IsTerm : Word → Term → Type 0
IsTerm w (Target kind name) = (w ≡ Plain name) × (is_name name ≡ true)
IsTerm w (Operand kind name) = (w ≡ Plain name) × (is_name name ≡ true)
IsTerm w (Value (numbers.Numeral v)) = (p : List ℕ) × (w ≡ Plain p) × (numeral_of p ≡ Some v)
IsTerm w (Value (numbers.Named name)) = (w ≡ Plain name) × (is_name name ≡ true)
IsTerm w (Literal text) = w ≡ Quoted text
IsTerm w (FilePath path) = (w ≡ Quoted path) × (is_path path ≡ true)
IsTerm w (Applies function) = w ≡ Plain (function_word function)
IsTerm w (Compares relation) = w ≡ Plain (relation_word relation)
IsTerm w (Formats text) = w ≡ Quoted text

-- the words say these, one each
abbrev pub AreTerms : List Word → List Term → Type 0
AreTerms [] [] = Unit {0}
AreTerms [] (t ∷ ts) = ⊥
AreTerms (w ∷ ws) [] = ⊥
AreTerms (w ∷ ws) (t ∷ ts) = IsTerm w t × AreTerms ws ts

-- An operand that is a name is assigned by an earlier line and has the wanted kind; a target has it, or is new where
-- fewer than 256 names are known; a path is known, or new where fewer than 64 are.
abbrev pub IsAllowed : Scope → Term → Type 0
IsAllowed scope (Target kind name) = (kind_of scope.names name ≡ Some kind) ⊎
    ((kind_of scope.names name ≡ None) × (length scope.names < MAX_NAMES))
IsAllowed scope (Operand kind name) = kind_of scope.names name ≡ Some kind
IsAllowed scope (Value (numbers.Numeral v)) = Unit {0}
IsAllowed scope (Value (numbers.Named name)) = kind_of scope.names name ≡ Some kinds.Number
IsAllowed scope (FilePath path) = (is_among scope.paths path ≡ true) ⊎ (length scope.paths < MAX_PATHS)
IsAllowed scope _ = Unit {0}

abbrev pub AreAllowed : Scope → List Term → Type 0
AreAllowed scope [] = Unit {0}
AreAllowed scope (t ∷ ts) = IsAllowed scope t × AreAllowed scope ts

-- A block opens where fewer than 8 are open; an `else` stands in an `if` that had none; an `end` closes an open block.
abbrev pub FitsBlocks : Effect → List Block → Type 0
FitsBlocks Stays blocks = Unit {0}
FitsBlocks OpensRepeat blocks = length blocks < MAX_BLOCKS
FitsBlocks OpensIf blocks = length blocks < MAX_BLOCKS
FitsBlocks Turns blocks = (line : ℕ) × (rest : List Block) × (blocks ≡ InIf line ∷ rest)
FitsBlocks Closes blocks = blocks ≢ []

-- `catn` joins 2 to 16 cords; the text of a `sprintf` is its format, and its arguments are those that the conversions want.
abbrev pub Suits : Statement → Type 0
Suits (Catn line target parts) = (MIN_PARTS ≤ length parts) × (length parts ≤ MAX_PARTS)
Suits (Sprintf line target text format arguments) = IsFormat text format × (map argument_want arguments ≡ wants_of_pieces format)
Suits _ = Unit {0}

-- The words of line n say a statement of the grammar, after these lines.
pub record Says (g : Grammar) (n : ℕ) (scope : Scope) (words : List Word) (s : Statement) : Type 0 where
  pub has : g.has (word_of s) ≡ true
  pub line : line_of s ≡ n
  pub others : List Word
  pub word : words ≡ Plain (word_of s) ∷ others
  pub terms : AreTerms others (terms_of s)
  pub suits : Suits s
  pub allowed : AreAllowed scope (terms_of s)
  pub blocks : FitsBlocks (effect_of s) scope.blocks

-- The lines from number n on say these statements: one for each line that isn't idle.
abbrev pub LinesSay : Grammar → ℕ → Scope → List (List ℕ) → List Statement → Type 0
LinesSay g n scope [] ss = ss ≡ []
LinesSay g n scope (line ∷ lines) ss =
    (IsIdle line × LinesSay g (n + 1) scope lines ss)
    ⊎ ((¬ IsIdle line) × (s : Statement) × (words : List Word) × (rest : List Statement) × (ss ≡ s ∷ rest) × HasWords line words ×
    Says g n scope words s × LinesSay g (n + 1) (after s scope) lines rest)

-- The script's bytes are these statements, by a grammar: at most 1,048,576 bytes and 65,536 lines, each block closed.
pub record ReadsBy (g : Grammar) (b : List ℕ) (ss : List Statement) : Type 0 where
  pub size : length b ≤ MAX_SCRIPT
  pub lines : List (List ℕ)
  pub split : IsSplit b lines
  pub count : length lines ≤ MAX_LINES
  pub say : LinesSay g 1 start lines ss
  pub closed : (after_all ss start).blocks ≡ []

-- The grammar with all statements.
abbrev pub whole : Grammar
whole = record { has = λ w. true }

-- The grammar without branches.
abbrev pub without_branches : Grammar
without_branches = record { has = λ w. not (is_branch w) }

-- The script's bytes are these statements.
abbrev pub Reads : List ℕ → List Statement → Type 0
Reads b ss = ReadsBy whole b ss

-- Line n is one of the script's, which has at most 1,048,576 bytes, and the lines before it say statements.
pub record ReadsUpTo (b : List ℕ) (n : ℕ) : Type 0 where
  pub size : length b ≤ MAX_SCRIPT
  pub few : n ≤ MAX_LINES
  pub prefix : List (List ℕ)
  pub line : List ℕ
  pub later : List (List ℕ)
  pub split : IsSplit b (prefix ++ line ∷ later)
  pub number : n ≡ length prefix + 1
  pub statements : List Statement
  pub say : LinesSay whole 1 start prefix statements
