-- What is wrong first with a script, by the order of the refusals.
use Rattle.std.specs.Prelude.{◌≡◌, ℕ, ◌+◌, ◌<◌, ◌≤◌, ◌⊎◌, List, [], ◌∷◌, ◌++◌, length, Bool, true, false, ◌&&◌, ◌||◌, ◌==◌, nat_le, nat_lt}
use Rattle.std.specs.Prelude.{Option, Some, None, is_some, if◌then◌else◌, codes}
use Rattle.std.specs.Str.{bytes_eq}
use Rattle.cord_script.specs.declared.TheConstants.{MAX_SCRIPT, MAX_LINES, MAX_NAMES, MAX_PATHS, MAX_BLOCKS, MIN_PARTS, MAX_PARTS}
use Rattle.cord_script.specs.declared.kinds.Kind.{Kind}
use Rattle.cord_script.specs.declared.kinds.Kind.TheVariants as kinds
use Rattle.cord_script.specs.declared.kinds.Want.{Want}
use Rattle.cord_script.specs.declared.kinds.Want.TheVariants as wants
use Rattle.cord_script.specs.declared.table.Known.{Known}
use Rattle.cord_script.specs.declared.words.Word.{Word}
use Rattle.cord_script.specs.declared.words.Word.TheVariants.{Plain, Quoted}
use Rattle.cord_syntax.specs.declared.statements.Statement.{Statement}
use Rattle.cord_script.specs.declared.refusals.RefusalKind.{RefusalKind}
use Rattle.cord_script.specs.declared.refusals.RefusalKind.TheVariants.{TooBig, UnknownStatement, WrongCount, BadName, BadNumber}
use Rattle.cord_script.specs.declared.refusals.RefusalKind.TheVariants.{UnknownName, WrongKind, BadFormat, TooDeep, EndAlone, MissingEnd}
use Rattle.cord_script.specs.declared.refusals.RefusalKind.TheVariants.{TooMany, ElseAlone, MissingIfEnd}
use Rattle.cord_script.specs.Words.{IsSplit, IsIdle, HasWords, HasBadBytes}
use Rattle.cord_script.specs.Formats.{AreWantedBy}
use Rattle.cord_script.specs.Tests.{is_name, begins_numeral, numeral_of, is_path}
use Rattle.cord_script.specs.Forms.{Grammar, Shape, Form, Effect, form_in}
use Rattle.cord_script.specs.Forms.Shape.{Words, Joined, Printed}
use Rattle.cord_script.specs.Forms.Effect.{Stays, OpensRepeat, OpensIf, Turns, Closes}
use Rattle.cord_script.specs.Script.{Scope, Block, start, kind_of, is_among, after_all, LinesSay, whole}
use Rattle.cord_script.specs.Script.Block.{InRepeat, InIf, InElse}

-- the first that is something
abbrev pub first_of : Option RefusalKind → Option RefusalKind → Option RefusalKind
first_of None next = next
first_of (Some kind) next = Some kind

-- this kind where the test fails
abbrev pub unless : Bool → RefusalKind → Option RefusalKind
unless true kind = None
unless false kind = Some kind

-- Where a name is wanted: 6 where the word isn't one.
abbrev pub name_misfit : Word → Option RefusalKind
name_misfit (Plain p) = unless (is_name p) BadName
name_misfit (Quoted text) = Some BadName

-- A plain word where a number operand is wanted: 7 where it begins as a numeral and isn't one, else it has to be a name.
abbrev pub plain_number_misfit : List ℕ → Option RefusalKind
plain_number_misfit p = if begins_numeral p then unless (is_some (numeral_of p)) BadNumber else unless (is_name p) BadName

-- Where a number operand is wanted: 7 where it is quoted.
abbrev pub number_misfit : Word → Option RefusalKind
number_misfit (Plain p) = plain_number_misfit p
number_misfit (Quoted text) = Some BadNumber

-- Where a quoted word is wanted: 9 where a plain word stands for it.
abbrev pub text_misfit : Word → Option RefusalKind
text_misfit (Plain p) = Some WrongKind
text_misfit (Quoted text) = None

-- Where a path is wanted: 9 where a plain word stands for it; 6 where it is empty, holds byte 0, isn't UTF-8 or is too long.
abbrev pub path_misfit : Word → Option RefusalKind
path_misfit (Plain p) = Some WrongKind
path_misfit (Quoted path) = unless (is_path path) BadName

-- Where a function is wanted: 6 where the word isn't `digits` or `bytes`.
abbrev pub function_misfit : Word → Option RefusalKind
function_misfit (Plain p) = unless (bytes_eq p (codes "digits") || bytes_eq p (codes "bytes")) BadName
function_misfit (Quoted text) = Some BadName

-- Where a relation is wanted: 6 where the word isn't `lt`, `eq` or `gt`.
abbrev pub relation_misfit : Word → Option RefusalKind
relation_misfit (Plain p) = unless (bytes_eq p (codes "lt") || bytes_eq p (codes "eq") || bytes_eq p (codes "gt")) BadName
relation_misfit (Quoted text) = Some BadName

-- what is wrong with a word where this is wanted
abbrev pub misfit : Want → Word → Option RefusalKind
misfit (wants.Target kind) w = name_misfit w
misfit (wants.Operand kind) w = name_misfit w
misfit wants.Number w = number_misfit w
misfit wants.Text w = text_misfit w
misfit wants.Path w = path_misfit w
misfit wants.Function w = function_misfit w
misfit wants.Relation w = relation_misfit w
misfit wants.Format w = text_misfit w

-- The first that is wrong with a pair of a want and a word, from left to right.
abbrev pub first_pair : (Want → Word → Option RefusalKind) → List Want → List Word → Option RefusalKind
first_pair test [] ws = None
first_pair test (x ∷ xs) [] = None
first_pair test (x ∷ xs) (w ∷ ws) = first_of (test x w) (first_pair test xs ws)

-- The words from left to right.
abbrev pub first_misfit : List Want → List Word → Option RefusalKind
first_misfit xs ws = first_pair misfit xs ws

-- Kind 5 where the number of words after the statement's word is wrong; for `sprintf`: fewer than a target and a format.
abbrev pub is_count : Shape → ℕ → Bool
is_count (Words xs) n = n == length xs
is_count Joined n = nat_le (1 + MIN_PARTS) n && nat_le n (1 + MAX_PARTS)
is_count Printed n = nat_le 2 n

-- as many cords as there are words
abbrev pub cords : List Word → List Want
cords [] = []
cords (w ∷ ws) = wants.Operand kinds.Cord ∷ cords ws

-- a target that is a cord, and one cord for each further word
abbrev pub joined : List Word → List Want
joined [] = []
joined (w ∷ ws) = wants.Target kinds.Cord ∷ cords ws

-- a target that is a cord, and a format
abbrev pub format_wants : List Want
format_wants = wants.Target kinds.Cord ∷ wants.Format ∷ []

-- what the conversions want, none where the text is no format
abbrev pub conversions : Option (List Want) → List Want
conversions None = []
conversions (Some xs) = xs

-- What each of the words has to be, where the format's conversions want this.
abbrev pub wants_of : Shape → Option (List Want) → List Word → List Want
wants_of (Words xs) formats ws = xs
wants_of Joined formats ws = joined ws
wants_of Printed formats ws = format_wants ++ conversions formats

-- the words after a target and a format
abbrev pub argument_words : List Word → List Word
argument_words [] = []
argument_words (target ∷ []) = []
argument_words (target ∷ format ∷ ws) = ws

-- After the format of `sprintf`: 10 where it isn't one; 5 where the number of arguments differs from the number of
-- conversions that take one; then the arguments in the form that their conversions want.
abbrev pub arguments_error : Option (List Want) → List Word → Option RefusalKind
arguments_error None ws = Some BadFormat
arguments_error (Some xs) ws = first_of (unless (length ws == length xs) WrongCount) (first_misfit xs ws)

-- what is wrong with the words after a statement's word, from left to right
abbrev pub words_error : Shape → Option (List Want) → List Word → Option RefusalKind
words_error (Words xs) formats ws = first_misfit xs ws
words_error Joined formats ws = first_misfit (joined ws) ws
words_error Printed formats ws = first_of (first_misfit format_wants ws) (arguments_error formats (argument_words ws))

abbrev pub same_kind : Kind → Kind → Bool
same_kind kinds.Cord kinds.Cord = true
same_kind kinds.Number kinds.Number = true
same_kind kinds.Extensible kinds.Extensible = true
same_kind _ _ = false

-- An operand that is a name: 8 where no line before assigns it, 9 where it has another kind.
abbrev pub kind_error : Option Kind → Kind → Option RefusalKind
kind_error None kind = Some UnknownName
kind_error (Some has) kind = unless (same_kind has kind) WrongKind

-- A number operand that is a plain word is a name where it doesn't begin as a numeral.
abbrev pub number_error : List Known → List ℕ → Option RefusalKind
number_error names p = if begins_numeral p then None else kind_error (kind_of names p) kinds.Number

-- what is wrong with an operand that is a name
abbrev pub operand_error : List Known → Want → Word → Option RefusalKind
operand_error names (wants.Operand kind) (Plain p) = kind_error (kind_of names p) kind
operand_error names wants.Number (Plain p) = number_error names p
operand_error names _ _ = None

-- The operands that are names, from left to right.
abbrev pub operands_error : List Known → List Want → List Word → Option RefusalKind
operands_error names xs ws = first_pair (operand_error names) xs ws

-- A target: 9 where it has another kind, 14 where it would be the 257th name.
abbrev pub assigned_error : Option Kind → Kind → ℕ → Option RefusalKind
assigned_error None kind count = unless (nat_lt count MAX_NAMES) TooMany
assigned_error (Some has) kind count = unless (same_kind has kind) WrongKind

-- what is wrong with a word as the target
abbrev pub word_target_error : List Known → Want → Word → Option RefusalKind
word_target_error names (wants.Target kind) (Plain p) = assigned_error (kind_of names p) kind (length names)
word_target_error names _ _ = None

-- The target.
abbrev pub target_error : List Known → List Want → List Word → Option RefusalKind
target_error names xs ws = first_pair (word_target_error names) xs ws

-- what is wrong with a word as a path
abbrev pub word_path_error : List (List ℕ) → Want → Word → Option RefusalKind
word_path_error paths wants.Path (Quoted path) = unless (is_among paths path || nat_lt (length paths) MAX_PATHS) TooMany
word_path_error paths _ _ = None

-- The path: 14 where it would be the 65th distinct one.
abbrev pub path_error : List (List ℕ) → List Want → List Word → Option RefusalKind
path_error paths xs ws = first_pair (word_path_error paths) xs ws

-- An `else`: 17 where the innermost open block isn't an `if`, or had its `else`, or there is none.
abbrev pub else_error : List Block → Option RefusalKind
else_error (InIf line ∷ blocks) = None
else_error blocks = Some ElseAlone

-- An `end`: 12 where no block is open.
abbrev pub end_error : List Block → Option RefusalKind
end_error [] = Some EndAlone
end_error (block ∷ blocks) = None

-- The blocks: 11 where a `repeat` or an `if` stands in 8 open ones.
abbrev pub block_error : Effect → List Block → Option RefusalKind
block_error Stays blocks = None
block_error OpensRepeat blocks = unless (nat_lt (length blocks) MAX_BLOCKS) TooDeep
block_error OpensIf blocks = unless (nat_lt (length blocks) MAX_BLOCKS) TooDeep
block_error Turns blocks = else_error blocks
block_error Closes blocks = end_error blocks

-- what is wrong with the names of a line: the operands, the target, the path
abbrev pub names_error : Scope → List Want → List Word → Option RefusalKind
names_error scope xs ws = first_of (operands_error scope.names xs ws)
    (first_of (target_error scope.names xs ws) (path_error scope.paths xs ws))

-- What is wrong with the words after a statement's word, in order: their number, the words, the names, the blocks.
abbrev pub form_error : Form → Scope → Option (List Want) → List Word → Option RefusalKind
form_error form scope formats ws =
    first_of (unless (is_count form.shape (length ws)) WrongCount)
    (first_of (words_error form.shape formats ws)
    (first_of (names_error scope (wants_of form.shape formats ws) ws)
    (block_error form.effect scope.blocks)))

-- what the conversions of the format of a `sprintf` want; no other statement has a format
abbrev pub HasFormat : Shape → List Word → Option (List Want) → Type 0
HasFormat Printed (target ∷ Quoted text ∷ ws) formats = AreWantedBy text formats
HasFormat _ ws formats = formats ≡ None

-- Kind 4 where a plain word is no statement's word; else what is wrong with the words after it.
abbrev pub HasFormError : Scope → Option Form → List Word → RefusalKind → Type 0
HasFormError scope None ws kind = kind ≡ UnknownStatement
HasFormError scope (Some form) ws kind = (formats : Option (List Want)) × HasFormat form.shape ws formats ×
    (form_error form scope formats ws ≡ Some kind)

-- What is wrong with the words of a line. Kind 4 where the first word is quoted or no statement's word.
abbrev pub HasBadWords : Grammar → Scope → List Word → RefusalKind → Type 0
HasBadWords g scope [] kind = ⊥
HasBadWords g scope (Quoted text ∷ ws) kind = kind ≡ UnknownStatement
HasBadWords g scope (Plain p ∷ ws) kind = HasFormError scope (form_in g p) ws kind

-- What is wrong with line n: a line numbered 65,537 is too much; else, where it isn't idle, first its bytes, then its words.
abbrev pub HasBadLine : Grammar → ℕ → Scope → List ℕ → RefusalKind → Type 0
HasBadLine g n scope line kind =
    ((n ≡ MAX_LINES + 1) × (kind ≡ TooBig))
    ⊎ ((n ≤ MAX_LINES) × (¬ IsIdle line) × (HasBadBytes line kind ⊎
    ((words : List Word) × HasWords line words × HasBadWords g scope words kind)))

-- First the size of the script.
pub record IsTooBig (b : List ℕ) (n : ℕ) (kind : RefusalKind) : Type 0 where
  pub size : MAX_SCRIPT < length b
  pub line : n ≡ 0
  pub is : kind ≡ TooBig

-- Then line by line: the lines in front say statements, and line n is wrong after them.
pub record IsFirstWrongAt (g : Grammar) (b : List ℕ) (n : ℕ) (kind : RefusalKind) : Type 0 where
  pub size : length b ≤ MAX_SCRIPT
  pub prefix : List (List ℕ)
  pub line : List ℕ
  pub later : List (List ℕ)
  pub split : IsSplit b (prefix ++ line ∷ later)
  pub number : n ≡ length prefix + 1
  pub statements : List Statement
  pub say : LinesSay g 1 start prefix statements
  pub wrong : HasBadLine g n (after_all statements start) line kind

-- Which kind an open block is at the end of the script: 13 at the line of a `repeat`, 18 at the line of an `if`.
abbrev pub IsLeftOpen : Block → ℕ → RefusalKind → Type 0
IsLeftOpen (InRepeat line) n kind = (n ≡ line) × (kind ≡ MissingEnd)
IsLeftOpen (InIf line) n kind = (n ≡ line) × (kind ≡ MissingIfEnd)
IsLeftOpen (InElse line) n kind = (n ≡ line) × (kind ≡ MissingIfEnd)

-- Last, by the innermost block that is open after all lines.
pub record LeavesOpen (g : Grammar) (b : List ℕ) (n : ℕ) (kind : RefusalKind) : Type 0 where
  pub size : length b ≤ MAX_SCRIPT
  pub lines : List (List ℕ)
  pub split : IsSplit b lines
  pub count : length lines ≤ MAX_LINES
  pub statements : List Statement
  pub say : LinesSay g 1 start lines statements
  pub block : Block
  pub others : List Block
  pub blocks : (after_all statements start).blocks ≡ block ∷ others
  pub left : IsLeftOpen block n kind

-- The first thing wrong in a script's bytes, by a grammar, is of this kind at line n.
abbrev pub FirstErrorBy : Grammar → List ℕ → ℕ → RefusalKind → Type 0
FirstErrorBy g b n kind = IsTooBig b n kind ⊎ IsFirstWrongAt g b n kind ⊎ LeavesOpen g b n kind

-- The first thing wrong in a script's bytes is of this kind at line n.
abbrev pub FirstError : List ℕ → ℕ → RefusalKind → Type 0
FirstError b n kind = FirstErrorBy whole b n kind
