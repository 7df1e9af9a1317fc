-- The statements: the word of each, the words that follow it, and what it does to the open blocks.
use Rattle.std.specs.Prelude.{ℕ, List, [], ◌∷◌, map, Bool, ◌||◌, Option, Some, None, if◌then◌else◌, codes}
use Rattle.std.specs.Str.{bytes_eq}
use Rattle.cord_script.specs.declared.kinds.Kind.{Kind}
use Rattle.cord_script.specs.declared.kinds.Kind.TheVariants as kinds
use Rattle.cord_script.specs.declared.kinds.Want.{Want}
use Rattle.cord_script.specs.declared.kinds.Want.TheVariants as wants
use Rattle.cord_operands.specs.declared.operands.Number.{Number}
use Rattle.cord_operands.specs.declared.operands.Function.{Function}
use Rattle.cord_operands.specs.declared.operands.Relation.{Relation}
use Rattle.cord_operands.specs.declared.operands.Argument.{Argument}
use Rattle.cord_operands.specs.declared.operands.Argument.TheVariants as arguments
use Rattle.cord_syntax.specs.declared.statements.Statement.{Statement}
use Rattle.cord_syntax.specs.declared.statements.Statement.TheVariants.{Let, File, Eager, Lazy, Chars, Nul, FromFn, Cat, Catn, Catc, Substr}
use Rattle.cord_syntax.specs.declared.statements.Statement.TheVariants.{Balance, EcToCord, Sprintf, Len, Fetch, Cmp, Ncmp, Str, Chr, Rchr}
use Rattle.cord_syntax.specs.declared.statements.Statement.TheVariants.{Assign, Add, Sub, EcInit, EcPut, EcCat, EcStr, Put, Repeat, If}
use Rattle.cord_syntax.specs.declared.statements.Statement.TheVariants.{Else, End}

-- The words after a statement's word: these; a target and 2 to 16 cords; a target, a format and what its conversions want.
pub data Shape : Type 0 where
  Words : List Want → Shape
  Joined : Shape
  Printed : Shape

-- What a statement does to the open blocks.
pub data Effect : Type 0 where
  Stays : Effect
  OpensRepeat : Effect
  OpensIf : Effect
  Turns : Effect
  Closes : Effect

pub record Form : Type 0 where
  pub shape : Shape
  pub effect : Effect

-- a form that leaves the blocks as they are
abbrev pub plain_form : List Want → Option Form
plain_form ws = Some (record { shape = Words ws; effect = Stays })

-- The table of statements: what follows each statement's word.
unfoldable pub form_of : List ℕ → Option Form
form_of w =
    if bytes_eq w (codes "let") then plain_form (wants.Target kinds.Cord ∷ wants.Text ∷ [])
    else if bytes_eq w (codes "put") then plain_form (wants.Operand kinds.Cord ∷ [])
    else if bytes_eq w (codes "file") then plain_form (wants.Target kinds.Cord ∷ wants.Path ∷ [])
    else if bytes_eq w (codes "eager") then plain_form (wants.Target kinds.Cord ∷ wants.Path ∷ [])
    else if bytes_eq w (codes "lazy") then plain_form (wants.Target kinds.Cord ∷ wants.Path ∷ [])
    else if bytes_eq w (codes "chars") then plain_form (wants.Target kinds.Cord ∷ wants.Number ∷ wants.Number ∷ [])
    else if bytes_eq w (codes "nul") then plain_form (wants.Target kinds.Cord ∷ wants.Number ∷ [])
    else if bytes_eq w (codes "fn") then plain_form (wants.Target kinds.Cord ∷ wants.Function ∷ wants.Number ∷ [])
    else if bytes_eq w (codes "cat") then plain_form (wants.Target kinds.Cord ∷ wants.Operand kinds.Cord ∷ wants.Operand kinds.Cord ∷ [])
    else if bytes_eq w (codes "catn") then Some (record { shape = Joined; effect = Stays })
    else if bytes_eq w (codes "catc") then plain_form (wants.Target kinds.Cord ∷ wants.Operand kinds.Cord ∷ wants.Number ∷ [])
    else if bytes_eq w (codes "substr") then plain_form (wants.Target kinds.Cord ∷ wants.Operand kinds.Cord ∷ wants.Number ∷ wants.Number
    ∷ [])
    else if bytes_eq w (codes "balance") then plain_form (wants.Target kinds.Cord ∷ wants.Operand kinds.Cord ∷ [])
    else if bytes_eq w (codes "ectocord") then plain_form (wants.Target kinds.Cord ∷ wants.Operand kinds.Extensible ∷ [])
    else if bytes_eq w (codes "sprintf") then Some (record { shape = Printed; effect = Stays })
    else if bytes_eq w (codes "len") then plain_form (wants.Target kinds.Number ∷ wants.Operand kinds.Cord ∷ [])
    else if bytes_eq w (codes "fetch") then plain_form (wants.Target kinds.Number ∷ wants.Operand kinds.Cord ∷ wants.Number ∷ [])
    else if bytes_eq w (codes "cmp") then plain_form (wants.Target kinds.Number ∷ wants.Operand kinds.Cord ∷ wants.Operand kinds.Cord ∷ [])
    else if bytes_eq w (codes "ncmp") then plain_form (wants.Target kinds.Number ∷ wants.Operand kinds.Cord ∷ wants.Number
    ∷ wants.Operand kinds.Cord ∷ wants.Number ∷ wants.Number ∷ [])
    else if bytes_eq w (codes "str") then plain_form (wants.Target kinds.Number ∷ wants.Operand kinds.Cord ∷ wants.Number
    ∷ wants.Operand kinds.Cord ∷ [])
    else if bytes_eq w (codes "chr") then plain_form (wants.Target kinds.Number ∷ wants.Operand kinds.Cord ∷ wants.Number ∷ wants.Number
    ∷ [])
    else if bytes_eq w (codes "rchr") then plain_form (wants.Target kinds.Number ∷ wants.Operand kinds.Cord ∷ wants.Number ∷ wants.Number
    ∷ [])
    else if bytes_eq w (codes "set") then plain_form (wants.Target kinds.Number ∷ wants.Number ∷ [])
    else if bytes_eq w (codes "add") then plain_form (wants.Target kinds.Number ∷ wants.Number ∷ wants.Number ∷ [])
    else if bytes_eq w (codes "sub") then plain_form (wants.Target kinds.Number ∷ wants.Number ∷ wants.Number ∷ [])
    else if bytes_eq w (codes "ecinit") then plain_form (wants.Target kinds.Extensible ∷ [])
    else if bytes_eq w (codes "ecput") then plain_form (wants.Operand kinds.Extensible ∷ wants.Number ∷ [])
    else if bytes_eq w (codes "eccat") then plain_form (wants.Operand kinds.Extensible ∷ wants.Operand kinds.Cord ∷ [])
    else if bytes_eq w (codes "ecstr") then plain_form (wants.Operand kinds.Extensible ∷ wants.Text ∷ [])
    else if bytes_eq w (codes "repeat") then Some (record { shape = Words (wants.Number ∷ []); effect = OpensRepeat })
    else if bytes_eq w (codes "if") then Some (record {
      shape = Words (wants.Number ∷ wants.Relation ∷ wants.Number ∷ []);
      effect = OpensIf;
    })
    else if bytes_eq w (codes "else") then Some (record { shape = Words []; effect = Turns })
    else if bytes_eq w (codes "end") then Some (record { shape = Words []; effect = Closes })
    else None

-- A grammar is reported by the statements' words that it has.
pub record Grammar : Type 0 where
  pub has : List ℕ → Bool

-- the form of a word in a grammar
abbrev pub form_in : Grammar → List ℕ → Option Form
form_in g w = if g.has w then form_of w else None

-- the word of a statement
abbrev pub word_of : Statement → List ℕ
word_of (Let line target text) = codes "let"
word_of (File line target path) = codes "file"
word_of (Eager line target path) = codes "eager"
word_of (Lazy line target path) = codes "lazy"
word_of (Chars line target byte count) = codes "chars"
word_of (Nul line target count) = codes "nul"
word_of (FromFn line target function count) = codes "fn"
word_of (Cat line target left right) = codes "cat"
word_of (Catn line target parts) = codes "catn"
word_of (Catc line target operand byte) = codes "catc"
word_of (Substr line target operand start count) = codes "substr"
word_of (Balance line target operand) = codes "balance"
word_of (EcToCord line target extensible) = codes "ectocord"
word_of (Sprintf line target text format arguments) = codes "sprintf"
word_of (Len line target operand) = codes "len"
word_of (Fetch line target operand index) = codes "fetch"
word_of (Cmp line target left right) = codes "cmp"
word_of (Ncmp line target left left_start right right_start count) = codes "ncmp"
word_of (Str line target operand start pattern) = codes "str"
word_of (Chr line target operand start byte) = codes "chr"
word_of (Rchr line target operand start byte) = codes "rchr"
word_of (Assign line target value) = codes "set"
word_of (Add line target left right) = codes "add"
word_of (Sub line target left right) = codes "sub"
word_of (EcInit line target) = codes "ecinit"
word_of (EcPut line extensible byte) = codes "ecput"
word_of (EcCat line extensible operand) = codes "eccat"
word_of (EcStr line extensible text) = codes "ecstr"
word_of (Put line operand) = codes "put"
word_of (Repeat line count) = codes "repeat"
word_of (If line left relation right) = codes "if"
word_of (Else line) = codes "else"
word_of (End line) = codes "end"

-- What one word of a statement says.
pub data Term : Type 0 where
  Target : Kind → List ℕ → Term
  Operand : Kind → List ℕ → Term
  Value : Number → Term
  Literal : List ℕ → Term
  FilePath : List ℕ → Term
  Applies : Function → Term
  Compares : Relation → Term
  Formats : List ℕ → Term

-- what an argument of a format says
abbrev pub argument_term : Argument → Term
argument_term (arguments.Number n) = Value n
argument_term (arguments.Cord name) = Operand kinds.Cord name

-- what an argument of a format has to be
abbrev pub argument_want : Argument → Want
argument_want (arguments.Number n) = wants.Number
argument_want (arguments.Cord name) = wants.Operand kinds.Cord

-- What the words after a statement's word say, from left to right.
abbrev pub terms_of : Statement → List Term
terms_of (Let line target text) = Target kinds.Cord target ∷ Literal text ∷ []
terms_of (File line target path) = Target kinds.Cord target ∷ FilePath path ∷ []
terms_of (Eager line target path) = Target kinds.Cord target ∷ FilePath path ∷ []
terms_of (Lazy line target path) = Target kinds.Cord target ∷ FilePath path ∷ []
terms_of (Chars line target byte count) = Target kinds.Cord target ∷ Value byte ∷ Value count ∷ []
terms_of (Nul line target count) = Target kinds.Cord target ∷ Value count ∷ []
terms_of (FromFn line target function count) = Target kinds.Cord target ∷ Applies function ∷ Value count ∷ []
terms_of (Cat line target left right) = Target kinds.Cord target ∷ Operand kinds.Cord left ∷ Operand kinds.Cord right ∷ []
terms_of (Catn line target parts) = Target kinds.Cord target ∷ map (Operand kinds.Cord) parts
terms_of (Catc line target operand byte) = Target kinds.Cord target ∷ Operand kinds.Cord operand ∷ Value byte ∷ []
terms_of (Substr line target operand start count) = Target kinds.Cord target ∷ Operand kinds.Cord operand ∷ Value start ∷ Value count ∷ []
terms_of (Balance line target operand) = Target kinds.Cord target ∷ Operand kinds.Cord operand ∷ []
terms_of (EcToCord line target extensible) = Target kinds.Cord target ∷ Operand kinds.Extensible extensible ∷ []
terms_of (Sprintf line target text format arguments) = Target kinds.Cord target ∷ Formats text ∷ map argument_term arguments
terms_of (Len line target operand) = Target kinds.Number target ∷ Operand kinds.Cord operand ∷ []
terms_of (Fetch line target operand index) = Target kinds.Number target ∷ Operand kinds.Cord operand ∷ Value index ∷ []
terms_of (Cmp line target left right) = Target kinds.Number target ∷ Operand kinds.Cord left ∷ Operand kinds.Cord right ∷ []
terms_of (Ncmp line target left left_start right right_start count) = Target kinds.Number target ∷ Operand kinds.Cord left
    ∷ Value left_start ∷ Operand kinds.Cord right ∷ Value right_start ∷ Value count ∷ []
terms_of (Str line target operand start pattern) = Target kinds.Number target ∷ Operand kinds.Cord operand ∷ Value start
    ∷ Operand kinds.Cord pattern ∷ []
terms_of (Chr line target operand start byte) = Target kinds.Number target ∷ Operand kinds.Cord operand ∷ Value start ∷ Value byte ∷ []
terms_of (Rchr line target operand start byte) = Target kinds.Number target ∷ Operand kinds.Cord operand ∷ Value start ∷ Value byte ∷ []
terms_of (Assign line target value) = Target kinds.Number target ∷ Value value ∷ []
terms_of (Add line target left right) = Target kinds.Number target ∷ Value left ∷ Value right ∷ []
terms_of (Sub line target left right) = Target kinds.Number target ∷ Value left ∷ Value right ∷ []
terms_of (EcInit line target) = Target kinds.Extensible target ∷ []
terms_of (EcPut line extensible byte) = Operand kinds.Extensible extensible ∷ Value byte ∷ []
terms_of (EcCat line extensible operand) = Operand kinds.Extensible extensible ∷ Operand kinds.Cord operand ∷ []
terms_of (EcStr line extensible text) = Operand kinds.Extensible extensible ∷ Literal text ∷ []
terms_of (Put line operand) = Operand kinds.Cord operand ∷ []
terms_of (Repeat line count) = Value count ∷ []
terms_of (If line left relation right) = Value left ∷ Compares relation ∷ Value right ∷ []
terms_of (Else line) = []
terms_of (End line) = []

-- What a statement does to the open blocks: `repeat` and `if` open one, an `end` closes the innermost.
abbrev pub effect_of : Statement → Effect
effect_of (Repeat line count) = OpensRepeat
effect_of (If line left relation right) = OpensIf
effect_of (Else line) = Turns
effect_of (End line) = Closes
effect_of _ = Stays

-- The grammar without branches has neither `if` nor `else`.
abbrev pub is_branch : List ℕ → Bool
is_branch w = bytes_eq w (codes "if") || bytes_eq w (codes "else")
