-- The statement of a line and of a family's member.
use Rattle.std.specs.Prelude.{ℕ}
use Rattle.cord_syntax.specs.declared.families.Family.{Family}
use Rattle.cord_syntax.specs.declared.families.Family.TheVariants.{Origin, Composition, Derivation, Computation, Look, Search, Growth}
use Rattle.cord_syntax.specs.declared.families.Family.TheVariants.{Control}
use Rattle.cord_syntax.specs.declared.families.Family.TheVariants as families
use Rattle.cord_syntax.specs.declared.families.Origin.TheVariants as origins
use Rattle.cord_syntax.specs.declared.families.Composition.TheVariants as compositions
use Rattle.cord_syntax.specs.declared.families.Derivation.TheVariants as derivations
use Rattle.cord_syntax.specs.declared.families.Computation.TheVariants as computations
use Rattle.cord_syntax.specs.declared.families.Look.TheVariants as looks
use Rattle.cord_syntax.specs.declared.families.Search.TheVariants as searches
use Rattle.cord_syntax.specs.declared.families.Growth.TheVariants as growths
use Rattle.cord_syntax.specs.declared.families.Control.TheVariants as controls
use Rattle.cord_syntax.specs.declared.statements.Statement.{Statement}
use Rattle.cord_syntax.specs.declared.statements.Statement.TheVariants.{Let, File, Eager, Lazy, Chars, Nul, FromFn, Cat, Catn, Catc, Substr}
use Rattle.cord_syntax.specs.declared.statements.Statement.TheVariants.{Balance, EcToCord, Sprintf, Len, Fetch, Cmp, Ncmp, Str, Chr, Rchr}
use Rattle.cord_syntax.specs.declared.statements.Statement.TheVariants.{Assign, Add, Sub, EcInit, EcPut, EcCat, EcStr, Put, Repeat, If}
use Rattle.cord_syntax.specs.declared.statements.Statement.TheVariants.{Else, End}

-- the statement that has this line and is this member of a family
abbrev pub statement_of : ℕ → Family → Statement
statement_of line (Origin (origins.Let target text)) = Let line target.now text.now
statement_of line (Origin (origins.File target path)) = File line target.now path.now
statement_of line (Origin (origins.Eager target path)) = Eager line target.now path.now
statement_of line (Origin (origins.Lazy target path)) = Lazy line target.now path.now
statement_of line (Origin (origins.FromFn target function count)) = FromFn line target.now function count.now
statement_of line (Composition (compositions.Chars target byte count)) = Chars line target.now byte.now count.now
statement_of line (Composition (compositions.Nul target count)) = Nul line target.now count.now
statement_of line (Composition (compositions.Cat target left right)) = Cat line target.now left.now right.now
statement_of line (Composition (compositions.Catn target parts)) = Catn line target.now parts.now
statement_of line (Composition (compositions.Catc target operand byte)) = Catc line target.now operand.now byte.now
statement_of line (Composition (compositions.Substr target operand start count)) =
    Substr line target.now operand.now start.now count.now
statement_of line (Derivation (derivations.Balance target operand)) = Balance line target.now operand.now
statement_of line (Derivation (derivations.EcToCord target extensible)) = EcToCord line target.now extensible.now
statement_of line (Derivation (derivations.Sprintf target text format arguments)) =
    Sprintf line target.now text.now format.now arguments.now
statement_of line (families.Put operand) = Put line operand.now
statement_of line (Computation (computations.Len target operand)) = Len line target.now operand.now
statement_of line (Computation (computations.Assign target value)) = Assign line target.now value.now
statement_of line (Computation (computations.Add target left right)) = Add line target.now left.now right.now
statement_of line (Computation (computations.Sub target left right)) = Sub line target.now left.now right.now
statement_of line (Look (looks.Fetch target operand index)) = Fetch line target.now operand.now index.now
statement_of line (Look (looks.Cmp target left right)) = Cmp line target.now left.now right.now
statement_of line (Look (looks.Ncmp target left left_start right right_start count)) =
    Ncmp line target.now left.now left_start.now right.now right_start.now count.now
statement_of line (Search (searches.Str target operand start pattern)) = Str line target.now operand.now start.now pattern.now
statement_of line (Search (searches.Chr target operand start byte)) = Chr line target.now operand.now start.now byte.now
statement_of line (Search (searches.Rchr target operand start byte)) = Rchr line target.now operand.now start.now byte.now
statement_of line (Growth (growths.EcInit target)) = EcInit line target.now
statement_of line (Growth (growths.EcPut extensible byte)) = EcPut line extensible.now byte.now
statement_of line (Growth (growths.EcCat extensible operand)) = EcCat line extensible.now operand.now
statement_of line (Growth (growths.EcStr extensible text)) = EcStr line extensible.now text.now
statement_of line (Control (controls.Repeat count)) = Repeat line count.now
statement_of line (Control (controls.If left relation right)) = If line left.now relation right.now
statement_of line (Control controls.Else) = Else line
statement_of line (Control controls.End) = End line
