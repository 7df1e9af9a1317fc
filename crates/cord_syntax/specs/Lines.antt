-- Where a statement stands in its script.
use Rattle.std.specs.Prelude.{ℕ}
use Rattle.cord_syntax.specs.declared.statements.Statement.{Statement}
use Rattle.cord_syntax.specs.declared.statements.Statement.TheVariants.{Let, File, Eager, Lazy, Chars, Nul, FromFn, Cat, Catn, Catc, Substr}
use Rattle.cord_syntax.specs.declared.statements.Statement.TheVariants.{Balance, EcToCord, Sprintf, Len, Fetch, Cmp, Ncmp, Str, Chr, Rchr}
use Rattle.cord_syntax.specs.declared.statements.Statement.TheVariants.{Assign, Add, Sub, EcInit, EcPut, EcCat, EcStr, Put, Repeat, If}
use Rattle.cord_syntax.specs.declared.statements.Statement.TheVariants.{Else, End}

-- the line of a statement
abbrev pub line_of : Statement → ℕ
line_of (Let line target text) = line
line_of (File line target path) = line
line_of (Eager line target path) = line
line_of (Lazy line target path) = line
line_of (Chars line target byte count) = line
line_of (Nul line target count) = line
line_of (FromFn line target function count) = line
line_of (Cat line target left right) = line
line_of (Catn line target parts) = line
line_of (Catc line target operand byte) = line
line_of (Substr line target operand start count) = line
line_of (Balance line target operand) = line
line_of (EcToCord line target extensible) = line
line_of (Sprintf line target text format arguments) = line
line_of (Len line target operand) = line
line_of (Fetch line target operand index) = line
line_of (Cmp line target left right) = line
line_of (Ncmp line target left left_start right right_start count) = line
line_of (Str line target operand start pattern) = line
line_of (Chr line target operand start byte) = line
line_of (Rchr line target operand start byte) = line
line_of (Assign line target value) = line
line_of (Add line target left right) = line
line_of (Sub line target left right) = line
line_of (EcInit line target) = line
line_of (EcPut line extensible byte) = line
line_of (EcCat line extensible operand) = line
line_of (EcStr line extensible text) = line
line_of (Put line operand) = line
line_of (Repeat line count) = line
line_of (If line left relation right) = line
line_of (Else line) = line
line_of (End line) = line
