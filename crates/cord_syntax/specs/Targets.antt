-- What a statement assigns.
use Rattle.std.specs.Prelude.{ℕ, List, Option, Some, None}
use Rattle.cord_syntax.specs.declared.statements.Statement.{Statement}
use Rattle.cord_syntax.specs.declared.statements.Statement.TheVariants.{Let, File, Eager, Lazy, Chars, Nul, FromFn, Cat, Catn, Catc, Substr}
use Rattle.cord_syntax.specs.declared.statements.Statement.TheVariants.{Balance, EcToCord, Sprintf, Len, Fetch, Cmp, Ncmp, Str, Chr, Rchr}
use Rattle.cord_syntax.specs.declared.statements.Statement.TheVariants.{Assign, Add, Sub, EcInit}

-- the name that a line assigns
abbrev pub target_of : Statement → Option (List ℕ)
target_of (Let line target text) = Some target
target_of (File line target path) = Some target
target_of (Eager line target path) = Some target
target_of (Lazy line target path) = Some target
target_of (Chars line target byte count) = Some target
target_of (Nul line target count) = Some target
target_of (FromFn line target function count) = Some target
target_of (Cat line target left right) = Some target
target_of (Catn line target parts) = Some target
target_of (Catc line target operand byte) = Some target
target_of (Substr line target operand start count) = Some target
target_of (Balance line target operand) = Some target
target_of (EcToCord line target extensible) = Some target
target_of (Sprintf line target text format arguments) = Some target
target_of (Len line target operand) = Some target
target_of (Fetch line target operand index) = Some target
target_of (Cmp line target left right) = Some target
target_of (Ncmp line target left left_start right right_start count) = Some target
target_of (Str line target operand start pattern) = Some target
target_of (Chr line target operand start byte) = Some target
target_of (Rchr line target operand start byte) = Some target
target_of (Assign line target value) = Some target
target_of (Add line target left right) = Some target
target_of (Sub line target left right) = Some target
target_of (EcInit line target) = Some target
target_of _ = None
