-- What the code goes by that finds what is read later, and notes which lines assign and read each name last.
use Rattle.std.specs.Prelude.{◌≡◌, ℕ, zero, suc, ◌-◌, Bool, true, false, not, nat_le, ◌||◌, List, length, if◌then◌else◌, Option, Some, None}
use Rattle.std.specs.Prelude.{slice_get, option_map, unwrap_or, ◌+◌, ◌<◌, ◌≤◌, ◌&&◌, [], ◌∷◌, drop, is_some, ◌/◌, ◌%◌, map, get_or, Vec}
use Rattle.cord_syntax.specs.declared.statements.Statement.{Statement}
use Rattle.cord_plan.specs.Operands.{reads_at, assigns, reads, target_of, assigns_at}
use Rattle.cord_plan.specs.Inlined.{each_from, is_block_at, preserves, setter}
use Rattle.cord_plan.specs.inner.Numbering.{IsNumbering, names_of, number_of, bit, column, IsBit}
use Rattle.cord_plan.specs.declared.flow.numbering.Numbering.{Numbering}
use Rattle.cord_plan.specs.declared.flow.recent.Recent.{Recent}
use Rattle.cord_syntax.specs.declared.statements.Statement.TheVariants.{Chars, Nul, Cat, Catn, Catc, Substr, Put}
use Rattle.cord_plan.specs.declared.flow.straight_line.LineLater.{LineLater}
use Rattle.std.specs.Global.{Global}
use Rattle.std.specs.Option.{option_to_list}
use Rattle.cord_meaning.specs.Statements.{shape_of}
use Rattle.cord_plan.specs.Liveness.{ReadBy, IsLater, successors, some_of}
use Rattle.cord_plan.specs.declared.flow.liveness.Later.{Later}
use Rattle.cord_plan.specs.declared.flow.liveness.Found.{Found}
use Rattle.cord_plan.specs.declared.flow.liveness.Found.TheVariants.{ByLines, ByGroups}
use Rattle.cord_plan.specs.declared.flow.successors.Shape.{Shape}
use Rattle.cord_plan.specs.declared.flow.successors.Shape.TheVariants.{Straight, Loop, Branch, Otherwise, Close}
use Rattle.cord_plan.specs.declared.flow.successors.Successors.{Successors}
use Rattle.cord_plan.specs.declared.flow.successors.Turn.{Turn}
use Rattle.cord_plan.specs.declared.flow.successors.Turn.TheVariants.{Closed, Turned, Inside}
use Rattle.cord_meaning.specs.Blocks as blocks

-- the last line before p that reads x, and the last one of a block
abbrev pub reader : List Statement → List ℕ → ℕ → Option ℕ
reader s x zero = None
reader s x (suc p) = if reads_at (slice_get s p) x then Some p else reader s x p

abbrev pub blocker : List Statement → ℕ → Option ℕ
blocker s zero = None
blocker s (suc p) = if is_block_at (slice_get s p) then Some p else blocker s p

-- whether no line from a up to b assigns one of these names
abbrev pub stay : List Statement → ℕ → ℕ → List (List ℕ) → Bool
stay s a b xs = each_from (λ m. preserves (slice_get s m) xs) (b - a) a

-- whether a place, where there is one, stands after another
abbrev pub is_after : Option ℕ → ℕ → Bool
is_after None a = false
is_after (Some p) a = not (nat_le p a)

-- the last line that assigns a name, where neither of the other places stands after it
abbrev pub unless_after : Option ℕ → Option ℕ → Option ℕ → Option ℕ
unless_after None r k = None
unless_after (Some a) r k = if is_after r a || is_after k a then None else Some a

-- whether a place, where there is one, stands before another
abbrev pub is_before : Option ℕ → ℕ → Bool
is_before None a = true
is_before (Some p) a = not (nat_le a p)

-- what places, by the numbers of names, have for a name, where they have anything
abbrev pub entry_at : List (Option ℕ) → Option ℕ → Option ℕ
entry_at places None = None
entry_at places (Some n) = unwrap_or (slice_get places n) None

abbrev pub entry_of : Numbering → List (Option ℕ) → List ℕ → Option ℕ
entry_of t places x = entry_at places (number_of t x)

-- the places are as many as the names
abbrev pub AreFor : Numbering → List (Option ℕ) → Type 0
AreFor t places = length places ≡ length (names_of t)

-- places come to have this for the names of which this holds, and for no other
abbrev pub PutsPlaces : Numbering → (List ℕ → Bool) → Option ℕ → List (Option ℕ) → List (Option ℕ) → Type 0
PutsPlaces t holds v old new = (x : List ℕ) → entry_of t new x ≡ (if holds x then v else entry_of t old x)

-- the numbers are those of the lines, and the places those of the lines before b
pub record IsRecent (s : List Statement) (b : ℕ) (r : Recent) : Type 0 where
  pub numbered : IsNumbering s r.later.now.numbering
  pub assigned_for : AreFor r.later.now.numbering r.assigned.items
  pub read_for : AreFor r.later.now.numbering r.read.items
  pub assigned : (x : List ℕ) → entry_of r.later.now.numbering r.assigned.items x ≡ setter s x b
  pub read : (x : List ℕ) → entry_of r.later.now.numbering r.read.items x ≡ reader s x b
  pub block : r.block ≡ blocker s b

-- the cord operands of a simple line; of other lines there are none
abbrev pub simple_operands : Statement → Option (List (List ℕ))
simple_operands (Cat line target left right) = Some (left ∷ right ∷ [])
simple_operands (Catn line target many) = Some many
simple_operands (Catc line target operand byte) = Some (operand ∷ [])
simple_operands (Chars line target byte n) = Some []
simple_operands (Nul line target n) = Some []
simple_operands (Substr line target operand start n) = Some (operand ∷ [])
simple_operands (Put line operand) = Some (operand ∷ [])
simple_operands l = None

-- what the flow back over a line makes of a bit
abbrev pub flow : Bool → Bool → Bool → Bool
flow here successors assigned = here || (successors && not assigned)

-- whether one of these lines reads a name before one assigns it
abbrev pub later_in : List Statement → List ℕ → Bool
later_in [] x = false
later_in (l ∷ ls) x = flow (reads l x) (later_in ls x) (assigns l x)

-- places, by the numbers of names, have a line for each name that these lines read before one assigns it, and for no other
pub record AreNextReads (ls : List Statement) (t : Numbering) (places : List (Option ℕ)) : Type 0 where
  pub places_for : AreFor t places
  pub reported : (x : List ℕ) → is_some (entry_of t places x) ≡ later_in ls x

-- the bits of these names are those of which it holds, for the first of them
abbrev pub AreBits : (List ℕ → Bool) → List (List ℕ) → ℕ → Type 0
AreBits holds xs w = (i : ℕ) (x : List ℕ) → i < 16 → slice_get xs i ≡ Some x → bit w i ≡ holds x

-- what is asked of a line: whether the name that it assigns is read later, and which of its first operands are
pub record IsLineLater (l : Statement) (later : List ℕ → Bool) (line : LineLater) : Type 0 where
  pub target : (x : List ℕ) → target_of l ≡ Some x → line.target ≡ later x
  pub operands : (xs : List (List ℕ)) → simple_operands l ≡ Some xs → (i : ℕ) (x : List ℕ) → i < 16 → slice_get xs i ≡ Some x →
      bit line.operands i ≡ later x

-- of each line from p on it is reported
abbrev pub AreReportedFrom : List Statement → ℕ → List LineLater → Type 0
AreReportedFrom s p lines = (k : ℕ) (l : Statement) → p ≤ k → slice_get s k ≡ Some l → (line : LineLater) × (slice_get lines k ≡ Some line)
    × IsLineLater l (λ x. later_in (drop (k + 1) s) x) line

-- the shape that a shape of the program stands for
abbrev pub shape_view : Shape → blocks.Shape
shape_view Straight = blocks.Straight
shape_view Loop = blocks.Loop
shape_view Branch = blocks.Branch
shape_view Otherwise = blocks.Otherwise
shape_view Close = blocks.Close

-- how a statement leads on a search for the end of a block, where so many blocks are open inside it
abbrev pub turn_of : blocks.Shape → ℕ → Turn
turn_of blocks.Straight d = Inside d
turn_of blocks.Loop d = Inside (suc d)
turn_of blocks.Branch d = Inside (suc d)
turn_of blocks.Otherwise zero = Turned
turn_of blocks.Otherwise (suc d) = Inside (suc d)
turn_of blocks.Close zero = Closed
turn_of blocks.Close (suc d) = Inside d

-- the innermost open block, where it is a `repeat`
abbrev pub innermost : List (Option ℕ) → Option ℕ
innermost [] = None
innermost (block ∷ blocks) = block

-- the places of the program as a list
abbrev pub places : Successors → List ℕ
places b = b.0 ∷ option_to_list b.1

-- the same of the place at p; after the script there is none
abbrev pub places_at : List Successors → ℕ → List ℕ
places_at successor_table p = unwrap_or (option_map (λ b. places b) (slice_get successor_table p)) []

-- these are the places that may come next after each place, whether a line stands there or not
abbrev pub ArePaths : List blocks.Shape → List Successors → Type 0
ArePaths shapes successor_table = (p : ℕ) → places_at successor_table p ≡ successors shapes p

-- no line opens, parts or closes a block
abbrev pub NoBlocks : List Statement → Type 0
NoBlocks s = (p : ℕ) → is_block_at (slice_get s p) ≡ false

-- whether a table of places has a place
abbrev pub at : List Bool → ℕ → Bool
at table p = get_or table p false

module _ (s : List Statement) (x : List ℕ) (table : List Bool) where
  -- it has each place whose line reads x, and a path that reads x begins at each place that it has
  pub record IsPartly : Type 0 where
    pub size : length table ≡ length s
    pub reads : (p : ℕ) → reads_at (slice_get s p) x ≡ true → at table p ≡ true
    pub found : (p : ℕ) → at table p ≡ true → (path : List ℕ) × ReadBy s x p path

  -- whether the flow back over the line at p finds a place that the table doesn't have
  abbrev pub finds : ℕ → Bool
  finds p = not (at table p) && (some_of (λ q. at table q) (successors (map shape_of s) p) && not (assigns_at (slice_get s p) x))

  -- it has the places from which a path reads x before it assigns it, and no other
  pub record IsLive : Type 0 where
    pub partly : IsPartly
    pub resting : (p : ℕ) → finds p ≡ false

module _ (s : List Statement) (t : Numbering) (g : ℕ) (words : List ℕ) where
  -- the bits of each line are the name of the group that it assigns
  pub record AreAssigned : Type 0 where
    pub size : length words ≡ length s
    pub reported : (x : List ℕ) (i : ℕ) → IsBit t g x i → (p : ℕ) → at (column words i) p ≡ assigns_at (slice_get s p) x

  -- each name of the group has its places partly
  pub record ArePartly : Type 0 where
    pub size : length words ≡ length s
    pub reported : (x : List ℕ) (i : ℕ) → IsBit t g x i → IsPartly s x (column words i)

  -- each name of the group has its live places
  abbrev pub AreLive : Type 0
  AreLive = (x : List ℕ) (i : ℕ) → IsBit t g x i → IsLive s x (column words i)

-- the live places of the name of a number
abbrev pub column_of : List (Vec ℕ Global) → Option ℕ → List Bool
column_of groups None = []
column_of groups (Some n) = unwrap_or (option_map (λ g. column g.items (n % 128)) (slice_get groups (n / 128))) []

-- whether the name of a number is read later than the line at p, by the live places of groups of names
abbrev pub reports_of : List Successors → List (Vec ℕ Global) → Option ℕ → ℕ → Bool
reports_of successor_table groups number p = some_of (λ q. at (column_of groups number) q) (places_at successor_table p)

-- whether a name is read later than the line at p
abbrev pub found_reports : List Statement → Numbering → Found → List ℕ → ℕ → Bool
found_reports s t (ByLines lines) x p = later_in (drop (p + 1) s) x
found_reports s t (ByGroups successor_table groups) x p = reports_of successor_table.items groups.items (number_of t x) p

-- what a table tells: whether a name is read later than the line at a place
abbrev pub reports : Later → List ℕ → ℕ → Bool
reports t x p = found_reports t.statements.now t.numbering t.found x p

-- what is asked of the line l at p is reported
abbrev pub IsReportedBy : List Statement → Found → Statement → ℕ → Type 0
IsReportedBy s found l p = (lines : Vec LineLater Global) → found ≡ ByLines lines → (line : LineLater) ×
    (slice_get lines.items p ≡ Some line)
    × IsLineLater l (λ x. later_in (drop (p + 1) s) x) line

abbrev pub IsReported : Later → Statement → ℕ → Type 0
IsReported t l p = (slice_get t.statements.now p ≡ Some l) × IsReportedBy t.statements.now t.found l p

-- and of each line
abbrev pub AllReported : List Statement → Later → Type 0
AllReported s t = (p : ℕ) (l : Statement) → slice_get s p ≡ Some l → IsReported t l p

-- what was found of a script, whose names are numbered, tells what is read later, and what is asked of each line
pub record IsFound (s : List Statement) (t : Numbering) (found : Found) : Type 0 where
  pub later : IsLater s (found_reports s t found)
  pub reported : (p : ℕ) (l : Statement) → slice_get s p ≡ Some l → IsReportedBy s found l p

-- the group of each name is live
abbrev pub AllLive : List Statement → Numbering → List (Vec ℕ Global) → Type 0
AllLive s t groups = (n : ℕ) → n < length (names_of t) → (group : Vec ℕ Global) × (slice_get groups (n / 128) ≡ Some group) ×
    AreLive s t (n / 128) group.items
