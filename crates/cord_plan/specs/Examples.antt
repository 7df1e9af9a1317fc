-- Scripts whose plans are computed, beside those whose runs are.
use Rattle.std.specs.Prelude.{ℕ, List, [], ◌∷◌, ◌++◌, Option, Some, codes}
use Rattle.cord_syntax.specs.declared.statements.Statement.{Statement}
use Rattle.cord_syntax.specs.declared.statements.Statement.TheVariants.{Let, File, Chars, Cat, Substr, Len, Put}
use Rattle.cord_io.specs.Device.{FileSystem}
use Rattle.cord_io.specs.declared.TheConstants.{MAX_LEN}
use Rattle.cord_meaning.specs.declared.TheConstants.{MAX_TURNS}
use Rattle.cord_meaning.specs.Machine.{Config, after}
use Rattle.cord_meaning.specs.Examples.{numeral}
use Rattle.cord_plan.specs.Liveness.{later_within}
use Rattle.cord_plan.specs.Exprs.{Expr, name, run, cat, sub, nothing, member}
use Rattle.cord_plan.specs.Planned.{Operation, Measure, Write, Keep, Joined, Literal, OfEager, planned}
use Rattle.cord_plan.specs.Meaning.{Holding, start_holding, plan_rules}
use Rattle.cord_plan.specs.PlanText.{text_of_plan}

-- `let a "abc" ; let b "def" ; cat t a b ; substr z t 2 3 ; put z`
abbrev pub substr_over_seam : List Statement
substr_over_seam =
    Let 1 (codes "a") (codes "abc")
    ∷ Let 2 (codes "b") (codes "def")
    ∷ Cat 3 (codes "t") (codes "a") (codes "b")
    ∷ Substr 4 (codes "z") (codes "t") (numeral 2) (numeral 3)
    ∷ Put 5 (codes "z")
    ∷ []

-- the expressions of its lines 3 and 4
abbrev pub joined_over_seam : Expr
joined_over_seam = cat (member (name (codes "a")) (member (name (codes "b")) nothing))

abbrev pub part_over_seam : Expr
part_over_seam = sub joined_over_seam (numeral 2) (numeral 3)

-- `chars a 0 1099511627775 ; let b "b" ; cat t a b ; substr z t 0 1 ; put b`
abbrev pub substr_of_unread_cat_too_long : List Statement
substr_of_unread_cat_too_long =
    Chars 1 (codes "a") (numeral 0) (numeral 1099511627775)
    ∷ Let 2 (codes "b") (codes "b")
    ∷ Cat 3 (codes "t") (codes "a") (codes "b")
    ∷ Substr 4 (codes "z") (codes "t") (numeral 0) (numeral 1)
    ∷ Put 5 (codes "b")
    ∷ []

-- `let a "a" ; let b "b" ; cat t a b ; cat u t b ; put u`
abbrev pub cat_in_cat : List Statement
cat_in_cat =
    Let 1 (codes "a") (codes "a")
    ∷ Let 2 (codes "b") (codes "b")
    ∷ Cat 3 (codes "t") (codes "a") (codes "b")
    ∷ Cat 4 (codes "u") (codes "t") (codes "b")
    ∷ Put 5 (codes "u")
    ∷ []

-- `file x` with a path of the bytes `a`, `"` and 200
abbrev pub path_with_quote : List Statement
path_with_quote = File 1 (codes "x") (97 ∷ 34 ∷ 200 ∷ []) ∷ []

-- what its plan shows: the last two as backslash, `x` and two digits
abbrev pub text_of_path_with_quote : List ℕ
text_of_path_with_quote = codes "1 measure x file(" ++ 34 ∷ 97 ∷ 92 ∷ codes "x22" ++ 92 ∷ codes "xc8" ++ 34 ∷ codes ")\n"

-- the plan of a script, where paths of at most k steps tell what is read later, and its text
abbrev pub plan_of : ℕ → List Statement → List Operation
plan_of k s = planned s (λ x p. later_within s k x p)

abbrev pub plan_text : ℕ → List Statement → List ℕ
plan_text k s = text_of_plan (plan_of k s)

-- a run of a plan after k steps
abbrev pub plan_after : List Operation → FileSystem → ℕ → Config (Option Holding)
plan_after plan files k = after (plan_rules MAX_LEN files) MAX_TURNS plan k (Some start_holding)

-- a plan that no script has: it puts a name of which it only computed the length
abbrev pub measured_and_put : List Operation
measured_and_put =
    Measure 1 (codes "a") (Literal (codes "abc"))
    ∷ Keep (Len 2 (codes "n") (codes "a"))
    ∷ Write 3 (name (codes "a"))
    ∷ []

-- a plan that computes the length of a file that isn't there
abbrev pub missing_file_measured : List Operation
missing_file_measured = Measure 1 (codes "x") (OfEager (codes "p")) ∷ []

-- a plan that computes the length of a `cat` whose text would be too long
abbrev pub too_long_measured : List Operation
too_long_measured =
    Measure 1 (codes "a") (Joined (run (numeral 0) (numeral 1099511627775)))
    ∷ Measure 2 (codes "t") (Joined (cat (member (name (codes "a")) (member (run (numeral 0) (numeral 1)) nothing))))
    ∷ []
