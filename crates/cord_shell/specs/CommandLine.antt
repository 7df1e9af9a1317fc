-- The command line of the program, as clap reads it.
use Rattle.std.specs.Prelude.{◌≡◌, ◌≢◌, ℕ, List, [], Bool, true, false, Some, codes}
use Rattle.std.specs.declared.option.Option.{Option}
use Rattle.std.specs.Option.{option_map_or}
use Rattle.std.specs.Str.{bytes_eq}
use Rattle.clap.specs.Kinds.{IsAmong}
use Rattle.clap.specs.Faults.{fault_of}
use Rattle.clap.specs.Walk.{Rule, first_of, one_of}
use Rattle.clap.specs.Simple.{App, matches_of, new_app, new_rule, on_top, with_rule}
use Rattle.clap.specs.declared.builder.action.ArgAction.TheVariants.{Set, SetTrue}
use Rattle.clap.specs.declared.error.kind.ErrorKind.{ErrorKind}
use Rattle.clap.specs.declared.error.kind.ErrorKind.TheVariants.{DisplayHelp}

-- a flag, which takes no value
abbrev pub flag_rule : List ℕ → Rule
flag_rule name = record (new_rule name) { long = Some name; action = Some SetTrue }

-- the one word that has to be there
abbrev pub script_rule : Rule
script_rule = record (new_rule (codes "SCRIPT")) { action = Some Set; required = true }

-- the command `[--unplanned] [--show-plan] SCRIPT`, over the words after the program's name
abbrev pub command : App
command =
    with_rule
    (with_rule
    (with_rule (on_top (λ s. record s { no_binary_name = true }) (new_app (codes "cordsh")))
    (flag_rule (codes "unplanned")))
    (flag_rule (codes "show-plan")))
    script_rule

-- whether this is the text of a flag that was given
abbrev pub is_given : Option (List ℕ) → Bool
is_given text = option_map_or (λ t. bytes_eq t (codes "true")) text false

-- clap takes the words: they name this script, and these of the flags were given
abbrev pub AsksFor : List (List ℕ) → List ℕ → Bool → Bool → Type 0
AsksFor words path unplanned show_plan = (fault_of command words ≡ [])
    × (first_of (codes "SCRIPT") (matches_of command words) ≡ Some path)
    × (unplanned ≡ is_given (one_of (codes "unplanned") (matches_of command words)))
    × (show_plan ≡ is_given (one_of (codes "show-plan") (matches_of command words)))

-- clap answers the words with its help
abbrev pub AsksForHelp : List (List ℕ) → Type 0
AsksForHelp words = IsAmong DisplayHelp (fault_of command words)

-- clap refuses the words
abbrev pub IsRefused : List (List ℕ) → Type 0
IsRefused words = (kind : ErrorKind) × (kind ≢ DisplayHelp) × IsAmong kind (fault_of command words)
