-- What clap reports of the program's words.
use Rattle.std.proofs.Common.{◌≡◌, ◌∙◌, ℕ, List, [], ◌∷◌, zero, suc, Option, Some, None, codes, ap, sym, subst, refl, inl, inr, arith}
use Rattle.std.proofs.Common.{is_some, true, false, true≢false}
use Rattle.std.specs.Prelude.{IfSome, IfOk}
use Rattle.std.specs.Option.{ok_or}
use Rattle.std.specs.List.{All}
use Rattle.std.specs.Str.{bytes_eq}
use Rattle.clap.specs.Words.{App, Rule, rule_of, AddsArg, HasMatchesOf, HasKind, IsAmong, IsParsedFrom, IsPlainArg, args_of, groups_of}
use Rattle.clap.specs.Words.{fault_of, first_of, first_value, found_of, is_simple, is_simple_and_free, kind_of, matches_of, one_of}
use Rattle.clap.specs.Words.{one_text, rows_of}
use Rattle.clap.specs.Built.{FitsChain, HasDistinctIds, TakesValue}
use Rattle.clap.specs.declared.builder.arg.Arg.{Arg}
use Rattle.clap.specs.declared.builder.command.Command.{Command}
use Rattle.clap.specs.declared.builder.command.Command.TheViews.{out-Command}
use Rattle.clap.specs.declared.error.Error.{Error}
use Rattle.clap.specs.declared.error.kind.ErrorKind.{ErrorKind}
use Rattle.clap.specs.declared.error.kind.ErrorKind.TheVariants.{DisplayHelp, OutOfMemory}
use Rattle.clap.specs.declared.parser.matches.ArgMatches.{ArgMatches}
use Rattle.clap.proofs.CallerLemmas.{required_in_chain}
use Rattle.clap.proofs.OnLiterals.{clap_on_literals}
use Rattle.clap.proofs.WalkLemmas.{first_value-rows, one_text-rows}
use Rattle.cord_shell.specs.CommandLine.{command, is_given}
use Rattle.cord_shell.specs.inner.CommandLine.{IsNoRequest, IsRequest}
use Rattle.cord_shell.specs.inner.CommandLine.{IsKindOf}
use Rattle.cord_shell.specs.declared.words.NoRequest.{NoRequest}
use Rattle.cord_shell.specs.declared.words.NoRequest.TheVariants.{Help, Refused, NoMemory}
use Rattle.cord_shell.specs.declared.words.Request.{Request}

simple : is_simple command ≡ true
unfolding clap_on_literals
simple = refl

free : is_simple_and_free command ≡ true
unfolding clap_on_literals
free = refl

-- what is read of the matches is read of clap's rows
pub asked : (app : App) (words : List (List ℕ)) (m : ArgMatches) (r : Option Request) → app ≡ command
    → (is_simple_and_free app ≡ true → fault_of app words ≡ []) → HasMatchesOf app words m
    → IfSome r (λ q. first_value (found_of m) (codes "SCRIPT") ≡ Some q.script.now)
    → IfSome r (λ q. q.unplanned ≡ is_given (one_text (found_of m) (codes "unplanned")))
    → IfSome r (λ q. q.show_plan ≡ is_given (one_text (found_of m) (codes "show-plan")))
    → IfOk (ok_or r Refused) (IsRequest words)
asked app words m None is faults matches script unplanned show_plan = tt
asked app words m (Some q) is faults matches script unplanned show_plan =
    let same : HasMatchesOf command words m = subst (λ (a : App). HasMatchesOf a words m) is matches in
    let rows : rows_of (found_of m) ≡ matches_of command words = (same simple).0 in
    let none : fault_of command words ≡ [] = subst (λ (a : App). is_simple_and_free a ≡ true → fault_of a words ≡ []) is faults free in (
      none,
      ap (first_of (codes "SCRIPT")) (sym rows) ∙ sym (first_value-rows (found_of m) (codes "SCRIPT")) ∙ script,
      unplanned ∙ ap is_given (one_text-rows (found_of m) (codes "unplanned") ∙ ap (one_of (codes "unplanned")) rows),
      show_plan ∙ ap is_given (one_text-rows (found_of m) (codes "show-plan") ∙ ap (one_of (codes "show-plan")) rows),
    )

-- clap's error is one of those that the words have
pub not_asked : (app : App) (words : List (List ℕ)) (e : Error) (why : NoRequest) → app ≡ command
    → (is_simple_and_free app ≡ true → HasKind (fault_of app words) e) → IsKindOf (kind_of e) why → IsNoRequest words why
not_asked app words e why is faults reported =
    go why reported (subst (λ (a : App). is_simple_and_free a ≡ true → HasKind (fault_of a words) e) is faults free)
  where
    go : (w : NoRequest) → IsKindOf (kind_of e) w → HasKind (fault_of command words) e → IsNoRequest words w
    go (Help text) k (inl memory) =
        let bad : DisplayHelp ≡ OutOfMemory = sym k ∙ memory in cc
    go (Help text) k (inr among) = subst (λ (kind : ErrorKind). IsAmong kind (fault_of command words)) k among
    go Refused k (inl memory) = absurd (k.1 memory)
    go Refused k (inr among) = (kind_of e, k.0, among)
    go NoMemory k h = tt

differs : (a b : List ℕ) {X : Type 0} → bytes_eq a b ≡ false → bytes_eq a b ≡ true → X
differs a b apart same = absurd (true≢false (sym same ∙ apart))

-- three ids that differ
three_ids : (a b c : Arg) → bytes_eq a.id.now b.id.now ≡ false → bytes_eq a.id.now c.id.now ≡ false → bytes_eq b.id.now a.id.now ≡ false
    → bytes_eq b.id.now c.id.now ≡ false → bytes_eq c.id.now a.id.now ≡ false → bytes_eq c.id.now b.id.now ≡ false
    → HasDistinctIds (a ∷ b ∷ c ∷ [])
three_ids a b c ab ac ba bc ca cb zero zero d e lt below same = refl
three_ids a b c ab ac ba bc ca cb zero (suc zero) d e lt below same = differs a.id.now b.id.now ab same
three_ids a b c ab ac ba bc ca cb zero (suc (suc zero)) d e lt below same = differs a.id.now c.id.now ac same
three_ids a b c ab ac ba bc ca cb (suc zero) zero d e lt below same = differs b.id.now a.id.now ba same
three_ids a b c ab ac ba bc ca cb (suc zero) (suc zero) d e lt below same = refl
three_ids a b c ab ac ba bc ca cb (suc zero) (suc (suc zero)) d e lt below same = differs b.id.now c.id.now bc same
three_ids a b c ab ac ba bc ca cb (suc (suc zero)) zero d e lt below same = differs c.id.now a.id.now ca same
three_ids a b c ab ac ba bc ca cb (suc (suc zero)) (suc zero) d e lt below same = differs c.id.now b.id.now cb same
three_ids a b c ab ac ba bc ca cb (suc (suc zero)) (suc (suc zero)) d e lt below same = refl
three_ids a b c ab ac ba bc ca cb (suc (suc (suc j))) k d e lt below same = absurd (omega arith)
three_ids a b c ab ac ba bc ca cb zero (suc (suc (suc k))) d e lt below same = absurd (omega arith)
three_ids a b c ab ac ba bc ca cb (suc zero) (suc (suc (suc k))) d e lt below same = absurd (omega arith)
three_ids a b c ab ac ba bc ca cb (suc (suc zero)) (suc (suc (suc k))) d e lt below same = absurd (omega arith)

-- an argument with an id of the program's own
fits : (a : Arg) (id : List ℕ) → a.id.now ≡ id → (id ≡ [] → ⊥) → (id ≡ codes "help" → ⊥) → (id ≡ codes "version" → ⊥) → IsPlainArg a →
    a.global ≡ false → FitsChain a
fits a id is empty help version plain local = (
  plain,
  local,
  (λ e. empty (sym is ∙ e)),
  (λ auto. elim auto [ inl h ↦ help (sym is ∙ h) | inr h ↦ version (sym is ∙ h) ]),
)

same_ids : (a b x y : List ℕ) → a ≡ x → b ≡ y → bytes_eq x y ≡ false → bytes_eq a b ≡ false
same_ids a b x y p q h = rw (p, q) h

all_three : (a b c : Arg) → FitsChain a → FitsChain b → FitsChain c → All FitsChain (a ∷ b ∷ c ∷ [])
all_three a b c fa fb fc zero d lt = fa
all_three a b c fa fb fc (suc zero) d lt = fb
all_three a b c fa fb fc (suc (suc zero)) d lt = fc
all_three a b c fa fb fc (suc (suc (suc k))) d lt = absurd (omega arith)

-- a command with no argument yet
abbrev pub IsBare : Command → Type 0
IsBare c = (args_of c ≡ []) × (groups_of c ≡ []) × ((out-Command c).has_globals ≡ false) × ((out-Command c).subcommand_negates_reqs ≡ false)

-- it stays one where its words don't begin with the program's name
pub still_bare : (old new : Command) → out-Command new ≡ record (out-Command old) { no_binary_name = true } → IsBare old → IsBare new
still_bare old new same bare = (
  ap (λ f. f.args.items) same ∙ bare.0,
  ap (λ f. f.groups.items) same ∙ bare.1,
  ap (λ f. f.has_globals) same ∙ bare.2,
  ap (λ f. f.subcommand_negates_reqs) same ∙ bare.3,
)

-- an argument of this id that excludes nothing
abbrev pub IsNamed : Arg → List ℕ → Type 0
IsNamed a id = IsPlainArg a × (a.global ≡ false) × (a.id.now ≡ id)

pub named : (a : Arg) (rule : Rule) → rule_of a ≡ rule → IsPlainArg a → a.global ≡ false → IsNamed a rule.id
named a rule is plain local = (plain, local, ap (λ (r : Rule). r.id) is)

-- where the program's command takes the words, it finds the script's path
pub finds_script : (start one two three : Command) (unplanned show_plan script : Arg) → AddsArg start unplanned one →
    AddsArg one show_plan two → AddsArg two script three
    → IsBare start → IsNamed unplanned (codes "unplanned") → IsNamed show_plan (codes "show-plan") → IsNamed script (codes "SCRIPT") →
    TakesValue script
    → (m : ArgMatches) → IsParsedFrom three m → is_some (first_value (found_of m) (codes "SCRIPT")) ≡ true
finds_script start one two three unplanned show_plan script first second third bare u p s value m parsed =
    let all = unplanned ∷ show_plan ∷ script ∷ [] in
    let fit-u = fits unplanned (codes "unplanned") u.2 (λ e. cc) (λ e. cc) (λ e. cc) u.0 u.1 in
    let fit-p = fits show_plan (codes "show-plan") p.2 (λ e. cc) (λ e. cc) (λ e. cc) p.0 p.1 in
    let fit-s = fits script (codes "SCRIPT") s.2 (λ e. cc) (λ e. cc) (λ e. cc) s.0 s.1 in
    let distinct : HasDistinctIds all = three_ids unplanned show_plan script
    (same_ids _ _ _ _ u.2 p.2 refl) (same_ids _ _ _ _ u.2 s.2 refl) (same_ids _ _ _ _ p.2 u.2 refl)
    (same_ids _ _ _ _ p.2 s.2 refl) (same_ids _ _ _ _ s.2 u.2 refl) (same_ids _ _ _ _ s.2 p.2 refl) in
    let found = required_in_chain start three all 2 script m (one, first, (two, second, (three, third, refl))) bare.0 bare.1 bare.2 bare.3
    (all_three unplanned show_plan script fit-u fit-p fit-s) distinct (omega arith) value parsed in
    subst (λ (id : List ℕ). is_some (first_value (found_of m) id) ≡ true) s.2 found
