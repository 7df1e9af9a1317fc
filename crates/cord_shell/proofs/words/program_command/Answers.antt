use Rattle.std.proofs.Common.{◌∙◌, ap}
use Rattle.std.proofs.lemmas.Result.{IfOk-weaker}
use Rattle.cord_shell.proofs.Commands.{IsBare, finds_script, named, still_bare}
use Rattle.cord_shell.specs.CommandLine.{flag_rule, script_rule}
use Rattle.std.specs.Prelude.{codes}
use Rattle.cord_shell.proofs.words.program_command.Goals as goal

pub returns-clause-required : goal.returns-clause-required
returns-clause-required c =
    let made = c.new.ensures in
    let start = still_bare c.new.result c.no_binary_name.result c.no_binary_name.ensures
    (made.empty.0, made.empty.1, made.local, made.negates) in
    let helped = c.after_help-bare.ensures in
    let bare : IsBare c.after_help-bare.result = (
      ap (λ f. f.args.items) helped ∙ start.0,
      ap (λ f. f.groups.items) helped ∙ start.1,
      ap (λ f. f.has_globals) helped
          ∙ start.2,
      ap (λ f. f.subcommand_negates_reqs) helped ∙ start.3,
    ) in
    let unplanned = c.flag-unplanned.ensures in
    let show_plan = c.flag-show_plan.ensures in
    let script = c.script_word-script.ensures in
    IfOk-weaker c.arg-3.result _ _
    (λ three third. finds_script c.after_help-bare.result c.in_ok-arg.field-0 c.in_ok-arg-2.field-0 three c.flag-unplanned.result
    c.flag-show_plan.result c.script_word-script.result
    c.in_ok-arg.ensures c.in_ok-arg-2.ensures third bare
    (named c.flag-unplanned.result (flag_rule (codes "unplanned")) unplanned.rule unplanned.plain unplanned.local)
    (named c.flag-show_plan.result (flag_rule (codes "show-plan")) show_plan.rule show_plan.plain show_plan.local)
    (named c.script_word-script.result script_rule script.rule script.plain script.local) script.value)
    c.arg-3.ensures
