use Rattle.std.proofs.Common.{map}
use Rattle.std.specs.String.{string_bytes}
use Rattle.clap.specs.Words.{app_of}
use Rattle.cord_shell.proofs.Commands.{asked, not_asked}
use Rattle.cord_shell.proofs.words.read_words.Goals as goal

pub returns-in-Ok-try_get_matches_from-clause-request : goal.returns-in-Ok-try_get_matches_from-clause-request
returns-in-Ok-try_get_matches_from-clause-request c =
    let m = c.in-Ok-try_get_matches_from in
    rw c.ok_or.ensures.value (asked (app_of c.in-Ok.command) (map string_bytes c.args.words.now) m.matches c.request_of.result
    c.in-Ok.ensures.command m.ensures.kinds m.ensures.matches c.request_of.ensures.script c.request_of.ensures.unplanned
    c.request_of.ensures.show_plan)

pub returns-in-Err-clause-none : goal.returns-in-Err-clause-none
returns-in-Err-clause-none c =
    not_asked (app_of c.in-Ok.command) (map string_bytes c.args.words.now) c.in-Err.error c.no_request.result c.in-Ok.ensures.command
    c.in-Err.ensures.kinds c.no_request.ensures
