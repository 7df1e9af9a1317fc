-- What the program's words came to, over the machine's devices.
use Rattle.std.specs.Prelude.{◌≡◌, ℕ, List, []}
use Rattle.cord_io.specs.Device.{FileSystem}
use Rattle.cord_shell.specs.Drives.{ComesTo}
use Rattle.cord_shell.specs.Headline.{Answer, counts_answered, err_counts_of}
use Rattle.cord_shell.specs.Outcomes.{message_of, status_of_outcome}
use Rattle.cord_shell.specs.Reports.{Reports}
use Rattle.cord_shell.specs.declared.outcome.Outcome.{Outcome}

-- this is what they came to, and the status and the message are those of it; the devices were new
pub record Drove (consistent : FileSystem → Type 0) (words : List (List ℕ)) (a : Answer) : Type 0 where
  pub outcome : Outcome
  pub comes : ComesTo consistent words [] a.out.taken (counts_answered a) outcome
  pub status : a.status ≡ status_of_outcome outcome
  pub reports : Reports [] a.err.taken (err_counts_of a) (message_of outcome)
