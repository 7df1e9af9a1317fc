use Rattle.cord_run.proofs.Common.{sym, ◌∙◌}
use Rattle.std.proofs.lemmas.List.{get_or-replicate}
use Rattle.cord_run.proofs.Entries.{key_of_none}
use Rattle.cord_run.proofs.store.slots.no_keys.Goals as goal

pub returns : goal.returns
returns c = record { named = λ x slot bytes inside is. absurd (key_of_none x (sym (get_or-replicate 256 slot 8 0 inside) ∙ is)) }
