use Rattle.cord_run.proofs.Common.{ap, sym, cord_in, made_view}
use Rattle.cord_run.proofs.Edits.{edit_needed, edit_text}
use Rattle.cord_run.proofs.targets.edits.edit_of.Goals as goal

pub returns : goal.returns
returns c =
    let x = c.args.target.now in
    let form = c.in_ok-form.form in
    let here = c.in_ok-place.ensures in
    record {
      at = here;
      whole = c.in_ok-cord.ensures.whole;
      needed = edit_needed x (made_view c.args.made.now) form c.in_ok-form.ensures;
      text = edit_text c.args.store.now.entries.items x (made_view c.args.made.now) form c.in_ok-form.ensures c.in_ok-cord.cord.now
          (sym (ap cord_in (c.in_ok-cord.ensures.some x here.first))) c.len.result c.len.ensures.stored c.in_ok-replaced.replaced
          c.in_ok-replaced.ensures;
    }
