use Rattle.cord_search.proofs.Common.{Some, refl, ◌∙◌}
use Rattle.cord_search.proofs.Lemmas.{moved_there, never_none}
use Rattle.cord_pos.specs.Spans.{IsAheadOf}
use Rattle.cord_search.proofs.spans.span_from.Goals as goal

pub unreachable-requires : goal.unreachable-requires
unreachable-requires c =
    let here = c.move_to.ensures.index ∙ moved_there c.args.position.now.cord c.args.position.now.index c.args.place c.requires.valid
    c.requires.inside in
    never_none (IsAheadOf c.args.position.now.cord (Some c.args.place)) c.ahead.result (λ none. none)
    (rw (c.move_to.ensures.cord, here) at c.ahead.ensures.span) c.in_default.not-Some

pub returns : goal.returns
returns c =
    let here = c.move_to.ensures.index ∙ moved_there c.args.position.now.cord c.args.position.now.index c.args.place c.requires.valid
    c.requires.inside in
    record {
      span = rw (c.in-Some.is, c.move_to.ensures.cord, here) at c.ahead.ensures.span;
      moved = record { cord = c.move_to.ensures.cord; valid = rw here refl };
    }
