use Rattle.cord_search.proofs.Common.{Some, arith, refl, ◌-◌, ◌∙◌}
use Rattle.cord_search.proofs.Lemmas.{moved_there, never_none, up_to_end}
use Rattle.cord_pos.specs.Spans.{IsBehindOf}
use Rattle.cord_search.proofs.spans.span_up_to.Goals as goal

pub unreachable-requires : goal.unreachable-requires
unreachable-requires c =
    let here = c.move_to.ensures.index ∙ moved_there c.args.position.now.cord c.args.position.now.index (c.args.end - 1) c.requires.valid
    (omega (arith, c.requires.some, c.requires.inside)) in
    never_none (IsBehindOf c.args.position.now.cord (Some (c.args.end - 1))) c.behind.result (λ none. none)
    (rw (c.move_to.ensures.cord, here) at c.behind.ensures.span) c.in_default.not-Some

pub returns : goal.returns
returns c =
    let here = c.move_to.ensures.index ∙ moved_there c.args.position.now.cord c.args.position.now.index (c.args.end - 1) c.requires.valid
    (omega (arith, c.requires.some, c.requires.inside)) in
    record {
      span = up_to_end c.args.position.now.cord c.args.end c.in-Some.span c.requires.some
          (rw (c.in-Some.is, c.move_to.ensures.cord, here) at c.behind.ensures.span);
      moved = record { cord = c.move_to.ensures.cord; valid = rw here refl };
    }
