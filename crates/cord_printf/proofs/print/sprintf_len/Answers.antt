use Rattle.std.proofs.Common.{◌+◌, ◌-◌, ◌^◌, ◌<◌, ◌∙◌, sym, drop, length, option_map, arith}
use Rattle.cord_io.specs.declared.TheConstants.{MAX_LEN}
use Rattle.cord_node.specs.Tree.{known}
use Rattle.cord_printf.specs.PieceText.{printed}
use Rattle.cord_printf.specs.Printing.{argument_of, arguments_of}
use Rattle.cord_printf.specs.inner.PieceLayouts.{shown_text}
use Rattle.cord_printf.proofs.Prints.{further, counted_more, all_counted}
use Rattle.cord_printf.proofs.Tables.{length_of_print}
use Rattle.cord_printf.proofs.print.sprintf_len.Goals as goal

pub loop-piece-preserved : goal.loop-piece-preserved
loop-piece-preserved c =
    let rest = c.loop-piece.rest.now in
    let others = c.next_argument.result.1.now in
    let pieces = c.pieces-piece-items.result.now in
    let shown = shown_text c.in_ok-shown.shown in
    let step = further c.args.args.now rest others pieces c.loop-piece.piece-index c.piece-item.result
    (option_map (λ a. argument_of a.now) c.next_argument.result.0) shown c.loop-piece-test.true c.piece-item.is
    c.next_argument.ensures.argument c.next_argument.ensures.others c.in_ok-shown.ensures.text c.in_ok-shown.ensures.taken
    c.loop-piece.invariant.wanted_are c.loop-piece.invariant.fewer in
    record {
      wanted_are = step.wanted_are;
      fewer = step.fewer;
      counted = counted_more (2 ^ 64 - 1) c.loop-piece.total c.saturating_add-total.result c.len.result shown
          (printed known (drop (c.loop-piece.piece-index + 1) pieces) (arguments_of others))
          (printed known (drop c.loop-piece.piece-index pieces) (arguments_of rest)) _ step.text c.len.ensures
          c.saturating_add-total.ensures c.loop-piece.invariant.counted;
      refused = sym step.refused ∙ c.loop-piece.invariant.refused;
    }

pub returns-clause-over : goal.returns-clause-over
returns-clause-over c =
    let whole = printed known c.args.format.now (arguments_of c.args.args.now) in
    let below : MAX_LEN < 2 ^ 64 - 1 = omega arith in
    let counted =
    all_counted c.pieces-piece-items.result.now c.loop-piece.piece-index (arguments_of c.loop-piece.rest.now) c.loop-piece.total
    (length whole) (2 ^ 64 - 1) MAX_LEN c.loop-piece-test.false c.loop-piece.invariant.counted c.if-total-gt-MAX_LEN.false below in
    length_of_print c.args.format.now c.args.args.now c.loop-piece.total counted
