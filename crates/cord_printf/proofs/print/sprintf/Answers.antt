use Rattle.std.proofs.Common.{◌≡◌, ℕ, ◌+◌, ◌-◌, List, ◌++◌, ◌∙◌, ap, sym, drop, length, append_assoc, option_map, subst, arith}
use Rattle.cord_node.specs.Tree.{Cell, known}
use Rattle.cord_printf.specs.declared.arguments.Arg.{Arg}
use Rattle.cord_printf.specs.declared.pieces.Piece.{Piece}
use Rattle.cord_core.specs.Cord.{parts_of}
use Rattle.cord_printf.specs.Own.{all_own, arguments_parts}
use Rattle.cord_printf.specs.inner.Own.{parts_if}
use Rattle.cord_printf.specs.PieceText.{printed, first_refusal}
use Rattle.cord_printf.specs.Printing.{argument_of, arguments_of, AreWanted}
use Rattle.cord_printf.specs.inner.PieceLayouts.{body_parts, shown_own, shown_text}
use Rattle.cord_printf.proofs.Owned.{IsPrinting, own_next, own_shown, printing_start, printing_step, printing_end}
use Rattle.cord_printf.proofs.Prints.{further, all_written}
use Rattle.cord_printf.proofs.Tables.{print_of}
use Rattle.cord_printf.proofs.print.sprintf.Goals as goal

pub loop-piece-init : goal.loop-piece-init
loop-piece-init c =
    let pieces : List Piece = c.pieces-piece-items.result.now in
    let args : List Arg = c.args.args.now in
    let are : pieces ≡ c.args.format.now = c.pieces-piece-items.ensures in
    let none : length args - length args ≡ 0 = omega arith in
    record {
      wanted_are = subst (λ (ps : List Piece). AreWanted ps (arguments_of args)) (sym are) c.in_ok-sprintf_len.ensures.taken.wanted_are;
      fewer = omega arith;
      written = ap (λ (x : List Cell). x ++ printed known pieces (arguments_of args)) c.new-output.ensures.text
          ∙ ap (λ (ps : List Piece). printed known ps (arguments_of args)) are;
      printing = subst (λ (left : ℕ). IsPrinting (arguments_parts args) (all_own c.args.format.now (arguments_of args))
          c.new-output.result.parts (arguments_parts args) left) (sym (ap (λ (ps : List Piece). all_own ps (arguments_of args)) are))
          (printing_start (arguments_parts args) (all_own c.args.format.now (arguments_of args)) c.new-output.result.parts
          c.new-output.ensures.parts);
      refused = ap (λ (k : ℕ). first_refusal k pieces (arguments_of args)) none
          ∙ ap (λ (ps : List Piece). first_refusal 0 ps (arguments_of args)) are;
    }

pub loop-piece-preserved : goal.loop-piece-preserved
loop-piece-preserved c =
    let rest = c.loop-piece.rest.now in
    let others = c.next_argument.result.1.now in
    let pieces = c.pieces-piece-items.result.now in
    let shown = shown_text c.in_ok-shown.shown in
    let taken = option_map (λ a. a.now) c.next_argument.result.0 in
    let argument = option_map (λ a. argument_of a.now) c.next_argument.result.0 in
    let after = printed known (drop (c.loop-piece.piece-index + 1) pieces) (arguments_of others) in
    let step = further c.args.args.now rest others pieces c.loop-piece.piece-index c.piece-item.result
    (option_map (λ a. argument_of a.now) c.next_argument.result.0) shown c.loop-piece-test.true c.piece-item.is
    c.next_argument.ensures.argument c.next_argument.ensures.others c.in_ok-shown.ensures.text c.in_ok-shown.ensures.taken
    c.loop-piece.invariant.wanted_are c.loop-piece.invariant.fewer in
    record {
      wanted_are = step.wanted_are;
      fewer = step.fewer;
      written = ap (λ x. x ++ after) c.in_ok-add_shown.ensures.text ∙ append_assoc c.loop-piece.output.text shown after
          ∙ ap (λ x. c.loop-piece.output.text ++ x) (sym step.text) ∙ c.loop-piece.invariant.written;
      printing = printing_step (arguments_parts c.args.args.now) (all_own c.args.format.now (arguments_of c.args.args.now))
          c.loop-piece.output.parts c.add_shown.new.self.parts (parts_if taken) (arguments_parts others)
          (body_parts c.in_ok-shown.shown.body)
          (arguments_parts rest) (shown_own c.in_ok-shown.shown)
          (all_own (drop c.loop-piece.piece-index pieces) (arguments_of rest))
          (all_own (drop (c.loop-piece.piece-index + 1) pieces) (arguments_of others)) c.loop-piece.invariant.printing
          c.next_argument.ensures.parts c.in_ok-shown.ensures.parts_from
          (own_next pieces c.loop-piece.piece-index c.piece-item.result (arguments_of rest) (arguments_of others) argument
          (shown_own c.in_ok-shown.shown) c.loop-piece-test.true c.piece-item.is c.next_argument.ensures.argument
          c.next_argument.ensures.others (own_shown c.in_ok-shown.shown c.piece-item.result argument c.in_ok-shown.ensures.text
          c.in_ok-shown.ensures.of_cord))
          c.in_ok-add_shown.ensures.made;
      refused = sym step.refused ∙ c.loop-piece.invariant.refused;
    }

pub returns-clause-over : goal.returns-clause-over
returns-clause-over c = print_of c.args.format.now c.args.args.now c.loop-piece.output.text c.in_ok-cord.cord c.in_ok-cord.ensures.over
    (all_written c.pieces-piece-items.result.now c.loop-piece.piece-index (arguments_of c.loop-piece.rest.now) c.loop-piece.output.text
    (printed known c.args.format.now (arguments_of c.args.args.now)) c.loop-piece-test.false c.loop-piece.invariant.written)

pub returns-clause-parts_from : goal.returns-clause-parts_from
returns-clause-parts_from c = printing_end (arguments_parts c.args.args.now) (all_own c.args.format.now (arguments_of c.args.args.now))
    c.loop-piece.output.parts (arguments_parts c.loop-piece.rest.now)
    (all_own (drop c.loop-piece.piece-index c.pieces-piece-items.result.now) (arguments_of c.loop-piece.rest.now))
    (parts_of c.in_ok-cord.cord) c.loop-piece.invariant.printing c.in_ok-cord.ensures.made
