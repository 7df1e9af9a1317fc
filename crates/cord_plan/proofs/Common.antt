-- The names that most proofs of this crate cite, passed on from one place. Declares nothing.
pub use Rattle.std.proofs.Common.{Bor, Global, add-one, ap, append-nil, append_assoc, arith, inl, inr, length-append, length-set, of_z}
pub use Rattle.std.proofs.Common.{refl, rules, subst, sym, to_z, w64, ⊎_elim, ◌∙◌}
pub use Rattle.std.proofs.Math.Bool.{and-false, and-true, or-false, or_assoc}
pub use Rattle.std.proofs.Math.Nat.{div-add-mod, eq-or-lt_of_le, mod-lt}
pub use Rattle.std.proofs.lemmas.Bool.{and_parts, cases_eq, cases_lt, eq-eqb, eqb-true, false_from_ne_true, le-leb, leb-false, leb-true}
pub use Rattle.std.proofs.lemmas.Bool.{lt-leb, ltb-false, ne_eqb, not-true, or_cases, or_left, or_right, true≢false}
pub use Rattle.std.proofs.lemmas.Bool.Decides.{eqb_tells, leb_tells}
pub use Rattle.std.proofs.lemmas.List.{at_drop_all, at_drop_more, drop-append-le, drop-map, drop_all, drop_more}
pub use Rattle.std.proofs.lemmas.List.{get_or-replicate, length-drop, length-map, length-replicate, length-take, map-append, map-set}
pub use Rattle.std.proofs.lemmas.List.{set-get_or, take-append-drop, take-append-le, take_all, take_min, take_more, take_rest}
pub use Rattle.std.proofs.lemmas.Nat.Bits.{bit_at-lt, bit_at-zero, bit_at_and, bit_at_not, bit_at_or, bit_at_set_other, bit_at_set_same}
pub use Rattle.std.proofs.lemmas.Option.{IfSome_then, get_or_from_slice_get, slice_get-get_or, slice_get-map, slice_get_cases}
pub use Rattle.std.proofs.lemmas.Option.{slice_get_past, slice_get_read, slice_get_within}
pub use Rattle.std.proofs.lemmas.Simd.{map-map}
pub use Rattle.std.proofs.lemmas.Slice.Eq.{bytes_eq-Decides}
pub use Rattle.std.specs.Int.{bit_at, bit_not, w128, w16}
pub use Rattle.std.specs.Int.Bits.{or_zero_l}
pub use Rattle.std.specs.Int.RustNames.{bit_and, bit_or}
pub use Rattle.std.specs.Prelude.{All, Bool, Err, IfNone, IfOk, IfSome, IsErr, IsSome, List, None, Ok, Option, Result, Some, Vec, [], codes}
pub use Rattle.std.specs.Prelude.{drop, false, flat_map, get_or, is_some, length, map, max, min, nat_le, nat_lt, negsuc, not}
pub use Rattle.std.specs.Prelude.{option_map, pos, replicate, reverse, set, slice_get, suc, sum_by, take, true, unwrap_or, vec_capacity}
pub use Rattle.std.specs.Prelude.{vec_len, zero, ℕ, ℤ}
pub use Rattle.std.specs.Str.{bytes_eq}
pub use Rattle.std.specs.declared.rc.Rc.{Rc}
pub use borrow.Author.Count.{below_more}
pub use Rattle.cord_io.specs.Device.{FileSystem, raised}
pub use Rattle.cord_io.specs.declared.faults.WriteFault.{WriteFault}
pub use Rattle.cord_core.proofs.Places.{at_here, some_here}
pub use Rattle.cord_iter.specs.Output.{Writes}
pub use Rattle.cord_operands.specs.declared.operands.Argument.{Argument}
pub use Rattle.cord_operands.specs.declared.operands.Number.{Number}
pub use Rattle.cord_operands.specs.declared.operands.Number.TheVariants.{Named, Numeral}
pub use Rattle.cord_syntax.specs.Readings.{operand_names, read_names}
pub use Rattle.cord_syntax.specs.declared.statements.Statement.{Statement}
pub use Rattle.cord_syntax.specs.declared.statements.Statement.TheVariants.{Add, Assign, Balance, Cat, Catc, Catn, Chars, Chr, Cmp, Eager}
pub use Rattle.cord_syntax.specs.declared.statements.Statement.TheVariants.{EcCat, EcInit, EcPut, EcStr, EcToCord, Else, End, Fetch, File}
pub use Rattle.cord_syntax.specs.declared.statements.Statement.TheVariants.{FromFn, If, Lazy, Len, Let, Ncmp, Nul, Put, Rchr, Repeat}
pub use Rattle.cord_syntax.specs.declared.statements.Statement.TheVariants.{Sprintf, Str, Sub, Substr}
pub use Rattle.cord_script.specs.Forms.{Grammar, Term, argument_term, terms_of}
pub use Rattle.cord_script.specs.Script.{AreAllowed, IsAllowed, LinesSay, ReadsBy, Scope, after_all, kind_of, names_after, start, with_name}
pub use Rattle.cord_script.specs.declared.kinds.Kind.{Kind}
pub use Rattle.cord_script.specs.declared.table.Known.{Known}
pub use Rattle.cord_meaning.proofs.Simulating.{end_same, reported_same}
pub use Rattle.cord_meaning.specs.Blocks.{Branch, Close, IsNested, Loop, Otherwise, Shape, Straight, jump, jump_at, jump_of, to_else}
pub use Rattle.cord_meaning.specs.Blocks.{to_end}
pub use Rattle.cord_meaning.specs.Examples.{numeral}
pub use Rattle.cord_meaning.specs.Formats.{format_text, piece_argument, unless_refused}
pub use Rattle.cord_meaning.specs.Paths.{Next, NextOf, NextOfClose, open_at, opened}
pub use Rattle.cord_meaning.specs.State.{Outcome, State, and_then, as_byte, as_index, as_length, fits_i64, has_number, number_value}
pub use Rattle.cord_meaning.specs.State.{sets_extensible, sets_number, sets_text, start_state, with_value}
pub use Rattle.cord_meaning.specs.Statements.{act, byte_of_text, compares, file_text, function_text, holds_of, line_of, place_number}
pub use Rattle.cord_meaning.specs.Statements.{repeat_count, shape_of}
pub use Rattle.cord_meaning.specs.declared.ends.FaultKind.{FaultKind}
pub use Rattle.cord_meaning.specs.declared.ends.FaultKind.TheVariants.{Overflow, TooLong, TooManyTurns}
pub use Rattle.cord_meaning.specs.inner.Simulation.{Agree, IsControl, Simulates}
pub use Rattle.cord_plan.specs.Conditions.{Decisions, HasKinds, IsInlined, MeetsConditions, assigns_other_at, decided, decided_from}
pub use Rattle.cord_plan.specs.Conditions.{is_simple, is_simple_at, makes_cord, stands, stands_by}
pub use Rattle.cord_plan.specs.Exprs.{Expr, Exprs, append, cat, lacks, member, members, name, names, nothing, number_names, parts, parts_of}
pub use Rattle.cord_plan.specs.Exprs.{preceding, run, sub}
pub use Rattle.cord_plan.specs.Extending.{Extends, IsLonger, joined_at, joined_by}
pub use Rattle.cord_plan.specs.Flattening.{HaveTexts, nested}
pub use Rattle.cord_plan.specs.Inlined.{Choice, ChoiceTable, choices, chosen_from, chosen_of, defining, each_from, entry, expr_of}
pub use Rattle.cord_plan.specs.Inlined.{expr_with, exprs, first_of, fits, grown, is_block, is_block_at, is_small, named, operands_chosen}
pub use Rattle.cord_plan.specs.Inlined.{preserves, replaced, setter}
pub use Rattle.cord_plan.specs.Liveness.{IsFixed, IsLater, NotLive, ReadBy, ReadLater, close_successors, later_within, live}
pub use Rattle.cord_plan.specs.Liveness.{shape_successors, some_of, successors}
pub use Rattle.cord_plan.specs.Meaning.{Held, Holding, KeepsMeaning, Long, Text, all_texts, builds, cords, cords_of, does, extent, gets}
pub use Rattle.cord_plan.specs.Meaning.{held_length, held_text, if_all, is_text, keeps, made_length, made_text, measures, operation_count}
pub use Rattle.cord_plan.specs.Meaning.{operation_holds, operation_line, operation_shape, plain, plan_rules, start_holding, texts_to_build}
pub use Rattle.cord_plan.specs.Meaning.{texts_to_measure}
pub use Rattle.cord_plan.specs.Operands.{assigns, assigns_at, cord_arguments, count, has, is_this_name, read_by, reads, reads_at, target_of}
pub use Rattle.cord_plan.specs.Pairs.{IsNoNumber, IsPair, numbers_named, numbers_named_at}
pub use Rattle.cord_plan.specs.PlanText.{argument, called, decimal, expr, made, more_exprs, path_byte, printed_arguments, signed_decimal}
pub use Rattle.cord_plan.specs.PlanText.{spaced, statement, text_of_plan}
pub use Rattle.cord_plan.specs.Planned.{Balanced, Build, Joined, Keep, Literal, Made, Measure, OfEager, OfExtensible, OfFile, OfFunction}
pub use Rattle.cord_plan.specs.Planned.{OfLazy, Operation, Printed, Write, gives, is_dead, is_first, is_from, operation, operations}
pub use Rattle.cord_plan.specs.Planned.{or_nothing, planned, some_from, trivial}
pub use Rattle.cord_plan.specs.Values.{copies, gives_text, length_in, length_of, measured, measured_copies, measured_members, measured_part}
pub use Rattle.cord_plan.specs.Values.{part_of, puts_text, text_in, value, values, within}
pub use Rattle.cord_plan.specs.Verbatim.{IsVerbatim, KeepsNoOther}
pub use Rattle.cord_plan.specs.Views.{Shared, expr_step, expr_view, made_view, members_of, members_step, members_view, operation_view}
pub use Rattle.cord_plan.specs.Views.{pair_step, prefix_view, rest_step, shared_view, single_step}
pub use Rattle.cord_plan.specs.declared.expressions.Expr.TheVariants.{Name, Run, rolls-Cat, rolls-Name, rolls-Run, rolls-Sub}
pub use Rattle.cord_plan.specs.declared.expressions.Expr.TheViews.{out-Members, roll-Members}
pub use Rattle.cord_plan.specs.declared.expressions.Members.{Members}
pub use Rattle.cord_plan.specs.declared.expressions.Rest.{Rest}
pub use Rattle.cord_plan.specs.declared.expressions.Rest.TheVariants.{Nothing, One, Two, rolls-Nothing, rolls-One, rolls-Two}
pub use Rattle.cord_plan.specs.declared.expressions.Single.{Single}
pub use Rattle.cord_plan.specs.declared.flow.liveness.Later.{Later}
pub use Rattle.cord_plan.specs.declared.flow.numbering.LineNumbers.{LineNumbers}
pub use Rattle.cord_plan.specs.declared.flow.numbering.NumberedLine.{NumberedLine}
pub use Rattle.cord_plan.specs.declared.flow.numbering.Numbering.{Numbering}
pub use Rattle.cord_plan.specs.declared.flow.straight_line.LineLater.{LineLater}
pub use Rattle.cord_plan.specs.declared.flow.successors.Successors.{Successors}
pub use Rattle.cord_plan.specs.inner.Choices.{Has, IsChoice, choice_view, expression_in, expression_of, is_spare, nearest, parts_beside}
pub use Rattle.cord_plan.specs.inner.Choices.{room_left, room_left_by, AreFactsOf, HasFacts, IsChoiceOf, IsFacts, AreLonger, AreUnpaired}
pub use Rattle.cord_plan.specs.inner.Choices.{operation_expression, IsLongerAt, Takes, is_last, is_longer, is_named, table_view}
pub use Rattle.cord_plan.specs.inner.Liveness.{simple_operands, AllLive, AreLive, ArePartly, ArePaths, IsLive, IsPartly, NoBlocks, at}
pub use Rattle.cord_plan.specs.inner.Liveness.{column_of, finds, innermost, places, places_at, reports, reports_of, shape_view, AreFor}
pub use Rattle.cord_plan.specs.inner.Liveness.{IsRecent, PutsPlaces, blocker, entry_at, entry_of, is_after, is_before, reader, stay}
pub use Rattle.cord_plan.specs.inner.Liveness.{unless_after, AreBits, AreNextReads, AreReportedFrom, IsLineLater, flow, later_in}
pub use Rattle.cord_plan.specs.inner.Views.{AreExtending, exprs_after, fragment_text, fragments_text, is_nothing, rest_view}
pub use Rattle.cord_plan.specs.inner.Numbering.{IsBit, Marks, bit, column, room, IsNumberIn, IsNumbered, IsNumbering, names_of, number_in}
pub use Rattle.cord_plan.specs.inner.Numbering.{number_of}
pub use Rattle.cord_plan.specs.inner.Places.{AddsLine, AddsPlaces, AreNumbers, GainsNames, IsLineIn, IsNumber, IsNumberedLine, TakesNumber}
pub use Rattle.cord_plan.specs.inner.Places.{place_of}
