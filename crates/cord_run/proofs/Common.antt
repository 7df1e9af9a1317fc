-- Names that several proofs of this crate cite, passed on from one place. Declares nothing.
pub use Rattle.std.proofs.Common.{ap, append-nil, append_assoc, arith, inl, inr, length-append, length-drop, length-take, of_z, refl, rules}
pub use Rattle.std.proofs.Common.{subst, sym, take-append-drop, to_z, w64, ⊎_elim, ◌∙◌, length-set}
pub use Rattle.std.proofs.lemmas.Bool.{leb-false, leb-true, lt-leb}
pub use Rattle.std.proofs.lemmas.Int.{to_z-of_z}
pub use Rattle.std.proofs.lemmas.List.{drop-append-le, drop-drop, drop-map, drop-replicate, drop-take, drop_all, drop_at, drop_min}
pub use Rattle.std.proofs.lemmas.List.{drop_more, length-map, length-replicate, length-take-le, map-append, set-get_or, take-append-le}
pub use Rattle.std.proofs.lemmas.List.{take-map, take-replicate, take-take, take_all, take_at, take_min, take_more}
pub use Rattle.std.proofs.lemmas.List.Elements.{All-cons, All-head, All-map, All-nil, All-push, All-same, All-tail, All-replicate, All-set}
pub use Rattle.std.proofs.lemmas.Option.{IfSome_then, get_or_from_slice_get, same_Some, slice_get-get_or, slice_get-map, slice_get_past}
pub use Rattle.std.proofs.lemmas.Option.{slice_get_read, slice_get_within}
pub use Rattle.std.proofs.lemmas.Result.{IfErr-weaker, IfOk-at_ok, IfOk-weaker, on_ok_weaker}
pub use Rattle.std.proofs.lemmas.Slice.Eq.{bytes_eq-Decides}
pub use Rattle.std.specs.Prelude.{FitsSigned, MatchOption, flat_map, nat_le, not, ok_or, slice_index, slice_set, unwrap_or, vec_len}
pub use Rattle.std.specs.Prelude.{if◌then◌else◌, ◌%◌, ◌&&◌, ◌++◌, ◌+ℤ◌, ◌+◌, ◌-ℤ◌, ◌-◌, ◌<◌, ◌^◌, ◌||◌, ◌∷◌, ◌≡◌, ◌≢◌, ◌≤◌, ◌⊎◌}
pub use Rattle.std.specs.Prelude.{IsErrAnd, option_map}
pub use Rattle.cord_io.specs.Device.{Finishes, Finishes as FinishCounts, count_after, failed_calls}
pub use Rattle.cord_io.specs.FunctionTexts.{byte_value_at, digit_at, length-text_of}
pub use Rattle.cord_io.specs.SinkCounts.{sink_counts}
pub use Rattle.cord_io.specs.Table.{length_at}
pub use Rattle.cord_node.proofs.PartsFromLemmas.{IsFrom-small, PartsFrom-both, PartsFrom-join, PartsFrom-self, PartsFrom-trans}
pub use Rattle.cord_node.proofs.PartsFromLemmas.{PartsFrom_same}
pub use Rattle.cord_node.proofs.TreeLemmas.{len_limit}
pub use Rattle.cord_node.specs.PartsFrom.{Part, leaf_part}
pub use Rattle.cord_node.specs.Tables.{byte_at}
pub use Rattle.cord_node.specs.Tree.{held_by}
pub use Rattle.cord_core.proofs.Catting.{IsCatting, catting_end, catting_start, catting_step}
pub use Rattle.cord_core.proofs.OverLemmas.{CordFits-reported, CordFitsIn-longer, all_over, bytes-text, length-bytes}
pub use Rattle.cord_core.specs.Equations.{IsAllOf, IsCatOf, IsSameText, IsSourceRange}
pub use Rattle.cord_core.specs.Forms.{IsLeafOf}
pub use Rattle.cord_iter.specs.Output.{CountsFaults}
pub use Rattle.cord_file.specs.Files.{as_long_as_reported}
pub use Rattle.cord_ec.specs.Grown.{IsCordOf}
pub use Rattle.cord_printf.specs.declared.pieces.Piece.{Piece}
pub use Rattle.cord_operands.specs.declared.operands.Number.TheVariants.{Named, Numeral}
pub use Rattle.cord_syntax.specs.declared.statements.Statement.TheVariants.{Add, Balance, Cat, Catc, Catn, Chars, Eager, EcToCord, Else}
pub use Rattle.cord_syntax.specs.declared.statements.Statement.TheVariants.{File, FromFn, If, Lazy, Len, Let, Nul, Put, Repeat, Sprintf}
pub use Rattle.cord_syntax.specs.declared.statements.Statement.TheVariants.{Sub, Substr}
pub use Rattle.cord_script.specs.Forms.{Grammar, argument_term, terms_of}
pub use Rattle.cord_script.specs.Script.{AreAllowed, LinesSay, ReadsBy, Scope, after_all, paths_after, start, whole, with_path}
pub use Rattle.cord_meaning.proofs.Checks.{length_above}
pub use Rattle.cord_meaning.proofs.Faithful.{no_memory, ran_first, ran_on, ran_out, ran_quietly, read_failed, stops_acting, stops_choosing}
pub use Rattle.cord_meaning.proofs.Faithful.{stops_counting, write_failed}
pub use Rattle.cord_meaning.specs.Blocks.{Branch, Close, Loop, Otherwise, Shape, Straight}
pub use Rattle.cord_meaning.specs.Ends.{Counts, EndsFaithfully, FailsWhere, FaithfulEnd, FaithfulOutput, FilesFailed, HasAtLine, IsComplete}
pub use Rattle.cord_meaning.specs.Ends.{IsPut, IsReading, MemoryRefused, NamesCause, NamesDevice, NoneFailed, SinkFailed, StopsAt}
pub use Rattle.cord_meaning.specs.Formats.{fault_of, format_text, piece_argument, unless_refused}
pub use Rattle.cord_meaning.specs.Machine.{Block, Chosen, Config, Event, Rules, Turns, acted, after, begins, chooses, closes, enough}
pub use Rattle.cord_meaning.specs.Machine.{faults, if_running, jump_from, notes, output, repeats, reported, run_trace, runs, runs_shape}
pub use Rattle.cord_meaning.specs.Machine.{step, turned}
pub use Rattle.cord_meaning.specs.State.{Outcome, has_number, sets_number, start_state}
pub use Rattle.cord_meaning.specs.Statements.{line_of, shape_of}
pub use Rattle.cord_meaning.specs.declared.ends.FaultKind.TheVariants.{OutOfRange}
pub use Rattle.cord_meaning.specs.inner.Running.{Ran, puts_of}
pub use Rattle.cord_meaning.specs.inner.Simulation.{IsControl}
pub use Rattle.cord_plan.proofs.ExprViews.{view-Cat, view-Name, view-Run, view-Sub}
pub use Rattle.cord_plan.proofs.Halves.{halves_Some, prefix_falls, prefix_lighter, rest_falls}
pub use Rattle.cord_plan.proofs.Values.{cat_joined, fits_within, is_within, passes, same_text}
pub use Rattle.cord_plan.proofs.Named.{own_bytes}
pub use Rattle.cord_plan.specs.Edits.{edit_view, middle_then, own_range}
pub use Rattle.cord_plan.specs.Exprs.{names, number_names}
pub use Rattle.cord_plan.specs.Meaning.{IsPlanOf, KeepsMeaning, builds, extent, held_length, held_text, if_all, is_text, measures}
pub use Rattle.cord_plan.specs.Planned.{Balanced, Keep, Literal, OfExtensible, OfFunction, gives, is_dead, is_first, operation, operations}
pub use Rattle.cord_plan.specs.Planned.{or_nothing, planned, trivial}
pub use Rattle.cord_plan.specs.Values.{measured_copies, measured_part}
pub use Rattle.cord_plan.specs.Verbatim.{KeepsNoOther}
pub use Rattle.cord_plan.specs.Views.{Shared, expr_view, made_view, members_of, members_view, operation_view, prefix_view, shared_view}
pub use Rattle.cord_plan.specs.declared.edits.Edit.TheVariants.{Replace}
pub use Rattle.cord_plan.specs.declared.edits.Replacement.{Replacement}
pub use Rattle.cord_run.proofs.Refusals.{handed_on, passed_on, stop_by, stop_over}
pub use Rattle.cord_run.specs.Failing.{FailsNowhereElse, IsFileMade, IsReader, IsWriter, NamesFinish}
pub use Rattle.cord_run.specs.Runs.{AsWritten, ByPlan, IsPlanBy, Way, counts_over}
pub use Rattle.cord_run.specs.inner.{Action, Adds, AddsAtMostOne, AddsCopies, AddsCordRange, AddsExpression, AddsInTurn, AddsMembers}
pub use Rattle.cord_run.specs.inner.{AddsRange, AddsRun, Advances, All, AllFitIn, AppendBuffer, Appends, AreHeldIn}
pub use Rattle.cord_run.specs.inner.{ArePreceding, AreTextsIn, AreWhole, Arg, Argument, Asks, Becomes, Began, Bool, Bor, Build, Builds}
pub use Rattle.cord_run.specs.inner.{ByLength, Bytes, Cell, Changes, Closes, Comes, Computation, Content, ContentFits, ControlStop}
pub use Rattle.cord_run.specs.inner.{CordError, CordFits, CordFitsIn, CountsFinding, CountsReadStop, CountsStops, Digits, Direction, Edit}
pub use Rattle.cord_run.specs.inner.{Edited, End, EndsRun, Entry, Err, Expr, Exprs, ExtensibleFits, FailsAmong, FailsBy, FailureCounts}
pub use Rattle.cord_run.specs.inner.{FaithfulPlan, FaultKind, FileSystem, Finds, FindsOver, Function, Gave, Gives, Goal, Goes, GoesWithin}
pub use Rattle.cord_run.specs.inner.{Grew, GrewTo, Grows, GrowsOn, Growth, HasContent, HasExtensible, HasLengths, HasNoEntry, HasNumber}
pub use Rattle.cord_run.specs.inner.{HasSlot, HasSplice, HasText, Held, Holding, IfErr, IfOk, IfSome, InTurn, IsAction, IsActionAt, IsAfter}
pub use Rattle.cord_run.specs.inner.{IsApart, IsBuilt, IsContentSpliced, IsCord, IsCordOfText, IsCutOf, IsEdit, IsEntryAt, IsExtended}
pub use Rattle.cord_run.specs.inner.{IsExtent, IsFaultOver, IsFirstEntry, IsFit, IsFree, IsGrownBy, IsJoinOfFirst, IsKnownAt, IsKnownOf}
pub use Rattle.cord_run.specs.inner.{IsLength, IsLengthOfNames, IsMade, IsMadeAfter, IsMadeOfNames, IsMeasured, IsMiddle, IsMiddleBeside}
pub use Rattle.cord_run.specs.inner.{IsNoMiddle, IsOver, IsOwnLength, IsPast, IsPieceFrom, IsPrefixOf, IsRefusal, IsRefusedAt, IsReplaced}
pub use Rattle.cord_run.specs.inner.{IsSetAt, IsSettled, IsSliceOf, IsSome, IsStartOf, IsStopBy, IsStopOver, IsSubstring, IsTextBeside}
pub use Rattle.cord_run.specs.inner.{IsTextIn, IsTextOver, IsTurnAt, IsUnbuilt, IsUnmade, IsUnmadeOfNames, IsUnmeasured}
pub use Rattle.cord_run.specs.inner.{IsUnmeasuredOfNames, IsWholeAt, IsWholeContent, IsWork, Joined, JoinsTo, Lengths, List, Long, MAX_LEN}
pub use Rattle.cord_run.specs.inner.{MAX_TURNS, Made, MatchResult, MeansOver, Measure, MeasuredBeside, MeasuresBeside, Narrowed, Negative}
pub use Rattle.cord_run.specs.inner.{NoMoreConsistent, Node, None, Number, OfEager, OfFile, OfLazy, Ok, Opened, Operation, Option, Origin}
pub use Rattle.cord_run.specs.inner.{Overflow, OwnLength, PartsFrom, PlanOutcome, Point, PrintError, Printed, Progress, PutsIn, PutsText}
pub use Rattle.cord_run.specs.inner.{Reading, Remembered, Remembers, Replaced, ReportsLength, Result, SMALL_LEN, SameEntries, Serves}
pub use Rattle.cord_run.specs.inner.{SinkCounts, Some, Splices, Spot, SpotFits, State, Statement, StaysKnown, StaysOver, Steps, StepsTo}
pub use Rattle.cord_run.specs.inner.{Stop, StopAt, StopsAmong, StopsIn, Table, Takes, TakesNoMemory, Text, TooLong, TooManyTurns, Wanted}
pub use Rattle.cord_run.specs.inner.{Where, Whole, Work, Works, WorksOrLeaves, World, Wrote, [], all_bytes, all_len, all_parts, all_text}
pub use Rattle.cord_run.specs.inner.{all_texts, and_then, append, are_distinct, argument_in, as_byte, as_index, as_length, at_line, begun}
pub use Rattle.cord_run.specs.inner.{byte_of_text, byte_place, bytes_eq, bytes_of, bytes_of_cells, cat, cells_in, cells_or_none, chosen}
pub use Rattle.cord_run.specs.inner.{closed, compares, content_in, content_length, copied, copies, cord_in, cords, cords_of, counted}
pub use Rattle.cord_run.specs.inner.{device_in, does, drop, edited, edited_text, end_at, end_of_run, exit_in, extended_over, extensible_in}
pub use Rattle.cord_run.specs.inner.{extent_in, extent_with, failures_in, false, file_made, fits_i64, function_source, function_text}
pub use Rattle.cord_run.specs.inner.{get_or, gets, goal_of, grown_over, has_failed, held_at, held_over, holding_of, holding_with, in_i64}
pub use Rattle.cord_run.specs.inner.{is_among, joined_over, jump, keeps, known, lacks, length, length_in, length_of, lengths_in, lengths_of}
pub use Rattle.cord_run.specs.inner.{longer_text, made_length, made_text, map, measured, measured_members, member, members_extent}
pub use Rattle.cord_run.specs.inner.{members_seen, middle_cords, middle_text, min, name, named, names_in, names_of, nat_lt, nearest, negsuc}
pub use Rattle.cord_run.specs.inner.{nothing, number_in, number_value, opened_in, operand_in, operation_line, operation_shape, or_stop}
pub use Rattle.cord_run.specs.inner.{origins, origins_of, part_of, parts_of, place_number, plain, plain_of, plan_end, plan_rules}
pub use Rattle.cord_run.specs.inner.{plan_trace, point_at, point_of, pos, raised, reason_in, refusal_of, repeated, replicate, run}
pub use Rattle.cord_run.specs.inner.{slice_get, spliced_len, spot_growing, spot_of, start_extent, start_holding, statement_at, statement_of}
pub use Rattle.cord_run.specs.inner.{stop_of_control, stop_of_cord, stop_of_print, sub, suc, table_in, take, target_of, text, text_in}
pub use Rattle.cord_run.specs.inner.{text_len, text_over, texts_to_build, texts_to_measure, true, value_in, values, where_of, with_value}
pub use Rattle.cord_run.specs.inner.{within, work_left, world_of, zero, ℕ, ℤ, ⊤}
