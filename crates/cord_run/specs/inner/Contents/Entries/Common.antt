-- Names that several of these definitions cite, passed on from one place. Declares nothing.
pub use Rattle.std.specs.Borrow.{Bor}
pub use Rattle.std.specs.Prelude.{if◌then◌else◌, ◌*◌, ◌++◌, ◌+◌, ◌-◌, ◌<◌, ◌^◌, ◌∷◌, ◌≡◌, ◌≤◌, ◌⊎◌}
pub use Rattle.std.specs.Prelude.{All, Bool, Err, IfErr, IfOk, IfSome, IsErr, IsSome, List, MatchBool, MatchResult, None, Ok, OnOk, Option}
pub use Rattle.std.specs.Prelude.{Result, Some, [], drop, false, get_or, length, map, min, nat_lt, negsuc, pos, replicate, reverse, slice_get, suc}
pub use Rattle.std.specs.Prelude.{take, true, zero, ℕ, ℤ, ⊤}
pub use Rattle.std.specs.Str.{bytes_eq}
pub use Rattle.cord_io.specs.Device.{FileSystem, raised, count_after}
pub use Rattle.cord_io.specs.Table.{HasLengths, Lengths, Table}
pub use Rattle.cord_io.specs.declared.TheConstants.{MAX_LEN}
pub use Rattle.cord_io.specs.declared.faults.CordError.{CordError}
pub use Rattle.cord_io.specs.declared.faults.CordError.TheVariants as refusals
pub use Rattle.cord_io.specs.declared.reading.Files as files
pub use Rattle.cord_io.specs.declared.writing.Sink as sinks
pub use Rattle.cord_node.specs.PartsFrom.{AreFrom, PartsFrom}
pub use Rattle.cord_node.specs.Tables.{AreHeldIn, lengths_of}
pub use Rattle.cord_node.specs.Tree.{Cell, known}
pub use Rattle.cord_node.specs.declared.Node.{Node}
pub use Rattle.cord_core.specs.Cord.{AllFitIn, CordFits, CordFitsIn, IsCord, all_bytes, all_len, all_parts, all_text, bytes_of, parts_of}
pub use Rattle.cord_core.specs.Cord.{text, text_len}
pub use Rattle.cord_core.specs.Equations.{HasText, IsSpliced, IsSubstring}
pub use Rattle.cord_core.specs.Refusals.{IsRefusal}
pub use Rattle.cord_iter.specs.Output.{FailureCounts, IsPrefixOf, Takes}
pub use Rattle.cord_file.specs.FileTable.{Opened, lengths_in, table_in}
pub use Rattle.cord_file.specs.Sources.{device_in, opened_in}
pub use Rattle.cord_file.specs.Opening.{Grows}
pub use Rattle.cord_ec.specs.Gathered.{Growth}
pub use Rattle.cord_ec.specs.Grown.{IsGrownBy, bytes_of_cells}
pub use Rattle.cord_operands.specs.declared.operands.Number.{Number}
pub use Rattle.cord_syntax.specs.declared.statements.Statement.{Statement}
pub use Rattle.cord_syntax.specs.Families.{statement_of}
pub use Rattle.cord_meaning.specs.Blocks.{jump, Straight}
pub use Rattle.cord_meaning.specs.Statements.{byte_of_text, compares, function_text, place_number}
pub use Rattle.cord_meaning.specs.State.{State, and_then, as_byte, as_index, as_length, fits_i64, number_value, with_value}
pub use Rattle.cord_meaning.specs.declared.ends.End.{End}
pub use Rattle.cord_meaning.specs.declared.ends.End.TheVariants as ends
pub use Rattle.cord_meaning.specs.declared.ends.FaultKind.{FaultKind}
pub use Rattle.cord_meaning.specs.declared.ends.FaultKind.TheVariants.{BadByte, Negative, NoFile, Overflow, TooLong, TooManyTurns}
pub use Rattle.cord_plan.specs.Exprs.{Expr, Exprs, append, cat, lacks, member, name, names_of, nothing, run, sub}
pub use Rattle.cord_plan.specs.Meaning.{Held, Holding, IsNeverStuck, PlanOutcome, Text, all_texts, cords, cords_of, does, gets, keeps}
pub use Rattle.cord_plan.specs.Meaning.{made_length, made_text, opened, operation_line, operation_shape, plain, plan_end, plan_rules}
pub use Rattle.cord_plan.specs.Meaning.{plan_trace, start_holding, texts_to_build, texts_to_measure}
pub use Rattle.cord_plan.specs.Planned.{Build, Joined, Keep, Made, Measure, OfEager, OfFile, OfLazy, Operation, Printed}
pub use Rattle.cord_plan.specs.Values.{copies, length_of, measured, measured_members, part_of, text_in, values, within, measured_copies}
pub use Rattle.cord_plan.specs.Views.{expr_view, made_view, members_view, operation_view}
pub use Rattle.cord_plan.specs.declared.expressions.Expr as expressions
pub use Rattle.cord_run.specs.declared.control.Control.{Control}
pub use Rattle.cord_run.specs.declared.control.ControlStop.{ControlStop}
pub use Rattle.cord_run.specs.declared.stops.Stop.{Stop}
pub use Rattle.cord_run.specs.declared.stops.Stop.TheVariants as stops
pub use Rattle.cord_run.specs.declared.stops.StopAt.{StopAt}
pub use Rattle.cord_run.specs.declared.store.Content.{Content}
pub use Rattle.cord_run.specs.declared.store.Content.TheVariants.{Long, Whole}
pub use Rattle.cord_run.specs.declared.store.Entry.{Entry}
pub use Rattle.cord_run.specs.Failing.{IsFileMade, IsReader, IsWriter}
