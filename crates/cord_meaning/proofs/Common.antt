-- Names that several proofs of this crate cite, passed on from one place. Declares nothing.
pub use Rattle.std.proofs.Common.{ap, append-nil, append_assoc, arith, inl, inr, lit≤, refl, subst, sym, ⊎_elim, ◌∙◌}
pub use Rattle.std.proofs.lemmas.Bool.{le-leb, le-ltb, leb-true, lt-leb, lt-ltb}
pub use Rattle.std.proofs.lemmas.List.{drop-map, length-append, length-map, map-append}
pub use Rattle.std.proofs.lemmas.Option.{slice_get-map, slice_get_past, slice_get_within}
pub use Rattle.std.specs.Option.{option_map}
pub use Rattle.std.specs.Prelude.{All, Bool, Err, IsSome, List, None, Ok, Option, Result, Some, [], codes, drop, false, flat_map}
pub use Rattle.std.specs.Prelude.{length, map, nat_le, nat_lt, negsuc, pos, replicate, slice_get, suc, take, true, unwrap_or}
pub use Rattle.std.specs.Prelude.{zero, ℕ, ℤ}
pub use Rattle.cord_io.specs.Device.{FileSystem}
pub use Rattle.cord_io.specs.declared.TheConstants.{MAX_LEN}
pub use Rattle.cord_core.proofs.Places.{at_here, beyond, next_here, none_after, some_here}
pub use Rattle.cord_syntax.specs.declared.statements.Statement.{Statement}
pub use Rattle.cord_meaning.specs.Blocks.{Branch, Close, IsNested, Loop, Otherwise, Shape, Straight, jump, jump_at, jump_of, to_else}
pub use Rattle.cord_meaning.specs.Blocks.{to_end}
pub use Rattle.cord_meaning.specs.Ends.{FaithfulEnd, FaithfulOutput, IsComplete, IsMeant, StopsAt}
pub use Rattle.cord_meaning.specs.Machine.{Begins, Block, Chosen, Config, Event, Rules, Turns, acted, after, after_from, begins, chooses}
pub use Rattle.cord_meaning.specs.Machine.{closes, enough, faults, goes_to, if_running, jump_from, notes, output, repeats, reported}
pub use Rattle.cord_meaning.specs.Machine.{run_end, run_trace, runs, runs_shape, step, turned}
pub use Rattle.cord_meaning.specs.Meaning.{Means, MeansWithin, end_within, run_within, trace, trace_within}
pub use Rattle.cord_meaning.specs.Paths.{Next, NextOf, NextOfClose, open_at, opened}
pub use Rattle.cord_meaning.specs.State.{Outcome, State, and_then, as_byte, as_index, as_length, number_value, sets_extensible, sets_text}
pub use Rattle.cord_meaning.specs.State.{start_state}
pub use Rattle.cord_meaning.specs.Statements.{act, file_text, function_text, line_of, rules, sets_copies, shape_of}
pub use Rattle.cord_meaning.specs.Unrolled.{Chooses, ChoosesElse, IsWell, Nothing, Parts, Repeats, Then, Unrolled, acted_once, all_turns}
pub use Rattle.cord_meaning.specs.Unrolled.{chosen, flat, joined, member, repeated, then_on, unrolled}
pub use Rattle.cord_meaning.specs.declared.TheConstants.{MAX_TURNS}
pub use Rattle.cord_meaning.specs.declared.ends.End.{End}
pub use Rattle.cord_meaning.specs.declared.ends.End.TheVariants.{Done, Fault, NoMemory, ReadFailed, WriteFailed}
pub use Rattle.cord_meaning.specs.declared.ends.FaultKind.{FaultKind}
pub use Rattle.cord_meaning.specs.declared.ends.FaultKind.TheVariants.{Negative, OutOfRange, TooLong, TooManyTurns}
pub use Rattle.cord_meaning.specs.inner.Running.{Ran, StandsThere, puts_of}
