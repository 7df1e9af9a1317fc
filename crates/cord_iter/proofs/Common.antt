-- Names that several proofs of this crate cite, passed on from one place. Declares nothing.
pub use Rattle.std.proofs.Common.{Bool, Err, List, Ok, Some, [], ap, append_assoc, arith, drop, false, get_or, length, length-append, length-drop}
pub use Rattle.std.proofs.Common.{refl, subst, sym, take, true, ℕ, ◌++◌, ◌+◌, ◌-◌, ◌<◌, ◌∙◌, ◌∷◌, ◌≡◌, ◌≤◌}
pub use Rattle.std.proofs.Math.Seq.{take-add}
pub use Rattle.std.proofs.lemmas.Bool.{false≢true}
pub use Rattle.std.proofs.lemmas.List.{length-replicate, length-take-le, replicate-append-replicate, take-append-drop, take-replicate, take_more}
pub use Rattle.std.proofs.lemmas.Result.{on_err_weaker}
pub use Rattle.std.specs.Global.{Global}
pub use Rattle.std.specs.Prelude.{IsErr, replicate, reverse}
pub use Rattle.std.specs.Result.{OnErr}
pub use Rattle.std.specs.declared.rc.Rc.{Rc}
pub use Rattle.std.specs.declared.result.Result.{Result}
pub use Rattle.cord_core.proofs.OverLemmas.{length-bytes}
pub use Rattle.cord_core.specs.Cord.{bytes_of, text_len}
pub use Rattle.cord_io.specs.Device.{FileSystem, raised}
pub use Rattle.cord_io.specs.Table.{HasLengths, Lengths, Table}
pub use Rattle.cord_iter.specs.Walk.{WalkedPrefix, walk}
pub use Rattle.cord_iter.specs.declared.TheConstants.{PIECE_LEN}
pub use Rattle.cord_iter.specs.inner.Output.{Puts}
pub use Rattle.cord_iter.specs.inner.Walk.{Walks, places_up_to}
pub use Rattle.cord_node.specs.PartsFrom.{Part}
pub use Rattle.cord_node.specs.Tables.{bytes_over}
pub use Rattle.cord_node.specs.Tree.{IsSound, len_of}
pub use Rattle.cord_node.specs.declared.Node.{Node}
pub use Rattle.cord_node.specs.declared.Node.TheVariants.{Cat'}
pub use Rattle.cord_pos.specs.Position.{IsByteAt, prev_index}
