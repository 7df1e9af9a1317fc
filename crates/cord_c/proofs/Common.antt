-- Names that several walks cite, passed on from one place. Declares nothing.
pub use Rattle.std.proofs.Common.{[], ◌∷◌, refl}
pub use lib.Dec.{lit<}
pub use base.Fml.{ftrue}
pub use types.Kit.{‵, ◌⊛◌, ◌$◌, ◌∵◌, !, qed, done, keep, join, feq_i, suffices, at_ret, drop, use1, split, fsplit}
pub use types.Run.{lit, no_more, and_then, returns, enter, bin, stop, fld, of_opd, first, branches, skips, exec, returns_within}
pub use types.ByLocal.{alloc_all, pass_all, free_all, look_at, get, sets, get_in, env}
pub use types.Part.{agg, sub, whole}
pub use contract.Running.{tables}
pub use denote.Exit.{yes}
pub use denote.RawPtr.{null_ptr, tests_null, Testable}
pub use denote.Signature.{plain}
pub use denote.Steps.{nothing}
pub use denote.Triple.Walked.{Stays, stay_dropped, walk_of, ends_at, says}
pub use Rattle.std.proofs.raw_atomic.Walks.{proved}
pub use Rattle.cord_raw.proofs.Words.{handle_typed as heap_typed}
pub use Rattle.core.proofs.alloc.Calls.{Goes-blank}
pub use Rattle.std_alloc.proofs.RcSteps.{Ptr-Good}
pub use Rattle.std_alloc.proofs.VecSteps.Shapes.{after}
