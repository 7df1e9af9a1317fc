use Rattle.std.proofs.Common.{◌≡◌, sym, subst, arith, rules}
use Rattle.std.specs.Prelude.{Option, Some}
use Rattle.cord_node.specs.declared.Node.{Node}
use Rattle.cord_core.specs.Cord.{CordFitsIn}
use Rattle.cord_pos.specs.Spans.{IsAheadOf}
use Rattle.cord_c.proofs.Parts.{ahead_fits}
use Rattle.cord_c.specs.Lazy.{cord_of}
use Rattle.cord_c.proofs.lazy_part.zc_lazy_part.Goals.{in-Some+in-Bytes, in-Some+in-Run, in-Some+in-Func, in_default}
use Rattle.cord_c.proofs.lazy_part.zc_lazy_part.Goals as goal

pub returns-clause-inside : goal.returns-clause-inside
returns-clause-inside c lengths fits coded = elim c.match-ahead.branch [
  | in-Some+in-Bytes w ↦ search rules
  | in-Some+in-Run w ↦ search rules
  | in-Some+in-Func w ↦
      let whole : IsAheadOf c.set.result.cord c.set.result.index (Some w.in-Some.span) =
      rw w.in-Some.is at c.ahead-ahead.ensures.span in
      let same : c.set.result.cord ≡ cord_of c.args.x.now = search rules in
      let own : CordFitsIn lengths c.set.result.cord = subst (λ (d : Option Node). CordFitsIn lengths d) (sym same) fits in
      let prefix = w.up_to.ensures.fits lengths (ahead_fits c.set.result.cord c.set.result.index w.in-Some.span lengths whole own) in
      let inside = rw w.in-Func.is at prefix in
      let len = rw w.in-Func.is at w.up_to.ensures.len in
      rw (w.place-is, w.got-is, w.file-is) (omega (arith, inside.0, len))
  | in_default w ↦ search rules
]
