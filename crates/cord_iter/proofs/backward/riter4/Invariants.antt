use Rattle.cord_iter.proofs.Common.{FileSystem, bytes_of, false, places_up_to, reverse, take, walk, ◌+◌, ◌-◌, ◌≡◌, ◌≤◌}
use Rattle.cord_iter.proofs.backward.riter4.Given as goal

-- the bytes from the place down to the one that is next were walked over without a stop, and no read has failed
abbrev pub invariant-loop-position : goal.invariant-loop-position
invariant-loop-position g l = record {
  cord : l.position.cord ≡ l.cord;
  below : places_up_to l.position.index ≤ l.i + 1;
  walked : (file_system : FileSystem) → g.S.Source.consistent l.src file_system → walk g.V.Visitor.step
      (g.V.Visitor.state l.initial.visitor)
      (take (l.i + 1 - places_up_to l.position.index) (reverse (take (l.i + 1) (bytes_of (g.S.Source.table l.initial.src file_system) l.cord))))
      ≡ (g.V.Visitor.state l.visitor, false);
  reads : g.S.Source.failures l.src ≡ g.S.Source.failures l.initial.src;
  lengths : g.S.Source.lengths l.src ≡ g.S.Source.lengths l.initial.src;
  table : g.S.Source.table l.src ≡ g.S.Source.table l.initial.src;
  earlier : (file_system : FileSystem) → g.S.Source.consistent l.src file_system → g.S.Source.consistent l.initial.src file_system;
}

abbrev pub decreases-loop-position : goal.decreases-loop-position
decreases-loop-position g l = places_up_to l.position.index
