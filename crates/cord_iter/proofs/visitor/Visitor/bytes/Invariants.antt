use Rattle.cord_iter.proofs.Common.{false, take, walk, ◌≡◌}
use Rattle.cord_iter.proofs.visitor.Visitor.bytes.Given as goal

-- the bytes before the index were walked over without a stop
abbrev pub invariant-loop-byte : goal.invariant-loop-byte
invariant-loop-byte g l = walk g.Self.Visitor.step (g.Self.Visitor.state l.initial.self) (take l.byte-index l.bytes)
    ≡ (g.Self.Visitor.state l.self, false)
