use Rattle.cord_iter.proofs.Common.{false, get_or, sym, true, ◌+◌, ◌≡◌}
use Rattle.cord_iter.proofs.Lemmas.{walk_next, walk_stop_in}
use Rattle.cord_iter.proofs.visitor.Visitor.bytes.Goals as goal

pub returns-then-byte : goal.returns-then-byte
returns-then-byte g c =
    let state = g.Self.Visitor.state in
    let step = g.Self.Visitor.step in
    let bytes = c.args.bytes.now in
    let i = c.loop-byte.byte-index in
    let stop : (state c.byte.new.self, true) ≡ step (state c.loop-byte.self) (get_or bytes i 0) = rw c.if-byte.true at c.byte.ensures in
    sym (walk_stop_in step (state c.args.self.now) (state c.byte.new.self) bytes (i + 1)
    (walk_next step (state c.args.self.now) (state c.loop-byte.self) (state c.byte.new.self) true bytes i c.loop-byte-test.true
    c.loop-byte.invariant stop))

pub loop-byte-preserved : goal.loop-byte-preserved
loop-byte-preserved g c =
    let state = g.Self.Visitor.state in
    let step = g.Self.Visitor.step in
    let bytes = c.args.bytes.now in
    let i = c.loop-byte.byte-index in
    let on : (state c.byte.new.self, false) ≡ step (state c.loop-byte.self) (get_or bytes i 0) = rw c.if-byte.false at c.byte.ensures in
    walk_next step (state c.args.self.now) (state c.loop-byte.self) (state c.byte.new.self) false bytes i c.loop-byte-test.true
    c.loop-byte.invariant on
