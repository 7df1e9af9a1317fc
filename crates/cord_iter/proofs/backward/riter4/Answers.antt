use Rattle.cord_iter.proofs.Common.{IsByteAt, bytes_of, false, places_up_to, prev_index, true, ◌+◌, ◌-◌, ◌∙◌, ◌≡◌}
use Rattle.cord_iter.proofs.Lemmas.{back_next, back_prefix, cord_len, downward, left_prev, on_err, walk_stop_in}
use Rattle.cord_iter.proofs.backward.riter4.Goals as goal

pub returns-in_err-byte-clause-prefix : goal.returns-in_err-byte-clause-prefix
returns-in_err-byte-clause-prefix g c file_system agrees =
    let state = g.V.Visitor.state in
    let walked = c.loop-position.invariant.walked file_system (c.fetch.ensures.source.earlier file_system agrees) in
    on_err c.from_residual.result (back_prefix g.V.Visitor.step (state c.args.visitor.now) (state c.loop-position.visitor)
    (g.S.Source.table c.args.src.now file_system) c.args.cord.now c.args.i _ walked)

pub returns-then-byte-clause-walked : goal.returns-then-byte-clause-walked
returns-then-byte-clause-walked g c file_system agrees =
    let state = g.V.Visitor.state in
    let step = g.V.Visitor.step in
    let t = g.S.Source.table c.args.src.now file_system in
    let cord = c.args.cord.now in
    let index = c.loop-position.position.index in
    let before = c.fetch.ensures.source.earlier file_system agrees in
    let reported = g.met.S.Source.lengths_of_table c.args.src.now file_system (c.loop-position.invariant.earlier file_system before) in
    let len = cord_len (g.S.Source.lengths c.args.src.now) t cord reported c.set-position.ensures.sound c.requires.fits in
    let byte : IsByteAt t cord index c.in_ok-byte.byte =
    rw (c.loop-position.invariant.table, c.loop-position.invariant.cord) at c.in_ok-byte.ensures.byte file_system agrees in
    let stop : (state c.byte.new.self, true) ≡ step (state c.loop-position.visitor) c.in_ok-byte.byte =
    rw c.if-byte.true at c.byte.ensures in
    walk_stop_in step (state c.args.visitor.now) (state c.byte.new.self) (downward (bytes_of t cord) c.args.i)
    (c.args.i + 1 - places_up_to (prev_index index))
    (back_next step (state c.args.visitor.now) (state c.loop-position.visitor) (state c.byte.new.self) true t cord c.args.i index
    c.in_ok-byte.byte len c.requires.inside c.loop-position.invariant.below byte stop (c.loop-position.invariant.walked file_system before))

pub loop-position-preserved : goal.loop-position-preserved
loop-position-preserved g c =
    let state = g.V.Visitor.state in
    let step = g.V.Visitor.step in
    let cord = c.args.cord.now in
    let index = c.loop-position.position.index in
    let on : (state c.byte.new.self, false) ≡ step (state c.loop-position.visitor) c.in_ok-byte.byte =
    rw c.if-byte.false at c.byte.ensures in
    let to : c.prev.new.self.index ≡ prev_index index = rw c.fetch.ensures.stays at c.prev.ensures.index in
    let same : c.prev.new.self.cord ≡ cord = (rw c.fetch.ensures.stays at c.prev.ensures.cord) ∙ c.loop-position.invariant.cord in
    record {
      cord = same;
      below = rw to (left_prev index (c.args.i + 1) c.loop-position.invariant.below);
      walked = λ file_system agrees.
          let t = g.S.Source.table c.args.src.now file_system in
          let before = c.fetch.ensures.source.earlier file_system agrees in
          let reported = g.met.S.Source.lengths_of_table c.args.src.now file_system (c.loop-position.invariant.earlier file_system before)
          in
          let len = cord_len (g.S.Source.lengths c.args.src.now) t cord reported c.set-position.ensures.sound c.requires.fits in
          let byte : IsByteAt t cord index c.in_ok-byte.byte =
          rw (c.loop-position.invariant.table, c.loop-position.invariant.cord) at c.in_ok-byte.ensures.byte file_system agrees in
          rw to (back_next step (state c.args.visitor.now) (state c.loop-position.visitor) (state c.byte.new.self) false t cord c.args.i
          index c.in_ok-byte.byte len c.requires.inside c.loop-position.invariant.below byte on
          (c.loop-position.invariant.walked file_system before));
      reads = c.in_ok-byte.ensures.count ∙ c.loop-position.invariant.reads;
      lengths = c.fetch.ensures.source.lengths ∙ c.loop-position.invariant.lengths;
      table = c.fetch.ensures.source.table ∙ c.loop-position.invariant.table;
      earlier = λ file_system agrees. c.loop-position.invariant.earlier file_system (c.fetch.ensures.source.earlier file_system agrees);
    }
