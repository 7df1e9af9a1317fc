use Rattle.cord_run.proofs.Common.{ℕ, Result, sym, subst, ◌∙◌, refl, Option, FileSystem, Table, Lengths, CordError, Node, all_bytes}
use Rattle.cord_run.proofs.Common.{bytes_of, CordFitsIn, FailureCounts, CountsFaults, IsPrefixOf, Takes, MatchResult, handed_on, ◌≡◌, ◌++◌}
use Rattle.cord_run.proofs.Output.{fits_at, puts_none, puts_next, puts_cut, puts_all}
use Rattle.cord_run.proofs.expressions.output.put_pieces.Goals as goal

pub put-requires : goal.put-requires
put-requires g c =
    let ps = c.args.pieces.now in
    let i = c.loop-piece.piece-index in
    let piece = c.piece-item.result in
    record {
      fits = subst (λ (ls : Lengths). CordFitsIn ls piece) (sym c.loop-piece.invariant.lengths)
          (subst (λ (p : Option Node). CordFitsIn (g.R.Source.lengths c.args.source.now) p) (sym c.piece-item.is)
          (fits_at (g.R.Source.lengths c.args.source.now) ps i piece c.requires.fits c.loop-piece-test.true));
    }

pub loop-piece-init : goal.loop-piece-init
loop-piece-init g c = record {
  lengths = refl;
  table = refl;
  earlier = λ file_system agrees. agrees;
  source = refl;
  sink = refl;
  finished = refl;
  puts = λ file_system agrees. puts_none (g.R.Source.table c.args.source.now file_system) c.args.pieces.now
      (g.S.Sink.taken c.args.sink.now);
}

pub returns-in_err-put-clause-puts : goal.returns-in_err-put-clause-puts
returns-in_err-put-clause-puts g c = λ file_system agrees.
    let piece = c.piece-item.result in
    let a = g.S.Sink.taken c.args.sink.now in
    let b = g.S.Sink.taken c.loop-piece.sink in
    let d = g.S.Sink.taken c.put.new.sink in
    let before = c.in_err-put.ensures.source.earlier file_system agrees in
    let t = g.R.Source.table c.args.source.now file_system in
    subst (λ (r : Result (Unit {0}) CordError). MatchResult r (λ _. d ≡ a ++ all_bytes t c.args.pieces.now)
    (λ _. Takes (IsPrefixOf (all_bytes t c.args.pieces.now)) a d))
    (handed_on c.in_err-put.field-0.0 c.from_residual.result c.from_residual.ensures.1)
    (puts_cut t c.args.pieces.now c.loop-piece.piece-index piece c.loop-piece-test.true
    c.piece-item.is a b d (c.loop-piece.invariant.puts file_system before)
    (subst (λ (table : FileSystem → Table). Takes (IsPrefixOf (bytes_of (table file_system) piece)) b d) c.loop-piece.invariant.table
    (c.in_err-put.ensures.prefix file_system agrees)))

pub returns-in_err-put-clause-faults : goal.returns-in_err-put-clause-faults
returns-in_err-put-clause-faults g c =
    let m : FailureCounts = record { source = g.R.Source.failures c.put.new.src; sink = g.S.Sink.failures c.put.new.sink } in
    let source = g.R.Source.failures c.loop-piece.source in
    subst (λ (n : ℕ). CountsFaults (record { source = n; sink = g.S.Sink.failures c.args.sink.now }) m c.from_residual.result)
    c.loop-piece.invariant.source
    (subst (λ (n : ℕ). CountsFaults (record { source = source; sink = n }) m c.from_residual.result) c.loop-piece.invariant.sink
    (subst (λ (r : Result (Unit {0}) CordError). CountsFaults (record { source = source; sink = g.S.Sink.failures c.loop-piece.sink }) m r)
    (handed_on c.in_err-put.field-0.0 c.from_residual.result c.from_residual.ensures.1) c.in_err-put.ensures.faults))

pub loop-piece-preserved : goal.loop-piece-preserved
loop-piece-preserved g c =
    let piece = c.piece-item.result in
    let a = g.S.Sink.taken c.args.sink.now in
    let b = g.S.Sink.taken c.loop-piece.sink in
    let d = g.S.Sink.taken c.put.new.sink in
    record {
      lengths = c.in_ok-put.ensures.source.lengths ∙ c.loop-piece.invariant.lengths;
      table = c.in_ok-put.ensures.source.table ∙ c.loop-piece.invariant.table;
      earlier = λ file_system agrees. c.loop-piece.invariant.earlier file_system (c.in_ok-put.ensures.source.earlier file_system agrees);
      source = c.in_ok-put.ensures.faults.0 ∙ c.loop-piece.invariant.source;
      sink = c.in_ok-put.ensures.faults.1 ∙ c.loop-piece.invariant.sink;
      finished = c.in_ok-put.ensures.finished ∙ c.loop-piece.invariant.finished;
      puts = λ file_system agrees.
          let before = c.in_ok-put.ensures.source.earlier file_system agrees in
          puts_next (g.R.Source.table c.args.source.now file_system) c.args.pieces.now c.loop-piece.piece-index piece c.loop-piece-test.true
          c.piece-item.is a b d (c.loop-piece.invariant.puts file_system before)
          (subst (λ (table : FileSystem → Table). d ≡ b ++ bytes_of (table file_system) piece) c.loop-piece.invariant.table
          (c.in_ok-put.ensures.text file_system agrees));
    }

pub returns-clause-puts : goal.returns-clause-puts
returns-clause-puts g c = λ file_system agrees. puts_all (g.R.Source.table c.args.source.now file_system) c.args.pieces.now
    c.loop-piece.piece-index
    (g.S.Sink.taken c.args.sink.now) (g.S.Sink.taken c.loop-piece.sink) c.loop-piece-test.false
    (c.loop-piece.invariant.puts file_system agrees)
