use Rattle.cord_iter.proofs.Common.{Table, arith, drop, length, length-append, length-drop, length-replicate, length-take-le, refl, subst, sym, take}
use Rattle.cord_iter.proofs.Common.{ℕ, ◌+◌, ◌∙◌, ◌≡◌, ◌≤◌}
use Rattle.cord_iter.proofs.Lemmas.{puts_both, puts_none, puts_some, range_cut, range_on}
use Rattle.cord_iter.proofs.output.put_range.Goals as goal

pub loop-done-init : goal.loop-done-init
loop-done-init g c =
    let zero : ℕ = 0 in
    record { in_range = omega arith; room = length-replicate g.row.N zero; puts = puts_none (λ t. refl) }

pub loop-done-preserved : goal.loop-done-preserved
loop-done-preserved g c =
    let done = c.loop-done.done in
    let count = c.piece_len-count.result in
    let most : count ≤ g.row.N = omega (arith, c.piece_len-count.ensures.most, c.most_of.ensures.inside) in
    let room : count ≤ length c.loop-done.buffer = subst (λ n. count ≤ n) (sym c.loop-done.invariant.room) most in
    let whole : length (take count c.loop-done.buffer) ≡ count = length-take-le count c.loop-done.buffer room in
    record {
      in_range = omega (arith, c.piece_len-count.ensures.inside);
      room = length-append c.put_piece.new.piece (drop count c.loop-done.buffer)
          ∙ (let prefix : length c.put_piece.new.piece ≡ count = c.put_piece.auto.piece ∙ whole in
          let rest = length-drop count c.loop-done.buffer in omega (arith, prefix, rest, room, c.loop-done.invariant.room));
      puts = puts_both (range_on (λ (t : Table). t c.args.id.0) c.args.start done count) refl c.loop-done.invariant.puts
          (rw whole at c.in_ok-put_piece.ensures);
    }

pub returns-in_err-put_piece : goal.returns-in_err-put_piece
returns-in_err-put_piece g c =
    let start = c.args.start in
    let done = c.loop-done.done in
    let count = c.piece_len-count.result in
    let most : count ≤ g.row.N = omega (arith, c.piece_len-count.ensures.most, c.most_of.ensures.inside) in
    let room : count ≤ length c.loop-done.buffer = subst (λ n. count ≤ n) (sym c.loop-done.invariant.room) most in
    let whole : length (take count c.loop-done.buffer) ≡ count = length-take-le count c.loop-done.buffer room in
    let source = λ (t : Table). t c.args.id.0 in
    let inside : done + count ≤ c.args.len = omega (arith, c.piece_len-count.ensures.inside) in
    puts_some (range_cut source start (done + count) c.args.len inside) c.from_residual.ensures.1 inside
    (puts_both (range_on source start done count) refl c.loop-done.invariant.puts (rw whole at c.in_err-put_piece.ensures))

pub returns : goal.returns
returns g c =
    let all : c.loop-done.done ≡ c.args.len = omega (arith, c.loop-done-test.false, c.loop-done.invariant.in_range) in
    rw all at c.loop-done.invariant.puts
