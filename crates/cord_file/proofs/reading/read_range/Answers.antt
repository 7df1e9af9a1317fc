use Rattle.std.proofs.Common.{◌≡◌, ℕ, ◌+◌, List, ◌∙◌, take, drop, subst, rules}
use Rattle.std.specs.Prelude.{IsSomeAnd, Option}
use Rattle.cord_io.specs.Device.{bytes_at}
use Rattle.cord_file.proofs.Ranges.{more_read}
use Rattle.cord_file.proofs.reading.read_range.Goals as goal

pub loop-done-preserved : goal.loop-done-preserved
loop-done-preserved g c =
    let loop = c.loop-done in
    let no = c.args.no.0 in
    let k = c.in_ok-done.field-0 in
    let part = c.read_at.new.out in
    record {
      done = search rules;
      earlier = λ file_system agrees. loop.invariant.earlier file_system (c.in_ok-done.ensures.earlier file_system agrees);
      opened = λ n. c.read_at.ensures.opened n ∙ c.loop-done.invariant.opened n;
      count = search rules;
      bytes = λ file_system agrees.
          let Piece : Option (List ℕ × ℕ) → Type 0 =
          λ reported. IsSomeAnd reported (λ file. take k part ≡ take k (drop (c.args.start + loop.done) (bytes_at file_system file.0))) in
          more_read (λ file. file.0) file_system (g.F.Files.opened c.args.files.now no) loop.done k _ c.args.start loop.out part
          loop.invariant.done c.in_ok-done.ensures.some.1
          (loop.invariant.bytes file_system (c.in_ok-done.ensures.earlier file_system agrees))
          (subst Piece (loop.invariant.opened no) (c.in_ok-done.ensures.bytes file_system agrees));
    }
