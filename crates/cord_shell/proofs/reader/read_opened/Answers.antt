use Rattle.std.proofs.Common.{rules, sym, length, ◌≡◌, ◌∙◌, ◌++◌, take, drop, List, ℕ}
use Rattle.cord_io.specs.Device.{bytes_at}
use Rattle.cord_shell.proofs.Pieces.{more_of_reported}
use Rattle.cord_shell.proofs.reader.read_opened.Goals as goal

pub reading-preserved : goal.reading-preserved
reading-preserved g c =
    let before = c.reading.invariant in
    let read = c.in-Ok.ensures in
    record {
      earlier = λ file_system agrees. before.earlier file_system (read.earlier file_system agrees);
      kept = λ n. read.opened n ∙ before.kept n;
      count = read.count ∙ before.count;
      read = λ file_system agrees.
          let same = before.kept c.args.no.0 in
          let at : c.len-done.result ≡ length c.reading.bytes.items = search rules in
          let rest : List ℕ = drop c.min-room.result c.reading.block in
          let more : c.extend_from_slice.new.self.items ≡ c.reading.bytes.items ++ take c.in-Ok.count (c.read_at.new.out ++ rest) =
          search rules in
          more_of_reported (bytes_at file_system) (g.F.Files.opened c.args.files.now c.args.no.0) c.reading.bytes.items
          c.extend_from_slice.new.self.items c.read_at.new.out rest c.in-Ok.count
          (before.read file_system (read.earlier file_system agrees)) (rw (sym same, sym at) (read.bytes file_system agrees)) read.some.1 more;
    }
