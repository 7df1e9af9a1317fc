use Rattle.std.proofs.Common.{◌≡◌, ℕ, ◌+◌, List, length, Option, ap, subst, ◌∙◌, arith, rules}
use Rattle.std.specs.Prelude.{slice_get}
use Rattle.std.specs.String.{string_bytes}
use Rattle.cord_file.specs.inner.Blocks.{AreRead}
use Rattle.cord_file.specs.declared.files.OpenFile.{OpenFile}
use Rattle.cord_file.proofs.Ranges.{more_read, all_read, read_to_end}
use Rattle.cord_file.proofs.sources.Sources.read_blocks.Goals as goal

pub loop-done-preserved : goal.loop-done-preserved
loop-done-preserved g c =
    let loop = c.loop-done in
    let old = c.args.self.now in
    let part : List ℕ = c.read_one.new.out in
    let size : ℕ = c.size_of-size.result in
    let count : size ≡ length part = search rules in
    let at : Option OpenFile = slice_get old.open_files.items c.args.place in
    let here : slice_get loop.self.open_files.items c.args.place ≡ at = ap (λ xs. slice_get xs c.args.place) loop.invariant.open_files in
    record {
      done = search rules;
      earlier = λ file_system agrees. loop.invariant.earlier file_system (c.in_ok-read_one.ensures.files.device.earlier file_system agrees);
      open_files = c.read_one.ensures.files.open_files ∙ loop.invariant.open_files;
      opened = λ n. c.read_one.ensures.files.device.opened n ∙ loop.invariant.opened n;
      count = search rules;
      bytes = λ file_system agrees.
          let read : AreRead file_system at (c.args.start + loop.done) part =
          subst (λ o. AreRead file_system o (c.args.start + loop.done) part) here (c.in_ok-read_one.ensures.bytes file_system agrees) in
          more_read (λ f. string_bytes f.path) file_system at loop.done size _ c.args.start loop.out part loop.invariant.done
          (omega (arith, count))
          (loop.invariant.bytes file_system (c.in_ok-read_one.ensures.files.device.earlier file_system agrees))
          (all_read file_system at (c.args.start + loop.done) size part count read);
    }

pub returns : goal.returns
returns g c = record {
  files = search rules;
  bytes = λ file_system agrees. read_to_end file_system (slice_get c.args.self.now.open_files.items c.args.place) c.args.start
      c.loop-done.done c.loop-done.out (omega arith) (c.loop-done.invariant.bytes file_system agrees);
}
