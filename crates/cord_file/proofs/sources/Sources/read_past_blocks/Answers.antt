use Rattle.std.proofs.Common.{◌+◌, ◌<◌, ◌≤◌, length, arith, rules}
use Rattle.std.specs.Prelude.{slice_get}
use Rattle.cord_file.proofs.SourceBytes.{of_reported}
use Rattle.cord_file.proofs.BlockParts.{inside_opened, open_at, sound_moved}
use Rattle.cord_file.proofs.Ranges.{read_of_reported}
use Rattle.cord_file.proofs.sources.Sources.read_past_blocks.Goals as goal

pub index-file-requires : goal.index-file-requires
index-file-requires g c =
    let files = c.args.self.now.open_files.items in
    let inside : c.args.place < length files =
    inside_opened files c.args.place (λ f. c.args.start + length c.args.out.now ≤ f.len) c.requires.inside in
    search rules

pub read_range-requires-clause-inside : goal.read_range-requires-clause-inside
read_range-requires-clause-inside g c =
    let self = c.args.self.now in
    let file = c.index-file.result.now in
    let end = c.args.start + length c.args.out.now in
    let at = open_at c.args.place (λ f. end ≤ f.len) file self.sound c.requires.inside c.index-file.ensures in
    of_reported (λ n. end ≤ n) (g.F.Files.opened self.files file.no.0) file at.known at.holds

pub read_range-requires-clause-limit : goal.read_range-requires-clause-limit
read_range-requires-clause-limit g c =
    let at = open_at c.args.place (λ f. c.args.start + length c.args.out.now ≤ f.len) c.index-file.result.now c.args.self.now.sound
    c.requires.inside c.index-file.ensures in
    omega (arith, at.holds, at.short)

pub invariant_of-self-clause-sound : goal.invariant_of-self-clause-sound
invariant_of-self-clause-sound g c =
    sound_moved c.read_range.ensures.device.earlier (λ n h. c.read_range.ensures.device.opened n) c.args.self.now.sound

pub returns : goal.returns
returns g c = record {
  files = search rules;
  bytes = λ file_system agrees.
      let self = c.args.self.now in
      let file = c.index-file.result.now in
      let at = open_at c.args.place (λ f. c.args.start + length c.args.out.now ≤ f.len) file self.sound c.requires.inside
      c.index-file.ensures in
      read_of_reported c.read_range.result file_system (g.F.Files.opened self.files file.no.0) (slice_get self.open_files.items c.args.place)
      file c.args.start c.read_range.new.out at.known at.here (c.read_range.ensures.bytes file_system agrees);
}
