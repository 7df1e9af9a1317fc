use Rattle.std.proofs.Common.{◌≡◌, ◌<◌, ◌≤◌, length, sym, ◌∙◌, arith, rules}
use Rattle.std.specs.Prelude.{slice_get}
use Rattle.cord_file.proofs.SourceBytes.{of_reported}
use Rattle.cord_file.proofs.BlockParts.{inside_opened, open_at, sound_moved}
use Rattle.cord_file.proofs.Ranges.{whole_read}
use Rattle.cord_file.proofs.sources.Sources.read_file_whole.Goals as goal

pub index-file-requires : goal.index-file-requires
index-file-requires g c =
    let files = c.args.self.now.open_files.items in
    let inside : c.args.place < length files = inside_opened files c.args.place (λ f. f.len ≡ c.args.len) c.requires.file in
    search rules

pub read_all-requires-clause-inside : goal.read_all-requires-clause-inside
read_all-requires-clause-inside g c =
    let self = c.args.self.now in
    let file = c.index-file.result.now in
    let at = open_at c.args.place (λ f. f.len ≡ c.args.len) file self.sound c.requires.file c.index-file.ensures in
    let within : c.args.len ≤ file.len = omega (arith, at.holds) in
    of_reported (λ n. c.args.len ≤ n) (g.F.Files.opened self.files file.no.0) file at.known within

pub invariant_of-self-clause-sound : goal.invariant_of-self-clause-sound
invariant_of-self-clause-sound g c =
    sound_moved c.read_all.ensures.device.earlier (λ n h. c.read_all.ensures.device.opened n) c.args.self.now.sound

pub returns-clause-bytes : goal.returns-clause-bytes
returns-clause-bytes g c = λ file_system agrees.
    let self = c.args.self.now in
    let file = c.index-file.result.now in
    let at = open_at c.args.place (λ f. f.len ≡ c.args.len) file self.sound c.requires.file c.index-file.ensures in
    let count : length c.read_all.new.bytes.items ≡ c.args.len = sym c.read_all.new.bytes.ok.0 ∙ c.in_ok-read_all.ensures.len in
    whole_read file_system (g.F.Files.opened self.files file.no.0) (slice_get self.open_files.items c.args.place) file c.args.len
    c.read_all.new.bytes.items at.known at.here count (c.in_ok-read_all.ensures.bytes file_system agrees)
