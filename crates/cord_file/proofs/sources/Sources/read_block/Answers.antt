use Rattle.std.proofs.Common.{◌≡◌, ◌*◌, ◌<◌, length, refl, rules}
use Rattle.std.specs.Prelude.{slice_get}
use Rattle.cord_file.specs.declared.blocks.TheConstants.{BLOCK}
use Rattle.cord_file.proofs.SourceBytes.{of_reported}
use Rattle.cord_file.proofs.BlockParts.{inside_opened, open_at, block_of_reported, sound_moved}
use Rattle.cord_file.proofs.sources.Sources.read_block.Goals as goal

pub index-file-requires : goal.index-file-requires
index-file-requires g c =
    let self = c.args.self.now in
    let inside : c.args.place < length self.open_files.items =
    inside_opened self.open_files.items c.args.place (λ file. c.args.number * BLOCK < file.len) c.requires.inside in
    search rules

pub read_block-requires-clause-reported : goal.read_block-requires-clause-reported
read_block-requires-clause-reported g c =
    let self = c.args.self.now in
    let file = c.index-file.result.now in
    let at = open_at c.args.place (λ f. c.args.number * BLOCK < f.len) file self.sound c.requires.inside c.index-file.ensures in
    of_reported (λ n. file.len ≡ n) (g.F.Files.opened self.files file.no.0) file at.known refl

pub read_block-requires-clause-inside : goal.read_block-requires-clause-inside
read_block-requires-clause-inside g c =
    (open_at c.args.place (λ f. c.args.number * BLOCK < f.len) c.index-file.result.now c.args.self.now.sound c.requires.inside
    c.index-file.ensures).holds

pub read_block-requires-clause-limit : goal.read_block-requires-clause-limit
read_block-requires-clause-limit g c =
    (open_at c.args.place (λ f. c.args.number * BLOCK < f.len) c.index-file.result.now c.args.self.now.sound c.requires.inside
    c.index-file.ensures).short

pub invariant_of-self : goal.invariant_of-self
invariant_of-self g c = record {
  few = c.args.self.now.few;
  sound = sound_moved c.read_block.ensures.device.earlier (λ n h. c.read_block.ensures.device.opened n) c.args.self.now.sound;
}

pub returns-clause-block : goal.returns-clause-block
returns-clause-block g c = λ file_system is.
    let self = c.args.self.now in
    let file = c.index-file.result.now in
    let at = open_at c.args.place (λ f. c.args.number * BLOCK < f.len) file self.sound c.requires.inside c.index-file.ensures in
    block_of_reported c.read_block.result file_system (g.F.Files.opened self.files file.no.0) (slice_get self.open_files.items c.args.place)
    file c.args.number c.read_block.new.block at.known at.here (c.read_block.ensures.block file_system is)
