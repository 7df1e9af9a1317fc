use Rattle.std.proofs.Common.{◌≡◌, ℕ, ◌+◌, ◌/◌, ◌%◌, ◌≤◌, List, length, refl, sym, subst, arith, rules}
use Rattle.std.specs.Prelude.{slice_get, IsSomeAnd}
use Rattle.cord_file.specs.declared.blocks.TheConstants.{BLOCK}
use Rattle.cord_file.specs.declared.blocks.BlockKey.{BlockKey}
use Rattle.cord_file.proofs.BlockParts.{read_of_kept, sound_keeping}
use Rattle.cord_file.proofs.sources.Sources.read_part.Goals as goal

pub invariant_of-self-clause-sound : goal.invariant_of-self-clause-sound
invariant_of-self-clause-sound g c =
    let self = c.args.self.now in
    sound_keeping (λ e h. self.sound.cached e (c.copy_kept.ensures.kept e h)) self.sound

pub returns-then-copy_kept : goal.returns-then-copy_kept
returns-then-copy_kept g c = record {
  files = search rules;
  bytes = λ file_system agrees.
      let self = c.args.self.now in
      let files = self.open_files.items in
      let out : List ℕ = c.copy_kept.new.out in
      let same : length out ≡ length c.args.out.now = c.copy_kept.auto.out in
      let key : BlockKey = record { place = c.args.place; number = c.args.start / BLOCK } in
      let block = c.copy_kept.ensures.copied c.if-copy_kept.true in
      let part : c.args.start % BLOCK + length out ≤ BLOCK = omega (arith, same, c.requires.part) in
      read_of_kept (g.F.Files.consistent self.files) files key block.1 out c.args.start (self.sound.cached (block.0, (key, block.1)) block.2)
      refl
      (subst (λ n. IsSomeAnd (slice_get files c.args.place) (λ file. c.args.start + n ≤ file.len)) (sym same) c.requires.inside) part
      block.3 file_system agrees;
}
