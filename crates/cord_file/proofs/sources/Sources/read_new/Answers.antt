use Rattle.std.proofs.Common.{◌≡◌, ℕ, ◌+◌, ◌-◌, ◌/◌, ◌%◌, ◌<◌, ◌≤◌, List, length, take, drop, refl, sym, ap, subst, ◌∙◌, arith, rules}
use Rattle.std.specs.Prelude.{slice_get, IsSomeAnd}
use Rattle.std.specs.Box.{with_value}
use Rattle.cord_file.specs.declared.blocks.TheConstants.{BLOCK}
use Rattle.cord_file.specs.declared.blocks.BlockKey.{BlockKey}
use Rattle.cord_file.specs.Blocks.{HeapBlock, IsCached, AreCached}
use Rattle.cord_file.specs.inner.Blocks.{IsBlockIn}
use Rattle.cord_file.proofs.BlockParts.{begins_inside, inside_opened, kept_of_read, read_of_block, kept_with, sound_keeping}
use Rattle.cord_file.proofs.sources.Sources.read_new.Goals as goal

pub read_block-requires : goal.read_block-requires
read_block-requires g c = record {
  inside = begins_inside (slice_get c.args.self.now.open_files.items c.args.place) c.args.start (length c.args.out.now) c.requires.some
      c.requires.inside;
}

pub invariant_of-self-2-clause-sound : goal.invariant_of-self-2-clause-sound
invariant_of-self-2-clause-sound g c =
    let self = c.read_block.new.self in
    let files = self.open_files.items in
    let consistent = g.F.Files.consistent self.files in
    let before = c.args.self.now.open_files.items in
    let inside : c.args.place < length before =
    inside_opened before c.args.place (λ f. c.args.start + length c.args.out.now ≤ f.len) c.requires.inside in
    let same : files ≡ before = c.read_block.ensures.files.open_files in
    let key : BlockKey = record { place = c.args.place; number = c.args.start / BLOCK } in
    let block : HeapBlock = with_value c.in-Some.block c.read_block.new.block in
    let kept : IsCached consistent files (key, block) =
    kept_of_read consistent files key block (subst (λ fs. c.args.place < length fs) (sym same) inside)
    (λ file_system is. subst (λ fs. IsBlockIn file_system (slice_get fs c.args.place) (c.args.start / BLOCK) block.value) (sym same)
    (c.in_ok-read_block.ensures.block file_system is)) in
    let all : AreCached consistent files c.keep.new.cache.entries =
    kept_with consistent files self.cache.entries c.keep.new.cache.entries (key, block) self.sound.cached kept c.keep.ensures in
    sound_keeping all self.sound

pub returns : goal.returns
returns g c = record {
  files = search rules;
  bytes = λ file_system is.
      let files = c.args.self.now.open_files.items in
      let block : HeapBlock = with_value c.in-Some.block c.read_block.new.block in
      let out : List ℕ = c.copy_from_slice.new.self in
      let same : length out ≡ length c.args.out.now = search rules in
      let count : (c.args.start % BLOCK + length c.args.out.now) - c.args.start % BLOCK ≡ length out = search rules in
      let part : c.args.start % BLOCK + length out ≤ BLOCK = omega (arith, same, c.requires.part) in
      let lent : c.deref.result.now ≡ block.value = search rules in
      read_of_block files c.args.place (c.args.start / BLOCK) block.value out c.args.start file_system
      (c.in_ok-read_block.ensures.block file_system is) refl
      (subst (λ n. IsSomeAnd (slice_get files c.args.place) (λ f. c.args.start + n ≤ f.len)) (sym same) c.requires.inside) part
      (c.copy_from_slice.ensures.after ∙ ap (λ t. take ((c.args.start % BLOCK + length c.args.out.now) - c.args.start % BLOCK)
      (drop (c.args.start % BLOCK) t)) lent ∙ ap (λ n. take n (drop (c.args.start % BLOCK) block.value)) count);
}
