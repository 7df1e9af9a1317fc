use Rattle.std.proofs.Common.{◌≡◌, ℕ, ◌+◌, ◌-◌, ◌/◌, ◌%◌, ◌≤◌, List, length, take, drop, refl, sym, ap, subst, ◌∙◌, arith, rules}
use Rattle.std.specs.Prelude.{slice_get, IsSomeAnd}
use Rattle.cord_file.specs.declared.blocks.TheConstants.{BLOCK}
use Rattle.cord_file.proofs.BlockParts.{begins_inside, read_of_block}
use Rattle.cord_file.proofs.sources.Sources.read_unkept.Goals as goal

pub read_block-requires : goal.read_block-requires
read_block-requires g c = record {
  inside = begins_inside (slice_get c.args.self.now.open_files.items c.args.place) c.args.start (length c.args.out.now) c.requires.some
      c.requires.inside;
}

pub returns : goal.returns
returns g c = record {
  files = search rules;
  bytes = λ file_system is.
      let files = c.args.self.now.open_files.items in
      let block : List ℕ = c.read_block.new.block in
      let out : List ℕ = c.copy_from_slice.new.self in
      let same : length out ≡ length c.args.out.now = search rules in
      let count : (c.args.start % BLOCK + length c.args.out.now) - c.args.start % BLOCK ≡ length out = search rules in
      let part : c.args.start % BLOCK + length out ≤ BLOCK = omega (arith, same, c.requires.part) in
      read_of_block files c.args.place (c.args.start / BLOCK) block out c.args.start file_system
      (c.in_ok-read_block.ensures.block file_system is) refl
      (subst (λ n. IsSomeAnd (slice_get files c.args.place) (λ f. c.args.start + n ≤ f.len)) (sym same) c.requires.inside) part
      (c.copy_from_slice.ensures.after ∙ ap (λ n. take n (drop (c.args.start % BLOCK) block)) count);
}
