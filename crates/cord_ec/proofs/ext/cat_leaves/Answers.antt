use Rattle.std.proofs.Common.{◌≡◌, ◌+◌, ◌<◌, ◌≤◌, ◌∙◌, ℕ, List, ◌++◌, min, length, map, ap, refl, arith}
use Rattle.std.proofs.lemmas.Grind.{common_steps}
use Rattle.cord_node.specs.Tree.{known}
use Rattle.cord_core.specs.Cord.{text, parts_of}
use Rattle.cord_raw.specs.declared.buffer.TheConstants.RawBuf.{CAP}
use Rattle.cord_ec.proofs.Leaves.{gathering_end, gathering_start, gathering_step, leaf_text}
use Rattle.cord_ec.proofs.ext.cat_leaves.Goals as goal

pub loop-rest-init : goal.loop-rest-init
loop-rest-init c = record { text_is = refl; len_is = refl; gathering = gathering_start (parts_of c.args.cord) (length c.args.bytes.now) }

pub loop-rest-preserved : goal.loop-rest-preserved
loop-rest-preserved c =
    let b : List ℕ = c.extend.new.self in
    let run : List ℕ = c.split_at.result.0.now in
    let left : List ℕ = c.split_at.result.1.now in
    let rest : List ℕ = c.loop-rest.rest.now in
    let bytes_are : b ≡ run = c.in_ok-extend.ensures.added ∙ ap (λ (x : List ℕ). x ++ run) c.clear.ensures in
    let some : 0 < length rest = grind (arith, common_steps) in
    let sum : length run + length left ≡ length rest =
    omega (arith, c.split_at.ensures.front_len, c.split_at.ensures.back_len, c.min.ensures) in
    let most : length run ≡ min (length rest) CAP = omega (arith, c.split_at.ensures.front_len, c.min.ensures) in
    let small : length b ≤ CAP = omega (arith, ap length bytes_are, most) in
    record {
      text_is = leaf_text (text c.loop-rest.longer) (text c.in_ok-longer.longer) (text c.args.cord ++ map known c.args.bytes.now) b run
          rest left c.min.result c.in_ok-longer.ensures.text bytes_are c.split_at.ensures.front c.split_at.ensures.back
          c.loop-rest.invariant.text_is;
      len_is = omega (arith, c.in_ok-longer.ensures.len, ap length bytes_are, sum, c.loop-rest.invariant.len_is);
      gathering = gathering_step (parts_of c.args.cord) (parts_of c.loop-rest.longer) (parts_of c.in_ok-longer.longer) b
          (length c.args.bytes.now) (length rest) (length run) (length left) sum most some small c.in_ok-longer.ensures.parts_from
          c.loop-rest.invariant.gathering;
    }

pub returns-clause-gathered : goal.returns-clause-gathered
returns-clause-gathered c = gathering_end (parts_of c.args.cord) (parts_of c.loop-rest.longer) (length c.args.bytes.now)
    (length c.loop-rest.rest.now) c.loop-rest.invariant.gathering
