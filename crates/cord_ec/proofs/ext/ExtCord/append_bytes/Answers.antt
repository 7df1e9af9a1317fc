use Rattle.std.proofs.Common.{◌≡◌, ℕ, ◌+◌, ◌≤◌, List, ◌++◌, length, length-append, map, ap, subst, arith}
use Rattle.std.proofs.lemmas.Grind.{common_steps}
use Rattle.cord_node.specs.Tree.{Cell, known}
use Rattle.cord_node.specs.PartsFrom.{Part}
use Rattle.cord_core.specs.Cord.{text, parts_of}
use Rattle.cord_io.specs.declared.TheConstants.{MAX_LEN}
use Rattle.cord_raw.specs.declared.buffer.TheConstants.RawBuf.{CAP}
use Rattle.cord_ec.specs.Gathered.{Growth, Gathered, leaf_parts}
use Rattle.cord_ec.specs.Grown.{IsGrownBy}
use Rattle.cord_ec.proofs.Growing.{grown_by}
use Rattle.cord_ec.proofs.Leaves.{leaves_added, length_both, tail_grown}
use Rattle.cord_ec.proofs.ext.ExtCord.append_bytes.Goals as goal

pub returns-then-saturating_add-self-clause-over : goal.returns-then-saturating_add-self-clause-over
returns-then-saturating_add-self-clause-over c =
    let before : List Cell = text c.self.inside.cord ++ map known c.self.inside.buffer in
    let after : List Cell = text c.self.inside.cord ++ map known c.extend.new.self in
    let grown : after ≡ before ++ map known c.args.bytes.now = grind (arith, common_steps) in
    subst (λ (xs : List Cell). IsGrownBy xs after c.args.bytes.now) (ap (λ (g : Growth). g.text) c.self.view_is)
    (grown_by before after c.args.bytes.now grown)

pub returns-then-saturating_add-self-clause-gathered : goal.returns-then-saturating_add-self-clause-gathered
returns-then-saturating_add-self-clause-gathered c = λ k few.
    let ps : List Part = parts_of c.self.inside.cord in
    let buffer : List ℕ = c.self.inside.buffer in
    let fits : length (buffer ++ c.args.bytes.now) ≤ CAP = omega (arith, length-append buffer c.args.bytes.now) in
    let longer : Gathered k (ps ++ leaf_parts buffer) (ps ++ leaf_parts c.extend.new.self) =
    rw c.in_ok-extend.ensures.added (tail_grown ps buffer c.args.bytes.now k fits few) in
    subst (λ (before : List Part). Gathered k before (ps ++ leaf_parts c.extend.new.self))
    (ap (λ (g : Growth). g.parts) c.self.view_is) longer

pub returns-then-saturating_add-self-clause-within_limit : goal.returns-then-saturating_add-self-clause-within_limit
returns-then-saturating_add-self-clause-within_limit c =
    let before : List Cell = text c.self.inside.cord ++ map known c.self.inside.buffer in
    let size : length before ≡ length (text c.self.inside.cord) + length c.self.inside.buffer =
    length_both (text c.self.inside.cord) c.self.inside.buffer in
    let short : length before + length c.args.bytes.now ≤ MAX_LEN =
    omega (arith, size, c.self.invariant.2, c.len.ensures.value, c.saturating_add.ensures, c.if-saturating_add-self.true) in
    subst (λ (xs : List Cell). length xs + length c.args.bytes.now ≤ MAX_LEN) (ap (λ (g : Growth). g.text) c.self.view_is) short

pub returns-clause-over : goal.returns-clause-over
returns-clause-over c =
    let before : List Cell = text c.self.inside.cord ++ map known c.self.inside.buffer in
    let after : List Cell = text c.in_ok-longer.longer ++ map known c.clear.new.self in
    let grown : after ≡ before ++ map known c.args.bytes.now = grind (arith, common_steps) in
    subst (λ (xs : List Cell). IsGrownBy xs after c.args.bytes.now) (ap (λ (g : Growth). g.text) c.self.view_is)
    (grown_by before after c.args.bytes.now grown)

pub returns-clause-gathered : goal.returns-clause-gathered
returns-clause-gathered c = λ k few.
    let before : List Part = parts_of c.self.inside.cord ++ leaf_parts c.self.inside.buffer in
    let longer : List Part = parts_of c.in_ok-longer.longer in
    subst (λ (old : List Part). Gathered k old (longer ++ leaf_parts c.clear.new.self)) (ap (λ (g : Growth). g.parts) c.self.view_is)
    (leaves_added before (parts_of c.in_ok-so_far.so_far) longer c.clear.new.self k c.clear.ensures c.in_ok-so_far.ensures.parts_from
    (c.in_ok-longer.ensures.gathered k few))
