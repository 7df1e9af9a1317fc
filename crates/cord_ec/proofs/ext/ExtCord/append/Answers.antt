use Rattle.std.proofs.Common.{◌≡◌, ℕ, ◌+◌, ◌≤◌, List, [], ◌∷◌, ◌++◌, length, length-append, map, ap, subst, arith}
use Rattle.std.proofs.lemmas.Grind.{common_steps}
use Rattle.cord_node.specs.Tree.{Cell, known}
use Rattle.cord_node.specs.PartsFrom.{Part}
use Rattle.cord_core.specs.Cord.{text, parts_of}
use Rattle.cord_io.specs.declared.TheConstants.{MAX_LEN}
use Rattle.cord_raw.specs.declared.buffer.TheConstants.RawBuf.{CAP}
use Rattle.cord_ec.specs.Gathered.{Growth, Gathered, leaf_parts}
use Rattle.cord_ec.specs.Grown.{IsGrownBy}
use Rattle.cord_ec.proofs.Growing.{grown_by}
use Rattle.cord_ec.proofs.Leaves.{leaf_begun, length_both, tail_grown}
use Rattle.cord_ec.proofs.ext.ExtCord.append.Goals as goal

pub returns-then-len-self-clause-over : goal.returns-then-len-self-clause-over
returns-then-len-self-clause-over c =
    let before : List Cell = text c.self.inside.cord ++ map known c.self.inside.buffer in
    let after : List Cell = text c.self.inside.cord ++ map known c.push.new.self in
    let grown : after ≡ before ++ known c.args.byte ∷ [] = grind (arith, common_steps) in
    subst (λ (xs : List Cell). IsGrownBy xs after (c.args.byte ∷ [])) (ap (λ (g : Growth). g.text) c.self.view_is)
    (grown_by before after (c.args.byte ∷ []) grown)

pub returns-then-len-self-clause-gathered : goal.returns-then-len-self-clause-gathered
returns-then-len-self-clause-gathered c =
    let ps : List Part = parts_of c.self.inside.cord in
    let buffer : List ℕ = c.self.inside.buffer in
    let fits : length (buffer ++ c.args.byte ∷ []) ≤ CAP = omega (arith, length-append buffer (c.args.byte ∷ [])) in
    let longer : Gathered 1 (ps ++ leaf_parts buffer) (ps ++ leaf_parts c.push.new.self) =
    rw c.in_ok-push.ensures.added (tail_grown ps buffer (c.args.byte ∷ []) 1 fits (omega arith)) in
    subst (λ (before : List Part). Gathered 1 before (ps ++ leaf_parts c.push.new.self))
    (ap (λ (g : Growth). g.parts) c.self.view_is) longer

pub returns-then-len-self-clause-within_limit : goal.returns-then-len-self-clause-within_limit
returns-then-len-self-clause-within_limit c =
    let before : List Cell = text c.self.inside.cord ++ map known c.self.inside.buffer in
    let size : length before ≡ length (text c.self.inside.cord) + length c.self.inside.buffer =
    length_both (text c.self.inside.cord) c.self.inside.buffer in
    let short : length before + 1 ≤ MAX_LEN = omega (arith, size, c.self.invariant.2) in
    subst (λ (xs : List Cell). length xs + 1 ≤ MAX_LEN) (ap (λ (g : Growth). g.text) c.self.view_is) short

pub returns-clause-over : goal.returns-clause-over
returns-clause-over c =
    let before : List Cell = text c.self.inside.cord ++ map known c.self.inside.buffer in
    let after : List Cell = text c.begin_next.new.cord ++ map known c.begin_next.new.buffer in
    let grown : after ≡ before ++ known c.args.byte ∷ [] = grind (arith, common_steps) in
    subst (λ (xs : List Cell). IsGrownBy xs after (c.args.byte ∷ [])) (ap (λ (g : Growth). g.text) c.self.view_is)
    (grown_by before after (c.args.byte ∷ []) grown)

pub returns-clause-gathered : goal.returns-clause-gathered
returns-clause-gathered c =
    let before : List Part = parts_of c.self.inside.cord ++ leaf_parts c.self.inside.buffer in
    let longer : List Part = parts_of c.begin_next.new.cord in
    let begun : Gathered 1 before (longer ++ leaf_parts c.begin_next.new.buffer) =
    rw c.in_ok-begin_next.ensures.begun (leaf_begun before longer (c.args.byte ∷ []) (omega arith) c.in_ok-begin_next.ensures.parts_from) in
    subst (λ (old : List Part). Gathered 1 old (longer ++ leaf_parts c.begin_next.new.buffer))
    (ap (λ (g : Growth). g.parts) c.self.view_is) begun
