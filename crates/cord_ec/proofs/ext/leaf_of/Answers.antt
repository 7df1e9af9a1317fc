use Rattle.std.proofs.Common.{◌≡◌, ℕ, List, subst, arith}
use Rattle.cord_core.specs.Cord.{parts_of}
use Rattle.cord_ec.specs.Gathered.{leaf_parts}
use Rattle.cord_ec.proofs.Leaves.{leaf_of_bytes, no_part}
use Rattle.cord_ec.proofs.ext.leaf_of.Goals as goal

pub returns-then-len-eq0-clause-parts : goal.returns-then-len-eq0-clause-parts
returns-then-len-eq0-clause-parts c = rw c.empty.ensures (no_part c.args.buffer.now (omega (arith, c.len.ensures.value)))

pub returns-in-Ok-clause-parts : goal.returns-in-Ok-clause-parts
returns-in-Ok-clause-parts c = subst (λ (b : List ℕ). parts_of c.in-Ok.leaf ≡ leaf_parts b) c.in_ok-shared.ensures.text
    (leaf_of_bytes _ c.in-Ok.leaf c.in-Ok.ensures.sound c.in-Ok.ensures.form)
