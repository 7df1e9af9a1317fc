use Rattle.std.proofs.Common.{◌∙◌, ◌++◌, List, length, map, ap, sym, subst}
use Rattle.std.proofs.lemmas.List.{length-map}
use Rattle.cord_node.specs.PartsFrom.{Part}
use Rattle.cord_node.specs.Tree.{known}
use Rattle.cord_core.specs.Cord.{parts_of}
use Rattle.cord_core.proofs.OverLemmas.{length-text}
use Rattle.cord_ec.specs.Gathered.{Gathered}
use Rattle.cord_edit.proofs.Parting.{gathered_then_from}
use Rattle.cord_edit.proofs.buffer.leaves_of.Goals as goal

pub returns-clause-text : goal.returns-clause-text
returns-clause-text c = c.in_ok-leaves.ensures.text ∙ c.in_ok-append_bytes.ensures.text
    ∙ ap (λ xs. xs ++ map known c.args.bytes.now) c.in_ok-grown.ensures.text

pub returns-clause-len : goal.returns-clause-len
returns-clause-len c = sym (length-text c.in_ok-leaves.leaves c.in_ok-leaves.ensures.sound) ∙ ap length (returns-clause-text c)
    ∙ length-map c.args.bytes.now known

pub returns-clause-gathered : goal.returns-clause-gathered
returns-clause-gathered c = λ k few. subst (λ (old : List Part). Gathered k old (parts_of c.in_ok-leaves.leaves))
    c.in_ok-grown.ensures.parts (gathered_then_from k _ _ _ (c.in_ok-append_bytes.ensures.gathered k few) c.in_ok-leaves.ensures.parts_from)
