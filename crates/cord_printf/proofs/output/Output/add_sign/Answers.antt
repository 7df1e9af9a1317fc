use Rattle.std.proofs.Common.{◌≤◌, ℕ, List, [], ◌∷◌, length, subst, sym, arith}
use Rattle.std.specs.Prelude.{Option, IfOk, option_to_list}
use Rattle.cord_node.specs.PartsFrom.{Part}
use Rattle.cord_ec.specs.Gathered.{leaf_bytes}
use Rattle.cord_printf.specs.Own.{IsPrintedFrom}
use Rattle.cord_printf.proofs.Owned.{same_from, when_ok}
use Rattle.cord_printf.proofs.output.Output.add_sign.Goals as goal

pub returns-in_default-clause-made : goal.returns-in_default-clause-made
returns-in_default-clause-made c = same_from (length (option_to_list c.args.sign)) c.args.self.now.parts

pub returns-clause-made : goal.returns-clause-made
returns-clause-made c =
    let old : List Part = c.args.self.now.parts in
    let new : List Part = c.add_bytes.new.self.parts in
    let fits : Type 0 = (k : ℕ) → length (c.in-Some.sign ∷ []) ≤ leaf_bytes k → IsPrintedFrom k old new in
    subst (λ (o : Option ℕ). IfOk c.add_bytes.result (λ _. IsPrintedFrom (length (option_to_list o)) old new)) (sym c.in-Some.is)
    (when_ok fits (IsPrintedFrom 1 old new) c.add_bytes.result (λ m. m 1 (omega arith)) c.add_bytes.ensures.made)
