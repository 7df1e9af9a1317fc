use Rattle.std.specs.Prelude.{◌≡◌, ◌++◌, ◌∷◌}
use Rattle.cord_plan.proofs.Common.{[], List, ℕ, sym, ap, ◌∙◌, append_assoc, append-nil, read_names, read_by}
use Rattle.cord_plan.proofs.Numbers.{both_added, none_added, one_added}
use Rattle.cord_plan.proofs.flow.numbering.add_read.Goals as goal

pub others-init : goal.others-init
others-init c = record {
  done = [];
  whole = sym c.reading-left.ensures;
  added = none_added c.args.names.now.items c.args.read.now.items;
}

pub others-preserved : goal.others-preserved
others-preserved c =
    let inv = c.others.invariant in
    let x = c.in-Some.name.now in
    record {
      done = inv.done ++ x ∷ [];
      whole = inv.whole ∙ (ap (λ (xs : List (List ℕ)). inv.done ++ xs) c.in-Some.ensures
          ∙ sym (append_assoc inv.done (x ∷ []) (read_names c.in-Some.rest)));
      added = both_added inv.done (x ∷ []) c.args.names.now.items c.others.names.items c.number.new.names.items c.args.read.now.items
          c.others.read.items c.push.new.self.items inv.added (one_added x _ _ _ _ _ c.in_ok-number.ensures c.in_ok-push.ensures.items);
    }

pub returns : goal.returns
returns c =
    let inv = c.others.invariant in
    let all : read_by c.args.statement.now ≡ inv.done =
    inv.whole ∙ (ap (λ (xs : List (List ℕ)). inv.done ++ xs) c.in_default.ensures ∙ append-nil inv.done) in
    rw all inv.added
