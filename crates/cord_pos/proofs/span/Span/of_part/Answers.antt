use Rattle.cord_pos.proofs.Common.{List, Node, ap, arith, bytes_over, drop, len_of, length, refl, sym, take, ℕ, ◌+◌, ◌-◌, ◌∙◌, ◌≡◌, ◌≤◌}
use Rattle.cord_pos.proofs.Lemmas.{func_span, range_span, run_span}
use Rattle.std.proofs.Common.{length-drop}
use Rattle.std.proofs.lemmas.List.{length-take-le}
use Rattle.cord_pos.proofs.span.Span.of_part.Goals as goal

pub returns-in-Leaf-clause-len : goal.returns-in-Leaf-clause-len
returns-in-Leaf-clause-len c =
    let from = c.in-Leaf.start + c.args.from in
    let slice = c.as_slice.result.now in
    let count = c.in-Leaf.start + c.args.to - from in
    let inside : c.args.to ≤ c.in-Leaf.len = rw c.in-Leaf.is at c.requires.inside in
    let sound = rw c.in-Leaf.is at c.requires.sound in
    let enough : count ≤ length (drop from slice) = omega (arith, sound.1, inside, c.as_slice.ensures.len, length-drop from slice) in
    omega (arith, length-take-le count (drop from slice) enough)

pub returns-in-Leaf-clause-span : goal.returns-in-Leaf-clause-span
returns-in-Leaf-clause-span c =
    let start = c.in-Leaf.start in
    let len = c.in-Leaf.len in
    let slice = c.as_slice.result.now in
    let inside : c.args.to ≤ len = rw c.in-Leaf.is at c.requires.inside in
    let sound = rw c.in-Leaf.is at c.requires.sound in
    let count : start + c.args.to - (start + c.args.from) ≡ c.args.to - c.args.from = omega arith in
    let whole = length-take-le (start + c.args.to - (start + c.args.from)) (drop (start + c.args.from) slice)
    (omega (arith, sound.1, inside, c.as_slice.ensures.len, length-drop (start + c.args.from) slice)) in
    range_span c.args.node.now _ (λ t. slice) start len (start + c.args.from) c.args.from (c.args.to - c.args.from)
    (λ t. ap (λ (n : Node). bytes_over t n) c.in-Leaf.is ∙ ap (λ (xs : List ℕ). take len (drop start xs)) (sym c.as_slice.ensures.value))
    (ap len_of c.in-Leaf.is) refl (omega (arith, inside, c.requires.some)) (omega (arith, c.requires.some)) (omega (arith, whole))
    (λ t. ap (λ (k : ℕ). take k (drop (start + c.args.from) slice)) count) (λ lengths _. tt)

pub returns-in-Run-clause-span : goal.returns-in-Run-clause-span
returns-in-Run-clause-span c =
    let inside : c.args.to ≤ c.in-Run.len = rw c.in-Run.is at c.requires.inside in
    run_span c.args.node.now _ c.in-Run.byte c.in-Run.len c.args.from (c.args.to - c.args.from) c.in-Run.is
    (omega (arith, inside, c.requires.some)) (omega (arith, c.requires.some)) refl (λ t. refl) (λ lengths. tt)

pub returns-in-Func-clause-span : goal.returns-in-Func-clause-span
returns-in-Func-clause-span c =
    let inside : c.args.to ≤ c.in-Func.len = rw c.in-Func.is at c.requires.inside in
    func_span c.args.node.now _ c.in-Func.id c.in-Func.start c.in-Func.len (c.in-Func.start + c.args.from) c.args.from
    (c.args.to - c.args.from) c.in-Func.is c.requires.sound refl (omega (arith, inside, c.requires.some)) (omega (arith, c.requires.some))
    refl (λ t. refl) (λ lengths held. held)
