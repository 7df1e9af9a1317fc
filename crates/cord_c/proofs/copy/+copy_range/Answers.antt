use Rattle.std.proofs.Common.{◌≡◌, ◌+◌, ◌-◌, ◌≤◌, ◌∙◌, ℕ, List, length, take, drop, sym, ap, arith, rules, replicate}
use Rattle.std.proofs.lemmas.List.{take-replicate, drop-replicate}
use Rattle.cord_node.proofs.Ranges.{range_of_range, range_right, range_both}
use Rattle.cord_node.specs.declared.Node.{Node}
use Rattle.std.specs.Prelude.{Some}
use Rattle.cord_node.specs.Tree.{len_of, IsSound}
use Rattle.cord_node.specs.Tables.{bytes_over, FitsIn}
use Rattle.cord_core.proofs.OverLemmas.{length-bytes}
use Rattle.cord.specs.Plain.{no_table, no_lengths}
use Rattle.cord_c.proofs.copy.+copy_range.Goals as goal

-- a node over no files has as many bytes as it stores
node_len : (n : Node) → IsSound n → FitsIn no_lengths n → len_of n ≡ length (bytes_over no_table n)
node_len n s f = length-bytes no_table (Some n) s f

pub returns-in-Leaf : goal.returns-in-Leaf
returns-in-Leaf t c =
    let n = length c.args.bytes.now in
    let from = c.args.from in
    let start = c.in-Leaf.start in
    let slice = c.as_slice.result.now in
    let inside : from + n ≤ c.in-Leaf.len = rw c.in-Leaf.is at c.requires.inside in
    let count : (start + from + n) - (start + from) ≡ n = omega arith in
    let copied : c.copy_from_slice.new.self ≡ take ((start + from + n) - (start + from)) (drop (start + from) slice) = search rules in
    copied ∙ ap (λ (k : ℕ). take k (drop (start + from) slice)) count ∙ sym (range_of_range slice from n start c.in-Leaf.len inside)
    ∙ ap (λ (xs : List ℕ). take n (drop from (take c.in-Leaf.len (drop start xs)))) c.as_slice.ensures.value
    ∙ ap (λ (m : Node). take n (drop from (bytes_over no_table m))) (sym c.in-Leaf.is)

pub returns-in-Run : goal.returns-in-Run
returns-in-Run t c =
    let n = length c.args.bytes.now in
    let from = c.args.from in
    let len = c.in-Run.len in
    let byte = c.in-Run.byte in
    let inside : from + n ≤ len = rw c.in-Run.is at c.requires.inside in
    let filled : c.fill.new.self ≡ replicate n byte = search rules in
    filled ∙ sym (take-replicate n (len - from) byte (omega (arith, inside)))
    ∙ ap (λ (xs : List ℕ). take n xs) (sym (drop-replicate from len byte))
    ∙ ap (λ (m : Node). take n (drop from (bytes_over no_table m))) (sym c.in-Run.is)

pub returns-then-middle-from : goal.returns-then-middle-from
returns-then-middle-from t c =
    let left = c.in-Cat.left.value in
    let right = c.in-Cat.right.value in
    let n = length c.args.bytes.now in
    let from = c.args.from in
    let middle = c.len-middle.result in
    let sound = rw c.in-Cat.is at c.requires.sound in
    let plain = rw c.in-Cat.is at c.requires.plain in
    let seam : middle ≡ length (bytes_over no_table left) =
    c.len-middle.ensures.stored ∙ ap len_of c.deref.ensures ∙ node_len left sound.0 plain.0 in
    let copied : c.copy_range-then-middle-from.new.bytes ≡ take n (drop (from - middle) (bytes_over no_table right)) =
    rw c.as_ref-then-middle-from.ensures at c.copy_range-then-middle-from.ensures in
    rw c.in-Cat.is (copied ∙ ap (λ (k : ℕ). take n (drop (from - k) (bytes_over no_table right))) seam
    ∙ sym (range_right (bytes_over no_table left) (bytes_over no_table right) from n (omega (arith, seam, c.if-middle-from.true))))

pub returns-else-middle-from : goal.returns-else-middle-from
returns-else-middle-from t c =
    let left = c.in-Cat.left.value in
    let right = c.in-Cat.right.value in
    let n = length c.args.bytes.now in
    let from = c.args.from in
    let middle = c.len-middle.result in
    let sound = rw c.in-Cat.is at c.requires.sound in
    let plain = rw c.in-Cat.is at c.requires.plain in
    let seam : middle ≡ length (bytes_over no_table left) =
    c.len-middle.ensures.stored ∙ ap len_of c.deref.ensures ∙ node_len left sound.0 plain.0 in
    let prefix : c.copy_range-else-middle-from.new.bytes ≡ take (middle - from) (drop from (bytes_over no_table left)) = search rules in
    let back : c.copy_range-else-middle-from-2.new.bytes ≡ take (from + n - middle) (drop 0 (bytes_over no_table right)) = search rules in
    let both = range_both (bytes_over no_table left) (bytes_over no_table right) from n
    (omega (arith, seam, c.if-middle-from.false)) (omega (arith, seam, c.if-from-bytes.false)) in
    rw c.in-Cat.is (rw (prefix, back, seam) (sym both))
