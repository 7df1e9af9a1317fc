use Rattle.std.proofs.Common.{◌≡◌, ℕ, ◌-◌, ◌≤◌, ◌++◌, ◌∙◌, List, length, take, drop, min, refl, sym, ap, subst, rules, arith}
use Rattle.std.proofs.Common.{length-drop}
use Rattle.std.proofs.lemmas.List.{length-take-le}
use Rattle.std.proofs.Math.Seq.{take-append_seam}
use Rattle.cord_node.specs.Tables.{bytes_over}
use Rattle.cord_core.specs.Cord.{CordFitsIn, bytes_of}
use Rattle.cord_core.proofs.CordLemmas.{range_min}
use Rattle.cord.specs.Plain.{no_lengths, no_table}
use Rattle.cord_c.proofs.copy.copy_from.Goals as goal

pub copy_range-requires-clause-plain : goal.copy_range-requires-clause-plain
copy_range-requires-clause-plain c = rw c.as_ref.ensures (subst (CordFitsIn no_lengths) (sym c.in-Some.ensures.value)
    (c.as_cord.ensures.text.fits no_lengths))

pub returns-clause-bytes : goal.returns-clause-bytes
returns-clause-bytes c =
    let text = c.args.text.now in
    let bytes = c.args.bytes.now in
    let start = c.args.start in
    let n = c.min-count.result in
    let copied = c.copy_range.new.bytes in
    let counted : n ≡ min (length bytes) (length text - start) = search rules in
    let inside : n ≤ length bytes = search rules in
    let within : n ≤ length text - start = search rules in
    let root : bytes_over no_table c.as_ref.result.now ≡ text =
    rw c.as_ref.ensures (ap (λ k. bytes_of no_table k) c.in-Some.ensures.value ∙ c.as_cord.ensures.text.bytes no_table) in
    let copied_is : copied ≡ take n (drop start text) = c.copy_range.ensures
    ∙ ap (λ (k : ℕ). take k (drop start (bytes_over no_table c.as_ref.result.now))) (length-take-le n bytes inside)
    ∙ ap (λ (xs : List ℕ). take n (drop start xs)) root in
    let size : length copied ≡ n = ap (λ (xs : List ℕ). length xs) copied_is
    ∙ length-take-le n (drop start text) (omega (arith, within, length-drop start text)) in
    ap (λ (k : ℕ). take k (copied ++ drop n bytes)) (sym size) ∙ take-append_seam copied (drop n bytes) ∙ copied_is
    ∙ ap (λ (k : ℕ). take k (drop start text)) counted ∙ range_min text start (length bytes) (length text) refl
