-- Bytes that were read ahead.
use Rattle.std.proofs.Common.{◌≡◌, ℕ, ◌+◌, ◌-◌, ◌≤◌, List, take, drop, sym, ap, ◌∙◌, arith}
use Rattle.std.proofs.lemmas.List.{drop-take, take-take, drop-drop}

-- a part of them is a part of the file
pub part_ahead : (first start count k : ℕ) (bytes text out : List ℕ) → first ≤ start → start - first + k ≤ count →
    take count bytes ≡ take count (drop first text) → take k out ≡ take k (drop (start - first) (take count bytes)) →
    take k out ≡ take k (drop start text)
part_ahead first start count k bytes text out after fits same copied =
    let skipped : ℕ = start - first in
    let left : ℕ = count - skipped in
    let whole : skipped + left ≡ count = omega arith in
    let inside : k ≤ left = omega arith in
    let place : first + skipped ≡ start = omega arith in
    let rest : drop skipped (take count (drop first text)) ≡ take left (drop skipped (drop first text)) =
    ap (λ n. drop skipped (take n (drop first text))) (sym whole) ∙ drop-take skipped left (drop first text) in
    copied ∙ ap (λ xs. take k (drop skipped xs)) same ∙ ap (take k) rest ∙ take-take k left (drop skipped (drop first text)) inside
    ∙ ap (take k) (drop-drop skipped first text ∙ ap (λ n. drop n text) place)
