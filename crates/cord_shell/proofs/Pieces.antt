-- Bytes of a file, piece by piece.
use Rattle.std.proofs.Common.{◌≡◌, ◌≤◌, ℕ, ◌+◌, List, ◌++◌, Option, length, take, drop, ap, sym, ◌∙◌, arith, length-append}
use Rattle.std.specs.Prelude.{IsSomeAnd, Some, None}
use Rattle.std.proofs.lemmas.List.{take-append-le, length-take}
use Rattle.std.proofs.Math.Seq.{take-add}

-- so many bytes of a text, and the next ones
pub more_read : (text old new : List ℕ) (k : ℕ) → old ≡ take (length old) text → new ≡ old ++ take k (drop (length old) text) →
    length new ≡ length old + k → new ≡ take (length new) text
more_read text old new k before more size =
    more ∙ ap (λ xs. xs ++ take k (drop (length old) text)) before ∙ sym (take-add (length old) k text) ∙ ap (λ n. take n text) (sym size)

-- the same, of a text at a path that was reported
pub more_of_reported : (text : List ℕ → List ℕ) (reported : Option (List ℕ × ℕ)) (old new piece rest : List ℕ) (k : ℕ)
    → IsSomeAnd reported (λ t. old ≡ take (length old) (text t.0)) → IsSomeAnd reported
    (λ t. take k piece ≡ take k (drop (length old) (text t.0)))
    → k ≤ length piece → new ≡ old ++ take k (piece ++ rest)
    → IsSomeAnd reported (λ t. new ≡ take (length new) (text t.0))
more_of_reported text None old new piece rest k before read inside more = before
more_of_reported text (Some t) old new piece rest k before read inside more =
    let prefix = take-append-le k piece rest inside in
    let size = ap (λ (xs : List ℕ). length xs) more ∙ length-append old (take k (piece ++ rest)) in
    more_read (text t.0) old new k before (more ∙ ap (λ xs. old ++ xs) (prefix ∙ read))
    (omega (arith, size, ap (λ (xs : List ℕ). length xs) prefix, length-take k piece, inside))
