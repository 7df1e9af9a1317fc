-- What is left of a text that is gone over chunk by chunk.
use Rattle.std.proofs.Common.{◌≡◌, ℕ, zero, suc, ◌+◌, ◌-◌, ◌<◌, ◌≤◌, List, [], ◌∷◌, ◌++◌, length, map, take, drop, refl, sym, ap, ◌∙◌, arith}
use Rattle.std.proofs.Common.{append-nil}
use Rattle.std.specs.Prelude.{Option, Some, None, true, reverse}
use Rattle.std.specs.List.{concat}
use Rattle.std.specs.Iterator.{Yields}
use Rattle.std.specs.Iterator.Runs.{Run, YieldsRun}
use Rattle.std.proofs.Math.Logic.{⊎_elim}
use Rattle.std.proofs.Math.Seq.{take-add}
use Rattle.std.proofs.lemmas.Bool.{cases_lt}
use Rattle.std.proofs.lemmas.Bool.Decides.{nat_tests}
use Rattle.std.proofs.lemmas.List.{take_all, drop_all, take-append-drop, reverse-append}
use Rattle.std.proofs.lemmas.List.Folds.{concat-append}
use Rattle.cord_node.specs.declared.Node.{Node}
use Rattle.cord_node.specs.Tables.{lengths_of}
use Rattle.cord_core.specs.Cord.{text_len}
use Rattle.cord_pos.specs.Position.{index_at, moved_index, prev_index}
use Rattle.cord_pos.specs.Spans.{span_len, span_bytes, IsSpanOf, IsAheadOf, IsBehindOf, SpanFitsIn}
use Rattle.cord_pos.specs.declared.span.Span.{Span}
use Rattle.cord_pos.proofs.Standings.{index_inside}
use Rattle.cord.specs.Plain.{no_table, no_lengths, plain_bytes, IsPlain}
use Rattle.cord.specs.declared.chunks.Chunk.{Chunk}
use Rattle.cord.specs.Chunks.{chunk_bytes, GivesChunk, GivesChunkBefore, IsNextChunk}
use Rattle.cord.specs.inner.Chunks.{left_from, left_to}

-- no index where there is none
no_index : (c : Option Node) (i : ℕ) → text_len c ≤ i → index_at c i ≡ None
no_index c i le = grind (arith, nat_tests)

module _ (c : Option Node) (p : IsPlain c) where
  -- what is left from a place on
  pub left_at : (i : ℕ) → left_from c (index_at c i) ≡ drop i (plain_bytes c)
  left_at i = ⊎_elim
      (λ (lt : i < text_len c). ap (left_from c) (index_inside c i lt))
      (λ (le : text_len c ≤ i). ap (left_from c) (no_index c i le) ∙ sym (drop_all i (plain_bytes c) (omega (arith, le, p.len))))
      (cases_lt i (text_len c))

  -- all is left up to the last place
  pub left_whole : (i : ℕ) → i ≡ text_len c - 1 → left_to c (index_at c i) ≡ plain_bytes c
  left_whole i e = ⊎_elim
      (λ (lt : i < text_len c). ap (left_to c) (index_inside c i lt) ∙ take_all (i + 1) (plain_bytes c) (omega (arith, e, lt, p.len)))
      (λ (le : text_len c ≤ i). ap (left_to c) (no_index c i le) ∙ take_all 0 (plain_bytes c) (omega (arith, e, le, p.len)))
      (cases_lt i (text_len c))

  -- no span lies in a file
  pub span_plain : (o : Option ℕ) (s : Span) → IsAheadOf c o (Some s) → SpanFitsIn no_lengths s
  span_plain None s a = cc
  span_plain (Some i) s a = a.fits no_lengths (p.over.fits no_lengths)

  -- the bytes of a span
  bytes_at : (i : ℕ) (s : Span) → IsSpanOf c i s → span_bytes no_table s ≡ take (span_len s) (drop i (plain_bytes c))
  bytes_at i s a = a.text no_table (p.over.fits (lengths_of no_table))

  -- the chunk with which the bytes begin that are left
  pub chunk_ahead : (o : Option ℕ) (s : Span) (chunk : Chunk) → IsAheadOf c o (Some s) → chunk_bytes chunk ≡ span_bytes no_table s →
      length (chunk_bytes chunk) ≡ span_len s → IsNextChunk (left_from c o) (Some chunk)
  chunk_ahead None s chunk a e len = cc
  chunk_ahead (Some i) s chunk a e len =
      let left = drop i (plain_bytes c) in (
        omega (arith, len, a.some),
        sym (take-append-drop (span_len s) left) ∙ ap (λ (xs : List ℕ). xs ++ drop (span_len s) left) (sym (e ∙ bytes_at i s a))
            ∙ ap (λ (n : ℕ). chunk_bytes chunk ++ drop n left) (sym len),
      )

-- what is left before a place
pub left_before : (c : Option Node) (j : ℕ) → left_to c (prev_index (Some j)) ≡ take j (plain_bytes c)
left_before c zero = refl
left_before c (suc j) = let e : j + 1 ≡ suc j = omega arith in ap (λ (n : ℕ). take n (plain_bytes c)) e

-- the chunk with which the bytes up to an index end
pub chunk_after : (c : Option Node) (i : ℕ) (s : Span) (chunk : Chunk) → IsPlain c → IsBehindOf c (Some i) (Some s) →
    chunk_bytes chunk ≡ span_bytes no_table s →
    left_to c (Some i) ≡ left_to c (prev_index (Some (i + 1 - span_len s))) ++ chunk_bytes chunk
chunk_after c i s chunk p a e =
    let n = span_len s in
    let j = i + 1 - n in
    let x = plain_bytes c in
    let sum : i + 1 ≡ j + n = omega (arith, a.inside) in
    ap (λ (k : ℕ). take k x) sum ∙ take-add j n x ∙ ap (λ (ys : List ℕ). take j x ++ ys) (sym (e ∙ bytes_at c p j s a.span))
    ∙ ap (λ (ys : List ℕ). ys ++ chunk_bytes chunk) (sym (left_before c j))

joined : (left : List ℕ) (chunks : List Chunk) (end after : List ℕ) → Yields GivesChunk left chunks end → GivesChunk end None after →
    concat (map chunk_bytes chunks) ≡ left
joined left [] end after y g = sym (y ∙ g.0)
joined left (chunk ∷ chunks) end after y g = ap (λ (z : List ℕ). chunk_bytes chunk ++ z) (joined y.0 chunks end after y.2 g) ∙ sym y.1.1

-- the chunks of a run up to the end
pub run_joined : (p : Run GivesChunk) → p.whole ≡ true → concat (map chunk_bytes p.items) ≡ p.from
unfolding YieldsRun
run_joined p whole = let d = p.gave.0 in let last = d.2 whole in joined p.from p.items d.0 last.0 d.1 last.1

-- it lies in no file
pub after_plain : (c : Option Node) (o : Option ℕ) (s : Span) → IsPlain c → IsBehindOf c o (Some s) → SpanFitsIn no_lengths s
after_plain c None s p a = cc
after_plain c (Some i) s p a = a.span.fits no_lengths (p.over.fits no_lengths)

-- a position that goes over that chunk
pub step_back : (c : Option Node) (o : Option ℕ) (i : ℕ) (s : Span) (chunk : Chunk) (d : Option Node) (e : Option ℕ) → IsPlain c →
    Some i ≡ o → IsBehindOf c o (Some s) → chunk_bytes chunk ≡ span_bytes no_table s → length (chunk_bytes chunk) ≡ span_len s →
    d ≡ c → e ≡ prev_index (moved_index c o (i + 1 - span_len s)) →
    (0 < length (chunk_bytes chunk)) × (left_to c o ≡ left_to d e ++ chunk_bytes chunk)
step_back c None i s chunk d e p is a bytes len cord index = cc
step_back c (Some j) i s chunk d e p is a bytes len cord index =
    let same : i ≡ j = cc in
    let k = j + 1 - span_len s in
    let inside : k < text_len c = omega (arith, a.span.inside, a.span.some, a.inside) in
    let moved : e ≡ prev_index (index_at c k) = rw same at index in
    let there : e ≡ prev_index (Some k) = moved ∙ ap prev_index (index_inside c k inside) in (
      omega (arith, len, a.span.some),
      rw (cord, there) (chunk_after c j s chunk p a bytes),
    )

-- one list more after those that are joined
concat_last : (xss : List (List ℕ)) (xs : List ℕ) → concat (reverse (xs ∷ xss)) ≡ concat (reverse xss) ++ xs
concat_last xss xs =
    ap (λ (yss : List (List ℕ)). concat yss) (reverse-append (xs ∷ []) xss)
    ∙ concat-append (reverse xss) (xs ∷ [])
    ∙ ap (λ (y : List ℕ). concat (reverse xss) ++ y) (append-nil xs)

joined_back : (left : List ℕ) (chunks : List Chunk) (end after : List ℕ) → Yields GivesChunkBefore left chunks end →
    GivesChunkBefore end None after → concat (reverse (map chunk_bytes chunks)) ≡ left
joined_back left [] end after y g = sym (y ∙ g.0)
joined_back left (chunk ∷ chunks) end after y g =
    concat_last (map chunk_bytes chunks) (chunk_bytes chunk) ∙ ap (λ (z : List ℕ). z ++ chunk_bytes chunk)
    (joined_back y.0 chunks end after y.2 g) ∙ sym y.1.1

-- the chunks of a run up to the end
pub run_joined_back : (p : Run GivesChunkBefore) → p.whole ≡ true → concat (reverse (map chunk_bytes p.items)) ≡ p.from
unfolding YieldsRun
run_joined_back p whole = let d = p.gave.0 in let last = d.2 whole in joined_back p.from p.items d.0 last.0 d.1 last.1
