-- The chunk that is looked at, the next one and the one before.
use Rattle.std.proofs.Common.{◌≡◌, ◌+◌, ◌-◌, ◌≤◌, ◌++◌, ◌∙◌, ℕ, List, take, drop, take-add, ap, sym, arith}
use Rattle.std.proofs.lemmas.List.{take-append-drop, drop-drop}
use Rattle.cord_c.specs.Chunks.{before_of, chunk_of, left_of}
use Rattle.cord_c.specs.declared.chunks.Chunks.{Chunks}

-- the first n bytes are those before the last k of them, and these
pub prefix_parts : (text : List ℕ) (n k : ℕ) → k ≤ n → take (n - k) text ++ take k (drop (n - k) text) ≡ take n text
prefix_parts text n k le =
    let all : n - k + k ≡ n = omega (arith, le) in
    sym (take-add (n - k) k text) ∙ ap (λ (m : ℕ). take m text) all

-- the bytes before a chunk that ends at n, the chunk's, and those after it are the text
pub all_parts : (text chunk : List ℕ) (n k : ℕ) → k ≤ n → chunk ≡ take k (drop (n - k) text) → take (n - k) text ++ chunk ++ drop n text ≡ text
all_parts text chunk n k le is =
    ap (λ (y : List ℕ). take (n - k) text ++ y ++ drop n text) is
    ∙ ap (λ (y : List ℕ). y ++ drop n text) (prefix_parts text n k le) ∙ take-append-drop n text

-- a chunk and the bytes after it are the bytes from where it begins
from_begin : (c : Chunks) → chunk_of c ++ left_of c ≡ drop (c.next - c.count) c.text.text
from_begin c =
    let text = c.text.text in let begin = c.next - c.count in
    let end : c.next ≡ begin + c.count = omega (arith, c.reached) in
    ap (λ (chunk : List ℕ). chunk ++ drop c.next text) c.copied ∙ ap (λ (n : ℕ). take c.count (drop begin text) ++ drop n text) end
    ∙ ap (λ (rest : List ℕ). take c.count (drop begin text) ++ rest) (sym (drop-drop c.count begin text))
    ∙ take-append-drop c.count (drop begin text)

-- the bytes before a chunk and its own are those up to its end
up_to_end : (c : Chunks) → before_of c ++ chunk_of c ≡ take c.next c.text.text
up_to_end c = ap (λ (chunk : List ℕ). before_of c ++ chunk) c.copied ∙ prefix_parts c.text.text c.next c.count c.reached

-- the chunk of n bytes of a text that begins where the old one ends
module _ (old : Chunks) (text shown : List ℕ) (n : ℕ) (same : text ≡ old.text.text) where
  pub next_before : take (old.next + n - n) text ≡ before_of old ++ chunk_of old
  next_before =
      let begin : old.next + n - n ≡ old.next = omega arith in
      ap (λ (i : ℕ). take i text) begin ∙ ap (take old.next) same ∙ sym (up_to_end old)

  pub next_chunk : take n shown ≡ take n (drop (old.next + n - n) text) → take n shown ++ drop (old.next + n) text ≡ left_of old
  next_chunk is =
      let begin : old.next + n - n ≡ old.next = omega arith in
      ap (λ (chunk : List ℕ). chunk ++ drop (old.next + n) text) (is ∙ ap (λ (i : ℕ). take n (drop i text)) begin)
      ∙ ap (λ (rest : List ℕ). take n (drop old.next text) ++ rest) (sym (drop-drop n old.next text))
      ∙ take-append-drop n (drop old.next text) ∙ ap (drop old.next) same

  -- or ends where it begins
  pub left_again : drop (old.next - old.count) text ≡ chunk_of old ++ left_of old
  left_again = ap (drop (old.next - old.count)) same ∙ sym (from_begin old)

  pub chunk_to_end : n ≤ old.next - old.count → take n shown ≡ take n (drop (old.next - old.count - n) text)
      → take (old.next - old.count - n) text ++ take n shown ≡ before_of old
  chunk_to_end le is = let end = old.next - old.count in
      ap (λ (chunk : List ℕ). take (end - n) text ++ chunk) is ∙ prefix_parts text end n le ∙ ap (take end) same
