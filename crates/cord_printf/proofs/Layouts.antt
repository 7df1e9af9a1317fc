-- Layouts of numbers.
use Rattle.std.proofs.Common.{◌≡◌, ℕ, zero, suc, ◌+◌, ◌-◌, ◌≤◌, take, Bool, true, false, not, ◌&&◌, if◌then◌else◌, Option, None, List, []}
use Rattle.std.proofs.Common.{◌∷◌, ◌++◌, length, map, replicate, refl, sym, ap, ◌∙◌, append_assoc, append-nil, length-append, arith}
use Rattle.std.proofs.lemmas.List.{replicate-append-replicate, length-replicate, map-append}
use Rattle.std.specs.Prelude.{unwrap_or, is_none, option_to_list}
use Rattle.cord_printf.specs.declared.pieces.Flags.{Flags}
use Rattle.cord_printf.specs.declared.piece_text.Layout.{Layout}
use Rattle.cord_printf.specs.PieceText.{number_text, padded}
use Rattle.cord_printf.specs.inner.PieceLayouts.{prefix_of}
use Rattle.cord_printf.specs.inner.PieceLayouts.{IsNumberLayout}
use Rattle.cord_node.specs.Tree.{Cell, known}

zero_text : (flags : Flags) (width : ℕ) (precision : Option ℕ) (sign digits : List ℕ) →
    (flags.zero && (not flags.left && is_none precision)) ≡ true
    → number_text flags width precision sign digits ≡ sign ++ replicate (width - length (sign ++ digits)) 48 ++ digits
zero_text flags width precision sign digits e = rw e refl

padded_text : (flags : Flags) (width : ℕ) (precision : Option ℕ) (sign digits : List ℕ) →
    (flags.zero && (not flags.left && is_none precision)) ≡ false
    → number_text flags width precision sign digits ≡ padded 32 flags.left width (sign ++ digits)
padded_text flags width precision sign digits e = rw e refl

inner_length : (sign digits : List ℕ) (pad : ℕ) → length (sign ++ (replicate pad 48 ++ digits)) ≡ length sign + pad + length digits
inner_length sign digits pad = simp (length-append, length-replicate) (omega arith)

-- zeros between sign and digits
zeros_between : (sign digits : List ℕ) (pad blanks : ℕ) → sign ++ replicate (pad + blanks) 48 ++ digits ++ [] ≡ sign ++ replicate blanks 48
    ++ (replicate pad 48 ++ digits)
zeros_between sign digits pad blanks =
    let run : replicate (pad + blanks) 48 ≡ replicate blanks 48 ++ replicate pad 48 =
    sym (replicate-append-replicate {A = ℕ} blanks pad 48 ∙ ap (λ n. replicate {A = ℕ} n 48) (omega arith)) in
    rw run (simp (append_assoc, append-nil))

pub zero_layout : (flags : Flags) (width : ℕ) (precision sign : Option ℕ) (count pad blanks full : ℕ) →
    (flags.zero && (not flags.left && is_none precision)) ≡ true
    → pad ≡ unwrap_or precision 1 - count → blanks ≡ width - (length (option_to_list sign) + pad + count)
    → full ≡ pad + blanks → IsNumberLayout flags width precision sign count (record { before = 0; sign = sign; zeros = full; after = 0 })
zero_layout flags width precision sign count pad blanks full test p b f = λ digits size.
    let s : List ℕ = option_to_list sign in
    let more : unwrap_or precision 1 - length digits ≡ pad = omega arith in
    let fill : width - length (s ++ (replicate pad 48 ++ digits)) ≡ blanks = omega (arith, inner_length s digits pad) in
    rw (zero_text flags width precision s (replicate (unwrap_or precision 1 - length digits) 48 ++ digits) test, more, fill, f)
    (zeros_between s digits pad blanks)

left_layout : (s digits : List ℕ) (pad blanks : ℕ) → s ++ replicate pad 48 ++ digits ++ replicate blanks 32 ≡ s
    ++ (replicate pad 48 ++ digits) ++ replicate blanks 32
left_layout s digits pad blanks = simp append_assoc

right_layout : (s digits : List ℕ) (pad blanks : ℕ) → replicate blanks 32 ++ s ++ replicate pad 48 ++ digits ++ [] ≡ replicate blanks 32
    ++ (s ++ (replicate pad 48 ++ digits))
right_layout s digits pad blanks = simp (append_assoc, append-nil)

pub blank_layout : (flags : Flags) (width : ℕ) (precision sign : Option ℕ) (count pad len before after : ℕ) →
    (flags.zero && (not flags.left && is_none precision)) ≡ false
    → pad ≡ unwrap_or precision 1 - count → len ≡ length (option_to_list sign) + pad + count
    → before ≡ (if flags.left then 0 else width - len) → after ≡ (if flags.left then width - len else 0)
    → IsNumberLayout flags width precision sign count (record { before = before; sign = sign; zeros = pad; after = after })
blank_layout flags width precision sign count pad len before after test p l b a = λ digits size.
    let s : List ℕ = option_to_list sign in
    let more : unwrap_or precision 1 - length digits ≡ pad = omega arith in
    let fill : width - length (s ++ (replicate pad 48 ++ digits)) ≡ width - len = omega (arith, inner_length s digits pad) in
    rw (padded_text flags width precision s (replicate (unwrap_or precision 1 - length digits) 48 ++ digits) test, more, fill, b, a)
    (sides flags.left s digits pad (width - len))
  where
    sides : (left : Bool) (s digits : List ℕ) (pad n : ℕ) → replicate (if left then 0 else n) 32 ++ s ++ replicate pad 48 ++ digits
        ++ replicate (if left then n else 0) 32
        ≡ (if left then s ++ (replicate pad 48 ++ digits) ++ replicate n 32 else replicate n 32 ++ (s ++ (replicate pad 48 ++ digits)))
    sides true s digits pad n = left_layout s digits pad n
    sides false s digits pad n = right_layout s digits pad n

-- a number in its layout, as cells
pub number_shown : (flags : Flags) (width : ℕ) (precision sign : Option ℕ) (count : ℕ) (l : Layout) (digits : List ℕ) →
    IsNumberLayout flags width precision sign count l → count ≡ length digits
    → map known (prefix_of l) ++ map known digits ++ map known (replicate l.after 32)
    ≡ map known (number_text flags width precision (option_to_list sign)
    (replicate (unwrap_or precision 1 - length digits) 48 ++ digits))
number_shown flags width precision sign count l digits h e =
    sym (map-append known (prefix_of l ++ digits) (replicate l.after 32) ∙ ap (λ x. x ++ map known (replicate l.after 32))
    (map-append known (prefix_of l) digits)) ∙ ap (map known) (h digits (sym e))

-- a run under a function
pub map-run : {A B : Type 0} (f : A → B) (n : ℕ) (a : A) → map f (replicate n a) ≡ replicate n (f a)
map-run f zero a = refl
map-run f (suc n) a = ap (λ x. f a ∷ x) (map-run f n a)

no_prefix : (x : List Cell) (n : ℕ) → map known (replicate 0 32 ++ [] ++ replicate 0 48) ++ x ++ map known (replicate n 32) ≡ x
    ++ replicate n (known 32)
no_prefix x n = ap (λ y. x ++ y) (map-run known n 32)

no_back : (x : List Cell) (n : ℕ) → map known (replicate n 32 ++ [] ++ replicate 0 48) ++ x ++ map known (replicate 0 32)
    ≡ replicate n (known 32) ++ x
no_back x n = simp append-nil (ap (λ y. y ++ x) (map-run known n 32))

-- blanks round a body, as cells
pub padding_shown : (left : Bool) (width len : ℕ) (l : Layout) (x : List Cell) → len ≡ length x
    → l.before ≡ (if left then 0 else width - len) → l.after ≡ (if left then width - len else 0) → (l.sign ≡ None) × (l.zeros ≡ 0)
    → map known (prefix_of l) ++ x ++ map known (replicate l.after 32) ≡ padded (known 32) left width x
padding_shown true width len l x e b a n = rw (b, a, n.0, n.1, e) (no_prefix x (width - length x))
padding_shown false width len l x e b a n = rw (b, a, n.0, n.1, e) (no_back x (width - length x))

-- the start of a run
pub take-run : (n m : ℕ) (b : ℕ) → n ≤ m → map known (take n (replicate m b)) ≡ replicate n (known b)
take-run zero m b h = refl
take-run (suc n) zero b h = absurd (omega arith)
take-run (suc n) (suc m) b h = ap (λ x. known b ∷ x) (take-run n m b (omega arith))

-- blanks, a sign and zeros, one after another
pub prefix_added : (l : Layout) (x one two three : List Cell) → one ≡ x ++ replicate l.before (known 32) →
    two ≡ one ++ map known (option_to_list l.sign) → three ≡ two ++ replicate l.zeros (known 48) → three ≡ x ++ map known (prefix_of l)
prefix_added l x one two three a b d = rw (d, b, a) (simp (append_assoc, map-append, map-run))

-- what stands in front, a body and blanks, one after another
pub shown_added : (l : Layout) (body x one two three : List Cell) → one ≡ x ++ map known (prefix_of l) → two ≡ one ++ body →
    three ≡ two ++ replicate l.after (known 32) → three ≡ x ++ (map known (prefix_of l) ++ body ++ map known (replicate l.after 32))
shown_added l body x one two three a b d = rw (d, b, a, map-run) (simp append_assoc)
