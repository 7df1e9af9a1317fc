-- What a print makes of its own.
use Rattle.std.proofs.Common.{◌≡◌, ℕ, ◌+◌, ◌-◌, ◌<◌, ◌≤◌, Option, Some, None, List, [], ◌∷◌, ◌++◌, length, map, replicate, drop, get_or}
use Rattle.std.proofs.Common.{length-append, append-nil, append_assoc, refl, sym, ap, ◌∙◌, subst, arith}
use Rattle.std.proofs.lemmas.List.{length-map, length-replicate}
use Rattle.std.specs.Prelude.{◌↔◌, Result, Ok, Err, IfOk, IsOk, OnOk, OnErr, is_ok, true, false, option_to_list}
use Rattle.cord_node.specs.declared.Node.{Node}
use Rattle.cord_node.specs.declared.Node.TheVariants.{Leaf, Run, Func, Cat'}
use Rattle.cord_node.specs.Tree.{Cell, known}
use Rattle.cord_node.specs.PartsFrom.{Part, leaf_part, run_part, func_part, IsSmall, IsRangeOf, PartsFrom}
use Rattle.cord_core.specs.Cord.{parts_of}
use Rattle.cord_core.specs.Forms.{IsRunOf}
use Rattle.cord_ec.specs.Gathered.{leaf_bytes, leaf_parts, IsGathered, AreFromOr, MadeOf, Gathered}
use Rattle.cord_ec.proofs.MadeLemmas.{IsOwn, are_both, are_left, are_right, are_self, are_from, are_through, made_from, made_self}
use Rattle.cord_ec.proofs.MadeLemmas.{made_through, made_more, made_beside, made_without, made_wider}
use Rattle.cord_ec.proofs.Leaves.{gathered_own, tail_grown}
use Rattle.cord_printf.specs.declared.piece_text.Layout.{Layout}
use Rattle.cord_printf.specs.declared.piece_text.Body.{Body}
use Rattle.cord_printf.specs.declared.piece_text.Body.TheVariants.{Bytes, Byte, Digits, Start}
use Rattle.cord_printf.specs.declared.piece_text.Shown.{Shown}
use Rattle.cord_printf.specs.declared.pieces.Piece.{Piece}
use Rattle.cord_printf.specs.Pieces.{wants}
use Rattle.cord_printf.specs.PieceText.{PieceArgument, argument_if, others_if, piece_text}
use Rattle.cord_printf.specs.Own.{IsPrinted, IsPrintedFrom, own_bytes, all_own, taken_text}
use Rattle.cord_printf.specs.inner.PieceLayouts.{body_own, body_parts, body_taken, body_text, prefix_of, shown_own, shown_text}
use Rattle.cord_printf.proofs.Prints.{piece_at}

printed_range : (p q : Part) → IsRangeOf p q → IsPrinted q → IsPrinted p
printed_range (leaf_part bytes start len) (leaf_part bytes' start' len') h k = gathered_own.range (leaf_part bytes start len)
    (leaf_part bytes' start' len') h k
printed_range (leaf_part bytes start len) (run_part byte' len') h k = absurd h
printed_range (leaf_part bytes start len) (func_part id' start' len') h k = absurd k
printed_range (run_part byte len) q h k = tt
printed_range (func_part id start len) (leaf_part bytes' start' len') h k = absurd h
printed_range (func_part id start len) (run_part byte' len') h k = absurd h
printed_range (func_part id start len) (func_part id' start' len') h k = absurd k

printed_small : (p : Part) → IsSmall p → IsPrinted p
printed_small (leaf_part bytes start len) h = gathered_own.small (leaf_part bytes start len) h
printed_small (run_part byte len) h = absurd h
printed_small (func_part id start len) h = absurd h

printed_own : IsOwn IsPrinted
printed_own = record { range = printed_range; small = printed_small }

gathered_printed : (p : Part) → IsGathered p → IsPrinted p
gathered_printed (leaf_part bytes start len) h = h
gathered_printed (run_part byte len) h = absurd h
gathered_printed (func_part id start len) h = absurd h

-- what is gathered is printed
pub gathered_from : (k : ℕ) (old new : List Part) → Gathered k old new → IsPrintedFrom k old new
gathered_from k old new h = made_wider IsGathered IsPrinted gathered_printed k old new h

-- what comes from parts is printed
pub printed_from : (old new : List Part) → PartsFrom old new → IsPrintedFrom 0 old new
printed_from old new h = made_from IsPrinted printed_own old new h

-- nothing was added
pub same_from : (n : ℕ) (ps : List Part) → IsPrintedFrom n ps ps
same_from n ps = made_more IsPrinted printed_own 0 n ps ps (omega arith) (made_self IsPrinted printed_own ps)

-- no cord's parts stand after these
pub bare_from : (n : ℕ) (old new : List Part) → IsPrintedFrom n old new → IsPrintedFrom n (old ++ []) new
bare_from n old new h = rw (append-nil old) h

-- two additions, one after the other
pub twice_from : (m n : ℕ) (a b c : List Part) → IsPrintedFrom m a b → IsPrintedFrom n b c → IsPrintedFrom (m + n) a c
twice_from m n a b c h k = made_through IsPrinted printed_own m n a b c h k

-- an addition of a print's own, and one with a cord's parts
pub beside_from : (m n : ℕ) (a b c ps : List Part) → IsPrintedFrom m a b → IsPrintedFrom n (b ++ ps) c → IsPrintedFrom (m + n) (a ++ ps) c
beside_from m n a b c ps h k = made_through IsPrinted printed_own m n (a ++ ps) (b ++ ps) c (made_beside IsPrinted printed_own m a b ps h) k

-- parts that come from a cord
pub start_from : (old ps qs new : List Part) → PartsFrom ps qs → IsPrintedFrom 0 (old ++ qs) new → IsPrintedFrom 0 (old ++ ps) new
start_from old ps qs new k h = record {
  no_more = omega (arith, k.no_more, h.no_more, length-append old ps, length-append old qs);
  from_there = are_through IsPrinted printed_own new (old ++ qs) (old ++ ps) h.from_there
      (are_both IsPrinted printed_own old qs (old ++ ps) (are_left IsPrinted printed_own old old ps (are_self IsPrinted printed_own old))
      (are_right IsPrinted printed_own qs old ps (are_from IsPrinted printed_own qs ps k.from_there)));
}

-- a leaf that is gathered in the place of a cord of one part
pub joined_from : (old ps new : List Part) → length ps ≡ 1 → IsPrintedFrom 1 old new → IsPrintedFrom 0 (old ++ ps) new
joined_from old ps new one h = record {
  no_more = omega (arith, one, h.no_more, length-append old ps);
  from_there = are_left IsPrinted printed_own new old ps h.from_there;
}

-- a run is a print's own
run_own : (b n : ℕ) (c : Option Node) → IsRunOf b n c → AreFromOr IsPrinted (parts_of c) []
run_own b n None h = tt
run_own b n (Some (Leaf len bytes start mark)) h = absurd h
run_own b n (Some (Run byte len)) h = (tt, tt)
run_own b n (Some (Func id len start)) h = absurd h
run_own b n (Some (Cat' mark depth len p left q right count)) h = absurd h

one_run : (b n : ℕ) (c : Option Node) → IsRunOf b n c → length (parts_of c) ≤ 1
one_run b n None h = omega arith
one_run b n (Some (Leaf len bytes start mark)) h = absurd h
one_run b n (Some (Run byte len)) h = omega arith
one_run b n (Some (Func id len start)) h = absurd h
one_run b n (Some (Cat' mark depth len p left q right count)) h = absurd h

pub run_from : (b n : ℕ) (c : Option Node) (old new : List Part) → IsRunOf b n c → 0 < n → IsPrintedFrom 0 (old ++ parts_of c) new →
    IsPrintedFrom n old new
run_from b n c old new run some h =
    let few : length (parts_of c) + 0 ≤ n = omega (arith, one_run b n c run, some) in
    made_more IsPrinted printed_own (length (parts_of c) + 0) n old new few
    (made_without IsPrinted printed_own 0 old (parts_of c) new (run_own b n c run) h)

-- gathered bytes that went into a cord
pub put_from : (old new : List Part) (b : List ℕ) → length b ≤ 256 → ((k : ℕ) → length b ≤ leaf_bytes k → Gathered k old new) →
    IsPrintedFrom 0 (old ++ leaf_parts b) new
put_from old new [] short h = subst (λ (ps : List Part). IsPrintedFrom 0 ps new) (sym (append-nil old))
    (gathered_from 0 old new (h 0 (omega arith)))
put_from old new (x ∷ b) short h = joined_from old (leaf_parts (x ∷ b)) new refl (gathered_from 1 old new (h 1 (omega (arith, short))))

-- a call that was Ok where it says when
pub went_well : {A B : Type 0} (r : Result A B) (P Q : Type 0) → is_ok r ≡ true → OnOk r P → IsOk r ↔ Q → P × Q
went_well (Ok x) P Q is h when = (h, when.0 refl)
went_well (Err e) P Q is h when = absurd (cc is)

-- what a refused call leaves
pub went_wrong : {A B : Type 0} (r : Result A B) (P : Type 0) → is_ok r ≡ false → OnErr r P → P
went_wrong (Ok x) P is h = absurd (cc is)
went_wrong (Err e) P is h = h

-- what follows where a call was Ok
pub when_ok : {E : Type 0} (A B : Type 0) (r : Result (Unit {0}) E) → (A → B) → IfOk r (λ _. A) → IfOk r (λ _. B)
when_ok A B (Ok x) f h = f h
when_ok A B (Err e) f h = tt

-- bytes after those that are gathered
pub tail_from : (ps : List Part) (a b : List ℕ) (k : ℕ) → length (a ++ b) ≤ 256 → length b ≤ leaf_bytes k →
    IsPrintedFrom k (ps ++ leaf_parts a) (ps ++ leaf_parts (a ++ b))
tail_from ps a b k short h = gathered_from k (ps ++ leaf_parts a) (ps ++ leaf_parts (a ++ b)) (tail_grown ps a b k (omega (arith, short)) h)

-- bytes after those that went into a cord
pub grown_from : (old middle new : List Part) (b : List ℕ) → IsPrintedFrom 0 old middle →
    ((k : ℕ) → length b ≤ leaf_bytes k → Gathered k middle new) → (k : ℕ) → length b ≤ leaf_bytes k →
    IsPrintedFrom k old (new ++ leaf_parts [])
grown_from old middle new b h g k fits = subst (λ (ps : List Part). IsPrintedFrom k old ps) (sym (append-nil new))
    (made_more IsPrinted printed_own (0 + k) k old new (omega arith)
    (made_through IsPrinted printed_own 0 k old middle new h (gathered_from k middle new (g k fits))))

-- a cord after those that went into a cord
pub cord_from : (old middle new x : List Part) (b : List ℕ) → b ≡ [] → IsPrintedFrom 0 old middle → PartsFrom (middle ++ x) new →
    IsPrintedFrom 0 (old ++ x) (new ++ leaf_parts b)
cord_from old middle new x b none made k =
    subst (λ (y : List ℕ). IsPrintedFrom 0 (old ++ x) (new ++ leaf_parts y)) (sym none)
    (subst (λ (ps : List Part). IsPrintedFrom 0 (old ++ x) ps) (sym (append-nil new))
    (beside_from 0 0 old middle new x made (printed_from (middle ++ x) new k)))

-- each byte in a leaf of its own would be enough
pub each_byte : (n : ℕ) (b : List ℕ) (old new : List Part) → length b ≡ n → ((k : ℕ) → length b ≤ leaf_bytes k → IsPrintedFrom k old new) →
    IsPrintedFrom n old new
each_byte n b old new e h = h n (omega (arith, e))

-- three texts, one after another
shown_split : (x y z : List Cell) → x ++ y ++ z ≡ x ++ (y ++ z)
shown_split x y z = simp append_assoc

-- what is printed beside a cord's text
pub own_shown : (s : Shown) (p : Piece) (a : Option (PieceArgument Cell)) → shown_text s ≡ piece_text known p a →
    body_taken s.body ≡ taken_text p a → shown_own s ≡ own_bytes p a
own_shown s p a text taken = own_length s ∙ ap (λ x. length x - length (body_taken s.body)) text
    ∙ ap (λ x. length (piece_text known p a) - length x) taken
  where
    body_length : (b : Body) → length (body_text b) ≡ body_own b + length (body_taken b)
    body_length (Bytes b) = omega (arith, length-map b.now known)
    body_length (Byte b) = omega arith
    body_length (Digits d) = omega (arith, length-map d known)
    body_length (Start c len) = omega arith

    own_length : (s : Shown) → shown_own s ≡ length (shown_text s) - length (body_taken s.body)
    own_length s =
        let prefix : length (map known (prefix_of s.layout)) ≡ length (prefix_of s.layout) = length-map (prefix_of s.layout) known in
        let after : length (map known (replicate s.layout.after 32)) ≡ s.layout.after =
        length-map (replicate s.layout.after 32) known ∙ length-replicate s.layout.after 32 in
        let body : length (body_text s.body ++ map known (replicate s.layout.after 32))
        ≡ length (body_text s.body) + length (map known (replicate s.layout.after 32)) =
        length-append (body_text s.body) (map known (replicate s.layout.after 32)) in
        let split : shown_text s ≡ map known (prefix_of s.layout) ++ (body_text s.body ++ map known (replicate s.layout.after 32)) =
        shown_split (map known (prefix_of s.layout)) (body_text s.body) (map known (replicate s.layout.after 32)) in
        let all : length (shown_text s) ≡ length (map known (prefix_of s.layout)) + length
        (body_text s.body ++ map known (replicate s.layout.after 32)) =
        ap length split ∙ length-append (map known (prefix_of s.layout)) (body_text s.body ++ map known (replicate s.layout.after 32)) in
        omega (arith, prefix, after, body, all, body_length s.body)

-- blanks, a sign and zeros
pub prefix_length : (l : Layout) → length (prefix_of l) ≡ l.before + (length (option_to_list l.sign) + l.zeros)
prefix_length l = simp (length-append, length-replicate) (omega arith)

-- what a loop over the pieces keeps: what is made, with the parts that are still to come, has no more than all of these, and what is left
pub record IsPrinting (all : List Part) (own : ℕ) (made rest : List Part) (left : ℕ) : Type 0 where
  pub no_more : length made + length rest + left ≤ length all + own
  pub from_there : AreFromOr IsPrinted (made ++ rest) all

pub printing_start : (all : List Part) (own : ℕ) (made : List Part) → made ≡ [] → IsPrinting all own made all own
printing_start all own made none = rw none (record { no_more = omega arith; from_there = are_self IsPrinted printed_own all })

pub printing_step : (all : List Part) (own : ℕ) (made next given others ps rest : List Part) (n left after : ℕ) →
    IsPrinting all own made rest left → rest ≡ given ++ others → PartsFrom given ps → left ≡ n + after
    → IsPrintedFrom n (made ++ ps) next → IsPrinting all own next others after
printing_step all own made next given others ps rest n left after h split k count step =
    let own_laws = printed_own in
    let others_from : AreFromOr IsPrinted (made ++ ps) (made ++ given) =
    (start_from made given ps (made ++ ps) k (made_self IsPrinted own_laws (made ++ ps))).from_there in
    let before : AreFromOr IsPrinted (made ++ (given ++ others)) all =
    subst (λ x. AreFromOr IsPrinted (made ++ x) all) split h.from_there in
    let there : AreFromOr IsPrinted ((made ++ given) ++ others) all = rw (append_assoc made given others) before in
    let mine : MadeOf IsPrinted 0 (made ++ given) (made ++ given) = made_self IsPrinted own_laws (made ++ given) in
    let grown : AreFromOr IsPrinted next (made ++ given) =
    are_through IsPrinted own_laws next (made ++ ps) (made ++ given) step.from_there others_from in
    let both : AreFromOr IsPrinted (next ++ others) ((made ++ given) ++ others) =
    are_both IsPrinted own_laws next others ((made ++ given) ++ others) (are_left IsPrinted own_laws next (made ++ given) others grown)
    (are_right IsPrinted own_laws others (made ++ given) others (are_self IsPrinted own_laws others)) in
    record {
      no_more = omega (
        arith,
        h.no_more,
        ap length split,
        length-append given others,
        k.no_more,
        count,
        step.no_more,
        length-append made ps,
      );
      from_there = are_through IsPrinted own_laws (next ++ others) ((made ++ given) ++ others) all both there;
    }

pub printing_end : (all : List Part) (own : ℕ) (made rest : List Part) (left : ℕ) (c : List Part) → IsPrinting all own made rest left →
    IsPrintedFrom 0 made c → IsPrintedFrom own all c
printing_end all own made rest left c h k = record {
  no_more = omega (arith, h.no_more, k.no_more);
  from_there = are_through IsPrinted printed_own c (made ++ rest) all (are_left IsPrinted printed_own c made rest k.from_there)
      h.from_there;
}

-- the own bytes of the pieces that are left, one piece further
pub own_next : (pieces : List Piece) (i : ℕ) (p : Piece) (args others : List (PieceArgument Cell)) (a : Option (PieceArgument Cell))
    (n : ℕ) → i < length pieces → p ≡ get_or pieces i p
    → a ≡ argument_if (wants p) args → others ≡ others_if (wants p) args → n ≡ own_bytes p a →
    all_own (drop i pieces) args ≡ n + all_own (drop (i + 1) pieces) others
own_next pieces i p args others a n within is taken left own =
    let after : List Piece = drop (i + 1) pieces in
    let first : n ≡ own_bytes p (argument_if (wants p) args) = own ∙ ap (λ x. own_bytes p x) taken in
    ap (λ (ps : List Piece). all_own ps args) (piece_at pieces i p within is)
    ∙ ap (λ (m : ℕ). m + all_own after (others_if (wants p) args)) (sym first)
    ∙ ap (λ (os : List (PieceArgument Cell)). n + all_own after os) (sym left)

-- the steps of a prefix, and of what is printed
pub prefix_from : (l : Layout) (a b c d : List Part) → IsPrintedFrom l.before a b → IsPrintedFrom (length (option_to_list l.sign)) b c →
    IsPrintedFrom l.zeros c d → IsPrintedFrom (length (prefix_of l)) a d
prefix_from l a b c d one two three = subst (λ (n : ℕ). IsPrintedFrom n a d) (sym (prefix_length l))
    (twice_from l.before (length (option_to_list l.sign) + l.zeros) a b d one
    (twice_from (length (option_to_list l.sign)) l.zeros b c d two three))

pub shown_from : (s : Shown) (a b c d : List Part) → IsPrintedFrom (length (prefix_of s.layout)) a b →
    IsPrintedFrom (body_own s.body) (b ++ body_parts s.body) c → IsPrintedFrom s.layout.after c d →
    IsPrintedFrom (shown_own s) (a ++ body_parts s.body) d
shown_from s a b c d one two three = twice_from (length (prefix_of s.layout) + body_own s.body) s.layout.after (a ++ body_parts s.body) c d
    (beside_from (length (prefix_of s.layout)) (body_own s.body) a b c (body_parts s.body) one two) three
