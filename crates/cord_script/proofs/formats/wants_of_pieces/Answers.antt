use Rattle.std.specs.Prelude.{◌≡◌, ◌<◌, ◌+◌, ◌++◌, ◌∷◌}
use Rattle.cord_script.proofs.Common.{[], ℕ, List, None, Some, map, drop, length, get_or, sym, ap, ◌∙◌, append_assoc, Option}
use Rattle.cord_script.proofs.Common.{option_to_list, drop_more, ArgKind, Piece, wants, wanted, Want, want_of_kind, wants_of_pieces}
use Rattle.cord_script.proofs.formats.wants_of_pieces.Goals as goal

-- what a piece wants stands in front of what the others want
wants_from : (pieces : List Piece) (i : ℕ) (piece : Piece) (kind : Option ArgKind) → i < length pieces → piece ≡ get_or pieces i piece →
    kind ≡ wants piece → wants_of_pieces (drop i pieces) ≡ map want_of_kind (option_to_list kind ++ wanted (drop (i + 1) pieces))
wants_from pieces i piece kind within is wanting =
    ap wants_of_pieces (drop_more pieces i piece within)
    ∙ ap (λ (k : Option ArgKind). map want_of_kind (option_to_list k ++ wanted (drop (i + 1) pieces))) (sym (wanting ∙ ap wants is))

pub loop-piece-preserved-in_default : goal.loop-piece-preserved-in_default
loop-piece-preserved-in_default c = c.loop-piece.invariant ∙ ap (λ (xs : List Want). c.loop-piece.wants.items ++ xs)
    (wants_from c.args.pieces.now c.loop-piece.piece-index c.piece-item.result None c.loop-piece-test.true c.piece-item.is
    c.in_default.ensures)

pub loop-piece-preserved : goal.loop-piece-preserved
loop-piece-preserved c =
    let old = c.loop-piece.wants.items in
    let rest = wants_of_pieces (drop (c.loop-piece.piece-index + 1) c.args.pieces.now) in
    let grown = c.in_ok-push.ensures.items ∙ ap (λ (w : Want). old ++ w ∷ []) c.want_of_kind.ensures in
    c.loop-piece.invariant
    ∙ ap (λ (xs : List Want). old ++ xs) (wants_from c.args.pieces.now c.loop-piece.piece-index c.piece-item.result
    (Some c.in-Some.kind) c.loop-piece-test.true c.piece-item.is c.in-Some.ensures)
    ∙ sym (append_assoc old (want_of_kind c.in-Some.kind ∷ []) rest)
    ∙ ap (λ (xs : List Want). xs ++ rest) (sym grown)
