use Rattle.std.proofs.Common.{◌≤◌, ◌∙◌, ℕ, List, [], ◌∷◌, ◌++◌, ap, length, refl, subst, sym}
use Rattle.std.specs.Prelude.{IfOk}
use Rattle.cord_node.specs.PartsFrom.{Part}
use Rattle.cord_ec.specs.Gathered.{leaf_bytes}
use Rattle.cord_printf.specs.declared.piece_text.Body.{Body}
use Rattle.cord_printf.specs.Own.{IsPrintedFrom}
use Rattle.cord_printf.specs.inner.PieceLayouts.{body_own, body_parts}
use Rattle.cord_printf.proofs.Owned.{bare_from, each_byte, when_ok}
use Rattle.cord_printf.proofs.output.Output.add_body.Goals as goal

pub returns-in-Bytes-clause-made : goal.returns-in-Bytes-clause-made
returns-in-Bytes-clause-made c =
    let old : List Part = c.args.self.now.parts in
    let new : List Part = c.add_bytes.new.self.parts in
    let bytes : List ℕ = c.in-Bytes.bytes.now in
    let fits : Type 0 = (k : ℕ) → length bytes ≤ leaf_bytes k → IsPrintedFrom k old new in
    subst (λ (b : Body). IfOk c.add_bytes.result (λ _. IsPrintedFrom (body_own b) (old ++ body_parts b) new)) (sym c.in-Bytes.is)
    (when_ok fits (IsPrintedFrom (length bytes) (old ++ []) new) c.add_bytes.result
    (λ m. bare_from (length bytes) old new (each_byte (length bytes) bytes old new refl m)) c.add_bytes.ensures.made)

pub returns-in-Byte-clause-made : goal.returns-in-Byte-clause-made
returns-in-Byte-clause-made c =
    let old : List Part = c.args.self.now.parts in
    let new : List Part = c.add_bytes-in-Byte.new.self.parts in
    let bytes : List ℕ = c.in-Byte.byte ∷ [] in
    let fits : Type 0 = (k : ℕ) → length bytes ≤ leaf_bytes k → IsPrintedFrom k old new in
    subst (λ (b : Body). IfOk c.add_bytes-in-Byte.result (λ _. IsPrintedFrom (body_own b) (old ++ body_parts b) new)) (sym c.in-Byte.is)
    (when_ok fits (IsPrintedFrom 1 (old ++ []) new) c.add_bytes-in-Byte.result
    (λ m. bare_from 1 old new (each_byte 1 bytes old new refl m)) c.add_bytes-in-Byte.ensures.made)

pub returns-in-Digits-clause-made : goal.returns-in-Digits-clause-made
returns-in-Digits-clause-made c =
    let old : List Part = c.args.self.now.parts in
    let new : List Part = c.add_bytes-in-Digits.new.self.parts in
    let bytes : List ℕ = c.as_slice.result.now in
    let count : ℕ = length c.in-Digits.digits in
    let fits : Type 0 = (k : ℕ) → length bytes ≤ leaf_bytes k → IsPrintedFrom k old new in
    subst (λ (b : Body). IfOk c.add_bytes-in-Digits.result (λ _. IsPrintedFrom (body_own b) (old ++ body_parts b) new)) (sym c.in-Digits.is)
    (when_ok fits (IsPrintedFrom count (old ++ []) new) c.add_bytes-in-Digits.result
    (λ m. bare_from count old new (each_byte count bytes old new (ap length (c.as_slice.ensures ∙ c.text.ensures)) m))
    c.add_bytes-in-Digits.ensures.made)
