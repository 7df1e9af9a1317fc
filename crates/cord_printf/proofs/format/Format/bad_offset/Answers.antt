use Rattle.std.proofs.Common.{ℕ, ◌-◌, [], ◌∷◌, ◌++◌, length, refl}
use Rattle.cord_printf.specs.declared.errors.FormatError.TheVariants.{BadFormat}
use Rattle.cord_printf.proofs.Whole.{more_read, bad_at}
use Rattle.cord_printf.proofs.format.Format.bad_offset.Goals as goal

pub pieces-preserved : goal.pieces-preserved
pieces-preserved c =
    let old = c.pieces.invariant.read in
    let one = c.in-Some.ensures.piece in
    let new = more_read c.args.bytes.now c.pieces.rest.now old.0 (old.0 ++ one.0 ∷ []) one.0 c.in-Some.after.now c.pieces.invariant.split
    old.1 refl (one.1, one.2, one.3) in
    record { split = new.split; read = (old.0 ++ one.0 ∷ [], new.read) }

pub returns-in_default-clause-bad : goal.returns-in_default-clause-bad
returns-in_default-clause-bad c =
    let read = c.pieces.invariant.read in
    let bad = c.in_default.ensures.bad in
    let offset : ℕ = length c.args.bytes.now - length c.pieces.rest.now in
    bad_at c.args.bytes.now c.pieces.rest.now read.0 offset (BadFormat offset) c.pieces.invariant.split read.1 refl
    (refl, bad.0, bad.1)
