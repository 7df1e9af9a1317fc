use Rattle.std.specs.Prelude.{◌++◌, ◌∷◌, ◌≤◌, ◌≡◌}
use Rattle.cord_script.proofs.Common.{[], sym, ◌∙◌, ap, subst, append_assoc, inl, inr, refl, length, arith, length-append, MAX_TEXT}
use Rattle.cord_script.proofs.Common.{SpellsText}
use Rattle.cord_script.proofs.Spelled.{spells_push, unit_stands}
use Rattle.cord_script.proofs.words.quoted.Goals as goal

pub returns-then-len-eq-MAX_TEXT-clause-first_error : goal.returns-then-len-eq-MAX_TEXT-clause-first_error
returns-then-len-eq-MAX_TEXT-clause-first_error c = λ n.
    let inv = c.units.invariant in
    let s = unit_stands c.units.rest.now c.in-Some-unit.suffix.now c.in-Some-unit.byte (sym c.in-Some-unit.ensures) in
    let full : length c.units.text.items ≡ MAX_TEXT = omega (arith, c.len.ensures) in (
      inv.read,
      c.units.rest.now,
      c.units.text.items,
      inv.whole,
      inv.spelled,
      inv.few,
      inr (inl (refl, full, (s.0, c.in-Some-unit.suffix.now, c.in-Some-unit.byte, s.1, s.2))),
    )

pub units-preserved : goal.units-preserved
units-preserved c =
    let inv = c.units.invariant in
    let s = unit_stands c.units.rest.now c.in-Some-unit.suffix.now c.in-Some-unit.byte (sym c.in-Some-unit.ensures) in
    let grown = c.in_ok-push.ensures.items in
    let one_more = ap length grown ∙ length-append c.units.text.items (c.in-Some-unit.byte ∷ []) in
    let few : length c.push.new.self.items ≤ MAX_TEXT = omega (arith, c.len.ensures) in
    record {
      read = inv.read ++ s.0;
      whole = inv.whole ∙ ap (λ x. inv.read ++ x) s.1 ∙ sym (append_assoc inv.read s.0 c.in-Some-unit.suffix.now);
      spelled = subst (SpellsText (inv.read ++ s.0)) (sym grown) (spells_push inv.read s.0 c.units.text.items c.in-Some-unit.byte inv.spelled
          s.2);
      few = few;
    }
