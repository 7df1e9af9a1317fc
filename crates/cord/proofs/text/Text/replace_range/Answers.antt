use Rattle.std.proofs.Common.{refl, ◌∙◌, sym, subst}
use Rattle.cord.specs.Plain.{no_table, IsPlain}
use Rattle.cord.proofs.PlainTexts.{plain_of, spliced_has}
use Rattle.cord.proofs.text.Text.replace_range.Goals as goal

pub invariant_of-result : goal.invariant_of-result
invariant_of-result c =
    let p : IsPlain c.in_ok-cord.cord = subst IsPlain (sym c.in_ok-cord.ensures.same) c.self.invariant in
    let h = spliced_has c.args.start c.args.count c.in_ok-cord.cord c.text.inside.cord c.splice.new.self p c.text.invariant
    c.in_ok-splice.ensures.over in
    plain_of _ c.splice.new.self c.in_ok-splice.ensures.sound h

pub returns-clause-text : goal.returns-clause-text
returns-clause-text c =
    let p : IsPlain c.in_ok-cord.cord = subst IsPlain (sym c.in_ok-cord.ensures.same) c.self.invariant in
    let h = spliced_has c.args.start c.args.count c.in_ok-cord.cord c.text.inside.cord c.splice.new.self p c.text.invariant
    c.in_ok-splice.ensures.over in
    h.bytes no_table ∙ (rw (c.in_ok-cord.ensures.same, c.self.view_is, c.text.view_is) refl)
