use Rattle.std.proofs.Common.{ℕ, ℤ, pos, List, [], ◌∙◌, ap}
use mir.Val.{to_z, of_z}
use mir.Syntax.{w8}
use Rattle.std.specs.Ordering.{int_cmp}
use Rattle.cord_core.specs.Texts.{order}
use Rattle.cord.specs.Plain.{no_lengths, plain_bytes}
use Rattle.cord.proofs.Orders.{order_is_cmp}
use Rattle.cord.proofs.text.Text.compare.Goals as goal

pub cmp-requires-clause-left_fits : goal.cmp-requires-clause-left_fits
cmp-requires-clause-left_fits c = c.self.invariant.over.fits no_lengths

pub cmp-requires-clause-right_fits : goal.cmp-requires-clause-right_fits
cmp-requires-clause-right_fits c = c.other.invariant.over.fits no_lengths

pub returns : goal.returns
returns c =
    let sign =
    c.in-Ok.ensures.order [] tt
    ∙ ap (λ (x : List ℕ). order x (plain_bytes c.other.inside.cord)) c.self.view_is
    ∙ ap (λ (y : List ℕ). order c.args.self.now y) c.other.view_is in
    c.cmp-2.ensures ∙ ap (λ (z : ℤ). int_cmp (to_z w8 (of_z w8 z)) (pos 0)) sign ∙ order_is_cmp c.args.self.now c.args.other.now
