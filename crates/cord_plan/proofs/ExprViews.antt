-- The equations of `expr_view`, one for each variant, and of `members_view`.
use Rattle.std.specs.Prelude.{◌≡◌}
use Rattle.cord_plan.proofs.Common.{ℕ, List, [], map, Option, Some, None, Global, sym, ap, ◌∙◌, Rc, map-map, Number, append, expr_view}
use Rattle.cord_plan.proofs.Common.{expr_step, members_of, members_view, members_step, pair_step, rest_step, rest_view, shared_view}
use Rattle.cord_plan.proofs.Common.{single_step, Name, Run, rolls-Name, rolls-Run, rolls-Cat, rolls-Sub, out-Members, roll-Members, Members}
use Rattle.cord_plan.proofs.Common.{Rest, Nothing, One, Two, rolls-Nothing, rolls-One, rolls-Two, Single}
use Rattle.cord_plan.specs.Exprs as plain
use Rattle.cord_plan.specs.declared.expressions.Expr.{Expr, Expr-F, fold-roll-Expr}
use Rattle.cord_plan.specs.declared.expressions.Expr.TheOpen.{Rest-F}
use Rattle.cord_plan.specs.declared.expressions.Expr.TheVariants.{Cat, Sub}
use Rattle.cord_plan.specs.declared.expressions.Expr.TheFolds.{fold-roll-Members, fold-roll-Rest, fold_out-Members, fold_out-Pair}
use Rattle.cord_plan.specs.declared.expressions.Expr.TheFolds.{fold_out-Single}
use Rattle.cord_plan.specs.declared.expressions.Pair.{Pair}

pub view-Name : (x : List ℕ) → expr_view (Name x) ≡ plain.name x
view-Name x = ap expr_view (sym (rolls-Name x))
    ∙ fold-roll-Expr _ _ _ _ _ expr_step rest_step members_step pair_step single_step (Expr-F.Name x)

pub view-Run : (c n : Number) → expr_view (Run c n) ≡ plain.run c n
view-Run c n = ap expr_view (sym (rolls-Run c n))
    ∙ fold-roll-Expr _ _ _ _ _ expr_step rest_step members_step pair_step single_step (Expr-F.Run c n)

pub view-Cat : (ms : Members) → expr_view (Cat ms) ≡ plain.cat (members_view ms)
view-Cat ms = ap expr_view (sym (rolls-Cat ms))
    ∙ fold-roll-Expr _ _ _ _ _ expr_step rest_step members_step pair_step single_step (Expr-F.Cat ms)

pub view-Sub : (e : Rc Expr Global) (i n : Number) → expr_view (Sub e i n) ≡ plain.sub (expr_view e.value) i n
view-Sub e i n = ap expr_view (sym (rolls-Sub e i n))
    ∙ fold-roll-Expr _ _ _ _ _ expr_step rest_step members_step pair_step single_step (Expr-F.Sub e i n)

-- at most two members, as they are made
pub view-Nothing : rest_view Nothing ≡ []
view-Nothing = ap rest_view (sym rolls-Nothing)
    ∙ fold-roll-Rest _ _ _ _ _ expr_step rest_step members_step pair_step single_step Rest-F.Nothing

pub view-One : (s : Single) → rest_view (One s) ≡ map shared_view s.members
view-One s = ap rest_view (sym (rolls-One s))
    ∙ (fold-roll-Rest _ _ _ _ _ expr_step rest_step members_step pair_step single_step (Rest-F.One s)
    ∙ (fold_out-Single _ _ _ _ _ expr_step rest_step members_step pair_step single_step s ∙ map-map _ _ s.members))

pub view-Two : (p : Pair) → rest_view (Two p) ≡ map shared_view p.members
view-Two p = ap rest_view (sym (rolls-Two p))
    ∙ (fold-roll-Rest _ _ _ _ _ expr_step rest_step members_step pair_step single_step (Rest-F.Two p)
    ∙ (fold_out-Pair _ _ _ _ _ expr_step rest_step members_step pair_step single_step p ∙ map-map _ _ p.members))

-- the members in front, where there are any
abbrev pub prefix_seen : Option (Rc Members Global) → plain.Exprs
prefix_seen None = plain.nothing
prefix_seen (Some prefix) = members_view prefix.value

pub members_made : (prefix : Option (Rc Members Global)) (rest : Rest) →
    members_view (roll-Members (record { prefix = prefix; rest = rest })) ≡ append (prefix_seen prefix) (members_of (rest_view rest))
members_made None rest =
    fold-roll-Members _ _ _ _ _ expr_step rest_step members_step pair_step single_step (record { prefix = None; rest = rest })
members_made (Some prefix) rest =
    fold-roll-Members _ _ _ _ _ expr_step rest_step members_step pair_step single_step (record { prefix = Some prefix; rest = rest })

pub members_there : (ms : Members) → members_view ms
    ≡ append (prefix_seen (out-Members ms).prefix) (members_of (rest_view (out-Members ms).rest))
members_there ms =
    let m = out-Members ms in
    fold_out-Members _ _ _ _ _ expr_step rest_step members_step pair_step single_step ms
    ∙ (sym (fold-roll-Members _ _ _ _ _ expr_step rest_step members_step pair_step single_step m) ∙ members_made m.prefix m.rest)

-- the same of the two fields as they are reported
pub members_reported : (ms : Members) (prefix : Option (Rc Members Global)) (rest : List plain.Expr) → (out-Members ms).prefix ≡ prefix →
    rest ≡ rest_view (out-Members ms).rest → members_view ms ≡ append (prefix_seen prefix) (members_of rest)
members_reported ms prefix rest first last =
    members_there ms
    ∙ (ap (λ (o : Option (Rc Members Global)). append (prefix_seen o) (members_of (rest_view (out-Members ms).rest))) first
    ∙ ap (λ (es : List plain.Expr). append (prefix_seen prefix) (members_of es)) (sym last))
