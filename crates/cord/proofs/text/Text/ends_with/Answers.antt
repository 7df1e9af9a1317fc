use Rattle.std.proofs.Common.{◌≡◌, ℕ, ◌-◌, ◌≤◌, length, drop, sym, subst, arith}
use Rattle.std.proofs.lemmas.Grind.{common_steps}
use Rattle.cord.specs.Places.{BeginsWith}
use Rattle.cord.proofs.Standing.{ends_there, end_stands}
use Rattle.cord.proofs.text.Text.ends_with.Goals as goal

pub returns-then-count-len : goal.returns-then-count-len
returns-then-count-len c =
    let x = c.args.self.now in
    let s = c.args.bytes.now in
    let len : c.len-then-count-len.result ≡ length c.args.self.now = c.len-then-count-len.ensures.value in
    let short : length c.args.bytes.now ≤ length c.args.self.now = grind (arith, common_steps) in (
      λ is. ends_there x s short (subst (λ (n : ℕ). BeginsWith (drop (n - length s) x) s) len (c.stands_at.ensures.0 is)),
      λ ends. c.stands_at.ensures.1 (subst (λ (n : ℕ). BeginsWith (drop (n - length s) x) s) (sym len) (end_stands x s ends)),
    )
