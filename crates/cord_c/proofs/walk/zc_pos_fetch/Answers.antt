use Rattle.std.proofs.Common.{◌-◌, ◌∙◌, ℕ, min, ap}
use Rattle.cord_c.specs.declared.position.TheConstants.{WINDOW}
use Rattle.cord_c.proofs.Walking.{fetched}
use Rattle.cord_c.proofs.walk.zc_pos_fetch.Goals as goal

pub returns-clause-byte : goal.returns-clause-byte
returns-clause-byte c =
    let p = c.args.position.now in
    λ _. fetched p.text.text p.bytes p.start p.at p.count WINDOW (p.filled ∙ ap (λ (n : ℕ). min WINDOW (n - p.start)) p.counted) p.copied c.if-position.false
