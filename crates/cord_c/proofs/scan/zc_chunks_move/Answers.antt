use Rattle.std.proofs.Common.{◌≡◌, ◌-◌, ◌∙◌, ℕ, length, take, drop, min, ap, sym, arith}
use Rattle.std.proofs.lemmas.List.{take_min, drop_min}
use Rattle.cord_c.specs.Shown.{shown}
use Rattle.cord_c.proofs.Scanning.{all_parts}
use Rattle.cord_c.proofs.scan.zc_chunks_move.Goals as goal

pub returns-clause-before : goal.returns-clause-before
returns-clause-before c =
    let old = c.args.chunks.now in
    let text = old.text.text in
    let place = c.args.place in
    let stop : c.min-chunks.result - 0 ≡ min place (length text) = omega (arith, c.min-chunks.ensures, old.counted) in
    ap (λ (n : ℕ). take n text) stop ∙ take_min place text
    ∙ ap (take place) (sym (all_parts text (take old.count (shown old.loan old.room)) old.next old.count old.reached old.copied))

pub returns-clause-left : goal.returns-clause-left
returns-clause-left c =
    let old = c.args.chunks.now in
    let text = old.text.text in
    let place = c.args.place in
    let stop : c.min-chunks.result ≡ min place (length text) = omega (arith, c.min-chunks.ensures, old.counted) in
    ap (λ (n : ℕ). drop n text) stop ∙ drop_min place text
    ∙ ap (drop place) (sym (all_parts text (take old.count (shown old.loan old.room)) old.next old.count old.reached old.copied))
