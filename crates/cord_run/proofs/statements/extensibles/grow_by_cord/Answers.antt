use Rattle.cord_run.proofs.Common.{ℕ, List, Err, sym, subst, ◌∙◌, ap, length, Stop, Becomes, longer_text, MAX_LEN, lengths_of}
use Rattle.cord_run.proofs.Common.{bytes_of_cells, text_over, ◌+◌, ◌<◌, ◌≤◌, ◌++◌}
use Rattle.cord_run.proofs.Extensibles.{cord_inside, cord_length, cord_text, given_becomes, given_over, grown_refused}
use Rattle.cord_run.proofs.statements.extensibles.grow_by_cord.Goals as goal

pub returns-in-Ok-clause-over : goal.returns-in-Ok-clause-over
returns-in-Ok-clause-over c =
    let x = c.args.name.now in
    let old = c.args.store.now.entries.items in
    let middle = c.taken.new.store.entries.items in
    let before = c.in_ok-extensible.extensible.text in
    let took = c.in_ok-extensible.ensures in
    given_over x before c.append_cord.new.self.text old middle c.give.new.store.entries.items took c.give.result c.give.ensures
    (λ ls over held. c.in-Ok.ensures.over.fits ls held
    (cord_inside x before before old middle middle took c.args.operand.now c.cord_or.result.now c.cord_or.ensures ls over))

pub returns-in-Ok-clause-becomes : goal.returns-in-Ok-clause-becomes
returns-in-Ok-clause-becomes c =
    let x = c.args.name.now in
    let y = c.args.operand.now in
    let cord = c.cord_or.result.now in
    let old = c.args.store.now.entries.items in
    let middle = c.taken.new.store.entries.items in
    let before = c.in_ok-extensible.extensible.text in
    let took = c.in_ok-extensible.ensures in
    given_becomes x before c.append_cord.new.self.text old middle c.give.new.store.entries.items took c.give.result
    (λ t. text_over t old y) c.give.ensures
    (λ t over held. c.in-Ok.ensures.over.bytes t held (cord_inside x before before old middle middle took y cord c.cord_or.ensures (lengths_of t) over)
    ∙ ap (λ (text : List ℕ). bytes_of_cells t before ++ text) (cord_text x before before old middle middle took y cord c.cord_or.ensures t))
    (λ t over. subst (λ (n : ℕ). length before + n ≤ MAX_LEN)
    (cord_length x before before old middle middle took y cord c.cord_or.ensures t over) c.in-Ok.ensures.within_limit)

pub returns-clause-becomes : goal.returns-clause-becomes
returns-clause-becomes c =
    let x = c.args.name.now in
    let y = c.args.operand.now in
    let old = c.args.store.now.entries.items in
    let middle = c.taken.new.store.entries.items in
    let before = c.in_ok-extensible.extensible.text in
    let took = c.in_ok-extensible.ensures in
    subst (λ (h : Stop). Becomes x (λ t. longer_text old x (text_over t old y) t) old middle (Err h)) (sym c.refusal.ensures)
    (grown_refused x before old took.0 middle c.in-Err.error (λ t. text_over t old y)
    (λ is t over. subst (λ (n : ℕ). MAX_LEN < length before + n)
    (cord_length x before before old middle middle took y c.cord_or.result.now c.cord_or.ensures t over) (c.in-Err.ensures.too_long is)))
