use Rattle.cord_search.proofs.Common.{IsReported, Table, arith, bytes_of, length, sym, text_len, ◌+◌, ◌-◌, ◌∙◌, ◌≡◌}
use Rattle.cord_search.proofs.Lemmas.{ends_before, last_empty, last_from, len_in, not_read, nothing_stands, shown, shown_once, shown_over}
use Rattle.cord_search.proofs.Lasts.{last_none}
use Rattle.cord_search.proofs.last.rstr.Given.{Over}
use Rattle.cord_search.proofs.last.rstr.Goals.{After-len}
use Rattle.cord_search.proofs.last.rstr.Goals as goal

-- both texts are as long as their cords store
lens_are : (g : Over) (c : After-len g) (t : Table) → IsReported (g.S.Source.lengths c.args.src.now) t →
    (length (bytes_of t c.args.x.now) ≡ text_len c.args.x.now) × (length (bytes_of t c.args.s.now) ≡ text_len c.args.s.now)
lens_are g c t held = (
  len_in {c = c.args.x.now} held (record { sound = c.len.ensures.sound; fits = c.requires.fits }),
  len_in {c = c.args.s.now} held (record { sound = c.len-count.ensures.sound; fits = c.requires.pattern_fits }),
)

pub returns-then-end-count-clause-last : goal.returns-then-end-count-clause-last
returns-then-end-count-clause-last g c = shown_over (shown (not_read {s = g.S.Source} {a = c.args.src.now}) (λ t held.
    let lens = lens_are g (goal.at.returns-then-end-count-clause-last g c).After-len t held in
    last_none (bytes_of t c.args.x.now) (bytes_of t c.args.s.now) c.args.end c.min-end.result
    (omega (arith, lens.0, c.len.ensures.stored, c.min-end.ensures))
    (omega (arith, lens.1, c.len-count.ensures.stored, c.if-end-count.true)))) g.met.S.Source.lengths_of_table

pub returns-then-count-eq0-clause-last : goal.returns-then-count-eq0-clause-last
returns-then-count-eq0-clause-last g c = shown_over (shown (not_read {s = g.S.Source} {a = c.args.src.now}) (λ t held.
    let lens = lens_are g (goal.at.returns-then-count-eq0-clause-last g c).After-len t held in
    let none = sym c.len-count.ensures.stored ∙ c.if-count-eq0.true in
    last_empty (bytes_of t c.args.x.now) (bytes_of t c.args.s.now) c.args.end c.min-end.result
    (omega (arith, lens.0, c.len.ensures.stored, c.min-end.ensures)) (lens.1 ∙ none) (nothing_stands t c.args.x.now c.args.s.now
    c.min-end.result (omega (arith, c.min-end.ensures, c.len.ensures.stored)) none lens.0 lens.1))) g.met.S.Source.lengths_of_table

pub returns-clause-last : goal.returns-clause-last
returns-clause-last g c = shown_over (shown_once c.in_ok-last_place.ensures (λ t held found.
    let lens = lens_are g (goal.at.returns-clause-last g c).After-len t held in
    found ∙ last_from (bytes_of t c.args.x.now) (bytes_of t c.args.s.now) c.args.end c.min-end.result c.len-count.result
    (omega (arith, lens.0, c.len.ensures.stored, c.min-end.ensures)) (omega (arith, lens.1, c.len-count.ensures.stored))
    c.if-end-count.false)) g.met.S.Source.lengths_of_table

pub returns-clause-before : goal.returns-clause-before
returns-clause-before g c = ends_before _ (c.min-end.result - c.len-count.result + 1) (text_len c.args.s.now) c.args.end
    (omega (arith, c.len-count.ensures.stored, c.min-end.ensures, c.if-end-count.false)) c.in_ok-last_place.ensures.always

pub returns-clause-within : goal.returns-clause-within
returns-clause-within g c = ends_before _ (c.min-end.result - c.len-count.result + 1) (text_len c.args.s.now) (text_len c.args.x.now)
    (omega (arith, c.len.ensures.stored, c.len-count.ensures.stored, c.min-end.ensures, c.if-end-count.false))
    c.in_ok-last_place.ensures.always
