use Rattle.cord_search.proofs.Common.{IsReported, Table, arith, bytes_of, sym, ◌+◌, ◌∙◌, ◌≤◌}
use Rattle.cord_search.proofs.Lemmas.{found_in, len_in, not_read, nothing_stands, nowhere_in, shown, stands_first}
use Rattle.cord_search.proofs.substring.first_place.Goals as goal

pub returns-then-not-lies_inside : goal.returns-then-not-lies_inside
returns-then-not-lies_inside g c = nowhere_in c.args.x.now (λ t. bytes_of t c.args.s.now) c.args.end c.args.start c.args.start
    (λ t held. len_in {c = c.args.s.now} held (record { sound = c.len-count.ensures.sound; fits = c.requires.pattern_fits }))
    (shown not_read (λ t held q low to at. omega (arith, low, to)))
    (omega (arith, c.lies_inside.ensures.outside c.if-not-lies_inside.true, c.len-count.ensures.stored))

pub returns-then-count-eq0 : goal.returns-then-count-eq0
returns-then-count-eq0 g c =
    let x = c.args.x.now in
    let s = c.args.s.now in
    let start = c.args.start in
    let inside : start + c.len-count.result ≤ c.args.end = c.lies_inside.ensures.inside c.if-not-lies_inside.false in
    let len = λ (t : Table) (held : IsReported (g.S.Source.lengths c.args.src.now) t). len_in {c = s} held
    (record { sound = c.len-count.ensures.sound; fits = c.requires.pattern_fits }) in
    found_in x (λ t. bytes_of t s) c.args.end start start len (shown not_read (λ t held. stands_first t x s start start (omega arith)
    (nothing_stands t x s start (omega (arith, inside, c.requires.end)) (sym c.len-count.ensures.stored ∙ c.if-count-eq0.true)
    (len_in held c.requires.text) (len t held)) (λ q low to at. omega (arith, low, to)))) (omega arith)
    (omega (arith, inside, c.len-count.ensures.stored))
