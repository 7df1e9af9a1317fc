use Rattle.cord_search.proofs.Common.{List, Shows, ap, arith, length, length-take, refl, rules, span_len, take, ℕ, ◌+◌, ◌≡◌, ◌≤◌}
use Rattle.cord_search.proofs.Lemmas.{IsNextPiece, found_in, leaf_part, not_read, nowhere_in, prefix_piece, shown, window_none, window_some}
use Rattle.cord_search.proofs.substring.first_of.Given.{Over}
use Rattle.cord_search.proofs.substring.first_of.Goals.{After-min-most}
use Rattle.cord_search.proofs.substring.first_of.Goals as goal

-- what is left of the leaf, up to the end, is the piece of the text that begins at the start
next_is : (g : Over) (c : After-min-most g) → Shows g.S.Source c.args.src.now c.args.src.now
    (λ t. IsNextPiece t c.args.x.now c.args.finder.now c.args.start c.args.start (take c.min-most.result c.in-Bytes.leaf.now))
next_is g c =
    let leaf = c.in-Bytes.leaf.now in
    let most = c.min-most.result in
    let whole : span_len c.cord_span_at.result ≡ length leaf = ap span_len c.in-Bytes.is in
    let cut = length-take most leaf in
    shown not_read (λ t held. record {
      none = λ q low to at. omega (arith, low, to);
      piece = prefix_piece held c.cord_span_at.ensures c.requires.text.fits (take most leaf) (omega (arith, whole, cut))
          (leaf_part t (take most leaf) most c.in-Bytes.is refl);
    })

pub returns-then-not-lies_inside : goal.returns-then-not-lies_inside
returns-then-not-lies_inside g c =
    let long : length c.needle-head.result.now ≡ length c.args.finder.now = ap (λ (ys : List ℕ). length ys) c.needle-head.ensures in
    nowhere_in c.args.x.now (λ t. c.args.finder.now) c.args.end c.args.start c.args.start (λ t held. refl)
    (shown not_read (λ t held q low to at. omega (arith, low, to)))
    (omega (arith, long, c.lies_inside.ensures.outside c.if-not-lies_inside.true))

pub first_at_or_after-requires-in-None-clause-none : goal.first_at_or_after-requires-in-None-clause-none
first_at_or_after-requires-in-None-clause-none g c =
    let leaf = c.in-Bytes.leaf.now in
    let most = c.min-most.result in
    let long : length c.needle-head.result.now ≡ length c.args.finder.now = ap (λ (ys : List ℕ). length ys) c.needle-head.ensures in
    let enough : length c.args.finder.now ≤ length (take most leaf) =
    omega (arith, long, c.if-leaf-head.false, c.lies_inside.ensures.inside c.if-not-lies_inside.false, length-take most leaf) in
    rw c.needle-head.ensures (window_none (next_is g (goal.at.first_at_or_after-requires-in-None-clause-none g c).After-min-most) c.in-None.is
    c.find.ensures enough)

pub returns-in-Some : goal.returns-in-Some
returns-in-Some g c = found_in c.args.x.now (λ t. c.args.finder.now) c.args.end c.args.start (c.args.start + c.in-Some.found) (λ t held. refl)
    (window_some (next_is g (goal.at.returns-in-Some g c).After-min-most) c.in-Some.is c.find.ensures c.requires.some (omega arith))
    (omega arith) (search rules)
