use Rattle.cord_search.proofs.Common.{List, ap, arith, bytes_of, first, length, length-take-le, replicate, take, text_len, ℕ, ◌∙◌, ◌≡◌}
use Rattle.cord_search.proofs.Lemmas.{answered, len_in, shown_on, shown_once, whole_text}
use Rattle.std.proofs.lemmas.List.{length-replicate}
use Rattle.cord_search.proofs.substring.place_of_short.Goals as goal

pub place_of_bytes-requires-clause-text : goal.place_of_bytes-requires-clause-text
place_of_bytes-requires-clause-text g c = rw c.gather.ensures.read.lengths c.requires.text

pub returns : goal.returns
returns g c =
    let pattern = c.gather.new.out in
    let zero : ℕ = 0 in
    let room : length (replicate g.row.N zero) ≡ g.row.N = length-replicate g.row.N zero in
    let cut = length-take-le c.len.result (replicate g.row.N zero) (omega (arith, room, c.requires.short, c.len.ensures.stored)) in
    let long : length pattern ≡ text_len c.args.s.now = c.gather.auto.out ∙ cut ∙ c.len.ensures.stored in
    answered (rw long at c.in_ok-place.ensures.always) (shown_on (shown_once {R = λ t. pattern ≡ bytes_of t c.args.s.now} c.in_ok-gather.ensures
    (λ t held piece. whole_text t c.args.s.now pattern piece long (len_in held c.requires.pattern))) c.in_ok-place.ensures
    (λ t held is place. place ∙ ap (λ (xs : List ℕ). first (take c.args.end (bytes_of t c.args.x.now)) c.args.start xs) is))
