use Rattle.std.proofs.Common.{ℕ, List, Some, sym}
use Rattle.std.specs.Prelude.{◌==◌}
use Rattle.std.proofs.lemmas.Iterator.Consumers.{nth_from_yields_List, YieldsList-from_first}
use Rattle.memchr.specs.Find.{places}
use Rattle.cord.proofs.Counting.{nth_place, no_nth}
use Rattle.cord.proofs.count.nth_of.Goals as goal

pub unreachable-requires : goal.unreachable-requires
unreachable-requires c =
    let item = nth_from_yields_List c.nth.result c.nth.new.self c.args.n c.nth.ensures.ran (YieldsList-from_first (λ (p : ℕ). p) (λ (rest : List ℕ). rest)
    (places (λ own. own == c.args.byte) c.args.bytes.now) c.memchr_iter.ensures.value) in
    no_nth c.args.bytes.now c.args.byte c.args.n c.requires (sym (rw c.in_default.is at item))

pub returns : goal.returns
returns c =
    let item = nth_from_yields_List (Some c.in-Some.place) c.nth.new.self c.args.n c.in-Some.ensures.ran (YieldsList-from_first (λ (p : ℕ). p)
    (λ (rest : List ℕ). rest) (places (λ own. own == c.args.byte) c.args.bytes.now) c.memchr_iter.ensures.value) in
    nth_place c.args.bytes.now c.args.byte c.args.n c.in-Some.place (sym item)
