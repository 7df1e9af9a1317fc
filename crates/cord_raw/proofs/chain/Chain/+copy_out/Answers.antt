use Rattle.std.proofs.Common.{rules, ◌≡◌, ℕ, List, ◌+◌, ◌-◌, ◌<◌, ◌++◌, length, drop, min, slice_range, ap, ◌∙◌, arith}
use Rattle.cord_raw.specs.declared.block.TheConstants.{ROOM}
use Rattle.cord_raw.specs.inner.Places.{block_at}
use Rattle.cord_raw.specs.Texts.{text, text_of}
use Rattle.cord_raw.specs.inner.Texts.{blocks_of}
use Rattle.cord_raw.proofs.Texts.{left_after, after_block, from_block, holds_run}
use Rattle.cord_raw.proofs.chain.Chain.+copy_out.Goals as goal

pub copy_out-requires : goal.copy_out-requires
copy_out-requires t c =
    let some = c.if-wanted-eq0.false in let over = c.if-start-ge-ROOM.true in let within = c.requires.place.1 in
    let left = left_after c.args.self.now c.args.place.index c.next.result.index (c.args.start + length c.args.out.now) c.requires.filled
    within c.next.ensures.1 (omega arith) c.requires.within in
    (search rules, (c.next.ensures.0, (c.requires.filled, omega arith)))

pub returns-then-start-ge-ROOM : goal.returns-then-start-ge-ROOM
returns-then-start-ge-ROOM t c =
    c.copy_out.ensures
    ∙ after_block c.args.self.now c.args.place.index c.next.result.index c.args.start (length c.args.out.now) c.requires.filled
    c.requires.place.1 c.next.ensures.1 c.if-start-ge-ROOM.true (let some = c.if-wanted-eq0.false in omega arith) c.requires.within

pub get_run-requires : goal.get_run-requires
get_run-requires t c =
    let least : c.min-run.result ≡ min (length c.args.out.now) (ROOM - c.args.start) = c.min-run.ensures in
    let prefix = c.split_at_mut-prefix.ensures.front_len in let low = c.if-start-ge-ROOM.false in let within = c.requires.within in (
      c.requires.place,
      holds_run c.args.self.now c.args.place.index (c.args.start + length c.split_at_mut-prefix.result.0.now)
          c.requires.filled c.requires.place.1 (omega arith) (omega arith),
    )

pub copy_out-requires-then-run-wanted : goal.copy_out-requires-then-run-wanted
copy_out-requires-then-run-wanted t c =
    let least : c.min-run.result ≡ min (length c.args.out.now) (ROOM - c.args.start) = c.min-run.ensures in
    let low = c.if-start-ge-ROOM.false in let more = c.if-run-wanted.true in
    let prefix = c.split_at_mut-prefix.ensures.front_len in let back = c.split_at_mut-prefix.ensures.back_len in
    let left = left_after c.args.self.now c.args.place.index c.next-then-run-wanted.result.index (c.args.start + length c.args.out.now)
    c.requires.filled c.requires.place.1 c.next-then-run-wanted.ensures.1 (omega arith) c.requires.within in
    (search rules, (c.next-then-run-wanted.ensures.0, (c.requires.filled, omega arith)))

pub returns-then-run-wanted : goal.returns-then-run-wanted
returns-then-run-wanted t c =
    let self = c.args.self.now in let i = c.args.place.index in let j = c.next-then-run-wanted.result.index in let b = block_at self i in
    let start : ℕ = c.args.start in let n : ℕ = length c.args.out.now in let run : ℕ = c.min-run.result in
    let prefix : List ℕ = c.split_at_mut-prefix.result.0.now in let back : List ℕ = c.split_at_mut-prefix.result.1.now in
    let least : run ≡ min n (ROOM - start) = c.min-run.ensures in let low : start < ROOM = c.if-start-ge-ROOM.false in
    let prefix_is : length prefix ≡ run = c.split_at_mut-prefix.ensures.front_len in let back_is : length back + run ≡ n =
    c.split_at_mut-prefix.ensures.back_len in
    let all : run + length back ≡ n = omega arith in let within = c.requires.within in
    ap (λ xs. xs ++ c.copy_out-then-run-wanted.new.out) (c.get_run.ensures ∙ ap (λ k. slice_range (text_of b) start (start + k)) prefix_is)
    ∙ ap (λ xs. slice_range (text_of b) start (start + run) ++ xs) c.copy_out-then-run-wanted.ensures
    ∙ from_block self i j start run (length back) c.requires.filled c.requires.place.1 c.next-then-run-wanted.ensures.1 (omega arith)
    (λ some. omega arith) (omega arith)
    ∙ ap (λ k. slice_range (text (drop i (blocks_of self))) start (start + k)) all
