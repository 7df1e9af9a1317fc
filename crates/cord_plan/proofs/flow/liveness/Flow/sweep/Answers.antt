use Rattle.std.specs.Prelude.{◌≡◌, ◌≤◌, ◌<◌, ◌-◌, ◌^◌}
use Rattle.cord_plan.proofs.Common.{ℕ, length, false, set, sym, ap, ◌∙◌, length-set, get_or, arith, map-set, finds, bit, column, room}
use Rattle.cord_plan.proofs.Words.{room_less}
use Rattle.cord_plan.proofs.Sweeps.{flow_partly, flow_resting, rests_from, rests_past}
use Rattle.cord_plan.proofs.flow.liveness.Flow.sweep.Goals as goal

pub loop-p-init : goal.loop-p-init
loop-p-init c = record {
  partly = c.requires.partly;
  resting = λ e x i b k le. rests_past c.args.self.now.statements.now x (column c.args.words.now i) k (let size = c.requires.partly.size in
      omega arith);
  few = omega arith;
  fewer = λ e. let bad : ⊥ = cc in absurd bad;
}

pub loop-p-preserved-then-word-here : goal.loop-p-preserved-then-word-here
loop-p-preserved-then-word-here c =
    let within : c.loop-p.p - 1 < length c.loop-p.words = omega arith in
    let value : c.word_at-here.result ≡ get_or c.loop-p.words (c.loop-p.p - 1) 0 = c.word_at-here.ensures.value in
    let grows : get_or c.loop-p.words (c.loop-p.p - 1) 0 ≤ c.flow_at-word.result = c.flow_at-word.ensures.grows in
    let less : get_or c.loop-p.words (c.loop-p.p - 1) 0 < c.flow_at-word.result = let differ = c.if-word-here.true in omega arith in
    let fits : c.flow_at-word.result < 2 ^ 128 = c.flow_at-word.ensures.fits in
    let fewer : room (set c.loop-p.words (c.loop-p.p - 1) c.flow_at-word.result) < room c.loop-p.words =
    room_less c.loop-p.words (c.loop-p.p - 1) c.flow_at-word.result within less fits in
    let few : room c.loop-p.words ≤ room c.args.words.now = c.loop-p.invariant.few in
    record {
      partly = record {
        size = length-set c.loop-p.words (c.loop-p.p - 1) c.flow_at-word.result ∙ c.loop-p.invariant.partly.size;
        reported = λ x i b. rw (map-set (λ w. bit w i) c.loop-p.words (c.loop-p.p - 1) c.flow_at-word.result)
            (flow_partly c.args.self.now.statements.now x (column c.loop-p.words i) (c.loop-p.p - 1)
            (c.loop-p.invariant.partly.reported x i b)
            (bit c.flow_at-word.result i) (c.flow_at-word.ensures.bits x i b));
      };
      resting = λ e. let bad : ⊥ = cc in absurd bad;
      few = omega arith;
      fewer = λ e. omega arith;
    }

pub loop-p-preserved : goal.loop-p-preserved
loop-p-preserved c =
    let same : c.flow_at-word.result ≡ c.word_at-here.result = let h = c.if-word-here.false in cc in
    record {
      partly = c.loop-p.invariant.partly;
      resting = λ e x i b k le. rests_from (λ (n : ℕ). finds c.args.self.now.statements.now x (column c.loop-p.words i) n ≡ false)
          c.loop-p.p c.loop-p-test.true (c.loop-p.invariant.resting e x i b)
          (flow_resting c.args.self.now.statements.now x (column c.loop-p.words i) (c.loop-p.p - 1)
          (sym (c.flow_at-word.ensures.bits x i b) ∙ ap (λ (w : ℕ). bit w i) same ∙ c.word_at-here.ensures.bits i)) k le;
      few = c.loop-p.invariant.few;
      fewer = c.loop-p.invariant.fewer;
    }

pub returns : goal.returns
returns c = record {
  partly = c.loop-p.invariant.partly;
  live = λ e x i b. record {
    partly = c.loop-p.invariant.partly.reported x i b;
    resting = λ p. c.loop-p.invariant.resting e x i b p (omega arith);
  };
  fewer = c.loop-p.invariant.fewer;
}
