use Rattle.cord_plan.proofs.Common.{[], List, ℕ, map, spaced, fragment_text}
use Rattle.cord_plan.specs.declared.plan_text.fragments.Fragment.{Fragment}
use Rattle.cord_plan.proofs.Spacing.{blank_later, after_words, words_spaced, spaced_writes, spaced_broken}
use Rattle.cord_plan.proofs.Writing.{writes_same, writes_then, writes_stopped, writes_failed}
use Rattle.cord_plan.proofs.plan_text.fragments.put_words.Goals as goal

abbrev text : List Fragment → List ℕ
text fs = spaced (map fragment_text fs)

abbrev more : List Fragment → List ℕ
more fs = after_words fragment_text fs

pub returns-in_err-put_all : goal.returns-in_err-put_all
returns-in_err-put_all g c = writes_failed c.from_residual.ensures.0 (spaced_broken [] text more fragment_text (words_spaced fragment_text)
    c.args.words.now _ _ c.loop-word-test.true c.word-item.is c.loop-word.invariant.taken
    (writes_stopped (fragment_text c.word-item.result) (writes_same c.loop-word.invariant.blank c.in_err-put_all.ensures)))

pub returns-in_err-put_fragment : goal.returns-in_err-put_fragment
returns-in_err-put_fragment g c = writes_failed c.from_residual-in_err-put_fragment.ensures.0
    (spaced_broken [] text more fragment_text (words_spaced fragment_text) c.args.words.now _ _ c.loop-word-test.true c.word-item.is
    c.loop-word.invariant.taken
    (writes_then (writes_same c.loop-word.invariant.blank c.in_ok-put_all.ensures) c.in_err-put_fragment.ensures))

pub loop-word-preserved : goal.loop-word-preserved
loop-word-preserved g c = record {
  taken = spaced_writes [] text more fragment_text (words_spaced fragment_text) c.args.words.now _ _ c.loop-word-test.true c.word-item.is
      c.loop-word.invariant.taken
      (writes_then (writes_same c.loop-word.invariant.blank c.in_ok-put_all.ensures) c.in_ok-put_fragment.ensures);
  blank = blank_later [] c.loop-word.word-index;
}
