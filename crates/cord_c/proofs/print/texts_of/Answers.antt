use Rattle.std.proofs.Common.{◌<◌, ◌∙◌, length, refl, arith}
use Rattle.cord_c.proofs.Arguments.{same_arguments, same_texts}
use Rattle.cord_c.proofs.Lists.{one_more}
use Rattle.cord_c.proofs.print.texts_of.Goals as goal

pub returns-in_err-read_onto-clause-same : goal.returns-in_err-read_onto-clause-same
returns-in_err-read_onto-clause-same c = same_arguments c.loop-place.args c.loop-place.place c.index-args-place.result c.read_onto.new.self
    c.read_onto.ensures.same ∙ c.loop-place.invariant.same

pub returns-in_err-read_onto-clause-same_texts : goal.returns-in_err-read_onto-clause-same_texts
returns-in_err-read_onto-clause-same_texts c = same_texts c.loop-place.args c.loop-place.place c.index-args-place.result c.read_onto.new.self
    c.read_onto.ensures.same ∙ c.loop-place.invariant.same_texts

pub loop-place-preserved : goal.loop-place-preserved
loop-place-preserved c =
    let inside : c.loop-place.place < length c.loop-place.args = omega arith in
    record {
      made = c.in_ok-read_onto.ensures.made ∙ one_more (λ a. a.text.text) c.loop-place.args _ c.loop-place.made.items c.loop-place.place
          c.index-args-place.result _ inside c.loop-place.invariant.same_texts refl c.loop-place.invariant.made;
      same = same_arguments c.loop-place.args c.loop-place.place c.index-args-place.result c.read_onto.new.self c.read_onto.ensures.same
          ∙ c.loop-place.invariant.same;
      same_texts = same_texts c.loop-place.args c.loop-place.place c.index-args-place.result c.read_onto.new.self c.read_onto.ensures.same
          ∙ c.loop-place.invariant.same_texts;
    }
