use Rattle.std.proofs.Common.{◌≡◌, ◌<◌, ◌++◌, ◌∷◌, ◌∙◌, [], get_or, length, refl, ap, arith, rules}
use Rattle.std.proofs.lemmas.List.{length-map, map-append}
use Rattle.cord.specs.Prints as of_texts
use Rattle.cord_c.specs.Prints.{piece_arguments, piece_argument}
use Rattle.cord_c.proofs.Lists.{one_more}
use Rattle.cord_c.proofs.print.arguments.Goals as goal

pub loop-place-preserved : goal.loop-place-preserved
loop-place-preserved c =
    let args = c.args.args.now in
    let a = get_or args c.loop-place.place c.index-args-place.result in
    let made = of_texts.piece_arguments c.loop-place.made.items in
    let pushed : c.push.new.self.items ≡ c.loop-place.made.items ++ c.with-arg.result ∷ [] = search rules in
    let inside : c.loop-place.place < length args = omega (arith, ap length c.requires.texts ∙ length-map args (λ x. x.text.text)) in
    let has : of_texts.piece_argument c.with-arg.result ≡ piece_argument a = cc (c.with-arg.ensures, c.index-args-place.is) in
    ap of_texts.piece_arguments pushed ∙ map-append of_texts.piece_argument c.loop-place.made.items (c.with-arg.result ∷ [])
    ∙ one_more piece_argument args (piece_arguments args) made c.loop-place.place c.index-args-place.result
    (of_texts.piece_argument c.with-arg.result) inside
    refl has c.loop-place.invariant
