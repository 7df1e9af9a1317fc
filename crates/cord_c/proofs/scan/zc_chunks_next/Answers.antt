use Rattle.std.proofs.Common.{◌≡◌, ◌∙◌, ap, sym}
use Rattle.cord_c.specs.Referent.{text_by}
use Rattle.cord_c.specs.Shown.{shown}
use Rattle.cord_c.proofs.Scanning.{next_before, next_chunk}
use Rattle.cord_c.proofs.scan.zc_chunks_next.Goals as goal

pub returns-clause-before : goal.returns-clause-before
returns-clause-before c =
    let old = c.args.chunks.now in let text = c.if-count-eq0.chunks.1.0.text in let n = c.if-count-eq0.count in
    let same : text ≡ old.text.text = sym c.chunks-1.given.1.1.1.1.1.0 ∙ ap text_by c.move_to.ensures.text ∙ old.lent in
    next_before old text text n same

pub returns-clause-chunk : goal.returns-clause-chunk
returns-clause-chunk c =
    let old = c.args.chunks.now in let text = c.if-count-eq0.chunks.1.0.text in let n = c.if-count-eq0.count in
    let same : text ≡ old.text.text = sym c.chunks-1.given.1.1.1.1.1.0 ∙ ap text_by c.move_to.ensures.text ∙ old.lent in
    next_chunk old text (shown c.move_to.new.self c.if-count-eq0.chunks.1.1.1.1.1.1.1.0) n same c.chunks-1.given.1.1.1.1.1.1.0
