use Rattle.std.proofs.Common.{◌+◌, ◌≤◌, length, drop, slice_range, sym, ap, ◌∙◌, subst}
use Rattle.cord_raw.specs.Texts.{text}
use Rattle.cord_raw.specs.inner.Texts.{blocks_of}
use Rattle.cord_raw.proofs.Texts.{text_blocks}
use Rattle.cord_raw.proofs.buffer.RawBuf.copy_to.Goals as goal

pub copy_out-requires-clause-within : goal.copy_out-requires-clause-within
copy_out-requires-clause-within c =
    let chain = c.self.inside.chain in let from_first = ap (λ k. text (drop k (blocks_of chain))) c.first.ensures.1 in
    subst (λ xs. c.args.start + length c.args.out.now ≤ length xs) (sym (from_first ∙ text_blocks chain ∙ c.self.view_is)) c.requires.within

pub returns : goal.returns
returns c =
    let chain = c.self.inside.chain in let from_first = ap (λ k. text (drop k (blocks_of chain))) c.first.ensures.1 in
    c.copy_out.ensures ∙ ap (λ xs. slice_range xs c.args.start (c.args.start + length c.args.out.now))
    (from_first ∙ text_blocks chain ∙ c.self.view_is)
