use Rattle.std.proofs.Common.{◌≡◌, ◌≤◌, List, ◌∷◌, ◌++◌, length, refl, sym, ap, ◌∙◌, subst}
use Rattle.cord_raw.specs.declared.block.TheConstants.{ROOM}
use Rattle.cord_raw.specs.declared.block.Block.{Block}
use Rattle.cord_raw.specs.inner.Blocks.{pointing}
use Rattle.cord_raw.specs.Texts.{text, text_of, AreFull}
use Rattle.cord_raw.proofs.Texts.{linked_text, full_append}
use Rattle.cord_raw.proofs.chain.Chain.append.Goals as goal

pub returns-clause-text : goal.returns-clause-text
returns-clause-text c =
    let d = c.args.self.now in let e = c.args.other in
    ap (λ (bs : List Block). text bs ++ text_of c.link.new.self.newest) c.link.ensures.0
    ∙ ap (λ (b : Block). text (d.older ++ pointing d.newest e.first ∷ e.older) ++ text_of b) c.link.ensures.1
    ∙ linked_text d.older d.newest (pointing d.newest e.first) e.older e.newest refl

pub returns-clause-filled : goal.returns-clause-filled
returns-clause-filled c =
    let d = c.args.self.now in let e = c.args.other in (
      subst AreFull (sym c.link.ensures.0) (full_append d.older (pointing d.newest e.first ∷ e.older) c.requires.filled.0
          (c.requires.filled.1 ∙ c.requires.full, c.requires.other.0)),
      subst (λ (b : Block). length (text_of b) ≡ b.len) (sym c.link.ensures.1) c.requires.other.1,
      subst (λ (b : Block). b.len ≤ ROOM) (sym c.link.ensures.1) c.requires.other.2,
    )
