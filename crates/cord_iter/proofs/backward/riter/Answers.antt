use Rattle.cord_iter.proofs.Common.{FileSystem, WalkedPrefix, arith, bytes_of, length, subst, sym, text_len, ◌∙◌, ◌≡◌}
use Rattle.cord_iter.proofs.Lemmas.{all_down, cord_len, empty_walk, on_err, same_walk}
use Rattle.cord_iter.proofs.backward.riter.Given.{Over}
use Rattle.cord_iter.proofs.backward.riter.Goals.{After-len-len}
use Rattle.cord_iter.proofs.backward.riter.Goals as goal

-- the text is as long as the cord stores
len_is : (g : Over) (c : After-len-len g) (file_system : FileSystem) → g.S.Source.consistent c.args.src.now file_system →
    length (bytes_of (g.S.Source.table c.args.src.now file_system) c.args.cord.now) ≡ text_len c.args.cord.now
len_is g c file_system agrees = cord_len (g.S.Source.lengths c.args.src.now) (g.S.Source.table c.args.src.now file_system) c.args.cord.now
    (g.met.S.Source.lengths_of_table c.args.src.now file_system agrees) c.len-len.ensures.sound c.requires.fits

pub returns-then-len-eq0-clause-walked : goal.returns-then-len-eq0-clause-walked
returns-then-len-eq0-clause-walked g c file_system agrees =
    let known = (goal.at.returns-then-len-eq0-clause-walked g c).After-len-len in
    empty_walk g.V.Visitor.step (g.V.Visitor.state c.args.visitor.now) (g.S.Source.table c.args.src.now file_system) c.args.cord.now
    (len_is g known file_system agrees) (sym c.len-len.ensures.stored ∙ c.if-len-eq0.true)

pub returns-in_err-stopped-clause-prefix : goal.returns-in_err-stopped-clause-prefix
returns-in_err-stopped-clause-prefix g c file_system agrees =
    let len = len_is g (goal.at.returns-in_err-stopped-clause-prefix g c).After-len-len file_system
    (c.riter4.ensures.source.earlier file_system agrees) in
    on_err c.from_residual.result (subst
    (WalkedPrefix g.V.Visitor.step (g.V.Visitor.state c.args.visitor.now) (g.V.Visitor.state c.riter4.new.visitor))
    (all_down (g.S.Source.table c.args.src.now file_system) c.args.cord.now c.len-len.result len c.len-len.ensures.stored
    (omega (arith, c.if-len-eq0.false))) (c.in_err-stopped.ensures.prefix file_system agrees))

pub returns-clause-walked : goal.returns-clause-walked
returns-clause-walked g c file_system agrees =
    let len = len_is g (goal.at.returns-clause-walked g c).After-len-len file_system (c.riter4.ensures.source.earlier file_system agrees) in
    same_walk g.V.Visitor.step (g.V.Visitor.state c.args.visitor.now) _ _ _
    (all_down (g.S.Source.table c.args.src.now file_system) c.args.cord.now c.len-len.result len c.len-len.ensures.stored
    (omega (arith, c.if-len-eq0.false))) (c.in_ok-stopped.ensures.walked file_system agrees)
