use Rattle.cord_lines.proofs.Cuts.{few_of, mark_at}
use Rattle.cord_lines.proofs.index.before_line.Goals as goal

pub find-found-requires : goal.find-found-requires
find-found-requires c = few_of c.requires.modest

pub returns-clause-counts : goal.returns-clause-counts
returns-clause-counts c = λ cut.
    mark_at c.args.blocks.now c.args.text.now cut c.find-found.result.index c.find-found.result.before c.find-found.ensures.before
