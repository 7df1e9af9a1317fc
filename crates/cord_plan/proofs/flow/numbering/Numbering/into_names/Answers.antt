use Rattle.cord_plan.proofs.flow.numbering.Numbering.into_names.Goals as goal

pub returns : goal.returns
returns c = c.args.self.distinct
