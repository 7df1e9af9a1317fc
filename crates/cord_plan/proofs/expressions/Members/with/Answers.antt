use Rattle.cord_plan.proofs.Sharing.{first_more, second_more}
use Rattle.cord_plan.proofs.expressions.Members.with.Goals as goal

pub returns-in-Nothing : goal.returns-in-Nothing
returns-in-Nothing c = record { made = first_more c.args.self c.one.result c.args.last c.in-Nothing.is c.one.ensures }

pub returns-in-One : goal.returns-in-One
returns-in-One c =
    record {
      made = second_more c.args.self c.in-One.one c.two.result c.into_member-first.result c.args.last c.in-One.is
          c.into_member-first.ensures c.two.ensures;
    }
