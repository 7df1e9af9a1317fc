use Rattle.cord_run.proofs.Literals.{gathered_text}
use Rattle.cord_run.proofs.targets.literals.gathered.Goals as goal

pub returns-clause-made : goal.returns-clause-made
returns-clause-made c =
    gathered_text c.args.text.now c.in_ok-gathered.gathered.text c.append_bytes.new.self.text c.in_ok-cord.cord
    c.in_ok-gathered.ensures.text
    c.in_ok-append_bytes.ensures.within_limit c.in_ok-append_bytes.ensures.over c.in_ok-cord.ensures.over c.in_ok-cord.ensures.sound
