use Rattle.cord_script.proofs.Common.{refl, length, arith, scope_of}
use Rattle.cord_script.proofs.FormErrors.{cords_error}
use Rattle.cord_script.proofs.diagnosis.joined_error.Goals as goal

pub returns : goal.returns
returns c = cords_error (scope_of c.args.context.now) c.args.words.now (length c.args.words.now) c.wanted_error.result refl (omega arith)
    (omega arith) c.wanted_error.ensures
