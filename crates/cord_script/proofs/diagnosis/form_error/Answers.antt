use Rattle.cord_script.proofs.Common.{scope_of}
use Rattle.cord_script.specs.Forms.{form_of}
use Rattle.cord_script.proofs.FormErrors.{words_error}
use Rattle.cord_script.proofs.diagnosis.form_error.Goals as goal

pub returns-in-Fixed : goal.returns-in-Fixed
returns-in-Fixed c = rw c.in-Fixed.is (words_error c.in-Fixed.fixed c.wants_of.result.now (scope_of c.args.context.now) c.args.words.now
    c.wanted_error.result c.wants_of.ensures c.wanted_error.ensures)

pub returns-in-Catn : goal.returns-in-Catn
unfolding form_of
returns-in-Catn c = rw c.in-Catn.is c.joined_error.ensures

pub returns-in-Sprintf : goal.returns-in-Sprintf
unfolding form_of
returns-in-Sprintf c = rw c.in-Sprintf.is c.printed_error.ensures
