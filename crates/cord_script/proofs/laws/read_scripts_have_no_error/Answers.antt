use Rattle.cord_script.proofs.Single.{no_error}
use Rattle.cord_script.proofs.laws.read_scripts_have_no_error.Goals as goal

pub returns : goal.returns
returns c = no_error c.formats_have_one_reading.ensures c.refused_formats_are_none.ensures.none
