use Rattle.cord_script.proofs.Single.{one_error}
use Rattle.cord_script.proofs.laws.bytes_have_one_error.Goals as goal

pub returns : goal.returns
returns c = one_error c.formats_have_one_reading.ensures c.refused_formats_are_none.ensures.none
