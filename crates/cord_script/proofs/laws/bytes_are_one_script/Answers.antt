use Rattle.cord_script.proofs.Single.{one_script}
use Rattle.cord_script.proofs.laws.bytes_are_one_script.Goals as goal

pub returns : goal.returns
returns c = one_script c.formats_have_one_reading.ensures c.refused_formats_are_none.ensures.none
