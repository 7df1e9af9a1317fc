use Rattle.cord_file.specs.FileTable.{lengths_in}
use Rattle.cord_file.specs.Sources.{opened_in}
use Rattle.tests.proofs.tests.files.reading.put_part.Goals as goal

pub put-requires : goal.put-requires
put-requires g c = record {
  fits = c.in-Ok-substr.ensures.over.fits
      (lengths_in (opened_in c.lazy.new.self)) c.in-Ok.ensures.cord.func.fits;
}
