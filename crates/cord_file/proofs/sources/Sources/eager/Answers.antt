use Rattle.cord_file.specs.Files.{opened_of}
use Rattle.cord_file.proofs.Growing.{is_file}
use Rattle.cord_file.proofs.sources.Sources.eager.Goals as goal

pub read_whole-requires-clause-file : goal.read_whole-requires-clause-file
read_whole-requires-clause-file g c = is_file (opened_of c.open.new.self.open_files.items) c.args.path.now c.in_ok-id.id.0
    c.in_ok-id.ensures.opens.known
