use Rattle.std.proofs.Common.{rules}
use Rattle.cord_file.specs.Files.{opened_of}
use Rattle.cord_file.proofs.Growing.{is_file}
use Rattle.cord_file.proofs.sources.Sources.from_file.Goals as goal

pub read_whole-requires-clause-file : goal.read_whole-requires-clause-file
read_whole-requires-clause-file g c = is_file (opened_of c.open.new.self.open_files.items) c.args.path.now c.in_ok-id.id.0
    c.in_ok-id.ensures.opens.known

pub returns-then-len-le-SHORT_FILE-clause-cord : goal.returns-then-len-le-SHORT_FILE-clause-cord
returns-then-len-le-SHORT_FILE-clause-cord g c = search rules

pub returns-then-len-le-SHORT_FILE-clause-refused : goal.returns-then-len-le-SHORT_FILE-clause-refused
returns-then-len-le-SHORT_FILE-clause-refused g c = search rules
