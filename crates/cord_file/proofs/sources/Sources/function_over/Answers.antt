use Rattle.std.proofs.Common.{◌≤◌, arith}
use Rattle.cord_io.specs.declared.TheConstants.{MAX_LEN}
use Rattle.cord_file.specs.Files.{as_long_as_reported}
use Rattle.cord_file.proofs.SourceBytes.{source_limit}
use Rattle.cord_file.proofs.CordTexts.{func_over, text_over}
use Rattle.cord_file.proofs.sources.Sources.function_over.Goals as goal

pub from_fn-requires : goal.from_fn-requires
from_fn-requires g c =
    let self = c.args.self.now in
    let limit : c.args.len ≤ MAX_LEN = source_limit self.open_files.items self.sound.short_enough c.args.id.0 c.args.len c.requires.len in
    omega (arith, limit)

pub returns-clause-cord : goal.returns-clause-cord
returns-clause-cord g c = func_over c.args.self.now.open_files.items c.args.id.0 c.args.len _ c.requires.len c.in_ok-from_fn.ensures.form
    c.in_ok-from_fn.ensures.over

pub returns-clause-text : goal.returns-clause-text
returns-clause-text g c = λ file_system agrees.
    let self = c.args.self.now in
    text_over file_system self.open_files.items c.args.id.0 c.args.len _
    (as_long_as_reported (g.F.Files.consistent self.files) self.open_files.items self.sound.as_long file_system agrees) c.requires.len
    c.in_ok-from_fn.ensures.over
