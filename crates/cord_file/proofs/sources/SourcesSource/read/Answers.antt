use Rattle.std.proofs.Common.{◌≡◌, ◌+◌, ◌<◌, ◌≤◌, sym, subst, length, rules}
use Rattle.cord_io.specs.declared.TheConstants.{MAX_LEN}
use Rattle.cord_file.specs.Files.{opened_of}
use Rattle.cord_file.proofs.SourceBytes.{in_slot, function_bytes, source_read_ok, function_limit}
use Rattle.cord_file.proofs.sources.SourcesSource.read.Goals as goal

pub read_file-requires : goal.read_file-requires
read_file-requires g c =
    let past : 2 ≤ c.args.id.0 = search rules in
    record {
      inside = in_slot (λ len. c.args.start + length c.args.out.now ≤ len) c.args.self.now.open_files.items c.args.id.0 past
          c.requires.inside;
    }

pub returns-in-0-clause-bytes : goal.returns-in-0-clause-bytes
returns-in-0-clause-bytes g c = λ file_system agrees.
    let self = c.args.self.now in
    let same : length c.fill.new.out ≡ length c.args.out.now = c.fill.auto.out in
    let below : c.args.id.0 < 2 = c.in-0.is in
    let range : c.args.start + length c.args.out.now ≤ MAX_LEN =
    function_limit (opened_of self.open_files.items) c.args.id.0 (c.args.start + length c.args.out.now) below c.requires.inside in
    let limit : c.args.start + length c.fill.new.out ≤ MAX_LEN = subst (λ n. c.args.start + n ≤ MAX_LEN) (sym same) range in
    function_bytes file_system (opened_of self.open_files.items) c.args.id.0 c.args.start c.fill.new.out below limit c.fill.ensures

pub returns-in_default-clause-bytes : goal.returns-in_default-clause-bytes
returns-in_default-clause-bytes g c = λ file_system agrees.
    let self = c.args.self.now in
    let past : 2 ≤ c.args.id.0 = search rules in
    source_read_ok c.read_file.result file_system self.open_files.items c.args.id.0 c.args.start c.read_file.new.out past
    (c.read_file.ensures.bytes file_system agrees)

pub returns-in_default-clause-count : goal.returns-in_default-clause-count
returns-in_default-clause-count g c = search rules

pub returns-in_default-clause-none_opened : goal.returns-in_default-clause-none_opened
returns-in_default-clause-none_opened g c = search rules

pub returns-in-0-clause-count : goal.returns-in-0-clause-count
returns-in-0-clause-count g c = search rules

pub returns-in-0-clause-functions : goal.returns-in-0-clause-functions
returns-in-0-clause-functions g c = search rules
