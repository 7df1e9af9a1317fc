use Rattle.std.proofs.Common.{◌≡◌, ◌-◌, ◌≤◌, List, Some, None, refl, sym, subst, length, rules}
use Rattle.std.specs.Prelude.{slice_get}
use Rattle.std.proofs.lemmas.Option.{slice_get_read, slice_get_past}
use Rattle.cord_file.specs.declared.files.OpenFile.{OpenFile}
use Rattle.cord_file.proofs.SourceBytes.{length_of_file}
use Rattle.cord_file.proofs.sources.SourcesSource.entry_len.Goals as goal

pub returns-in-Some : goal.returns-in-Some
returns-in-Some g c =
    let files : List OpenFile = c.args.self.now.open_files.items in
    let past : 2 ≤ c.args.id.0 = search rules in
    let value : c.deref.result.now ≡ files = c.deref.ensures.value in
    let file : OpenFile = c.in-Some.file.now in
    let found : slice_get c.deref.result.now (c.args.id.0 - 2) ≡ Some file =
    slice_get_read c.deref.result.now (length c.deref.result.now) (c.args.id.0 - 2) file refl (search rules)
    c.in-Some.ensures.lookup.1 in
    sym (length_of_file files c.args.id.0 (Some file) past (subst (λ xs. slice_get xs (c.args.id.0 - 2) ≡ Some file) value found))

pub returns-in-None : goal.returns-in-None
returns-in-None g c =
    let files : List OpenFile = c.args.self.now.open_files.items in
    let past : 2 ≤ c.args.id.0 = search rules in
    let value : c.deref.result.now ≡ files = c.deref.ensures.value in
    let beyond : length c.deref.result.now ≤ c.args.id.0 - 2 = search rules in
    sym (length_of_file files c.args.id.0 None past (slice_get_past files (c.args.id.0 - 2)
    (subst (λ xs. length xs ≤ c.args.id.0 - 2) value beyond)))
