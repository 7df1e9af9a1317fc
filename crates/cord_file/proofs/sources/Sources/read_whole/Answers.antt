use Rattle.std.proofs.Common.{◌≡◌, ◌<◌, ◌≤◌, Result, Ok, Err, refl, sym, ap, ◌∙◌, subst, length, arith}
use Rattle.std.specs.Prelude.{IsSomeAnd, IfErr, IsErrAnd}
use Rattle.std.specs.Rc.{rc_slice_items}
use Rattle.cord_io.specs.declared.TheConstants.{MAX_LEN}
use Rattle.cord_core.specs.Forms.{IsLeafOf}
use Rattle.cord_core.specs.Equations.{HasText}
use Rattle.cord_core.specs.Refusals.{IsRefusal}
use Rattle.cord_io.specs.declared.faults.CordError.{CordError}
use Rattle.cord_io.specs.declared.faults.CordError.TheVariants.{NoMemory, TooLong, ReadFailed, WriteFailed}
use Rattle.cord_file.specs.Faults.{file_error_of}
use Rattle.cord_file.specs.FileCords.{IsReadRefusal}
use Rattle.cord_file.specs.declared.faults.FileError.{FileError}
use Rattle.cord_file.specs.FileTable.{lengths_in, table_in}
use Rattle.cord_file.specs.Files.{opened_of, as_long_as_reported}
use Rattle.cord_file.proofs.SourceBytes.{in_slot, source_limit}
use Rattle.cord_file.proofs.CordTexts.{source_bytes}
use Rattle.cord_file.proofs.sources.Sources.read_whole.Goals as goal

pub read_file_whole-requires : goal.read_file_whole-requires
read_file_whole-requires g c =
    let files = c.args.self.now.open_files.items in
    let reported : IsSomeAnd (lengths_in (opened_of files) c.args.id.0) (λ n. n ≡ c.args.len) =
    subst (λ o. IsSomeAnd o (λ n. n ≡ c.args.len)) (sym c.requires.len) refl in
    record { file = in_slot (λ n. n ≡ c.args.len) files c.args.id.0 c.requires.file reported }

pub returns-clause-cord : goal.returns-clause-cord
returns-clause-cord g c =
    let items : rc_slice_items c.in_ok-shared.shared ≡ c.in_ok-bytes.bytes.items = c.in_ok-shared.ensures in
    record {
      bytes = c.in_ok-bytes.bytes.items;
      form = subst (λ xs. IsLeafOf xs c.in_ok-from_shared.field-0) items c.in_ok-from_shared.ensures.form;
      text = subst (λ xs. HasText xs c.in_ok-from_shared.field-0) items c.in_ok-from_shared.ensures.over;
      count = c.in_ok-bytes.ensures.len;
    }

pub returns-clause-text : goal.returns-clause-text
returns-clause-text g c = λ file_system agrees.
    let self = c.args.self.now in
    let files = self.open_files.items in
    let items : rc_slice_items c.in_ok-shared.shared ≡ c.in_ok-bytes.bytes.items = c.in_ok-shared.ensures in
    let reported = as_long_as_reported (g.F.Files.consistent self.files) files self.sound.as_long file_system
    (c.in_ok-bytes.ensures.files.device.earlier file_system agrees) in
    c.in_ok-from_shared.ensures.over.bytes (table_in (opened_of files) file_system) ∙ items
    ∙ source_bytes file_system files c.args.id.0 c.args.len c.in_ok-bytes.bytes.items c.requires.file reported c.requires.len
    c.in_ok-bytes.ensures.len (c.in_ok-bytes.ensures.bytes file_system agrees)

-- bytes that aren't too long for a cord are refused only when out of memory
refusal : {A : Type 0} (r : Result A FileError) (e : CordError) → IsErrAnd r (λ f. f ≡ file_error_of e) → IsRefusal e → (e ≡ TooLong → ⊥) →
    IfErr r IsReadRefusal
refusal (Ok x) e gives known short = tt
refusal (Err f) e gives known short = subst IsReadRefusal (sym gives) (cases e known short) where
  cases : (e : CordError) → IsRefusal e → (e ≡ TooLong → ⊥) → IsReadRefusal (file_error_of e)
  cases NoMemory known short = tt
  cases TooLong known short = absurd (short refl)
  cases ReadFailed known short = tt
  cases WriteFailed known short = tt

pub returns-in_err-from_shared-clause-refused : goal.returns-in_err-from_shared-clause-refused
returns-in_err-from_shared-clause-refused g c =
    let self = c.args.self.now in
    let items : rc_slice_items c.in_ok-shared.shared ≡ c.in_ok-bytes.bytes.items = c.in_ok-shared.ensures in
    let limit : c.args.len ≤ MAX_LEN = source_limit self.open_files.items self.sound.short_enough c.args.id.0 c.args.len c.requires.len in
    let same : length (rc_slice_items c.in_ok-shared.shared) ≡ c.args.len = ap length items ∙ c.in_ok-bytes.ensures.len in
    refusal c.from_residual-in_err-from_shared.result c.in_err-from_shared.field-0.0 c.from_residual-in_err-from_shared.ensures.1 c.in_err-from_shared.ensures.refused
    (λ e. let over : MAX_LEN < length (rc_slice_items c.in_ok-shared.shared) = c.in_err-from_shared.ensures.too_long (ap (λ x. Err x) e) in
    absurd (omega (arith, over, same, limit)))
