use Rattle.std.proofs.Common.{◌≡◌, ◌+◌, ◌-◌, ◌≤◌, List, take, drop, length, ap, ◌∙◌, ℕ, arith}
use Rattle.std.proofs.lemmas.List.{length-take-le}
use Rattle.std.specs.String.{string_bytes}
use Rattle.cord_io.specs.Device.{bytes_at}
use Rattle.cord_io.proofs.Ahead.{part_ahead}
use Rattle.cord_io.proofs.opened.OpenedFile.copy_ahead.Goals as goal

pub returns-clause-bytes : goal.returns-clause-bytes
returns-clause-bytes g c = λ file_system agrees.
    let self = c.args.self.now in
    let text : List ℕ = bytes_at file_system (string_bytes self.reader.path) in
    let k : ℕ = c.copy_from.result in
    let after : self.start ≤ c.args.start = c.in_ok-skipped.ensures.0 in
    let skipped : c.in_ok-skipped.skipped ≡ c.args.start - self.start = c.in_ok-skipped.ensures.1 in
    let value : take self.count c.deref.result.now ≡ take self.count self.bytes.items = ap (take self.count) c.deref.ensures.value in
    let count : length (take self.count c.deref.result.now) ≡ self.count =
    ap length value ∙ length-take-le self.count self.bytes.items self.ahead.fits in
    let fits : c.args.start - self.start + k ≤ self.count =
    omega (arith, skipped, count, c.copy_from.ensures.fills, c.if-skipped-self.false) in
    let copied : take k c.copy_from.new.out ≡ take k (drop (c.args.start - self.start) (take self.count self.bytes.items)) =
    c.copy_from.ensures.bytes ∙ ap (λ n. take k (drop n (take self.count c.deref.result.now))) skipped
    ∙ ap (λ xs. take k (drop (c.args.start - self.start) xs)) value in
    part_ahead self.start c.args.start self.count k self.bytes.items text c.copy_from.new.out after fits
    (self.ahead.same file_system agrees) copied
