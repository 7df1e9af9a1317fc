use Rattle.std.proofs.Common.{◌≡◌, ℕ, suc, ◌+◌, ◌<◌, List, Some, Ok, Err, Result, refl, sym, ◌∙◌, ap, subst, length, arith, rules}
use Rattle.std.specs.Prelude.{IfOk, OnErr}
use Rattle.std.specs.Prelude.{slice_get}
use Rattle.std.specs.Option.{option_map}
use Rattle.std.specs.String.{string_bytes}
use Rattle.std.proofs.lemmas.Option.{slice_get-map, slice_get_read}
use Rattle.cord_file.specs.declared.files.OpenFile.{OpenFile}
use Rattle.cord_file.specs.FileTable.{Opened, id_in, lengths_in}
use Rattle.cord_file.specs.Files.{reported_of, opened_of}
use Rattle.cord_file.specs.Opening.{Grows, Opens}
use Rattle.cord_file.proofs.Growing.{grows_same, grows_opened, opens_again}
use Rattle.cord_file.proofs.Holding.{file_at_place, holds_file, IsFound}
use Rattle.cord_file.proofs.sources.Sources.open.Goals as goal

some_inj : {a b : OpenFile} → Some a ≡ Some b → a ≡ b
some_inj h = cc

-- the table grows in either case
grown : {A E : Type 0} (old new : Opened) (path : List ℕ) (r : Result A E) (id len : A → ℕ) →
    IfOk r (λ x. Opens old new path (id x) (len x)) → OnErr r (new ≡ old) → Grows old new
grown old new path (Ok x) id len opens same = grows_opened old new path (id x) (len x) opens
grown old new path (Err e) id len opens same = subst (Grows old) (sym same) (grows_same old)

pub returns-in-None-clause-grows : goal.returns-in-None-clause-grows
returns-in-None-clause-grows g c = grown _ _ c.args.path.now c.add.result (λ r. r.0.0) (λ r. r.1) c.add.ensures.opens c.add.ensures.unopened

pub returns-in-Some-clause-opens : goal.returns-in-Some-clause-opens
returns-in-Some-clause-opens g c =
    let self = c.args.self.now in
    let files = self.open_files.items in
    let n = c.in-Some.place in
    let e : OpenFile = c.index.result.now in
    let path = c.args.path.now in
    let found : id_in (opened_of files) path ≡ Some (n + 2) =
    ap (λ xs. id_in (opened_of xs) path) (sym c.deref.ensures.value) ∙ c.in-Some.ensures.found in
    let inside : n < length files = subst (λ xs. n < length xs) c.deref.ensures.value c.in-Some.ensures.inside in
    let here : slice_get files n ≡ Some e = slice_get_read files _ n e refl inside c.index.ensures in
    let id : n + 2 ≡ suc (suc n) = omega arith in
    let reported : lengths_in (opened_of files) (n + 2) ≡ Some e.len =
    ap (lengths_in (opened_of files)) id
    ∙ ap (option_map (λ file. file.1)) (slice_get-map reported_of files n ∙ ap (option_map reported_of) here) in
    opens_again (opened_of files) path (n + 2) e.len found reported (self.sound.short_enough n e here)

pub returns-in-Some-clause-file : goal.returns-in-Some-clause-file
returns-in-Some-clause-file g c = λ file_system agrees.
    let self = c.args.self.now in
    let files = self.open_files.items in
    let n = c.in-Some.place in
    let e : OpenFile = c.index.result.now in
    let path = c.args.path.now in
    let found : id_in (opened_of files) path ≡ Some (n + 2) =
    ap (λ xs. id_in (opened_of xs) path) (sym c.deref.ensures.value) ∙ c.in-Some.ensures.found in
    let inside : n < length files = subst (λ xs. n < length xs) c.deref.ensures.value c.in-Some.ensures.inside in
    let here : slice_get files n ≡ Some e = slice_get_read files _ n e refl inside c.index.ensures in
    let file = file_at_place files path n found in
    let same : file.0 ≡ e = some_inj (sym file.1 ∙ here) in
    let at : string_bytes e.path ≡ path = ap (λ f. string_bytes f.path) (sym same) ∙ file.2 in
    let id : n + 2 ≡ suc (suc n) = omega arith in
    let slot : slice_get (opened_of files) n ≡ Some (path, e.len) =
    slice_get-map reported_of files n ∙ ap (option_map reported_of) here ∙ ap (λ p. Some (p, e.len)) at in
    let there : IsFound file_system path e.len =
    subst (λ p. IsFound file_system p e.len) at (self.sound.there n e here file_system agrees, self.sound.as_long n e here file_system agrees)
    in
    holds_file file_system (opened_of files) path (n + 2) e.len n id slot there

pub returns-in-Some-clause-count : goal.returns-in-Some-clause-count
returns-in-Some-clause-count g c = search rules

pub returns-in-Some-clause-again : goal.returns-in-Some-clause-again
returns-in-Some-clause-again g c = search rules
