-- Ranges that are read piece by piece.
use Rattle.std.proofs.Common.{◌≡◌, ℕ, ◌+◌, ◌≤◌, List, ◌++◌, length, take, drop, Result, Ok, Err, sym, ap, subst, ◌∙◌, arith}
use Rattle.std.specs.Prelude.{IsSomeAnd, IfOk, OnOk, Some, None, ◌<◌}
use Rattle.std.specs.declared.option.Option.{Option}
use Rattle.std.proofs.lemmas.List.{drop-drop, length-take-le, take-append-le}
use Rattle.std.proofs.Math.Seq.{take-add, take-append-add, take-length}
use borrow.Rule.Slice.PartMut.{put_mid}
use Rattle.std.specs.String.{string_bytes}
use Rattle.cord_io.specs.Device.{FileSystem, bytes_at}
use Rattle.cord_file.specs.inner.Blocks.{AreRead, BeginsWithFile}
use Rattle.cord_file.specs.Files.{reported_of}
use Rattle.cord_file.specs.declared.files.OpenFile.{OpenFile}

-- so many bytes more, read after those that are there
more_bytes : (done k room start : ℕ) (out part text : List ℕ) → done ≤ length out → k ≤ length part →
    take done out ≡ take done (drop start text) → take k part ≡ take k (drop (start + done) text) →
    take (done + k) (put_mid done room out part) ≡ take (done + k) (drop start text)
more_bytes done k room start out part text fits inside before more =
    let rest : List ℕ = drop room (drop done out) in
    let len : length (take done out) ≡ done = length-take-le done out fits in
    let split : take (length (take done out) + k) (take done out ++ (part ++ rest)) ≡ take done out ++ take k (part ++ rest) =
    take-append-add (take done out) (part ++ rest) k in
    let prefix : take k (part ++ rest) ≡ take k part = take-append-le k part rest inside in
    let place : drop done (drop start text) ≡ drop (start + done) text = drop-drop done start text in
    ap (λ n. take (n + k) (take done out ++ (part ++ rest))) (sym len)
    ∙ split
    ∙ ap (λ ys. take done out ++ ys) (prefix ∙ more ∙ ap (take k) (sym place))
    ∙ ap (λ xs. xs ++ take k (drop done (drop start text))) before
    ∙ sym (take-add done k (drop start text))

-- the same of an opened file
pub more_read : {X : Type 0} (path : X → List ℕ) (file_system : FileSystem) (opened : Option X) (done k room start : ℕ) (out part : List ℕ)
    →
    done ≤ length out → k ≤ length part → IsSomeAnd opened (λ file. take done out ≡ take done
    (drop start (bytes_at file_system (path file)))) →
    IsSomeAnd opened (λ file. take k part ≡ take k (drop (start + done) (bytes_at file_system (path file)))) →
    IsSomeAnd opened (λ file. take (done + k) (put_mid done room out part) ≡ take (done + k)
    (drop start (bytes_at file_system (path file))))
more_read path file_system None done k room start out part fits inside before more = absurd before
more_read path file_system (Some file) done k room start out part fits inside before more =
    more_bytes done k room start out part (bytes_at file_system (path file)) fits inside before more

-- the same of the prefix of a file, where a read may have failed
pub more_after : {E : Type 0} (r : Result ℕ E) (file_system : FileSystem) (reported : Option (List ℕ × ℕ)) (done room : ℕ)
    (out part : List ℕ) →
    done ≤ length out → IfOk r (λ k. (0 < k) × (k ≤ length part)) → BeginsWithFile file_system reported done out →
    IfOk r (λ k. IsSomeAnd reported (λ t. take k part ≡ take k (drop done (bytes_at file_system t.0)))) →
    IfOk r (λ k. BeginsWithFile file_system reported (done + k) (put_mid done room out part))
more_after (Err e) file_system reported done room out part fits some before more = tt
more_after (Ok k) file_system reported done room out part fits some before more =
    let place : done ≡ 0 + done = omega arith in
    more_read (λ t. t.0) file_system reported done k room 0 out part fits some.1 before
    (subst (λ n. IsSomeAnd reported (λ t. take k part ≡ take k (drop n (bytes_at file_system t.0)))) place more)

-- bytes that were read are as many as they are
pub all_read : (file_system : FileSystem) (slot : Option OpenFile) (start k : ℕ) (part : List ℕ) → k ≡ length part →
    AreRead file_system slot start part → IsSomeAnd slot (λ file. take k part ≡ take k
    (drop start (bytes_at file_system (string_bytes file.path))))
all_read file_system None start k part same read = read
all_read file_system (Some file) start k part same read = ap (λ n. take n part) same ∙ take-length part ∙ read
    ∙ ap (λ n. take n (drop start (bytes_at file_system (string_bytes file.path)))) (sym same)

-- all of a range was read
pub read_to_end : (file_system : FileSystem) (slot : Option OpenFile) (start done : ℕ) (out : List ℕ) → done ≡ length out →
    IsSomeAnd slot (λ file. take done out ≡ take done (drop start (bytes_at file_system (string_bytes file.path)))) →
    AreRead file_system slot start out
read_to_end file_system None start done out all read = read
read_to_end file_system (Some file) start done out all read = sym (take-length out) ∙ ap (λ n. take n out) (sym all) ∙ read
    ∙ ap (λ n. take n (drop start (bytes_at file_system (string_bytes file.path)))) all

-- bytes that were read of the file that the device reported are those of the file in its place, where the read didn't fail
pub read_of_reported : {A E : Type 0} (r : Result A E) (file_system : FileSystem) (reported : Option (List ℕ × ℕ)) (slot : Option OpenFile)
    (file : OpenFile) (start : ℕ) (out : List ℕ) → reported ≡ Some (reported_of file) → slot ≡ Some file →
    OnOk r (IsSomeAnd reported (λ t. out ≡ take (length out) (drop start (bytes_at file_system t.0)))) → OnOk r
    (AreRead file_system slot start out)
read_of_reported (Err e) file_system reported slot file start out same here read = tt
read_of_reported (Ok x) file_system reported slot file start out same here read =
    let text : Option (List ℕ × ℕ) → Type 0 = λ o. IsSomeAnd o (λ t. out ≡ take (length out) (drop start (bytes_at file_system t.0))) in
    subst (λ o. AreRead file_system o start out) (sym here) (subst text same read)

-- the file in its place was read whole
pub whole_read : (file_system : FileSystem) (reported : Option (List ℕ × ℕ)) (slot : Option OpenFile) (file : OpenFile) (len : ℕ)
    (out : List ℕ) →
    reported ≡ Some (reported_of file) → slot ≡ Some file → length out ≡ len → BeginsWithFile file_system reported len out → AreRead
    file_system slot 0 out
whole_read file_system reported slot file len out same here count read =
    let bytes : List ℕ = bytes_at file_system (string_bytes file.path) in
    let prefix : take len out ≡ take len bytes = subst (λ o. BeginsWithFile file_system o len out) same read in
    subst (λ o. AreRead file_system o 0 out) (sym here) (sym (take-length out) ∙ ap (λ n. take n out) count ∙ prefix
    ∙ ap (λ n. take n bytes) (sym count))
