use Rattle.std.proofs.Common.{◌≡◌, suc, ◌+◌, ◌<◌, ◌≤◌, [], ◌∷◌, ◌++◌, Some, sym, ◌∙◌, ap, subst, length, rules}
use Rattle.std.specs.Prelude.{is_ok, is_some, slice_get}
use Rattle.std.specs.String.{string_bytes}
use Rattle.std.proofs.lemmas.List.{length-map}
use Rattle.cord_io.specs.declared.TheConstants.{MAX_LEN}
use Rattle.cord_io.specs.Device.{FileSystem, file_at, bytes_at, count_after, open_failed, HandsOut}
use Rattle.cord_file.specs.declared.TheConstants.{MAX_FILES}
use Rattle.cord_file.specs.declared.files.OpenFile.{OpenFile}
use Rattle.cord_file.specs.Files.{reported_of, opened_of}
use Rattle.cord_file.specs.Opening.{Opens}
use Rattle.cord_file.specs.Sources.{opened_in}
use Rattle.cord_file.proofs.Growing.{opens_after, last_place}
use Rattle.cord_file.proofs.BlockParts.{kept_after, kept_earlier, sound_moved}
use Rattle.cord_file.proofs.Holding.{each_pushed, opened_more, IsFound, found_there, holds_file}
use Rattle.cord_file.proofs.sources.Sources.add.Goals as goal

pub invariant_of-self : goal.invariant_of-self
invariant_of-self g c = record {
  few = c.args.self.now.few;
  sound = sound_moved c.open.ensures.earlier (λ n h. c.in_err-no.ensures.none_opened n) c.args.self.now.sound;
}

pub invariant_of-self-then-len-gt-MAX_LEN : goal.invariant_of-self-then-len-gt-MAX_LEN
invariant_of-self-then-len-gt-MAX_LEN g c = record {
  few = c.args.self.now.few;
  sound = sound_moved c.open.ensures.earlier c.in_ok-no.ensures.opened.kept c.args.self.now.sound;
}

pub invariant_of-self-2 : goal.invariant_of-self-2
invariant_of-self-2 g c =
    let old = c.args.self.now in
    let files = old.open_files.items in
    let file : OpenFile = record { path = c.in_ok-kept.kept; no = c.in_ok-no.no; len = c.in_ok-no.len } in
    let path : string_bytes file.path ≡ c.args.path.now = c.in_ok-kept.ensures.ok in
    let hands : HandsOut (g.F.Files.opened old.files) (g.F.Files.opened c.open.new.self) file.no.0 c.args.path.now file.len =
    c.in_ok-no.ensures.opened in
    let Consistent : FileSystem → Type 0 = g.F.Files.consistent c.open.new.self in
    let earlier : (file_system : FileSystem) → Consistent file_system → g.F.Files.consistent old.files file_system = c.open.ensures.earlier in
    let found : (file_system : FileSystem) → Consistent file_system → IsFound file_system (string_bytes file.path) file.len =
    λ file_system agrees. subst (λ p. IsFound file_system p file.len) (sym path)
    (found_there file_system _ _ (c.in_ok-no.ensures.found file_system agrees)) in
    record {
      few = search rules;
      sound = record {
        handed_out = each_pushed (λ f. g.F.Files.opened c.open.new.self f.no.0 ≡ Some (reported_of f)) files _ file
            (is_ok c.push.result) c.push.ensures.items
            (λ k f h. let was = old.sound.handed_out k f h in hands.kept f.no.0 (ap is_some was) ∙ was)
            (hands.reported ∙ ap (λ p. Some (p, file.len)) (sym path));
        short_enough = each_pushed (λ f. f.len ≤ MAX_LEN) files _ file (is_ok c.push.result) c.push.ensures.items old.sound.short_enough
            (search rules);
        there = each_pushed (λ f. (file_system : FileSystem) → Consistent file_system →
            file_at file_system (string_bytes f.path) ≡ Some (bytes_at file_system (string_bytes f.path))) files _ file
            (is_ok c.push.result) c.push.ensures.items
            (λ k f h file_system agrees. old.sound.there k f h file_system (earlier file_system agrees))
            (λ file_system agrees. (found file_system agrees).0);
        as_long = each_pushed (λ f. (file_system : FileSystem) → Consistent file_system → length (bytes_at file_system (string_bytes f.path)) ≡
            f.len) files _ file
            (is_ok c.push.result) c.push.ensures.items
            (λ k f h file_system agrees. old.sound.as_long k f h file_system (earlier file_system agrees))
            (λ file_system agrees. (found file_system agrees).1);
        cached = kept_after Consistent files _ file (is_ok c.push.result) _ c.push.ensures.items
            (kept_earlier (g.F.Files.consistent old.files) Consistent files old.cache.entries earlier old.sound.cached);
      };
    }

pub returns-clause-opens : goal.returns-clause-opens
returns-clause-opens g c =
    let old = c.args.self.now in
    let files = old.open_files.items in
    let file : OpenFile = record { path = c.in_ok-kept.kept; no = c.in_ok-no.no; len = c.in_ok-no.len } in
    let path : string_bytes file.path ≡ c.args.path.now = c.in_ok-kept.ensures.ok in
    let more : opened_of c.push.new.self.items ≡ opened_of files ++ (c.args.path.now, file.len) ∷ [] =
    ap opened_of c.in_ok-push.ensures.items ∙ opened_more files file c.args.path.now path in
    let count : length (opened_of files) ≡ length files = length-map files reported_of in
    let room : length (opened_of files) < MAX_FILES = search rules in
    let limit : file.len ≤ MAX_LEN = search rules in
    let id : length (opened_of files) + 2 ≡ c.len-2.result + 2 = search rules in
    subst (λ n. Opens (opened_of files) (opened_of c.push.new.self.items) c.args.path.now n file.len) id
    (subst (λ new. Opens (opened_of files) new c.args.path.now (length (opened_of files) + 2) file.len) (sym more)
    (opens_after (opened_of files) c.args.path.now file.len c.requires room limit))

pub returns-clause-file : goal.returns-clause-file
returns-clause-file g c = λ file_system agrees.
    let old = c.args.self.now in
    let files = old.open_files.items in
    let file : OpenFile = record { path = c.in_ok-kept.kept; no = c.in_ok-no.no; len = c.in_ok-no.len } in
    let path : string_bytes file.path ≡ c.args.path.now = c.in_ok-kept.ensures.ok in
    let more : opened_of c.push.new.self.items ≡ opened_of files ++ (c.args.path.now, file.len) ∷ [] =
    ap opened_of c.in_ok-push.ensures.items ∙ opened_more files file c.args.path.now path in
    let count : length (opened_of files) ≡ length files = length-map files reported_of in
    let id : c.len-2.result + 2 ≡ suc (suc (length (opened_of files))) = search rules in
    let slot : slice_get (opened_of c.push.new.self.items) (length (opened_of files)) ≡ Some (c.args.path.now, file.len) =
    ap (λ xs. slice_get xs (length (opened_of files))) more ∙ last_place (opened_of files) (c.args.path.now, file.len) in
    holds_file file_system (opened_of c.push.new.self.items) c.args.path.now (c.len-2.result + 2) file.len (length (opened_of files)) id
    slot
    (found_there file_system _ _ (c.in_ok-no.ensures.found file_system agrees))

pub returns-clause-count : goal.returns-clause-count
returns-clause-count g c = c.open.ensures.count ∙ ap (λ r. count_after (open_failed r) (g.F.Files.failures c.args.self.now.files)) c.in_ok-no.was

pub returns-clause-once : goal.returns-clause-once
returns-clause-once g c = (c.in_ok-no.no.0, c.in_ok-no.ensures.opened)

pub returns-then-len-ge-MAX_FILES-clause-refused : goal.returns-then-len-ge-MAX_FILES-clause-refused
returns-then-len-ge-MAX_FILES-clause-refused g c =
    let old = c.args.self.now in
    let count : length (opened_in old) ≡ length old.open_files.items = length-map old.open_files.items reported_of in
    search rules
