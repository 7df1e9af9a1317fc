-- One read of a source after another, and what is so over its tables.
use Rattle.cord_search.proofs.Common.{Bool, CordFits, CordFitsIn, Ghosts, IfOk, IsAnswer, IsReadable, IsReported, IsSpanOf, Lengths, Node, Ok, Option}
use Rattle.cord_search.proofs.Common.{Result, Shows, Span, Table, ap, bytes_of, false, length, refl, text_len, ℕ, ◌∙◌, ◌≡◌}
use Rattle.std.proofs.Common.{Err}
use Rattle.std.specs.Prelude.{⊤}
use Rattle.cord_core.proofs.OverLemmas.{CordFits-reported}
use Rattle.cord_io.specs.Device.{FileSystem, count_after}
use Rattle.cord_io.specs.Table.{HasLengths}
use Rattle.cord_iter.proofs.Backs.{cord_len}
use Rattle.cord_pos.specs.Spans.{SpanFitsIn}
use Rattle.cord_search.specs.inner.Searches.{HasRead}

-- the text of each source is as long as was reported
abbrev pub ReportsLengths : {S : Type 0} → Ghosts S → Type 0
ReportsLengths {S} s = (a : S) (file_system : FileSystem) → s.consistent a file_system → HasLengths (s.lengths a) (s.table a file_system)

-- the function parts of a cord lie inside the texts of their sources
pub fits_in : {lengths : Lengths} {t : Table} (c : Option Node) → IsReported lengths t → CordFitsIn lengths c → CordFits t c
fits_in {lengths} {t} c held fits = CordFits-reported lengths t c held.lens fits

-- and its text is as long as it stores
pub len_in : {lengths : Lengths} {t : Table} {c : Option Node} → IsReported lengths t → IsReadable lengths c → length (bytes_of t c) ≡ text_len c
len_in {lengths} {t} {c} held readable = cord_len lengths t c held.lens readable.sound readable.fits

-- nothing is said of an answer
pub nothing : {A E : Type 0} (r : Result A E) → IfOk r (λ _. ⊤)
nothing (Ok x) = tt
nothing (Err e) = tt

module _ {S : Type 0} {s : Ghosts S} where
  -- no read yet
  pub not_read : {a : S} → HasRead s a a false
  not_read = record { count = refl; lengths = refl; table = refl; earlier = λ file_system agrees. agrees }

  -- and one more
  pub read_on : {failed : Bool} {a b c : S} → HasRead s a b false → HasRead s b c failed → HasRead s a c failed
  read_on {failed} v w = record {
    count = w.count ∙ ap (λ (n : ℕ). count_after failed n) v.count;
    lengths = w.lengths ∙ v.lengths;
    table = w.table ∙ v.table;
    earlier = λ file_system agrees. v.earlier file_system (w.earlier file_system agrees);
  }

  -- an answer that is read after others
  pub answer_on : {A E : Type 0} {a b c : S} {r : Result A E} {Q : A → Type 0} {P : Table → A → Type 0} → HasRead s a b false →
      IsAnswer s b c r Q P → IsAnswer s a c r Q P
  answer_on v w = record {
    always = w.always;
    text = λ file_system agrees. rw (v.lengths, v.table) at w.text file_system agrees;
    read = read_on v w.read;
  }

  -- an answer to all of them
  pub answered : {A E : Type 0} {a b : S} {x : A} {Q : A → Type 0} {P : Table → A → Type 0} → Q x → Shows s a b (λ t. P t x) →
      IsAnswer {E = E} s a b (Ok x) Q P
  answered always shows = record { always = always; text = shows.text; read = shows.read }

  -- what follows from an answer
  pub answer_so : {A E : Type 0} {a b : S} {r : Result A E} {Q R : A → Type 0} {P T : Table → A → Type 0} → IsAnswer s a b r Q P →
      ((x : A) → Q x → R x × ((t : Table) → P t x → T t x)) → IsAnswer s a b r R T
  answer_so {a = a} {r = Ok x} w so = record {
    always = (so x w.always).0;
    text = λ file_system agrees held. (so x w.always).1 (s.table a file_system) (w.text file_system agrees held);
    read = w.read;
  }
  answer_so {r = Err e} w so = record { always = tt; text = λ file_system agrees held. tt; read = w.read }

  -- what is so over the tables of the first source is so over those of the last
  pub shown_new : {a b : S} {P : Table → Type 0} → Shows s a b P → Shows s b b P
  shown_new shows = record {
    read = not_read;
    text = λ file_system agrees. rw (shows.read.lengths, shows.read.table) (shows.text file_system agrees);
  }

  -- spans of a cord that fits fit
  pub span_fits : {a b : S} {c : Option Node} {place : ℕ} {span : Span} → HasRead s a b false → IsSpanOf c place span →
      CordFitsIn (s.lengths a) c → SpanFitsIn (s.lengths b) span
  span_fits {a = a} v h fits = rw v.lengths (h.fits (s.lengths a) fits)

  -- what was shown is so where each text is as long as was reported
  pub shown_over : {a b : S} {P : Table → Type 0} → Shows s a b P → ReportsLengths s → (file_system : FileSystem) →
      s.consistent b file_system → P (s.table a file_system)
  shown_over {a = a} shows reported file_system agrees =
      shows.text file_system agrees (record { lens = reported a file_system (shows.read.earlier file_system agrees) })

  -- what holds of each table
  pub shown : {a b : S} {R : Table → Type 0} → HasRead s a b false → ((t : Table) → IsReported (s.lengths a) t → R t) → Shows s a b R
  shown {a = a} read all = record { read = read; text = λ file_system agrees. all (s.table a file_system) }

  -- what follows from what was shown
  pub shown_so : {a b : S} {P R : Table → Type 0} → Shows s a b P → ((t : Table) → IsReported (s.lengths a) t → P t → R t) → Shows s a b R
  shown_so {a = a} shows so = record {
    read = shows.read;
    text = λ file_system agrees held. so (s.table a file_system) held (shows.text file_system agrees held);
  }

  -- with an answer
  pub shown_once : {A E : Type 0} {a b : S} {x : A} {Q : A → Type 0} {T : Table → A → Type 0} {R : Table → Type 0} →
      IsAnswer {E = E} s a b (Ok x) Q T → ((t : Table) → IsReported (s.lengths a) t → T t x → R t) → Shows s a b R
  shown_once w so = shown_so (record { read = w.read; text = w.text }) so

  -- with one more
  pub shown_on : {A E : Type 0} {a b c : S} {x : A} {Q : A → Type 0} {T : Table → A → Type 0} {P R : Table → Type 0} → Shows s a b P →
      IsAnswer {E = E} s b c (Ok x) Q T → ((t : Table) → IsReported (s.lengths a) t → P t → T t x → R t) → Shows s a c R
  shown_on {a = a} shows w so = let on = answer_on shows.read w in record {
    read = on.read;
    text = λ file_system agrees held. so (s.table a file_system) held (shows.text file_system (w.read.earlier file_system agrees) held)
        (on.text file_system agrees held);
  }

  -- and with two
  pub shown_by : {A B E F : Type 0} {a b c d : S} {x : A} {y : B} {Q : A → Type 0} {V : B → Type 0} {T : Table → A → Type 0}
      {U : Table → B → Type 0} {P R : Table → Type 0} → Shows s a b P → IsAnswer {E = E} s b c (Ok x) Q T → IsAnswer {E = F} s c d (Ok y) V U →
      ((t : Table) → IsReported (s.lengths a) t → P t → T t x → U t y → R t) → Shows s a d R
  shown_by {x = x} {T = T} {P = P} shows v w so =
      shown_on (shown_on {R = λ t. P t × T t x} shows v (λ t held p q. (p, q))) w (λ t held both. so t held both.0 both.1)
