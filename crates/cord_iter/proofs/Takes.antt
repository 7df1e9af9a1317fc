-- What a sink took in several calls, one after the other.
use Rattle.cord_iter.proofs.Common.{Cat', Err, FileSystem, Global, IsErr, IsSound, List, Node, Ok, OnErr, Part, Puts, Rc, Result, Table, [], ap}
use Rattle.cord_iter.proofs.Common.{append_assoc, arith, bytes_over, drop, false≢true, len_of, length, length-append, on_err_weaker, raised, refl}
use Rattle.cord_iter.proofs.Common.{replicate, replicate-append-replicate, sym, take, take-append-drop, take-replicate, ℕ, ◌++◌, ◌+◌, ◌-◌, ◌∙◌, ◌≡◌}
use Rattle.cord_iter.proofs.Common.{◌≤◌}
use Rattle.std.proofs.Common.{append-nil}
use Rattle.std.proofs.lemmas.Result.{on_ok_weaker}
use Rattle.std.specs.Result.{IsErrAnd, OnOk}
use Rattle.cord_io.specs.declared.faults.CordError.{CordError}
use Rattle.cord_io.specs.declared.faults.CordError.TheVariants.{NoMemory, ReadFailed, TooLong, WriteFailed}
use Rattle.cord_iter.proofs.Cuts.{IsSplit, left_both}
use Rattle.cord_iter.proofs.Walks.{run_split}
use Rattle.cord_iter.specs.Output.{CountsFaults, FailureCounts, IsPrefixOf, Takes, Writes, failures_of}
use Rattle.cord_iter.specs.inner.Output.{IsPrefixOver, IsTextRead}
use Rattle.cord_io.specs.declared.sources.Source as sources
use Rattle.cord_io.specs.declared.writing.Sink as sinks

-- bytes after bytes
pub appends_both : (a b c x y : List ℕ) → b ≡ a ++ x → c ≡ b ++ y → c ≡ a ++ (x ++ y)
appends_both a b c x y h k = k ∙ ap (λ (l : List ℕ). l ++ y) h ∙ append_assoc a x y

-- two calls, one after the other
pub takes_both : {P Q R : List ℕ → Type 0} {a b c : List ℕ} → Takes P a b → Takes Q b c → ((x y : List ℕ) → P x → Q y → R (x ++ y)) →
    Takes R a c
takes_both {P} {Q} {R} {a} {b} {c} s t h = record {
  out = s.out ++ t.out;
  such = h s.out t.out s.such t.such;
  taken = appends_both a b c s.out t.out s.taken t.taken;
}

-- bytes of which one thing holds and so another
pub takes_such : {P Q : List ℕ → Type 0} {a b : List ℕ} → Takes P a b → ((x : List ℕ) → P x → Q x) → Takes Q a b
takes_such s h = record { out = s.out; such = h s.out s.such; taken = s.taken }

-- a first part, and a prefix of what is after it
pub prefix_join : (whole x more y : List ℕ) → whole ≡ x ++ more → IsPrefixOf more y → IsPrefixOf whole (x ++ y)
prefix_join whole x more y h k = (k.0, h ∙ ap (λ (l : List ℕ). x ++ l) k.1 ∙ sym (append_assoc x y k.0))

-- a prefix of a first part
pub prefix_more : (whole first rest x : List ℕ) → whole ≡ first ++ rest → IsPrefixOf first x → IsPrefixOf whole x
prefix_more whole first rest x h k = (k.0 ++ rest, h ∙ ap (λ (l : List ℕ). l ++ rest) k.1 ∙ append_assoc x k.0 rest)

-- the first so many bytes
pub prefix_take : (whole : List ℕ) (n : ℕ) → IsPrefixOf whole (take n whole)
prefix_take whole n = (drop n whole, sym (take-append-drop n whole))

-- no device failed before
faults_on : {T : Type 0} (old mid new : FailureCounts) (r : Result T CordError) → (mid.source ≡ old.source) × (mid.sink ≡ old.sink) →
    CountsFaults mid new r → CountsFaults old new r
faults_on old mid new (Ok x) e h = (h.0 ∙ e.0, h.1 ∙ e.1)
faults_on old mid new (Err ReadFailed) e h = (h.0 ∙ ap raised e.0, h.1 ∙ e.1)
faults_on old mid new (Err WriteFailed) e h = (h.0 ∙ e.0, h.1 ∙ ap raised e.1)
faults_on old mid new (Err NoMemory) e h = h
faults_on old mid new (Err TooLong) e h = h

module _ {S W : Type 0} {s : sources.Ghosts S} {w : sinks.Ghosts W} where
  -- of no bytes none were put
  pub puts_none : {text : Table → List ℕ} {old : S} {a : W} → ((t : Table) → [] ≡ text t) → Puts s w 0 text old old a a (Ok tt)
  puts_none {old} {a} is = record {
    took = record {
      out = [];
      such = record { len = refl; whole = λ file_system agrees. is (s.table old file_system) };
      taken = sym (append-nil (w.taken a));
    };
    prefix = tt;
    faults = (refl, refl);
    source = record { lengths = refl; table = refl; earlier = λ file_system agrees. agrees };
    finished = refl;
  }

  module _ {n : ℕ} {text : Table → List ℕ} {old new : S} {a b : W} where
    -- what the sink took
    pub put_text : {r : Result (Unit {0}) CordError} → Puts s w n text old new a b r → (file_system : FileSystem) →
        s.consistent new file_system → OnOk r (w.taken b ≡ w.taken a ++ text (s.table old file_system))
    put_text {r = Ok x} puts file_system agrees = puts.took.taken ∙ ap (λ out. w.taken a ++ out) (puts.took.such.whole file_system agrees)
    put_text {r = Err e} puts file_system agrees = tt

    pub put_len : {r : Result (Unit {0}) CordError} → Puts s w n text old new a b r →
        OnOk r (Takes (λ out. length out ≡ n) (w.taken a) (w.taken b))
    put_len {r = Ok x} puts = takes_such puts.took (λ x is. is.len)
    put_len {r = Err e} puts = tt

    -- and where a device failed
    pub put_prefix : {r : Result (Unit {0}) CordError} → Puts s w n text old new a b r → (file_system : FileSystem) →
        s.consistent new file_system → OnErr r (Takes (IsPrefixOf (text (s.table old file_system))) (w.taken a) (w.taken b))
    put_prefix {r = Ok x} puts file_system agrees = tt
    put_prefix {r = Err e} puts file_system agrees = takes_such puts.prefix (λ x is. is.prefix file_system agrees)

    pub put_most : {r : Result (Unit {0}) CordError} → Puts s w n text old new a b r →
        OnErr r (Takes (λ out. length out ≤ n) (w.taken a) (w.taken b))
    put_most {r = Ok x} puts = tt
    put_most {r = Err e} puts = takes_such puts.prefix (λ x is. is.len)

  module _ {n : ℕ} {text left right : Table → List ℕ} {old : S} (split : IsSplit s old text left right) where
    -- the first part of a text was not put to its end
    pub puts_some : {k : ℕ} {new : S} {a b : W} {e : CordError} {result : Result (Unit {0}) CordError} →
        IsErrAnd result (λ fault. fault ≡ e) → k ≤ n → Puts s w k left old new a b (Err e) → Puts s w n text old new a b result
    puts_some {result = Ok x} is most puts = absurd is
    puts_some {result = Err fault} is most puts = rw is (record {
      took = tt;
      prefix = takes_such puts.prefix (λ x some. record {
        len = omega (arith, some.len, most);
        prefix = λ file_system agrees.
            let t = s.table old file_system in
            prefix_more (text t) (left t) (right t) x (split.parts file_system (puts.source.earlier file_system agrees))
            (some.prefix file_system agrees);
      });
      faults = puts.faults;
      source = puts.source;
      finished = puts.finished;
    })

    -- it was, and then the second part
    pub puts_both : {k l : ℕ} {mid new : S} {a m b : W} {u : Unit {0}} {result : Result (Unit {0}) CordError} → k + l ≡ n →
        Puts s w k left old mid a m (Ok u) → Puts s w l right mid new m b result → Puts s w n text old new a b result
    puts_both {k} {l} {mid} {new} {a} {m} {b} {result} both first second =
        let earlier = (left_both s old mid new first.source second.source).earlier in
        let took : OnOk result (Takes (IsTextRead (s.consistent new) (s.table old) l right) (w.taken m) (w.taken b)) =
        rw first.source.table at second.took in
        let prefix : OnErr result (Takes (IsPrefixOver (s.consistent new) (s.table old) l right) (w.taken m) (w.taken b)) =
        rw first.source.table at second.prefix in
        record {
          took = on_ok_weaker result (λ rest. takes_both first.took rest (λ x y h i. record {
            len = length-append x y ∙ omega (arith, both, h.len, i.len);
            whole = λ file_system agrees.
                rw (h.whole file_system (second.source.earlier file_system agrees), i.whole file_system agrees)
                (sym (split.parts file_system (earlier file_system agrees)));
          })) took;
          prefix = on_err_weaker result (λ rest. takes_both first.took rest (λ x y h i. record {
            len = rw (length-append x y) (omega (arith, both, h.len, i.len));
            prefix = λ file_system agrees.
                let t = s.table old file_system in
                rw (h.whole file_system (second.source.earlier file_system agrees))
                (prefix_join (text t) (left t) (right t) y (split.parts file_system (earlier file_system agrees)) (i.prefix file_system agrees));
          })) prefix;
          faults = faults_on (failures_of s w old a) (failures_of s w mid m) (failures_of s w new b) result first.faults second.faults;
          source = left_both s old mid new first.source second.source;
          finished = second.finished ∙ first.finished;
        }

-- what holds where there is an error
pub on_err : {T E P : Type 0} (r : Result T E) → P → OnErr r P
on_err (Ok x) h = tt
on_err (Err e) h = h

-- a call that failed, after a prefix of the text
pub writes_err : {S E : Type 0} {sink : sinks.Ghosts S} {text : List ℕ} {a b : S} {r : Result (Unit {0}) E} → IsErr r →
    Takes (IsPrefixOf text) (sink.taken a) (sink.taken b) → sink.failures b ≡ raised (sink.failures a) →
    sink.finished b ≡ sink.finished a → Writes sink text a b r
writes_err {r = Ok x} is taken count finished = absurd (false≢true is)
writes_err {r = Err e} is taken count finished = record { ok = tt; err = (taken, count); finished = finished }

-- a prefix of the next bytes of a run
run_prefix : (byte len done count : ℕ) (y : List ℕ) → done + count ≤ len → IsPrefixOf (replicate count byte) y →
    IsPrefixOf (replicate len byte) (replicate done byte ++ y)
run_prefix byte len done count y h k =
    prefix_join (replicate len byte) (replicate done byte) (replicate (len - done) byte) y (run_split byte len done (omega arith))
    (prefix_more (replicate (len - done) byte) (replicate count byte) (replicate (len - done - count) byte) y
    (run_split byte (len - done) count (omega arith)) k)

-- some of a run, and a prefix of the next piece of it
pub run_stopped : (a b c : List ℕ) (byte len done count n : ℕ) → done + count ≤ len → count ≤ n → b ≡ a ++ replicate done byte →
    Takes (IsPrefixOf (take count (replicate n byte))) b c → Takes (IsPrefixOf (replicate len byte)) a c
run_stopped a b c byte len done count n h k s t = record {
  out = replicate done byte ++ t.out;
  such = run_prefix byte len done count t.out h (rw (take-replicate count n byte k) at t.such);
  taken = appends_both a b c (replicate done byte) t.out s t.taken;
}

-- some of a run, and the next piece of it
pub run_more : (a b c : List ℕ) (byte done count n : ℕ) → count ≤ n → b ≡ a ++ replicate done byte →
    c ≡ b ++ take count (replicate n byte) → c ≡ a ++ replicate (done + count) byte
run_more a b c byte done count n k s t = appends_both a b c (replicate done byte) (replicate count byte) s
    (rw (take-replicate count n byte k) at t) ∙ ap (λ (l : List ℕ). a ++ l) (replicate-append-replicate done count byte)

-- the two sides of a concatenation
pub record AreSides {S : Type 0} (s : sources.Ghosts S) (old : S) (l r n : Node) : Type 0 where
  pub len : len_of l + len_of r ≡ len_of n
  pub split : IsSplit s old (λ t. bytes_over t n) (λ t. bytes_over t l) (λ t. bytes_over t r)

pub cat_sides : {S : Type 0} {s : sources.Ghosts S} {old : S} (p : Rc (Unit {0}) Global) (l : Node) (q : Rc (Unit {0}) Global) (r : Node)
    (len depth count : ℕ) (mark : List Part) (n : Node) → n ≡ Cat' mark depth len p l q r count → IsSound n → AreSides s old l r n
cat_sides p l q r len depth count mark n e sound =
    let parts : IsSound (Cat' mark depth len p l q r count) = rw e at sound in
    rw e (record { len = sym parts.2; split = record { parts = λ file_system _. refl } })
