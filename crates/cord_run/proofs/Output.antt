-- Cords that a sink is handed one after another.
use Rattle.cord_run.proofs.Common.{ℕ, zero, suc, true, List, [], length, take, drop, get_or, Result, Ok, Err, refl, sym, ap, subst, ◌∙◌}
use Rattle.cord_run.proofs.Common.{append-nil, arith, Option, take_all, Table, Lengths, HasLengths, MAX_LEN, CordError, Node, bytes_of}
use Rattle.cord_run.proofs.Common.{all_bytes, CordFitsIn, AllFitIn, FailureCounts, CountsFaults, IsPrefixOf, Takes, FaultKind, Expr}
use Rattle.cord_run.proofs.Common.{all_texts, cords, text_in, Stop, Entry, IsOver, holding_of, plain_of, CountsStops, PutsText, Wrote}
use Rattle.cord_run.proofs.Common.{stop_of_cord, Some, AreWhole, IsUnbuilt, ◌≡◌, ◌+◌, ◌<◌, ◌≤◌, ◌∷◌, ◌++◌}
use Rattle.cord_io.specs.declared.faults.CordError.TheVariants.{NoMemory, TooLong, ReadFailed, WriteFailed}
use Rattle.cord_io.specs.declared.writing.Sink as sinks
use Rattle.cord_iter.proofs.Takes.{appends_both, prefix_join, prefix_more}
use Rattle.cord_plan.proofs.Writing.{AreJoined, joined_next, joined_all}
use Rattle.cord_run.specs.declared.stops.Stop.TheVariants as stops
use Rattle.cord_run.proofs.Tables.{over_reported}

-- each of them fits
pub fits_at : (lengths : Lengths) (ps : List (Option Node)) (i : ℕ) (d : Option Node) → AllFitIn lengths ps → i < length ps →
    CordFitsIn lengths (get_or ps i d)
fits_at lengths [] i d all h = absurd (omega (arith, h))
fits_at lengths (p ∷ ps) zero d all h = all.0
fits_at lengths (p ∷ ps) (suc i) d all h = fits_at lengths ps i d all.1 (omega (arith, h))

pieces_joined : (t : Table) → AreJoined (λ (ps : List (Option Node)). all_bytes t ps) (λ (p : Option Node). bytes_of t p)
pieces_joined t = record { nil = refl; cons = λ p ps. refl }

-- none yet
pub puts_none : (t : Table) (ps : List (Option Node)) (a : List ℕ) → a ≡ a ++ all_bytes t (take 0 ps)
puts_none t ps a = sym (append-nil a)

module _ (t : Table) (ps : List (Option Node)) (i : ℕ) (p : Option Node) (inside : i < length ps) (is : p ≡ get_or ps i p) (a b c : List ℕ)
    (so_far : b ≡ a ++ all_bytes t (take i ps)) where
  abbrev prefix : List ℕ
  prefix = all_bytes t (take i ps)

  next : all_bytes t (take (i + 1) ps) ≡ prefix ++ bytes_of t p
  next = joined_next (λ (qs : List (Option Node)). all_bytes t qs) (λ (q : Option Node). bytes_of t q) ps i p (pieces_joined t) inside
      ∙ ap (λ (q : Option Node). prefix ++ bytes_of t q) (sym is)

  -- one more
  pub puts_next : c ≡ b ++ bytes_of t p → c ≡ a ++ all_bytes t (take (i + 1) ps)
  puts_next took = appends_both a b c prefix (bytes_of t p) so_far took ∙ ap (λ (u : List ℕ). a ++ u) (sym next)

  -- the next was not taken whole
  pub puts_cut : Takes (IsPrefixOf (bytes_of t p)) b c → Takes (IsPrefixOf (all_bytes t ps)) a c
  puts_cut took =
      let whole : all_bytes t ps ≡ all_bytes t (take (i + 1) ps) ++ all_bytes t (drop (i + 1) ps) =
      joined_all (λ (qs : List (Option Node)). all_bytes t qs) (λ (q : Option Node). bytes_of t q) ps (i + 1) (pieces_joined t) in
      record {
        out = prefix ++ took.out;
        such = prefix_more (all_bytes t ps) (all_bytes t (take (i + 1) ps)) (all_bytes t (drop (i + 1) ps)) (prefix ++ took.out) whole
            (prefix_join (all_bytes t (take (i + 1) ps)) prefix (bytes_of t p) took.out next took.such);
        taken = appends_both a b c prefix took.out so_far took.taken;
      }

-- all of them
pub puts_all : (t : Table) (ps : List (Option Node)) (i : ℕ) (a b : List ℕ) → length ps ≤ i → b ≡ a ++ all_bytes t (take i ps) →
    b ≡ a ++ all_bytes t ps
puts_all t ps i a b h k = subst (λ (qs : List (Option Node)). b ≡ a ++ all_bytes t qs) (take_all i ps h) k

-- ---- an expression
module _ (entries : List Entry) (e : Expr) (ls : Lengths) (over : IsOver ls entries) (a b : List ℕ) (t : Table) (reported : HasLengths ls t)
    (there : all_texts (holding_of t entries) (cords e) ≡ true) where
  abbrev meant : Result (List ℕ) FaultKind
  meant = text_in MAX_LEN (plain_of t entries) e

  -- that had a fault, or no memory
  pub wrote_nothing : (stop : Stop) → IsUnbuilt entries e stop → b ≡ a → Wrote meant a b (Err stop)
  wrote_nothing (stops.Fault kind) h same = (h t (over_reported ls t reported entries over) there, same)
  wrote_nothing stops.NoMemory h same = same
  wrote_nothing _ h same = absurd h

  -- that was put
  pub wrote_whole : (ps : List (Option Node)) → AreWhole entries e ps → b ≡ a ++ all_bytes t ps → Wrote meant a b (Ok tt)
  wrote_whole ps whole h = (all_bytes t ps, whole.bytes t (over_reported ls t reported entries over) there, h)

  -- that was put in part
  pub wrote_part : (ps : List (Option Node)) (error : CordError) (n m : FailureCounts) → CountsFaults {T = Unit {0}} n m (Err error) →
      AreWhole entries e ps → Takes (IsPrefixOf (all_bytes t ps)) a b → Wrote meant a b (Err (stop_of_cord error))
  wrote_part ps ReadFailed n m faults whole h = (all_bytes t ps, whole.bytes t (over_reported ls t reported entries over) there, h)
  wrote_part ps WriteFailed n m faults whole h = (all_bytes t ps, whole.bytes t (over_reported ls t reported entries over) there, h)
  wrote_part ps NoMemory n m faults whole h = absurd faults
  wrote_part ps TooLong n m faults whole h = absurd faults

-- a failure of a device was counted as such
pub stop_counts : (error : CordError) (n m : FailureCounts) → CountsFaults {T = Unit {0}} n m (Err error) →
    CountsStops n m (Err (stop_of_cord error))
stop_counts ReadFailed n m h = h
stop_counts WriteFailed n m h = h
stop_counts _ n m h = absurd h

-- what was refused counted nothing
pub unbuilt_counts : (entries : List Entry) (e : Expr) (stop : Stop) (n m : FailureCounts) → IsUnbuilt entries e stop → m.source ≡ n.source →
    m.sink ≡ n.sink → CountsStops n m (Err stop)
unbuilt_counts entries e stops.ReadFailed n m h source sink = absurd h
unbuilt_counts entries e stops.WriteFailed n m h source sink = absurd h
unbuilt_counts entries e _ n m h source sink = (source, sink)

-- ---- bytes that were handed over as the text of an expression
module _ {S : Type 0} (s : sinks.Ghosts S) (entries : List Entry) (e : Expr) (old new : S) where
  pub short_wrote : (r : Result (Unit {0}) Stop) → PutsText s entries e old new (Some r) → (t : Table) →
      all_texts (holding_of t entries) (cords e) ≡ true → Wrote (text_in MAX_LEN (plain_of t entries) e) (s.taken old) (s.taken new) r
  short_wrote (Ok x) h t there = (h.0, h.1 t there, h.2.0.ok.0)
  short_wrote (Err stop) h t there =
      subst (λ (k : Stop). Wrote (text_in MAX_LEN (plain_of t entries) e) (s.taken old) (s.taken new) (Err k)) (sym h.2.1)
      (h.0, h.1 t there, h.2.0.err.0)

  pub short_counts : (r : Result (Unit {0}) Stop) → PutsText s entries e old new (Some r) → (n : ℕ) →
      CountsStops (record { source = n; sink = s.failures old }) (record { source = n; sink = s.failures new }) r
  short_counts (Ok x) h n = (refl, h.2.0.ok.1)
  short_counts (Err stop) h n = subst (λ (k : Stop). CountsStops (record { source = n; sink = s.failures old })
      (record { source = n; sink = s.failures new }) (Err k)) (sym h.2.1) (refl, h.2.0.err.1)
