use Rattle.cord_script.proofs.Common.{length, nil_from_length, arith, inl, refl, sym, subst, eqb-true, Reads, scope_of}
use Rattle.cord_script.proofs.Readings.{reads_line, stops, read_whole, leaves_open, numbered_line, reached, left_found}
use Rattle.cord_script.proofs.parser.parse.Goals as goal

pub returns-then-size-gt-MAX_SCRIPT-clause-first_error : goal.returns-then-size-gt-MAX_SCRIPT-clause-first_error
returns-then-size-gt-MAX_SCRIPT-clause-first_error c = λ n. inl (record { size = omega arith; line = refl; is = refl })

pub returns-in-Err-clause-first_error : goal.returns-in-Err-clause-first_error
returns-in-Err-clause-first_error c = λ n.
    stops c.first_line.result.1.now c.first_line.result.0.now c.in-Err.kind (omega arith) c.lines.invariant.read c.first_line.ensures.first
    (c.in-Err.ensures.first_error n)

pub returns-in-Err-clause-no_memory : goal.returns-in-Err-clause-no_memory
returns-in-Err-clause-no_memory c = λ n.
    reached c.first_line.result.1.now c.first_line.result.0.now (omega arith) (c.in-Err.ensures.no_memory n) c.lines.invariant.read
    c.first_line.ensures.first

pub lines-preserved : goal.lines-preserved
lines-preserved c =
    let new = scope_of c.take_line.new.context in
    record {
      few = omega (arith, c.in_default.ensures.few);
      read = reads_line c.first_line.result.1.now c.first_line.result.0.now new c.take_line.new.statements.items
          c.lines.invariant.read c.first_line.ensures.first c.in_default.ensures.takes;
      numbered = numbered_line c.lines.number c.first_line.result.0.now (scope_of c.lines.context) new c.lines.statements.items
          c.take_line.new.statements.items (omega (arith, c.lines.invariant.read.number)) c.lines.invariant.numbered
          c.in_default.ensures.takes;
    }

pub returns-in-Some-clause-first_error : goal.returns-in-Some-clause-first_error
returns-in-Some-clause-first_error c = λ n.
    leaves_open c.in-Some.refusal.line c.in-Some.refusal.kind _ (omega arith) c.lines.invariant.few
    (nil_from_length c.lines.rest.now (eqb-true (length c.lines.rest.now) 0 (sym c.lines-test.ensures))) c.lines.invariant.read refl
    c.in-Some.ensures

pub returns-in-Some-clause-no_memory : goal.returns-in-Some-clause-no_memory
returns-in-Some-clause-no_memory c = λ n. absurd (left_found _ c.in-Some.refusal.line c.in-Some.refusal.kind c.in-Some.ensures n)

pub returns-clause-reads : goal.returns-clause-reads
returns-clause-reads c =
    subst (Reads c.args.script.now) (sym c.of.ensures)
    (read_whole (omega arith) c.lines.invariant.few
    (nil_from_length c.lines.rest.now (eqb-true (length c.lines.rest.now) 0 (sym c.lines-test.ensures))) c.lines.invariant.read
    c.in_default-open_error.ensures)
