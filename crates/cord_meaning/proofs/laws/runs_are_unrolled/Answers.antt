use Rattle.cord_meaning.proofs.Common.{refl, sym, start_state, rules, shape_of}
use Rattle.cord_meaning.proofs.Nesting.{are_parts}
use Rattle.cord_meaning.proofs.Unrolls.{trace_unrolled, end_unrolled}
use Rattle.cord_meaning.proofs.laws.runs_are_unrolled.Goals as goal

pub returns-clause-trace : goal.returns-clause-trace
returns-clause-trace c = λ limit most parts files well. trace_unrolled (rules limit files) most (λ p l s. refl) parts well start_state

pub returns-clause-end : goal.returns-clause-end
returns-clause-end c = λ limit most parts files well. end_unrolled (rules limit files) most (λ p l s. refl) parts well start_state

pub returns-clause-parts : goal.returns-clause-parts
returns-clause-parts c = λ statements nested. let w = are_parts shape_of statements nested in (w.parts, w.well, sym w.is)
