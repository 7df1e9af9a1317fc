use Rattle.cord_search.proofs.Common.{ap, arith, length_at, rules, span_len, ◌+◌, ◌≡◌, ◌≤◌}
use Rattle.cord_search.proofs.Lemmas.{answered, func_part, leaf_part, not_read, nothing, run_part, shown}
use Rattle.std.proofs.lemmas.Result.{IfOk-weaker}
use Rattle.cord_search.proofs.pieces.copy_prefix.Goals as goal

pub returns-in-Bytes : goal.returns-in-Bytes
returns-in-Bytes g c = answered tt (shown not_read (λ t held. leaf_part t c.copy_from_slice.new.self _ c.in-Bytes.is c.copy_from_slice.ensures.after))

pub returns-in-Run : goal.returns-in-Run
returns-in-Run g c = answered tt (shown not_read (λ t held. run_part t c.fill.new.self 0 _ c.in-Run.is (omega (arith, c.requires.inside))
    (c.fill.ensures.after (λ y e. e))))

pub read-requires : goal.read-requires
read-requires g c =
    let held = c.requires.fits in
    let whole : span_len c.args.span ≡ c.in-Func.len = ap span_len c.in-Func.is in
    let inside : c.in-Func.start + c.in-Func.len ≤ length_at (g.S.Source.lengths c.args.src.now) c.in-Func.id.0 =
    (rw c.in-Func.is at held).0 in
    search (rules, whole, inside)

pub returns-in-Func : goal.returns-in-Func
returns-in-Func g c = record {
  always = nothing c.read.result;
  text = λ file_system agrees held. IfOk-weaker c.read.result _ _ (λ _ e. func_part (g.S.Source.table c.args.src.now file_system) c.read.new.out
      c.in-Func.start 0 c.in-Func.is (omega arith) (omega (arith, c.requires.inside, c.read.auto.out)) e) (c.read.ensures.bytes file_system agrees);
  read = search rules;
}
