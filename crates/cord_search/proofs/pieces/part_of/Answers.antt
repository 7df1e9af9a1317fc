use Rattle.cord_search.proofs.Common.{ap, arith, length, length-take-le, length_at, rules, span_len, take, ◌+◌, ◌∙◌, ◌≡◌, ◌≤◌}
use Rattle.cord_search.proofs.Lemmas.{answered, func_part, not_read, of_source, run_part, shown}
use Rattle.cord_search.proofs.pieces.part_of.Goals as goal

pub read-requires : goal.read-requires
read-requires g c =
    let lengths = g.S.Source.lengths c.args.src.now in
    let held = c.requires.fits in
    let whole : span_len c.args.span ≡ c.in-Func.len = ap span_len c.in-Func.is in
    let cut = length-take-le c.args.count c.args.buffer.now c.requires.room in
    let inside : c.in-Func.start + c.in-Func.len ≤ length_at lengths c.in-Func.id.0 = (rw c.in-Func.is at held).0 in
    record {
      inside = of_source lengths c.in-Func.id.0 (c.in-Func.start + c.args.from + length (take c.args.count c.args.buffer.now))
          (omega (arith, cut, c.requires.some)) (omega (arith, cut, whole, inside, c.requires.inside));
    }

pub returns-in-Run : goal.returns-in-Run
returns-in-Run g c =
    let cut = length-take-le c.args.count c.args.buffer.now c.requires.room in
    answered (omega (arith, cut, c.fill.ensures.len)) (shown not_read (λ t held. run_part t c.fill.new.self c.args.from
    (length (take c.args.count c.args.buffer.now)) c.in-Run.is (omega (arith, cut, c.requires.inside)) (c.fill.ensures.after (λ y e. e))))

pub returns-in_ok-read-in-Func : goal.returns-in_ok-read-in-Func
returns-in_ok-read-in-Func g c =
    let out = c.read.new.out in
    let long : length out ≡ c.args.count = c.read.auto.out ∙ length-take-le c.args.count c.args.buffer.now c.requires.room in
    record {
      always = long;
      text = λ file_system agrees held. func_part (g.S.Source.table c.args.src.now file_system) out (c.in-Func.start + c.args.from) c.args.from
          c.in-Func.is (omega arith) (omega (arith, long, c.requires.inside)) (c.in_ok-read-in-Func.ensures.bytes file_system agrees);
      read = search rules;
    }
