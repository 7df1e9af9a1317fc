use Rattle.std.proofs.Common.{◌≡◌, ℕ, List, ◌++◌, subst}
use Rattle.std.specs.Prelude.{OnOk}
use Rattle.std.specs.declared.result.Result.{Result}
use Rattle.cord.proofs.Meanings.{means_range}
use Rattle.examples.proofs.assembler.assemble.write_range.Goals as goal

written : {T E : Type 0} (r : Result T E) (old new xs ys : List ℕ) → xs ≡ ys → OnOk r (new ≡ old ++ xs) → OnOk r (new ≡ old ++ ys)
written r old new xs ys e h = subst (λ (zs : List ℕ). OnOk r (new ≡ old ++ zs)) e h

pub put-requires : goal.put-requires
put-requires g c = record { fits = c.in_ok-range.ensures.over.fits (g.S.Source.lengths c.args.src.now) c.in_ok-text.ensures.fits }

pub returns : goal.returns
returns g c file_system agrees =
    let mean = means_range (g.S.Source.lengths c.args.src.now) _ _ _ _ _ c.in_ok-text.ensures c.in_ok-range.ensures.over in
    written _ _ _ _ _ (mean.text _
    (g.met.S.Source.lengths_of_table c.args.src.now file_system (c.put.ensures.source.earlier file_system agrees)))
    (c.put.ensures.text file_system agrees)
