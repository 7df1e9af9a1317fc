-- A `&` to a mark is made of a new name, and of a borrow that the thread's token opens at that name. Assumes `Logic`.
use mathlib.Core.List.{[], ◌∷◌}
use base.Fraction.{full_share}
use base.Logic.{via}
use base.Fml.{GName, Fml, fbor, fsep}
use types.Logic.{lfts}
use types.Kit.{‵, raw, later, some, ◌$◌, ◌∵◌, !, qed, move, use0, use1, await, pick, updating, now, fjoin, fpack, done}
use types.Na.{na_bor, bor_na}
use types.Owned.{own_new, basic}
use denote.Memory.{part_at, part_of}
use denote.Sharing.{said, beside}
use denote.SharingLaws.{some_shr_laws, beside_shr_laws}
use denote.Hidden.{guarded, guarded_shr_laws}
use Rattle.cord_mark.specs.inner.Ownership.{reporting, reported}
use Rattle.cord_mark.proofs.Reported.{reported_shr_laws}
use Rattle.cord_mark.specs.contracts.mark.Mark as C
use Rattle.cord_mark.proofs.mark.Mark.TheLaw.Statement.{statement}

pub shares : statement
unfolding part_of
shares = record {
  shr_laws = λ d b o.
      let P : Fml = part_at C.the_written full_share d b o in
      some_shr_laws GName (λ γ. beside (said (reported γ d b o)) (guarded (γ, 0) P)) (λ γ.
      beside_shr_laws (said (reported γ d b o)) (guarded (γ, 0) P) (reported_shr_laws γ d b o) (guarded_shr_laws (γ, 0) P));
  shares = λ M 𝓤 𝓛 d κ ts b o inc sp.
      let P : Fml = part_at C.the_written full_share d b o in
      qed 𝓛 (‵ (fbor κ P) ∷ raw (lfts 𝓛 ts) ∷ []) ∵ updating ! $
      use0 𝓛 (later (some (λ (γ : GName). ‵ (reported γ d b o)))) (via 𝓤 _ (own_new 𝓛 reporting (d, (b, o))) (basic 𝓛 _)) $ await ! tt $
      pick !
      (λ γ. move ! (1 ∷ []) $
      use1 𝓛 (later (‵ (na_bor κ (γ, 0) P))) (bor_na 𝓛 κ (γ, 0) P) $ await ! tt $ move ! (1 ∷ 0 ∷ []) $ fjoin ! $
      fpack ! GName (λ (g : GName). fsep (reported g d b o) (na_bor κ (g, 0) P)) γ $ now ! $ done !);
}
