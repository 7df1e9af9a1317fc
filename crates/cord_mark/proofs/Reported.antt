-- A name that tells a mark's parts and place is had twice, and two that are one name tell the same. Assumes `Logic`.
use Rattle.std.proofs.Common.{◌≡◌, ℕ, List}
use Rattle.std.specs.Coded.{coded×, coded_ℕ}
use Rattle.cord_mark.specs.Part.{Part, coded_parts}
use seplogic.Ra.Ura.{Ura}
use seplogic.Ra.Instances.Ag
use base.SetCodes.{SetCoded-set, coded}
use base.Logic.{ent, sep, snd∗}
use base.Before.{before}
use base.Fml.{GName}
use types.Logic.{Logic, sem}
use types.Owned.{own_glued}
use contract.Monad.{fact, fact_i}
use denote.Sharing.{ShrLaws, said}
use Rattle.cord_mark.specs.inner.Ownership.{MarkedText, reporting, reported}

module _ {M : Type 1} {𝓤 : Ura M} (𝓛 : Logic 𝓤) (γ : GName) where
  pub reported_twice : (parts : List Part) (b o : ℕ) → ent 𝓤 (sem 𝓛 (reported γ parts b o))
      (sep 𝓤 (sem 𝓛 (reported γ parts b o)) (sem 𝓛 (reported γ parts b o)))
  reported_twice parts b o = let t : MarkedText = (parts, (b, o)) in
      𝓛.algebras.own_cut reporting γ t t t (Ag.idem (SetCoded-set (coded (coded× coded_parts (coded× coded_ℕ coded_ℕ)))) t)

  pub reported_same : (s t : List Part) (b o c e : ℕ) → ent 𝓤 (sep 𝓤 (sem 𝓛 (reported γ s b o)) (sem 𝓛 (reported γ t c e)))
      (fact 𝓤 (◌≡◌ {A = MarkedText} (s, (b, o)) (t, (c, e))))
  reported_same s t b o c e = own_glued 𝓛 reporting γ (s, (b, o)) (t, (c, e)) _ (λ u m. fact_i 𝓤 _ _ m.0)

pub reported_shr_laws : (γ : GName) (parts : List Part) (b o : ℕ) → ShrLaws (said (reported γ parts b o))
reported_shr_laws γ parts b o = record {
  contraction = λ M 𝓤 𝓛 κ. reported_twice 𝓛 γ parts b o;
  mono = λ M 𝓤 𝓛 κ' κ. snd∗ 𝓤 (sem 𝓛 (before κ' κ)) (sem 𝓛 (reported γ parts b o));
}
