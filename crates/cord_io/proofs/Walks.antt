-- What the walks of `src/trace.rt` and `src/tally.rt` make: a struct of which nothing is left at run time. Assumes `Logic`.
use Rattle.std.proofs.Common.{List, [], ◌∷◌, refl}
use seplogic.Ra.Ura.{Ura}
use mir.Val.{Val, vstruct, vnil}
use base.Fml.{ftrue, fsep}
use types.Logic.{Logic}
use types.Kit.{Goal, Step, step, Item, ‵, ◌$◌, fjoin}
use denote.RattleType.{RattleType}
use denote.Steps.{nothing, owned}
use denote.Struct.Struct.{Shape, Struct, Struct-Makes}

-- a struct with no field of the machine
abbrev pub bare : Shape
bare = record { name = []; args = []; types = []; fields = [] }

abbrev pub Bare : RattleType
Bare = Struct bare

-- its one value
abbrev pub bare_val : Val
bare_val = vstruct vnil

-- it is made of nothing, with a part of its own that is empty
pub makes_bare : {M : Type 1} {𝓤 : Ura M} {𝓛 : Logic 𝓤} {K : Type 0} {Γ : List (Item 𝓤)} {G : Goal 𝓤 𝓛.H} → K →
    Step K 𝓛 (‵ (fsep (Bare.own_val tt (bare_val ∷ [])) ftrue) ∷ Γ) G Γ G
makes_bare {𝓛 = 𝓛} t = step (λ rest. nothing t $ owned t Bare _ (Struct-Makes 𝓛 bare tt) tt (bare_val ∷ [])
    (tt, (refl, tt)) $ fjoin t $ rest)
