-- The codes that calls give.
use Rattle.std.specs.Prelude.{◌≡◌, ◌⊎◌, ℤ}
use Rattle.cord_c.specs.declared.code.TheConstants.{OK, TOO_LONG, NO_MEMORY}

-- the call did what it is for, or was refused as too long or as out of memory
abbrev pub MayBeTooLong : ℤ → Type 0
MayBeTooLong c = (c ≡ OK) ⊎ (c ≡ TOO_LONG) ⊎ (c ≡ NO_MEMORY)

-- the call did what it is for, or was refused when out of memory
abbrev pub MayLackMemory : ℤ → Type 0
MayLackMemory c = (c ≡ OK) ⊎ (c ≡ NO_MEMORY)
