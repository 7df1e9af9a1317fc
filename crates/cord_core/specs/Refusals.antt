-- Why a call on cords is refused.
use Rattle.std.specs.Prelude.{⊤}
use Rattle.cord_io.specs.declared.CordError.{CordError}
use Rattle.cord_io.specs.declared.CordError.TheVariants.{NoMemory, TooLong, ReadFailed, WriteFailed}

-- a call that touches no device is refused when out of memory or as too long
abbrev pub IsRefusal : CordError → Type 0
IsRefusal NoMemory = ⊤
IsRefusal TooLong = ⊤
IsRefusal ReadFailed = ⊥
IsRefusal WriteFailed = ⊥
