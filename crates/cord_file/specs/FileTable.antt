-- The sources of a table of files: the functions `digits` and `bytes`, and then the opened files.
use Rattle.std.specs.Prelude.{ℕ, zero, suc, List, [], ◌∷◌, Some, None, unwrap_or, slice_get, if◌then◌else◌}
use Rattle.std.specs.Str.{bytes_eq}
use Rattle.std.specs.Option.{option_map}
use Rattle.std.specs.declared.option.Option.{Option}
use Rattle.cord_io.specs.declared.TheConstants.{MAX_LEN}
use Rattle.cord_io.specs.Device.{FileSystem, bytes_at}
use Rattle.cord_io.specs.Table.{Table, Lengths}
use Rattle.cord_io.specs.FunctionTexts.{digits, byte_values}

-- the paths that were opened, each with the length reported, in order: the first is source 2
abbrev pub Opened : Type 0
Opened = List (List ℕ × ℕ)

-- the length of a source
abbrev pub lengths_in : Opened → Lengths
lengths_in opened zero = Some MAX_LEN
lengths_in opened (suc zero) = Some MAX_LEN
lengths_in opened (suc (suc n)) = option_map (λ file. file.1) (slice_get opened n)

-- the text of a source over a file system
abbrev pub table_in : Opened → FileSystem → Table
table_in opened file_system zero = digits MAX_LEN
table_in opened file_system (suc zero) = byte_values MAX_LEN
table_in opened file_system (suc (suc n)) = unwrap_or (option_map (λ file. bytes_at file_system file.0) (slice_get opened n)) []

-- the source of a path, counted from n
abbrev pub id_from : ℕ → Opened → List ℕ → Option ℕ
id_from n [] path = None
id_from n (file ∷ files) path = if bytes_eq file.0 path then Some n else id_from (suc n) files path

-- the source of a path, where it is open
abbrev pub id_in : Opened → List ℕ → Option ℕ
id_in opened path = id_from 2 opened path
