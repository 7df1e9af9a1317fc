-- The sources of a table that are functions: `digits` is number 0, `bytes` number 1.
use Rattle.std.proofs.Common.{ℕ, ◌-◌, zero, suc, [], Some, None, length, refl}
use Rattle.cord_io.specs.Table.{Table, Lengths, HasLengths}
use Rattle.cord_io.specs.declared.TheConstants.{MAX_LEN}
use Rattle.cord_io.specs.FunctionTexts.{digit_at, byte_value_at, digits, byte_values, length-text_of}

-- the byte at a place of a source that is a function: `digits` is number 0, `bytes` number 1
abbrev pub function_byte : ℕ → ℕ → ℕ
function_byte zero i = digit_at i
function_byte (suc id) i = byte_value_at i

-- the lengths of these sources
abbrev pub function_lengths : Lengths
function_lengths zero = Some MAX_LEN
function_lengths (suc zero) = Some MAX_LEN
function_lengths (suc (suc id)) = None

-- the texts of these sources
abbrev pub function_texts : Table
function_texts zero = digits MAX_LEN
function_texts (suc zero) = byte_values MAX_LEN
function_texts (suc (suc id)) = []

-- the sources that are functions are as long as is reported
pub lengths_of_functions : HasLengths function_lengths function_texts
lengths_of_functions zero = length-text_of digit_at MAX_LEN
lengths_of_functions (suc zero) = length-text_of byte_value_at MAX_LEN
lengths_of_functions (suc (suc id)) = refl
