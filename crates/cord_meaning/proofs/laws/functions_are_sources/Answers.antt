use Rattle.cord_meaning.proofs.Common.{MAX_LEN}
use Rattle.cord_io.specs.FunctionTexts.{digit_at, byte_value_at}
use Rattle.cord_meaning.proofs.Prefixes.{prefix_of_text}
use Rattle.cord_meaning.proofs.laws.functions_are_sources.Goals as goal

pub returns-clause-digits : goal.returns-clause-digits
returns-clause-digits c = λ n le. prefix_of_text digit_at MAX_LEN n le

pub returns-clause-bytes : goal.returns-clause-bytes
returns-clause-bytes c = λ n le. prefix_of_text byte_value_at MAX_LEN n le
