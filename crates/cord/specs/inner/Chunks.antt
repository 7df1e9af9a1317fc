-- What is left of a text that is gone over chunk by chunk.
use Rattle.std.specs.Prelude.{◌+◌, ℕ, List, [], take, drop, Option, Some, None}
use Rattle.cord_node.specs.declared.Node.{Node}
use Rattle.cord.specs.Plain.{plain_bytes}

-- the bytes from an index of the cord on, and none where there is no index
abbrev pub left_from : Option Node → Option ℕ → List ℕ
left_from c None = []
left_from c (Some i) = drop i (plain_bytes c)

-- the bytes up to an index, with the one there, and none where there is no index
abbrev pub left_to : Option Node → Option ℕ → List ℕ
left_to c None = []
left_to c (Some i) = take (i + 1) (plain_bytes c)
