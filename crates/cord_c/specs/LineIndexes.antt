-- The indices of lines that handles own.
use Rattle.cord_lines.specs.Index.{Indexed}
use Rattle.cord_c.specs.Referent.{index_by}
use Rattle.cord_c.specs.declared.line_index.Lines.{Lines}

-- the index of a handle
abbrev pub index_in : Lines → Indexed
index_in x = index_by x.handle.referent
