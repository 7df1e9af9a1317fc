-- What a template means, over a table of sources.
use Rattle.std.specs.Prelude.{ℕ, List}
use Rattle.std.specs.List.{flat_map, repeat}
use Rattle.cord_io.specs.Table.{Table}
use Rattle.examples.specs.declared.assembler.template.Segment.{Segment}
use Rattle.examples.specs.declared.assembler.template.Segment.TheVariants.{Text, File}

-- the bytes of a segment
abbrev pub segment_bytes : Table → Segment → List ℕ
segment_bytes t (Text text) = text.now
segment_bytes t (File id times) = repeat times (t id.0)

-- the bytes of a template: those of its segments in order
abbrev pub meaning : Table → List Segment → List ℕ
meaning t segments = flat_map (segment_bytes t) segments
