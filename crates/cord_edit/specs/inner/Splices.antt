-- Texts with others in the place of a range, and the parts that they are made of.
use Rattle.std.specs.Prelude.{◌≡◌, ℕ, ◌+◌, ◌-◌, ◌≤◌, List, ◌++◌, length, map, take, drop, Option}
use Rattle.cord_io.specs.declared.TheConstants.{MAX_LEN}
use Rattle.cord_node.specs.declared.Node.{Node}
use Rattle.cord_node.specs.Tree.{Cell, known}
use Rattle.cord_node.specs.PartsFrom.{AreFrom, PartsFrom}
use Rattle.cord_core.specs.Cord.{text, text_len, parts_of, IsCord}
use Rattle.cord_ec.specs.Gathered.{Growth, Gathered, leaf_parts}

-- a cord, and bytes in one leaf
abbrev pub growth_of : Option Node → Growth
growth_of cord = record { text = text cord; parts = parts_of cord }

abbrev pub leaf_growth : List ℕ → Growth
leaf_growth bytes = record { text = map known bytes; parts = leaf_parts bytes }

-- a text with another one in the place of the bytes from `from` up to `until`, and the parts of both
abbrev pub spliced : ℕ → ℕ → Growth → Growth → Growth
spliced from until middle old = record { text = take from old.text ++ middle.text ++ drop until old.text; parts = old.parts ++ middle.parts }

-- so many bytes may come in the place of these
pub record CanSplice (old : List Cell) (from until len : ℕ) : Type 0 where
  pub order : from ≤ until
  pub inside : until ≤ length old
  pub within_limit : from + len + (length old - until) ≤ MAX_LEN

-- the text of `count` bytes is there now
pub record IsSpliced (from until : ℕ) (middle : Growth) (count : ℕ) (old new : Growth) : Type 0 where
  pub text : new.text ≡ (spliced from until middle old).text
  pub len : length new.text ≡ from + count + (length old.text - until)
  pub gathered : Gathered 1 (spliced from until middle old).parts new.parts

-- a cord of this text, made of its parts and at most so many leaves
pub record IsCordWith (leaves : ℕ) (all : Growth) (cord : Option Node) : Type 0 where
  pub text : text cord ≡ all.text
  pub sound : IsCord cord
  pub gathered : Gathered leaves all.parts (parts_of cord)

-- two cords, one after the other
abbrev pub both_of : Option Node → Option Node → Growth
both_of prefix back = record { text = text prefix ++ text back; parts = parts_of prefix ++ parts_of back }

-- what a text of `len` bytes has up to `from` and from `until` on, as two cords, where at most one part is cut in two
pub record AreHalves (from until len : ℕ) (all : Growth) (first last : Option Node) : Type 0 where
  pub prefix : text first ≡ take from all.text
  pub back : text last ≡ drop until all.text
  pub prefix_sound : IsCord first
  pub back_sound : IsCord last
  pub prefix_len : text_len first ≡ from
  pub back_len : text_len last ≡ len - until
  pub few : length (parts_of first) + length (parts_of last) ≤ length all.parts + 1
  pub prefix_from : AreFrom (parts_of first) all.parts
  pub back_from : AreFrom (parts_of last) all.parts

-- a cord with another one after it, whose parts are no more than theirs
pub record IsLengthened (prefix middle longer : Option Node) : Type 0 where
  pub text : text longer ≡ text prefix ++ text middle
  pub len : text_len longer ≡ text_len prefix + text_len middle
  pub sound : IsCord longer
  pub parts_from : PartsFrom (parts_of prefix ++ parts_of middle) (parts_of longer)

-- three cords joined to one, whose parts are no more than theirs
pub record IsJoined (prefix middle back all : Option Node) : Type 0 where
  pub text : text all ≡ text prefix ++ text middle ++ text back
  pub sound : IsCord all
  pub from_there : AreFrom (parts_of all) (parts_of prefix ++ parts_of middle ++ parts_of back)
  pub few : length (parts_of all) ≤ length (parts_of prefix) + length (parts_of middle) + length (parts_of back)

-- the text is the same one, made of its parts and at most one leaf
pub record StaysText (old new : Growth) : Type 0 where
  pub same : new.text ≡ old.text
  pub stays : Gathered 1 old.parts new.parts
