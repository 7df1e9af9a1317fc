-- What a print makes of its own, beside the cords that it is given.
use Rattle.std.specs.Prelude.{ℕ, ◌+◌, ◌-◌, Option, Some, List, [], ◌∷◌, ◌++◌, length, ⊤}
use Rattle.cord_node.specs.Tree.{Cell, known}
use Rattle.cord_node.specs.PartsFrom.{Part, leaf_part, run_part, func_part}
use Rattle.cord_core.specs.Cord.{parts_of}
use Rattle.cord_ec.specs.Gathered.{IsGathered, MadeOf}
use Rattle.cord_printf.specs.declared.arguments.Arg.{Arg}
use Rattle.cord_printf.specs.declared.arguments.Arg.TheVariants as arguments
use Rattle.cord_printf.specs.declared.pieces.Piece.{Piece}
use Rattle.cord_printf.specs.declared.pieces.Piece.TheVariants.{Cord}
use Rattle.cord_printf.specs.Pieces.{wants}
use Rattle.cord_printf.specs.PieceText.{PieceArgument, text, cut, piece_text, argument_if, others_if}

-- the parts of an argument, where it is a cord
abbrev pub argument_parts : Arg → List Part
argument_parts (arguments.Num n) = []
argument_parts (arguments.Cord c) = parts_of c

-- the parts of the cords among the arguments, from left to right
abbrev pub arguments_parts : List Arg → List Part
arguments_parts [] = []
arguments_parts (a ∷ args) = argument_parts a ++ arguments_parts args

-- the text that a piece takes from a cord
abbrev pub taken_text : Piece → Option (PieceArgument Cell) → List Cell
taken_text (Cord flags width precision) (Some (text x)) = cut precision x
taken_text _ _ = []

-- how many bytes of a piece's text are its own: all but those that it takes from a cord
abbrev pub own_bytes : Piece → Option (PieceArgument Cell) → ℕ
own_bytes p a = length (piece_text known p a) - length (taken_text p a)

-- the same of all pieces together
abbrev pub all_own : List Piece → List (PieceArgument Cell) → ℕ
all_own [] args = 0
all_own (p ∷ pieces) args = own_bytes p (argument_if (wants p) args) + all_own pieces (others_if (wants p) args)

-- a part that holds a print's own bytes: a leaf that a buffer was made into, or a run
abbrev pub IsPrinted : Part → Type 0
IsPrinted (leaf_part bytes start len) = IsGathered (leaf_part bytes start len)
IsPrinted (run_part byte len) = ⊤
IsPrinted (func_part id start len) = ⊥

-- no more parts than these and one for each byte of a print's own, and each is such a part or a range of one of these
abbrev pub IsPrintedFrom : ℕ → List Part → List Part → Type 0
IsPrintedFrom own old new = MadeOf IsPrinted own old new
