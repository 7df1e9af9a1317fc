-- What records come to.
use Rattle.std.specs.Prelude.{ℕ, ◌*◌, ◌/◌, ◌%◌, List, [], ◌∷◌, pos}
use Rattle.cord_printf.specs.PieceText.{PieceArgument, number, text}
use Rattle.examples.specs.declared.report.record.Record.{Record}

-- the amount of a record, in cents
abbrev pub amount_of : Record → ℕ
amount_of r = r.count * r.price

-- what the format of a row is given: the name, the count, and the price and the amount, each as whole ones and hundredths
abbrev pub row_arguments : Record → List (PieceArgument ℕ)
row_arguments r =
    let amount = amount_of r in
    text r.name.now ∷ number (pos r.count) ∷ number (pos (r.price / 100)) ∷ number (pos (r.price % 100))
    ∷ number (pos (amount / 100)) ∷ number (pos (amount % 100)) ∷ []
