-- Texts among the arguments of a print, as cords.
use Rattle.std.proofs.Common.{◌≡◌, ◌≢◌, ◌<◌, ℕ, List, [], ◌∷◌, ◌++◌, Option, None, length, map, refl, sym, ap, ◌∙◌, subst}
use Rattle.std.proofs.lemmas.List.{map_push}
use Rattle.cord_io.specs.Table.{Table, Lengths}
use Rattle.cord_node.specs.declared.Node.{Node}
use Rattle.cord_node.specs.Tree.{known}
use Rattle.cord_node.specs.Tables.{lengths_of, byte_at}
use Rattle.cord_core.specs.Equations.{HasText}
use Rattle.cord_core.proofs.OverLemmas.{bytes-text}
use Rattle.cord_printf.specs.declared.arguments.Arg.{Arg}
use Rattle.cord_printf.specs.declared.arguments.Arg.TheVariants as cords
use Rattle.cord_printf.specs.declared.errors.PrintError.{PrintError}
use Rattle.cord_printf.specs.declared.errors.PrintError.TheVariants.{WrongArgs, Negative, BadByte, TooLong, NoMemory}
use Rattle.cord_printf.specs.declared.pieces.Piece.{Piece}
use Rattle.cord_printf.specs.PieceText.{number, text, kind_of, printed, first_refusal}
use Rattle.cord_printf.specs.inner.PieceText.{map_argument}
use Rattle.cord_printf.specs.Printing.{arguments_of}
use Rattle.cord_printf.specs.Printing as on_cells
use Rattle.cord_printf.specs.Over.{ArgumentsFitIn, argument_over, IsPrintOf}
use Rattle.cord_printf.proofs.Natural.{kinds-map, first_refusal-map}
use Rattle.cord_printf.proofs.Tables.{length_of_print}
use Rattle.cord.specs.declared.print.TextArg.{TextArg}
use Rattle.cord.specs.Plain.{no_table}
use Rattle.cord.specs.Prints.{piece_argument, piece_arguments, print_of, AreWanted, IsRefusedFor}
use Rattle.cord.specs.inner.Prints.{IsArgumentFor, AreArgumentsFor}

pub none_made : AreArgumentsFor [] []
none_made = record { fits = λ ls. tt; bytes = λ t. refl }

fit_both : (ls : Lengths) (xs ys : List Arg) → ArgumentsFitIn ls xs → ArgumentsFitIn ls ys → ArgumentsFitIn ls (xs ++ ys)
fit_both ls [] ys f g = g
fit_both ls (cords.Num n ∷ xs) ys f g = fit_both ls xs ys f g
fit_both ls (cords.Cord c ∷ xs) ys f g = (f.0, fit_both ls xs ys f.1 g)

-- one argument more
pub one_made : (args : List TextArg) (arg : TextArg) (xs : List Arg) (x : Arg) → AreArgumentsFor args xs → IsArgumentFor arg x →
    AreArgumentsFor (args ++ arg ∷ []) (xs ++ x ∷ [])
one_made args arg xs x a i = record {
  fits = λ ls. fit_both ls xs (x ∷ []) (a.fits ls) (i.fits ls);
  bytes = λ t. map_push (argument_over t) xs x ∙ (rw (a.bytes t, i.bytes t) (sym (map_push piece_argument args arg)));
}

-- a text as a cord
pub text_made : (arg : TextArg) (b : List ℕ) (x c : Option Node) → piece_argument arg ≡ text b → HasText b x → c ≡ x →
    IsArgumentFor arg (cords.Cord c)
text_made arg b x c g h e = rw e (record { fits = λ ls. (h.fits ls, tt); bytes = λ t. ap (λ y. text y) (h.bytes t) ∙ sym g })

-- the cells of the cords become the bytes of the texts
cells_over : (t : Table) (xs : List Arg) → ArgumentsFitIn (lengths_of t) xs → map (map_argument (byte_at t)) (arguments_of xs)
    ≡ map (argument_over t) xs
cells_over t [] f = refl
cells_over t (cords.Num n ∷ xs) f = ap (λ ys. number n ∷ ys) (cells_over t xs f)
cells_over t (cords.Cord c ∷ xs) f =
    let first = ap (λ y. text y) (sym (bytes-text t c f.0)) in
    let rest = cells_over t xs f.1 in
    cc (first, rest)

module _ (pieces : List Piece) (args : List TextArg) (made : List Arg) (a : AreArgumentsFor args made) where
  as_given : map (map_argument (byte_at no_table)) (arguments_of made) ≡ piece_arguments args
  as_given = cells_over no_table made (a.fits (lengths_of no_table)) ∙ a.bytes no_table

  kinds : map kind_of (arguments_of made) ≡ map kind_of (piece_arguments args)
  kinds = sym (kinds-map (byte_at no_table) (arguments_of made)) ∙ ap (map kind_of) as_given

  refusals : first_refusal 0 pieces (arguments_of made) ≡ first_refusal 0 pieces (piece_arguments args)
  refusals = sym (first_refusal-map (byte_at no_table) 0 pieces (arguments_of made)) ∙ ap (first_refusal 0 pieces) as_given

  lengths : length (printed known pieces (arguments_of made)) ≡ length (print_of pieces args)
  lengths = length_of_print pieces made _ refl no_table (a.fits (lengths_of no_table)) ∙ ap (λ ys. length (printed (λ b. b) pieces ys))
      (a.bytes no_table)

  -- the print of the cords is that of the texts
  pub print_has : (c : Option Node) → IsPrintOf pieces made c → HasText (print_of pieces args) c
  print_has c p = record {
    fits = λ ls. p.fits ls (a.fits ls);
    bytes = λ t. p.bytes t (a.fits (lengths_of t)) ∙ ap (printed (λ b. b) pieces) (a.bytes t);
  }

  pub wanted_alike : on_cells.AreWanted pieces (arguments_of made) → AreWanted pieces args
  wanted_alike w = sym kinds ∙ w

  pub taken_alike : first_refusal 0 pieces (arguments_of made) ≡ None → first_refusal 0 pieces (piece_arguments args) ≡ None
  taken_alike n = sym refusals ∙ n

  -- and is refused for the same reason
  pub refused_alike : (limit : ℕ) (e : PrintError) → (e ≢ NoMemory → on_cells.IsRefusedFor limit pieces (arguments_of made) e) →
      IsRefusedFor limit pieces args e
  refused_alike limit WrongArgs r = λ w. r (λ h. cc) (kinds ∙ w)
  refused_alike limit (Negative k) r = let p = r (λ h. cc) in (sym kinds ∙ p.0, sym refusals ∙ p.1)
  refused_alike limit (BadByte k) r = let p = r (λ h. cc) in (sym kinds ∙ p.0, sym refusals ∙ p.1)
  refused_alike limit TooLong r = let p = r (λ h. cc) in (sym kinds ∙ p.0, sym refusals ∙ p.1, subst (λ n. limit < n) lengths p.2)
  refused_alike limit NoMemory r = tt
