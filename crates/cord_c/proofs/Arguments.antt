-- Arguments of prints that are read one by one.
use Rattle.std.proofs.Common.{◌≡◌, ℕ, List, get_or, ap}
use Rattle.std.specs.Prelude.{slice_set, if◌then◌else◌, ◌==◌}
use Rattle.std.proofs.Math.Seq.{map-set_same}
use Rattle.cord_printf.specs.PieceText.{number, text}
use Rattle.cord_c.specs.Prints.{piece_arguments, piece_argument}
use Rattle.cord_c.specs.inner.Prints.{texts_in}
use Rattle.cord_c.specs.declared.argument.Argument.{Argument}
use Rattle.cord_c.specs.declared.handle.Handle.{Handle}

module _ (args : List Argument) (i : ℕ) (x : Argument) (h : Handle) where
  -- the argument at a place, with this handle
  abbrev pub held : Argument
  held = record { text = h; number = (get_or args i x).number; is_text = (get_or args i x).is_text }

  -- one with a handle of the same text in place of it
  pub same_arguments : h.text ≡ (get_or args i x).text.text → piece_arguments (slice_set args i held) ≡ piece_arguments args
  same_arguments e = map-set_same piece_argument args i held x
      (ap (λ t. if (get_or args i x).is_text == 0 then number (get_or args i x).number else text t) e)

  pub same_texts : h.text ≡ (get_or args i x).text.text → texts_in (slice_set args i held) ≡ texts_in args
  same_texts e = map-set_same (λ a. a.text.text) args i held x e
