-- Each operation of a plan that meets the conditions does what its statement does.
use Rattle.std.specs.Prelude.{◌≡◌, ◌+◌, ◌⊎◌, ◌++◌, ◌||◌, ◌∷◌, if◌then◌else◌, ◌&&◌, ◌+ℤ◌, ◌-ℤ◌}
use Rattle.cord_plan.proofs.Common.{ℕ, ℤ, pos, Bool, true, false, List, [], length, map, Option, Some, None, Result, Ok, Err, refl, sym, ap}
use Rattle.cord_plan.proofs.Common.{◌∙◌, subst, inl, inr, ⊎_elim, append_assoc, slice_get, bytes_eq, FileSystem, Argument, Numeral}
use Rattle.cord_plan.proofs.Common.{Statement, Let, File, Eager, Lazy, Chars, Nul, FromFn, Cat, Catn, Catc, Substr, Balance, EcToCord}
use Rattle.cord_plan.proofs.Common.{Sprintf, Len, Fetch, Cmp, Ncmp, Str, Chr, Rchr, Assign, Add, Sub, EcInit, EcPut, EcCat, EcStr, Put}
use Rattle.cord_plan.proofs.Common.{Repeat, If, Else, End, FaultKind, Overflow, Straight, State, Outcome, number_value, and_then, as_index}
use Rattle.cord_plan.proofs.Common.{as_byte, as_length, fits_i64, has_number, sets_number, sets_extensible, act, shape_of, byte_of_text}
use Rattle.cord_plan.proofs.Common.{file_text, function_text, piece_argument, format_text, unless_refused, Agree, Expr, run, cat, sub}
use Rattle.cord_plan.proofs.Common.{Exprs, nothing, member, append, preceding, members, read_by, target_of, is_this_name, cord_arguments}
use Rattle.cord_plan.proofs.Common.{assigns, assigns_at, reads_at, NotLive, expr_with, defining, Made, Joined, Literal, OfFile, OfEager}
use Rattle.cord_plan.proofs.Common.{OfLazy, OfFunction, Balanced, OfExtensible, Printed, gives, operation, within, length_of, text_in}
use Rattle.cord_plan.proofs.Common.{gives_text, HaveTexts, Held, Text, Long, Holding, plain, held_text, is_text, all_texts, cords, cords_of}
use Rattle.cord_plan.proofs.Common.{texts_to_build, texts_to_measure, made_text, made_length, keeps, does, Decisions, is_simple}
use Rattle.cord_plan.proofs.Common.{is_simple_at, makes_cord, stands, MeetsConditions}
use Rattle.cord_printf.specs.declared.pieces.Piece.{Piece}
use Rattle.cord_printf.specs.PieceText.{PieceArgument, number, text, printed, first_refusal}
use Rattle.cord_operands.specs.declared.operands.Argument.TheVariants as arguments
use Rattle.cord_plan.specs.Meaning.{opened}
use Rattle.cord_plan.proofs.Keeps.{IsVerbatimButLen, Agrees}
use Rattle.cord_plan.proofs.Values.{within_length}
use Rattle.cord_plan.proofs.DefiningExpressions.{sets_within}
use Rattle.cord_plan.proofs.Evaluation.{In, in_either, plain_number, value_same, extent_is, line_gives, gives_after, function_gives}
use Rattle.cord_plan.proofs.Named.{own_bytes}
use Rattle.cord_plan.proofs.OperationEffects.{built_agrees, measured_agrees, put_agrees, len_agrees, kept_agrees, with_others}
use Rattle.cord_plan.proofs.Invariant.{not_both, has_in, unset_same, Ready, Inv, lengths, inv_set, inv_on, operand, operand_text}

-- ---- what holds of the names of what stands for operands holds of the names of the line's expression
module _ (H : List ℕ → Type 0) where
  abbrev Each : Expr → Type 0
  Each e = (y : List ℕ) → In y (cords e) → H y

  abbrev EachOf : List Expr → Type 0
  EachOf [] = Unit {0}
  EachOf (e ∷ es) = Each e × EachOf es

  cords_append : (es others : Exprs) → cords_of (append es others) ≡ cords_of es ++ cords_of others
  cords_append nothing others = refl
  cords_append (member e es) others = ap (λ (ys : List (List ℕ)). cords e ++ ys) (cords_append es others)
      ∙ sym (append_assoc (cords e) (cords_of es) (cords_of others))

  prefix_cords : (e : Expr) (others : Exprs) (y : List ℕ) → In y (cords_of (preceding e others)) → In y (cords e) ⊎ In y (cords_of others)
  prefix_cords (cat es) others y i = in_either y (cords_of es) (cords_of others)
      (subst (λ (ys : List (List ℕ)). In y ys) (cords_append es others) i)
  prefix_cords e others y i = in_either y (cords e) (cords_of others) i

  members_each : (es : List Expr) → EachOf es → (y : List ℕ) → In y (cords_of (members es)) → H y
  members_each [] a y i = absurd i
  members_each (e ∷ es) a y i = ⊎_elim (λ (m : In y (cords e)). a.0 y m) (λ (m : In y (cords_of (members es))). members_each es a.1 y m)
      (prefix_cords e (members es) y i)

  each_then : (es : List Expr) (e : Expr) → EachOf es → Each e → EachOf (es ++ e ∷ [])
  each_then [] e a b = (b, tt)
  each_then (f ∷ es) e a b = (a.0, each_then es e a.1 b)

  line_each : (l : Statement) (es : List Expr) (e : Expr) → expr_with l es ≡ Some e → EachOf es → Each e
  line_each (Cat line target left right) es e h a = let same : cat (members es) ≡ e = cc in
      subst (λ (w : Expr). Each w) same (λ y i. members_each es a y i)
  line_each (Catn line target parts) es e h a = let same : cat (members es) ≡ e = cc in
      subst (λ (w : Expr). Each w) same (λ y i. members_each es a y i)
  line_each (Catc line target x byte) es e h a =
      let same : cat (members (es ++ run byte (Numeral (pos 1)) ∷ [])) ≡ e = cc in
      subst (λ (w : Expr). Each w) same (λ y i. members_each (es ++ run byte (Numeral (pos 1)) ∷ [])
      (each_then es (run byte (Numeral (pos 1))) a (λ y i. absurd i)) y i)
  line_each (Chars line target byte n) es e h a = let same : run byte n ≡ e = cc in subst (λ (w : Expr). Each w) same (λ y i. absurd i)
  line_each (Nul line target n) es e h a = let same : run (Numeral (pos 0)) n ≡ e = cc in
      subst (λ (w : Expr). Each w) same (λ y i. absurd i)
  line_each (Substr line target x start n) (g ∷ es) e h a = let same : sub g start n ≡ e = cc in
      subst (λ (w : Expr). Each w) same (λ y i. a.0 y i)
  line_each (Put line x) (g ∷ es) e h a = let same : g ≡ e = cc in subst (λ (w : Expr). Each w) same a.0
  line_each l es e h a = let bad : ⊥ = cc in absurd bad

  each_of : (g : List ℕ → Expr) (xs : List (List ℕ)) → ((x : List ℕ) → In x xs → Each (g x)) → EachOf (map g xs)
  each_of g [] a = tt
  each_of g (x ∷ xs) a = (a x (inl refl), each_of g xs (λ y i. a y (inr i)))

stand_all : (limit : ℕ) (f : State) (g : List ℕ → Expr) (xs : List (List ℕ)) →
    ((x : List ℕ) → In x xs → text_in limit f (g x) ≡ Ok (f.texts x)) → HaveTexts limit f (map g xs) (map f.texts xs)
stand_all limit f g [] a = tt
stand_all limit f g (x ∷ xs) a = (a x (inl refl), stand_all limit f g xs (λ y i. a y (inr i)))

-- ---- where names are held as texts
module _ (f : State) (h : Holding) where
  all_held : (xs : List (List ℕ)) → ((x : List ℕ) → In x xs → h.held x ≡ Text (f.texts x)) → all_texts h xs ≡ true
  all_held [] a = refl
  all_held (x ∷ xs) a = (λ i. is_text (a x (inl refl) i) && all_texts h xs) ∙ all_held xs (λ y i. a y (inr i))

  agree_held : (xs : List (List ℕ)) → ((x : List ℕ) → In x xs → h.held x ≡ Text (f.texts x)) → Agrees (plain h).texts f.texts xs
  agree_held [] a = tt
  agree_held (x ∷ xs) a = (ap held_text (a x (inl refl)), agree_held xs (λ y i. a y (inr i)))

  module _ (numbers : h.numbers ≡ f.numbers) where
    given_same : (args : List Argument) → Agrees (plain h).texts f.texts (cord_arguments args) →
        map (λ a. piece_argument (plain h) a) args ≡ map (λ a. piece_argument f a) args
    given_same [] a = refl
    given_same (arguments.Number n ∷ args) a = λ i. number (plain_number h f numbers n i) ∷ given_same args a i
    given_same (arguments.Cord x ∷ args) a = λ i. text (a.0 i) ∷ given_same args a.1 i

    format_same : (format : List Piece) (args : List Argument) → Agrees (plain h).texts f.texts (cord_arguments args) →
        format_text (plain h) format args ≡ format_text f format args
    format_same format args a = ap (λ (values : List (PieceArgument ℕ)). unless_refused (first_refusal 0 format values)
        (printed (λ b. b) format values)) (given_same args a)

-- ---- a statement that makes no cord changes no number but its target
module _ (f : State) (y : List ℕ) where
  abbrev NumberKept : Outcome → Type 0
  NumberKept (Ok r) = r.0.numbers y ≡ f.numbers y
  NumberKept (Err kind) = Unit {0}

  then_kept : {A : Type 0} (r : Result A FaultKind) (g : A → Outcome) → ((a : A) → NumberKept (g a)) → NumberKept (and_then r g)
  then_kept (Ok a) g k = k a
  then_kept (Err kind) g k = tt

  has_kept : (target : List ℕ) (z : ℤ) → bytes_eq y target ≡ false → NumberKept (has_number f target z)
  has_kept target z e = unset_same f.numbers target z y e

  set_kept : (target : List ℕ) (z : ℤ) → bytes_eq y target ≡ false → NumberKept (sets_number f target z)
  set_kept target z e = pick (fits_i64 z)
    where
      pick : (v : Bool) → NumberKept (if v then has_number f target z else Err Overflow)
      pick true = has_kept target z e
      pick false = tt

  extensible_kept : (limit : ℕ) (x t : List ℕ) → NumberKept (sets_extensible limit f x t)
  extensible_kept limit x t = then_kept (as_length limit (length t)) _ (λ k. refl)

  numbers_kept : (limit : ℕ) (files : FileSystem) (l : Statement) → IsVerbatimButLen l → assigns l y ≡ false → NumberKept
      (act limit files l f)
  numbers_kept limit files (Fetch line target x index) k e = then_kept (as_index (number_value f index)) _
      (λ i. then_kept (byte_of_text (f.texts x) i) _ (λ b. has_kept target (pos b) e))
  numbers_kept limit files (Cmp line target left right) k e = has_kept target _ e
  numbers_kept limit files (Ncmp line target left left_start right right_start count) k e =
      then_kept (as_index (number_value f left_start)) _ (λ i. then_kept (as_index (number_value f right_start)) _
      (λ j. then_kept (as_index (number_value f count)) _ (λ n. has_kept target _ e)))
  numbers_kept limit files (Str line target x start pattern) k e = then_kept (as_index (number_value f start)) _ (λ i. has_kept target _ e)
  numbers_kept limit files (Chr line target x start byte) k e =
      then_kept (as_index (number_value f start)) _ (λ i. then_kept (as_byte (number_value f byte)) _
      (λ b. then_kept (byte_of_text (f.texts x) i) _ (λ _. has_kept target _ e)))
  numbers_kept limit files (Rchr line target x start byte) k e =
      then_kept (as_index (number_value f start)) _ (λ i. then_kept (as_byte (number_value f byte)) _
      (λ b. then_kept (byte_of_text (f.texts x) i) _ (λ _. has_kept target _ e)))
  numbers_kept limit files (Assign line target n) k e = set_kept target (number_value f n) e
  numbers_kept limit files (Add line target left right) k e = set_kept target (number_value f left +ℤ number_value f right) e
  numbers_kept limit files (Sub line target left right) k e = set_kept target (number_value f left -ℤ number_value f right) e
  numbers_kept limit files (EcInit line target) k e = extensible_kept limit target []
  numbers_kept limit files (EcPut line extensible byte) k e = then_kept (as_byte (number_value f byte)) _
      (λ b. extensible_kept limit extensible _)
  numbers_kept limit files (EcCat line extensible x) k e = extensible_kept limit extensible _
  numbers_kept limit files (EcStr line extensible bytes) k e = extensible_kept limit extensible _
  numbers_kept limit files (Repeat line count) k e = refl
  numbers_kept limit files (If line left relation right) k e = refl
  numbers_kept limit files (Else line) k e = refl
  numbers_kept limit files (End line) k e = refl
  numbers_kept limit files l k e = absurd k

  kept_there : (r : Outcome) (u : State) (puts : List ℕ) → r ≡ Ok (u, puts) → NumberKept r → u.numbers y ≡ f.numbers y
  kept_there r u puts e k = subst (λ (w : Outcome). NumberKept w) e k

module _ (s : List Statement) (d : Decisions) (ok : MeetsConditions s d) (limit : ℕ) (files : FileSystem) where
  -- the invariant, of a plan that isn't stuck
  abbrev pub Related : ℕ → State → Option Holding → Type 0
  Related p f None = ⊥
  Related p f (Some h) = Inv s d ok limit p f h

  module _ (p : ℕ) (f : State) (h : Holding) (inv : Inv s d ok limit p f h) where
    module _ (l : Statement) (here : slice_get s p ≡ Some l) (simple_shape : shape_of l ≡ Straight) where
      read_here : (x : List ℕ) → In x (read_by l) → reads_at (slice_get s p) x ≡ true
      read_here x i = ap (λ (o : Option Statement). reads_at o x) here ∙ has_in (read_by l) x i

      -- in a line that isn't simple
      texts_read : is_simple l ≡ false → (x : List ℕ) → In x (read_by l) → h.held x ≡ Text (f.texts x)
      texts_read bare x i = operand_text s d ok limit p f h inv (ap is_simple_at here ∙ bare) x (read_here x i)

      -- ---- the name of a cord gets a text, or a length alone
      module _ (line : ℕ) (z : List ℕ) (target : target_of l ≡ Some z) where
        assigned_here : assigns_at (slice_get s p) z ≡ true
        assigned_here = ap (λ (o : Option Statement). assigns_at o z) here ∙ ap (λ (o : Option (List ℕ)). is_this_name o z) target ∙ own_bytes z

        abbrev Excused : Type 0
        Excused = NotLive s z p ⊎ ((b : ℕ) × (d.source b z ≡ Some p))

        excused_dead : d.dead p ≡ true → Excused
        excused_dead e = inl (ok.dead p z e assigned_here)

        excused_either : (v w : Bool) → d.dead p ≡ v → d.paired p ≡ w → (v || w) ≡ true → Excused
        excused_either true w e g both = excused_dead e
        excused_either false w e g both = inr (ok.paired p z (g ∙ both) assigned_here)

        module _ (made : Made) (r : Result (List ℕ) FaultKind) (acts : act limit files l f ≡ gives_text f z r)
            (to_build : all_texts h (texts_to_build made) ≡ true) (built : made_text limit files made (plain h) ≡ r)
            (to_measure : all_texts h (texts_to_measure made) ≡ true) (measured : made_length limit files made h ≡ length_of r)
            (knows : (t : List ℕ) → r ≡ Ok t → is_simple_at (slice_get s p) ≡ true → Ready s d ok limit (d.exprs p) f h
            × (text_in limit f (d.exprs p) ≡ Ok t)) where
          makes_agree : (v : Bool) → (v ≡ true → Excused) → Agree (Related (p + 1)) (act limit files l f)
              (does limit files (gives v line z made) h)
          makes_agree true excuse =
              subst (λ (w : Outcome). Agree (Related (p + 1)) w (does limit files (gives true line z made) h)) (sym acts)
              (measured_agrees limit files (Related (p + 1)) f h z line made r to_measure measured
              (λ t e. inv_set s d ok limit p l here simple_shape f h inv z target t (Long (length t)) (knows t e) (refl, excuse refl)))
          makes_agree false excuse =
              subst (λ (w : Outcome). Agree (Related (p + 1)) w (does limit files (gives false line z made) h)) (sym acts)
              (built_agrees limit files (Related (p + 1)) f h z line made r to_build built
              (λ t e. inv_set s d ok limit p l here simple_shape f h inv z target t (Text t) (knows t e) refl))

        -- of a line that isn't simple the length alone is computed where its target is dead
        other_agrees : is_simple l ≡ false → (made : Made) (r : Result (List ℕ) FaultKind) → act limit files l f ≡ gives_text f z r
            → all_texts h (texts_to_build made) ≡ true → made_text limit files made (plain h) ≡ r →
            all_texts h (texts_to_measure made) ≡ true → made_length limit files made h ≡ length_of r
            → Agree (Related (p + 1)) (act limit files l f) (does limit files (gives (d.dead p) line z made) h)
        other_agrees bare made r acts to_build built to_measure measured =
            makes_agree made r acts to_build built to_measure measured
            (λ t e simple. absurd (not_both (is_simple_at (slice_get s p)) simple (ap is_simple_at here ∙ bare)))
            (d.dead p) excused_dead

      -- ---- a simple line
      module _ (simple : is_simple l ≡ true) where
        stand_here : HaveTexts limit f (map (λ x. stands d p x) (read_by l)) (map f.texts (read_by l))
        stand_here = stand_all limit f (λ x. stands d p x) (read_by l) (λ x i. (operand s d ok limit p f h inv x (read_here x i)).1)

        defining_here : expr_with l (map (λ x. stands d p x) (read_by l)) ≡ Some (d.exprs p)
        defining_here = ok.defining p l here simple

        ready_here : Ready s d ok limit (d.exprs p) f h
        ready_here = line_each (λ y. h.held y ≡ Text (f.texts y)) l (map (λ x. stands d p x) (read_by l)) (d.exprs p) defining_here
            (each_of (λ y. h.held y ≡ Text (f.texts y)) (λ x. stands d p x) (read_by l)
            (λ x i. (operand s d ok limit p f h inv x (read_here x i)).0))

        there_here : all_texts h (cords (d.exprs p)) ≡ true
        there_here = all_held f h (cords (d.exprs p)) ready_here

        value_here : text_in limit (plain h) (d.exprs p) ≡ text_in limit f (d.exprs p)
        value_here = value_same limit (plain h) f (d.exprs p) (λ y i. ap held_text (ready_here y i)) (λ y i. λ r. inv.numbers r y)

        simple_agrees : (line : ℕ) (z : List ℕ) (o : Expr) → defining l ≡ Some o → target_of l ≡ Some z →
            Agree (Related (p + 1)) (act limit files l f) (does limit files (gives (d.dead p || d.paired p) line z (Joined (d.exprs p))) h)
        simple_agrees line z o defining_is target =
            makes_agree line z target (Joined (d.exprs p)) (text_in limit f (d.exprs p))
            (line_gives limit files f l (map (λ x. stands d p x) (read_by l)) (d.exprs p) o stand_here defining_here defining_is z target)
            there_here value_here refl
            (extent_is limit h f inv.numbers (lengths s d ok limit p f h inv) (d.exprs p)) (λ t e _. (ready_here, e))
            (d.dead p || d.paired p) (λ both. excused_either line z target (d.dead p) (d.paired p) refl refl both)

      -- ---- a line that makes no cord
      on : makes_cord l ≡ false → is_simple l ≡ false → ((y : List ℕ) → assigns l y ≡ false → NumberKept f y (act limit files l f))
          → (u : State) (puts : List ℕ) → act limit files l f ≡ Ok (u, puts) → u.texts ≡ f.texts →
          Related (p + 1) u (Some (with_others limit files (Related (p + 1)) f h u))
      on no_cord bare kept u puts e texts =
          inv_on s d ok limit p l here simple_shape f h inv u (with_others limit files (Related (p + 1)) f h u) texts refl refl refl
          (λ y unset. kept_there f y (act limit files l f) u puts e (kept y unset)) no_cord
          (λ x simple assigned. absurd (not_both (is_simple l) simple bare))

      keeps_agree : IsVerbatimButLen l → makes_cord l ≡ false → is_simple l ≡ false →
          Agree (Related (p + 1)) (act limit files l f) (keeps limit files l h)
      keeps_agree k no_cord bare =
          kept_agrees limit files (Related (p + 1)) f h l inv.numbers inv.extensibles
          (on no_cord bare (λ y e. numbers_kept f y limit files l k e)) k
          (all_held f h (read_by l) (texts_read bare)) (agree_held f h (read_by l) (texts_read bare))

    abbrev Goal : Statement → Type 0
    Goal l = Agree (Related (p + 1)) (act limit files l f) (does limit files (operation l (d.exprs p) (d.dead p) (d.paired p)) h)

    pub agrees : (l : Statement) → slice_get s p ≡ Some l → shape_of l ≡ Straight → Goal l
    agrees (Chars line z byte n) e q = simple_agrees (Chars line z byte n) e q refl line z _ refl refl
    agrees (Nul line z n) e q = simple_agrees (Nul line z n) e q refl line z _ refl refl
    agrees (Cat line z x y) e q = simple_agrees (Cat line z x y) e q refl line z _ refl refl
    agrees (Catn line z xs) e q = simple_agrees (Catn line z xs) e q refl line z _ refl refl
    agrees (Catc line z x byte) e q = simple_agrees (Catc line z x byte) e q refl line z _ refl refl
    agrees (Substr line z x i n) e q = simple_agrees (Substr line z x i n) e q refl line z _ refl refl
    agrees (Put line x) e q =
        let l : Statement = Put line x in
        let defining_is : Some (stands d p x) ≡ Some (d.exprs p) = defining_here l e q refl in
        let is : stands d p x ≡ d.exprs p = cc in
        put_agrees limit files (Related (p + 1)) f h line x (d.exprs p) (there_here l e q refl)
        (value_here l e q refl ∙ ap (λ (w : Expr). text_in limit f w) (sym is) ∙ (stand_here l e q refl).0)
        (inv_on s d ok limit p l e q f h inv f h refl refl inv.numbers inv.extensibles (λ y unset. refl) refl
        (λ y simple assigned. let bad : ⊥ = cc in bad))
    agrees (Let line z bytes) e q = other_agrees (Let line z bytes) e q line z refl refl (Literal bytes) (within limit bytes)
        (sets_within limit f z bytes) refl refl refl (within_length limit bytes)
    agrees (File line z path) e q = other_agrees (File line z path) e q line z refl refl (OfFile path) (opened limit files path)
        (gives_after limit f z (file_text files path)) refl refl refl refl
    agrees (Eager line z path) e q = other_agrees (Eager line z path) e q line z refl refl (OfEager path) (opened limit files path)
        (gives_after limit f z (file_text files path)) refl refl refl refl
    agrees (Lazy line z path) e q = other_agrees (Lazy line z path) e q line z refl refl (OfLazy path) (opened limit files path)
        (gives_after limit f z (file_text files path)) refl refl refl refl
    agrees (FromFn line z function count) e q =
        let made : Made = OfFunction function count in
        let built : made_text limit files made (plain h) ≡ made_text limit files made f =
        ap (λ (w : ℤ). and_then (as_index w) (λ k. and_then (as_length limit k) (λ _. within limit (function_text function k))))
        (plain_number h f inv.numbers count) in
        other_agrees (FromFn line z function count) e q line z refl refl made (made_text limit files made f)
        (function_gives limit f z files line function count) refl built refl (ap length_of built)
    agrees (Balance line z x) e q =
        let there : h.held x ≡ Text (f.texts x) = texts_read (Balance line z x) e q refl x (inl refl) in
        other_agrees (Balance line z x) e q line z refl refl (Balanced x) (within limit (f.texts x)) (sets_within limit f z (f.texts x))
        (all_held f h (x ∷ []) (texts_read (Balance line z x) e q refl))
        (ap (λ (k : Held). within limit (held_text k)) there) refl
        (ap (λ (n : ℕ). as_length limit n) (lengths s d ok limit p f h inv x) ∙ within_length limit (f.texts x))
    agrees (EcToCord line z extensible) e q =
        let built : within limit (h.extensibles extensible) ≡ within limit (f.extensibles extensible) =
        ap (λ (g : List ℕ → List ℕ). within limit (g extensible)) inv.extensibles in
        other_agrees (EcToCord line z extensible) e q line z refl refl (OfExtensible extensible) (within limit (f.extensibles extensible))
        (sets_within limit f z (f.extensibles extensible)) refl built refl
        (within_length limit (h.extensibles extensible) ∙ ap length_of built)
    agrees (Sprintf line z bytes format args) e q =
        let l : Statement = Sprintf line z bytes format args in
        let made : Made = Printed bytes format args in
        let there : all_texts h (cord_arguments args) ≡ true = all_held f h (cord_arguments args) (texts_read l e q refl) in
        let built : made_text limit files made (plain h) ≡ made_text limit files made f =
        ap (λ (r : Result (List ℕ) FaultKind). and_then r (λ t. within limit t))
        (format_same f h inv.numbers format args (agree_held f h (cord_arguments args) (texts_read l e q refl))) in
        other_agrees l e q line z refl refl made (made_text limit files made f) (gives_after limit f z (format_text f format args)) there
        built there (ap length_of built)
    agrees (Len line z x) e q =
        len_agrees limit files (Related (p + 1)) f h line z x inv.numbers inv.extensibles
        (on (Len line z x) e q refl refl (λ y unset. has_kept f y z (pos (length (f.texts x))) unset)) (lengths s d ok limit p f h inv x)
    agrees (Repeat line count) e q = let bad : ⊥ = cc in absurd bad
    agrees (If line left relation right) e q = let bad : ⊥ = cc in absurd bad
    agrees (Else line) e q = let bad : ⊥ = cc in absurd bad
    agrees (End line) e q = let bad : ⊥ = cc in absurd bad
    agrees l e q = keeps_agree l e q tt refl refl
