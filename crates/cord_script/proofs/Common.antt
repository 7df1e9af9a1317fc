-- The names that most proofs of this crate cite, passed on from one place. Declares nothing.
pub use Rattle.std.proofs.Common.{ap, append-nil, append_assoc, arith, eq-eqb, eqb-true, inl, inr, length-append, lit≤, refl, rules}
pub use Rattle.std.proofs.Common.{subst, sym, ◌∙◌}
pub use Rattle.std.proofs.lemmas.Bool.{and_from, and_parts, cond-false, cond-true, eqb-false, false_from_ne_true, le-leb}
pub use Rattle.std.proofs.lemmas.Bool.{leb-true, lt-leb, ltb-false, ltb-true, ne_eqb, or_from, or_left, or_right}
pub use Rattle.std.proofs.lemmas.List.{drop_all, drop_more, length-map, map-append, nil_from_length, take-append-drop, take-replicate, take_all, take_more}
pub use Rattle.std.proofs.lemmas.List.Elements.{All-cons, All-head, All-nil, All-tail}
pub use Rattle.std.proofs.lemmas.Option.{same_Some, slice_get_read}
pub use Rattle.std.proofs.lemmas.Result.{IfErr-weaker, err_from_is_err_and}
pub use Rattle.std.proofs.lemmas.Str.{IsUtf8-from_is_utf8, IsUtf8-string_bytes, is_utf8-from_IsUtf8}
pub use Rattle.std.specs.Prelude.{Err, IfSome, MatchBool, MatchOption, MatchResult, Ok, Result, String, cond, drop, false, get_or}
pub use Rattle.std.specs.Prelude.{is_some, nat_lt, pos, replicate, suc, take, zero, ℤ}
pub use Rattle.std.specs.Str.{IsUtf8, bytes_eq, is_utf8}
pub use Rattle.memchr.specs.Find.{IsFirstByte, Nowhere, Passes, is_byte}
pub use Rattle.cord_printf.specs.FormatLaws.{BadIsNoFormat, FormatOrBad, OneFormat}
pub use Rattle.cord_printf.specs.Pieces.{Conversion, HasWidth, flags_of, wanted, wants}
pub use Rattle.cord_printf.specs.declared.pieces.ArgKind.{ArgKind}
pub use Rattle.cord_printf.specs.declared.pieces.Piece.{Piece}
pub use Rattle.cord_operands.specs.declared.operands.Argument.{Argument}
pub use Rattle.cord_operands.specs.declared.operands.Function.{Function}
pub use Rattle.cord_operands.specs.declared.operands.Function.TheVariants.{Bytes, Digits}
pub use Rattle.cord_operands.specs.declared.operands.Number.{Number}
pub use Rattle.cord_operands.specs.declared.operands.Number.TheVariants.{Named, Numeral}
pub use Rattle.cord_operands.specs.declared.operands.Relation.{Relation}
pub use Rattle.cord_operands.specs.declared.operands.Relation.TheVariants.{Equal, Greater, Less}
pub use Rattle.cord_syntax.specs.Lines.{line_of}
pub use Rattle.cord_syntax.specs.declared.statements.Statement.TheVariants.{Add, Assign, Balance, Cat, Catc, Catn, Chars, Chr, Cmp, Eager}
pub use Rattle.cord_syntax.specs.declared.statements.Statement.TheVariants.{EcCat, EcInit, EcPut, EcStr, EcToCord, Else, End, Fetch, File}
pub use Rattle.cord_syntax.specs.declared.statements.Statement.TheVariants.{FromFn, If, Lazy, Len, Let, Ncmp, Nul, Put, Rchr, Repeat}
pub use Rattle.cord_syntax.specs.declared.statements.Statement.TheVariants.{Sprintf, Str, Sub, Substr}
pub use Rattle.cord_script.specs.FirstErrors.{FirstErrorBy, HasBadLine, HasBadWords, HasFormError, HasFormat, IsFirstWrongAt, IsLeftOpen}
pub use Rattle.cord_script.specs.FirstErrors.{argument_words, arguments_error, assigned_error, block_error, cords, else_error, first_misfit}
pub use Rattle.cord_script.specs.FirstErrors.{first_of, first_pair, form_error, format_wants, function_misfit, is_count, joined, kind_error}
pub use Rattle.cord_script.specs.FirstErrors.{misfit, name_misfit, names_error, number_error, number_misfit, operand_error, path_misfit}
pub use Rattle.cord_script.specs.FirstErrors.{plain_number_misfit, relation_misfit, same_kind, text_misfit, unless, wants_of}
pub use Rattle.cord_script.specs.FirstErrors.{word_path_error, word_target_error, words_error}
pub use Rattle.cord_script.specs.Formats.{AreWantedBy, want_of_kind, wants_of_pieces}
pub use Rattle.cord_script.specs.Forms.{Grammar, Shape, argument_term, argument_want, form_in}
pub use Rattle.cord_script.specs.Forms.Effect.{Closes, OpensIf, OpensRepeat, Stays, Turns}
pub use Rattle.cord_script.specs.Forms.Shape.{Joined, Printed, Words}
pub use Rattle.cord_script.specs.Forms.Term.{Applies, Compares, FilePath, Formats, Literal, Operand, Target, Value}
pub use Rattle.cord_script.specs.Script.{FitsBlocks, Reads, ReadsBy, ReadsUpTo, is_among, without_branches}
pub use Rattle.cord_script.specs.Script.Block.{InElse, InIf, InRepeat}
pub use Rattle.cord_script.specs.Tests.{are_digits, begins_numeral, function_word, is_path, numeral_of, relation_word}
pub use Rattle.cord_script.specs.Words.{BeginsBadText, EndsPlain, HexDigit, IsBadEnd, IsBadText, IsPlainByte, SpellsText, Stands}
pub use Rattle.cord_script.specs.Words.{StartsWith}
pub use Rattle.cord_script.specs.declared.TheConstants.{MAX_BLOCKS, MAX_LINES, MAX_NAMES, MAX_PARTS, MAX_PATHS, MAX_SCRIPT, MAX_TEXT}
pub use Rattle.cord_script.specs.declared.TheConstants.{MIN_PARTS}
pub use Rattle.cord_script.specs.declared.kinds.Kind.{Kind}
pub use Rattle.cord_script.specs.declared.refusals.RefusalKind.TheVariants.{BadEscape, BadFormat, BadName, BadNumber, LiteralTooLong}
pub use Rattle.cord_script.specs.declared.refusals.RefusalKind.TheVariants.{MissingEnd, MissingIfEnd, NoMemory, TooBig, TooDeep, TooMany}
pub use Rattle.cord_script.specs.declared.refusals.RefusalKind.TheVariants.{UnknownStatement, Unterminated, WrongCount, WrongKind}
pub use Rattle.cord_script.specs.declared.verbs.FixedVerb.{FixedVerb}
pub use Rattle.cord_script.specs.declared.words.Word.TheVariants.{Plain, Quoted}
pub use Rattle.cord_script.specs.inner.Common.{All, AreAllowed, AreTerms, Block, Bool, Effect, Form, HasBadBytes, HasWord, HasWords}
pub use Rattle.cord_script.specs.inner.Common.{IsAllowed, IsBlank, IsIdle, IsSplit, IsTerm, Known, LinesSay, List, None, Option}
pub use Rattle.cord_script.specs.inner.Common.{RefusalKind, Says, Scope, Some, Statement, Suits, Term, Verb, Want, Word, [], after}
pub use Rattle.cord_script.specs.inner.Common.{after_all, codes, each, effect_of, filter, form_of, is_digit}
pub use Rattle.cord_script.specs.inner.Common.{is_letter, is_name, kind_of, length, map, names_after, nat_le, not, number_after, option_map}
pub use Rattle.cord_script.specs.inner.Common.{option_to_list, paths_after, slice_get, start, terms_of, true, whole, word_of, ℕ}
pub use Rattle.cord_script.specs.inner.LineReading.{GivesAll, GivesTerm, HasWrong, IsInnermostOpen, IsStatementBuilt, LineView}
pub use Rattle.cord_script.specs.inner.LineReading.{PassesWord, TakesLine, left_after, names_with, paths_with, scope_of}
pub use Rattle.cord_script.specs.inner.Reading.{byte_of, digit_of, escape_of, hex_of, magnitude_from, unit_of, AreFirst, AreNames, IsTable}
pub use Rattle.cord_script.specs.inner.Reading.{HasNext, StartsNoBlank}
pub use Rattle.cord_script.specs.inner.Verbal.{all_verbs, find_verb, verb_effect, verb_word, verbs_of}
