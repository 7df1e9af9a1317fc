-- The names that most of these definitions cite, passed on from one place. Declares nothing.
pub use Rattle.std.specs.Prelude.{All, Bool, List, None, Option, Some, [], codes, filter, length, map, nat_le, not}
pub use Rattle.std.specs.Prelude.{option_map, option_to_list, slice_get, true, ℕ}
pub use Rattle.cord_syntax.specs.declared.statements.Statement.{Statement}
pub use Rattle.cord_script.specs.Forms.{Effect, Form, Term, effect_of, form_of, terms_of, word_of}
pub use Rattle.cord_script.specs.Script.{AreAllowed, AreTerms, Block, IsAllowed, IsTerm, LinesSay, Says, Scope, Suits, after, after_all}
pub use Rattle.cord_script.specs.Script.{blocks_after, kind_of, names_after, paths_after, start, whole, with_name, with_path}
pub use Rattle.cord_script.specs.Tests.{each, is_digit, is_letter, is_name, number_after}
pub use Rattle.cord_script.specs.Words.{HasBadBytes, HasWord, HasWords, IsBlank, IsIdle, IsSplit}
pub use Rattle.cord_script.specs.declared.kinds.Want.{Want}
pub use Rattle.cord_script.specs.declared.refusals.RefusalKind.{RefusalKind}
pub use Rattle.cord_script.specs.declared.table.Known.{Known}
pub use Rattle.cord_script.specs.declared.verbs.Verb.{Verb}
pub use Rattle.cord_script.specs.declared.words.Word.{Word}
