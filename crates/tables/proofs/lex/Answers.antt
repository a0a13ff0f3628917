-- `lex` meets its contract: the tables are the lists that the tests are over, and tell the tokens.
use mathlib.Core.Path.{refl}
use Rattle.std.proofs.Common.{rules}
use Rattle.rules.specs.Tables.{class_list, next_list, kind_list}
use Rattle.rules.specs.Keys.{key_list, spelling_list}
use Rattle.tables.proofs.lex.Goals as goal

pub invariant_of-tables : goal.invariant_of-tables
unfolding class_list next_list kind_list key_list spelling_list
invariant_of-tables c = record { classes_are = refl; states_are = refl; kinds_are = refl; keys_are = refl; spellings_are = refl }

pub lex_by-requires : goal.lex_by-requires
lex_by-requires c = λ short. record { callable = λ at h. search rules; right = λ at t h p. search rules }
