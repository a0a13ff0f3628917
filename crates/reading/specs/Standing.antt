-- Where the parser stands: what it is lent, and whether it was refused.
use Rattle.std.specs.Prelude.{◌≡◌, Bool, is_some, Some}
use Rattle.words.specs.declared.refusal.Refusal.{Refusal}
use Rattle.definition.specs.Prog.{Memory, memory}
use Rattle.reading.specs.declared.parser.Parser.{Parser}

abbrev pub is_refused : Parser → Bool
is_refused p = is_some p.refused

-- The words that it is lent to write, as the definition has them.
abbrev pub words : Parser → Memory
words p = memory p.nodes.now p.values.now p.reports.now

-- Refused from where it stands on.
abbrev pub refused_at : Parser → Refusal → Parser
refused_at p refusal = record p { refused = Some (record { refusal = refusal; place = p.state.cursor.at }) }

-- What no function changes: the text and its tokens, which words are lent, and how many levels are left.
pub record Kept (p p' : Parser) : Type 0 where
  pub text : p'.text ≡ p.text
  pub tokens : p'.tokens ≡ p.tokens
  pub nodes : p'.nodes.ghost_name ≡ p.nodes.ghost_name
  pub values : p'.values.ghost_name ≡ p.values.ghost_name
  pub reports : p'.reports.ghost_name ≡ p.reports.ghost_name
  pub levels : p'.levels ≡ p.levels
