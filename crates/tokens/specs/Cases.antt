-- What the lexer's functions answer, in the definition's terms.
use Rattle.std.specs.Prelude.{Option, Some, None}
use Rattle.tokens.specs.declared.Spelled.{Spelled}
use Rattle.scan.specs.Lexer.{Match, no_match, plain}

-- A fixed spelling's kind and length, or no match.
abbrev pub match_of : Option Spelled → Match
match_of (Some s) = record { len = s.len; after = plain s.kind }
match_of None = no_match
