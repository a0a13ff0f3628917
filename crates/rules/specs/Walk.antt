-- The walk that the tables make: from state to state, byte by byte, and the token that its end says. It is the definition's token.
use Rattle.std.specs.Prelude.{Bool, cond, ◌||◌, ℕ, drop, take}
use mathlib.Core.List.{List, [], ◌∷◌}
use Rattle.std.proofs.Math.Bool.{true, false}
use Rattle.std.proofs.Math.Dec.{eqb}
use Rattle.words.specs.Token as TokenKind
use Rattle.scan.specs.Lexer.{Lexeme, lexeme, more, line_comment, block_comment, string, invalid_char}
use Rattle.scan.specs.Longest.{keyword_of}
use Rattle.rules.specs.Rule.{goes_on, stop, start, name, name_h, name_he, name_hex, quote, hex_quote, line, block, after, kind_of}

-- The state in which the walk ends, and how many bytes it took.
abbrev pub step : ℕ → ℕ → Lexeme → Lexeme
step q n l = cond (goes_on n) (more 1 l) (cond (eqb n stop) (lexeme q 0) (lexeme n 1))

unfoldable pub walk : ℕ → List ℕ → Lexeme
walk q [] = lexeme q 0
walk q (b ∷ s) = step q (after q b) (walk (after q b) s)

-- The state after the first byte, if there is one.
abbrev pub after_first : ℕ → List ℕ → ℕ
after_first q [] = stop
after_first q (b ∷ s) = after q b

-- The states of a name.
abbrev pub named : ℕ → Bool
named q = eqb q name || (eqb q name_h || (eqb q name_he || eqb q name_hex))

-- What a walk's end is as a token, where `s` is the text's rest from the token on.
abbrev pub special : List ℕ → Lexeme → Lexeme
special s l =
    cond (eqb l.kind quote) (more l.len (string TokenKind.LooseStringLiteral true false false (drop l.len s)))
    (cond (eqb l.kind hex_quote) (more l.len (string TokenKind.LooseHexStringLiteral false false false (drop l.len s)))
    (cond (eqb l.kind line) (more l.len (line_comment (drop l.len s)))
    (cond (eqb l.kind block) (more l.len (block_comment (drop l.len s) 1))
    (cond (eqb l.kind start) (invalid_char s)
    (lexeme (keyword_of (take l.len s)) l.len)))))

abbrev pub token_of : List ℕ → Lexeme → Lexeme
token_of s l = cond (eqb (kind_of l.kind) TokenKind.Eof) (special s l) (lexeme (kind_of l.kind) l.len)
