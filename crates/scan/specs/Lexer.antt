-- The definition of Plank's lexer, from lexer.rs and the corners of document 01.
-- A token is a function of the rest of the text from its offset on.
use Rattle.std.specs.Prelude.{List, [], ◌∷◌, ◌++◌, map, Bool, true, false, cond, not, ◌&&◌, ◌||◌, ℕ, zero, suc, pred, ◌+◌, ltb, eqb, length, drop}
use Prim.Native.String.{String}
use Rattle.words.specs.Token as TokenKind
use Rattle.words.specs.Words.{token_word}
use Rattle.utf8.specs.Utf8.{character_at}
use Rattle.std.specs.Prelude.{Some, None}
use Rattle.scan.specs.declared.Token.{Token}
use Rattle.scan.specs.Bytes.{ascii, Class, none, digit, ident_start, ident_part, blank, is_digit}

-- "over 65,536 bytes": the longest text that is read.
abbrev pub longest_text : ℕ
longest_text = 65536

-- A token's kind, and how many bytes it covers.
pub record Lexeme : Type 0 where
  pub kind : ℕ
  pub len : ℕ

abbrev pub lexeme : ℕ → ℕ → Lexeme
lexeme kind len = record { kind = kind; len = len }

-- The same with n bytes more in front.
abbrev pub more : ℕ → Lexeme → Lexeme
more n l = lexeme l.kind (n + l.len)

-- The callbacks: what follows the bytes that a rule matched, as the token's kind and how many bytes more it takes.
-- The Rust goes by characters. Every character that it looks for here is ASCII, and no byte of a longer character is
-- an ASCII byte, so going by bytes finds the same ends.

-- No callback: the token is what matched.
abbrev pub plain : ℕ → List ℕ → Lexeme
plain kind s = lexeme kind 0

-- lex_line_comment. A line comment takes its newline; `\r` alone doesn't end it.
unfoldable pub line_comment : List ℕ → Lexeme
line_comment [] = lexeme TokenKind.LineComment 0
line_comment (b ∷ s) = cond (eqb b 10) (lexeme TokenKind.LineComment 1) (more 1 (line_comment s))

-- lex_block_comment. Block comments nest; `*/` and `/*` take both their characters.
unfoldable pub block_comment : List ℕ → ℕ → Lexeme
block_comment [] depth = cond (eqb depth 0) (lexeme TokenKind.BlockComment 0) (lexeme TokenKind.UnclosedBlockCommentError 0)
block_comment (a ∷ []) depth = cond (eqb depth 0) (lexeme TokenKind.BlockComment 0) (lexeme TokenKind.UnclosedBlockCommentError 1)
block_comment (a ∷ b ∷ s) depth =
    let close = more 2 (block_comment s (pred depth)) in
    let open' = more 2 (block_comment s (suc depth)) in
    let next = more 1 (block_comment (b ∷ s) depth) in
    cond (eqb depth 0) (lexeme TokenKind.BlockComment 0)
    (cond (eqb a 42 && eqb b 47) close (cond (eqb a 47 && eqb b 42) open' next))

-- lex_number_literal. A number takes every following letter, digit and `_`; a letter or digit outside its radix makes
-- it MalformedIdentError.
unfoldable pub number : ℕ → ℕ → Bool → List ℕ → Lexeme
number kind radix malformed [] = lexeme (cond malformed TokenKind.MalformedIdentError kind) 0
number kind radix malformed (b ∷ s) =
    cond (ident_part b) (more 1 (number kind radix (malformed || (not (eqb b 95) && not (is_digit radix b))) s))
    (lexeme (cond malformed TokenKind.MalformedIdentError kind) 0)

-- lex_loose_string_literal and lex_loose_hex_string_literal. In a `"` string (`hides`) a backslash hides the next
-- character; in a `hex"` string it doesn't. A line end inside, not hidden, gives MultilineStringError; a missing closing
-- quote gives UnclosedStringError, line end or not. `hidden`: the byte before hides this one.
unfoldable pub string : ℕ → Bool → Bool → Bool → List ℕ → Lexeme
string kind hides hidden malformed [] = lexeme TokenKind.UnclosedStringError 0
string kind hides hidden malformed (b ∷ s) =
    cond (not hidden && eqb b 34) (lexeme (cond malformed TokenKind.MultilineStringError kind) 1)
    (more 1
    (string kind hides (hides && (not hidden && eqb b 92)) (malformed || (not hidden && (eqb b 10 || eqb b 13))) s))

-- A rule of the Rust's `enum Token`: `#[token(..)]` matches its spelling; `#[regex(..)]` one byte of each class in turn,
-- and then as many as there are of the last class. Its callback goes on from there.
pub data Rule : Type 0 where
  token : List ℕ → (List ℕ → Lexeme) → Rule
  regex : List Class → Class → (List ℕ → Lexeme) → Rule

-- how many bytes at the front are of the class
unfoldable pub run : Class → List ℕ → ℕ
run q [] = 0
run q (b ∷ s) = cond (q b) (suc (run q s)) 0

-- whether the text begins with the spelling, or with a byte of each class in turn
unfoldable pub spelled : List ℕ → List ℕ → Bool
spelled [] s = true
spelled (a ∷ w) [] = false
spelled (a ∷ w) (b ∷ s) = eqb a b && spelled w s

unfoldable pub classed : List Class → List ℕ → Bool
classed [] s = true
classed (p ∷ ps) [] = false
classed (p ∷ ps) (b ∷ s) = p b && classed ps s

-- how many bytes the rule matches, 0 where it doesn't
unfoldable pub matched : Rule → List ℕ → ℕ
matched (token w f) s = cond (spelled w s) (length w) 0
matched (regex ps q f) s = cond (classed ps s) (length ps + run q (drop (length ps) s)) 0

abbrev pub callback : Rule → List ℕ → Lexeme
callback (token w f) = f
callback (regex ps q f) = f

-- The best match so far: how many bytes, and the callback.
pub record Match : Type 0 where
  pub len : ℕ
  pub after : List ℕ → Lexeme

-- The longest match wins; of two that are as long, the one declared first, so a keyword beats Identifier.
unfoldable pub longest : Match → List Rule → List ℕ → Match
longest m [] s = m
longest m (r ∷ rs) s = longest (cond (ltb m.len (matched r s)) (record { len = matched r s; after = callback r }) m) rs s

-- A `#[token(..)]` with no callback: a kind and its fixed spelling.
pub record Fixed : Type 0 where
  pub kind : ℕ
  pub spelling : List ℕ

abbrev fixed : ℕ → String → Fixed
fixed kind w = record { kind = kind; spelling = ascii w }

abbrev pub rule : Fixed → Rule
rule f = token f.spelling (plain f.kind)

-- The fixed spellings, in the Rust's order.
unfoldable pub punctuation : List Fixed
punctuation =
    fixed TokenKind.Semicolon ";"
    ∷ fixed TokenKind.Comma ","
    ∷ fixed TokenKind.Colon ":"
    ∷ fixed TokenKind.Dot "."
    ∷ fixed TokenKind.Dollar "$"
    ∷ fixed TokenKind.LeftCurly "{"
    ∷ fixed TokenKind.RightCurly "}"
    ∷ fixed TokenKind.LeftRound "("
    ∷ fixed TokenKind.RightRound ")"
    ∷ fixed TokenKind.LeftSquare "["
    ∷ fixed TokenKind.RightSquare "]"
    ∷ fixed TokenKind.DoubleColon "::"
    ∷ fixed TokenKind.FatArrow "=>"
    ∷ fixed TokenKind.Equals "="
    ∷ fixed TokenKind.Plus "+"
    ∷ fixed TokenKind.PlusPercent "+%"
    ∷ fixed TokenKind.Minus "-"
    ∷ fixed TokenKind.MinusPercent "-%"
    ∷ fixed TokenKind.Star "*"
    ∷ fixed TokenKind.StarPercent "*%"
    ∷ fixed TokenKind.Slash "/"
    ∷ fixed TokenKind.PlusSlash "+/"
    ∷ fixed TokenKind.MinusSlash "-/"
    ∷ fixed TokenKind.LessSlash "</"
    ∷ fixed TokenKind.GreaterSlash ">/"
    ∷ fixed TokenKind.Percent "%"
    ∷ fixed TokenKind.DoubleEquals "=="
    ∷ fixed TokenKind.BangEquals "!="
    ∷ fixed TokenKind.LessThan "<"
    ∷ fixed TokenKind.GreaterThan ">"
    ∷ fixed TokenKind.LessEquals "<="
    ∷ fixed TokenKind.GreaterEquals ">="
    ∷ fixed TokenKind.Bang "!"
    ∷ fixed TokenKind.AmperAmper "&&"
    ∷ fixed TokenKind.PipePipe "||"
    ∷ fixed TokenKind.Ampersand "&"
    ∷ fixed TokenKind.Pipe "|"
    ∷ fixed TokenKind.Caret "^"
    ∷ fixed TokenKind.Tilde "~"
    ∷ fixed TokenKind.ShiftLeft "<<"
    ∷ fixed TokenKind.ShiftRight ">>"
    ∷ []

unfoldable pub keywords : List Fixed
keywords =
    fixed TokenKind.If "if"
    ∷ fixed TokenKind.Else "else"
    ∷ fixed TokenKind.Fn "fn"
    ∷ fixed TokenKind.Eager "eager"
    ∷ fixed TokenKind.Let "let"
    ∷ fixed TokenKind.Mut "mut"
    ∷ fixed TokenKind.Const "const"
    ∷ fixed TokenKind.Init "init"
    ∷ fixed TokenKind.Run "run"
    ∷ fixed TokenKind.Struct "struct"
    ∷ fixed TokenKind.Tuple "tuple"
    ∷ fixed TokenKind.Return "return"
    ∷ fixed TokenKind.Comptime "comptime"
    ∷ fixed TokenKind.Inline "inline"
    ∷ fixed TokenKind.While "while"
    ∷ fixed TokenKind.True "true"
    ∷ fixed TokenKind.False "false"
    ∷ fixed TokenKind.And "and"
    ∷ fixed TokenKind.Or "or"
    ∷ fixed TokenKind.Pub "pub"
    ∷ fixed TokenKind.Use "use"
    ∷ fixed TokenKind.As "as"
    ∷ fixed TokenKind.Match "match"
    ∷ fixed TokenKind.SelfType "Self"
    ∷ []

-- The rules after them. The numbers of `number` are its radix, of `string` its quote's way with a backslash.
unfoldable pub others : List Rule
others =
    regex (ident_start ∷ []) ident_part (plain TokenKind.Identifier)
    ∷ regex (eqb 64 ∷ ident_start ∷ []) ident_part (plain TokenKind.BuiltinName)
    ∷ regex (digit ∷ []) none (number TokenKind.DecimalLiteral 10 false)
    ∷ regex (eqb 48 ∷ eqb 120 ∷ is_digit 16 ∷ []) none (number TokenKind.HexLiteral 16 false)
    ∷ regex (eqb 48 ∷ eqb 98 ∷ is_digit 2 ∷ []) none (number TokenKind.BinLiteral 2 false)
    ∷ token (ascii "\"") (string TokenKind.LooseStringLiteral true false false)
    ∷ token (ascii "hex\"") (string TokenKind.LooseHexStringLiteral false false false)
    ∷ regex (blank ∷ []) blank (plain TokenKind.Whitespace)
    ∷ token (ascii "//") line_comment
    ∷ token (ascii "/*") (λ s. block_comment s 1)
    ∷ token (ascii "@") (plain TokenKind.AtWithoutIdentError)
    ∷ []

unfoldable pub rules : List Rule
rules = map rule punctuation ++ (map rule keywords ++ others)

-- A character that starts no token is one InvalidCharError. (In UTF-8 there is always a character.)
unfoldable pub invalid_char : List ℕ → Lexeme
invalid_char s = elim (character_at s) [ Some c ↦ lexeme TokenKind.InvalidCharError c.length | None ↦ lexeme TokenKind.InvalidCharError 1 ]

abbrev pub no_match : Match
no_match = record { len = 0; after = invalid_char }

abbrev pub finish : Match → List ℕ → Lexeme
finish m s = more m.len (m.after (drop m.len s))

-- The token that starts where the text's rest is s.
unfoldable pub token_at : List ℕ → Lexeme
token_at s = finish (longest no_match rules s) s

-- A lexeme at an offset, as a token.
abbrev pub from : ℕ → Lexeme → Token
from at l = record { kind = l.kind; end = at + l.len }

-- The tokens from offset `at` on, where the text's rest is s and its first `skip` bytes belong to the token before.
unfoldable pub tokens_from : ℕ → ℕ → List ℕ → List Token
tokens_from at skip [] = record { kind = TokenKind.Eof; end = at } ∷ []
tokens_from at zero (b ∷ s) = from at (token_at (b ∷ s)) ∷ tokens_from (suc at) (pred (token_at (b ∷ s)).len) s
tokens_from at (suc skip) (b ∷ s) = tokens_from (suc at) skip s

-- The byte order mark: "EF BB BF (hexadecimal)" (01, W4).
abbrev pub mark : List ℕ
mark = 0xEF ∷ 0xBB ∷ 0xBF ∷ []

unfoldable pub has_mark : List ℕ → Bool
has_mark text = spelled mark text

-- The tokens of a text, Eof last: `Lexed::lex`. "At offset 0 the mark alone becomes one Whitespace token of three bytes; elsewhere it is read as
-- before." (01, W4)
unfoldable pub tokens_of : List ℕ → List Token
tokens_of text =
    cond (has_mark text) (record { kind = TokenKind.Whitespace; end = 3 } ∷ tokens_from 3 0 (drop 3 text))
    (tokens_from 0 0 text)

abbrev pub word : Token → ℕ
word t = token_word t.kind t.end
