-- Cases of document 01, and corners that it and its reading notes name, computed of the definition.
use Rattle.std.specs.Prelude.{◌≡◌, refl, List, [], ◌∷◌, ◌++◌, map, ℕ}
use Rattle.words.specs.Token as TokenKind
use Rattle.words.specs.Refusal
use Rattle.words.specs.Answer.{refused}
use Rattle.words.specs.Order.{counted}
use Rattle.utf8.specs.Utf8.{has, follow, sequence_by, table, checked_from, lead_bits, joined, code_point, character_at}
use Rattle.scan.specs.Bytes.{ascii, digit, upper, lower, ident_start, ident_part, blank, is_digit}
use Rattle.lexer.specs.Lex.{lexed}
use Rattle.scan.specs.Lexer.{mark, has_mark, tokens_of, tokens_from, token_at, longest, rules, punctuation, keywords, others, matched, spelled, classed, run, string, number, block_comment, line_comment, invalid_char}

-- A case: its text, and the kinds and ends of its tokens but Eof.
record Case : Type 0 where
  text : List ℕ
  kinds : List ℕ
  ends : List ℕ

lexes : List ℕ → List ℕ → List ℕ → Case
lexes text kinds ends = record { text = text; kinds = kinds; ends = ends }

table-of-cases : List Case
unfolding lexes
table-of-cases =
    -- P2 to P5
    lexes (ascii "/**/") (TokenKind.BlockComment ∷ []) (4 ∷ [])
    ∷ lexes (ascii "/*/*/") (TokenKind.UnclosedBlockCommentError ∷ []) (5 ∷ [])
    ∷ lexes (ascii "0xg") (TokenKind.MalformedIdentError ∷ []) (3 ∷ [])
    ∷ lexes (ascii "==>") (TokenKind.DoubleEquals ∷ TokenKind.GreaterThan ∷ []) (2 ∷ 3 ∷ [])
    -- comments
    ∷ lexes (ascii "/*/**/*/;") (TokenKind.BlockComment ∷ TokenKind.Semicolon ∷ []) (8 ∷ 9 ∷ [])
    ∷ lexes (ascii "//*\r\n;") (TokenKind.LineComment ∷ TokenKind.Semicolon ∷ []) (5 ∷ 6 ∷ [])
    ∷ lexes (ascii "/*/") (TokenKind.UnclosedBlockCommentError ∷ []) (3 ∷ [])
    -- a byte order mark in front: Alone, before blanks, before a second one, and one that isn't in front (01, W4)
    ∷ lexes mark (TokenKind.Whitespace ∷ []) (3 ∷ [])
    ∷ lexes (mark ++ ascii " \n;") (TokenKind.Whitespace ∷ TokenKind.Whitespace ∷ TokenKind.Semicolon ∷ []) (3 ∷ 5 ∷ 6 ∷ [])
    ∷ lexes (mark ++ mark) (TokenKind.Whitespace ∷ TokenKind.InvalidCharError ∷ []) (3 ∷ 6 ∷ [])
    ∷ lexes (ascii " " ++ mark) (TokenKind.Whitespace ∷ TokenKind.InvalidCharError ∷ []) (1 ∷ 4 ∷ [])
    -- words and numbers
    ∷ lexes (ascii "const constx") (TokenKind.Const ∷ TokenKind.Whitespace ∷ TokenKind.Identifier ∷ []) (5 ∷ 6 ∷ 12 ∷ [])
    ∷ lexes (ascii "@a@") (TokenKind.BuiltinName ∷ TokenKind.AtWithoutIdentError ∷ []) (2 ∷ 3 ∷ [])
    ∷ lexes (ascii "0x_1") (TokenKind.MalformedIdentError ∷ []) (4 ∷ [])
    ∷ lexes (ascii "0xA_f") (TokenKind.HexLiteral ∷ []) (5 ∷ [])
    ∷ lexes (ascii "0b2") (TokenKind.MalformedIdentError ∷ []) (3 ∷ [])
    -- `1é`: a letter is ASCII
    ∷ lexes (49 ∷ 0xC3 ∷ 0xA9 ∷ []) (TokenKind.DecimalLiteral ∷ TokenKind.InvalidCharError ∷ []) (1 ∷ 3 ∷ [])
    -- strings
    ∷ lexes (ascii "\"\\\"\"") (TokenKind.LooseStringLiteral ∷ []) (4 ∷ [])
    ∷ lexes (ascii "hex\"\\\"") (TokenKind.LooseHexStringLiteral ∷ []) (6 ∷ [])
    ∷ lexes (ascii "\"\n\"") (TokenKind.MultilineStringError ∷ []) (3 ∷ [])
    ∷ lexes (ascii "\"\\\n\"") (TokenKind.LooseStringLiteral ∷ []) (4 ∷ [])
    ∷ lexes (ascii "\"\n") (TokenKind.UnclosedStringError ∷ []) (2 ∷ [])
    ∷ []

-- the kinds and ends that the definition gives, Eof's kind and the text's length last
given : Case → List ℕ × List ℕ
given c = (map (λ t. t.kind) (tokens_of c.text), map (λ t. t.end) (tokens_of c.text))

last : List ℕ → ℕ
last [] = 0
last (e ∷ []) = e
last (e ∷ f ∷ es) = last (f ∷ es)

expected : Case → List ℕ × List ℕ
expected c = (c.kinds ++ (TokenKind.Eof ∷ []), c.ends ++ (last c.ends ∷ []))

cases-hold : map given table-of-cases ≡ map expected table-of-cases
unfolding table-of-cases lexes given expected last has_mark tokens_of tokens_from token_at longest rules punctuation keywords others matched spelled classed run ident_start ident_part blank digit upper lower is_digit line_comment block_comment number string invalid_char has follow sequence_by table lead_bits joined code_point character_at
cases-hold = refl

-- The smallest texts that aren't UTF-8 in each way (01, W1), with the refusal's number.
smallest : List (List ℕ × ℕ)
smallest =
    (0x80 ∷ [], Refusal.NotUtf8Start)
    ∷ (0xC0 ∷ [], Refusal.NotUtf8Start)
    ∷ (0xF5 ∷ [], Refusal.NotUtf8Start)
    ∷ (0xE0 ∷ 0x80 ∷ [], Refusal.NotUtf8Later)
    ∷ (0xED ∷ 0xA0 ∷ [], Refusal.NotUtf8Later)
    ∷ (0xF4 ∷ 0x90 ∷ [], Refusal.NotUtf8Later)
    ∷ (0xE2 ∷ 0x82 ∷ 0x41 ∷ [], Refusal.NotUtf8Later)
    ∷ (0xC2 ∷ [], Refusal.NotUtf8Cut)
    ∷ (0xE2 ∷ 0x82 ∷ [], Refusal.NotUtf8Cut)
    ∷ (0xF0 ∷ 0x9F ∷ 0x92 ∷ [], Refusal.NotUtf8Cut)
    ∷ []

-- `aé木🌲`, ten bytes: a character of each length.
good : List ℕ
good = 0x61 ∷ 0xC3 ∷ 0xA9 ∷ 0xE6 ∷ 0x9C ∷ 0xA8 ∷ 0xF0 ∷ 0x9F ∷ 0x8C ∷ 0xB2 ∷ []

-- Alone and behind good text: "The place stays the start of the bad sequence" (01, W1).
smallest-refused : map (λ c. lexed c.0 0) smallest ≡ map (λ c. refused c.1 0) smallest
unfolding smallest lexed checked_from has follow sequence_by table
smallest-refused = refl

smallest-behind : map (λ c. lexed (good ++ c.0) 0) smallest ≡ map (λ c. refused c.1 10) smallest
unfolding smallest good lexed checked_from has follow sequence_by table
smallest-behind = refl

-- Each byte above ASCII Alone: 80 to C1 and F5 to FF start no sequence, and the text ends inside the one that each other starts.
Alone : (first size number : ℕ) → Type 0
Alone first size number = map (λ b. lexed (b ∷ []) 0) (counted first size) ≡ map (λ b. refused number 0) (counted first size)

no_start : Alone 0x80 66 Refusal.NotUtf8Start
unfolding Alone lexed checked_from has follow sequence_by table
no_start = refl

starts : Alone 0xC2 51 Refusal.NotUtf8Cut
unfolding Alone lexed checked_from has follow sequence_by table
starts = refl

past-the-table : Alone 0xF5 11 Refusal.NotUtf8Start
unfolding Alone lexed checked_from has follow sequence_by table
past-the-table = refl
