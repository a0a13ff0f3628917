-- "Report kind 11 is never made again." (01, W7): whatever the text and whatever is lent, reading leaves no report of that kind.
use Rattle.std.specs.Prelude.{List, ℕ, get_or, take}
use Rattle.words.specs.Answer.{Answer, done, refused}
use Rattle.lexer.specs.Lex.{lexed, lexed_words}
use Rattle.definition.specs.Parse.{Parsed}
use Rattle.definition.proofs.Reserved.{NoneReserved, none_yet, parsed-none}
use Rattle.reader.specs.Read.{Lent, after, parsing, after_lexing, reads}

after_none : (lent : Lent) (tokens : List ℕ) (n : ℕ) (p : Parsed) (a : Answer) → NoneReserved p.words.reports → NoneReserved (after lent tokens n p a).reports
unfolding after
after_none lent tokens n p (done counts) h = h
after_none lent tokens n p (refused number place) h = none_yet lent.reports

pub none-reserved : (text : List ℕ) (lent : Lent) → NoneReserved (reads text lent).reports
unfolding reads after_lexing
none-reserved text lent = go (lexed text lent.tokens)
  where
    tokens : List ℕ
    tokens = lexed_words text lent.tokens

    go : (a : Answer) → NoneReserved (after_lexing text lent tokens a).reports
    go (refused number place) = none_yet lent.reports
    go (done counts) =
        let n = get_or counts 0 0 in
        let p = parsing text lent tokens n in
        after_none lent tokens n p p.answer (parsed-none text (take n tokens) lent.nodes lent.values lent.reports)
