-- `next_token` meets its contract: no more than the first 65,536 bytes are lent on.
use Rattle.std.proofs.Common.{◌≡◌, min, length, arith}
use Rattle.std.proofs.lemmas.List.{take_min}
use Rattle.scan.specs.Lexer.{longest_text}
use Rattle.tokens.proofs.next_token.Goals as goal

pub returns : goal.returns
returns c =
    let text = c.args.text.now in
    let e : c.min.result ≡ min longest_text (length text) = omega arith in
    rw (e, take_min longest_text text) at c.token_or_end.ensures
