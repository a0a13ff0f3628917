-- `decode_string` meets its contract: what stands between the quotes is decoded piece by piece.
use Rattle.decoder.specs.Inside.{inside-fits, string-same}
use lib.Dec.{lit<}
use Rattle.decoder.proofs.decode_string.Goals as goal

pub decode_pieces-requires : goal.decode_pieces-requires
decode_pieces-requires c = inside-fits _ _ _ 1 _ _ _ c.spelling-source.ensures.0 c.inside-w.ensures c.token_start-start.ensures (lit< tt)

pub returns : goal.returns
returns c = rw (← (string-same _ _ _ _ _ _ c.spelling-source.ensures.0 c.inside-w.ensures c.token_start-start.ensures)) c.decode_pieces.ensures
