-- `decode_hex` meets its contract: what stands between the quotes is decoded digit by digit.
use lib.Dec.{lit<}
use Rattle.decoder.specs.Inside.{inside-fits, hex-same}
use Rattle.decoder.proofs.decode_hex.Goals as goal

pub decode_digits-requires : goal.decode_digits-requires
decode_digits-requires c = inside-fits _ _ _ 4 _ _ _ c.spelling-source.ensures.0 c.inside-w.ensures c.token_start-start.ensures (lit< tt)

pub returns : goal.returns
returns c = rw (← (hex-same _ _ _ _ _ _ _ c.spelling-source.ensures.0 c.inside-w.ensures c.token_start-start.ensures c.token_end-end.ensures)) c.decode_digits.ensures
