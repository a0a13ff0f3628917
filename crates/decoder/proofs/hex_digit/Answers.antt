-- `hex_digit` meets its contract, whether there is a digit or not.
use Rattle.decoder.specs.Hex.{digit-told}
use Rattle.decoder.proofs.hex_digit.Goals as goal

pub returns : goal.returns
returns c = rw c.unwrap_or.ensures (digit-told _ _ _ _ c.char_at-c.ensures _ c.nibble-digit.ensures.0 c.nibble-digit.ensures.1 _ c.is_none.ensures)
