-- `take_four` meets its contract: four chunks are a larger one.
use Rattle.numerals.specs.Chunks.{chunk-then}
use Rattle.numerals.proofs.take_four.Goals as goal

pub returns : goal.returns
returns c = let two = chunk-then _ _ _ _ _ _ c.chunk_at-a.ensures _ _ _ c.chunk_at-b.ensures in let three = chunk-then _ _ _ _ _ _ two _ _ _ c.chunk_at-c.ensures in record { value = _; unit = _; chunk = chunk-then _ _ _ _ _ _ three _ _ _ c.chunk_at-d.ensures; pushed = c.push_four-count.ensures }
