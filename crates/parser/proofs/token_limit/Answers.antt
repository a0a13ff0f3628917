-- `token_limit` meets its contract.
use Rattle.definition.specs.Parse.{token_limit}
use native.Mathlib.Omega.{arith}
use Rattle.parser.proofs.token_limit.Goals as goal

pub returns-then-n-lt4294967295 : goal.returns-then-n-lt4294967295
unfolding token_limit
returns-then-n-lt4294967295 c = omega arith

pub returns : goal.returns
unfolding token_limit
returns c = omega arith
