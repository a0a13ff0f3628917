-- `key_of` meets its contract, by the test over the table, and by that over the bytes which have no line in it.
use mathlib.Core.Path.{◌∙◌, ap}
use Prim.Native.Nat.{◌+◌, ◌-◌, ◌*◌}
use lib.ListN.{get_or}
use Rattle.rules.specs.Keys.{right}
use Rattle.rules.proofs.Keys.{key-at, key-self, key-none}
use Rattle.std.proofs.Common.{arith}
use Rattle.tables.proofs.Tables.key_of.Goals as goal

pub returns-in-83-eq4 : goal.returns-in-83-eq4
returns-in-83-eq4 c = key-self c.args.first c.args.n c.requires.0 c.requires.1 (omega arith) (λ l g. omega arith) (omega arith) (omega arith)

pub returns-in-97-to-122-default : goal.returns-in-97-to-122-default
returns-in-97-to-122-default c =
    let first = c.args.first in
    let n = c.args.n in
    ap (λ l. right (get_or l ((first - 97) * 8 + (n - 1)) 0) first n) c.args.self.now.keys_are ∙ key-at first n c.requires.0 c.requires.1 (omega arith) (omega arith)

pub returns-in_default : goal.returns-in_default
returns-in_default c = key-none c.args.first c.args.n c.requires.0 c.requires.1 (omega arith) (λ l g. omega arith) (λ e f. omega arith)

pub returns-in_default-2 : goal.returns-in_default-2
returns-in_default-2 c = key-none c.args.first c.args.n c.requires.0 c.requires.1 (omega arith) (λ l g. omega arith) (λ e f. omega arith)

pub returns-in_default-3 : goal.returns-in_default-3
returns-in_default-3 c = key-none c.args.first c.args.n c.requires.0 c.requires.1 (omega arith) (λ l g. omega arith) (λ e f. omega arith)
