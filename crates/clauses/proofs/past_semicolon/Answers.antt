-- `past_semicolon` meets its contract.
use Rattle.std.proofs.Common.{eq-eqb, ne_eqb}
use Rattle.words.specs.Token
use Rattle.reading.specs.Does.{then, gives, when_true, when_false}
use Rattle.clauses.proofs.past_semicolon.Goals as goal

pub returns-then-peek-eq-SEMICOLON : goal.returns-then-peek-eq-SEMICOLON
returns-then-peek-eq-SEMICOLON c = then c.peek.ensures (when_true (eq-eqb c.peek.result Token.Semicolon c.if-peek-eq-SEMICOLON.true) c.pass.ensures)

pub returns-else-peek-eq-SEMICOLON : goal.returns-else-peek-eq-SEMICOLON
returns-else-peek-eq-SEMICOLON c = then c.peek.ensures (when_false (ne_eqb c.peek.result Token.Semicolon c.if-peek-eq-SEMICOLON.false) gives)
