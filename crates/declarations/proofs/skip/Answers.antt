-- `skip` meets its contract.
use Rattle.std.specs.Prelude.{not}
use Rattle.std.proofs.Common.{ap}
use Rattle.definition.specs.Declarations.{skip_unless_eof}
use Rattle.reading.specs.Does.{then, gives, when_true, when_false}
use Rattle.declarations.proofs.skip.Goals.{else-public-via-then-public+else-eof, else-public-via-else-public}
use Rattle.declarations.proofs.skip.Goals as goal

pub returns-then-eof : goal.returns-then-eof
unfolding skip_unless_eof
returns-then-eof c = rw c.if-public.true (then c.eof.ensures (when_false (ap not c.if-eof.true) gives))

pub returns : goal.returns
unfolding skip_unless_eof
returns c = elim c.else-public.branch [
  | else-public-via-then-public+else-eof w ↦ rw w.if-public.true (then w.eof.ensures (when_true (ap not w.if-eof.false) (rw w.p-is at c.skip_until_decl_start.ensures)))
  | else-public-via-else-public w ↦ rw w.if-public.false (rw w.p-is at c.skip_until_decl_start.ensures)
]
