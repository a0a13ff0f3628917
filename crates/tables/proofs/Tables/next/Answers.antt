-- `next` meets its contract: bytes of one class are alike.
use mathlib.Core.Path.{◌∙◌, ap}
use Prim.Native.Nat.{◌<◌}
use Rattle.rules.specs.Rule.{member, after}
use Rattle.rules.specs.Alike.{alike, class-from, class-to, after-from, after-to}
use Rattle.std.proofs.Common.{rules}
use Rattle.tables.proofs.Tables.next.Goals as goal

pub entry-requires : goal.entry-requires
entry-requires c = let h : c.args.b < 256 = search rules in (c.requires.0, c.requires.1, (rw c.class.ensures.0 (class-from _ h)), (rw c.class.ensures.0 (class-to _ h)))

pub returns : goal.returns
returns c = let h : c.args.b < 256 = search rules in let e = c.entry.ensures ∙ (ap (λ x. after c.args.state (member x)) c.class.ensures.0 ∙ alike _ _ h) in (e, (rw e (after-from _ h _)), (rw e (after-to _ h _)))
