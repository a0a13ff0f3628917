use Prim.Native.Nat.{◌+◌, ◌*◌}
use mathlib.Core.Option.{none}
use Rattle.definition.specs.Expressions.{else_turn, arm_turn, expr_element, expr_turn, field_assign, member_turn, members, parse_parameter, tuple_turn}
use Rattle.reading.specs.Turns.{Turns}
use Rattle.readers.specs.Readers.{else_ifs}
use Rattle.words.specs.Token
use Rattle.stream.specs.Delimited.{Listing}
use Rattle.definition.specs.Statements.{body, stmt_turn}
use Rattle.cst.specs.Cst.{maybe}
use mathlib.Core.Bool.{false}
use Rattle.readers.proofs.+readers.Given as goal

abbrev pub decreases-tys : goal.decreases-tys
decreases-tys l = l.p.now.levels * 64 + 2

abbrev pub decreases-ty : goal.decreases-ty
decreases-ty l = l.p.now.levels * 64 + 2

abbrev pub decreases-tuple : goal.decreases-tuple
decreases-tuple l = l.p.now.levels * 64 + 2

abbrev pub decreases-tail : goal.decreases-tail
decreases-tail l = l.p.now.levels * 64 + 1

abbrev pub decreases-strct : goal.decreases-strct
decreases-strct l = l.p.now.levels * 64 + 7

abbrev pub decreases-stmt : goal.decreases-stmt
decreases-stmt l = l.p.now.levels * 64 + 5

abbrev pub decreases-sig : goal.decreases-sig
decreases-sig l = l.p.now.levels * 64 + 4

abbrev pub decreases-seq : goal.decreases-seq
decreases-seq l = l.p.now.levels * 64 + 6

abbrev pub decreases-ret : goal.decreases-ret
decreases-ret l = l.p.now.levels * 64 + 2

abbrev pub decreases-rep : goal.decreases-rep
decreases-rep l = l.p.now.levels * 64 + 2

abbrev pub decreases-put : goal.decreases-put
decreases-put l = l.p.now.levels * 64 + 2

abbrev pub decreases-post : goal.decreases-post
decreases-post l = l.p.now.levels * 64 + 5

abbrev pub decreases-pick : goal.decreases-pick
decreases-pick l = l.p.now.levels * 64 + 5

abbrev pub decreases-pars : goal.decreases-pars
decreases-pars l = l.p.now.levels * 64 + 3

abbrev pub decreases-paren : goal.decreases-paren
decreases-paren l = l.p.now.levels * 64 + 3

abbrev pub decreases-par : goal.decreases-par
decreases-par l = l.p.now.levels * 64 + 2

abbrev pub decreases-must : goal.decreases-must
decreases-must l = l.p.now.levels * 64 + 1

abbrev pub decreases-meth : goal.decreases-meth
decreases-meth l = l.p.now.levels * 64 + 5

abbrev pub decreases-mem : goal.decreases-mem
decreases-mem l = l.p.now.levels * 64 + 3

abbrev pub decreases-lit : goal.decreases-lit
decreases-lit l = l.p.now.levels * 64 + 4

abbrev pub decreases-key : goal.decreases-key
decreases-key l = l.p.now.levels * 64 + 2

abbrev pub decreases-inner : goal.decreases-inner
decreases-inner l = l.p.now.levels * 64 + 6

abbrev pub decreases-inits : goal.decreases-inits
decreases-inits l = l.p.now.levels * 64 + 3

abbrev pub decreases-init : goal.decreases-init
decreases-init l = l.p.now.levels * 64 + 2

abbrev pub decreases-idx : goal.decreases-idx
decreases-idx l = l.p.now.levels * 64 + 1

abbrev pub decreases-func : goal.decreases-func
decreases-func l = l.p.now.levels * 64 + 5

abbrev pub decreases-fork : goal.decreases-fork
decreases-fork l = l.p.now.levels * 64 + 6

abbrev pub decreases-field : goal.decreases-field
decreases-field l = l.p.now.levels * 64 + 2

abbrev pub decreases-expr : goal.decreases-expr
decreases-expr l = l.p.now.levels * 64 + 0

-- What reads at a level that was opened calls all others.
abbrev pub decreases-block_within : goal.decreases-block_within
decreases-block_within l = l.p.now.levels * 64 + 9

abbrev pub decreases-elif : goal.decreases-elif
decreases-elif l = l.p.now.levels * 64 + 2

abbrev pub decreases-elems : goal.decreases-elems
decreases-elems l = l.p.now.levels * 64 + 1

abbrev pub decreases-cond : goal.decreases-cond
decreases-cond l = l.p.now.levels * 64 + 4

abbrev pub decreases-comp : goal.decreases-comp
decreases-comp l = l.p.now.levels * 64 + 4

abbrev pub decreases-call : goal.decreases-call
decreases-call l = l.p.now.levels * 64 + 2

abbrev pub decreases-block : goal.decreases-block
decreases-block l = l.p.now.levels * 64 + 0

abbrev pub decreases-bind : goal.decreases-bind
decreases-bind l = l.p.now.levels * 64 + 3

abbrev pub decreases-bare : goal.decreases-bare
decreases-bare l = l.p.now.levels * 64 + 3

abbrev pub decreases-atom : goal.decreases-atom
decreases-atom l = l.p.now.levels * 64 + 8

abbrev pub decreases-arms : goal.decreases-arms
decreases-arms l = l.p.now.levels * 64 + 4

abbrev pub decreases-arm : goal.decreases-arm
decreases-arm l = l.p.now.levels * 64 + 3

abbrev pub decreases-alts : goal.decreases-alts
decreases-alts l = l.p.now.levels * 64 + 3

abbrev pub invariant-alts-loop-turn : goal.invariant-alts-loop-turn
invariant-alts-loop-turn l = Turns else_turn (else_ifs l.initial.list none) l.initial.p l._turn (else_ifs l.list none) l.p

abbrev pub invariant-arms-loop-turn : goal.invariant-arms-loop-turn
invariant-arms-loop-turn l = Turns arm_turn l.initial.list l.initial.p l._turn l.list l.p

abbrev pub invariant-elems-loop-turn : goal.invariant-elems-loop-turn
invariant-elems-loop-turn l = Listing l.terminator Token.Comma expr_element l.initial.list l.initial.p l._turn l.list l.emitted l.p

abbrev pub invariant-expr-loop-turn : goal.invariant-expr-loop-turn
invariant-expr-loop-turn l = Turns (expr_turn l.mode l.min l.head.start) l.initial.left l.initial.p l._turn l.left l.p

abbrev pub invariant-inits-loop-turn : goal.invariant-inits-loop-turn
invariant-inits-loop-turn l = Listing Token.RightCurly Token.Comma field_assign l.initial.list l.initial.p l._turn l.list l.emitted l.p

abbrev pub invariant-inner-loop-turn : goal.invariant-inner-loop-turn
invariant-inner-loop-turn l = Turns member_turn (members l.initial.body false) l.initial.p l._turn (members l.body l.seen) l.p

abbrev pub invariant-pars-loop-turn : goal.invariant-pars-loop-turn
invariant-pars-loop-turn l = Listing Token.RightRound Token.Comma parse_parameter l.initial.list l.initial.p l._turn l.list l.emitted l.p

abbrev pub invariant-seq-loop-turn : goal.invariant-seq-loop-turn
invariant-seq-loop-turn l = Turns stmt_turn (body l.initial.list none) l.initial.p l._turn (body l.list (maybe l.closing)) l.p

abbrev pub invariant-tuple-loop-turn : goal.invariant-tuple-loop-turn
invariant-tuple-loop-turn l = Turns tuple_turn l.initial.u l.initial.p l._turn l.u l.p
