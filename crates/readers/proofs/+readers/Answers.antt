use Prim.Native.Nat.{ℕ}
use mathlib.Core.Option.{Option}
use Rattle.definition.specs.Expressions.{block_here, arm_turn, eager_function, try_parse_expr, expr_element, conditional, match_expr, try_parse_conditional, try_parse_match, parse_function_def, member_turn, method_turn, keyed_arm, field_turn, parse_expr, tuple_turn}
use Rattle.reading.specs.Does.{then, gives, when_true, when_false, Does}
use Rattle.reading.specs.Turns.{first-turn, next-turn, last_turn, no-turn-left, refused-turn}
use Rattle.cst.specs.Laws.{position-is}
use Rattle.answers.specs.Same.{regrouped, taken_none}
use Rattle.answers.proofs.Segments.{else_same, operand_same, after_same, let-same, block_same, call_same, cond_same, elif-same, turn-same, expr-same, field-same, init-same, literal-same, method-same, param-same, paren-same, select-same, assign-same, while-same, sign_same, stmt-same, record_same, more_same, types_same}
use native.Mathlib.Omega.{arith}
use borrow.Author.Tests.{not-true, not-false}
use Rattle.words.specs.Token
use Rattle.definition.specs.Tokens.{eof}
use Rattle.stream.specs.Delimited.{list_ends, list-starts, list-refused, list_over, found-next, found-last, missing-next, missing-last}
use Rattle.answers.specs.Rules.{one-of, or_some, or-none, or-missed, eats-found, eats-missed, checks-found, checks-missed}
use Rattle.answers.specs.Programs.{branching, ways_of, operand_ways, last_rest, stmt_ways}
use Rattle.definition.specs.Statements.{expr_stmt, comptime_stmt, let_stmt, return_stmt, stmt_turn}
use Rattle.readers.specs.Level.{no_block, block-level, no-expr, expr-level}
use mathlib.Core.Path.{◌≡◌, sym, ◌∙◌}
use Rattle.std.specs.Prelude.{Option as Maybe}
use Rattle.definition.specs.Prog.{Prog}
use Rattle.reading.specs.declared.parser.Parser.{Parser}
use Rattle.definition.specs.declared.Mode.{Mode}
use Rattle.cst.specs.Cst.{maybe}
use Rattle.readers.proofs.+readers.Goals as goal
use Rattle.readers.proofs.+readers.Goals.{elems-in-Some+else-not-eat, elems-in-None+else-list_ends, expr-in-Some, expr-in-None, expr-else-loop-turn-test, expr-then-loop-turn-test+then-is_refused, expr-then-loop-turn-test+else-is_refused+in_default-post+in_default-it, inits-in-Some+else-not-eat, inits-in-None+else-list_ends, inner-then-one_of-2, inner-else-one_of-2, paren-then-more, paren-else-more, pars-in-Some+else-not-eat, pars-in-None+else-list_ends}

-- `alts` meets its contract: what is left of the loop comes to what the whole loop comes to.
pub alts-loop-turn-init : goal.alts-loop-turn-init
alts-loop-turn-init t c = first-turn

pub alts-loop-turn-preserved : goal.alts-loop-turn-preserved
alts-loop-turn-preserved t c = next-turn c.loop-turn.invariant c.turns_of-turn-end.ensures c.loop-turn-test.true (regrouped (else_same _ _ _ _) (then (rw c.in-Some-If.field-0-is at c.in-Some-If.ensures) c.elif-list.ensures))

pub alts-returns-after-loop-turn : goal.alts-returns-after-loop-turn
alts-returns-after-loop-turn t c = no-turn-left c.loop-turn.invariant c.turns_of-turn-end.ensures c.loop-turn-test.false

pub alts-returns-in-None : goal.alts-returns-in-None
alts-returns-in-None t c = last_turn c.loop-turn.invariant c.turns_of-turn-end.ensures c.loop-turn-test.true (regrouped (else_same _ _ _ _) (then (rw c.in-None.is at c.else_kind.ensures) gives))

pub alts-returns-in-Some-Last : goal.alts-returns-in-Some-Last
unfolding block_here
alts-returns-in-Some-Last t c = last_turn c.loop-turn.invariant c.turns_of-turn-end.ensures c.loop-turn-test.true (regrouped (else_same _ _ _ _) (then (rw c.in-Some-Last.field-0-is at c.in-Some-Last.ensures) (then (then position-is c.block.ensures) gives)))

-- `arm` meets its contract.
pub arm-returns : goal.arm-returns
arm-returns t c = then position-is (then c.key-u.ensures (then c.expect.ensures (then c.must-value.ensures c.end_arm.ensures)))

-- `arms` meets its contract: what is left of the loop comes to what the whole loop comes to.
pub arms-loop-turn-init : goal.arms-loop-turn-init
arms-loop-turn-init t c = first-turn

pub arms-loop-turn-preserved : goal.arms-loop-turn-preserved
unfolding arm_turn list_ends eof
arms-loop-turn-preserved t c = next-turn c.loop-turn.invariant c.turns_of-turn-end.ensures c.loop-turn-test.true (one-of Token.RightCurly Token.Eof c.list_ends.ensures (when_false c.if-list_ends.false (rw (not-false c.arm-more.result.on c.if-not-more.false) at c.arm-more.ensures)))

pub arms-returns-after-loop-turn : goal.arms-returns-after-loop-turn
arms-returns-after-loop-turn t c = no-turn-left c.loop-turn.invariant c.turns_of-turn-end.ensures c.loop-turn-test.false

pub arms-returns-then-list_ends : goal.arms-returns-then-list_ends
unfolding arm_turn list_ends eof
arms-returns-then-list_ends t c = last_turn c.loop-turn.invariant c.turns_of-turn-end.ensures c.loop-turn-test.true (one-of Token.RightCurly Token.Eof c.list_ends.ensures (when_true c.if-list_ends.true gives))

pub arms-returns-then-not-more : goal.arms-returns-then-not-more
unfolding arm_turn list_ends eof
arms-returns-then-not-more t c = last_turn c.loop-turn.invariant c.turns_of-turn-end.ensures c.loop-turn-test.true (one-of Token.RightCurly Token.Eof c.list_ends.ensures (when_false c.if-list_ends.false (rw (not-true c.arm-more.result.on c.if-not-more.true) at c.arm-more.ensures)))

-- `atom` meets its contract.
pub atom-returns-in-0 : goal.atom-returns-in-0
atom-returns-in-0 t c = regrouped (operand_same _ _ _) (then position-is (or-none c.simple-one.result (sym c.is_some.ensures ∙ c.if-is_some.false) c.simple-one.ensures (then c.eat_first.ensures (rw c.in-0.is (then c.paren.ensures gives)))))

pub atom-returns-in-1 : goal.atom-returns-in-1
atom-returns-in-1 t c = regrouped (operand_same _ _ _) (then position-is (or-none c.simple-one.result (sym c.is_some.ensures ∙ c.if-is_some.false) c.simple-one.ensures (then c.eat_first.ensures (rw c.in-1.is (then c.block.ensures gives)))))

pub atom-returns-in-2 : goal.atom-returns-in-2
unfolding eager_function
atom-returns-in-2 t c = regrouped (operand_same _ _ _) (then position-is (or-none c.simple-one.result (sym c.is_some.ensures ∙ c.if-is_some.false) c.simple-one.ensures (then c.eat_first.ensures (rw c.in-2.is (then (then c.expect.ensures c.func.ensures) gives)))))

pub atom-returns-in-3 : goal.atom-returns-in-3
atom-returns-in-3 t c = regrouped (operand_same _ _ _) (then position-is (or-none c.simple-one.result (sym c.is_some.ensures ∙ c.if-is_some.false) c.simple-one.ensures (then c.eat_first.ensures (rw c.in-3.is (then c.func-in-3.ensures gives)))))

pub atom-returns-in-4 : goal.atom-returns-in-4
atom-returns-in-4 t c = regrouped (operand_same _ _ _) (then position-is (or-none c.simple-one.result (sym c.is_some.ensures ∙ c.if-is_some.false) c.simple-one.ensures (then c.eat_first.ensures (rw c.in-4.is (then c.strct.ensures gives)))))

pub atom-returns-in-5 : goal.atom-returns-in-5
atom-returns-in-5 t c = regrouped (operand_same _ _ _) (then position-is (or-none c.simple-one.result (sym c.is_some.ensures ∙ c.if-is_some.false) c.simple-one.ensures (then c.eat_first.ensures (rw c.in-5.is (then c.tys.ensures gives)))))

pub atom-returns-in_default : goal.atom-returns-in_default
atom-returns-in_default t c = regrouped (operand_same _ _ _) (then position-is (or-none c.simple-one.result (sym c.is_some.ensures ∙ c.if-is_some.false) c.simple-one.ensures (then c.eat_first.ensures (rw (taken_none (ways_of (operand_ways c.args.p.now.state.cursor.at)) branching c.eat_first.result (omega arith)) c.fork.ensures))))

pub atom-returns-then-is_some : goal.atom-returns-then-is_some
atom-returns-then-is_some t c = regrouped (operand_same _ _ _) (then position-is (or_some c.simple-one.result (sym c.is_some.ensures ∙ c.if-is_some.true) c.simple-one.ensures))

-- `bare` meets its contract.
pub bare-returns-in-Assign : goal.bare-returns-in-Assign
unfolding expr_stmt try_parse_expr
bare-returns-in-Assign t c = then (rw c.in-Some.is at c.expr.ensures) (regrouped (after_same _ _ _ _ _) (then (rw c.in-Assign.is at c.after_expr.ensures) c.put.ensures))

pub bare-returns-in-Whole : goal.bare-returns-in-Whole
unfolding expr_stmt try_parse_expr
bare-returns-in-Whole t c = then (rw c.in-Some.is at c.expr.ensures) (regrouped (after_same _ _ _ _ _) (then (rw c.in-Whole.is at c.after_expr.ensures) gives))

pub bare-returns-in_default : goal.bare-returns-in_default
unfolding expr_stmt try_parse_expr
bare-returns-in_default t c = then (rw c.in_default.is at c.expr.ensures) gives

-- `bind` meets its contract.
pub bind-returns : goal.bind-returns
bind-returns t c = regrouped (let-same _ _ _ _ _) (then c.open_let-head.ensures (then c.ty-u.ensures (then (rw c.let_flags-payload.ensures at c.let_equals.ensures) (then c.must-value.ensures c.end_let.ensures))))

-- `block` meets its contract.
pub block-returns-then-p-eq0 : goal.block-returns-then-p-eq0
block-returns-then-p-eq0 t c = rw c.too_deep.ensures (no_block c.if-p-eq0.true)

-- `call` meets its contract.
pub call-returns : goal.call-returns
call-returns t c = regrouped (call_same _ _ _ _ _) (then c.open_call-u.ensures (then c.elems-all.ensures c.end_node.ensures))

-- `comp` meets its contract.
pub comp-returns : goal.comp-returns
unfolding comptime_stmt
comp-returns t c = then c.check.ensures (when_false c.if-check.false (then c.eat-2.ensures (when_false c.if-eat-2.false c.comptime_error.ensures)))

pub comp-returns-then-check : goal.comp-returns-then-check
unfolding comptime_stmt
comp-returns-then-check t c = then c.check.ensures (when_true c.if-check.true (then c.block-n.ensures (then c.eat.ensures (when_false c.if-eat.false gives))))

pub comp-returns-then-eat : goal.comp-returns-then-eat
unfolding comptime_stmt
comp-returns-then-eat t c = then c.check.ensures (when_true c.if-check.true (then c.block-n.ensures (then c.eat.ensures (when_true c.if-eat.true gives))))

pub comp-returns-then-eat-2 : goal.comp-returns-then-eat-2
unfolding comptime_stmt let_stmt
comp-returns-then-eat-2 t c = then c.check.ensures (when_false c.if-check.false (then c.eat-2.ensures (when_true c.if-eat-2.true (then c.bind.ensures gives))))

-- `cond` meets its contract.
pub cond-returns : goal.cond-returns
cond-returns t c = regrouped (cond_same _ _ _ _) (then c.open_from-u.ensures (then (then c.must-test.ensures c.tail-u.ensures) (then c.open_here-list.ensures (then c.alts-all.ensures c.close_if.ensures))))

-- `elems` meets its contract: what is left of the list comes to what the whole list comes to.
pub elems-loop-turn-init : goal.elems-loop-turn-init
elems-loop-turn-init t c = list-starts

pub elems-loop-turn-preserved : goal.elems-loop-turn-preserved
unfolding expr_element try_parse_expr
elems-loop-turn-preserved t c =
    elim c.match-expr.branch [
      | elems-in-Some+else-not-eat w ↦ rw (w.list-is, w.emitted-is, w.p-is) (found-next c.loop-turn.invariant c.turns_of-turn-end.ensures c.loop-turn-test.true (then (rw w.in-Some.is at c.expr.ensures) (then w.push_child-list.ensures gives)) (rw w.if-not-eat.false at w.eat.ensures))
      | elems-in-None+else-list_ends w ↦ rw (w.list-is, w.emitted-is, w.p-is) (missing-next c.loop-turn.invariant c.turns_of-turn-end.ensures c.loop-turn-test.true (then (rw w.in-None.is at c.expr.ensures) gives) (rw w.if-list_ends.false at w.list_ends.ensures) w.pass_unexpected.ensures)
    ]

pub elems-returns-after-loop-turn : goal.elems-returns-after-loop-turn
elems-returns-after-loop-turn t c = list_over c.loop-turn.invariant c.turns_of-turn-end.ensures c.loop-turn-test.false

pub elems-returns-then-is_refused : goal.elems-returns-then-is_refused
elems-returns-then-is_refused t c = list-refused c.loop-turn.invariant (sym c.is_refused.ensures ∙ c.if-is_refused.true)

pub elems-returns-then-list_ends : goal.elems-returns-then-list_ends
unfolding expr_element try_parse_expr
elems-returns-then-list_ends t c = missing-last c.loop-turn.invariant c.turns_of-turn-end.ensures c.loop-turn-test.true (then (rw c.in-None.is at c.expr.ensures) gives) (rw c.if-list_ends.true at c.list_ends.ensures)

pub elems-returns-then-not-eat : goal.elems-returns-then-not-eat
unfolding expr_element try_parse_expr
elems-returns-then-not-eat t c = found-last c.loop-turn.invariant c.turns_of-turn-end.ensures c.loop-turn-test.true (then (rw c.in-Some.is at c.expr.ensures) (then c.push_child-list.ensures gives)) (rw c.if-not-eat.true at c.eat.ensures)

-- `elif` meets its contract.
pub elif-returns : goal.elif-returns
elif-returns t c = regrouped (elif-same _ _ _ _ _) (then c.open_from-u.ensures (then (then c.must-test.ensures c.tail-u.ensures) (then c.close_node-n.ensures (then c.push_child.ensures gives))))

-- `field` meets its contract.
pub field-returns : goal.field-returns
field-returns t c = regrouped (field-same _ _ _) (then c.open_named-u.ensures (then c.must-kind.ensures c.push_close.ensures))

-- `fork` meets its contract.
pub fork-returns : goal.fork-returns
unfolding try_parse_conditional try_parse_match
fork-returns t c = or-missed (checks-missed Token.LeftCurly block_here c.check-curly.ensures c.if-curly.false) (or-missed (then position-is (eats-missed Token.If (conditional _) c.eat.ensures c.if-eat.false)) (then position-is (eats-missed Token.Match (match_expr _) c.eat-2.ensures c.if-eat-2.false)))

pub fork-returns-then-curly : goal.fork-returns-then-curly
unfolding block_here
fork-returns-then-curly t c = then (checks-found Token.LeftCurly c.check-curly.ensures c.if-curly.true (then position-is c.block.ensures)) gives

pub fork-returns-then-eat : goal.fork-returns-then-eat
unfolding try_parse_conditional
fork-returns-then-eat t c = or-missed (checks-missed Token.LeftCurly block_here c.check-curly.ensures c.if-curly.false) (then (then position-is (eats-found Token.If c.eat.ensures c.if-eat.true c.cond.ensures)) gives)

pub fork-returns-then-eat-2 : goal.fork-returns-then-eat-2
unfolding try_parse_conditional try_parse_match
fork-returns-then-eat-2 t c = or-missed (checks-missed Token.LeftCurly block_here c.check-curly.ensures c.if-curly.false) (or-missed (then position-is (eats-missed Token.If (conditional _) c.eat.ensures c.if-eat.false)) (then position-is (eats-found Token.Match c.eat-2.ensures c.if-eat-2.true c.pick.ensures)))

-- `func` meets its contract.
pub func-returns : goal.func-returns
unfolding parse_function_def
func-returns t c = then c.open_fn-u.ensures (then c.sig-u.ensures c.close_node.ensures)

-- `idx` meets its contract.
pub idx-returns : goal.idx-returns
unfolding try_parse_expr
idx-returns t c = then c.check.ensures (when_false c.if-check.false c.expr.ensures)

pub idx-returns-then-check : goal.idx-returns-then-check
idx-returns-then-check t c = then c.check.ensures (when_true c.if-check.true gives)

-- `init` meets its contract.
pub init-returns : goal.init-returns
init-returns t c = regrouped (init-same _ _ _ _) (then c.check.ensures (when_true c.if-not-check.false (then c.open_named-u.ensures (then c.must-value.ensures c.add_element.ensures))))

pub init-returns-then-not-check : goal.init-returns-then-not-check
init-returns-then-not-check t c = regrouped (init-same _ _ _ _) (then c.check.ensures (when_false c.if-not-check.true gives))

-- `inits` meets its contract: what is left of the list comes to what the whole list comes to.
pub inits-loop-turn-init : goal.inits-loop-turn-init
inits-loop-turn-init t c = list-starts

pub inits-loop-turn-preserved : goal.inits-loop-turn-preserved
inits-loop-turn-preserved t c =
    elim c.match-init.branch [
      | inits-in-Some+else-not-eat w ↦ rw (w.list-is, w.emitted-is, w.p-is) (found-next c.loop-turn.invariant c.turns_of-turn-end.ensures c.loop-turn-test.true (rw w.in-Some.is at c.init.ensures) (rw w.if-not-eat.false at w.eat.ensures))
      | inits-in-None+else-list_ends w ↦ rw (w.list-is, w.emitted-is, w.p-is) (missing-next c.loop-turn.invariant c.turns_of-turn-end.ensures c.loop-turn-test.true (rw w.in-None.is at c.init.ensures) (rw w.if-list_ends.false at w.list_ends.ensures) w.pass_unexpected.ensures)
    ]

pub inits-returns-after-loop-turn : goal.inits-returns-after-loop-turn
inits-returns-after-loop-turn t c = list_over c.loop-turn.invariant c.turns_of-turn-end.ensures c.loop-turn-test.false

pub inits-returns-then-is_refused : goal.inits-returns-then-is_refused
inits-returns-then-is_refused t c = list-refused c.loop-turn.invariant (sym c.is_refused.ensures ∙ c.if-is_refused.true)

pub inits-returns-then-list_ends : goal.inits-returns-then-list_ends
inits-returns-then-list_ends t c = missing-last c.loop-turn.invariant c.turns_of-turn-end.ensures c.loop-turn-test.true (rw c.in-None.is at c.init.ensures) (rw c.if-list_ends.true at c.list_ends.ensures)

pub inits-returns-then-not-eat : goal.inits-returns-then-not-eat
inits-returns-then-not-eat t c = found-last c.loop-turn.invariant c.turns_of-turn-end.ensures c.loop-turn-test.true (rw c.in-Some.is at c.init.ensures) (rw c.if-not-eat.true at c.eat.ensures)

-- `inner` meets its contract: what is left of the loop comes to what the whole loop comes to.
pub inner-loop-turn-init : goal.inner-loop-turn-init
inner-loop-turn-init t c = first-turn

pub inner-loop-turn-preserved : goal.inner-loop-turn-preserved
unfolding member_turn method_turn eof
inner-loop-turn-preserved t c =
    elim c.if-one_of-2.branch [
      | inner-then-one_of-2 w ↦ rw (w.body-is, w.seen-is, w.p-is) (next-turn c.loop-turn.invariant c.turns_of-turn-end.ensures c.loop-turn-test.true (one-of Token.Eof Token.RightCurly c.one_of.ensures (when_false c.if-one_of.false (one-of Token.Eager Token.Fn c.one_of-in-loop-turn.ensures (when_true w.if-one_of-2.true (then w.meth-n.ensures (then w.push_child-body.ensures gives)))))))
      | inner-else-one_of-2 w ↦ rw (w.body-is, w.seen-is, w.p-is) (next-turn c.loop-turn.invariant c.turns_of-turn-end.ensures c.loop-turn-test.true (one-of Token.Eof Token.RightCurly c.one_of.ensures (when_false c.if-one_of.false (one-of Token.Eager Token.Fn c.one_of-in-loop-turn.ensures (when_false w.if-one_of-2.false w.mem-body.ensures)))))
    ]

pub inner-returns-after-loop-turn : goal.inner-returns-after-loop-turn
inner-returns-after-loop-turn t c = no-turn-left c.loop-turn.invariant c.turns_of-turn-end.ensures c.loop-turn-test.false

pub inner-returns-then-one_of : goal.inner-returns-then-one_of
unfolding member_turn eof
inner-returns-then-one_of t c = last_turn c.loop-turn.invariant c.turns_of-turn-end.ensures c.loop-turn-test.true (one-of Token.Eof Token.RightCurly c.one_of.ensures (when_true c.if-one_of.true gives))

-- `key` meets its contract.
pub key-returns : goal.key-returns
unfolding keyed_arm
key-returns t c = then c.eat.ensures (when_false c.if-eat.false (then c.open_here-u.ensures (then c.must-key.ensures c.push_child.ensures)))

pub key-returns-then-eat : goal.key-returns-then-eat
key-returns-then-eat t c = then c.eat.ensures (when_true c.if-eat.true c.fallback_arm.ensures)

-- `lit` meets its contract.
pub lit-returns : goal.lit-returns
lit-returns t c = regrouped (literal-same _ _ _ _ _) (then c.open_call-u.ensures (then c.inits-all.ensures c.end_node.ensures))

-- `mem` meets its contract.
pub mem-returns : goal.mem-returns
mem-returns t c = then c.check.ensures (when_false c.if-check.false c.no_member.ensures)

pub mem-returns-then-check : goal.mem-returns-then-check
unfolding field_turn
mem-returns-then-check t c = then c.check.ensures (when_true c.if-check.true (then c.note_field.ensures (then c.field-n.ensures c.after_field.ensures)))

-- `meth` meets its contract.
pub meth-returns : goal.meth-returns
meth-returns t c = regrouped (method-same _ _ _) (then c.open_method-u.ensures (then c.sig-u.ensures c.close_node.ensures))

-- `must` meets its contract.
pub must-returns : goal.must-returns
unfolding parse_expr try_parse_expr
must-returns t c = then c.expr-found.ensures c.unwrap_or_error.ensures

-- `par` meets its contract.
pub par-returns-in-None : goal.par-returns-in-None
par-returns-in-None t c = regrouped (param-same _ _ _ _) (then (rw c.in-None.is at c.param_head.ensures) gives)

pub par-returns-in-Some-Any : goal.par-returns-in-Some-Any
par-returns-in-Some-Any t c = regrouped (param-same _ _ _ _) (then (rw c.in-Some-Any.field-0-is at c.in-Some-Any.ensures) c.add_element.ensures)

pub par-returns-in-Some-Wants : goal.par-returns-in-Some-Wants
par-returns-in-Some-Wants t c = regrouped (param-same _ _ _ _) (then (rw c.in-Some-Wants.field-0-is at c.in-Some-Wants.ensures) (then c.must-kind.ensures c.add_element-in-Some-Wants.ensures))

-- `pars` meets its contract: what is left of the list comes to what the whole list comes to.
pub pars-loop-turn-init : goal.pars-loop-turn-init
pars-loop-turn-init t c = list-starts

pub pars-loop-turn-preserved : goal.pars-loop-turn-preserved
pars-loop-turn-preserved t c =
    elim c.match-par.branch [
      | pars-in-Some+else-not-eat w ↦ rw (w.list-is, w.emitted-is, w.p-is) (found-next c.loop-turn.invariant c.turns_of-turn-end.ensures c.loop-turn-test.true (rw w.in-Some.is at c.par.ensures) (rw w.if-not-eat.false at w.eat.ensures))
      | pars-in-None+else-list_ends w ↦ rw (w.list-is, w.emitted-is, w.p-is) (missing-next c.loop-turn.invariant c.turns_of-turn-end.ensures c.loop-turn-test.true (rw w.in-None.is at c.par.ensures) (rw w.if-list_ends.false at w.list_ends.ensures) w.pass_unexpected.ensures)
    ]

pub pars-returns-after-loop-turn : goal.pars-returns-after-loop-turn
pars-returns-after-loop-turn t c = list_over c.loop-turn.invariant c.turns_of-turn-end.ensures c.loop-turn-test.false

pub pars-returns-then-is_refused : goal.pars-returns-then-is_refused
pars-returns-then-is_refused t c = list-refused c.loop-turn.invariant (sym c.is_refused.ensures ∙ c.if-is_refused.true)

pub pars-returns-then-list_ends : goal.pars-returns-then-list_ends
pars-returns-then-list_ends t c = missing-last c.loop-turn.invariant c.turns_of-turn-end.ensures c.loop-turn-test.true (rw c.in-None.is at c.par.ensures) (rw c.if-list_ends.true at c.list_ends.ensures)

pub pars-returns-then-not-eat : goal.pars-returns-then-not-eat
pars-returns-then-not-eat t c = found-last c.loop-turn.invariant c.turns_of-turn-end.ensures c.loop-turn-test.true (rw c.in-Some.is at c.par.ensures) (rw c.if-not-eat.true at c.eat.ensures)

-- `pick` meets its contract.
pub pick-returns : goal.pick-returns
pick-returns t c = regrouped (select-same _ _ _ _) (then c.open_from-u.ensures (then c.must-subject.ensures (then c.open_arms-both.ensures (then c.arms-all.ensures c.end_body.ensures))))

-- `post` meets its contract.
pub post-returns-in-None : goal.post-returns-in-None
post-returns-in-None t c = then (rw c.in-None.is at c.postfix_kind.ensures) gives

pub post-returns-in-Some-Call : goal.post-returns-in-Some-Call
post-returns-in-Some-Call t c = then (rw c.in-Some-Call.field-0-is at c.in-Some-Call.ensures) (then c.call.ensures gives)

pub post-returns-in-Some-Literal : goal.post-returns-in-Some-Literal
post-returns-in-Some-Literal t c = then (rw c.in-Some-Literal.field-0-is at c.in-Some-Literal.ensures) (then c.lit.ensures gives)

pub post-returns-in-Some-Member : goal.post-returns-in-Some-Member
post-returns-in-Some-Member t c = then (rw c.in-Some-Member.field-0-is at c.in-Some-Member.ensures) gives

-- `put` meets its contract.
pub put-returns : goal.put-returns
put-returns t c = regrouped (assign-same _ _ _ _ _) (then c.open_assign-u.ensures (then c.must-right.ensures c.end_stmt.ensures))

-- `rep` meets its contract.
pub rep-returns : goal.rep-returns
rep-returns t c = regrouped (while-same _ _ _ _ _) (then c.open_from-u.ensures (then (then c.must-test.ensures c.tail-u.ensures) c.close_node.ensures))

-- `ret` meets its contract.
pub ret-returns : goal.ret-returns
unfolding return_stmt
ret-returns t c = then c.open_from-u.ensures (then c.must-value.ensures c.end_stmt.ensures)

-- `seq` meets its contract: what is left of the loop comes to what the whole loop comes to.
pub seq-loop-turn-init : goal.seq-loop-turn-init
seq-loop-turn-init t c = first-turn

pub seq-loop-turn-preserved : goal.seq-loop-turn-preserved
unfolding stmt_turn
seq-loop-turn-preserved t c = next-turn c.loop-turn.invariant c.turns_of-turn-end.ensures c.loop-turn-test.true (then c.check.ensures (when_false c.if-check.false (then c.stmt-next.ensures (rw c.if-more.false at c.add_stmt-more.ensures))))

pub seq-returns-after-loop-turn : goal.seq-returns-after-loop-turn
seq-returns-after-loop-turn t c = no-turn-left c.loop-turn.invariant c.turns_of-turn-end.ensures c.loop-turn-test.false

pub seq-returns-then-check : goal.seq-returns-then-check
unfolding stmt_turn
seq-returns-then-check t c = last_turn c.loop-turn.invariant c.turns_of-turn-end.ensures c.loop-turn-test.true (then c.check.ensures (when_true c.if-check.true gives))

pub seq-returns-then-more : goal.seq-returns-then-more
unfolding stmt_turn
seq-returns-then-more t c = last_turn c.loop-turn.invariant c.turns_of-turn-end.ensures c.loop-turn-test.true (then c.check.ensures (when_false c.if-check.false (then c.stmt-next.ensures (rw c.if-more.true at c.add_stmt-more.ensures))))

-- `sig` meets its contract.
pub sig-returns : goal.sig-returns
sig-returns t c = regrouped (sign_same _ _ _ _) (then c.open_list-list.ensures (then c.pars-list.ensures (then c.end_list-u.ensures (then c.must-test.ensures c.tail.ensures))))

-- `stmt` meets its contract.
pub stmt-returns-in-0 : goal.stmt-returns-in-0
stmt-returns-in-0 t c = regrouped (stmt-same _ _ _) (then position-is (then c.eat_first.ensures (rw c.in-0.is (then c.expect.ensures (then c.rep-n.ensures gives)))))

pub stmt-returns-in-1 : goal.stmt-returns-in-1
stmt-returns-in-1 t c = regrouped (stmt-same _ _ _) (then position-is (then c.eat_first.ensures (rw c.in-1.is (then c.rep-n-in-1.ensures gives))))

pub stmt-returns-in-2 : goal.stmt-returns-in-2
stmt-returns-in-2 t c = regrouped (stmt-same _ _ _) (then position-is (then c.eat_first.ensures (rw c.in-2.is c.ret.ensures)))

pub stmt-returns-in-3 : goal.stmt-returns-in-3
stmt-returns-in-3 t c = regrouped (stmt-same _ _ _) (then position-is (then c.eat_first.ensures (rw c.in-3.is c.comp.ensures)))

pub stmt-returns-in-4 : goal.stmt-returns-in-4
unfolding let_stmt
stmt-returns-in-4 t c = regrouped (stmt-same _ _ _) (then position-is (then c.eat_first.ensures (rw c.in-4.is (then c.bind.ensures gives))))

pub stmt-returns-in_default : goal.stmt-returns-in_default
stmt-returns-in_default t c = regrouped (stmt-same _ _ _) (then position-is (then c.eat_first.ensures (rw (taken_none (stmt_ways c.args.p.now.state.cursor.at) (expr_stmt c.args.p.now.state.cursor.at) c.eat_first.result (omega arith)) c.bare.ensures)))

-- `strct` meets its contract.
pub strct-returns : goal.strct-returns
strct-returns t c = regrouped (record_same _ _ _ _) (then c.open_from-u.ensures (then c.idx-found.ensures (then c.open_body-both.ensures (then c.inner-all.ensures c.end_body.ensures))))

-- `tail` meets its contract.
pub tail-returns : goal.tail-returns
unfolding block_here
tail-returns t c = then c.push_child-u.ensures (then (then position-is c.block-then.ensures) c.push_child.ensures)

-- `tuple` meets its contract: what is left of the loop comes to what the whole loop comes to.
pub tuple-loop-turn-init : goal.tuple-loop-turn-init
tuple-loop-turn-init t c = first-turn

pub tuple-loop-turn-preserved : goal.tuple-loop-turn-preserved
unfolding tuple_turn
tuple-loop-turn-preserved t c = next-turn c.loop-turn.invariant c.turns_of-turn-end.ensures c.loop-turn-test.true (then c.check.ensures (when_false c.if-check.false (then c.must-element.ensures (regrouped (more_same _ _ _ _ _) (then c.more-more.ensures (when_true (not-false c.more-more.result.on c.if-not-more.false) gives))))))

pub tuple-returns-after-loop-turn : goal.tuple-returns-after-loop-turn
tuple-returns-after-loop-turn t c = no-turn-left c.loop-turn.invariant c.turns_of-turn-end.ensures c.loop-turn-test.false

pub tuple-returns-then-check : goal.tuple-returns-then-check
unfolding tuple_turn
tuple-returns-then-check t c = last_turn c.loop-turn.invariant c.turns_of-turn-end.ensures c.loop-turn-test.true (then c.check.ensures (when_true c.if-check.true gives))

pub tuple-returns-then-not-more : goal.tuple-returns-then-not-more
unfolding tuple_turn
tuple-returns-then-not-more t c = last_turn c.loop-turn.invariant c.turns_of-turn-end.ensures c.loop-turn-test.true (then c.check.ensures (when_false c.if-check.false (then c.must-element.ensures (regrouped (more_same _ _ _ _ _) (then c.more-more.ensures (when_false (not-true c.more-more.result.on c.if-not-more.true) gives))))))

-- `ty` meets its contract.
pub ty-returns : goal.ty-returns
ty-returns t c = when_true c.if-not-typed.false (then c.must-kind.ensures c.push_child.ensures)

pub ty-returns-then-not-typed : goal.ty-returns-then-not-typed
ty-returns-then-not-typed t c = when_false c.if-not-typed.true gives

-- `tys` meets its contract.
pub tys-returns : goal.tys-returns
tys-returns t c = regrouped (types_same _ _ _ _) (then c.open_from-u.ensures (then c.expect.ensures (then c.elems-all.ensures c.end_node.ensures)))

-- `block` meets its contract.
pub block-returns : goal.block-returns
block-returns t c = block-level c.if-p-eq0.false c.block_within-n.ensures

-- `block_within` meets its contract.
pub block_within-returns : goal.block_within-returns
block_within-returns t c = regrouped (block_same _ _ _ _ _) (then c.open_block-both.ensures (then c.seq-all.ensures c.close_block.ensures))

-- `expr` meets its contract: what is left of the loop comes to what the whole loop comes to.
pub expr-returns-then-p-eq0 : goal.expr-returns-then-p-eq0
expr-returns-then-p-eq0 t c = rw c.too_deep.ensures (no-expr c.if-p-eq0.true)

-- What is read goes on from where two ways join.
joined : (mode : Mode) (least start : ℕ) {found first : Maybe ℕ} {q q' r : Parser} {b : Option ℕ} → found ≡ first → q ≡ q'
    → Does (last_rest mode least start (maybe found)) q b r → Does (last_rest mode least start (maybe first)) q' b r
joined mode least start e f D = rw (← e, ← f) D

-- The same of where it ends, as the loop is left in three ways.
left-so : {A : Type 0} {c : Prog A} {p q q' : Parser} {a : A} → q ≡ q' → Does c p a q' → Does c p a q
left-so e D = rw e D

pub expr-returns-in_default : goal.expr-returns-in_default
expr-returns-in_default t c =
    expr-level c.if-p-eq0.false
    (elim c.match-head.branch [
      | expr-in-Some w ↦ regrouped (expr-same _ _ _ _ _) (then (rw w.in-Some.is at c.prefix-head.ensures) (then (then w.expr-operand.ensures w.close_unary-found.ensures) (joined _ _ _ w.found-is w.p-is (rw c.in_default.is gives))))
      | expr-in-None w ↦ regrouped (expr-same _ _ _ _ _) (then (rw w.in-None.is at c.prefix-head.ensures) (then w.atom-found.ensures (joined _ _ _ w.found-is w.p-is (rw c.in_default.is gives))))
    ])

pub expr-loop-turn-init : goal.expr-loop-turn-init
expr-loop-turn-init t c = first-turn

pub expr-loop-turn-preserved-in-Some-post : goal.expr-loop-turn-preserved-in-Some-post
expr-loop-turn-preserved-in-Some-post t c = next-turn c.loop-turn.invariant c.turns_of-turn-end.ensures c.loop-turn-test.true (regrouped (turn-same _ _ _ _ _ _ _) (then (rw c.in-Some-post.is at c.post.ensures) gives))

pub expr-loop-turn-preserved : goal.expr-loop-turn-preserved
expr-loop-turn-preserved t c = next-turn c.loop-turn.invariant c.turns_of-turn-end.ensures c.loop-turn-test.true (regrouped (turn-same _ _ _ _ _ _ _) (then (rw c.in_default-post.is at c.post.ensures) (then (rw c.in-Some-it.is at c.infix-infix.ensures) (then c.expr-right.ensures (then c.close_operand-left.ensures gives)))))

pub expr-returns : goal.expr-returns
expr-returns t c =
    expr-level c.if-p-eq0.false
    (elim c.loop-turn-test.branch [
      | expr-else-loop-turn-test v ↦ left-so v.p-is (elim c.match-head.branch [
        | expr-in-Some w ↦ regrouped (expr-same _ _ _ _ _) (then (rw w.in-Some.is at c.prefix-head.ensures) (then (then w.expr-operand.ensures w.close_unary-found.ensures) (joined _ _ _ w.found-is w.p-is (rw c.in-Some-found.is (then (no-turn-left c.loop-turn.invariant c.turns_of-turn-end.ensures v.loop-turn-test.false) gives)))))
        | expr-in-None w ↦ regrouped (expr-same _ _ _ _ _) (then (rw w.in-None.is at c.prefix-head.ensures) (then w.atom-found.ensures (joined _ _ _ w.found-is w.p-is (rw c.in-Some-found.is (then (no-turn-left c.loop-turn.invariant c.turns_of-turn-end.ensures v.loop-turn-test.false) gives)))))
      ])
      | expr-then-loop-turn-test+then-is_refused v ↦ left-so v.p-is (elim c.match-head.branch [
        | expr-in-Some w ↦ regrouped (expr-same _ _ _ _ _) (then (rw w.in-Some.is at c.prefix-head.ensures) (then (then w.expr-operand.ensures w.close_unary-found.ensures) (joined _ _ _ w.found-is w.p-is (rw c.in-Some-found.is (then (refused-turn c.loop-turn.invariant (sym v.is_refused.ensures ∙ v.if-is_refused.true)) gives)))))
        | expr-in-None w ↦ regrouped (expr-same _ _ _ _ _) (then (rw w.in-None.is at c.prefix-head.ensures) (then w.atom-found.ensures (joined _ _ _ w.found-is w.p-is (rw c.in-Some-found.is (then (refused-turn c.loop-turn.invariant (sym v.is_refused.ensures ∙ v.if-is_refused.true)) gives)))))
      ])
      | expr-then-loop-turn-test+else-is_refused+in_default-post+in_default-it v ↦ left-so v.p-is (elim c.match-head.branch [
        | expr-in-Some w ↦ regrouped (expr-same _ _ _ _ _) (then (rw w.in-Some.is at c.prefix-head.ensures) (then (then w.expr-operand.ensures w.close_unary-found.ensures) (joined _ _ _ w.found-is w.p-is (rw c.in-Some-found.is (then (last_turn c.loop-turn.invariant c.turns_of-turn-end.ensures v.loop-turn-test.true (regrouped (turn-same _ _ _ _ _ _ _) (then (rw v.in_default-post.is at v.post.ensures) (then (rw v.in_default-it.is at v.infix-infix.ensures) gives)))) gives)))))
        | expr-in-None w ↦ regrouped (expr-same _ _ _ _ _) (then (rw w.in-None.is at c.prefix-head.ensures) (then w.atom-found.ensures (joined _ _ _ w.found-is w.p-is (rw c.in-Some-found.is (then (last_turn c.loop-turn.invariant c.turns_of-turn-end.ensures v.loop-turn-test.true (regrouped (turn-same _ _ _ _ _ _ _) (then (rw v.in_default-post.is at v.post.ensures) (then (rw v.in_default-it.is at v.infix-infix.ensures) gives)))) gives)))))
      ])
    ])

-- `paren` meets its contract.
pub paren-returns-in-Empty : goal.paren-returns-in-Empty
paren-returns-in-Empty t c = regrouped (paren-same _ _ _ _) (then (rw c.in-Empty.is at c.paren_start.ensures) gives)

pub paren-returns-after-more : goal.paren-returns-after-more
paren-returns-after-more t c =
    elim c.if-more.branch [
      | paren-then-more w ↦ regrouped (paren-same _ _ _ _) (then (rw c.in-Open.is at c.paren_start.ensures) (then c.must-inner.ensures (then c.paren_comma-more.ensures (then (when_true w.if-more.true (rw (w.all-is, w.p-is) w.tuple-all.ensures)) c.end_node.ensures))))
      | paren-else-more w ↦ regrouped (paren-same _ _ _ _) (then (rw c.in-Open.is at c.paren_start.ensures) (then c.must-inner.ensures (then c.paren_comma-more.ensures (then (when_false w.if-more.false (rw (w.all-is, w.p-is) gives)) c.end_node.ensures))))
    ]
