-- Blocks and statements (ast/expr.rs).
use Rattle.std.specs.Prelude.{cond, List, ℕ, ◌+◌, eqb}
use Rattle.words.specs.Flag
use Rattle.words.specs.Node
use Rattle.looking.specs.View.{Seen, is, and_then, look, kept, child_of, flag_of, inner_count, inner_of, kind_of, name_of, new_child, new_of, span_child, span_of}
use Rattle.expr.specs.Expr.{expr, expr_of, type_of, value_of}
use Rattle.looking.specs.declared.TokenSpan.{TokenSpan}

-- `BlockExpr::new`
abbrev pub block : List ℕ → ℕ → Seen ℕ
block ns n = new_of Node.InitBlock Node.Block ns n

-- `BlockExpr::statements`, the node of its i-th
abbrev pub block_statement : ℕ → List ℕ → ℕ → Seen ℕ
block_statement i ns n = inner_of Node.InitBlock Node.Block 0 Node.File Node.Error i ns n

-- `BlockExpr::statements`, counted
abbrev pub block_statement_count : List ℕ → ℕ → Seen ℕ
block_statement_count ns n = inner_count Node.InitBlock Node.Block 0 Node.File Node.Error ns n

-- `BlockExpr::end_expr`
abbrev pub block_end_expr : List ℕ → ℕ → Seen ℕ
block_end_expr ns n = expr_of Node.InitBlock Node.Block 1 ns n

-- `LetStmt::name`
abbrev pub let_stmt_name : List ℕ → ℕ → Seen ℕ
let_stmt_name ns n = name_of Node.LetStmt Node.LetStmt 0 ns n

-- `LetStmt::name_span`
abbrev pub let_stmt_name_span : List ℕ → ℕ → Seen TokenSpan
let_stmt_name_span ns n = span_child Node.LetStmt Node.LetStmt 0 Node.Identifier Node.Identifier ns n

-- `LetStmt::comptime`
abbrev pub let_stmt_comptime : List ℕ → ℕ → Seen ℕ
let_stmt_comptime ns n = flag_of Node.LetStmt Node.LetStmt Flag.LetStmt-comptime ns n

-- `LetStmt::mutable`
abbrev pub let_stmt_mutable : List ℕ → ℕ → Seen ℕ
let_stmt_mutable ns n = flag_of Node.LetStmt Node.LetStmt Flag.LetStmt-mutable ns n

-- `LetStmt::span`
abbrev pub let_stmt_span : List ℕ → ℕ → Seen TokenSpan
let_stmt_span ns n = span_of Node.LetStmt Node.LetStmt ns n

-- `LetStmt::type_expr`
abbrev pub let_stmt_type_expr : List ℕ → ℕ → Seen ℕ
let_stmt_type_expr ns n = type_of Node.LetStmt ns n

-- `LetStmt::value`
abbrev pub let_stmt_value : List ℕ → ℕ → Seen ℕ
let_stmt_value ns n = value_of Node.LetStmt ns n

-- `ReturnStmt::value`
abbrev pub return_stmt_value : List ℕ → ℕ → Seen ℕ
return_stmt_value ns n = expr_of Node.ReturnStmt Node.ReturnStmt 0 ns n

-- `AssignStmt::target`
abbrev pub assign_stmt_target : List ℕ → ℕ → Seen ℕ
assign_stmt_target ns n = expr_of Node.AssignStmt Node.AssignStmt 0 ns n

-- `AssignStmt::value`
abbrev pub assign_stmt_value : List ℕ → ℕ → Seen ℕ
assign_stmt_value ns n = expr_of Node.AssignStmt Node.AssignStmt 1 ns n

-- `WhileStmt::inline`
abbrev pub while_stmt_inline : List ℕ → ℕ → Seen ℕ
while_stmt_inline ns n = kind_of Node.WhileStmt Node.InlineWhileStmt ns n

-- `WhileStmt::condition`
abbrev pub while_stmt_condition : List ℕ → ℕ → Seen ℕ
while_stmt_condition ns n = expr_of Node.WhileStmt Node.InlineWhileStmt 0 ns n

-- `WhileStmt::body`
abbrev pub while_stmt_body : List ℕ → ℕ → Seen ℕ
while_stmt_body ns n = new_child Node.WhileStmt Node.InlineWhileStmt 1 Node.InitBlock Node.Block ns n

-- `LetStmt::try_new`: the name, "`if typed`" the type, and the value are there.
abbrev pub let_stmt_whole : List ℕ → ℕ → Seen ℕ
let_stmt_whole ns n =
    and_then (flag_of Node.LetStmt Node.LetStmt Flag.LetStmt-typed ns n)
    (λ typed. kept n (child_of Node.LetStmt Node.LetStmt (1 + typed) ns n))

abbrev pub let_stmt : List ℕ → ℕ → Seen ℕ
let_stmt ns n = and_then (let_stmt_name ns n) (λ _. let_stmt_whole ns n)

-- `WhileStmt::try_new`: the body is there.
abbrev pub while_stmt : List ℕ → ℕ → Seen ℕ
while_stmt ns n = kept n (child_of Node.WhileStmt Node.InlineWhileStmt 1 ns n)

-- `Statement::new`, of a node of a kind
unfoldable pub statement_of : List ℕ → ℕ → ℕ → Seen ℕ
statement_of ns n kind =
    cond (eqb kind Node.LetStmt) (let_stmt ns n)
    (cond (eqb kind Node.ReturnStmt) (is n)
    (cond (eqb kind Node.AssignStmt) (is n)
    (cond (eqb kind Node.WhileStmt) (while_stmt ns n)
    (cond (eqb kind Node.InlineWhileStmt) (while_stmt ns n) (expr ns n)))))

-- `Statement::new`
abbrev pub statement : List ℕ → ℕ → Seen ℕ
statement ns n = and_then (look ns n) (λ node. statement_of ns n node.kind)
