-- `Expr::new` of ast/expr.rs: which node an expression is. Where the Rust makes an `Expr::Error` the answer is none.
use Rattle.std.specs.Prelude.{Bool, false, cond, ◌||◌, List, [], ◌∷◌, ℕ, zero, suc, ◌+◌, ◌-◌, eqb}
use Rattle.words.specs.Node
use Rattle.looking.specs.View.{Seen, is, none, and_then, or_else, look, turns, kept, new_of, child_of, name_of, new_child, flag_of}

-- `Expr::new`, its loop: "ParenExpr nodes are transparently peeled". A first child may be any node, so brackets may stand in a ring:
-- after as many peels as there are nodes the answer is none, and more peels never give another (`Rings`).
unfoldable pub peel : ℕ → List ℕ → ℕ → Seen ℕ
peel zero ns n = none
peel (suc turns) ns n =
    and_then (look ns n) (λ node.
    cond (eqb node.kind Node.ParenExpr)
    (cond (eqb node.child 0) none (peel turns ns node.child))
    (is n))

-- `StructDef::try_new`: the body is the first child, or the second after an index type.
unfoldable pub struct_body : List ℕ → ℕ → Seen ℕ
struct_body ns n =
    and_then (child_of Node.StructDef Node.StructDef 0 ns n)
    (λ first. or_else (new_of Node.StructBody Node.StructBody ns first)
    (new_child Node.StructDef Node.StructDef 1 Node.StructBody Node.StructBody ns n))

abbrev pub one_of : List ℕ → ℕ → Bool
one_of [] kind = false
one_of (k ∷ ks) kind = eqb kind k || one_of ks kind

-- The kinds that ask for no child.
abbrev pub plain : List ℕ
plain =
    Node.UnaryExpr ∷ Node.CallExpr ∷ Node.StructLit ∷ Node.TupleType ∷ Node.TupleLit ∷ Node.Block ∷ Node.ComptimeBlock ∷
    Node.BoolLiteral ∷ Node.NumLiteral ∷ Node.StringLiteral ∷ Node.SelfType ∷ Node.Identifier ∷ Node.BuiltinName ∷ []

-- One more than the children that a kind asks for: "`view.child(1)`" of BinaryExpr, If and Match, "`view.child(2)`" of FnDef.
-- 0 of those that are no expression.
unfoldable pub asked : ℕ → ℕ
asked kind =
    cond (one_of (Node.BinaryExpr ∷ Node.If ∷ Node.Match ∷ []) kind) 3
    (cond (eqb kind Node.FnDef) 4 (cond (one_of plain kind) 1 0))

-- One turn of the loop at a node that is no ParenExpr.
unfoldable pub whole : List ℕ → ℕ → ℕ → Seen ℕ
whole ns n kind =
    cond (eqb kind Node.MemberExpr) (kept n (name_of Node.MemberExpr Node.MemberExpr 1 ns n))
    (cond (eqb kind Node.StructDef) (kept n (struct_body ns n))
    (cond (eqb (asked kind) 0) none
    (cond (eqb (asked kind) 1) (is n) (kept n (child_of Node.File Node.Error (asked kind - 2) ns n)))))

abbrev pub expr_at : List ℕ → ℕ → Seen ℕ
expr_at ns n = and_then (look ns n) (λ node. whole ns n node.kind)

abbrev pub expr : List ℕ → ℕ → Seen ℕ
expr ns n = and_then (peel (turns ns) ns n) (expr_at ns)

-- `child(i).map(Expr::new_unwrap)` of a view's node
abbrev pub expr_of : ℕ → ℕ → ℕ → List ℕ → ℕ → Seen ℕ
expr_of from to i ns n = and_then (child_of from to i ns n) (expr ns)

-- `ConstDecl::try_new`, `LetStmt::try_new`: after the name "`if typed`" the type, then the value.
abbrev pub type_of : ℕ → List ℕ → ℕ → Seen ℕ
type_of kind ns n = and_then (flag_of kind kind 1 ns n) (λ typed. cond (eqb typed 0) none (expr_of kind kind 1 ns n))

abbrev pub value_of : ℕ → List ℕ → ℕ → Seen ℕ
value_of kind ns n = and_then (flag_of kind kind 1 ns n) (λ typed. expr_of kind kind (1 + typed) ns n)
