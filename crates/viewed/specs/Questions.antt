-- The questions that accessors ask, put together as `View`, `Expr` and the accessors put views together, under their names.
use Rattle.std.specs.Prelude.{ℕ, ◌+◌, ◌-◌, ◌/◌, ◌%◌, eqb}
use Rattle.words.specs.Flag
use Rattle.words.specs.Node
use Rattle.looking.specs.View.{no_stop}
use Rattle.expr.specs.Expr.{asked}
use Rattle.viewed.specs.Query.{node, number, tokens, Query, it, outer, nothing, give, new, kind, payload, span, nth, count, peel, by_kind, then, with, both, else, choose, joined}

-- ---- `View`

module _ (first last : ℕ) where
  abbrev pub nth_of : ℕ → ℕ → ℕ → Query node
  nth_of low high i = nth first last no_stop low high i

  abbrev pub count_of : ℕ → ℕ → Query number
  count_of low high = count first last no_stop low high

  abbrev pub child_of : ℕ → Query node
  child_of i = nth_of Node.File Node.Error i

  abbrev pub flag_of : ℕ → Query number
  flag_of flag = with (payload first last) (λ p. choose (eqb flag 0) nothing (give (p / flag % 2)))

abbrev pub ident : Query number
ident = payload Node.Identifier Node.Identifier

module _ (first last : ℕ) where
  abbrev pub name_of : ℕ → Query number
  name_of i = then (child_of first last i) ident

  abbrev pub inner_of : ℕ → ℕ → ℕ → ℕ → Query node
  inner_of k low high i = then (child_of first last k) (nth_of Node.File Node.Error low high i)

  abbrev pub inner_count : ℕ → ℕ → ℕ → Query number
  inner_count k low high = then (child_of first last k) (count_of Node.File Node.Error low high)

  abbrev pub new_child : ℕ → ℕ → ℕ → Query node
  new_child i low high = then (child_of first last i) (new low high)

  abbrev pub span_child : ℕ → ℕ → ℕ → Query tokens
  span_child i low high = then (child_of first last i) (span low high)

  abbrev pub payload_child : ℕ → ℕ → ℕ → Query number
  payload_child i low high = then (child_of first last i) (payload low high)

-- ---- `Expr`

abbrev pub struct_body : Query node
struct_body =
    then (child_of Node.StructDef Node.StructDef 0)
    (else (new Node.StructBody Node.StructBody) (outer (new_child Node.StructDef Node.StructDef 1 Node.StructBody Node.StructBody)))

abbrev pub whole : ℕ → Query node
whole k =
    choose (eqb k Node.MemberExpr) (both (name_of Node.MemberExpr Node.MemberExpr 1) it)
    (choose (eqb k Node.StructDef) (both struct_body it)
    (choose (eqb (asked k) 0) nothing
    (choose (eqb (asked k) 1) it (both (child_of Node.File Node.Error (asked k - 2)) it))))

abbrev pub expr : Query node
expr = then peel (by_kind whole)

abbrev pub expr_of : ℕ → ℕ → ℕ → Query node
expr_of first last i = then (child_of first last i) expr

abbrev pub type_of : ℕ → Query node
type_of k = with (flag_of k k 1) (λ typed. choose (eqb typed 0) nothing (expr_of k k 1))

abbrev pub value_of : ℕ → Query node
value_of k = with (flag_of k k 1) (λ typed. expr_of k k (1 + typed))

-- ---- `Expressions`

abbrev pub member_expr : Query node
member_expr = both (name_of Node.MemberExpr Node.MemberExpr 1) it

abbrev pub struct_child : ℕ → ℕ → Query node
struct_child k i = then struct_body (nth_of Node.StructBody Node.StructBody k k i)

abbrev pub struct_child_count : ℕ → Query number
struct_child_count k = then struct_body (count_of Node.StructBody Node.StructBody k k)

abbrev pub bound : Query number
bound = flag_of Node.MatchFallbackArm Node.MatchFallbackArm Flag.MatchFallbackArm-binding

-- ---- `Statements`

abbrev pub let_stmt : Query node
let_stmt =
    both (name_of Node.LetStmt Node.LetStmt 0)
    (with (flag_of Node.LetStmt Node.LetStmt Flag.LetStmt-typed) (λ typed. both (child_of Node.LetStmt Node.LetStmt (1 + typed)) it))

abbrev pub while_stmt : Query node
while_stmt = both (child_of Node.WhileStmt Node.InlineWhileStmt 1) it

abbrev pub statement_of : ℕ → Query node
statement_of k =
    choose (eqb k Node.LetStmt) let_stmt
    (choose (eqb k Node.ReturnStmt) it
    (choose (eqb k Node.AssignStmt) it
    (choose (eqb k Node.WhileStmt) while_stmt
    (choose (eqb k Node.InlineWhileStmt) while_stmt expr))))

-- ---- `Imports`

abbrev pub import_path : Query node
import_path = else (new Node.ImportDecl Node.ImportDecl) (child_of Node.ImportAsDecl Node.ImportAsDecl 0)

abbrev pub import_glob : Query number
import_glob = else (flag_of Node.ImportDecl Node.ImportDecl Flag.ImportDecl-glob) (kind Node.ImportAsDecl Node.ImportAsDecl)

abbrev pub segment : ℕ → Query node
segment i = nth_of Node.File Node.Error Node.Identifier Node.Identifier i

abbrev pub segment_count : Query number
segment_count = count_of Node.File Node.Error Node.Identifier Node.Identifier

abbrev pub first_span : Query tokens
first_span = span_child Node.File Node.Error 0 Node.Identifier Node.Identifier

abbrev pub end_span : ℕ → Query tokens
end_span back = with segment_count (λ n. then (segment (n - back)) (span Node.Identifier Node.Identifier))

abbrev pub path_span : ℕ → Query tokens
path_span back = joined first_span (end_span back)

abbrev pub group_segment : ℕ → Query node
group_segment i = nth Node.ImportGroupDecl Node.ImportGroupDecl Node.ImportGroupItem Node.Identifier Node.Identifier i

abbrev pub group_segment_count : Query number
group_segment_count = count Node.ImportGroupDecl Node.ImportGroupDecl Node.ImportGroupItem Node.Identifier Node.Identifier

abbrev pub group_first_span : Query tokens
group_first_span = span_child Node.ImportGroupDecl Node.ImportGroupDecl 0 Node.Identifier Node.Identifier

abbrev pub group_end_span : Query tokens
group_end_span = with group_segment_count (λ n. then (group_segment (n - 1)) (span Node.Identifier Node.Identifier))
