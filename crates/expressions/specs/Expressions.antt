-- Expressions and their parts (ast/expr.rs).
use Rattle.std.specs.Prelude.{cond, List, ℕ, ◌+◌, ◌-◌, eqb}
use Rattle.words.specs.Flag
use Rattle.words.specs.Node
use Rattle.looking.specs.View.{Seen, is, none, and_then, look, nth, counted, no_stop, turns, kept, nth_of, child_of, count_of, flag_of, inner_count, inner_of, name_of, new_child, new_of, payload_of, span_child}
use Rattle.expr.specs.Expr.{struct_body, expr_of}
use Rattle.looking.specs.declared.TokenSpan.{TokenSpan}

-- `BinaryExpr::op`
abbrev pub binary_expr_op : List ℕ → ℕ → Seen ℕ
binary_expr_op ns n = payload_of Node.BinaryExpr Node.BinaryExpr ns n

-- `BinaryExpr::lhs`
abbrev pub binary_expr_lhs : List ℕ → ℕ → Seen ℕ
binary_expr_lhs ns n = expr_of Node.BinaryExpr Node.BinaryExpr 0 ns n

-- `BinaryExpr::op_span`
abbrev pub binary_expr_op_span : List ℕ → ℕ → Seen TokenSpan
binary_expr_op_span ns n = span_child Node.BinaryExpr Node.BinaryExpr 1 Node.File Node.Error ns n

-- `BinaryExpr::rhs`
abbrev pub binary_expr_rhs : List ℕ → ℕ → Seen ℕ
binary_expr_rhs ns n = expr_of Node.BinaryExpr Node.BinaryExpr 2 ns n

-- `UnaryExpr::op`
abbrev pub unary_expr_op : List ℕ → ℕ → Seen ℕ
unary_expr_op ns n = payload_of Node.UnaryExpr Node.UnaryExpr ns n

-- `UnaryExpr::operand`
abbrev pub unary_expr_operand : List ℕ → ℕ → Seen ℕ
unary_expr_operand ns n = expr_of Node.UnaryExpr Node.UnaryExpr 0 ns n

-- `CallExpr::callee`
abbrev pub call_expr_callee : List ℕ → ℕ → Seen ℕ
call_expr_callee ns n = expr_of Node.CallExpr Node.CallExpr 0 ns n

-- `CallExpr::args`, its i-th
abbrev pub call_expr_arg : ℕ → List ℕ → ℕ → Seen ℕ
call_expr_arg i ns n = expr_of Node.CallExpr Node.CallExpr (i + 1) ns n

-- `MemberExpr::object`
abbrev pub member_expr_object : List ℕ → ℕ → Seen ℕ
member_expr_object ns n = expr_of Node.MemberExpr Node.MemberExpr 0 ns n

-- `MemberExpr::member`
abbrev pub member_expr_member : List ℕ → ℕ → Seen ℕ
member_expr_member ns n = name_of Node.MemberExpr Node.MemberExpr 1 ns n

-- `StructDef::index_expr`; a StructBody is no expression
abbrev pub struct_def_index_expr : List ℕ → ℕ → Seen ℕ
struct_def_index_expr ns n = expr_of Node.StructDef Node.StructDef 0 ns n

-- `FieldDef::name`
abbrev pub field_def_name : List ℕ → ℕ → Seen ℕ
field_def_name ns n = name_of Node.FieldDef Node.FieldDef 0 ns n

-- `FieldDef::name_span`
abbrev pub field_def_name_span : List ℕ → ℕ → Seen TokenSpan
field_def_name_span ns n = span_child Node.FieldDef Node.FieldDef 0 Node.Identifier Node.Identifier ns n

-- `FieldDef::type_expr`
abbrev pub field_def_type_expr : List ℕ → ℕ → Seen ℕ
field_def_type_expr ns n = expr_of Node.FieldDef Node.FieldDef 1 ns n

-- `StructLit::type_expr`
abbrev pub struct_lit_type_expr : List ℕ → ℕ → Seen ℕ
struct_lit_type_expr ns n = expr_of Node.StructLit Node.StructLit 0 ns n

-- `FieldAssign::name`
abbrev pub field_assign_name : List ℕ → ℕ → Seen ℕ
field_assign_name ns n = name_of Node.FieldAssign Node.FieldAssign 0 ns n

-- `FieldAssign::name_span`
abbrev pub field_assign_name_span : List ℕ → ℕ → Seen TokenSpan
field_assign_name_span ns n = span_child Node.FieldAssign Node.FieldAssign 0 Node.Identifier Node.Identifier ns n

-- `FieldAssign::value`
abbrev pub field_assign_value : List ℕ → ℕ → Seen ℕ
field_assign_value ns n = expr_of Node.FieldAssign Node.FieldAssign 1 ns n

-- `TupleType::fields`, its i-th
abbrev pub tuple_type_field : ℕ → List ℕ → ℕ → Seen ℕ
tuple_type_field i ns n = expr_of Node.TupleType Node.TupleType i ns n

-- `TupleType::fields`, counted
abbrev pub tuple_type_field_count : List ℕ → ℕ → Seen ℕ
tuple_type_field_count ns n = count_of Node.TupleType Node.TupleType Node.File Node.Error ns n

-- `TupleLit::fields`, its i-th
abbrev pub tuple_lit_field : ℕ → List ℕ → ℕ → Seen ℕ
tuple_lit_field i ns n = expr_of Node.TupleLit Node.TupleLit i ns n

-- `TupleLit::fields`, counted
abbrev pub tuple_lit_field_count : List ℕ → ℕ → Seen ℕ
tuple_lit_field_count ns n = count_of Node.TupleLit Node.TupleLit Node.File Node.Error ns n

-- `IfExpr::condition`
abbrev pub if_expr_condition : List ℕ → ℕ → Seen ℕ
if_expr_condition ns n = expr_of Node.If Node.If 0 ns n

-- `IfExpr::body`
abbrev pub if_expr_body : List ℕ → ℕ → Seen ℕ
if_expr_body ns n = new_child Node.If Node.If 1 Node.InitBlock Node.Block ns n

-- `IfExpr::else_if_branches`, its i-th
abbrev pub if_expr_else_if_branch : ℕ → List ℕ → ℕ → Seen ℕ
if_expr_else_if_branch i ns n = inner_of Node.If Node.If 2 Node.ElseIfBranch Node.ElseIfBranch i ns n

-- `IfExpr::else_if_branches`, counted
abbrev pub if_expr_else_if_branch_count : List ℕ → ℕ → Seen ℕ
if_expr_else_if_branch_count ns n = inner_count Node.If Node.If 2 Node.ElseIfBranch Node.ElseIfBranch ns n

-- `IfExpr::else_body`
abbrev pub if_expr_else_body : List ℕ → ℕ → Seen ℕ
if_expr_else_body ns n = new_child Node.If Node.If 3 Node.InitBlock Node.Block ns n

-- `ElseIfBranch::condition`
abbrev pub else_if_branch_condition : List ℕ → ℕ → Seen ℕ
else_if_branch_condition ns n = expr_of Node.ElseIfBranch Node.ElseIfBranch 0 ns n

-- `ElseIfBranch::body`
abbrev pub else_if_branch_body : List ℕ → ℕ → Seen ℕ
else_if_branch_body ns n = new_child Node.ElseIfBranch Node.ElseIfBranch 1 Node.InitBlock Node.Block ns n

-- `MatchExpr::subject`
abbrev pub match_expr_subject : List ℕ → ℕ → Seen ℕ
match_expr_subject ns n = expr_of Node.Match Node.Match 0 ns n

-- `MatchExpr::arms`, its i-th
abbrev pub match_expr_arm : ℕ → List ℕ → ℕ → Seen ℕ
match_expr_arm i ns n = inner_of Node.Match Node.Match 1 Node.File Node.Error i ns n

-- `MatchExpr::arms`, counted
abbrev pub match_expr_arm_count : List ℕ → ℕ → Seen ℕ
match_expr_arm_count ns n = inner_count Node.Match Node.Match 1 Node.File Node.Error ns n

-- `MatchArmKind::Case`, its key
abbrev pub match_arm_key : List ℕ → ℕ → Seen ℕ
match_arm_key ns n = child_of Node.MatchArm Node.MatchArm 0 ns n

-- `MatchArm::body` of a case
abbrev pub match_arm_body : List ℕ → ℕ → Seen ℕ
match_arm_body ns n = child_of Node.MatchArm Node.MatchArm 1 ns n

-- `BoolLiteral`, its value
abbrev pub bool_literal_value : List ℕ → ℕ → Seen ℕ
bool_literal_value ns n = flag_of Node.BoolLiteral Node.BoolLiteral Flag.BoolLiteral-true ns n

-- `NumLiteral`, its id
abbrev pub num_literal_id : List ℕ → ℕ → Seen ℕ
num_literal_id ns n = payload_of Node.NumLiteral Node.NumLiteral ns n

-- `StringLiteral`, its value
abbrev pub string_literal_value : List ℕ → ℕ → Seen ℕ
string_literal_value ns n = payload_of Node.StringLiteral Node.StringLiteral ns n

-- `SelfType`
abbrev pub self_type : List ℕ → ℕ → Seen ℕ
self_type ns n = new_of Node.SelfType Node.SelfType ns n

-- `BuiltinName`, its name
abbrev pub builtin_name : List ℕ → ℕ → Seen ℕ
builtin_name ns n = payload_of Node.BuiltinName Node.BuiltinName ns n

-- `CallExpr::args`, counted: "`skip(1)`"
abbrev pub call_expr_arg_count : List ℕ → ℕ → Seen ℕ
call_expr_arg_count ns n = and_then (count_of Node.CallExpr Node.CallExpr Node.File Node.Error ns n) (λ count. is (count - 1))

-- `MemberExpr::try_new`
abbrev pub member_expr : List ℕ → ℕ → Seen ℕ
member_expr ns n = kept n (name_of Node.MemberExpr Node.MemberExpr 1 ns n)

-- `CallExpr::direct_member_callee`
abbrev pub call_expr_direct_member_callee : List ℕ → ℕ → Seen ℕ
call_expr_direct_member_callee ns n = and_then (child_of Node.CallExpr Node.CallExpr 0 ns n) (member_expr ns)

-- of a struct definition, the i-th child of its body that has a kind, and how many there are
abbrev pub struct_child : ℕ → ℕ → List ℕ → ℕ → Seen ℕ
struct_child kind i ns n = and_then (struct_body ns n) (nth_of Node.StructBody Node.StructBody kind kind i ns)

abbrev pub struct_child_count : ℕ → List ℕ → ℕ → Seen ℕ
struct_child_count kind ns n = and_then (struct_body ns n) (count_of Node.StructBody Node.StructBody kind kind ns)

-- `StructDef::fields` and `StructDef::methods`, the i-th and counted
abbrev pub struct_def_field : ℕ → List ℕ → ℕ → Seen ℕ
struct_def_field i ns n = struct_child Node.FieldDef i ns n

abbrev pub struct_def_field_count : List ℕ → ℕ → Seen ℕ
struct_def_field_count ns n = struct_child_count Node.FieldDef ns n

abbrev pub struct_def_method : ℕ → List ℕ → ℕ → Seen ℕ
struct_def_method i ns n = struct_child Node.MethodDef i ns n

abbrev pub struct_def_method_count : List ℕ → ℕ → Seen ℕ
struct_def_method_count ns n = struct_child_count Node.MethodDef ns n

-- the siblings after a node
abbrev pub nth_after : ℕ → ℕ → ℕ → List ℕ → ℕ → Seen ℕ
nth_after low high i ns c = and_then (look ns c) (λ node. nth (turns ns) no_stop low high ns node.next i)

abbrev pub count_after : ℕ → ℕ → List ℕ → ℕ → Seen ℕ
count_after low high ns c = and_then (look ns c) (λ node. counted (turns ns) no_stop low high ns node.next 0)

-- `StructLit::fields`, its i-th and counted: "`skip(1)`"
abbrev pub struct_lit_field : ℕ → List ℕ → ℕ → Seen ℕ
struct_lit_field i ns n = and_then (child_of Node.StructLit Node.StructLit 0 ns n) (nth_after Node.FieldAssign Node.FieldAssign i ns)

abbrev pub struct_lit_field_count : List ℕ → ℕ → Seen ℕ
struct_lit_field_count ns n = and_then (child_of Node.StructLit Node.StructLit 0 ns n) (count_after Node.FieldAssign Node.FieldAssign ns)

-- whether a fallback arm has a binding
abbrev pub match_fallback_arm_bound : List ℕ → ℕ → Seen ℕ
match_fallback_arm_bound ns n = flag_of Node.MatchFallbackArm Node.MatchFallbackArm Flag.MatchFallbackArm-binding ns n

-- `MatchFallbackBinding`: "`binding.then(..)`" its name and its span
abbrev pub match_fallback_arm_binding : List ℕ → ℕ → Seen ℕ
match_fallback_arm_binding ns n =
    and_then (match_fallback_arm_bound ns n)
    (λ bound. cond (eqb bound 0) none (name_of Node.MatchFallbackArm Node.MatchFallbackArm 0 ns n))

abbrev pub match_fallback_arm_binding_span : List ℕ → ℕ → Seen TokenSpan
match_fallback_arm_binding_span ns n =
    and_then (match_fallback_arm_bound ns n)
    (λ bound. cond (eqb bound 0) none (span_child Node.MatchFallbackArm Node.MatchFallbackArm 0 Node.Identifier Node.Identifier ns n))

-- `MatchArm::body` of a fallback, the child after its binding
abbrev pub match_fallback_arm_body : List ℕ → ℕ → Seen ℕ
match_fallback_arm_body ns n =
    and_then (match_fallback_arm_bound ns n)
    (λ bound. child_of Node.MatchFallbackArm Node.MatchFallbackArm bound ns n)
