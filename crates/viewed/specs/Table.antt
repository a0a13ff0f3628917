-- Each accessor but `parent` and the walks (`Walked`) is a question: beside it, the one that it asks. So what `Viewed` says of questions it
-- says of these accessors.
use Rattle.std.specs.Prelude.{◌≡◌, refl, List, [], ◌∷◌, ℕ, ◌+◌, ◌-◌, eqb}
use Rattle.std.proofs.Common.{sym, ◌∙◌, ap, subst}
use Rattle.words.specs.Flag
use Rattle.words.specs.Node
use Rattle.chart.specs.Tree.{Trees}
use Rattle.looking.specs.View
use Rattle.looking.specs.View.{Seen}
use Rattle.looking.specs.Any
use Rattle.expr.specs.Expr
use Rattle.expressions.specs.Expressions
use Rattle.expressions.specs.Functions
use Rattle.views.specs.Declarations
use Rattle.views.specs.Imports
use Rattle.views.specs.Statements
use Rattle.viewed.specs.Numbered.{Place, Within, label}
use Rattle.viewed.specs.Query.{Sort, Query, outer, nothing, give, new, kind, payload, span, nth_after, count_after, by_kind, then, with, else, choose, joined, OnWords, seen, on_words, on_tree, answer}
use Rattle.viewed.specs.Viewed.{Viewed, Unrefused}
use Rattle.viewed.specs.Questions.{nth_of, count_of, child_of, flag_of, ident, name_of, inner_of, inner_count, new_child, span_child, payload_child, struct_body, expr, expr_of, type_of, value_of, member_expr, struct_child, struct_child_count, bound, let_stmt, while_stmt, statement_of, import_path, import_glob, segment, segment_count, first_span, end_span, path_span, group_segment, group_segment_count, group_first_span, group_end_span}

-- A question, and a function of words and of a node's number that gives the answers to it.
pub data Entry : Type 0 where
  entry : {s : Sort} (q : Query s) (view : List ℕ → ℕ → Seen (OnWords s)) → (λ (ns : List ℕ) (n : ℕ). on_words ns q n) ≡ view → Entry

-- It gives of a node of the words what the tree says of the node's place.
abbrev pub Tells : Entry → List ℕ → Place → Type 0
Tells (entry {s} q view e) ns p = view ns (label p).number ≡ answer s (on_tree q p)

pub tells : {text tokens nodes values : List ℕ} {count : ℕ} {t : Trees} (v : Viewed text tokens nodes values count t) (e : Entry) (p : Place) → Within v.root p → Tells e nodes p
tells {nodes = nodes} v (entry q view e) p w = ap (λ (f : List ℕ → ℕ → Seen _). f nodes (label p).number) (sym e) ∙ v.views p w q

-- It refuses nothing.
abbrev pub Unfailing : Entry → List ℕ → ℕ → ℕ → Type 0
Unfailing (entry {s} q view e) ns count n = Unrefused count s (view ns n)

pub unfailing : (ns : List ℕ) (count n : ℕ) → ((s : Sort) (q : Query s) → Unrefused count s (on_words ns q n)) → (e : Entry) → Unfailing e ns count n
unfailing ns count n h (entry {s} q view e) = subst (λ (f : List ℕ → ℕ → Seen (OnWords s)). Unrefused count s (f ns n)) e (h s q)

-- The views by kind, from which accessors are made (`View`, `Expr`): the kinds `first` to `last` and `low` to `high`.
pub forms : (first last low high k i : ℕ) → List Entry
unfolding seen Expr.whole Expr.struct_body Statements.statement_of
forms first last low high k i =
    entry (new first last) (View.new_of first last) refl ∷
    entry (kind first last) (View.kind_of first last) refl ∷
    entry (payload first last) (View.payload_of first last) refl ∷
    entry (span first last) (View.span_of first last) refl ∷
    entry (flag_of first last k) (View.flag_of first last k) refl ∷
    entry (nth_of first last low high i) (View.nth_of first last low high i) refl ∷
    entry (count_of first last low high) (View.count_of first last low high) refl ∷
    entry (name_of first last i) (View.name_of first last i) refl ∷
    entry (inner_of first last k low high i) (View.inner_of first last k low high i) refl ∷
    entry (inner_count first last k low high) (View.inner_count first last k low high) refl ∷
    entry (new_child first last i low high) (View.new_child first last i low high) refl ∷
    entry (span_child first last i low high) (View.span_child first last i low high) refl ∷
    entry (payload_child first last i low high) (View.payload_child first last i low high) refl ∷
    entry ident View.ident refl ∷
    entry struct_body Expr.struct_body refl ∷
    entry expr Expr.expr refl ∷
    entry (expr_of first last i) (Expr.expr_of first last i) refl ∷
    entry (type_of k) (Expr.type_of k) refl ∷
    entry (value_of k) (Expr.value_of k) refl ∷
    []

-- Any node, expressions and their parts (`Any`, `Expressions`, `Functions`).
pub expressions : (i : ℕ) → List Entry
unfolding seen Expr.whole Expr.struct_body Statements.statement_of
expressions i =
    entry (kind Node.File Node.Error) Any.kind refl ∷
    entry (span Node.File Node.Error) Any.span refl ∷
    entry (nth_of Node.File Node.Error Node.File Node.Error i) (Any.child i) refl ∷
    entry (count_of Node.File Node.Error Node.File Node.Error) Any.child_count refl ∷
    entry (payload Node.BinaryExpr Node.BinaryExpr) Expressions.binary_expr_op refl ∷
    entry (expr_of Node.BinaryExpr Node.BinaryExpr 0) Expressions.binary_expr_lhs refl ∷
    entry (span_child Node.BinaryExpr Node.BinaryExpr 1 Node.File Node.Error) Expressions.binary_expr_op_span refl ∷
    entry (expr_of Node.BinaryExpr Node.BinaryExpr 2) Expressions.binary_expr_rhs refl ∷
    entry (payload Node.UnaryExpr Node.UnaryExpr) Expressions.unary_expr_op refl ∷
    entry (expr_of Node.UnaryExpr Node.UnaryExpr 0) Expressions.unary_expr_operand refl ∷
    entry (expr_of Node.CallExpr Node.CallExpr 0) Expressions.call_expr_callee refl ∷
    entry (expr_of Node.CallExpr Node.CallExpr (i + 1)) (Expressions.call_expr_arg i) refl ∷
    entry (with (count_of Node.CallExpr Node.CallExpr Node.File Node.Error) (λ n. give (n - 1))) Expressions.call_expr_arg_count refl ∷
    entry (then (child_of Node.CallExpr Node.CallExpr 0) member_expr) Expressions.call_expr_direct_member_callee refl ∷
    entry member_expr Expressions.member_expr refl ∷
    entry (expr_of Node.MemberExpr Node.MemberExpr 0) Expressions.member_expr_object refl ∷
    entry (name_of Node.MemberExpr Node.MemberExpr 1) Expressions.member_expr_member refl ∷
    entry (expr_of Node.StructDef Node.StructDef 0) Expressions.struct_def_index_expr refl ∷
    entry (struct_child Node.FieldDef i) (Expressions.struct_def_field i) refl ∷
    entry (struct_child_count Node.FieldDef) Expressions.struct_def_field_count refl ∷
    entry (struct_child Node.MethodDef i) (Expressions.struct_def_method i) refl ∷
    entry (struct_child_count Node.MethodDef) Expressions.struct_def_method_count refl ∷
    entry (name_of Node.FieldDef Node.FieldDef 0) Expressions.field_def_name refl ∷
    entry (span_child Node.FieldDef Node.FieldDef 0 Node.Identifier Node.Identifier) Expressions.field_def_name_span refl ∷
    entry (expr_of Node.FieldDef Node.FieldDef 1) Expressions.field_def_type_expr refl ∷
    entry (expr_of Node.StructLit Node.StructLit 0) Expressions.struct_lit_type_expr refl ∷
    entry (then (child_of Node.StructLit Node.StructLit 0) (nth_after Node.FieldAssign Node.FieldAssign i)) (Expressions.struct_lit_field i) refl ∷
    entry (then (child_of Node.StructLit Node.StructLit 0) (count_after Node.FieldAssign Node.FieldAssign)) Expressions.struct_lit_field_count refl ∷
    entry (name_of Node.FieldAssign Node.FieldAssign 0) Expressions.field_assign_name refl ∷
    entry (span_child Node.FieldAssign Node.FieldAssign 0 Node.Identifier Node.Identifier) Expressions.field_assign_name_span refl ∷
    entry (expr_of Node.FieldAssign Node.FieldAssign 1) Expressions.field_assign_value refl ∷
    entry (expr_of Node.TupleType Node.TupleType i) (Expressions.tuple_type_field i) refl ∷
    entry (count_of Node.TupleType Node.TupleType Node.File Node.Error) Expressions.tuple_type_field_count refl ∷
    entry (expr_of Node.TupleLit Node.TupleLit i) (Expressions.tuple_lit_field i) refl ∷
    entry (count_of Node.TupleLit Node.TupleLit Node.File Node.Error) Expressions.tuple_lit_field_count refl ∷
    entry (expr_of Node.If Node.If 0) Expressions.if_expr_condition refl ∷
    entry (new_child Node.If Node.If 1 Node.InitBlock Node.Block) Expressions.if_expr_body refl ∷
    entry (inner_of Node.If Node.If 2 Node.ElseIfBranch Node.ElseIfBranch i) (Expressions.if_expr_else_if_branch i) refl ∷
    entry (inner_count Node.If Node.If 2 Node.ElseIfBranch Node.ElseIfBranch) Expressions.if_expr_else_if_branch_count refl ∷
    entry (new_child Node.If Node.If 3 Node.InitBlock Node.Block) Expressions.if_expr_else_body refl ∷
    entry (expr_of Node.ElseIfBranch Node.ElseIfBranch 0) Expressions.else_if_branch_condition refl ∷
    entry (new_child Node.ElseIfBranch Node.ElseIfBranch 1 Node.InitBlock Node.Block) Expressions.else_if_branch_body refl ∷
    entry (expr_of Node.Match Node.Match 0) Expressions.match_expr_subject refl ∷
    entry (inner_of Node.Match Node.Match 1 Node.File Node.Error i) (Expressions.match_expr_arm i) refl ∷
    entry (inner_count Node.Match Node.Match 1 Node.File Node.Error) Expressions.match_expr_arm_count refl ∷
    entry (child_of Node.MatchArm Node.MatchArm 0) Expressions.match_arm_key refl ∷
    entry (child_of Node.MatchArm Node.MatchArm 1) Expressions.match_arm_body refl ∷
    entry (flag_of Node.BoolLiteral Node.BoolLiteral Flag.BoolLiteral-true) Expressions.bool_literal_value refl ∷
    entry (payload Node.NumLiteral Node.NumLiteral) Expressions.num_literal_id refl ∷
    entry (payload Node.StringLiteral Node.StringLiteral) Expressions.string_literal_value refl ∷
    entry (new Node.SelfType Node.SelfType) Expressions.self_type refl ∷
    entry (payload Node.BuiltinName Node.BuiltinName) Expressions.builtin_name refl ∷
    entry (flag_of Node.MatchFallbackArm Node.MatchFallbackArm Flag.MatchFallbackArm-binding) Expressions.match_fallback_arm_bound refl ∷
    entry (with bound (λ b. choose (eqb b 0) nothing (name_of Node.MatchFallbackArm Node.MatchFallbackArm 0))) Expressions.match_fallback_arm_binding refl ∷
    entry (with bound (λ b. choose (eqb b 0) nothing (span_child Node.MatchFallbackArm Node.MatchFallbackArm 0 Node.Identifier Node.Identifier))) Expressions.match_fallback_arm_binding_span refl ∷
    entry (with bound (λ b. child_of Node.MatchFallbackArm Node.MatchFallbackArm b)) Expressions.match_fallback_arm_body refl ∷
    entry (flag_of Node.FnDef Node.FnDef Flag.FnDef-eager) Functions.fn_def_eager refl ∷
    entry (span_child Node.FnDef Node.FnDef 0 Node.File Node.Error) Functions.fn_def_param_list_span refl ∷
    entry (inner_of Node.FnDef Node.FnDef 0 Node.Parameter Node.ComptimeParameter i) (Functions.fn_def_param i) refl ∷
    entry (inner_count Node.FnDef Node.FnDef 0 Node.Parameter Node.ComptimeParameter) Functions.fn_def_param_count refl ∷
    entry (expr_of Node.FnDef Node.FnDef 1) Functions.fn_def_return_type refl ∷
    entry (new_child Node.FnDef Node.FnDef 2 Node.InitBlock Node.Block) Functions.fn_def_body refl ∷
    entry (flag_of Node.MethodDef Node.MethodDef Flag.MethodDef-eager) Functions.method_def_eager refl ∷
    entry (name_of Node.MethodDef Node.MethodDef 0) Functions.method_def_name refl ∷
    entry (span_child Node.MethodDef Node.MethodDef 0 Node.Identifier Node.Identifier) Functions.method_def_name_span refl ∷
    entry (span_child Node.MethodDef Node.MethodDef 1 Node.File Node.Error) Functions.method_def_param_list_span refl ∷
    entry (inner_of Node.MethodDef Node.MethodDef 1 Node.Parameter Node.ComptimeParameter i) (Functions.method_def_param i) refl ∷
    entry (inner_count Node.MethodDef Node.MethodDef 1 Node.Parameter Node.ComptimeParameter) Functions.method_def_param_count refl ∷
    entry (expr_of Node.MethodDef Node.MethodDef 2) Functions.method_def_return_type refl ∷
    entry (new_child Node.MethodDef Node.MethodDef 3 Node.InitBlock Node.Block) Functions.method_def_body refl ∷
    entry (name_of Node.Parameter Node.ComptimeParameter 0) Functions.param_name refl ∷
    entry (span_child Node.Parameter Node.ComptimeParameter 0 Node.Identifier Node.Identifier) Functions.param_name_span refl ∷
    entry (kind Node.Parameter Node.ComptimeParameter) Functions.param_is_comptime refl ∷
    entry (expr_of Node.Parameter Node.ComptimeParameter 1) Functions.param_type_explicit refl ∷
    entry (payload_child Node.Parameter Node.ComptimeParameter 1 Node.ParamAnyType Node.ParamAnyType) Functions.param_type_any refl ∷
    entry (span_child Node.Parameter Node.ComptimeParameter 1 Node.ParamAnyType Node.ParamAnyType) Functions.param_type_any_span refl ∷
    []

-- Declarations, imports and statements (`Declarations`, `Imports`, `Statements`).
pub declarations : (i : ℕ) → List Entry
unfolding seen Expr.whole Expr.struct_body Statements.statement_of
declarations i =
    entry (new Node.File Node.File) Declarations.file refl ∷
    entry (nth_of Node.File Node.File Node.File Node.Error i) (Declarations.file_def i) refl ∷
    entry (count_of Node.File Node.File Node.File Node.Error) Declarations.file_def_count refl ∷
    entry (new Node.InitBlock Node.InitBlock) Declarations.init_block refl ∷
    entry (new Node.RunBlock Node.RunBlock) Declarations.run_block refl ∷
    entry (name_of Node.ConstDecl Node.ConstDecl 0) Declarations.const_decl_name refl ∷
    entry (span_child Node.ConstDecl Node.ConstDecl 0 Node.Identifier Node.Identifier) Declarations.const_decl_name_span refl ∷
    entry (type_of Node.ConstDecl) Declarations.const_decl_type refl ∷
    entry (value_of Node.ConstDecl) Declarations.const_decl_assign refl ∷
    entry (span Node.ConstDecl Node.ConstDecl) Declarations.const_decl_span refl ∷
    entry (name_of Node.ImportAsDecl Node.ImportAsDecl 1) Declarations.import_as_decl_name refl ∷
    entry (flag_of Node.ImportGroupDecl Node.ImportGroupDecl Flag.ImportGroupDecl-public) Declarations.import_group_public refl ∷
    entry (nth_of Node.ImportGroupDecl Node.ImportGroupDecl Node.ImportGroupItem Node.ImportGroupItem i) (Declarations.import_group_item i) refl ∷
    entry (count_of Node.ImportGroupDecl Node.ImportGroupDecl Node.ImportGroupItem Node.ImportGroupItem) Declarations.import_group_item_count refl ∷
    entry (name_of Node.ImportGroupItem Node.ImportGroupItem 0) Declarations.import_group_item_name refl ∷
    entry (span_child Node.ImportGroupItem Node.ImportGroupItem 0 Node.File Node.Error) Declarations.import_group_item_name_span refl ∷
    entry (name_of Node.ImportGroupItem Node.ImportGroupItem 1) Declarations.import_group_item_alias refl ∷
    entry (span Node.ImportGroupItem Node.ImportGroupItem) Declarations.import_group_item_span refl ∷
    entry import_path Imports.import_path refl ∷
    entry (else (flag_of Node.ImportDecl Node.ImportDecl Flag.ImportDecl-public) (flag_of Node.ImportAsDecl Node.ImportAsDecl Flag.ImportAsDecl-public)) Imports.import_public refl ∷
    entry import_glob Imports.import_glob refl ∷
    entry (then import_path (segment i)) (Imports.import_path_segment i) refl ∷
    entry (then import_path segment_count) Imports.import_path_segment_count refl ∷
    entry (then import_path first_span) Imports.import_first_path_segment_span refl ∷
    entry (then import_path (end_span 1)) Imports.import_last_path_segment_span refl ∷
    entry (then import_path (with (outer import_glob) (λ glob. choose (eqb glob 0) (path_span 2) (path_span 1)))) Imports.import_file_path_span refl ∷
    entry (group_segment i) (Imports.import_group_path_segment i) refl ∷
    entry group_segment_count Imports.import_group_path_segment_count refl ∷
    entry group_first_span Imports.import_group_first_path_segment_span refl ∷
    entry (joined group_first_span group_end_span) Imports.import_group_file_path_span refl ∷
    entry (new Node.InitBlock Node.Block) Statements.block refl ∷
    entry (inner_of Node.InitBlock Node.Block 0 Node.File Node.Error i) (Statements.block_statement i) refl ∷
    entry (inner_count Node.InitBlock Node.Block 0 Node.File Node.Error) Statements.block_statement_count refl ∷
    entry (expr_of Node.InitBlock Node.Block 1) Statements.block_end_expr refl ∷
    entry (name_of Node.LetStmt Node.LetStmt 0) Statements.let_stmt_name refl ∷
    entry (span_child Node.LetStmt Node.LetStmt 0 Node.Identifier Node.Identifier) Statements.let_stmt_name_span refl ∷
    entry (flag_of Node.LetStmt Node.LetStmt Flag.LetStmt-comptime) Statements.let_stmt_comptime refl ∷
    entry (flag_of Node.LetStmt Node.LetStmt Flag.LetStmt-mutable) Statements.let_stmt_mutable refl ∷
    entry (span Node.LetStmt Node.LetStmt) Statements.let_stmt_span refl ∷
    entry (type_of Node.LetStmt) Statements.let_stmt_type_expr refl ∷
    entry (value_of Node.LetStmt) Statements.let_stmt_value refl ∷
    entry (expr_of Node.ReturnStmt Node.ReturnStmt 0) Statements.return_stmt_value refl ∷
    entry (expr_of Node.AssignStmt Node.AssignStmt 0) Statements.assign_stmt_target refl ∷
    entry (expr_of Node.AssignStmt Node.AssignStmt 1) Statements.assign_stmt_value refl ∷
    entry (kind Node.WhileStmt Node.InlineWhileStmt) Statements.while_stmt_inline refl ∷
    entry (expr_of Node.WhileStmt Node.InlineWhileStmt 0) Statements.while_stmt_condition refl ∷
    entry (new_child Node.WhileStmt Node.InlineWhileStmt 1 Node.InitBlock Node.Block) Statements.while_stmt_body refl ∷
    entry let_stmt Statements.let_stmt refl ∷
    entry while_stmt Statements.while_stmt refl ∷
    entry (by_kind statement_of) Statements.statement refl ∷
    []
