-- Operators, calls, members and literals: the numbers of the accessors, and what each tells.
use Rattle.std.specs.Prelude.{List, [], ◌∷◌, ℕ}
use Rattle.looking.specs.View.{Seen}
use Rattle.looking.specs.declared.TokenSpan.{TokenSpan}
use Rattle.expressions.specs.Expressions.{binary_expr_op, binary_expr_lhs, binary_expr_op_span, binary_expr_rhs, unary_expr_op, unary_expr_operand, call_expr_callee, call_expr_arg, call_expr_arg_count, call_expr_direct_member_callee, member_expr_object, member_expr_member, member_expr, bool_literal_value, num_literal_id, string_literal_value, self_type, builtin_name}

abbrev pub numbers : ℕ → List ℕ → ℕ → List (ℕ × Seen ℕ)
numbers i ns n =
    (128, binary_expr_op ns n) ∷
    (129, binary_expr_lhs ns n) ∷
    (131, binary_expr_rhs ns n) ∷
    (132, unary_expr_op ns n) ∷
    (133, unary_expr_operand ns n) ∷
    (134, call_expr_callee ns n) ∷
    (135, call_expr_arg i ns n) ∷
    (137, call_expr_direct_member_callee ns n) ∷
    (138, member_expr_object ns n) ∷
    (139, member_expr_member ns n) ∷
    (140, member_expr ns n) ∷
    (141, bool_literal_value ns n) ∷
    (142, num_literal_id ns n) ∷
    (143, string_literal_value ns n) ∷
    (144, self_type ns n) ∷
    (145, builtin_name ns n) ∷ []

abbrev pub spans : List ℕ → ℕ → List (ℕ × Seen TokenSpan)
spans ns n =
    (130, binary_expr_op_span ns n) ∷ []

abbrev pub counts : List ℕ → ℕ → List (ℕ × Seen ℕ)
counts ns n =
    (136, call_expr_arg_count ns n) ∷ []
