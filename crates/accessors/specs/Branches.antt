-- `if` and `match`: the numbers of the accessors, and what each tells.
use Rattle.std.specs.Prelude.{List, [], ◌∷◌, ℕ}
use Rattle.looking.specs.View.{Seen}
use Rattle.looking.specs.declared.TokenSpan.{TokenSpan}
use Rattle.expressions.specs.Expressions.{if_expr_condition, if_expr_body, if_expr_else_if_branch, if_expr_else_if_branch_count, if_expr_else_body, else_if_branch_condition, else_if_branch_body, match_expr_subject, match_expr_arm, match_expr_arm_count, match_arm_key, match_arm_body, match_fallback_arm_bound, match_fallback_arm_binding, match_fallback_arm_binding_span, match_fallback_arm_body}

abbrev pub numbers : ℕ → List ℕ → ℕ → List (ℕ × Seen ℕ)
numbers i ns n =
    (192, if_expr_condition ns n) ∷
    (193, if_expr_body ns n) ∷
    (194, if_expr_else_if_branch i ns n) ∷
    (196, if_expr_else_body ns n) ∷
    (197, else_if_branch_condition ns n) ∷
    (198, else_if_branch_body ns n) ∷
    (199, match_expr_subject ns n) ∷
    (200, match_expr_arm i ns n) ∷
    (202, match_arm_key ns n) ∷
    (203, match_arm_body ns n) ∷
    (204, match_fallback_arm_bound ns n) ∷
    (205, match_fallback_arm_binding ns n) ∷
    (207, match_fallback_arm_body ns n) ∷ []

abbrev pub spans : List ℕ → ℕ → List (ℕ × Seen TokenSpan)
spans ns n =
    (206, match_fallback_arm_binding_span ns n) ∷ []

abbrev pub counts : List ℕ → ℕ → List (ℕ × Seen ℕ)
counts ns n =
    (195, if_expr_else_if_branch_count ns n) ∷
    (201, match_expr_arm_count ns n) ∷ []
