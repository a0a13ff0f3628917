-- Blocks and statements: the numbers of the accessors, and what each tells.
use Rattle.std.specs.Prelude.{List, [], ◌∷◌, ℕ}
use Rattle.looking.specs.View.{Seen}
use Rattle.looking.specs.declared.TokenSpan.{TokenSpan}
use Rattle.views.specs.Statements.{block, block_statement, block_statement_count, block_end_expr, let_stmt_name, let_stmt_name_span, let_stmt_comptime, let_stmt_mutable, let_stmt_span, let_stmt_type_expr, let_stmt_value, let_stmt, return_stmt_value, assign_stmt_target, assign_stmt_value, while_stmt_inline, while_stmt_condition, while_stmt_body, while_stmt, statement}

abbrev pub numbers : ℕ → List ℕ → ℕ → List (ℕ × Seen ℕ)
numbers i ns n =
    (64, block ns n) ∷
    (65, block_statement i ns n) ∷
    (67, block_end_expr ns n) ∷
    (68, let_stmt_name ns n) ∷
    (70, let_stmt_comptime ns n) ∷
    (71, let_stmt_mutable ns n) ∷
    (73, let_stmt_type_expr ns n) ∷
    (74, let_stmt_value ns n) ∷
    (75, let_stmt ns n) ∷
    (76, return_stmt_value ns n) ∷
    (77, assign_stmt_target ns n) ∷
    (78, assign_stmt_value ns n) ∷
    (79, while_stmt_inline ns n) ∷
    (80, while_stmt_condition ns n) ∷
    (81, while_stmt_body ns n) ∷
    (82, while_stmt ns n) ∷
    (83, statement ns n) ∷ []

abbrev pub spans : List ℕ → ℕ → List (ℕ × Seen TokenSpan)
spans ns n =
    (69, let_stmt_name_span ns n) ∷
    (72, let_stmt_span ns n) ∷ []

abbrev pub counts : List ℕ → ℕ → List (ℕ × Seen ℕ)
counts ns n =
    (66, block_statement_count ns n) ∷ []
