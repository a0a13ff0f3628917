-- Structs, their literals, and tuples: the numbers of the accessors, and what each tells.
use Rattle.std.specs.Prelude.{List, [], ◌∷◌, ℕ}
use Rattle.looking.specs.View.{Seen}
use Rattle.looking.specs.declared.TokenSpan.{TokenSpan}
use Rattle.expressions.specs.Expressions.{struct_def_index_expr, struct_def_field, struct_def_field_count, struct_def_method, struct_def_method_count, field_def_name, field_def_name_span, field_def_type_expr, struct_lit_type_expr, struct_lit_field, struct_lit_field_count, field_assign_name, field_assign_name_span, field_assign_value, tuple_type_field, tuple_type_field_count, tuple_lit_field, tuple_lit_field_count}

abbrev pub numbers : ℕ → List ℕ → ℕ → List (ℕ × Seen ℕ)
numbers i ns n =
    (160, struct_def_index_expr ns n) ∷
    (161, struct_def_field i ns n) ∷
    (163, struct_def_method i ns n) ∷
    (165, field_def_name ns n) ∷
    (167, field_def_type_expr ns n) ∷
    (168, struct_lit_type_expr ns n) ∷
    (169, struct_lit_field i ns n) ∷
    (171, field_assign_name ns n) ∷
    (173, field_assign_value ns n) ∷
    (174, tuple_type_field i ns n) ∷
    (176, tuple_lit_field i ns n) ∷ []

abbrev pub spans : List ℕ → ℕ → List (ℕ × Seen TokenSpan)
spans ns n =
    (166, field_def_name_span ns n) ∷
    (172, field_assign_name_span ns n) ∷ []

abbrev pub counts : List ℕ → ℕ → List (ℕ × Seen ℕ)
counts ns n =
    (162, struct_def_field_count ns n) ∷
    (164, struct_def_method_count ns n) ∷
    (170, struct_lit_field_count ns n) ∷
    (175, tuple_type_field_count ns n) ∷
    (177, tuple_lit_field_count ns n) ∷ []
