-- Functions, methods and parameters: the numbers of the accessors, and what each tells.
use Rattle.std.specs.Prelude.{List, [], ◌∷◌, ℕ}
use Rattle.looking.specs.View.{Seen}
use Rattle.looking.specs.declared.TokenSpan.{TokenSpan}
use Rattle.expressions.specs.Functions.{fn_def_eager, fn_def_param_list_span, fn_def_param, fn_def_param_count, fn_def_return_type, fn_def_body, method_def_eager, method_def_name, method_def_name_span, method_def_param_list_span, method_def_param, method_def_param_count, method_def_return_type, method_def_body, param_name, param_name_span, param_is_comptime, param_type_explicit, param_type_any, param_type_any_span}

abbrev pub numbers : ℕ → List ℕ → ℕ → List (ℕ × Seen ℕ)
numbers i ns n =
    (96, fn_def_eager ns n) ∷
    (98, fn_def_param i ns n) ∷
    (100, fn_def_return_type ns n) ∷
    (101, fn_def_body ns n) ∷
    (102, method_def_eager ns n) ∷
    (103, method_def_name ns n) ∷
    (106, method_def_param i ns n) ∷
    (108, method_def_return_type ns n) ∷
    (109, method_def_body ns n) ∷
    (110, param_name ns n) ∷
    (112, param_is_comptime ns n) ∷
    (113, param_type_explicit ns n) ∷
    (114, param_type_any ns n) ∷ []

abbrev pub spans : List ℕ → ℕ → List (ℕ × Seen TokenSpan)
spans ns n =
    (97, fn_def_param_list_span ns n) ∷
    (104, method_def_name_span ns n) ∷
    (105, method_def_param_list_span ns n) ∷
    (111, param_name_span ns n) ∷
    (115, param_type_any_span ns n) ∷ []

abbrev pub counts : List ℕ → ℕ → List (ℕ × Seen ℕ)
counts ns n =
    (99, fn_def_param_count ns n) ∷
    (107, method_def_param_count ns n) ∷ []
