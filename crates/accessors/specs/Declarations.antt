-- Files, constants and imports: the numbers of the accessors, and what each tells.
use Rattle.std.specs.Prelude.{List, [], ◌∷◌, ℕ}
use Rattle.looking.specs.View.{Seen}
use Rattle.looking.specs.declared.TokenSpan.{TokenSpan}
use Rattle.views.specs.Declarations.{file, file_def, file_def_count, init_block, run_block, const_decl_name, const_decl_name_span, const_decl_type, const_decl_assign, const_decl_span, import_as_decl_name, import_group_public, import_group_item, import_group_item_count, import_group_item_name, import_group_item_name_span, import_group_item_alias, import_group_item_span}
use Rattle.views.specs.Imports.{import_path, import_public, import_glob, import_path_segment, import_path_segment_count, import_first_path_segment_span, import_last_path_segment_span, import_file_path_span, import_group_path_segment, import_group_path_segment_count, import_group_first_path_segment_span, import_group_file_path_span}

abbrev pub numbers : ℕ → List ℕ → ℕ → List (ℕ × Seen ℕ)
numbers i ns n =
    (32, file ns n) ∷
    (33, file_def i ns n) ∷
    (35, init_block ns n) ∷
    (36, run_block ns n) ∷
    (37, const_decl_name ns n) ∷
    (39, const_decl_type ns n) ∷
    (40, const_decl_assign ns n) ∷
    (42, import_path ns n) ∷
    (43, import_public ns n) ∷
    (44, import_glob ns n) ∷
    (45, import_as_decl_name ns n) ∷
    (46, import_path_segment i ns n) ∷
    (51, import_group_public ns n) ∷
    (52, import_group_path_segment i ns n) ∷
    (56, import_group_item i ns n) ∷
    (58, import_group_item_name ns n) ∷
    (60, import_group_item_alias ns n) ∷ []

abbrev pub spans : List ℕ → ℕ → List (ℕ × Seen TokenSpan)
spans ns n =
    (38, const_decl_name_span ns n) ∷
    (41, const_decl_span ns n) ∷
    (48, import_first_path_segment_span ns n) ∷
    (49, import_last_path_segment_span ns n) ∷
    (50, import_file_path_span ns n) ∷
    (54, import_group_first_path_segment_span ns n) ∷
    (55, import_group_file_path_span ns n) ∷
    (59, import_group_item_name_span ns n) ∷
    (61, import_group_item_span ns n) ∷ []

abbrev pub counts : List ℕ → ℕ → List (ℕ × Seen ℕ)
counts ns n =
    (34, file_def_count ns n) ∷
    (47, import_path_segment_count ns n) ∷
    (53, import_group_path_segment_count ns n) ∷
    (57, import_group_item_count ns n) ∷ []
