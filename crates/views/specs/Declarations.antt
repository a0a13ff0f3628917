-- Declarations: a file and what it declares (ast/mod.rs).
use Rattle.std.specs.Prelude.{List, ℕ}
use Rattle.words.specs.Flag
use Rattle.words.specs.Node
use Rattle.looking.specs.View.{Seen, count_of, flag_of, name_of, new_of, nth_of, span_child, span_of}
use Rattle.expr.specs.Expr.{type_of, value_of}
use Rattle.looking.specs.declared.TokenSpan.{TokenSpan}

-- `File::new`
abbrev pub file : List ℕ → ℕ → Seen ℕ
file ns n = new_of Node.File Node.File ns n

-- `File::iter_defs`, its i-th
abbrev pub file_def : ℕ → List ℕ → ℕ → Seen ℕ
file_def i ns n = nth_of Node.File Node.File Node.File Node.Error i ns n

-- `File::iter_defs`, counted
abbrev pub file_def_count : List ℕ → ℕ → Seen ℕ
file_def_count ns n = count_of Node.File Node.File Node.File Node.Error ns n

-- `InitBlock::new`, `InitBlock::body`
abbrev pub init_block : List ℕ → ℕ → Seen ℕ
init_block ns n = new_of Node.InitBlock Node.InitBlock ns n

-- `RunBlock::new`, `RunBlock::body`
abbrev pub run_block : List ℕ → ℕ → Seen ℕ
run_block ns n = new_of Node.RunBlock Node.RunBlock ns n

-- `ConstDecl::name`
abbrev pub const_decl_name : List ℕ → ℕ → Seen ℕ
const_decl_name ns n = name_of Node.ConstDecl Node.ConstDecl 0 ns n

-- `ConstDecl::name_span`
abbrev pub const_decl_name_span : List ℕ → ℕ → Seen TokenSpan
const_decl_name_span ns n = span_child Node.ConstDecl Node.ConstDecl 0 Node.Identifier Node.Identifier ns n

-- `ConstDecl::type`
abbrev pub const_decl_type : List ℕ → ℕ → Seen ℕ
const_decl_type ns n = type_of Node.ConstDecl ns n

-- `ConstDecl::assign`
abbrev pub const_decl_assign : List ℕ → ℕ → Seen ℕ
const_decl_assign ns n = value_of Node.ConstDecl ns n

-- `ConstDecl::span`
abbrev pub const_decl_span : List ℕ → ℕ → Seen TokenSpan
const_decl_span ns n = span_of Node.ConstDecl Node.ConstDecl ns n

-- `ImportSuffix::As` of an ImportAsDecl
abbrev pub import_as_decl_name : List ℕ → ℕ → Seen ℕ
import_as_decl_name ns n = name_of Node.ImportAsDecl Node.ImportAsDecl 1 ns n

-- `ImportGroup::public`
abbrev pub import_group_public : List ℕ → ℕ → Seen ℕ
import_group_public ns n = flag_of Node.ImportGroupDecl Node.ImportGroupDecl Flag.ImportGroupDecl-public ns n

-- `ImportGroup::items`, its i-th
abbrev pub import_group_item : ℕ → List ℕ → ℕ → Seen ℕ
import_group_item i ns n = nth_of Node.ImportGroupDecl Node.ImportGroupDecl Node.ImportGroupItem Node.ImportGroupItem i ns n

-- `ImportGroup::items`, counted
abbrev pub import_group_item_count : List ℕ → ℕ → Seen ℕ
import_group_item_count ns n = count_of Node.ImportGroupDecl Node.ImportGroupDecl Node.ImportGroupItem Node.ImportGroupItem ns n

-- `ImportGroupItemView::name`
abbrev pub import_group_item_name : List ℕ → ℕ → Seen ℕ
import_group_item_name ns n = name_of Node.ImportGroupItem Node.ImportGroupItem 0 ns n

-- `ImportGroupItemView::name_span`
abbrev pub import_group_item_name_span : List ℕ → ℕ → Seen TokenSpan
import_group_item_name_span ns n = span_child Node.ImportGroupItem Node.ImportGroupItem 0 Node.File Node.Error ns n

-- `ImportGroupItemView::alias`
abbrev pub import_group_item_alias : List ℕ → ℕ → Seen ℕ
import_group_item_alias ns n = name_of Node.ImportGroupItem Node.ImportGroupItem 1 ns n

-- `ImportGroupItemView::span`
abbrev pub import_group_item_span : List ℕ → ℕ → Seen TokenSpan
import_group_item_span ns n = span_of Node.ImportGroupItem Node.ImportGroupItem ns n
