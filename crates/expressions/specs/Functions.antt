-- Functions, methods and their parameters (ast/expr.rs).
use Rattle.std.specs.Prelude.{List, ℕ}
use Rattle.words.specs.Flag
use Rattle.words.specs.Node
use Rattle.looking.specs.View.{Seen, flag_of, inner_count, inner_of, kind_of, name_of, new_child, payload_child, span_child}
use Rattle.expr.specs.Expr.{expr_of}
use Rattle.looking.specs.declared.TokenSpan.{TokenSpan}

-- `FnDef::eager`
abbrev pub fn_def_eager : List ℕ → ℕ → Seen ℕ
fn_def_eager ns n = flag_of Node.FnDef Node.FnDef Flag.FnDef-eager ns n

-- `FnDef::param_list_span`
abbrev pub fn_def_param_list_span : List ℕ → ℕ → Seen TokenSpan
fn_def_param_list_span ns n = span_child Node.FnDef Node.FnDef 0 Node.File Node.Error ns n

-- `FnDef::params`, its i-th
abbrev pub fn_def_param : ℕ → List ℕ → ℕ → Seen ℕ
fn_def_param i ns n = inner_of Node.FnDef Node.FnDef 0 Node.Parameter Node.ComptimeParameter i ns n

-- `FnDef::params`, counted
abbrev pub fn_def_param_count : List ℕ → ℕ → Seen ℕ
fn_def_param_count ns n = inner_count Node.FnDef Node.FnDef 0 Node.Parameter Node.ComptimeParameter ns n

-- `FnDef::return_type`
abbrev pub fn_def_return_type : List ℕ → ℕ → Seen ℕ
fn_def_return_type ns n = expr_of Node.FnDef Node.FnDef 1 ns n

-- `FnDef::body`
abbrev pub fn_def_body : List ℕ → ℕ → Seen ℕ
fn_def_body ns n = new_child Node.FnDef Node.FnDef 2 Node.InitBlock Node.Block ns n

-- `MethodDef::eager`
abbrev pub method_def_eager : List ℕ → ℕ → Seen ℕ
method_def_eager ns n = flag_of Node.MethodDef Node.MethodDef Flag.MethodDef-eager ns n

-- `MethodDef::name`
abbrev pub method_def_name : List ℕ → ℕ → Seen ℕ
method_def_name ns n = name_of Node.MethodDef Node.MethodDef 0 ns n

-- `MethodDef::name_span`
abbrev pub method_def_name_span : List ℕ → ℕ → Seen TokenSpan
method_def_name_span ns n = span_child Node.MethodDef Node.MethodDef 0 Node.Identifier Node.Identifier ns n

-- `MethodDef::param_list_span`
abbrev pub method_def_param_list_span : List ℕ → ℕ → Seen TokenSpan
method_def_param_list_span ns n = span_child Node.MethodDef Node.MethodDef 1 Node.File Node.Error ns n

-- `MethodDef::params`, its i-th
abbrev pub method_def_param : ℕ → List ℕ → ℕ → Seen ℕ
method_def_param i ns n = inner_of Node.MethodDef Node.MethodDef 1 Node.Parameter Node.ComptimeParameter i ns n

-- `MethodDef::params`, counted
abbrev pub method_def_param_count : List ℕ → ℕ → Seen ℕ
method_def_param_count ns n = inner_count Node.MethodDef Node.MethodDef 1 Node.Parameter Node.ComptimeParameter ns n

-- `MethodDef::return_type`
abbrev pub method_def_return_type : List ℕ → ℕ → Seen ℕ
method_def_return_type ns n = expr_of Node.MethodDef Node.MethodDef 2 ns n

-- `MethodDef::body`
abbrev pub method_def_body : List ℕ → ℕ → Seen ℕ
method_def_body ns n = new_child Node.MethodDef Node.MethodDef 3 Node.InitBlock Node.Block ns n

-- `Param::name`
abbrev pub param_name : List ℕ → ℕ → Seen ℕ
param_name ns n = name_of Node.Parameter Node.ComptimeParameter 0 ns n

-- `Param::name_span`
abbrev pub param_name_span : List ℕ → ℕ → Seen TokenSpan
param_name_span ns n = span_child Node.Parameter Node.ComptimeParameter 0 Node.Identifier Node.Identifier ns n

-- `Param::is_comptime`
abbrev pub param_is_comptime : List ℕ → ℕ → Seen ℕ
param_is_comptime ns n = kind_of Node.Parameter Node.ComptimeParameter ns n

-- `ParamType::Explicit`
abbrev pub param_type_explicit : List ℕ → ℕ → Seen ℕ
param_type_explicit ns n = expr_of Node.Parameter Node.ComptimeParameter 1 ns n

-- `ParamType::Any`, its name
abbrev pub param_type_any : List ℕ → ℕ → Seen ℕ
param_type_any ns n = payload_child Node.Parameter Node.ComptimeParameter 1 Node.ParamAnyType Node.ParamAnyType ns n

-- `ParamType::Any`, its span
abbrev pub param_type_any_span : List ℕ → ℕ → Seen TokenSpan
param_type_any_span ns n = span_child Node.Parameter Node.ComptimeParameter 1 Node.ParamAnyType Node.ParamAnyType ns n
