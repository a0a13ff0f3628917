-- `Import` of ast/mod.rs: an ImportDecl, or an ImportAsDecl, whose path is a child of its own.
use Rattle.std.specs.Prelude.{cond, List, ℕ, ◌-◌, eqb}
use Rattle.words.specs.Flag
use Rattle.words.specs.Node
use Rattle.looking.specs.View.{Seen, is, and_then, or_else, of, turns, nth, counted, new_of, nth_of, count_of, child_of, flag_of, kind_of, span_of, span_child}
use Rattle.looking.specs.declared.TokenSpan.{TokenSpan}

-- `Import::try_new`, its `path_node`
abbrev pub import_path : List ℕ → ℕ → Seen ℕ
import_path ns n = or_else (new_of Node.ImportDecl Node.ImportDecl ns n) (child_of Node.ImportAsDecl Node.ImportAsDecl 0 ns n)

-- `Import::public`
abbrev pub import_public : List ℕ → ℕ → Seen ℕ
import_public ns n =
    or_else (flag_of Node.ImportDecl Node.ImportDecl Flag.ImportDecl-public ns n)
    (flag_of Node.ImportAsDecl Node.ImportAsDecl Flag.ImportAsDecl-public ns n)

-- `ImportSuffix::All`: 1, and 0 of `As`; an ImportAsDecl is no glob
abbrev pub import_glob : List ℕ → ℕ → Seen ℕ
import_glob ns n =
    or_else (flag_of Node.ImportDecl Node.ImportDecl Flag.ImportDecl-glob ns n)
    (kind_of Node.ImportAsDecl Node.ImportAsDecl ns n)

-- `Import::collect_path_segments`: the path's children that are names, the i-th and counted
abbrev pub segment : ℕ → List ℕ → ℕ → Seen ℕ
segment i ns path = nth_of Node.File Node.Error Node.Identifier Node.Identifier i ns path

abbrev pub segment_count : List ℕ → ℕ → Seen ℕ
segment_count ns path = count_of Node.File Node.Error Node.Identifier Node.Identifier ns path

abbrev pub import_path_segment : ℕ → List ℕ → ℕ → Seen ℕ
import_path_segment i ns n = and_then (import_path ns n) (segment i ns)

abbrev pub import_path_segment_count : List ℕ → ℕ → Seen ℕ
import_path_segment_count ns n = and_then (import_path ns n) (segment_count ns)

-- `Import::first_path_segment_span`: `first_child`, which is a name
abbrev pub first_span : List ℕ → ℕ → Seen TokenSpan
first_span ns path = span_child Node.File Node.Error 0 Node.Identifier Node.Identifier ns path

abbrev pub import_first_path_segment_span : List ℕ → ℕ → Seen TokenSpan
import_first_path_segment_span ns n = and_then (import_path ns n) (first_span ns)

abbrev pub segment_span : ℕ → List ℕ → ℕ → Seen TokenSpan
segment_span i ns path = and_then (segment i ns path) (span_of Node.Identifier Node.Identifier ns)

-- `last` and `second_to_last` of the Rust's loop, 1 and 2 from the end; a path of one segment has it for both
abbrev pub end_span : ℕ → List ℕ → ℕ → Seen TokenSpan
end_span back ns path = and_then (segment_count ns path) (λ count. segment_span (count - back) ns path)

-- `Import::last_path_segment_span`
abbrev pub import_last_path_segment_span : List ℕ → ℕ → Seen TokenSpan
import_last_path_segment_span ns n = and_then (import_path ns n) (end_span 1 ns)

-- `Span::new`, of the start of one span and the end of another
abbrev pub joined : Seen TokenSpan → Seen TokenSpan → Seen TokenSpan
joined a b = and_then a (λ first. and_then b (λ last. is (record { start = first.start; end = last.end })))

abbrev pub path_span : ℕ → List ℕ → ℕ → Seen TokenSpan
path_span back ns path = joined (first_span ns path) (end_span back ns path)

-- `Import::file_path_span`: to `last` of `All`, to `second_to_last` of `As`
abbrev pub file_path_span : ℕ → List ℕ → ℕ → Seen TokenSpan
file_path_span n ns path = and_then (import_glob ns n) (λ glob. cond (eqb glob 0) (path_span 2 ns path) (path_span 1 ns path))

abbrev pub import_file_path_span : List ℕ → ℕ → Seen TokenSpan
import_file_path_span ns n = and_then (import_path ns n) (file_path_span n ns)

-- ---- `ImportGroup`

-- `ImportGroup::collect_path_segments`, its i-th and counted: the names before the first item
abbrev pub import_group_path_segment : ℕ → List ℕ → ℕ → Seen ℕ
import_group_path_segment i ns n =
    and_then (of Node.ImportGroupDecl Node.ImportGroupDecl ns n)
    (λ node. nth (turns ns) Node.ImportGroupItem Node.Identifier Node.Identifier ns node.child i)

abbrev pub import_group_path_segment_count : List ℕ → ℕ → Seen ℕ
import_group_path_segment_count ns n =
    and_then (of Node.ImportGroupDecl Node.ImportGroupDecl ns n)
    (λ node. counted (turns ns) Node.ImportGroupItem Node.Identifier Node.Identifier ns node.child 0)

-- `ImportGroup::first_path_segment_span`
abbrev pub import_group_first_path_segment_span : List ℕ → ℕ → Seen TokenSpan
import_group_first_path_segment_span ns n =
    span_child Node.ImportGroupDecl Node.ImportGroupDecl 0 Node.Identifier Node.Identifier ns n

-- `ImportGroup::file_path_span`: from the first name to `last_path_ident`
abbrev pub group_segment_span : ℕ → List ℕ → ℕ → Seen TokenSpan
group_segment_span i ns n = and_then (import_group_path_segment i ns n) (span_of Node.Identifier Node.Identifier ns)

abbrev pub group_end_span : List ℕ → ℕ → Seen TokenSpan
group_end_span ns n = and_then (import_group_path_segment_count ns n) (λ count. group_segment_span (count - 1) ns n)

abbrev pub import_group_file_path_span : List ℕ → ℕ → Seen TokenSpan
import_group_file_path_span ns n = joined (import_group_first_path_segment_span ns n) (group_end_span ns n)
