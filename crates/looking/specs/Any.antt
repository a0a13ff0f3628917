-- Any node (`NodeView` of cst/mod.rs; its `ident` stands in `View`), and its parent, which the Rust doesn't have.
use Rattle.std.specs.Prelude.{cond, List, ℕ, eqb}
use Rattle.words.specs.Node
use Rattle.looking.specs.View.{Seen, is, none, and_then, look, count_of, kind_of, nth_of, span_of}
use Rattle.looking.specs.declared.TokenSpan.{TokenSpan}

-- `NodeView::kind`
abbrev pub kind : List ℕ → ℕ → Seen ℕ
kind ns n = kind_of Node.File Node.Error ns n

-- `NodeView::span`, `Expr::span`, `Statement::span`
abbrev pub span : List ℕ → ℕ → Seen TokenSpan
span ns n = span_of Node.File Node.Error ns n

-- `NodeView::child`
abbrev pub child : ℕ → List ℕ → ℕ → Seen ℕ
child i ns n = nth_of Node.File Node.Error Node.File Node.Error i ns n

-- `NodeView::children`, counted
abbrev pub child_count : List ℕ → ℕ → Seen ℕ
child_count ns n = count_of Node.File Node.Error Node.File Node.Error ns n

-- "A node gets a sixth word, its parent" (01, W3): the number in it. "Asked for, File has none" (01, W3): it is node 0.
abbrev pub parent : List ℕ → ℕ → Seen ℕ
parent ns n = and_then (look ns n) (λ node. cond (eqb n 0) none (is node.parent))
