-- The flags in the payload of a node, each as the number that it adds: "flags as bits, first flag highest" (01, Words that are lent).
-- A name is that of the kind and of the field of `NodeKind` of cst/mod.rs; a BoolLiteral is 1 for true.
use Rattle.std.specs.Prelude.{ℕ}

abbrev pub ConstDecl-typed : ℕ
ConstDecl-typed = 1

abbrev pub ImportDecl-public : ℕ
ImportDecl-public = 2

abbrev pub ImportDecl-glob : ℕ
ImportDecl-glob = 1

abbrev pub ImportAsDecl-public : ℕ
ImportAsDecl-public = 1

abbrev pub ImportGroupDecl-public : ℕ
ImportGroupDecl-public = 1

abbrev pub LetStmt-comptime : ℕ
LetStmt-comptime = 4

abbrev pub LetStmt-mutable : ℕ
LetStmt-mutable = 2

abbrev pub LetStmt-typed : ℕ
LetStmt-typed = 1

abbrev pub MatchFallbackArm-binding : ℕ
MatchFallbackArm-binding = 1

abbrev pub BoolLiteral-true : ℕ
BoolLiteral-true = 1

abbrev pub FnDef-eager : ℕ
FnDef-eager = 1

abbrev pub MethodDef-eager : ℕ
MethodDef-eager = 1
