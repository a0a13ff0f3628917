-- The kinds of a node: "order in `NodeKind` from 0, Error 49" (01, Words that are lent); `NodeKind` of cst/mod.rs.
use Rattle.std.specs.Prelude.{ℕ}

abbrev pub File : ℕ
File = 0

abbrev pub ConstDecl : ℕ
ConstDecl = 1

abbrev pub ImportDecl : ℕ
ImportDecl = 2

abbrev pub ImportAsDecl : ℕ
ImportAsDecl = 3

abbrev pub ImportGroupDecl : ℕ
ImportGroupDecl = 4

abbrev pub ImportGroupItem : ℕ
ImportGroupItem = 5

abbrev pub InitBlock : ℕ
InitBlock = 6

abbrev pub RunBlock : ℕ
RunBlock = 7

abbrev pub ComptimeBlock : ℕ
ComptimeBlock = 8

abbrev pub Block : ℕ
Block = 9

abbrev pub LetStmt : ℕ
LetStmt = 10

abbrev pub ReturnStmt : ℕ
ReturnStmt = 11

abbrev pub AssignStmt : ℕ
AssignStmt = 12

abbrev pub WhileStmt : ℕ
WhileStmt = 13

abbrev pub InlineWhileStmt : ℕ
InlineWhileStmt = 14

abbrev pub BinaryExpr : ℕ
BinaryExpr = 15

abbrev pub UnaryExpr : ℕ
UnaryExpr = 16

abbrev pub ParenExpr : ℕ
ParenExpr = 17

abbrev pub CallExpr : ℕ
CallExpr = 18

abbrev pub MemberExpr : ℕ
MemberExpr = 19

abbrev pub StructDef : ℕ
StructDef = 20

abbrev pub StructBody : ℕ
StructBody = 21

abbrev pub StructLit : ℕ
StructLit = 22

abbrev pub TupleType : ℕ
TupleType = 23

abbrev pub TupleLit : ℕ
TupleLit = 24

abbrev pub If : ℕ
If = 25

abbrev pub ElseIfBranchList : ℕ
ElseIfBranchList = 26

abbrev pub ElseIfBranch : ℕ
ElseIfBranch = 27

abbrev pub Match : ℕ
Match = 28

abbrev pub MatchArmList : ℕ
MatchArmList = 29

abbrev pub MatchArm : ℕ
MatchArm = 30

abbrev pub MatchFallbackArm : ℕ
MatchFallbackArm = 31

abbrev pub BoolLiteral : ℕ
BoolLiteral = 32

abbrev pub NumLiteral : ℕ
NumLiteral = 33

abbrev pub StringLiteral : ℕ
StringLiteral = 34

abbrev pub SelfType : ℕ
SelfType = 35

abbrev pub Identifier : ℕ
Identifier = 36

abbrev pub BuiltinName : ℕ
BuiltinName = 37

abbrev pub FnDef : ℕ
FnDef = 38

abbrev pub MethodDef : ℕ
MethodDef = 39

abbrev pub ParamList : ℕ
ParamList = 40

abbrev pub Parameter : ℕ
Parameter = 41

abbrev pub ComptimeParameter : ℕ
ComptimeParameter = 42

abbrev pub ParamAnyType : ℕ
ParamAnyType = 43

abbrev pub Operator : ℕ
Operator = 44

abbrev pub StatementsList : ℕ
StatementsList = 45

abbrev pub ImportPath : ℕ
ImportPath = 46

abbrev pub FieldDef : ℕ
FieldDef = 47

abbrev pub FieldAssign : ℕ
FieldAssign = 48

abbrev pub Error : ℕ
Error = 49
