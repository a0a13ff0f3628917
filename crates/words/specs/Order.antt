-- Kinds and operators are numbered as the Rust declares them. Each list below is in the order of the Rust's declaration, and counts up.
use Rattle.std.specs.Prelude.{◌≡◌, refl, List, [], ◌∷◌, map, ℕ, zero, suc, ◌^◌, length, Some, option_map}
use Rattle.words.specs.BinaryOp
use Rattle.words.specs.ErrorToken
use Rattle.words.specs.Flag
use Rattle.words.specs.Node
use Rattle.words.specs.Refusal
use Rattle.words.specs.Report
use Rattle.words.specs.Token
use Rattle.words.specs.Token.{lex_error}
use Rattle.words.specs.UnaryOp

-- So many numbers, counted up from `n`.
abbrev pub counted : ℕ → ℕ → List ℕ
counted n zero = []
counted n (suc size) = n ∷ counted (suc n) size

-- `Token` of lexer.rs.
tokens :
    Token.Semicolon ∷ Token.Comma ∷ Token.Colon ∷ Token.Dot ∷ Token.Dollar ∷ Token.LeftCurly ∷ Token.RightCurly ∷ Token.LeftRound
    ∷ Token.RightRound ∷ Token.LeftSquare ∷ Token.RightSquare ∷ Token.DoubleColon ∷ Token.FatArrow ∷ Token.Equals ∷ Token.Plus
    ∷ Token.PlusPercent ∷ Token.Minus ∷ Token.MinusPercent ∷ Token.Star ∷ Token.StarPercent ∷ Token.Slash ∷ Token.PlusSlash
    ∷ Token.MinusSlash ∷ Token.LessSlash ∷ Token.GreaterSlash ∷ Token.Percent ∷ Token.DoubleEquals ∷ Token.BangEquals ∷ Token.LessThan
    ∷ Token.GreaterThan ∷ Token.LessEquals ∷ Token.GreaterEquals ∷ Token.Bang ∷ Token.AmperAmper ∷ Token.PipePipe ∷ Token.Ampersand
    ∷ Token.Pipe ∷ Token.Caret ∷ Token.Tilde ∷ Token.ShiftLeft ∷ Token.ShiftRight ∷ Token.If ∷ Token.Else ∷ Token.Fn ∷ Token.Eager
    ∷ Token.Let ∷ Token.Mut ∷ Token.Const ∷ Token.Init ∷ Token.Run ∷ Token.Struct ∷ Token.Tuple ∷ Token.Return ∷ Token.Comptime
    ∷ Token.Inline ∷ Token.While ∷ Token.True ∷ Token.False ∷ Token.And ∷ Token.Or ∷ Token.Pub ∷ Token.Use ∷ Token.As ∷ Token.Match
    ∷ Token.SelfType ∷ Token.Identifier ∷ Token.BuiltinName ∷ Token.DecimalLiteral ∷ Token.HexLiteral ∷ Token.BinLiteral
    ∷ Token.LooseStringLiteral ∷ Token.LooseHexStringLiteral ∷ Token.Whitespace ∷ Token.LineComment ∷ Token.BlockComment
    ∷ Token.AtWithoutIdentError ∷ Token.InvalidCharError ∷ Token.MalformedIdentError ∷ Token.MultilineStringError
    ∷ Token.UnclosedBlockCommentError ∷ Token.UnclosedStringError ∷ Token.Eof ∷ []
    ≡ counted 0 82
tokens = refl

-- `NodeKind` of cst/mod.rs.
nodes :
    Node.File ∷ Node.ConstDecl ∷ Node.ImportDecl ∷ Node.ImportAsDecl ∷ Node.ImportGroupDecl ∷ Node.ImportGroupItem ∷ Node.InitBlock
    ∷ Node.RunBlock ∷ Node.ComptimeBlock ∷ Node.Block ∷ Node.LetStmt ∷ Node.ReturnStmt ∷ Node.AssignStmt ∷ Node.WhileStmt
    ∷ Node.InlineWhileStmt ∷ Node.BinaryExpr ∷ Node.UnaryExpr ∷ Node.ParenExpr ∷ Node.CallExpr ∷ Node.MemberExpr ∷ Node.StructDef
    ∷ Node.StructBody ∷ Node.StructLit ∷ Node.TupleType ∷ Node.TupleLit ∷ Node.If ∷ Node.ElseIfBranchList ∷ Node.ElseIfBranch ∷ Node.Match
    ∷ Node.MatchArmList ∷ Node.MatchArm ∷ Node.MatchFallbackArm ∷ Node.BoolLiteral ∷ Node.NumLiteral ∷ Node.StringLiteral ∷ Node.SelfType
    ∷ Node.Identifier ∷ Node.BuiltinName ∷ Node.FnDef ∷ Node.MethodDef ∷ Node.ParamList ∷ Node.Parameter ∷ Node.ComptimeParameter
    ∷ Node.ParamAnyType ∷ Node.Operator ∷ Node.StatementsList ∷ Node.ImportPath ∷ Node.FieldDef ∷ Node.FieldAssign ∷ Node.Error ∷ []
    ≡ counted 0 50
nodes = refl

-- `BinaryOp` of cst/mod.rs.
binary-operators :
    BinaryOp.Or ∷ BinaryOp.And ∷ BinaryOp.DoubleEquals ∷ BinaryOp.BangEquals ∷ BinaryOp.LessThan ∷ BinaryOp.GreaterThan
    ∷ BinaryOp.LessEquals ∷ BinaryOp.GreaterEquals ∷ BinaryOp.Pipe ∷ BinaryOp.Caret ∷ BinaryOp.Ampersand ∷ BinaryOp.ShiftLeft
    ∷ BinaryOp.ShiftRight ∷ BinaryOp.Plus ∷ BinaryOp.Minus ∷ BinaryOp.PlusPercent ∷ BinaryOp.MinusPercent ∷ BinaryOp.Star ∷ BinaryOp.Slash
    ∷ BinaryOp.Percent ∷ BinaryOp.StarPercent ∷ BinaryOp.PlusSlash ∷ BinaryOp.MinusSlash ∷ BinaryOp.LessSlash ∷ BinaryOp.GreaterSlash ∷ []
    ≡ counted 0 25
binary-operators = refl

-- `UnaryOp` of cst/mod.rs.
unary-operators :
    UnaryOp.Minus ∷ UnaryOp.Bang ∷ UnaryOp.Tilde ∷ []
    ≡ counted 0 3
unary-operators = refl

-- `ErrorToken` of lexer.rs.
error-tokens :
    ErrorToken.InvalidChar ∷ ErrorToken.MalformedIdent ∷ ErrorToken.MultilineString ∷ ErrorToken.UnclosedBlockComment
    ∷ ErrorToken.UnclosedString ∷ ErrorToken.AtWithoutIdent ∷ []
    ≡ counted 0 6
error-tokens = refl

-- Each error is that of its token.
error-kinds :
    map (λ kind. option_map ErrorToken.error_number (lex_error kind))
    (Token.InvalidCharError ∷ Token.MalformedIdentError ∷ Token.MultilineStringError ∷ Token.UnclosedBlockCommentError
    ∷ Token.UnclosedStringError ∷ Token.AtWithoutIdentError ∷ [])
    ≡ map Some (counted 0 6)
unfolding lex_error
error-kinds = refl

-- The flags of a node of `NodeKind`, its fields in their order: "first flag highest" (01, Words that are lent).
abbrev bits : ℕ → List ℕ
bits zero = []
bits (suc n) = 2 ^ n ∷ bits n

abbrev flagged : List (List ℕ)
flagged =
    (Flag.ConstDecl-typed ∷ [])
    ∷ (Flag.ImportDecl-public ∷ Flag.ImportDecl-glob ∷ [])
    ∷ (Flag.ImportAsDecl-public ∷ [])
    ∷ (Flag.ImportGroupDecl-public ∷ [])
    ∷ (Flag.LetStmt-comptime ∷ Flag.LetStmt-mutable ∷ Flag.LetStmt-typed ∷ [])
    ∷ (Flag.MatchFallbackArm-binding ∷ [])
    ∷ (Flag.BoolLiteral-true ∷ [])
    ∷ (Flag.FnDef-eager ∷ [])
    ∷ (Flag.MethodDef-eager ∷ [])
    ∷ []

flags : flagged ≡ map (λ fields. bits (length fields)) flagged
flags = refl

-- "Kinds: 1 lexer error .. 16 backslash at the end" (01, Words that are lent).
reports :
    Report.LexerError ∷ Report.Unexpected ∷ Report.MissingToken ∷ Report.MissingSpecific ∷ Report.BuiltinAsName ∷ Report.FieldAfterMethod
    ∷ Report.StarInGroup ∷ Report.PathInGroup ∷ Report.EmptyGroup ∷ Report.NeedlessBraces ∷ Report.NonAscii ∷ Report.BadHexEscape
    ∷ Report.UnknownEscape ∷ Report.NonHexDigit ∷ Report.OddDigits ∷ Report.BackslashAtEnd ∷ []
    ≡ counted 1 16
reports = refl

-- The refusals of 01, Refusals, by who can cause them, then those of W1.
refusals :
    Refusal.NotUtf8Start ∷ Refusal.TooLong ∷ Refusal.TooDeep ∷ Refusal.TokensDontFit ∷ Refusal.NodesDontFit ∷ Refusal.ValuesDontFit
    ∷ Refusal.ReportsDontFit ∷ Refusal.AlteredNodes ∷ Refusal.NotUtf8Later ∷ Refusal.NotUtf8Cut ∷ []
    ≡ counted 1 10
refusals = refl
