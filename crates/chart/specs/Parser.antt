-- A parser of rows, pure and by recursive descent. A number that bounds a list is the length of its row and one more: on a row that is derived it never runs out (`Complete.exact`).
use Rattle.std.specs.Prelude.{Bool, true, false, cond, ◌&&◌, List, [], ◌∷◌, ◌++◌, ℕ, zero, suc, ◌+◌, eqb, leb, length}
use Rattle.literals.specs.Strings.{bytes_of}
use Rattle.words.specs.Token
use Rattle.words.specs.Node
use Rattle.words.specs.Flag
use Rattle.words.specs.UnaryOp
use Rattle.chart.specs.Row.{Lexeme, RowToken, begins, is_over, token}
use Rattle.chart.specs.Tree.{Trees, ◌⊕◌, branch, listed, flag, let_flags, named, builtin_named, any_type, numeral, decoded, decoded_hex, quiet, string_tree, flags, name, number, bytes, node, none, ◌▸◌}
use Rattle.chart.specs.Chart.{Operator, operator, levels, prefix_level, binary_tree, is_block_like}

-- What a token is between two operands: no operator, or one of a level, 0 the loosest, with its payload.
pub data Role : Type 0 where
  not_binary : Role
  binary_of : ℕ → ℕ → Role

-- The role of a token in the row of a level; `rest` is that in the rows of tighter levels.
unfoldable pub within : ℕ → List Operator → ℕ → Role → Role
within level [] kind rest = rest
within level (operator k op ∷ r) kind rest = cond (eqb kind k) (binary_of level op) (within level r kind rest)

-- The role of a token in the rows from a level on.
unfoldable pub lookup : ℕ → List (List Operator) → ℕ → Role
lookup level [] kind = not_binary
lookup level (r ∷ rs) kind = within level r kind (lookup (suc level) rs kind)

unfoldable pub operator_of : ℕ → Role
operator_of kind = lookup 0 levels kind

-- The trees that were read and the row that is left; no expression begins here; the row is in no rule; or the depth is not enough.
pub data Outcome : Type 0 where
  ok : Trees → List RowToken → Outcome
  nothing failed deep : Outcome

-- The steps that the parser is made of. `if` is `cond`, kept closed so that proofs can go step by step.
unfoldable pub if : Bool → Outcome → Outcome → Outcome
if true a b = a
if false a b = b

-- Where the next token is of this kind, go on with its lexeme and the row after it.
unfoldable pub on : ℕ → List RowToken → (Lexeme → List RowToken → Outcome) → Outcome → Outcome
on K [] h m = m
on K (token k v ∷ xs) h m = if (eqb k K) (h v xs) m

-- What has to be there.
unfoldable pub bind : Outcome → (Trees → List RowToken → Outcome) → Outcome
bind (ok t ys) k = k t ys
bind nothing k = failed
bind failed k = failed
bind deep k = deep

-- What may be there.
unfoldable pub try : Outcome → (Trees → List RowToken → Outcome) → Outcome → Outcome
try (ok t ys) k z = k t ys
try nothing k z = z
try failed k z = failed
try deep k z = deep

-- The two readings that count for the depth. An expression: whether a field list is allowed, and the loosest level that it may have.
pub record Readers : Type 0 where
  pub expr : Bool → ℕ → List RowToken → Outcome
  pub block : List RowToken → Outcome

unfoldable pub on_level : Role → ℕ → (ℕ → ℕ → Outcome) → Outcome → Outcome
on_level not_binary k h m = m
on_level (binary_of j op) k h m = if (leb k j) (h op j) m

-- Where the next token is an operator of level `k` or tighter.
unfoldable pub on_op : ℕ → List RowToken → (ℕ → ℕ → List RowToken → Outcome) → Outcome → Outcome
on_op k [] h m = m
on_op k (token o v ∷ xs) h m = on_level (operator_of o) k (λ op j. h op j xs) m

-- One more element at the front of a list node; the list is there (`Sound.Listed`).
unfoldable pub push : Trees → Trees → Trees
push t none = t
push t (node kind v us ▸ e) = node kind v (t ⊕ us) ▸ e

-- Bytes before those of a string literal; it is there (`Sound.Text`).
unfoldable pub prepend : List ℕ → Trees → Trees
prepend bs none = none
prepend bs (node kind (bytes cs) us ▸ e) = node kind (bytes (bs ++ cs)) us ▸ e
prepend bs (node kind (flags f) us ▸ e) = node kind (flags f) us ▸ e
prepend bs (node kind (name s) us ▸ e) = node kind (name s) us ▸ e
prepend bs (node kind (number n) us ▸ e) = node kind (number n) us ▸ e

-- `parse_delimited` of expressions: it tries to read one before it looks for the closing token, which counts for the depth.
unfoldable pub read_list : ℕ → Readers → ℕ → List RowToken → Outcome
read_list K R zero xs = failed
read_list K R (suc n) xs =
    try (R.expr true 0 xs)
    (λ t ys. on Token.Comma ys (λ _ zs. bind (read_list K R n zs) (λ us ws. ok (t ⊕ us) ws)) (on K ys (λ _ zs. ok t zs) failed))
    (on K xs (λ _ ys. ok none ys) failed)

-- The elements of a tuple: the closing token is looked for first.
unfoldable pub read_elements : Readers → ℕ → List RowToken → Outcome
read_elements R zero xs = failed
read_elements R (suc n) xs = on Token.RightRound xs (λ _ ys. ok none ys)
    (bind (R.expr true 0 xs)
    (λ t ys. on Token.Comma ys (λ _ zs. bind (read_elements R n zs) (λ us ws. ok (t ⊕ us) ws)) (on Token.RightRound ys (λ _ zs. ok t zs) failed)))

unfoldable pub read_fields : Readers → ℕ → List RowToken → Outcome
read_fields R zero xs = failed
read_fields R (suc n) xs =
    on Token.Identifier xs (λ v ys. on Token.Colon ys (λ _ zs. bind (R.expr true 0 zs)
    (λ t ws. on Token.Comma ws (λ _ us. bind (read_fields R n us) (λ gs vs. ok (branch Node.FieldAssign 0 (named v ⊕ t) ⊕ gs) vs)) (on Token.RightCurly ws (λ _ us. ok (branch Node.FieldAssign 0 (named v ⊕ t)) us) failed))) failed)
    (on Token.RightCurly xs (λ _ ys. ok none ys) failed)

-- The loop of `try_parse_expr_min_bp`, with `t` read.
unfoldable pub read_on : Readers → ℕ → Bool → ℕ → Trees → List RowToken → Outcome
read_on R zero m k t xs = failed
read_on R (suc n) m k t xs =
    on Token.Dot xs (λ _ ys. on Token.Identifier ys (λ v zs. read_on R n m k (branch Node.MemberExpr 0 (t ⊕ named v)) zs) failed)
    (on Token.LeftRound xs (λ _ ys. bind (read_list Token.RightRound R (suc (length ys)) ys) (λ us zs. read_on R n m k (branch Node.CallExpr 0 (t ⊕ us)) zs))
    (if (m && begins Token.LeftCurly xs) (on Token.LeftCurly xs (λ _ ys. bind (read_fields R (suc (length ys)) ys) (λ us zs. read_on R n m k (branch Node.StructLit 0 (t ⊕ us)) zs)) failed)
    (on_op k xs (λ o j ys. bind (R.expr m (suc j) ys) (λ u zs. read_on R n m k (binary_tree o t u) zs))
    (ok t xs))))

unfoldable pub read_strings : ℕ → List RowToken → Outcome
read_strings zero xs = failed
read_strings (suc n) xs =
    on Token.LooseStringLiteral xs (λ v ys. if (quiet (decoded v)) (bind (read_strings n ys) (λ t zs. ok (prepend (bytes_of (decoded v)) t) zs)) failed)
    (on Token.LooseHexStringLiteral xs (λ v ys. if (quiet (decoded_hex v)) (bind (read_strings n ys) (λ t zs. ok (prepend (bytes_of (decoded_hex v)) t) zs)) failed)
    (ok (string_tree []) xs))

unfoldable pub read_else_ifs : Readers → ℕ → List RowToken → Outcome
read_else_ifs R zero xs = failed
read_else_ifs R (suc n) xs =
    on Token.Else xs (λ _ ys.
    on Token.If ys (λ _ zs. bind (R.expr false 0 zs) (λ c ws. bind (R.block ws) (λ b us. bind (read_else_ifs R n us) (λ e vs. ok (push (branch Node.ElseIfBranch 0 (c ⊕ branch Node.Block 0 b)) e) vs))))
    (bind (R.block ys) (λ b zs. ok (listed Node.ElseIfBranchList none (branch Node.Block 0 b)) zs)))
    (ok (listed Node.ElseIfBranchList none none) xs)

unfoldable pub read_arm : Readers → List RowToken → Outcome
read_arm R xs =
    on Token.Else xs (λ _ ys.
    on Token.Identifier ys (λ u zs. on Token.FatArrow zs (λ _ ws. bind (R.expr true 0 ws) (λ t vs. ok (branch Node.MatchFallbackArm Flag.MatchFallbackArm-binding (named u ⊕ t)) vs)) failed)
    (on Token.FatArrow ys (λ _ ws. bind (R.expr true 0 ws) (λ t vs. ok (branch Node.MatchFallbackArm 0 t) vs)) failed))
    (bind (R.expr true 0 xs) (λ t ys. on Token.FatArrow ys (λ _ zs. bind (R.expr true 0 zs) (λ u ws. ok (branch Node.MatchArm 0 (t ⊕ u)) ws)) failed))

-- No arm is tried at the end of the row, where trying would count for the depth.
unfoldable pub read_arms : Readers → ℕ → List RowToken → Outcome
read_arms R zero xs = failed
read_arms R (suc n) xs = on Token.RightCurly xs (λ _ ys. ok none ys)
    (if (is_over xs) failed
    (bind (read_arm R xs) (λ t ys. on Token.Comma ys (λ _ zs. bind (read_arms R n zs) (λ us ws. ok (t ⊕ us) ws)) (on Token.RightCurly ys (λ _ zs. ok t zs) failed))))

unfoldable pub read_parameter_type : Readers → List RowToken → Outcome
read_parameter_type R xs = on Token.Dollar xs (λ _ ys. on Token.Identifier ys (λ w zs. ok (any_type w) zs) failed) (bind (R.expr true 0 xs) (λ t ys. ok t ys))

unfoldable pub read_parameter : Readers → List RowToken → Outcome
read_parameter R xs =
    on Token.Comptime xs (λ _ ys. on Token.Identifier ys (λ v zs. on Token.Colon zs (λ _ ws. bind (read_parameter_type R ws) (λ t vs. ok (branch Node.ComptimeParameter 0 (named v ⊕ t)) vs)) failed) failed)
    (on Token.Identifier xs (λ v zs. on Token.Colon zs (λ _ ws. bind (read_parameter_type R ws) (λ t vs. ok (branch Node.Parameter 0 (named v ⊕ t)) vs)) failed)
    nothing)

unfoldable pub read_parameters : Readers → ℕ → List RowToken → Outcome
read_parameters R zero xs = failed
read_parameters R (suc n) xs =
    try (read_parameter R xs)
    (λ t ys. on Token.Comma ys (λ _ zs. bind (read_parameters R n zs) (λ us ws. ok (t ⊕ us) ws)) (on Token.RightRound ys (λ _ zs. ok t zs) failed))
    (on Token.RightRound xs (λ _ ys. ok none ys) failed)

unfoldable pub read_signature : Readers → List RowToken → Outcome
read_signature R xs = on Token.LeftRound xs (λ _ ys. bind (read_parameters R (suc (length ys)) ys) (λ p zs. bind (R.expr false 0 zs) (λ t ws. bind (R.block ws) (λ b vs. ok (branch Node.ParamList 0 p ⊕ (t ⊕ branch Node.Block 0 b)) vs)))) failed

unfoldable pub read_methods : Readers → ℕ → List RowToken → Outcome
read_methods R zero xs = failed
read_methods R (suc n) xs =
    on Token.RightCurly xs (λ _ ys. ok none ys)
    (on Token.Eager xs (λ _ ys. on Token.Fn ys (λ _ zs. on Token.Identifier zs (λ w ws. bind (read_signature R ws) (λ t vs. bind (read_methods R n vs) (λ us qs. ok (branch Node.MethodDef Flag.MethodDef-eager (named w ⊕ t) ⊕ us) qs))) failed) failed)
    (on Token.Fn xs (λ _ zs. on Token.Identifier zs (λ w ws. bind (read_signature R ws) (λ t vs. bind (read_methods R n vs) (λ us qs. ok (branch Node.MethodDef 0 (named w ⊕ t) ⊕ us) qs))) failed)
    failed))

unfoldable pub read_struct_body : Readers → ℕ → List RowToken → Outcome
read_struct_body R zero xs = failed
read_struct_body R (suc n) xs =
    on Token.Identifier xs (λ v ys. on Token.Colon ys (λ _ zs. bind (R.expr true 0 zs) (λ t ws.
    on Token.Comma ws (λ _ vs. bind (read_struct_body R n vs) (λ us qs. ok (branch Node.FieldDef 0 (named v ⊕ t) ⊕ us) qs))
    (bind (read_methods R n ws) (λ us qs. ok (branch Node.FieldDef 0 (named v ⊕ t) ⊕ us) qs)))) failed)
    (read_methods R (suc n) xs)

-- After `(`.
unfoldable pub read_round : Readers → List RowToken → Outcome
read_round R ys = on Token.RightRound ys (λ _ zs. ok (branch Node.TupleLit 0 none) zs)
    (bind (R.expr true 0 ys) (λ t zs. on Token.Comma zs (λ _ ws. bind (read_elements R (suc (length ws)) ws) (λ us vs. ok (branch Node.TupleLit 0 (t ⊕ us)) vs)) (on Token.RightRound zs (λ _ ws. ok (branch Node.ParenExpr 0 t) ws) failed)))

-- After `struct`.
unfoldable pub read_struct : Readers → List RowToken → Outcome
read_struct R ys = on Token.LeftCurly ys (λ _ zs. bind (read_struct_body R (suc (length zs)) zs) (λ t ws. ok (branch Node.StructDef 0 (branch Node.StructBody 0 t)) ws))
    (bind (R.expr false 0 ys) (λ t zs. on Token.LeftCurly zs (λ _ ws. bind (read_struct_body R (suc (length ws)) ws) (λ u vs. ok (branch Node.StructDef 0 (t ⊕ branch Node.StructBody 0 u)) vs)) failed))

unfoldable pub read_operand : Readers → List RowToken → Outcome
read_operand R xs =
    on Token.True xs (λ v ys. ok (branch Node.BoolLiteral Flag.BoolLiteral-true none) ys)
    (on Token.False xs (λ v ys. ok (branch Node.BoolLiteral 0 none) ys)
    (on Token.DecimalLiteral xs (λ v ys. ok (numeral 10 0 v) ys)
    (on Token.HexLiteral xs (λ v ys. ok (numeral 16 2 v) ys)
    (on Token.BinLiteral xs (λ v ys. ok (numeral 2 2 v) ys)
    (on Token.LooseStringLiteral xs (λ v ys. if (quiet (decoded v)) (bind (read_strings (suc (length ys)) ys) (λ t zs. ok (prepend (bytes_of (decoded v)) t) zs)) failed)
    (on Token.LooseHexStringLiteral xs (λ v ys. if (quiet (decoded_hex v)) (bind (read_strings (suc (length ys)) ys) (λ t zs. ok (prepend (bytes_of (decoded_hex v)) t) zs)) failed)
    (on Token.SelfType xs (λ v ys. ok (branch Node.SelfType 0 none) ys)
    (on Token.Identifier xs (λ v ys. ok (named v) ys)
    (on Token.BuiltinName xs (λ v ys. ok (builtin_named v) ys)
    (on Token.LeftRound xs (λ _ ys. read_round R ys)
    (on Token.Comptime xs (λ _ ys. bind (R.block ys) (λ b zs. ok (branch Node.ComptimeBlock 0 b) zs))
    (on Token.Eager xs (λ _ ys. on Token.Fn ys (λ _ zs. bind (read_signature R zs) (λ t ws. ok (branch Node.FnDef Flag.FnDef-eager t) ws)) failed)
    (on Token.Fn xs (λ _ zs. bind (read_signature R zs) (λ t ws. ok (branch Node.FnDef 0 t) ws))
    (on Token.Struct xs (λ _ ys. read_struct R ys)
    (on Token.Tuple xs (λ _ ys. on Token.LeftCurly ys (λ _ zs. bind (read_list Token.RightCurly R (suc (length zs)) zs) (λ t ws. ok (branch Node.TupleType 0 t) ws)) failed)
    (on Token.LeftCurly xs (λ v ys. bind (R.block (token Token.LeftCurly v ∷ ys)) (λ b zs. ok (branch Node.Block 0 b) zs))
    (on Token.If xs (λ _ ys. bind (R.expr false 0 ys) (λ c zs. bind (R.block zs) (λ b ws. bind (read_else_ifs R (suc (length ws)) ws) (λ e vs. ok (branch Node.If 0 (c ⊕ (branch Node.Block 0 b ⊕ e))) vs))))
    (on Token.Match xs (λ _ ys. bind (R.expr false 0 ys) (λ c zs. on Token.LeftCurly zs (λ _ ws. bind (read_arms R (suc (length ws)) ws) (λ a vs. ok (branch Node.Match 0 (c ⊕ branch Node.MatchArmList 0 a)) vs)) failed))
    nothing))))))))))))))))))

unfoldable pub read_prefix : Readers → Bool → ℕ → ℕ → List RowToken → Outcome
read_prefix R m k o ys = bind (R.expr m prefix_level ys) (λ t zs. read_on R (suc (length zs)) m k (branch Node.UnaryExpr o t) zs)

-- `try_parse_expr_min_bp`.
unfoldable pub read_level : Readers → Bool → ℕ → List RowToken → Outcome
read_level R m k xs =
    on Token.Minus xs (λ _ ys. read_prefix R m k UnaryOp.Minus ys)
    (on Token.Bang xs (λ _ ys. read_prefix R m k UnaryOp.Bang ys)
    (on Token.Tilde xs (λ _ ys. read_prefix R m k UnaryOp.Tilde ys)
    (try (read_operand R xs) (λ t zs. read_on R (suc (length zs)) m k t zs) nothing)))

unfoldable pub read_binding_name : Readers → Bool → Bool → List RowToken → Outcome
read_binding_name R c m xs = on Token.Identifier xs (λ v ys.
    on Token.Colon ys (λ _ zs. bind (R.expr true 0 zs) (λ s ws. on Token.Equals ws (λ _ vs. bind (R.expr true 0 vs) (λ t qs. on Token.Semicolon qs (λ _ rs. ok (branch Node.LetStmt (let_flags c m true) (named v ⊕ (s ⊕ t))) rs) failed)) failed))
    (on Token.Equals ys (λ _ vs. bind (R.expr true 0 vs) (λ t qs. on Token.Semicolon qs (λ _ rs. ok (branch Node.LetStmt (let_flags c m false) (named v ⊕ t)) rs) failed)) failed)) failed

unfoldable pub read_binding : Readers → Bool → List RowToken → Outcome
read_binding R c xs = on Token.Mut xs (λ _ ys. read_binding_name R c true ys) (read_binding_name R c false xs)

-- A statement or closing expression that begins as an expression; `k` goes on after a statement.
unfoldable pub read_expression : Readers → List RowToken → (Trees → List RowToken → Outcome) → Outcome
read_expression R xs k = bind (R.expr true 0 xs) (λ t ys.
    on Token.Equals ys (λ _ zs. bind (R.expr true 0 zs) (λ u ws. on Token.Semicolon ws (λ _ vs. k (branch Node.AssignStmt 0 (t ⊕ u)) vs) failed))
    (on Token.Semicolon ys (λ _ zs. k t zs)
    (on Token.RightCurly ys (λ _ zs. ok (listed Node.StatementsList none t) zs)
    (if (is_block_like t) (k t ys) failed))))

-- After `comptime` at the start of a statement; a block is entered, which counts for the depth, only where `{` is next.
unfoldable pub read_comptime : Readers → List RowToken → (Trees → List RowToken → Outcome) → Outcome
read_comptime R ys k = on Token.Let ys (λ _ zs. bind (read_binding R true zs) (λ t ws. k t ws))
    (if (begins Token.LeftCurly ys)
    (bind (R.block ys) (λ b zs. on Token.Semicolon zs (λ _ ws. k (branch Node.ComptimeBlock 0 b) ws) (on Token.RightCurly zs (λ _ ws. ok (listed Node.StatementsList none (branch Node.ComptimeBlock 0 b)) ws) (k (branch Node.ComptimeBlock 0 b) zs))))
    failed)

unfoldable pub read_statement : Readers → List RowToken → (Trees → List RowToken → Outcome) → Outcome
read_statement R xs k =
    on Token.Inline xs (λ _ ys. on Token.While ys (λ _ zs. bind (R.expr false 0 zs) (λ c ws. bind (R.block ws) (λ b vs. k (branch Node.InlineWhileStmt 0 (c ⊕ branch Node.Block 0 b)) vs))) failed)
    (on Token.While xs (λ _ zs. bind (R.expr false 0 zs) (λ c ws. bind (R.block ws) (λ b vs. k (branch Node.WhileStmt 0 (c ⊕ branch Node.Block 0 b)) vs)))
    (on Token.Return xs (λ _ ys. bind (R.expr true 0 ys) (λ t zs. on Token.Semicolon zs (λ _ ws. k (branch Node.ReturnStmt 0 t) ws) failed))
    (on Token.Comptime xs (λ _ ys. read_comptime R ys k)
    (on Token.Let xs (λ _ ys. bind (read_binding R false ys) (λ t zs. k t zs))
    (read_expression R xs k)))))

unfoldable pub read_statements : Readers → ℕ → List RowToken → Outcome
read_statements R zero xs = failed
read_statements R (suc n) xs = on Token.RightCurly xs (λ _ ys. ok (listed Node.StatementsList none none) ys) (read_statement R xs (λ t ys. bind (read_statements R n ys) (λ b zs. ok (push t b) zs)))

unfoldable pub read_block : Readers → List RowToken → Outcome
read_block R xs = on Token.LeftCurly xs (λ _ ys. read_statements R (suc (length ys)) ys) failed

-- "Depth is the number of `try_parse_expr_min_bp` and `parse_block` readings open at one moment, an attempt that finds nothing included" (01, Refusals).
-- These may open so many.
unfoldable pub readers : ℕ → Readers
readers zero = record { expr = λ m k xs. deep; block = λ xs. deep }
readers (suc d) = record { expr = read_level (readers d); block = read_block (readers d) }

-- Whether a path goes on: `::` and a name are next.
unfoldable pub goes_on : List RowToken → Bool
goes_on [] = false
goes_on (token k v ∷ xs) = eqb k Token.DoubleColon && begins Token.Identifier xs

unfoldable pub read_path : ℕ → List RowToken → Outcome
read_path zero xs = failed
read_path (suc n) xs = on Token.Identifier xs (λ v ys.
    if (goes_on ys) (on Token.DoubleColon ys (λ _ zs. bind (read_path n zs) (λ t ws. ok (named v ⊕ t) ws)) failed) (ok (named v) ys)) failed

unfoldable pub read_item : List RowToken → Outcome
read_item xs = on Token.Identifier xs (λ u ys. on Token.As ys (λ _ zs. on Token.Identifier zs (λ w ws. ok (branch Node.ImportGroupItem 0 (named u ⊕ named w)) ws) failed) (ok (branch Node.ImportGroupItem 0 (named u)) ys)) failed

unfoldable pub read_items : ℕ → List RowToken → Outcome
read_items zero xs = failed
read_items (suc n) xs = bind (read_item xs) (λ t ys.
    on Token.RightCurly ys (λ _ zs. ok t zs)
    (on Token.Comma ys (λ _ zs. on Token.RightCurly zs (λ _ ws. ok t ws) (bind (read_items n zs) (λ us ws. ok (t ⊕ us) ws))) failed))

unfoldable pub read_import : Bool → List RowToken → Outcome
read_import p xs = bind (read_path (suc (length xs)) xs) (λ t ys.
    on Token.Semicolon ys (λ _ zs. ok (branch Node.ImportDecl (flag p Flag.ImportDecl-public) t) zs)
    (on Token.As ys (λ _ zs. on Token.Identifier zs (λ v ws. on Token.Semicolon ws (λ _ vs. ok (branch Node.ImportAsDecl (flag p Flag.ImportAsDecl-public) (branch Node.ImportPath 0 t ⊕ named v)) vs) failed) failed)
    (on Token.DoubleColon ys (λ _ zs.
    on Token.Star zs (λ _ ws. on Token.Semicolon ws (λ _ vs. ok (branch Node.ImportDecl (flag p Flag.ImportDecl-public + Flag.ImportDecl-glob) t) vs) failed)
    (on Token.LeftCurly zs (λ _ ws. bind (read_item ws) (λ i vs. on Token.Comma vs (λ _ qs. bind (read_items (suc (length qs)) qs) (λ us rs. on Token.Semicolon rs (λ _ ss. ok (branch Node.ImportGroupDecl (flag p Flag.ImportGroupDecl-public) (t ⊕ (i ⊕ us))) ss) failed)) failed)) failed))
    failed)))

unfoldable pub read_declaration : Readers → List RowToken → Outcome
read_declaration R xs =
    on Token.Init xs (λ _ ys. bind (R.block ys) (λ b zs. ok (branch Node.InitBlock 0 b) zs))
    (on Token.Run xs (λ _ ys. bind (R.block ys) (λ b zs. ok (branch Node.RunBlock 0 b) zs))
    (on Token.Const xs (λ _ ys. on Token.Identifier ys (λ v zs.
    on Token.Colon zs (λ _ ws. bind (R.expr true 0 ws) (λ s vs. on Token.Equals vs (λ _ qs. bind (R.expr true 0 qs) (λ t rs. on Token.Semicolon rs (λ _ ss. ok (branch Node.ConstDecl Flag.ConstDecl-typed (named v ⊕ (s ⊕ t))) ss) failed)) failed))
    (on Token.Equals zs (λ _ qs. bind (R.expr true 0 qs) (λ t rs. on Token.Semicolon rs (λ _ ss. ok (branch Node.ConstDecl 0 (named v ⊕ t)) ss) failed)) failed)) failed)
    (on Token.Pub xs (λ _ ys. on Token.Use ys (λ _ zs. read_import true zs) failed)
    (on Token.Use xs (λ _ zs. read_import false zs)
    failed))))

unfoldable pub read_declarations : Readers → ℕ → List RowToken → Outcome
read_declarations R zero xs = failed
read_declarations R (suc n) [] = ok none []
read_declarations R (suc n) (x ∷ xs) = bind (read_declaration R (x ∷ xs)) (λ t ys. bind (read_declarations R n ys) (λ us zs. ok (t ⊕ us) zs))

unfoldable pub read_file : Readers → List RowToken → Outcome
read_file R xs = bind (read_declarations R (suc (length xs)) xs) (λ us ys. ok (branch Node.File 0 us) ys)

-- The parser of a whole row, to a depth.
unfoldable pub parse : ℕ → List RowToken → Outcome
parse depth xs = read_file (readers depth) xs
