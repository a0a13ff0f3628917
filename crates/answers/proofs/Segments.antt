-- The readers' programs in the steps that the code takes: each comes to what the definition's comes to.
use Rattle.std.proofs.Math.Path.{refl}
use Rattle.std.proofs.Math.Bool.{Bool, true, false}
use Rattle.std.specs.Prelude.{◌&&◌, List, ltb}
use Rattle.std.proofs.Math.Option.{Option, none, some}
use Prim.Native.Nat.{ℕ}
use Rattle.words.specs.Token
use Rattle.words.specs.Node
use Rattle.words.specs.Flag
use Rattle.definition.specs.declared.Unfinished.{Unfinished}
use Rattle.definition.specs.declared.Mode.{Mode}
use Rattle.definition.specs.declared.Mode.TheVariants.{AllowAll}
use Rattle.definition.specs.Prog.{Turn, again, stop, Prog, Give, Then, Branch, give, ◌>>=◌, ◌>>◌, loop, whether◌then◌else◌, when, position, kind_of, eval}
use Rattle.definition.specs.Tokens.{check, eat, if_eat◌then◌else◌, if_check◌then◌else◌, expect, parse_delimited}
use Rattle.definition.specs.Nodes.{skip_trivia_start, alloc_last_token_as_node, try_parse_builtin_name, alloc_node_from, alloc_node, close_node, update_kind, push_child, try_parse_ident}
use Rattle.definition.specs.Strings.{try_parse_string_literal}
use Rattle.definition.specs.Expressions.{Binary, parse_expr, block_here, push_option, conditional, ElseIfs, else_turn, else_if_branch, match_expr, parse_parameter, parameter_name, any_type, parse_function_signature_and_body, parse_method_def, parse_struct_field, parse_struct_def, parse_tuple_type, tuple_turn, paren_or_tuple, try_parse_standalone_expr, num_literal, member_expr, call_expr, field_assign, struct_lit, eats, checks, ◌or_else◌, only_if, allows_struct_literal, member_priority, fn_call_priority, struct_literal_priority, check_binary_op, binary_expr, binary_step, expr_turn, unary_expr, try_parse_expr_min_bp, eat_unary}
use Rattle.definition.specs.Statements.{while_stmt, parse_let_stmt, return_stmt, assign_stmt, expr_stmt, try_parse_stmt, try_parse_while, let_stmt, comptime_stmt, requires_semi, end_expr, end_expr_or_stmt, statement, body, parse_block}
use Rattle.definition.specs.Statements.{StmtResult as Result}
use Rattle.stream.specs.Delimited.{elements, bind-bind}
use Rattle.answers.specs.Parts.{add_element, open_binary, literal}
use Rattle.answers.specs.Steps.{more, Going, Right, Prefix, Bracket, Parameter, Elsewise, Afterwards, eat_first, prefix, right, infixed, member, call, literal_of, nowhere, postfix_kind, simple, empty, opened, goes, paren_comma, missing, any_typed, wants, no_else, else_if, else_last, assigns, whole, after_expr}
use Rattle.answers.specs.Same.{bind_done, tokens_of, taken, tried, Same as SameFor, also, assoc, then_same, back, first-same, branch_same, itself, ways-same}
use Rattle.answers.specs.Programs.{method_steps, sign_steps, record_steps, field_steps, types_steps, call_steps, literal_steps, init_steps, cond_steps, elif_steps, select_steps, while_steps, let_steps, assign_steps, block_steps, comma_rest, bracket_rest, paren_steps, param_rest, param_steps, else_rest, else_steps, after_rest, answers, Alternatives, ways_of, alternatives, operand_ways, branching, operand_rest, operand_steps, stmt_ways, stmt_steps, postfix_rest, infix_rest, turn_rest, turn_steps, first_rest, last_rest, expr_steps, no_more, alternative}

module _ (text tokens : List ℕ) (d : ℕ) where
  abbrev Same : {A : Type 0} → Prog A → Prog A → Type 0
  Same p q = SameFor text tokens d p q

  -- A test that is false, then what follows.
  else-way : {A B : Type 0} (t q : Prog A) (g : A → Prog B) → Same (Then (Branch false t q) g) (Then q g)
  unfolding eval
  else-way t q g = record { is = λ s n. refl }

  -- ---- steps that are only grouped otherwise

  pub method-same : Same method_steps parse_method_def
  unfolding eval parse_method_def
  method-same = record { is = λ s n. simp bind-bind }

  pub sign_same : (function : Unfinished) → Same (sign_steps function) (parse_function_signature_and_body function)
  unfolding eval parse_function_signature_and_body parse_delimited elements
  sign_same function = record { is = λ s n. simp bind-bind }

  pub record_same : (start : ℕ) → Same (record_steps start) (parse_struct_def start)
  unfolding eval parse_struct_def
  record_same start = record { is = λ s n. simp bind-bind }

  pub field-same : Same field_steps parse_struct_field
  unfolding eval parse_struct_field
  field-same = record { is = λ s n. simp bind-bind }

  pub types_same : (start : ℕ) → Same (types_steps start) (parse_tuple_type start)
  unfolding eval parse_tuple_type parse_delimited elements
  types_same start = record { is = λ s n. simp bind-bind }

  pub call_same : (start expr : ℕ) → Same (call_steps start expr) (call_expr start expr)
  unfolding eval call_expr parse_delimited elements
  call_same start expr = record { is = λ s n. simp bind-bind }

  pub literal-same : (start expr : ℕ) → Same (literal_steps start expr) (struct_lit start expr)
  unfolding eval struct_lit parse_delimited elements
  literal-same start expr = record { is = λ s n. simp bind-bind }

  init-rest : (list : Unfinished)
      → Same (init_steps list) (do
        field ← alloc_node Node.FieldAssign 0
        name ← try_parse_ident
        field ← push_option field name
        expect Token.Colon
        value ← parse_expr AllowAll
        field ← push_child field value
        node ← close_node field
        literal ← push_child list node
        give (some literal))
  unfolding eval
  init-rest list = record { is = λ s n. simp bind-bind }

  pub init-same : (list : Unfinished) → Same (if_check Token.Identifier then init_steps list else give none) (field_assign list)
  unfolding field_assign
  init-same list = then_same (check Token.Identifier) (λ x. branch_same x (init-rest list) itself)

  pub cond_same : (start : ℕ) → Same (cond_steps start) (conditional start)
  unfolding eval conditional
  cond_same start = record { is = λ s n. simp bind-bind }

  pub elif-same : (e : ElseIfs) (start : ℕ) → Same (elif_steps e start) (else_if_branch e start)
  unfolding eval else_if_branch
  elif-same e start = record { is = λ s n. simp bind-bind }

  pub select-same : (start : ℕ) → Same (select_steps start) (match_expr start)
  unfolding eval match_expr
  select-same start = record { is = λ s n. simp bind-bind }

  pub while-same : (start kind : ℕ) → Same (while_steps start kind) (while_stmt start kind)
  unfolding eval while_stmt
  while-same start kind = record { is = λ s n. simp bind-bind }

  pub let-same : (start : ℕ) (comptime : Bool) → Same (let_steps start comptime) (parse_let_stmt start comptime)
  unfolding eval parse_let_stmt
  let-same start comptime = record { is = λ s n. simp bind-bind }

  pub assign-same : (start expr : ℕ) → Same (assign_steps start expr) (assign_stmt start expr)
  unfolding eval assign_stmt
  assign-same start expr = record { is = λ s n. simp bind-bind }

  pub block_same : (start kind : ℕ) → Same (block_steps start kind) (parse_block start kind)
  unfolding eval parse_block
  block_same start kind = record { is = λ s n. simp bind-bind }

  -- ---- steps after which there are several ways

  comma-same : (u : Unfinished) (c : Bool)
      → Same (do
        when c (update_kind u Node.TupleLit 0)
        comma_rest (goes u c)) (do
          u ← whether c
              then (do
                update_kind u Node.TupleLit 0
                loop u tuple_turn)
              else give u
          expect Token.RightRound
          close_node u)
  unfolding eval
  comma-same u true = record { is = λ s n. simp bind-bind }
  comma-same u false = record { is = λ s n. refl }

  bracket-same : (u : Unfinished)
      → Same (bracket_rest (opened u)) (do
        inner ← parse_expr AllowAll
        u ← push_child u inner
        u ← if_eat Token.Comma
            then (do
              update_kind u Node.TupleLit 0
              loop u tuple_turn)
            else give u
        expect Token.RightRound
        close_node u)
  bracket-same u =
      then_same (parse_expr AllowAll) (λ inner.
      also (flat-comma u inner) (then_same (push_child u inner) (λ v. also (then_same (eat Token.Comma) (λ c. comma-same v c)) (regroup-comma v))))
    where
      flat-comma : (u : Unfinished) (inner : ℕ)
          → Same (Then (paren_comma u inner) comma_rest) (do
            v ← push_child u inner
            c ← eat Token.Comma
            when c (update_kind v Node.TupleLit 0)
            comma_rest (goes v c))
      flat-comma u inner = record { is = λ s n. unfold eval in (simp bind-bind) }

      regroup-comma : (v : Unfinished)
          → Same (do
            c ← eat Token.Comma
            u ← whether c
                then (do
                  update_kind v Node.TupleLit 0
                  loop v tuple_turn)
                else give v
            expect Token.RightRound
            close_node u) (do
              u ← if_eat Token.Comma
                  then (do
                    update_kind v Node.TupleLit 0
                    loop v tuple_turn)
                  else give v
              expect Token.RightRound
              close_node u)
      regroup-comma v = record { is = λ s n. unfold eval in (simp bind-bind) }

  pub paren-same : (start : ℕ) → Same (paren_steps start) (paren_or_tuple start)
  unfolding paren_or_tuple
  paren-same start = also grouped (then_same (eat Token.RightRound) (λ x. ways x))
    where
      first : Bool → Prog Bracket
      first x =
          whether x
          then (do
            tuple ← alloc_node_from start Node.TupleLit 0
            node ← close_node tuple
            give (empty node))
          else do
            u ← alloc_node_from start Node.ParenExpr 0
            give (opened u)

      grouped : Same (paren_steps start) (Then (eat Token.RightRound) (λ x. Then (first x) bracket_rest))
      grouped = record { is = λ s n. unfold eval in (simp bind-bind) }

      flat-open : Same (Then (first false) bracket_rest) (Then (alloc_node_from start Node.ParenExpr 0) (λ u. bracket_rest (opened u)))
      flat-open = record { is = λ s n. unfold eval in ((assoc (alloc_node_from start Node.ParenExpr 0) (λ u. Give (opened u)) bracket_rest).is s n) }

      ways : (x : Bool)
          → Same (Then (first x) bracket_rest) (whether x
          then (do
            tuple ← alloc_node_from start Node.TupleLit 0
            close_node tuple)
          else do
            u ← alloc_node_from start Node.ParenExpr 0
            inner ← parse_expr AllowAll
            u ← push_child u inner
            u ← if_eat Token.Comma
                then (do
                  update_kind u Node.TupleLit 0
                  loop u tuple_turn)
                else give u
            expect Token.RightRound
            close_node u)
      ways true = record { is = λ s n. unfold eval in (simp (bind-bind, bind_done)) }
      ways false = record { is = λ s n. unfold eval in ((also flat-open (then_same (alloc_node_from start Node.ParenExpr 0) bracket-same)).is s n) }

  -- ---- the parameters

  regroup-type : (parameter list : Unfinished)
      → Same (do
        expect Token.Colon
        dollar ← check Token.Dollar
        type ← whether dollar then any_type else parse_expr AllowAll
        add_element parameter type list) (do
          expect Token.Colon
          type ← if_check Token.Dollar then any_type else parse_expr AllowAll
          parameter ← push_child parameter type
          node ← close_node parameter
          list ← push_child list node
          give (some list))
  unfolding eval
  regroup-type parameter list = record { is = λ s n. simp bind-bind }

  pub param-same : (list : Unfinished) → Same (param_steps list) (parse_parameter list)
  unfolding parse_parameter
  param-same list = also grouped (then_same parameter_name ways)
    where
      type_of : Unfinished → Bool → Prog Parameter
      type_of parameter dollar =
          whether dollar
          then (do
            type ← any_type
            give (any_typed parameter type))
          else give (wants parameter)

      first : Option Unfinished → Prog Parameter
      first found =
          elim found [
            | none ↦ give missing
            | some parameter ↦ do
              expect Token.Colon
              dollar ← check Token.Dollar
              type_of parameter dollar
          ]

      grouped : Same (param_steps list) (Then parameter_name (λ found. Then (first found) (param_rest list)))
      grouped = record { is = λ s n. unfold eval in (simp bind-bind) }

      types : (parameter : Unfinished) (dollar : Bool)
          → Same (Then (type_of parameter dollar) (param_rest list)) (do
            type ← whether dollar then any_type else parse_expr AllowAll
            add_element parameter type list)
      types parameter true = record { is = λ s n. unfold eval in (simp bind-bind) }
      types parameter false = record { is = λ s n. unfold eval in refl }

      flat-first : (parameter : Unfinished)
          → Same (Then (first (some parameter)) (param_rest list)) (do
            expect Token.Colon
            dollar ← check Token.Dollar
            parameter' ← type_of parameter dollar
            param_rest list parameter')
      flat-first parameter =
          also (assoc (expect Token.Colon) (λ _. Then (check Token.Dollar) (type_of parameter)) (param_rest list)) (then_same (expect Token.Colon) (λ _. assoc (check Token.Dollar) (type_of parameter) (param_rest list)))

      ways : (found : Option Unfinished)
          → Same (Then (first found) (param_rest list)) (elim found [
            | none ↦ give none
            | some parameter ↦ do
              expect Token.Colon
              type ← if_check Token.Dollar then any_type else parse_expr AllowAll
              parameter ← push_child parameter type
              node ← close_node parameter
              list ← push_child list node
              give (some list)
          ])
      ways none = record { is = λ s n. unfold eval in refl }
      ways (some parameter) =
          also (flat-first parameter) (also (then_same (expect Token.Colon) (λ _. then_same (check Token.Dollar) (types parameter))) (regroup-type parameter list))

  -- ---- else

  pub else_same : (e : ElseIfs) → Same (else_steps e) (else_turn e)
  unfolding else_turn
  else_same e = also grouped (then_same (check Token.Else) ways)
    where
      second : ℕ → Bool → Prog Elsewise
      second start x = whether x then give (else_if start) else give else_last

      first : Bool → Prog Elsewise
      first found =
          whether found
          then (do
            start ← position
            expect Token.Else
            x ← eat Token.If
            second start x)
          else give no_else

      grouped : Same (else_steps e) (Then (check Token.Else) (λ found. Then (first found) (else_rest e)))
      grouped = record { is = λ s n. unfold eval in (simp bind-bind) }

      flat-first : Same (Then (first true) (else_rest e)) (do
        start ← position
        expect Token.Else
        x ← eat Token.If
        k ← second start x
        else_rest e k)
      flat-first = record { is = λ s n. unfold eval in (simp bind-bind) }

      after : (start : ℕ) (x : Bool)
          → Same (Then (second start x) (else_rest e)) (whether x then else_if_branch e start else do
            body ← block_here
            give (stop (record { list = e.list; else_body = some body })))
      after start true = record { is = λ s n. unfold eval in refl }
      after start false = record { is = λ s n. unfold eval in refl }

      there : Same (Then (first true) (else_rest e)) (do
        start ← position
        expect Token.Else
        if_eat Token.If then else_if_branch e start else do
          body ← block_here
          give (stop (record { list = e.list; else_body = some body })))
      there = also flat-first (then_same position (λ start. then_same (expect Token.Else) (λ _. then_same (eat Token.If) (after start))))

      ways : (found : Bool)
          → Same (Then (first found) (else_rest e)) (whether found
          then (do
            start ← position
            expect Token.Else
            if_eat Token.If then else_if_branch e start else do
              body ← block_here
              give (stop (record { list = e.list; else_body = some body })))
          else give (stop e))
      ways true = record { is = λ s n. unfold eval in (there.is s n) }
      ways false = record { is = λ s n. unfold eval in refl }

  -- ---- statements

  pub after_same : (start expr : ℕ)
      → Same (Then (after_expr expr) (after_rest start expr)) (if_eat Token.Equals then assign_stmt start expr
      else if_eat Token.Semicolon then give (statement expr)
      else do
        kind ← kind_of expr
        whether requires_semi kind then give (end_expr expr) else give (end_expr_or_stmt expr))
  after_same start expr = also grouped (then_same (eat Token.Equals) ways)
    where
      third : Bool → Prog Afterwards
      third x = whether x then give (whole (end_expr expr)) else give (whole (end_expr_or_stmt expr))

      second : Bool → Prog Afterwards
      second x =
          whether x then give (whole (statement expr)) else do
            kind ← kind_of expr
            third (requires_semi kind)

      first : Bool → Prog Afterwards
      first x =
          whether x then give assigns else do
            y ← eat Token.Semicolon
            second y

      grouped : Same (Then (after_expr expr) (after_rest start expr)) (Then (eat Token.Equals) (λ x. Then (first x) (after_rest start expr)))
      grouped = record { is = λ s n. unfold eval in (simp bind-bind) }

      flat-first : Same (Then (first false) (after_rest start expr)) (Then (eat Token.Semicolon) (λ y. Then (second y) (after_rest start expr)))
      flat-first = record { is = λ s n. unfold eval in (simp bind-bind) }

      flat-second : Same (Then (second false) (after_rest start expr)) (Then (kind_of expr) (λ kind. Then (third (requires_semi kind)) (after_rest start expr)))
      flat-second = record { is = λ s n. unfold eval in (simp bind-bind) }

      ends : (x : Bool) → Same (Then (third x) (after_rest start expr)) (whether x then give (end_expr expr) else give (end_expr_or_stmt expr))
      ends true = record { is = λ s n. unfold eval in refl }
      ends false = record { is = λ s n. unfold eval in refl }

      kinds : Same (Then (second false) (after_rest start expr)) (do
        kind ← kind_of expr
        whether requires_semi kind then give (end_expr expr) else give (end_expr_or_stmt expr))
      kinds = also flat-second (then_same (kind_of expr) (λ kind. ends (requires_semi kind)))

      semis : (x : Bool)
          → Same (Then (second x) (after_rest start expr)) (whether x then give (statement expr) else do
            kind ← kind_of expr
            whether requires_semi kind then give (end_expr expr) else give (end_expr_or_stmt expr))
      semis true = record { is = λ s n. unfold eval in refl }
      semis false = record { is = λ s n. unfold eval in (kinds.is s n) }

      rest : Same (Then (first false) (after_rest start expr)) (if_eat Token.Semicolon then give (statement expr)
          else do
            kind ← kind_of expr
            whether requires_semi kind then give (end_expr expr) else give (end_expr_or_stmt expr))
      rest = also flat-first (then_same (eat Token.Semicolon) semis)

      ways : (x : Bool)
          → Same (Then (first x) (after_rest start expr)) (whether x then assign_stmt start expr
          else (if_eat Token.Semicolon then give (statement expr)
          else do
            kind ← kind_of expr
            whether requires_semi kind then give (end_expr expr) else give (end_expr_or_stmt expr)))
      ways true = record { is = λ s n. unfold eval in refl }
      ways false = record { is = λ s n. unfold eval in (rest.is s n) }

  -- ---- the first of some tokens

  alternatives-tried : (l : Alternatives) (q : Prog (Option ℕ)) → Same (tried (ways_of l) q) (alternatives l q)
  alternatives-tried no_more q = itself
  alternatives-tried (alternative token p l) q = also (then_same (eat token) (ways (alternatives-tried l q))) grouped
    where
      next : Option ℕ → Prog (Option ℕ)
      next found = elim found [ some node ↦ give (some node) | none ↦ alternatives l q ]

      first : Bool → Prog (Option ℕ)
      first x = whether x then answers p else give none

      grouped : Same (Then (eat token) (λ x. Then (first x) next)) (alternatives (alternative token p l) q)
      grouped = record { is = λ s n. unfold eval eats in (simp bind-bind) }

      ways : Same (tried (ways_of l) q) (alternatives l q) → (x : Bool) → Same (whether x then answers p else tried (ways_of l) q) (Then (first x) next)
      ways e true = record { is = λ s n. unfold eval in (simp bind-bind) }
      ways e false = record { is = λ s n. unfold eval in (e.is s n) }

  pub alternatives-same : (l : Alternatives) (q : Prog (Option ℕ)) → Same (Then (eat_first (tokens_of (ways_of l))) (taken (ways_of l) q)) (alternatives l q)
  alternatives-same l q = also (ways-same (ways_of l) q) (alternatives-tried l q)

  -- ---- operands

  -- What follows an alternative.
  abbrev or_next : Prog (Option ℕ) → Option ℕ → Prog (Option ℕ)
  or_next q found = elim found [ some node ↦ give (some node) | none ↦ q ]

  or_assoc : (p q t : Prog (Option ℕ)) → Same ((p or_else q) or_else t) (p or_else (q or_else t))
  or_assoc p q t = also (assoc p (or_next q) (or_next t)) (then_same p ways)
    where
      ways : (found : Option ℕ) → Same (Then (or_next q found) (or_next t)) (or_next (q or_else t) found)
      ways none = record { is = λ s n. unfold eval in refl }
      ways (some node) = record { is = λ s n. unfold eval in refl }

  or_same : (p : Prog (Option ℕ)) {q t : Prog (Option ℕ)} → Same q t → Same (p or_else q) (p or_else t)
  or_same p {q = q} {t = t} e = then_same p ways
    where
      ways : (found : Option ℕ) → Same (or_next q found) (or_next t found)
      ways none = record { is = λ s n. unfold eval in (e.is s n) }
      ways (some node) = record { is = λ s n. unfold eval in refl }

  module _ (t f n s : Prog (Option ℕ)) (o i b : Prog (Option ℕ)) (r : Prog (Option ℕ)) where
    named_flat : Same (((o or_else i) or_else b) or_else r) (o or_else i or_else b or_else r)
    named_flat = also (or_assoc (o or_else i) b r) (or_assoc o i (b or_else r))

    literal-flat : (x : Prog (Option ℕ)) → Same ((((t or_else f) or_else n) or_else s) or_else x) (t or_else f or_else n or_else s or_else x)
    literal-flat x = also (or_assoc ((t or_else f) or_else n) s x) (also (or_assoc (t or_else f) n (s or_else x)) (or_assoc t f (n or_else s or_else x)))

    simple-flat : Same (((((t or_else f) or_else n) or_else s) or_else ((o or_else i) or_else b)) or_else r) (t or_else f or_else n or_else s or_else o or_else i or_else b or_else r)
    simple-flat =
        also (or_assoc (((t or_else f) or_else n) or_else s) ((o or_else i) or_else b) r)
        (also (or_same (((t or_else f) or_else n) or_else s) named_flat) (literal-flat (o or_else i or_else b or_else r)))

  pub operand_same : Same operand_steps try_parse_standalone_expr
  unfolding try_parse_standalone_expr
  operand_same =
      then_same position (λ start.
      also (then_same simple (ways start))
      (simple-flat (eats Token.True (alloc_last_token_as_node Node.BoolLiteral Flag.BoolLiteral-true)) (eats Token.False (alloc_last_token_as_node Node.BoolLiteral 0)) num_literal try_parse_string_literal
      (eats Token.SelfType (alloc_last_token_as_node Node.SelfType 0)) try_parse_ident try_parse_builtin_name (alternatives (operand_ways start) branching)))
    where
      ways : (start : ℕ) (found : Option ℕ) → Same (operand_rest start found) (or_next (alternatives (operand_ways start) branching) found)
      ways start none = record { is = λ s n. unfold eval in ((alternatives-same (operand_ways start) branching).is s n) }
      ways start (some node) = record { is = λ s n. unfold eval in refl }

  -- ---- the statements

  pub stmt-same : Same stmt_steps try_parse_stmt
  unfolding try_parse_stmt
  stmt-same = then_same position (λ start. also (ways-same (stmt_ways start) (expr_stmt start)) (whiles start))
    where
      rest : ℕ → Prog Result
      rest start =
          if_eat Token.Return then return_stmt start
          else if_eat Token.Comptime then comptime_stmt start
          else if_eat Token.Let then let_stmt start false
          else expr_stmt start

      next : ℕ → Option ℕ → Prog Result
      next start found = elim found [ some node ↦ give (statement node) | none ↦ rest start ]

      other : ℕ → Bool → Prog (Option ℕ)
      other start x =
          whether x
          then (do
            node ← while_stmt start Node.WhileStmt
            give (some node))
          else give none

      inline : ℕ → Bool → Prog (Option ℕ)
      inline start x =
          whether x
          then (do
            expect Token.While
            node ← while_stmt start Node.InlineWhileStmt
            give (some node))
          else Then (eat Token.While) (other start)

      grouped : (start : ℕ) → Same (Then (eat Token.Inline) (λ x. Then (inline start x) (next start))) (do
        while ← try_parse_while start
        elim while [ some node ↦ give (statement node) | none ↦ rest start ])
      grouped start = record { is = λ s n. unfold eval try_parse_while eats in (simp bind-bind) }

      second : (start : ℕ) (x : Bool)
          → Same (whether x
          then (do
            node ← while_stmt start Node.WhileStmt
            give (statement node))
          else rest start) (Then (other start x) (next start))
      second start true = record { is = λ s n. unfold eval in (simp bind-bind) }
      second start false = record { is = λ s n. unfold eval in refl }

      flat-inline : (start : ℕ) → Same (Then (eat Token.While) (λ x. Then (other start x) (next start))) (Then (inline start false) (next start))
      flat-inline start =
          back
          (also
          (else-way (do
            expect Token.While
            node ← while_stmt start Node.InlineWhileStmt
            give (some node)) (Then (eat Token.While) (other start)) (next start))
          (assoc (eat Token.While) (other start) (next start)))

      first : (start : ℕ) (x : Bool)
          → Same (whether x
          then (do
            expect Token.While
            node ← while_stmt start Node.InlineWhileStmt
            give (statement node))
          else (if_eat Token.While then (do
            node ← while_stmt start Node.WhileStmt
            give (statement node))
          else rest start)) (Then (inline start x) (next start))
      first start true = record { is = λ s n. unfold eval in (simp bind-bind) }
      first start false = record { is = λ s n. unfold eval in ((also (then_same (eat Token.While) (second start)) (flat-inline start)).is s n) }

      whiles : (start : ℕ) → Same (tried (stmt_ways start) (expr_stmt start)) (do
        while ← try_parse_while start
        elim while [ some node ↦ give (statement node) | none ↦ rest start ])
      whiles start = also (then_same (eat Token.Inline) (first start)) (grouped start)

  -- ---- expressions

  -- What is tried only under a condition, and else what comes next.
  abbrev look : Bool → Prog Bool → Prog Bool
  look b p = whether b then p else give false

  abbrev looked : Prog Bool → Prog ℕ → Prog (Option ℕ)
  looked p q = do
    x ← p
    whether x then answers q else give none

  only_same : (b : Bool) (p : Prog Bool) (q : Prog ℕ) (t : Prog (Option ℕ)) → Same (Then (look b p) (λ x. Branch x (answers q) t)) (only_if b (looked p q) or_else t)
  only_same false p q t = record { is = λ s n. unfold eval in refl }
  only_same true p q t = record { is = λ s n. unfold eval in (there.is s n) }
    where
      first : Bool → Prog (Option ℕ)
      first x = whether x then answers q else give none

      ways : (x : Bool) → Same (Branch x (answers q) t) (Then (first x) (or_next t))
      ways true = record { is = λ s n. unfold eval in (simp bind-bind) }
      ways false = record { is = λ s n. unfold eval in refl }

      grouped : Same (Then p (λ x. Then (first x) (or_next t))) (looked p q or_else t)
      grouped = back (assoc p first (or_next t))

      there : Same (Then p (λ x. Branch x (answers q) t)) (looked p q or_else t)
      there = also (then_same p ways) grouped

  module _ (mode : Mode) (min_bp start expr : ℕ) where
    abbrev dot : Bool
    dot = ltb min_bp member_priority

    abbrev round : Bool
    round = ltb min_bp fn_call_priority

    abbrev curly : Bool
    curly = allows_struct_literal mode && ltb min_bp struct_literal_priority

    -- the three of them, one after the other
    abbrev three_ways : Prog (Option ℕ) → Prog (Option ℕ)
    three_ways q = do
      x ← look dot (eat Token.Dot)
      whether x then answers (member_expr start expr) else do
        y ← look round (check Token.LeftRound)
        whether y then answers (call_expr start expr) else do
          z ← look curly (check Token.LeftCurly)
          whether z then answers (struct_lit start expr) else q

    three-same : (q : Prog (Option ℕ))
        → Same (three_ways q) (only_if dot (eats Token.Dot (member_expr start expr)) or_else only_if round (checks Token.LeftRound (call_expr start expr)) or_else only_if curly (checks Token.LeftCurly (struct_lit start expr)) or_else q)
    unfolding eats checks
    three-same q =
        also (then_same (look dot (eat Token.Dot)) (λ x. branch_same x itself
        (also (then_same (look round (check Token.LeftRound)) (λ y. branch_same y itself (only_same curly (check Token.LeftCurly) (struct_lit start expr) q)))
        (only_same round (check Token.LeftRound) (call_expr start expr) (only_if curly (looked (check Token.LeftCurly) (struct_lit start expr)) or_else q)))))
        (only_same dot (eat Token.Dot) (member_expr start expr) (only_if round (looked (check Token.LeftRound) (call_expr start expr)) or_else only_if curly (looked (check Token.LeftCurly) (struct_lit start expr)) or_else q))

    -- the code's answer of where it goes on, then the rest of the turn
    abbrev rest : Going → Prog (Turn ℕ)
    rest k = Then (postfix_rest start expr k) (turn_rest mode min_bp start expr)

    abbrev ends : Option ℕ → Prog (Turn ℕ)
    ends found = elim found [ some node ↦ give (again node) | none ↦ give (stop expr) ]

    infix-same : Same (Then (infixed min_bp start expr) (infix_rest mode expr)) (Then (binary_step mode min_bp start expr) ends)
    infix-same = also grouped (also (then_same check_binary_op ways) regrouped)
      where
        begun : Binary → Bool → Prog (Option Right)
        begun b x =
            whether x then give none else do
              u ← open_binary start expr b.op
              give (some (right u b.right))

        begins : Option Binary → Prog (Option Right)
        begins found = elim found [ none ↦ give none | some b ↦ begun b (ltb b.left min_bp) ]

        stepped : Binary → Bool → Prog (Option ℕ)
        stepped b x =
            whether x then give none else do
              node ← binary_expr mode start expr b
              give (some node)

        steps : Option Binary → Prog (Option ℕ)
        steps found = elim found [ none ↦ give none | some b ↦ stepped b (ltb b.left min_bp) ]

        grouped : Same (Then (infixed min_bp start expr) (infix_rest mode expr)) (Then check_binary_op (λ found. Then (begins found) (infix_rest mode expr)))
        grouped = record { is = λ s n. unfold eval in (simp bind-bind) }

        regrouped : Same (Then check_binary_op (λ found. Then (steps found) ends)) (Then (binary_step mode min_bp start expr) ends)
        regrouped = record { is = λ s n. unfold eval binary_step in (simp bind-bind) }

        reads : (b : Binary) (x : Bool) → Same (Then (begun b x) (infix_rest mode expr)) (Then (stepped b x) ends)
        reads b true = record { is = λ s n. unfold eval in refl }
        reads b false = record { is = λ s n. unfold eval binary_expr in (simp bind-bind) }

        ways : (found : Option Binary) → Same (Then (begins found) (infix_rest mode expr)) (Then (steps found) ends)
        ways none = record { is = λ s n. unfold eval in refl }
        ways (some b) = reads b (ltb b.left min_bp)

    -- the definition's turn, from what it finds on
    abbrev found : Option ℕ → Prog (Turn ℕ)
    found x = Then (or_next (binary_step mode min_bp start expr) x) ends

    after-postfix : (x : Option ℕ) → Same (turn_rest mode min_bp start expr x) (found x)
    after-postfix (some node) = record { is = λ s n. unfold eval in refl }
    after-postfix none = record { is = λ s n. unfold eval in (infix-same.is s n) }

    -- both in the order of the tokens that are looked for
    abbrev in_order : (Going → Prog (Turn ℕ)) → Prog (Turn ℕ)
    in_order k = do
      x ← look dot (eat Token.Dot)
      whether x
          then (do
            node ← member_expr start expr
            k (member node))
          else do
            y ← look round (check Token.LeftRound)
            whether y then k call else do
              z ← look curly (check Token.LeftCurly)
              whether z then k literal_of else k nowhere

    order_same : {g h : Going → Prog (Turn ℕ)} → ((k : Going) → Same (g k) (h k)) → Same (in_order g) (in_order h)
    order_same e =
        then_same (look dot (eat Token.Dot)) (λ x. branch_same x (then_same (member_expr start expr) (λ node. e (member node)))
        (then_same (look round (check Token.LeftRound)) (λ y. branch_same y (e call)
        (then_same (look curly (check Token.LeftCurly)) (λ z. branch_same z (e literal_of) (e nowhere))))))

    kind-order : (g : Going → Prog (Turn ℕ)) → Same (Then (postfix_kind mode min_bp start expr) g) (in_order g)
    kind-order g = also (assoc (look dot (eat Token.Dot)) first g) (then_same (look dot (eat Token.Dot)) ways)
      where
        third : Bool → Prog Going
        third z = whether z then give literal_of else give nowhere

        second : Bool → Prog Going
        second y = whether y then give call else Then (look curly (check Token.LeftCurly)) third

        first : Bool → Prog Going
        first x =
            whether x
            then (do
              node ← member_expr start expr
              give (member node))
            else Then (look round (check Token.LeftRound)) second

        thirds : (z : Bool) → Same (Then (third z) g) (whether z then g literal_of else g nowhere)
        thirds true = record { is = λ s n. unfold eval in refl }
        thirds false = record { is = λ s n. unfold eval in refl }

        flat-second : Same (Then (second false) g) (Then (look curly (check Token.LeftCurly)) (λ z. Then (third z) g))
        flat-second = also (else-way (give call) (Then (look curly (check Token.LeftCurly)) third) g) (assoc (look curly (check Token.LeftCurly)) third g)

        last : Same (Then (second false) g) (Then (look curly (check Token.LeftCurly)) (λ z. whether z then g literal_of else g nowhere))
        last = also flat-second (then_same (look curly (check Token.LeftCurly)) thirds)

        seconds : (y : Bool) → Same (Then (second y) g) (whether y then g call else Then (look curly (check Token.LeftCurly)) (λ z. whether z then g literal_of else g nowhere))
        seconds true = record { is = λ s n. unfold eval in refl }
        seconds false = record { is = λ s n. unfold eval in (last.is s n) }

        flat-first : Same (Then (first false) g) (Then (look round (check Token.LeftRound)) (λ y. Then (second y) g))
        flat-first =
            also
            (else-way (do
              node ← member_expr start expr
              give (member node)) (Then (look round (check Token.LeftRound)) second) g)
            (assoc (look round (check Token.LeftRound)) second g)

        others : Same (Then (first false) g) (Then (look round (check Token.LeftRound)) (λ y. whether y then g call else Then (look curly (check Token.LeftCurly)) (λ z. whether z then g literal_of else g nowhere)))
        others = also flat-first (then_same (look round (check Token.LeftRound)) seconds)

        ways : (x : Bool)
            → Same (Then (first x) g) (whether x
            then (do
              node ← member_expr start expr
              g (member node))
            else Then (look round (check Token.LeftRound)) (λ y. whether y then g call else Then (look curly (check Token.LeftCurly)) (λ z. whether z then g literal_of else g nowhere)))
        ways true = record { is = λ s n. unfold eval in ((assoc (member_expr start expr) (λ node. Give (member node)) g).is s n) }
        ways false = record { is = λ s n. unfold eval in (others.is s n) }

    -- the definition's turn in that order
    abbrev theirs : Going → Prog (Turn ℕ)
    theirs k = Then (postfix_rest start expr k) found

    three-order : Same (in_order theirs) (Then (three_ways (binary_step mode min_bp start expr)) ends)
    three-order = also (then_same (look dot (eat Token.Dot)) ways) (back (assoc (look dot (eat Token.Dot)) first ends))
      where
        third : Bool → Prog (Option ℕ)
        third z = whether z then answers (struct_lit start expr) else binary_step mode min_bp start expr

        second : Bool → Prog (Option ℕ)
        second y = whether y then answers (call_expr start expr) else Then (look curly (check Token.LeftCurly)) third

        first : Bool → Prog (Option ℕ)
        first x = whether x then answers (member_expr start expr) else Then (look round (check Token.LeftRound)) second

        thirds : (z : Bool) → Same (whether z then theirs literal_of else theirs nowhere) (Then (third z) ends)
        thirds true = record { is = λ s n. unfold eval in (simp bind-bind) }
        thirds false = record { is = λ s n. unfold eval in refl }

        last : Same (Then (look curly (check Token.LeftCurly)) (λ z. whether z then theirs literal_of else theirs nowhere)) (Then (second false) ends)
        last = also (then_same (look curly (check Token.LeftCurly)) thirds) (back (also (else-way (answers (call_expr start expr)) (Then (look curly (check Token.LeftCurly)) third) ends) (assoc (look curly (check Token.LeftCurly)) third ends)))

        seconds : (y : Bool) → Same (whether y then theirs call else Then (look curly (check Token.LeftCurly)) (λ z. whether z then theirs literal_of else theirs nowhere)) (Then (second y) ends)
        seconds true = record { is = λ s n. unfold eval in (simp bind-bind) }
        seconds false = record { is = λ s n. unfold eval in (last.is s n) }

        others : Same (Then (look round (check Token.LeftRound)) (λ y. whether y then theirs call else Then (look curly (check Token.LeftCurly)) (λ z. whether z then theirs literal_of else theirs nowhere))) (Then (first false) ends)
        others = also (then_same (look round (check Token.LeftRound)) seconds) (back (also (else-way (answers (member_expr start expr)) (Then (look round (check Token.LeftRound)) second) ends) (assoc (look round (check Token.LeftRound)) second ends)))

        ways : (x : Bool)
            → Same (whether x
            then (do
              node ← member_expr start expr
              theirs (member node))
            else Then (look round (check Token.LeftRound)) (λ y. whether y then theirs call else Then (look curly (check Token.LeftCurly)) (λ z. whether z then theirs literal_of else theirs nowhere))) (Then (first x) ends)
        ways true = record { is = λ s n. unfold eval in (simp bind-bind) }
        ways false = record { is = λ s n. unfold eval in (others.is s n) }

    pub turn-same : Same (turn_steps mode min_bp start expr) (expr_turn mode min_bp start expr)
    unfolding expr_turn
    turn-same =
        also (assoc (postfix_kind mode min_bp start expr) (postfix_rest start expr) (turn_rest mode min_bp start expr))
        (also (kind-order rest)
        (also (order_same (λ k. then_same (postfix_rest start expr k) after-postfix))
        (also three-order (first-same ends (three-same (binary_step mode min_bp start expr))))))

  -- ---- the elements of a tuple

  pub more_same : (list : Unfinished) (node : ℕ)
      → Same (do
        g ← more list node
        whether g.on then give (again g.node) else give (stop g.node)) (do
          list ← push_child list node
          if_eat Token.Comma then give (again list) else give (stop list))
  unfolding eval
  more_same list node = record { is = λ s n. simp bind-bind }

  -- ---- the expression's start

  pub expr-same : (mode : Mode) (min_bp : ℕ) → Same (expr_steps mode min_bp) (try_parse_expr_min_bp mode min_bp)
  unfolding try_parse_expr_min_bp
  expr-same mode min_bp = also grouped (then_same skip_trivia_start (λ start. then_same eat_unary (ways start)))
    where
      begun : ℕ → Option ℕ → Prog Prefix
      begun start unary =
          elim unary [
            | some op ↦ do
              u ← alloc_node_from start Node.UnaryExpr op
              give (prefix start (some u))
            | none ↦ give (prefix start none)
          ]

      all : Prefix → Prog (Option ℕ)
      all h = Then (first_rest mode h) (last_rest mode min_bp h.start)

      grouped : Same (expr_steps mode min_bp) (Then skip_trivia_start (λ start. Then eat_unary (λ unary. Then (begun start unary) all)))
      grouped = record { is = λ s n. unfold eval in (simp bind-bind) }

      ways : (start : ℕ) (unary : Option ℕ) → Same (Then (begun start unary) all) (Then (elim unary [ some op ↦ unary_expr mode start op | none ↦ try_parse_standalone_expr ]) (last_rest mode min_bp start))
      ways start none = record { is = λ s n. unfold eval in refl }
      ways start (some op) = record { is = λ s n. unfold eval unary_expr in (simp bind-bind) }
