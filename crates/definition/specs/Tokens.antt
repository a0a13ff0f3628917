-- Looking at tokens, passing them and reporting on them: parser/mod.rs from `check` to `expect`.
-- Left out: the list of expected tokens, fuel, debug assertions and the texts of messages (01).
use Rattle.std.specs.Prelude.{Bool, true, false, not, ◌&&◌, ◌||◌, List, [], ◌∷◌, ℕ, eqb, ltb}
use Rattle.std.proofs.Math.Option.{Option, none, some}
use Rattle.words.specs.Token
use Rattle.words.specs.Report
use Rattle.definition.specs.Prog.{Turn, again, stop, Prog, Act, give, ◌>>=◌, ◌>>◌, loop, whether◌then◌else◌, when, peek, pass, position, here, before, marked, emit_and_mark}

infixr 12 if_eat◌then◌else◌ if_check◌then◌else◌
-- CONST_DEF_EXPR_RECOVERY
abbrev pub const_def_expr_recovery : List ℕ
const_def_expr_recovery = Token.Init ∷ Token.Run ∷ Token.Const ∷ Token.Pub ∷ Token.Use ∷ []

-- STMT_RECOVERY
abbrev pub stmt_recovery : List ℕ
stmt_recovery =
    Token.Semicolon
    ∷ Token.RightCurly
    ∷ Token.Init
    ∷ Token.Run
    ∷ Token.Const
    ∷ Token.Pub
    ∷ Token.Use
    ∷ Token.Let
    ∷ Token.Return
    ∷ Token.Comptime
    ∷ Token.While
    ∷ Token.Inline
    ∷ Token.If
    ∷ Token.Match
    ∷ Token.LeftCurly
    ∷ []

-- `tokens.contains(&token)`
unfoldable pub contains : List ℕ → ℕ → Bool
contains [] token = false
contains (t ∷ ts) token = eqb token t || contains ts token

unfoldable pub check : ℕ → Prog Bool
check token = do
  found ← peek
  give (eqb found token)

unfoldable pub eat : ℕ → Prog Bool
eat token = do
  found ← check token
  whether found
      then (do
        pass
        give true)
      else give false

-- `if self.eat(token) { p } else { q }`, and the same with `check`.
abbrev pub if_eat◌then◌else◌ : {A : Type 0} → ℕ → Prog A → Prog A → Prog A
if_eat◌then◌else◌ token p q = do
  found ← eat token
  whether found then p else q

abbrev pub if_check◌then◌else◌ : {A : Type 0} → ℕ → Prog A → Prog A → Prog A
if_check◌then◌else◌ token p q = do
  found ← check token
  whether found then p else q

unfoldable pub eof : Prog Bool
eof = check Token.Eof

-- "No second unexpected-token report is made at one token" (01, parser/mod.rs).
unfoldable pub emit_unexpected : Act
emit_unexpected = do
  at_last_unexpected ← marked
  when (not at_last_unexpected) do
    found ← peek
    place ← here
    emit_and_mark Report.Unexpected found place

unfoldable pub skip_turn : List ℕ → Unit {0} → Prog (Turn (Unit {0}))
skip_turn recovery _ = do
  ended ← eof
  token ← peek
  whether ended || contains recovery token then give (stop tt) else do
    pass
    give (again tt)

unfoldable pub skip_until_recovery_token : List ℕ → Act
skip_until_recovery_token recovery = loop tt (skip_turn recovery)

-- Its loop is that of `skip_until_recovery_token` with these five tokens.
unfoldable pub skip_until_decl_start : Act
skip_until_decl_start = do
  pass
  skip_until_recovery_token const_def_expr_recovery

unfoldable pub expect : ℕ → Prog Bool
expect token = do
  eaten ← eat token
  when (not eaten) emit_unexpected
  give eaten

unfoldable pub expect_check_recovery : ℕ → List ℕ → Prog Bool
expect_check_recovery token recovery = do
  eaten ← eat token
  at_last_unexpected ← marked
  when (not eaten && not at_last_unexpected) do
    next ← peek
    number ← position
    whether contains recovery next && ltb 0 number
        then (do
          place ← before
          emit_and_mark Report.MissingToken token place)
        else emit_unexpected
  give eaten

-- What a list came to so far, and `error_emitted`.
pub record Delimited (S : Type 0) : Type 0 where
  pub list : S
  pub emitted : Bool

abbrev pub delimited : {S : Type 0} → S → Bool → Delimited S
delimited list emitted = record { list = list; emitted = emitted }

-- One turn of the loop in `parse_delimited`. `element` is `parse_fn`: what the list comes to with one element more, or none (false).
unfoldable pub delimited_turn : {S : Type 0} → ℕ → ℕ → (S → Prog (Option S)) → Delimited S → Prog (Turn (Delimited S))
delimited_turn terminator delimiter element d = do
  found ← element d.list
  elim found [
    | some list ↦ if_eat delimiter then give (again (delimited list false)) else give (stop (delimited list false))
    | none ↦ do
      closed ← check terminator
      ended ← eof
      whether closed || ended then give (stop d) else do
        when (not d.emitted) emit_unexpected
        pass
        give (again (delimited d.list true))
  ]

unfoldable pub parse_delimited : {S : Type 0} → ℕ → ℕ → ℕ → (S → Prog (Option S)) → S → Prog S
parse_delimited opener terminator delimiter element first = do
  expect opener
  d ← loop (delimited first false) (delimited_turn terminator delimiter element)
  expect terminator
  give d.list
