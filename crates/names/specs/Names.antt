-- The parts of the readers of names, and the law of `intern`.
use Rattle.std.specs.Prelude.{not, ℕ, pred}
use Rattle.words.specs.Token
use Rattle.words.specs.Node
use Rattle.words.specs.Report
use Rattle.definition.specs.Prog.{Prog, Act, ◌>>=◌, ◌>>◌, when, eval, pass, here, intern, marked, emit_and_mark}
use Rattle.definition.specs.Tokens.{if_check◌then◌else◌, emit_unexpected}
use Rattle.definition.specs.Nodes.{alloc_last_token_as_node, error_node}
use Rattle.reading.specs.declared.parser.Parser.{Parser}
use Rattle.reading.specs.Source.{first_of}
use Rattle.reading.specs.Does.{Does, same}

-- The number that the definition gives the token that was just passed.
abbrev pub interned_at : ℕ → Parser → ℕ
interned_at kind p = first_of p.text.now p.tokens.now kind (pred p.state.cursor.at)

pub intern-is : {kind : ℕ} {p : Parser} → Does (intern kind) p (interned_at kind p) p
unfolding eval
intern-is {kind = kind} {p = p} = record { is = λ w. rw (w kind (pred p.state.cursor.at)); kept = same }

-- What `expect_ident` does with a builtin's name, and where there is no name.
abbrev pub tell_builtin : Act
tell_builtin = do
  at_last_unexpected ← marked
  when (not at_last_unexpected) do
    place ← here
    emit_and_mark Report.BuiltinAsName 0 place

abbrev pub no_ident : Prog ℕ
no_ident =
    if_check Token.BuiltinName then (do
      at_last_unexpected ← marked
      when (not at_last_unexpected) do
        place ← here
        emit_and_mark Report.BuiltinAsName 0 place
      pass
      alloc_last_token_as_node Node.Error 0)
    else do
      emit_unexpected
      error_node
