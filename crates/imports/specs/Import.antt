-- The parts of the reader of imports, and what they answer as the definition has it.
use Rattle.std.specs.Prelude.{Bool, true, false, ℕ}
use Rattle.std.proofs.Math.Option.{Option, none, some}
use Rattle.words.specs.Token
use Rattle.words.specs.Node
use Rattle.words.specs.Flag
use Rattle.definition.specs.declared.Unfinished.{Unfinished}
use Rattle.definition.specs.Prog.{Turn, again, stop, Prog, give, ◌>>=◌, ◌>>◌, loop}
use Rattle.definition.specs.Tokens.{if_eat◌then◌else◌, if_check◌then◌else◌, expect}
use Rattle.definition.specs.Nodes.{alloc_node_from, close_node, push_child, flag, expect_ident}
use Rattle.definition.specs.Declarations.{ImportSoFar, glob_import, group_import, import_turn, import_as}

abbrev pub so_far : Unfinished → Option ℕ → ImportSoFar
so_far path whole = record { path = path; whole = whole }

-- A turn that goes on, or was the last.
abbrev pub turn_to : Bool → ImportSoFar → Turn ImportSoFar
turn_to true p = again p
turn_to false p = stop p

abbrev pub import_part : Bool → Unfinished → Prog (Turn ImportSoFar)
import_part public path =
    if_eat Token.Star then glob_import public path
    else if_check Token.LeftCurly then group_import public path
    else do
      ident ← expect_ident
      path ← push_child path ident
      give (again (so_far path none))

abbrev pub as_name : Unfinished → Prog ℕ
as_name import = do
  expect Token.As
  name ← expect_ident
  import ← push_child import name
  expect Token.Semicolon
  close_node import

abbrev pub as_decl : ℕ → Bool → ℕ → Prog ℕ
as_decl start public path = do
  import ← alloc_node_from start Node.ImportAsDecl (flag public Flag.ImportAsDecl-public)
  import ← push_child import path
  as_name import

abbrev pub import_end : ℕ → Bool → Unfinished → Prog ℕ
import_end start public path = if_eat Token.Semicolon then close_node path else import_as start public path

abbrev pub import_rest : ℕ → Bool → Unfinished → Prog ℕ
import_rest start public path = do
  p ← loop (so_far path none) (import_turn public)
  elim p.whole [ some node ↦ give node | none ↦ import_end start public p.path ]
