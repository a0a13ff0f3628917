-- A file is read to its end: where it isn't refused, the cursor stands at Eof. So a text that is read free of reports is a row of tokens that
-- are read, and then Eof.
use Rattle.std.proofs.Math.Path.{◌≡◌, refl, sym, ap}
use Rattle.std.proofs.Common.{◌∙◌, arith}
use Rattle.std.specs.Prelude.{Bool, List, [], ◌∷◌, eqb}
use Rattle.std.proofs.Math.Bool.{true, false}
use Prim.Native.Nat.{ℕ, zero, suc, ◌+◌, ◌-◌, ◌<◌}
use borrow.Author.Tests.{ltb-true, ltb-false, eqb-true}
use Rattle.std.proofs.Math.Dec.{ltb}
use Rattle.words.specs.Token
use Rattle.words.specs.Token.{is_trivia, lex_error}
use Rattle.words.specs.Node
use Rattle.words.specs.Answer as Answer
use Rattle.words.specs.Words.{token_kind}
use Rattle.literals.specs.Spelling.{word_at}
use Rattle.definition.specs.declared.Cursor.{Cursor}
use Rattle.definition.specs.declared.State.{State}
use Rattle.definition.specs.declared.Unfinished.{Unfinished}
use Rattle.definition.specs.Prog.{again, stop, Then, Branch, Give, Memory, Out, done, refused, Readers, kind_at, skip_trivia, eval}
use Rattle.definition.specs.Tokens.{check, eof}
use Rattle.definition.specs.Nodes.{alloc_node, close_node_at, close_node, push_child}
use Rattle.definition.specs.Expressions.{try_parse_expr_min_bp}
use Rattle.definition.specs.Statements.{parse_block}
use Rattle.definition.specs.Declarations.{parse_decl, decl_turn, parse_file}
use Rattle.definition.specs.Parse.{max_depth, readers, token_limit, start, zeros, parsed_to, parsed_within, parsed}
use Rattle.definition.proofs.Progress.{Holds, yields, halts, onward, is_again}
use Rattle.definition.proofs.Proper.{kind-inside}
use Rattle.definition.proofs.Bound.{iter_or, eval_or, tower_or, file-alike}
use Rattle.definition.specs.Abstract.{Seen, good, row_from, Passed, World, Fate, ok, start_a, parsed_a}
use Rattle.definition.proofs.Simulates.{Nodes, Values, Sim, same, more, late, sunk, short, short-deep, file-sim, Grows, grew, sank, gave-up, grows, growing}

anything : {A : Type 0} (o : Out A) → Holds (λ _ _. Unit {0}) o
anything (done a t n) = yields tt
anything (refused number place) = halts

module _ (text tokens : List ℕ) where
  abbrev pub AtEof : State → Type 0
  AtEof t = kind_at text tokens t.cursor ≡ Token.Eof

  -- A loop with no turn left is refused; as that is never met (`Bound`), the file's loop ends where its turn says so.
  abbrev spent : (S : Type 0) → S → State → Memory → Out S
  spent S x s m = refused 0 0

  module _ (bound : ℕ) (r : Readers) where
    eof-stops : (s : State) (m : Memory) → Holds (λ b t. b ≡ true → AtEof t) (eval_or text tokens spent bound r eof s m)
    unfolding eval_or eval eof check
    eof-stops s m =
        onward {Q = λ k t. k ≡ kind_at text tokens t.cursor} (λ k t n. done (eqb k Token.Eof) t n)
        (onward (λ _ t n. done (kind_at text tokens t.cursor) t n) (anything (skip_trivia text tokens s m)) (λ _ t n _. yields refl))
        (λ k t n q. yields (λ e. sym q ∙ eqb-true k Token.Eof e))

    turn-stops : (x : Unfinished) (s : State) (m : Memory) → Holds (λ t u. is_again t ≡ false → AtEof u) (eval_or text tokens spent bound r (decl_turn x) s m)
    unfolding eval_or eval decl_turn
    turn-stops x s m =
        onward (λ b t n. eval_or text tokens spent bound r (Branch b (Give (stop x)) (Then parse_decl (λ decl. Then (push_child x decl) (λ file. Give (again file))))) t n) (eof-stops s m) (elim [
          | true ↦ λ t n q. yields (λ _. q refl)
          | false ↦ λ t n q. onward _ (anything (eval_or text tokens spent bound r parse_decl t n)) (λ decl u k _. onward _ (anything (eval_or text tokens spent bound r (push_child x decl) u k)) (λ file v l _. yields (λ e. cc)))
        ])

    loop-stops : (k : ℕ) (x : Unfinished) (s : State) (m : Memory) → Holds (λ _ t. AtEof t) (iter_or (spent Unfinished) (λ y t n. eval_or text tokens spent bound r (decl_turn y) t n) k x s m)
    unfolding iter_or
    loop-stops zero x s m = halts
    loop-stops (suc k) x s m = onward _ (turn-stops x s m) (elim [ again y ↦ λ u n q. loop-stops k y u n | stop y ↦ λ u n q. yields (q refl) ])

    file-stops : (s : State) (m : Memory) → Holds (λ _ t. AtEof t) (eval_or text tokens spent bound r parse_file s m)
    unfolding eval_or eval parse_file close_node close_node_at
    file-stops s m = onward _ (anything (eval_or text tokens spent bound r (alloc_node Node.File 0) s m)) (λ file t n _. onward _ (loop-stops bound file t n) (λ file u k q. yields q))

  pub file-ends : (bound nodes values reports : ℕ) → token_limit tokens < bound → Holds (λ _ t. AtEof t) (eval text tokens bound (readers text tokens bound max_depth) parse_file (start tokens) (zeros nodes values reports))
  file-ends bound nodes values reports h =
      rw (file-alike text tokens spent bound bound nodes values reports h h) (file-stops bound (tower_or text tokens spent bound try_parse_expr_min_bp parse_block max_depth) (start tokens) (zeros nodes values reports))

-- What is left of a row at Eof.
pub data AtEnd : List Seen → Type 0 where
  nothing_left : AtEnd []
  eof-left : {i : ℕ} {row : List Seen} → AtEnd (good i Token.Eof ∷ row)

module _ (text tokens : List ℕ) where
  row_ends : (i left : ℕ) → token_kind (word_at tokens i) ≡ Token.Eof → AtEnd (row_from tokens i left)
  unfolding row_from is_trivia lex_error
  row_ends i zero h = nothing_left
  row_ends i (suc left) h = rw h eof-left

  kind-ends : (c : Cursor) → kind_at text tokens c ≡ Token.Eof → AtEnd (row_from tokens c.at (c.end - c.at))
  unfolding row_from
  kind-ends c h = go (ltb c.at c.end) refl
    where
      go : (b : Bool) → ltb c.at c.end ≡ b → AtEnd (row_from tokens c.at (c.end - c.at))
      go true e = row_ends c.at (c.end - c.at) (sym (kind-inside text tokens c (ltb-true _ _ e)) ∙ h)
      go false e = let z : c.end - c.at ≡ 0 = omega (arith, ltb-false c.at c.end e) in rw z nothing_left

  -- All that the abstract run passed are tokens that are read.
  pub only-good : {file : ℕ} {w : World} → parsed_a text tokens ≡ ok file w → Passed (row_from tokens 0 (token_limit tokens)) w.row
  unfolding parsed_a
  only-good {file} {w} e =
      let bound = token_limit tokens + 1 in
      go e (grows text tokens (token_limit tokens) bound _ (growing text tokens (token_limit tokens) bound try_parse_expr_min_bp parse_block max_depth) parse_file (start_a tokens))
    where
      go : {f : Fate ℕ} → f ≡ ok file w → Grows (start_a tokens) f → Passed (row_from tokens 0 (token_limit tokens)) w.row
      go e (grew {u = u} l) = let z : u ≡ w = cc in rw z at l.row
      go e (sank l) = absurd (let z : ◌≡◌ {A = ℕ} 0 1 = cc in omega arith)
      go e gave-up = absurd (let z : ◌≡◌ {A = ℕ} 0 1 = cc in omega arith)

  -- A text that is read free of reports.
  pub data Whole (n v nodes values : ℕ) (m : Memory) : Fate ℕ → Type 0 where
    whole : {file : ℕ} {w : World} → Nodes n nodes m.nodes w.store w.sane → Values v values m.values w.values → Passed (row_from tokens 0 (token_limit tokens)) w.row → AtEnd w.row
        → Whole n v nodes values m (ok file w)

  whole_of : {n v nodes values : ℕ} (blank : Memory) {o : Out ℕ} {f : Fate ℕ} → Sim text tokens (token_limit tokens) n v 0 o f → Holds (λ _ t. AtEof text tokens t) o
      → ((file : ℕ) (w : World) → f ≡ ok file w → Passed (row_from tokens 0 (token_limit tokens)) w.row) → (parsed_to blank o).answer ≡ Answer.done (nodes ∷ values ∷ 0 ∷ []) → Whole n v nodes values (parsed_to blank o).words f
  unfolding parsed_to
  whole_of {nodes = a} {values = b} blank (same {t = t} {w = w} e r) (yields h) g q =
      let za : t.nodes ≡ a = cc in
      let zb : t.values ≡ b = cc in
      let l : row_from tokens t.cursor.at (t.cursor.end - t.cursor.at) ≡ w.row = ap (λ end. row_from tokens t.cursor.at (end - t.cursor.at)) r.placed.limit ∙ sym r.placed.ahead in
      whole (rw za at r.nodes) (rw zb at r.values) (g _ w refl) (rw l at (kind-ends t.cursor h))
  whole_of blank (more {t = t} h) x g q = absurd (let z : t.reports ≡ 0 = cc in omega arith)
  whole_of blank late x g q = absurd (let z : ◌≡◌ {A = ℕ} 0 1 = cc in omega arith)
  whole_of blank (sunk e) x g q = absurd (let z : ◌≡◌ {A = ℕ} 0 1 = cc in omega arith)
  whole_of blank (short l) x g q = absurd (let z : ◌≡◌ {A = ℕ} 0 1 = cc in omega arith)
  whole_of blank (short-deep l) x g q = absurd (let z : ◌≡◌ {A = ℕ} 0 1 = cc in omega arith)

  -- It is the abstract run's, its words stand for nodes and values, and its row is passed up to Eof.
  pub read_whole : (n v r : ℕ) {nodes values : ℕ} → (parsed text tokens n v r).answer ≡ Answer.done (nodes ∷ values ∷ 0 ∷ []) → Whole n v nodes values (parsed text tokens n v r).words (parsed_a text tokens)
  unfolding parsed parsed_within
  read_whole n v r q = whole_of (zeros n v r) (file-sim text tokens n v r) (file-ends text tokens (token_limit tokens + 1) n v r (omega arith)) (λ file w. only-good) q
