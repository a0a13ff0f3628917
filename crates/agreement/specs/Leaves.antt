-- Names, and nodes of one token.
use Rattle.std.specs.Prelude.{◌≡◌, List, ℕ, suc, ◌<◌, ◌^◌, pred, length}
use Rattle.std.proofs.Math.Path.{refl}
use Rattle.std.proofs.Common.{sym, subst, arith, lit<}
use Rattle.std.proofs.Math.Bool.{true, false}
use Rattle.std.proofs.Math.Option.{Option}
use borrow.Author.Tests.{lt-ltb}
use Rattle.words.specs.Token
use Rattle.words.specs.Node
use Rattle.words.specs.Words.{token_kind, node_kind, node_payload, node_head}
use Rattle.words.specs.Laws.{high-pack, low-pack}
use Rattle.literals.specs.Spelling.{word_at, spelling, first_alike}
use Rattle.definition.specs.Nodes.{alloc_last_token_as_node, try_parse_ident, expect_ident}
use Rattle.definition.specs.Abstract.{World, Fate, move_to}
use Rattle.chart.specs.Row.{Lexeme, RowToken, begins}
use Rattle.chart.specs.Tree.{Value, flags, name, Tree, node, none}
use Rattle.chart.specs.Parser.{Outcome, on, failed}
use Rattle.tree.specs.Stored.{said, is_name, where-so}
use Rattle.agreement.specs.Run.{run}
use Rattle.agreement.specs.Sim.{Sim, fails, Setting, runs, lexeme_of, Fits, eat-rule, check-either, unexpected-rule}
use Rattle.agreement.specs.Literals.{first_alike-named}
use Rattle.agreement.specs.Steps.{is_flagged, flagged, Done, Agrees, alloc-rule, close-rule}

-- What a node says whose payload is the number of a token.
abbrev pub name_tree : ℕ → List ℕ → Tree
name_tree kind s = node kind (name s) none

module _ (s : Setting) where
  -- The token just passed is a node of its own.
  module _ {B : Type 0} {P : B → World → Outcome → Type 0} where
    pub last-rule : (w : World) (k : ℕ → World → Fate B) (kind payload : ℕ) {v : Value} {xs : List RowToken} {o : Outcome} → said s.text s.tokens w.values (node_kind (node_head kind payload)) (node_payload (node_head kind payload)) ≡ Option.some v
        → Fits s w xs → ((n : ℕ) (u : World) → Done s w u n (node (node_kind (node_head kind payload)) v none) → Fits s u xs → Sim P (k n u) o)
        → Sim P (runs s (alloc_last_token_as_node kind payload) w k) o
    unfolding run alloc_last_token_as_node
    last-rule w k kind payload {v} e f h =
        alloc-rule s w _ (pred w.at) kind payload f (λ x u o f₁. close-rule s w u k x o (o.says _ _ v e) f₁ h)

    pub last-flagged : (w : World) (k : ℕ → World → Fate B) (kind payload : ℕ) {xs : List RowToken} {o : Outcome} → is_flagged kind payload ≡ true
        → Fits s w xs → ((n : ℕ) (u : World) → Done s w u n (node kind (flags payload) none) → Fits s u xs → Sim P (k n u) o)
        → Sim P (runs s (alloc_last_token_as_node kind payload) w k) o
    last-flagged w k kind payload e f h =
        let a = flagged s.text s.tokens w.values kind payload e in
        last-rule w k kind payload a.says f (λ n u d. h n u (rw a.kind-is at d))

  -- What a name's node says.
  pub name-said : (a : Agrees s) (values : List ℕ) (kind from j : ℕ) → kind < 2 ^ 6 → is_name kind ≡ true → j < length s.tokens → token_kind (word_at s.tokens j) ≡ from
      → let payload = first_alike s.text s.tokens from j in
      (node_kind (node_head kind payload) ≡ kind) × (said s.text s.tokens values (node_kind (node_head kind payload)) (node_payload (node_head kind payload)) ≡ Option.some (name (spelling s.text s.tokens j)))
  unfolding said where-so
  name-said a values kind from j l e h t =
      let payload = first_alike s.text s.tokens from j in
      let first = first_alike-named s.text s.tokens from j h t in
      let x : node_kind (node_head kind payload) ≡ kind = high-pack 26 kind payload l in
      let y : node_payload (node_head kind payload) ≡ payload = low-pack 26 kind payload (omega (arith, a.few, first.inside)) in
      (x, rw (x, y, e, lt-ltb payload (length s.tokens) first.inside, first.spelled))

  module _ (a : Agrees s) {B : Type 0} {P : B → World → Outcome → Type 0} where
    pub name-rule : (w : World) (k : ℕ → World → Fate B) (kind from j : ℕ) {xs : List RowToken} {o : Outcome} → kind < 2 ^ 6 → is_name kind ≡ true → j < length s.tokens → token_kind (word_at s.tokens j) ≡ from → Fits s w xs
        → ((n : ℕ) (u : World) → Done s w u n (name_tree kind (lexeme_of s j).spelling) → Fits s u xs → Sim P (k n u) o)
        → Sim P (runs s (alloc_last_token_as_node kind (first_alike s.text s.tokens from j)) w k) o
    name-rule w k kind from j l e h t f g =
        let x = name-said a w.values kind from j l e h t in
        last-rule w k kind (first_alike s.text s.tokens from j) x.1 f (λ n u d. g n u (rw x.0 at d))

    pub name-at : (w : World) (k : ℕ → World → Fate B) (kind from j payload : ℕ) {xs : List RowToken} {o : Outcome} → payload ≡ first_alike s.text s.tokens from j → kind < 2 ^ 6 → is_name kind ≡ true → j < length s.tokens → token_kind (word_at s.tokens j) ≡ from
        → Fits s w xs → ((n : ℕ) (u : World) → Done s w u n (name_tree kind (lexeme_of s j).spelling) → Fits s u xs → Sim P (k n u) o)
        → Sim P (runs s (alloc_last_token_as_node kind payload) w k) o
    name-at w k kind from j payload {o = o} q l e h t f g = subst (λ p. Sim P (runs s (alloc_last_token_as_node kind p) w k) o) (sym q) (name-rule w k kind from j l e h t f g)

    -- `try_parse_ident` beside a name that may be there.
    pub ident-rule : (w : World) (k : Option ℕ → World → Fate B) (h : Lexeme → List RowToken → Outcome) {xs : List RowToken} {m : Outcome} → Fits s w xs
        → ((n : ℕ) (u : World) (j : ℕ) (ys : List RowToken) → Done s w u n (name_tree Node.Identifier (lexeme_of s j).spelling) → Fits s u ys → length ys < length xs → Sim P (k (Option.some n) u) (h (lexeme_of s j) ys))
        → (begins Token.Identifier xs ≡ false → (i : ℕ) → Sim P (k Option.none (move_to i w.row w)) m)
        → Sim P (runs s try_parse_ident w k) (on Token.Identifier xs h m)
    unfolding run try_parse_ident is_name
    ident-rule w k h f hit miss =
        eat-rule s w _ h refl f
        (λ j row ys t. name-rule (move_to (suc j) row w) _ Node.Identifier Token.Identifier j (lit< tt) refl t.inside t.kind t.fit (λ n u d g. hit n u j ys d g t.shorter))
        miss

    -- One that has to be there.
    pub expect-ident-rule : (w : World) (k : ℕ → World → Fate B) (h : Lexeme → List RowToken → Outcome) {xs : List RowToken} → Fits s w xs
        → ((n : ℕ) (u : World) (j : ℕ) (ys : List RowToken) → Done s w u n (name_tree Node.Identifier (lexeme_of s j).spelling) → Fits s u ys → length ys < length xs → Sim P (k n u) (h (lexeme_of s j) ys))
        → Sim P (runs s expect_ident w k) (on Token.Identifier xs h failed)
    unfolding run expect_ident on
    expect-ident-rule w k h f hit =
        ident-rule w _ h f hit (λ e i. check-either s (move_to i w.row w) _ Token.BuiltinName f (elim [ true ↦ λ j. fails | false ↦ λ j. unexpected-rule s (move_to j w.row w) _ f ]))
