-- The language in which the readers are written, and what its programs do.
-- A reader is a program of commands: what the Rust's `Parser` does with its tokens, nodes, values and reports.
-- `eval` runs a program on a state and the words that are lent.
use Rattle.std.specs.Prelude.{Bool, true, false, cond, ◌&&◌, List, ℕ, zero, suc, ◌+◌, ◌-◌, ◌*◌, pred, eqb, ltb, leb, length, get_or, set}
use Rattle.std.proofs.Math.Option.{Option}
use Rattle.std.proofs.lemmas.List.Edits.{sets}
use Rattle.words.specs.Token
use Rattle.words.specs.ErrorToken.{error_number}
use Rattle.words.specs.Token.{is_trivia, lex_error}
use Rattle.std.specs.Prelude.{Some, None}
use Rattle.words.specs.Report
use Rattle.words.specs.Refusal
use Rattle.words.specs.Words.{token_kind, node_kind, node_head, node_width, node_words, report_width, report_words}
use Rattle.literals.specs.declared.Span.{Span}
use Rattle.literals.specs.Spelling as Source
use Rattle.definition.specs.declared.Cursor.{Cursor}
use Rattle.definition.specs.declared.State.{State}
use Rattle.definition.specs.declared.Mode.{Mode}

infixl 10 ◌>>=◌ ◌>>◌
infixr 12 whether◌then◌else◌
-- A turn of a loop goes on, or is the last.
pub data Turn (S : Type 0) : Type 0 where
  again : S → Turn S
  stop : S → Turn S

-- A program, by what it answers.
pub data Prog : Type 0 → Type 1 where
  -- An answer; one program and then another; one of two; turns that hand a value on, until one is the last.
  Give : {A : Type 0} → A → Prog A
  Then : {A B : Type 0} → Prog A → (A → Prog B) → Prog B
  Branch : {A : Type 0} → Bool → Prog A → Prog A → Prog A
  Loop : {S : Type 0} → S → (S → Prog (Turn S)) → Prog S
  -- Trivia is skipped; then the kind of the token at the cursor is answered, or that token is passed.
  -- (The Rust looks at a token, or passes one, only where trivia was skipped before.)
  peek : Prog ℕ
  pass : Prog (Unit {0})
  -- The cursor as it stands, with nothing skipped: its token number; where in the text its token stands, and the one before it;
  -- how its token is spelled; the first token of a kind that is spelled as the one before it.
  position : Prog ℕ
  here before : Prog Span
  spelling : Prog (List ℕ)
  intern : ℕ → Prog ℕ
  -- Whether the mark is at the cursor's token; a report of kind, detail and place, which may put the mark there.
  marked : Prog Bool
  emit emit_and_mark : ℕ → ℕ → Span → Prog (Unit {0})
  -- A node: made from first token, kind and payload; closed at a token number, or where another node starts; its kind and payload set;
  -- its next child, where its last one is given (0: none); its kind.
  alloc : ℕ → ℕ → ℕ → Prog ℕ
  close_at : ℕ → ℕ → Prog (Unit {0})
  close_at_start : ℕ → ℕ → Prog (Unit {0})
  set_kind : ℕ → ℕ → ℕ → Prog (Unit {0})
  link : ℕ → ℕ → ℕ → Prog (Unit {0})
  kind_of : ℕ → Prog ℕ
  -- The words of a value, of which the offset is answered.
  value : List ℕ → Prog ℕ
  -- A reading of `try_parse_expr_min_bp` or `parse_block`, one level deeper.
  enter_expr : Mode → ℕ → Prog (Option ℕ)
  enter_block : ℕ → ℕ → Prog ℕ

-- A program that is run for what it does.
abbrev pub Act : Type 1
Act = Prog (Unit {0})

abbrev pub give : {A : Type 0} → A → Prog A
give a = Give a

abbrev pub ◌>>=◌ : {A B : Type 0} → Prog A → (A → Prog B) → Prog B
◌>>=◌ p f = Then p f

abbrev pub ◌>>◌ : {A B : Type 0} → Prog A → Prog B → Prog B
◌>>◌ p q = Then p (λ _. q)

abbrev pub loop : {S : Type 0} → S → (S → Prog (Turn S)) → Prog S
loop x body = Loop x body

abbrev pub whether◌then◌else◌ : {A : Type 0} → Bool → Prog A → Prog A → Prog A
whether◌then◌else◌ b p q = Branch b p q

abbrev pub when : Bool → Act → Act
when b p = Branch b p (Give tt)

-- The words that are lent for nodes, values and reports.
pub record Memory : Type 0 where
  pub nodes : List ℕ
  pub values : List ℕ
  pub reports : List ℕ

abbrev pub memory : List ℕ → List ℕ → List ℕ → Memory
memory ns vs rs = record { nodes = ns; values = vs; reports = rs }

-- What a program comes to: an answer, or a refusal's number and place.
pub data Out (A : Type 0) : Type 0 where
  done : A → State → Memory → Out A
  refused : ℕ → ℕ → Out A

abbrev pub bind : {A B : Type 0} → Out A → (A → State → Memory → Out B) → Out B
bind (done a s m) k = k a s m
bind (refused number place) k = refused number place

-- A state with another cursor, mark or count.
abbrev pub with_cursor : Cursor → State → State
with_cursor c s = record { cursor = c; mark = s.mark; nodes = s.nodes; values = s.values; reports = s.reports }

abbrev pub with_mark : ℕ → State → State
with_mark k s = record { cursor = s.cursor; mark = k; nodes = s.nodes; values = s.values; reports = s.reports }

abbrev pub with_nodes : ℕ → State → State
with_nodes n s = record { cursor = s.cursor; mark = s.mark; nodes = n; values = s.values; reports = s.reports }

abbrev pub with_values : ℕ → State → State
with_values n s = record { cursor = s.cursor; mark = s.mark; nodes = s.nodes; values = n; reports = s.reports }

abbrev pub with_reports : ℕ → State → State
with_reports n s = record { cursor = s.cursor; mark = s.mark; nodes = s.nodes; values = s.values; reports = n }

-- The cursor at the next token; it stays where it stops.
unfoldable pub advanced : Cursor → Cursor
advanced c = cond (ltb c.at c.end) (record { at = c.at + 1; end = c.end }) c

-- "Report, three words" (01, Words that are lent); "7 reports don't fit (token number)" (01, Refusals).
unfoldable pub reported : ℕ → ℕ → Span → State → Memory → Out (Unit {0})
reported kind detail p s m =
    elim (leb (report_width * s.reports + report_width) (length m.reports)) [
      | true ↦
          done tt (with_reports (s.reports + 1) s)
          (memory m.nodes m.values
          (sets m.reports (report_width * s.reports) (report_words (record { kind = kind; detail = detail; start = p.start; end = p.end }))))
      | false ↦ refused Refusal.ReportsDontFit s.cursor.at
    ]

-- `at_last_unexpected` and what sets it: the mark is 0, or one more than the number of the token that it is at.
abbrev pub is_marked : State → Bool
is_marked s = eqb s.mark (s.cursor.at + 1)

abbrev pub marked_here : State → State
marked_here s = with_mark (s.cursor.at + 1) s

-- The number of a node is a word, so there is a last one.
abbrev pub last_node : ℕ
last_node = 4294967295

-- `alloc_node_from`: "Node, five words" (01, Words that are lent); "a sixth word, its parent; File has 0, and so has a node that nobody links" (01, W3);
-- "5 nodes, .. don't fit (token number)" (01, Refusals).
unfoldable pub allocated : ℕ → ℕ → ℕ → State → Memory → Out ℕ
allocated start kind payload s m =
    elim (ltb s.nodes last_node && leb (node_width * s.nodes + node_width) (length m.nodes)) [
      | true ↦
          done s.nodes (with_nodes (s.nodes + 1) s)
          (memory
          (sets m.nodes (node_width * s.nodes) (node_words (record { kind = kind; payload = payload; first = start; end = start; next = 0; child = 0; parent = 0 })))
          m.values
          m.reports)
      | false ↦ refused Refusal.NodesDontFit s.cursor.at
    ]

-- The places of a node's words, in their order.
abbrev pub head_word : ℕ
head_word = 0

abbrev pub first_word : ℕ
first_word = 1

abbrev pub end_word : ℕ
end_word = 2

abbrev pub next_word : ℕ
next_word = 3

abbrev pub child_word : ℕ
child_word = 4

abbrev pub parent_word : ℕ
parent_word = 5

-- A word of a node, read and written. A number that no node has is not written; its words are 0.
unfoldable pub word_of : ℕ → ℕ → State → Memory → ℕ
word_of n word s m = cond (ltb n s.nodes) (get_or m.nodes (node_width * n + word) 0) 0

unfoldable pub stored : ℕ → ℕ → ℕ → State → Memory → Memory
stored n word w s m = cond (ltb n s.nodes) (memory (set m.nodes (node_width * n + word) w) m.values m.reports) m

-- `push_child`: the first child of its parent, or the next sibling of the last child. "A node gets a sixth word, its parent" (01, W3): the child's.
unfoldable pub linked : ℕ → ℕ → ℕ → State → Memory → Memory
linked parent last child s m = stored child parent_word parent s (cond (eqb last 0) (stored parent child_word child s m) (stored last next_word child s m))

-- "6 values, .. don't fit (token number)" (01, Refusals).
unfoldable pub valued : List ℕ → State → Memory → Out ℕ
valued ws s m =
    elim (leb (s.values + length ws) (length m.values)) [
      | true ↦ done s.values (with_values (s.values + length ws) s) (memory m.nodes (sets m.values s.values ws) m.reports)
      | false ↦ refused Refusal.ValuesDontFit s.cursor.at
    ]

-- At most so many turns. Any number of them above that of the tokens comes to the same, and is never used up (`Bound`).
unfoldable pub iter : {S : Type 0} → (S → State → Memory → Out (Turn S)) → ℕ → S → State → Memory → Out S
iter body zero x s m = done x s m
iter body (suc k) x s m = bind (body x s m) (λ t u n. elim t [ again y ↦ iter body k y u n | stop y ↦ done y u n ])

-- The readers one level deeper.
pub record Readers : Type 0 where
  pub expr : Mode → ℕ → State → Memory → Out (Option ℕ)
  pub block : ℕ → ℕ → State → Memory → Out ℕ

-- The text and its token words stay as they are.
module _ (text tokens : List ℕ) where
  -- The kind of the token at the cursor; where the cursor stops it is Eof.
  unfoldable pub kind_at : Cursor → ℕ
  kind_at c = cond (ltb c.at c.end) (token_kind (Source.word_at tokens c.at)) Token.Eof

  -- `advance`: the token at the cursor is passed. An error token is reported, unless the mark is at it.
  unfoldable pub passed : State → Memory → Out (Unit {0})
  passed s m =
      let t = with_cursor (advanced s.cursor) s in
      elim (lex_error (kind_at s.cursor)) [
        | None ↦ done tt t m
        | Some error ↦
            elim (is_marked s) [
              | true ↦ done tt t m
              | false ↦ reported Report.LexerError (error_number error) (Source.token_span tokens s.cursor.at) t m
            ]
      ]

  -- `skip_trivia`, past at most `left` tokens.
  unfoldable pub skipped : ℕ → State → Memory → Out (Unit {0})
  skipped zero s m = done tt s m
  skipped (suc left) s m = elim (is_trivia (kind_at s.cursor)) [ true ↦ bind (passed s m) (λ _ t n. skipped left t n) | false ↦ done tt s m ]

  abbrev pub skip_trivia : State → Memory → Out (Unit {0})
  skip_trivia s m = skipped (s.cursor.end - s.cursor.at) s m

  -- `bound` is the number of turns that a loop may take; `r` reads what is deeper.
  module _ (bound : ℕ) (r : Readers) where
    unfoldable pub eval : {A : Type 0} → Prog A → State → Memory → Out A
    eval (Give a) s m = done a s m
    eval (Then p f) s m = bind (eval p s m) (λ a t n. eval (f a) t n)
    eval (Branch b p q) s m = elim b [ true ↦ eval p s m | false ↦ eval q s m ]
    eval (Loop x body) s m = iter (λ y t n. eval (body y) t n) bound x s m
    eval peek s m = bind (skip_trivia s m) (λ _ t n. done (kind_at t.cursor) t n)
    eval pass s m = bind (skip_trivia s m) (λ _ t n. passed t n)
    eval position s m = done s.cursor.at s m
    eval here s m = done (Source.token_span tokens s.cursor.at) s m
    eval before s m = done (Source.span (Source.token_start tokens (pred s.cursor.at)) (Source.token_start tokens s.cursor.at)) s m
    eval spelling s m = done (Source.spelling text tokens s.cursor.at) s m
    eval (intern kind) s m = done (Source.first_alike text tokens kind (pred s.cursor.at)) s m
    eval marked s m = done (is_marked s) s m
    eval (emit kind detail p) s m = reported kind detail p s m
    eval (emit_and_mark kind detail p) s m = reported kind detail p (marked_here s) m
    eval (alloc start kind payload) s m = allocated start kind payload s m
    eval (close_at n end) s m = done tt s (stored n end_word end s m)
    eval (close_at_start n k) s m = done tt s (stored n end_word (word_of k first_word s m) s m)
    eval (set_kind n kind payload) s m = done tt s (stored n head_word (node_head kind payload) s m)
    eval (link parent last child) s m = done tt s (linked parent last child s m)
    eval (kind_of n) s m = done (node_kind (word_of n head_word s m)) s m
    eval (value ws) s m = valued ws s m
    eval (enter_expr mode min) s m = r.expr mode min s m
    eval (enter_block start kind) s m = r.block start kind s m

  -- The readers where `depth` levels are left: "entering the 257th is refusal 3", "The token number .. is where the cursor stands at that
  -- step; entering comes before any blank is skipped" (01, Refusals).
  module _ (bound : ℕ) (expr_program : Mode → ℕ → Prog (Option ℕ)) (block_program : ℕ → ℕ → Prog ℕ) where
    unfoldable pub tower : ℕ → Readers
    tower zero = record { expr = λ mode min s m. refused Refusal.TooDeep s.cursor.at; block = λ start kind s m. refused Refusal.TooDeep s.cursor.at }
    tower (suc depth) =
        record {
          expr = λ mode min s m. eval bound (tower depth) (expr_program mode min) s m;
          block = λ start kind s m. eval bound (tower depth) (block_program start kind) s m;
        }
