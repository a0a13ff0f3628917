-- The abstract run: the same programs on the row of tokens without trivia and a store of nodes, with no words, limits or recovery.
-- A report ends it; so does depth. `Simulates` says how it stands to the run of `Prog`.
use Rattle.std.specs.Prelude.{Bool, true, false, cond, ◌&&◌, List, [], ◌∷◌, ◌++◌, ℕ, zero, suc, ◌+◌, pred, eqb, ltb, length, get_or, set}
use Rattle.std.proofs.Math.Option.{Option}
use Rattle.words.specs.Token
use Rattle.words.specs.Token.{is_trivia, lex_error, LexError}
use Rattle.std.specs.Prelude.{Some, None}
use Rattle.words.specs.Words.{token_kind, node_kind, node_head}
use Rattle.literals.specs.Spelling as Source
use Rattle.definition.specs.declared.Mode.{Mode}
use Rattle.definition.specs.Prog.{Turn, again, stop, Prog, Give, Then, Branch, Loop, peek, pass, position, here, before, spelling, intern, marked, emit, emit_and_mark, alloc, close_at, close_at_start, set_kind, link, kind_of, value, enter_expr, enter_block, head_word, first_word, end_word}
use Rattle.definition.specs.Expressions.{try_parse_expr_min_bp}
use Rattle.definition.specs.Statements.{parse_block}
use Rattle.definition.specs.Declarations.{parse_file}
use Rattle.definition.specs.Parse.{max_depth, token_limit}

-- A token of the row, with its number and kind: one that is read; an error token, which makes a report where it is passed; and one among
-- trivia, which makes it where it is skipped.
pub data Seen : Type 0 where
  good bad : ℕ → ℕ → Seen
  stray : Seen

abbrev pub seen : Bool → LexError → ℕ → ℕ → List Seen → List Seen
seen true None i k row = row
seen true (Some error) i k row = stray ∷ row
seen false None i k row = good i k ∷ row
seen false (Some error) i k row = bad i k ∷ row

-- The row of `left` tokens from number `i` on.
unfoldable pub row_from : List ℕ → ℕ → ℕ → List Seen
row_from tokens i zero = []
row_from tokens i (suc left) =
    let k = token_kind (Source.word_at tokens i) in
    seen (is_trivia k) (lex_error k) i k (row_from tokens (suc i) left)

-- From one row to what is left of it: only tokens that are read were passed.
pub data Passed : List Seen → List Seen → Type 0 where
  none_passed : {row : List Seen} → Passed row row
  one-passed : {i k : ℕ} {row left : List Seen} → Passed row left → Passed (good i k ∷ row) left

-- A node: its first three words, its children, the last one first, and one more than its parent's number (0: none).
pub record Node : Type 0 where
  pub head : ℕ
  pub first : ℕ
  pub end : ℕ
  pub kids : List ℕ
  pub own : ℕ

abbrev pub no_node : Node
no_node = record { head = 0; first = 0; end = 0; kids = []; own = 0 }

abbrev pub node_at : List Node → ℕ → Node
node_at st i = get_or st i no_node

-- Its words by their places, read and written.
abbrev pub word : ℕ → Node → ℕ
word zero n = n.head
word (suc zero) n = n.first
word (suc (suc j)) n = n.end

abbrev pub with_word : ℕ → ℕ → Node → Node
with_word zero v n = record { head = v; first = n.first; end = n.end; kids = n.kids; own = n.own }
with_word (suc zero) v n = record { head = n.head; first = v; end = n.end; kids = n.kids; own = n.own }
with_word (suc (suc j)) v n = record { head = n.head; first = n.first; end = v; kids = n.kids; own = n.own }

abbrev pub with_kid : ℕ → Node → Node
with_kid child n = record { head = n.head; first = n.first; end = n.end; kids = child ∷ n.kids; own = n.own }

abbrev pub with_own : ℕ → Node → Node
with_own own n = record { head = n.head; first = n.first; end = n.end; kids = n.kids; own = own }

abbrev pub new_node : ℕ → ℕ → ℕ → Node
new_node start kind payload = record { head = node_head kind payload; first = start; end = start; kids = []; own = 0 }

unfoldable pub written : ℕ → ℕ → ℕ → List Node → List Node
written n j v st = set st n (with_word j v (node_at st n))

unfoldable pub adopted : ℕ → ℕ → List Node → List Node
adopted parent child st = let mid = set st parent (with_kid child (node_at st parent)) in set mid child (with_own (suc parent) (node_at mid child))

abbrev pub last_kid : List ℕ → ℕ
last_kid [] = 0
last_kid (x ∷ xs) = x

-- A child may be linked: both are nodes, it has no parent yet, `last` is the parent's last child, and the child was made after that.
unfoldable pub may_adopt : ℕ → ℕ → ℕ → List Node → Bool
may_adopt parent last child st =
    ltb parent (length st)
    && (ltb child (length st)
    && (eqb (node_at st child).own 0
    && (eqb last (last_kid (node_at st parent).kids)
    && ltb last child)))

-- Where the cursor stands, what is left of the row, the nodes and values so far. `sane`: each link so far was sound, so that the store is a
-- forest; nothing but the shape of the store depends on it.
pub record World : Type 0 where
  pub at : ℕ
  pub row : List Seen
  pub store : List Node
  pub values : List ℕ
  pub sane : Bool

-- What a program comes to: an answer, a report, or a reading too deep.
pub data Fate (A : Type 0) : Type 0 where
  ok : A → World → Fate A
  fail : Fate A
  deep : World → Fate A

abbrev pub bind_a : {A B : Type 0} → Fate A → (A → World → Fate B) → Fate B
bind_a (ok a w) k = k a w
bind_a fail k = fail
bind_a (deep w) k = deep w

abbrev pub move_to : ℕ → List Seen → World → World
move_to i row w = record { at = i; row = row; store = w.store; values = w.values; sane = w.sane }

abbrev pub with_store : List Node → World → World
with_store st w = record { at = w.at; row = w.row; store = st; values = w.values; sane = w.sane }

abbrev pub with_link : ℕ → ℕ → ℕ → World → World
with_link parent last child w =
    record {
      at = w.at;
      row = w.row;
      store = adopted parent child w.store;
      values = w.values;
      sane = w.sane && may_adopt parent last child w.store;
    }

abbrev pub with_value : List ℕ → World → World
with_value ws w = record { at = w.at; row = w.row; store = w.store; values = w.values ++ ws; sane = w.sane }

-- A word of a node that there is.
abbrev pub word_in : ℕ → ℕ → List Node → ℕ
word_in n j st = cond (ltb n (length st)) (word j (node_at st n)) 0

unfoldable pub kind_a : List Seen → ℕ
kind_a [] = Token.Eof
kind_a (good i k ∷ row) = k
kind_a (bad i k ∷ row) = k
kind_a (stray ∷ row) = Token.Eof

unfoldable pub pass_a : List Seen → World → Fate (Unit {0})
pass_a [] w = ok tt w
pass_a (good i k ∷ row) w = ok tt (move_to (suc i) row w)
pass_a (bad i k ∷ row) w = fail
pass_a (stray ∷ row) w = fail

-- Trivia is gone from the row: the cursor stands at its first token, or where it stops.
unfoldable pub skip_a : ℕ → List Seen → World → Fate (Unit {0})
skip_a end [] w = ok tt (move_to end [] w)
skip_a end (good i k ∷ row) w = ok tt (move_to i (good i k ∷ row) w)
skip_a end (bad i k ∷ row) w = ok tt (move_to i (bad i k ∷ row) w)
skip_a end (stray ∷ row) w = fail

unfoldable pub iter_a : {S : Type 0} → (S → World → Fate (Turn S)) → ℕ → S → World → Fate S
iter_a body zero x w = ok x w
iter_a body (suc k) x w = bind_a (body x w) (λ t u. elim t [ again y ↦ iter_a body k y u | stop y ↦ ok y u ])

pub record ReadersA : Type 0 where
  pub expr : Mode → ℕ → World → Fate (Option ℕ)
  pub block : ℕ → ℕ → World → Fate ℕ

module _ (text tokens : List ℕ) (end : ℕ) where
  module _ (bound : ℕ) (r : ReadersA) where
    unfoldable pub eval_a : {A : Type 0} → Prog A → World → Fate A
    eval_a (Give a) w = ok a w
    eval_a (Then p f) w = bind_a (eval_a p w) (λ a u. eval_a (f a) u)
    eval_a (Branch b p q) w = elim b [ true ↦ eval_a p w | false ↦ eval_a q w ]
    eval_a (Loop x body) w = iter_a (λ y u. eval_a (body y) u) bound x w
    eval_a peek w = bind_a (skip_a end w.row w) (λ _ u. ok (kind_a u.row) u)
    eval_a pass w = bind_a (skip_a end w.row w) (λ _ u. pass_a u.row u)
    eval_a position w = ok w.at w
    eval_a here w = ok (Source.token_span tokens w.at) w
    eval_a before w = ok (Source.span (Source.token_start tokens (pred w.at)) (Source.token_start tokens w.at)) w
    eval_a spelling w = ok (Source.spelling text tokens w.at) w
    eval_a (intern kind) w = ok (Source.first_alike text tokens kind (pred w.at)) w
    eval_a marked w = ok false w
    eval_a (emit kind detail p) w = fail
    eval_a (emit_and_mark kind detail p) w = fail
    eval_a (alloc start kind payload) w = ok (length w.store) (with_store (w.store ++ (new_node start kind payload ∷ [])) w)
    eval_a (close_at n e) w = ok tt (with_store (written n end_word e w.store) w)
    eval_a (close_at_start n k) w = ok tt (with_store (written n end_word (word_in k first_word w.store) w.store) w)
    eval_a (set_kind n kind payload) w = ok tt (with_store (written n head_word (node_head kind payload) w.store) w)
    eval_a (link parent last child) w = ok tt (with_link parent last child w)
    eval_a (kind_of n) w = ok (node_kind (word_in n head_word w.store)) w
    eval_a (value ws) w = ok (length w.values) (with_value ws w)
    eval_a (enter_expr mode min) w = r.expr mode min w
    eval_a (enter_block start kind) w = r.block start kind w

  module _ (bound : ℕ) (expr_program : Mode → ℕ → Prog (Option ℕ)) (block_program : ℕ → ℕ → Prog ℕ) where
    unfoldable pub tower_a : ℕ → ReadersA
    tower_a zero = record { expr = λ mode min w. deep w; block = λ start kind w. deep w }
    tower_a (suc depth) =
        record {
          expr = λ mode min w. eval_a bound (tower_a depth) (expr_program mode min) w;
          block = λ start kind w. eval_a bound (tower_a depth) (block_program start kind) w;
        }

-- The file, from the first token on.
abbrev pub start_a : List ℕ → World
start_a tokens = record { at = 0; row = row_from tokens 0 (token_limit tokens); store = []; values = []; sane = true }

unfoldable pub parsed_a : List ℕ → List ℕ → Fate ℕ
parsed_a text tokens =
    eval_a text tokens (token_limit tokens) (token_limit tokens + 1) (tower_a text tokens (token_limit tokens) (token_limit tokens + 1) try_parse_expr_min_bp parse_block max_depth) parse_file (start_a tokens)
