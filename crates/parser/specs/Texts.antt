-- Two texts in which tokens are spelled alike are parsed alike: the parser looks at a text through its tokens alone.
use Rattle.std.specs.Prelude.{◌≡◌, Bool, List, length}
use Rattle.std.proofs.Math.Path.{refl, ap}
use Rattle.std.proofs.Common.{◌∙◌}
use Rattle.std.proofs.Math.Bool.{true, false}
use Prim.Native.Nat.{ℕ, zero, suc, pred, ◌+◌, ◌-◌, ◌≤◌}
use Rattle.words.specs.Token.{is_trivia}
use Rattle.literals.specs.Spelling as Source
use Rattle.literals.specs.Spelling.{first_alike}
use Rattle.definition.specs.declared.State.{State}
use Rattle.definition.specs.declared.Mode.{Mode}
use Rattle.definition.specs.Prog.{Prog, Turn, again, stop, Memory, Out, done, refused, bind, Readers, kind_at, passed, skipped, iter, eval, tower}
use Rattle.definition.specs.Expressions.{try_parse_expr_min_bp}
use Rattle.definition.specs.Statements.{parse_block}
use Rattle.definition.specs.Declarations.{parse_file}
use Rattle.definition.specs.Parse.{max_depth, readers, token_limit, start, zeros, parsed_to, parsed_within, parsed}
use Rattle.definition.specs.Parse.{Parsed as Definition}
use Rattle.reading.specs.Source.{table_start, Right, plain-right}
use Rattle.interner.specs.Table.{Annotates}

-- What comes to the same, wherever it starts.
abbrev Same : {A : Type 0} → (State → Memory → Out A) → (State → Memory → Out A) → Type 0
Same f g = (s : State) (m : Memory) → f s m ≡ g s m

bind-same : {A B : Type 0} (x : Out A) (f g : A → State → Memory → Out B) → ((a : A) → Same (f a) (g a)) → bind x f ≡ bind x g
bind-same (done a s m) f g e = e a s m
bind-same (refused number place) f g e = refl

module _ {S : Type 0} (f g : S → State → Memory → Out (Turn S)) (e : (x : S) → Same (f x) (g x)) where
  -- What follows a turn.
  abbrev after : (S → State → Memory → Out S) → Turn S → State → Memory → Out S
  after k t u n = elim t [ again y ↦ k y u n | stop y ↦ done y u n ]

  after_same : (k l : S → State → Memory → Out S) → ((x : S) → Same (k x) (l x)) → (t : Turn S) → Same (after k t) (after l t)
  after_same k l h (again y) u n = h y u n
  after_same k l h (stop y) u n = refl

  iter-same : (k : ℕ) (x : S) → Same (iter f k x) (iter g k x)
  unfolding iter
  iter-same zero x s m = refl
  iter-same (suc k) x s m = ap (λ (o : Out (Turn S)). bind o (after (iter f k))) (e x s m) ∙ bind-same (g x s m) (after (iter f k)) (after (iter g k)) (after_same (iter f k) (iter g k) (iter-same k))

module _ (a b tokens : List ℕ) where
  skipped-same : (left : ℕ) → Same (skipped a tokens left) (skipped b tokens left)
  unfolding skipped passed kind_at
  skipped-same zero s m = refl
  skipped-same (suc left) s m = go (is_trivia (kind_at a tokens s.cursor)) refl (skipped-same left)
    where
      go : (t : Bool) → is_trivia (kind_at a tokens s.cursor) ≡ t → Same (skipped a tokens left) (skipped b tokens left) → skipped a tokens (suc left) s m ≡ skipped b tokens (suc left) s m
      go true e ih = rw (e, skipped) (bind-same (passed b tokens s m) (λ _ t n. skipped a tokens left t n) (λ _ t n. skipped b tokens left t n) (λ _. ih))
      go false e ih = rw (e, skipped)

  module _ (spells : (i : ℕ) → Source.spelling a tokens i ≡ Source.spelling b tokens i) (firsts : (kind i : ℕ) → first_alike a tokens kind i ≡ first_alike b tokens kind i) (bound : ℕ) where
    -- Readers that come to the same.
    abbrev Alike : Readers → Readers → Type 0
    Alike q r = ((mode : Mode) (min : ℕ) → Same (q.expr mode min) (r.expr mode min)) × ((start kind : ℕ) → Same (q.block start kind) (r.block start kind))

    module _ (q r : Readers) (deeper : Alike q r) where
      eval-same : {A : Type 0} (p : Prog A) → Same (eval a tokens bound q p) (eval b tokens bound r p)
      unfolding eval kind_at passed
      eval-same (Prog.Give x) s m = refl
      eval-same (Prog.Then p f) s m =
          ap (λ o. bind o (λ x t n. eval a tokens bound q (f x) t n)) (eval-same p s m)
          ∙ bind-same (eval b tokens bound r p s m) (λ x t n. eval a tokens bound q (f x) t n) (λ x t n. eval b tokens bound r (f x) t n) (λ x t n. eval-same (f x) t n)
      eval-same (Prog.Branch true p p') s m = eval-same p s m
      eval-same (Prog.Branch false p p') s m = eval-same p' s m
      eval-same (Prog.Loop x body) s m = iter-same (λ y t n. eval a tokens bound q (body y) t n) (λ y t n. eval b tokens bound r (body y) t n) (λ y t n. eval-same (body y) t n) bound x s m
      eval-same Prog.peek s m = ap (λ o. bind o (λ _ t n. done (kind_at b tokens t.cursor) t n)) (skipped-same (s.cursor.end - s.cursor.at) s m)
      eval-same Prog.pass s m = ap (λ o. bind o (λ _ t n. passed b tokens t n)) (skipped-same (s.cursor.end - s.cursor.at) s m)
      eval-same Prog.position s m = refl
      eval-same Prog.here s m = refl
      eval-same Prog.before s m = refl
      eval-same Prog.spelling s m = rw (spells s.cursor.at)
      eval-same (Prog.intern kind) s m = rw (firsts kind (pred s.cursor.at))
      eval-same Prog.marked s m = refl
      eval-same (Prog.emit kind detail p) s m = refl
      eval-same (Prog.emit_and_mark kind detail p) s m = refl
      eval-same (Prog.alloc first kind payload) s m = refl
      eval-same (Prog.close_at n end) s m = refl
      eval-same (Prog.close_at_start n k) s m = refl
      eval-same (Prog.set_kind n kind payload) s m = refl
      eval-same (Prog.link parent last child) s m = refl
      eval-same (Prog.kind_of n) s m = refl
      eval-same (Prog.value ws) s m = refl
      eval-same (Prog.enter_expr mode min) s m = deeper.0 mode min s m
      eval-same (Prog.enter_block first kind) s m = deeper.1 first kind s m

    readers-same : (depth : ℕ) → Alike (readers a tokens bound depth) (readers b tokens bound depth)
    unfolding tower
    readers-same zero = (λ mode min s m. refl, λ first kind s m. refl)
    readers-same (suc depth) =
        let ih = readers-same depth in
        (λ mode min. eval-same (readers a tokens bound depth) (readers b tokens bound depth) ih (try_parse_expr_min_bp mode min), λ first kind. eval-same (readers a tokens bound depth) (readers b tokens bound depth) ih (parse_block first kind))

  module _ (spells : (i : ℕ) → Source.spelling a tokens i ≡ Source.spelling b tokens i) (firsts : (kind i : ℕ) → first_alike a tokens kind i ≡ first_alike b tokens kind i) where
    pub parsed-same : (nodes values reports : ℕ) → parsed a tokens nodes values reports ≡ parsed b tokens nodes values reports
    unfolding parsed parsed_within
    parsed-same nodes values reports =
        let bound = token_limit tokens + 1 in
        ap (parsed_to (zeros nodes values reports))
        (eval-same spells firsts bound (readers a tokens bound max_depth) (readers b tokens bound max_depth) (readers-same spells firsts bound max_depth) parse_file (start tokens) (zeros nodes values reports))

-- What is parsed of a source that stands for a text, and of a text that no table stands behind.
module _ (text tokens : List ℕ) (n v w : ℕ) {p : Definition} where
  pub source-parsed : (source : List ℕ) → Annotates source text tokens → (Right source tokens → p ≡ parsed source tokens n v w) → p ≡ parsed text tokens n v w
  source-parsed source a e = e a.right ∙ parsed-same source text tokens a.spells a.firsts n v w

  pub text-parsed : length text ≤ table_start → (Right text tokens → p ≡ parsed text tokens n v w) → p ≡ parsed text tokens n v w
  text-parsed h e = e (plain-right text tokens h)
