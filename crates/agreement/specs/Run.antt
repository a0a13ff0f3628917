-- The abstract run (`Abstract`, crate definition) again, its continuation handed along: so a program that is a row of steps is run step by
-- step, by computation alone.
use Rattle.std.specs.Prelude.{◌≡◌, List, [], ◌∷◌, ◌++◌, length}
use Rattle.std.proofs.Math.Path.{refl, sym}
use Rattle.std.proofs.Common.{◌∙◌, ap}
use Rattle.std.proofs.Math.Bool.{true, false}
use Prim.Native.Nat.{ℕ, zero, suc, pred}
use Rattle.words.specs.Words.{node_kind, node_head}
use Rattle.literals.specs.Spelling as Source
use Rattle.definition.specs.Prog.{Turn, again, stop, Prog, Give, Then, Branch, Loop, peek, pass, position, here, before, spelling, intern, marked, emit, emit_and_mark, alloc, close_at, close_at_start, set_kind, link, kind_of, value, enter_expr, enter_block, head_word, first_word, end_word}
use Rattle.definition.specs.Abstract.{new_node, written, World, Fate, ok, fail, deep, bind_a, with_store, with_link, with_value, word_in, kind_a, pass_a, skip_a, iter_a, ReadersA, eval_a}

module _ {B : Type 0} where
  -- Turns of a loop, at most so many.
  unfoldable pub turns : {S : Type 0} → (S → World → (Turn S → World → Fate B) → Fate B) → ℕ → S → World → (S → World → Fate B) → Fate B
  turns body zero x w k = k x w
  turns body (suc n) x w k = body x w (λ t u. elim t [ again y ↦ turns body n y u k | stop y ↦ k y u ])

  module _ (text tokens : List ℕ) (end bound : ℕ) (r : ReadersA) where
    unfoldable pub run : {A : Type 0} → Prog A → World → (A → World → Fate B) → Fate B
    run (Give a) w k = k a w
    run (Then p f) w k = run p w (λ a u. run (f a) u k)
    run (Branch b p q) w k = elim b [ true ↦ run p w k | false ↦ run q w k ]
    run (Loop x body) w k = turns (λ y u j. run (body y) u j) bound x w k
    run peek w k = bind_a (skip_a end w.row w) (λ _ u. k (kind_a u.row) u)
    run pass w k = bind_a (skip_a end w.row w) (λ _ u. bind_a (pass_a u.row u) k)
    run position w k = k w.at w
    run here w k = k (Source.token_span tokens w.at) w
    run before w k = k (Source.span (Source.token_start tokens (pred w.at)) (Source.token_start tokens w.at)) w
    run spelling w k = k (Source.spelling text tokens w.at) w
    run (intern kind) w k = k (Source.first_alike text tokens kind (pred w.at)) w
    run marked w k = k false w
    run (emit kind detail p) w k = fail
    run (emit_and_mark kind detail p) w k = fail
    run (alloc start kind payload) w k = k (length w.store) (with_store (w.store ++ (new_node start kind payload ∷ [])) w)
    run (close_at n e) w k = k tt (with_store (written n end_word e w.store) w)
    run (close_at_start n m) w k = k tt (with_store (written n end_word (word_in m first_word w.store) w.store) w)
    run (set_kind n kind payload) w k = k tt (with_store (written n head_word (node_head kind payload) w.store) w)
    run (link parent last child) w k = k tt (with_link parent last child w)
    run (kind_of n) w k = k (node_kind (word_in n head_word w.store)) w
    run (value ws) w k = k (length w.values) (with_value ws w)
    run (enter_expr mode min) w k = bind_a (r.expr mode min w) k
    run (enter_block start kind) w k = bind_a (r.block start kind w) k

    bind_assoc : {A C : Type 0} (f : Fate A) (g : A → World → Fate C) (k : C → World → Fate B) → bind_a (bind_a f g) k ≡ bind_a f (λ a u. bind_a (g a u) k)
    bind_assoc (ok a u) g k = refl
    bind_assoc fail g k = refl
    bind_assoc (deep u) g k = refl

    bind-same : {A : Type 0} (f : Fate A) (k j : A → World → Fate B) → ((a : A) (u : World) → k a u ≡ j a u) → bind_a f k ≡ bind_a f j
    bind-same (ok a u) k j h = h a u
    bind-same fail k j h = refl
    bind-same (deep u) k j h = refl

    pub turns-are : {S : Type 0} (body : S → World → (Turn S → World → Fate B) → Fate B) (f : S → World → Fate (Turn S)) (k : S → World → Fate B)
        → ((y : S) (u : World) (j : Turn S → World → Fate B) → body y u j ≡ bind_a (f y u) j) → (n : ℕ) (x : S) (w : World) → turns body n x w k ≡ bind_a (iter_a f n x w) k
    unfolding turns iter_a
    turns-are body f k h zero x w = refl
    turns-are body f k h (suc n) x w =
        h x w _ ∙ (bind-same (f x w) _ _ (elim [ again y ↦ λ u. turns-are body f k h n y u | stop y ↦ λ u. refl ]) ∙ sym (bind_assoc (f x w) _ k))

    -- It comes to the same.
    pub run_is : {A : Type 0} (p : Prog A) (w : World) (k : A → World → Fate B) → run p w k ≡ bind_a (eval_a text tokens end bound r p w) k
    unfolding run eval_a
    run_is (Give a) w k = refl
    run_is (Then p f) w k = run_is p w _ ∙ (bind-same (eval_a text tokens end bound r p w) _ _ (λ a u. run_is (f a) u k) ∙ sym (bind_assoc (eval_a text tokens end bound r p w) _ k))
    run_is (Branch true p q) w k = run_is p w k
    run_is (Branch false p q) w k = run_is q w k
    run_is (Loop x body) w k = turns-are _ (λ y u. eval_a text tokens end bound r (body y) u) k (λ y u j. run_is (body y) u j) bound x w
    run_is peek w k = sym (bind_assoc (skip_a end w.row w) _ k)
    run_is pass w k = sym (bind_assoc (skip_a end w.row w) _ k)
    run_is position w k = refl
    run_is here w k = refl
    run_is before w k = refl
    run_is spelling w k = refl
    run_is (intern kind) w k = refl
    run_is marked w k = refl
    run_is (emit kind detail p) w k = refl
    run_is (emit_and_mark kind detail p) w k = refl
    run_is (alloc start kind payload) w k = refl
    run_is (close_at n e) w k = refl
    run_is (close_at_start n m) w k = refl
    run_is (set_kind n kind payload) w k = refl
    run_is (link parent last child) w k = refl
    run_is (kind_of n) w k = refl
    run_is (value ws) w k = refl
    run_is (enter_expr mode min) w k = refl
    run_is (enter_block start kind) w k = refl

bind_ok : {A : Type 0} (f : Fate A) → bind_a f ok ≡ f
bind_ok (ok a u) = refl
bind_ok fail = refl
bind_ok (deep u) = refl

pub run_ok : (text tokens : List ℕ) (end bound : ℕ) (r : ReadersA) {A : Type 0} (p : Prog A) (w : World) → run text tokens end bound r p w ok ≡ eval_a text tokens end bound r p w
run_ok text tokens end bound r p w = run_is text tokens end bound r p w ok ∙ bind_ok _

-- Turns and what comes after them.
pub turns_then : (text tokens : List ℕ) (end bound : ℕ) (r : ReadersA) {S B : Type 0} (body : S → Prog (Turn S)) (n : ℕ) (x : S) (w : World) (k : S → World → Fate B)
    → turns (λ y u j. run text tokens end bound r (body y) u j) n x w k ≡ bind_a (turns (λ y u j. run text tokens end bound r (body y) u j) n x w ok) k
turns_then text tokens end bound r {S} {B} body n x w k =
    let f : S → World → Fate (Turn S) = λ y u. eval_a text tokens end bound r (body y) u in
    turns-are text tokens end bound r _ f k (λ y u j. run_is text tokens end bound r (body y) u j) n x w
    ∙ ap (λ (g : Fate S). bind_a g k) (sym (turns-are text tokens end bound r _ f ok (λ y u j. run_is text tokens end bound r (body y) u j) n x w ∙ bind_ok (iter_a f n x w)))
