-- Lists between brackets.
use Rattle.std.specs.Prelude.{◌≡◌, List, ◌∷◌, eqb, length}
use Rattle.std.proofs.Math.Path.{refl}
use Rattle.std.proofs.Math.Bool.{true, false}
use Rattle.std.proofs.Math.Option.{Option}
use Prim.Native.Nat.{ℕ, zero, suc, ◌<◌, ◌≤◌}
use Rattle.std.proofs.Common.{arith}
use Rattle.words.specs.Token
use Rattle.definition.specs.declared.Mode.TheVariants.{AllowAll}
use Rattle.definition.specs.declared.Unfinished.{Unfinished}
use Rattle.definition.specs.Prog.{Prog, Then, Give, Loop}
use Rattle.definition.specs.Tokens.{Delimited, delimited, delimited_turn, parse_delimited, expect}
use Rattle.definition.specs.Expressions.{expr_element}
use Rattle.definition.specs.Abstract.{World, Fate, ok, move_to}
use Rattle.chart.specs.Row.{Lexeme, RowToken, token}
use Rattle.chart.specs.Tree.{Tree, Trees, none, ◌▸◌, ◌⊕◌}
use Rattle.chart.specs.Parser.{Outcome, on, bind, failed, read_list}
use Rattle.chart.specs.Parser as Chart
use Rattle.tree.specs.Grown.{⊕-assoc, ⊕-none}
use Rattle.agreement.specs.Run.{run, turns}
use Rattle.agreement.specs.Sim.{Sim, gives, Made, made, mapped, call, Setting, runs, Fits, eat-rule, check-rule, eof-either, expect-rule, expect-hit, expect-miss, unexpected-rule}
use Rattle.agreement.specs.Steps.{Open, Agrees, push-rule, try-rule}

module _ (s : Setting) (a : Agrees s) where
  -- A list so far, with trees `ts`, that has `us` more.
  pub record Longer (w : World) (h : ℕ) (ts : Trees) (xs : List RowToken) (y : Unfinished) (u : World) (us : Trees) (ys : List RowToken) : Type 0 where
    pub opened : Open s w u y h 0 (ts ⊕ us)
    pub fit : Fits s u ys
    pub shorter : length ys < length xs

  -- One element came before them.
  pub longer : {w u : World} {h : ℕ} {ts us : Trees} {xs ys zs : List RowToken} {y : Unfinished} (t : Tree) → length ys ≤ length xs → Longer w h (ts ⊕ (t ▸ none)) ys y u us zs → Longer w h ts xs y u (t ▸ us) zs
  unfolding ◌⊕◌
  longer {ts = ts} {us = us} t l r = record { opened = rw (⊕-assoc ts (t ▸ none) us) at r.opened; fit = r.fit; shorter = omega (arith, r.shorter) }

  -- The loop of `parse_delimited` and the closing token after it.
  abbrev delimiting : ℕ → (Unfinished → Prog (Option Unfinished)) → Delimited Unfinished → Prog Unfinished
  delimiting K element d = Then (Loop d (delimited_turn K Token.Comma element)) (λ e. Then (expect K) (λ _. Give e.list))

  -- What a list of the chart does after an element: a comma and the rest, or the closing token.
  abbrev pub onward : ℕ → (ℕ → List RowToken → Outcome) → ℕ → Tree → List RowToken → Outcome
  onward K rest m t ys = on Token.Comma ys (λ _ zs. bind (rest m zs) (λ us ws. Chart.ok (t ▸ us) ws)) (on K ys (λ _ zs. Chart.ok (t ▸ none) zs) failed)

  -- A list, by how its first element is read, if there is one.
  abbrev pub Elements : ℕ → (Unfinished → Prog (Option Unfinished)) → (ℕ → List RowToken → Outcome) → Type 0
  Elements K element rest =
      (m : ℕ) (w u : World) (x : Unfinished) (h : ℕ) (ts : Trees) (xs : List RowToken) (k : Option Unfinished → World → Fate Unfinished) → Open s w u x h 0 ts → Fits s u xs
      → ((y : Unfinished) (z : World) (t : Tree) (ys : List RowToken) → Open s w z y h 0 (ts ⊕ (t ▸ none)) → Fits s z ys → length ys < length xs → Sim (Made (Longer w h ts xs)) (k (Option.some y) z) (onward K rest m t ys))
      → ((i : ℕ) → Sim (Made (Longer w h ts xs)) (k Option.none (move_to i u.row u)) (on K xs (λ _ ys. Chart.ok none ys) failed))
      → Sim (Made (Longer w h ts xs)) (runs s (element x) u k) (rest (suc m) xs)

  module _ (K : ℕ) (e : eqb Token.Eof K ≡ false) (element : Unfinished → Prog (Option Unfinished)) (rest : ℕ → List RowToken → Outcome) (elements : Elements K element rest) where
    list-turns : (n m : ℕ) (w u : World) (x : Unfinished) (h : ℕ) (ts : Trees) (xs : List RowToken) → length xs < n → length xs < m → Open s w u x h 0 ts → Fits s u xs
        → Sim (Made (Longer w h ts xs)) (turns (λ y v j. runs s (delimited_turn K Token.Comma element y) v j) n (delimited x false) u (λ d v. runs s (expect K) v (λ _ z. ok d.list z))) (rest m xs)
    unfolding run turns delimited_turn
    list-turns zero m w u x h ts xs l l₁ o f = absurd (omega arith)
    list-turns (suc n) zero w u x h ts xs l l₁ o f = absurd (omega arith)
    list-turns (suc n) (suc m) w u x h ts xs l l₁ o f =
        elements m w u x h ts xs _ o f (λ y z t ys o₁ f₁ l₂.
        eat-rule s z _ _ refl f₁
        (λ j row zs q. mapped (λ us. t ▸ us) (list-turns n m w (move_to (suc j) row z) y h (ts ⊕ (t ▸ none)) zs (omega (arith, q.shorter)) (omega (arith, q.shorter)) o₁ q.fit) (λ b v us ws r. longer t (omega (arith, q.shorter)) r))
        (λ _ i. expect-rule s (move_to i z.row z) _ _ e f₁ (λ j row zs q. gives (made (record { opened = o₁; fit = q.fit; shorter = omega (arith, q.shorter) })))))
        (λ i. check-rule s (move_to i u.row u) _ _ e f
        (λ j ys q. eof-either s (move_to j u.row u) _ f (λ b i₁. expect-hit s (move_to i₁ u.row u) _ f q (λ j₁ row t. gives (made (record { opened = rw (⊕-none ts) o; fit = t.fit; shorter = t.shorter })))))
        (λ q j. eof-either s (move_to j u.row u) _ f (elim [
          | true ↦ λ i₁. expect-miss s (move_to i₁ u.row u) _ K e f q
          | false ↦ λ i₁. unexpected-rule s (move_to i₁ u.row u) _ f
        ])))

    -- `parse_delimited`, its opening token ahead.
    pub list-rule : {B : Type 0} {P : B → World → Outcome → Type 0} (w u : World) (k : Unfinished → World → Fate B) (c : Trees → List RowToken → Outcome) (opener : ℕ) (x : Unfinished) {h : ℕ} {ts : Trees} {v : Lexeme} {xs ys : List RowToken}
        → Open s w u x h 0 ts → Fits s u xs → xs ≡ token opener v ∷ ys
        → ((y : Unfinished) (z : World) (us : Trees) (zs : List RowToken) → Open s w z y h 0 (ts ⊕ us) → Fits s z zs → length zs < length xs → Sim P (k y z) (c us zs))
        → Sim P (runs s (parse_delimited opener K Token.Comma element x) u k) (bind (rest (suc (length ys)) ys) c)
    unfolding run parse_delimited
    list-rule w u k c opener x {h} {ts} {ys = ys} o f q g =
        expect-hit s u _ f q (λ j row t.
        call s (delimiting K element (delimited x false)) (move_to (suc j) row u) k c
        (list-turns s.bound (suc (length ys)) w (move_to (suc j) row u) x h ts ys t.fit.few (omega arith) o t.fit)
        (λ y z us zs r. g y z us zs r.opened r.fit (omega (arith, t.shorter, r.shorter))))

    -- The same, where the opening token has to be there.
    pub list-expect : {B : Type 0} {P : B → World → Outcome → Type 0} (w u : World) (k : Unfinished → World → Fate B) (c : Trees → List RowToken → Outcome) (opener : ℕ) (x : Unfinished) {h : ℕ} {ts : Trees} {xs : List RowToken}
        → eqb Token.Eof opener ≡ false → Open s w u x h 0 ts → Fits s u xs
        → ((y : Unfinished) (z : World) (us : Trees) (zs : List RowToken) → Open s w z y h 0 (ts ⊕ us) → Fits s z zs → length zs < length xs → Sim P (k y z) (c us zs))
        → Sim P (runs s (parse_delimited opener K Token.Comma element x) u k) (on opener xs (λ _ ys. bind (rest (suc (length ys)) ys) c) failed)
    unfolding run parse_delimited
    list-expect w u k c opener x {h} {ts} n o f g =
        expect-rule s u _ _ n f (λ j row ys t.
        call s (delimiting K element (delimited x false)) (move_to (suc j) row u) k c
        (list-turns s.bound (suc (length ys)) w (move_to (suc j) row u) x h ts ys t.fit.few (omega arith) o t.fit)
        (λ y z us zs r. g y z us zs r.opened r.fit (omega (arith, t.shorter, r.shorter))))

  -- Expressions.
  pub expressions : (K : ℕ) → Elements K expr_element (read_list K s.rows)
  unfolding run expr_element read_list ◌⊕◌
  expressions K m w u x h ts xs k o f g z =
      try-rule s a u _ _ _ AllowAll f (λ c v t ys d f₁ l. push-rule s w u v _ x c o d f₁ (λ y v₁ o₁ f₂. g y v₁ t ys o₁ f₂ l)) z
