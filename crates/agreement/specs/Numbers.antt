-- Number literals.
use Rattle.std.specs.Prelude.{◌≡◌, Bool, true, false, cond, List, ◌∷◌, ◌++◌, eqb, drop}
use Rattle.std.proofs.Math.Path.{refl}
use Rattle.std.proofs.Math.Option.{Option}
use Prim.Native.Nat.{ℕ, suc, ◌+◌, ◌<◌, ◌≤◌, ◌^◌}
use Rattle.std.proofs.Common.{arith, lit<, length-append}
use Rattle.std.proofs.Math.ListN.{length}
use Rattle.words.specs.Token
use Rattle.words.specs.Node
use Rattle.words.specs.Words.{node_kind, node_payload, node_head}
use Rattle.literals.specs.Numbers.{digits, number_value, limbs}
use Rattle.definition.specs.Prog.{Then, Give, pass, spelling, value}
use Rattle.definition.specs.Nodes.{Radix, radix_of, try_parse_num_literal, alloc_last_token_as_node}
use Rattle.definition.specs.Expressions.{num_literal}
use Rattle.definition.specs.Abstract.{Node, World, Fate, move_to, with_value}
use Rattle.chart.specs.Row.{RowToken, token}
use Rattle.chart.specs.Tree.{number, Tree, node, none, ◌▸◌, numeral}
use Rattle.chart.specs.Parser.{Outcome, if, on}
use Rattle.chart.specs.Parser as Chart
use Rattle.tree.specs.Stored.{said, is_name}
use Rattle.tree.specs.Grown.{Built}
use Rattle.tree.proofs.Values.{says-more, number_read}
use Rattle.agreement.specs.Run.{run}
use Rattle.agreement.specs.Sim.{Sim, Setting, runs, lexeme_of, Fits, cost, peek-rule, pass-rule}
use Rattle.agreement.specs.Literals.{head-parts, number-few}
use Rattle.agreement.specs.Steps.{Done}
use Rattle.agreement.specs.Leaves.{last-rule}

-- What was built after a value was added was built before, too.
pub built-before : (text tokens : List ℕ) {st cur : List Node} {more : List ℕ} (values ws : List ℕ) {n : ℕ} {t : Tree} → Built text tokens st (values ++ ws) cur more n t → Built text tokens st values cur more n t
built-before text tokens values ws b =
    record { old = b.old; says = λ k p v x. b.says k p v (says-more text tokens values ws k p v x); low = b.low; high = b.high; root = b.root; tree = b.tree; size_is = b.size_is }

-- What the node of a number says, its value just made.
number-said : (text tokens values : List ℕ) (n : ℕ) → length values < 2 ^ 26 → length (limbs n) < 2 ^ 30
    → (node_kind (node_head Node.NumLiteral (length values)) ≡ Node.NumLiteral) × (said text tokens (values ++ number_value n) (node_kind (node_head Node.NumLiteral (length values))) (node_payload (node_head Node.NumLiteral (length values))) ≡ Option.some (number n))
unfolding said is_name
number-said text tokens values n h g = let (x, y) = head-parts Node.NumLiteral (length values) (lit< tt) h in (x, rw (x, y) (number_read values n g))

module _ (s : Setting) {B : Type 0} {P : B → World → Outcome → Type 0} where
  -- A number token is passed, its value and its node made.
  number-hit : (w : World) (k : Option ℕ → World → Fate B) (radix prefix K j : ℕ) {xs ys : List RowToken} {o : Outcome} → radix ≤ 16 → Fits s w xs → xs ≡ token K (lexeme_of s j) ∷ ys
      → ((n : ℕ) (u : World) → Done s w u n (node Node.NumLiteral (number (digits radix 0 (drop prefix (lexeme_of s j).spelling))) none) → Fits s u ys → length ys < length xs → Sim P (k (Option.some n) u) o)
      → Sim P (runs s pass (move_to j w.row w) (λ _ u. runs s (value (number_value (digits radix 0 (drop prefix (lexeme_of s j).spelling)))) u (λ offset v. runs s (alloc_last_token_as_node Node.NumLiteral offset) v (λ n z. k (Option.some n) z)))) o
  unfolding run cost number_value
  number-hit w k radix prefix K j {xs} {ys} r f e g =
      pass-rule s (move_to j w.row w) (λ _ u. runs s (value (number_value n)) u (λ offset v. runs s (alloc_last_token_as_node Node.NumLiteral offset) v (λ n z. k (Option.some n) z))) f e (λ i row q t.
      let few : length (number_value n) ≤ suc (length (lexeme_of s j).spelling) = number-few radix prefix (lexeme_of s j).spelling r in
      let room : length w.values + (suc (length (lexeme_of s j).spelling) + cost ys) < 2 ^ 26 = rw e at f.room in
      let x = number-said s.text s.tokens w.values n (omega arith) (omega arith) in
      let f₁ : Fits s (with_value (number_value n) (move_to (suc i) row w)) ys = record { ahead = t.fit.ahead; room = rw (length-append w.values (number_value n)) (omega arith); few = t.fit.few; born = f.born; sound = f.sound } in
      last-rule s (with_value (number_value n) (move_to (suc i) row w)) _ Node.NumLiteral (length w.values) x.1 f₁ (λ m u d f₂.
      g m u (built-before s.text s.tokens w.values (number_value n) (rw x.0 at d)) f₂ t.shorter))
    where
      n : ℕ
      n = digits radix 0 (drop prefix (lexeme_of s j).spelling)

  -- `try_parse_num_literal` and its node, beside the three kinds of numbers.
  pub number-rule : (w : World) (k : Option ℕ → World → Fate B) {xs : List RowToken} (m : Outcome) → Fits s w xs
      → ((n : ℕ) (u : World) (v : ℕ) (ys : List RowToken) → Done s w u n (node Node.NumLiteral (number v) none) → Fits s u ys → length ys < length xs → Sim P (k (Option.some n) u) (Chart.ok (node Node.NumLiteral (number v) none ▸ none) ys))
      → ((i : ℕ) → Sim P (k Option.none (move_to i w.row w)) m)
      → Sim P (runs s num_literal w k) (on Token.DecimalLiteral xs (λ v ys. Chart.ok (numeral 10 0 v) ys) (on Token.HexLiteral xs (λ v ys. Chart.ok (numeral 16 2 v) ys) (on Token.BinLiteral xs (λ v ys. Chart.ok (numeral 2 2 v) ys) m)))
  unfolding run num_literal try_parse_num_literal radix_of on if
  number-rule w k {xs} m f g z =
      peek-rule s w (λ kind u. after (radix_of kind) u) f (λ i e. rw e (z i))
      (λ j kind ys e _. rw e (go j kind ys e (eqb kind Token.DecimalLiteral) (eqb kind Token.HexLiteral) (eqb kind Token.BinLiteral) refl refl refl))
    where
      after : Option Radix → World → Fate B
      after x u = runs s {A = Option ℕ} (elim x [ Option.none ↦ Give Option.none | Option.some r ↦ Then spelling (λ source. Then pass (λ _. Then (value (number_value (digits r.radix 0 (drop r.prefix source)))) (λ offset. Give (Option.some offset)))) ]) u
          (λ found v. runs s {A = Option ℕ} (elim found [ Option.none ↦ Give Option.none | Option.some offset ↦ Then (alloc_last_token_as_node Node.NumLiteral offset) (λ n. Give (Option.some n)) ]) v k)

      go : (j kind : ℕ) (ys : List RowToken) → xs ≡ token kind (lexeme_of s j) ∷ ys → (p q r : Bool) → eqb kind Token.DecimalLiteral ≡ p → eqb kind Token.HexLiteral ≡ q → eqb kind Token.BinLiteral ≡ r
          → Sim P (after (cond p (Option.some (record { radix = 10; prefix = 0 })) (cond q (Option.some (record { radix = 16; prefix = 2 })) (cond r (Option.some (record { radix = 2; prefix = 2 })) Option.none))) (move_to j w.row w))
          (if p (Chart.ok (numeral 10 0 (lexeme_of s j)) ys) (if q (Chart.ok (numeral 16 2 (lexeme_of s j)) ys) (if r (Chart.ok (numeral 2 2 (lexeme_of s j)) ys) m)))
      go j kind ys e true q r _ _ _ = number-hit w k 10 0 kind j (omega arith) f e (λ n u d f₁ l. g n u _ ys d f₁ l)
      go j kind ys e false true r _ _ _ = number-hit w k 16 2 kind j (omega arith) f e (λ n u d f₁ l. g n u _ ys d f₁ l)
      go j kind ys e false false true _ _ _ = number-hit w k 2 2 kind j (omega arith) f e (λ n u d f₁ l. g n u _ ys d f₁ l)
      go j kind ys e false false false _ _ _ = z j
