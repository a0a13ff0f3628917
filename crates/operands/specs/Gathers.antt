-- What the loop of a string literal does, turn by turn: the run goes over the values as they were lent, while the bytes are held in them.
use Rattle.std.specs.Prelude.{◌≡◌, refl, Option, Some, None, true, false, List, [], ◌++◌, ℕ, ◌+◌, ◌≤◌, ◌<◌}
use Rattle.std.proofs.Common.{◌∙◌, append-nil, arith, take-append-drop}
use Rattle.std.proofs.Math.Option as Math
use Rattle.std.proofs.Math.Option.{none, some}
use Rattle.words.specs.Node
use Rattle.literals.specs.Strings.{fours, string_value}
use Rattle.definition.specs.Prog.{Prog, give, ◌>>=◌, loop, peek, value}
use Rattle.definition.specs.Nodes.{alloc_node_from, close_node_at, skip_trivia_start}
use Rattle.definition.specs.Strings.{string_turn, try_parse_string_literal}
use Rattle.reading.specs.declared.parser.Parser.{Parser}
use Rattle.reading.specs.Source.{Right}
use Rattle.reading.specs.Standing.{is_refused, Kept}
use Rattle.reading.specs.Does.{Does, turns_of, then, gives, granted, kept_then, same}
use Rattle.reading.specs.Turns.{Turns, first-turn, next-turn, last_turn, refused-turn, no-turn-left}
use Rattle.cst.specs.Cst.{maybe}
use Rattle.cst.specs.Laws.{position-is}
use Rattle.values.specs.Kept.{lending, back-lent, values-then, lent-stays}
use Rattle.decoder.specs.Decodes.{unrefused, right_kept}
use Rattle.decoder.specs.Fours.{Held, held_first}
use Rattle.operands.specs.Turns.{buf, Turned, some-none}

-- Tokens gathered so far, after i turns.
pub record Gathering (p : Parser) (i : ℕ) (past c' : Option ℕ) (p' : Parser) : Type 0 where
  pub bytes : List ℕ
  pub nothing : past ≡ None → bytes ≡ []
  pub turns : Turns string_turn (buf [] none) p i (buf bytes (maybe past)) (lending p' p.values.now)
  pub holds : Right p.text.now p.tokens.now → is_refused p' ≡ false → Held p.values.now p.state.values bytes c' p'.values.now
  pub stays : Right p.text.now p.tokens.now → is_refused p' ≡ false → p'.state.values ≡ p.state.values

-- All of them.
pub record Gathers (p : Parser) (past c' : Option ℕ) (p' : Parser) : Type 0 where
  pub bytes : List ℕ
  pub nothing : past ≡ None → bytes ≡ []
  pub does : Does (loop (buf [] none) string_turn) p (buf bytes (maybe past)) (lending p' p.values.now)
  pub holds : Right p.text.now p.tokens.now → is_refused p' ≡ false → Held p.values.now p.state.values bytes c' p'.values.now
  pub stays : Right p.text.now p.tokens.now → is_refused p' ≡ false → p'.state.values ≡ p.state.values

module _ (p : Parser) where
  pub gather-first : Gathering p 0 None (Some 0) p
  gather-first = record { bytes = []; nothing = λ e. refl; turns = first-turn; holds = λ w h. held_first p.values.now p.state.values; stays = λ w h. refl }

  module _ (i : ℕ) (past c₁ : Option ℕ) (p₁ : Parser) (g : Gathering p i past c₁ p₁) where
    pub gather-over : {n : ℕ} → n ≡ turns_of p.tokens.now → n ≤ i → Gathers p past c₁ p₁
    gather-over e h = record { bytes = g.bytes; nothing = g.nothing; does = no-turn-left g.turns e h; holds = g.holds; stays = g.stays }

    pub gather-refused : is_refused p₁ ≡ true → Gathers p past c₁ p₁
    gather-refused h = record { bytes = g.bytes; nothing = g.nothing; does = refused-turn g.turns h; holds = g.holds; stays = g.stays }

    module _ {all : ℕ} (every : all ≡ turns_of p.tokens.now) (h : i < all) (next c₂ : Option ℕ) (p₂ : Parser) (t : Turned p.state.values c₁ p₁ next c₂ p₂) where
      right₁ : Right p.text.now p.tokens.now → Right p₁.text.now p₁.tokens.now
      right₁ w = right_kept g.turns.kept w

      before : Right p.text.now p.tokens.now → is_refused p₂ ≡ false → is_refused p₁ ≡ false
      before w e = (unrefused (t.does p.values.now g.bytes (maybe past)) (right₁ w) e).0

      held : Right p.text.now p.tokens.now → is_refused p₂ ≡ false → Held p.values.now p.state.values (g.bytes ++ t.added) c₂ p₂.values.now
      held w e = t.holds (right₁ w) p.values.now g.bytes e (g.holds w (before w e))

      pub gather-next : (n : ℕ) → next ≡ Some n → Gathering p (i + 1) (Some n) c₂ p₂
      gather-next n e =
          record {
            bytes = g.bytes ++ t.added;
            nothing = λ z. absurd (some-none n z);
            turns = next-turn g.turns every h (rw e at (t.does p.values.now g.bytes (maybe past)));
            holds = held;
            stays = λ w z. t.stays (right₁ w) z ∙ g.stays w (before w z);
          }

      pub gather-last : next ≡ None → Gathers p past c₂ p₂
      gather-last e =
          record {
            bytes = g.bytes;
            nothing = g.nothing;
            does = last_turn g.turns every h (rw e at (t.does p.values.now g.bytes (maybe past)));
            holds = λ w z. rw (t.nothing e, append-nil) at (held w z);
            stays = λ w z. t.stays (right₁ w) z ∙ g.stays w (before w z);
          }

-- ---- the node of what was gathered

abbrev pub string_node : ℕ → ℕ → List ℕ → Prog (Math.Option ℕ)
string_node start end bs = do
  offset ← value (string_value bs)
  u ← alloc_node_from start Node.StringLiteral offset
  node ← close_node_at u end
  give (some node)

-- Whatever bytes are held, they make the value. A refused parser holds none that count.
pub record StringMade (start end : ℕ) (c : Option ℕ) (p : Parser) (it : Math.Option ℕ) (p' : Parser) : Type 0 where
  pub does : (lent bs : List ℕ) → (is_refused p ≡ false → Held lent p.state.values bs c p.values.now) → Does (string_node start end bs) (lending p lent) it p'
  pub kept : Kept p p'

pub made-refused : (start end : ℕ) (c : Option ℕ) (p : Parser) (it : Math.Option ℕ) → is_refused p ≡ true → StringMade start end c p it p
made-refused start end c p it h = record { does = λ lent bs k. lent-stays lent h; kept = same }

-- Where no byte is held, the values are as they were lent.
held_none : (lent : List ℕ) (at : ℕ) (c : Option ℕ) (vs : List ℕ) → Held lent at [] c vs → vs ≡ lent
unfolding fours
held_none lent at (Some n) vs k = k.by.2 ∙ take-append-drop (at + 1) lent
held_none lent at None vs k = absurd (omega (arith, k.by))

module _ (p : Parser) (kind : ℕ) (p₁ : Parser) (e : Does peek p kind p₁) (past c₂ : Option ℕ) (p₂ : Parser) (g : Gathers p₁ past c₂ p₂) where
  right_then : Right p.text.now p.tokens.now → Right p₁.text.now p₁.tokens.now
  right_then w = right_kept e.kept w

  gathered : Kept p₁ p₂
  gathered = kept_then g.does.kept back-lent

  pub literal-none : past ≡ None → Does try_parse_string_literal p none p₂
  unfolding try_parse_string_literal skip_trivia_start
  literal-none f =
      granted (kept_then e.kept gathered)
      (λ w.
      let lent : is_refused p₂ ≡ false → p₂.values.now ≡ p₁.values.now = λ h. held_none p₁.values.now p₁.state.values c₂ p₂.values.now (rw (g.nothing f) at (g.holds (right_then w) h)) in
      then (then e position-is) (then (values-then p₂ p₁.values.now lent (rw f at g.does)) gives))

  pub literal-some : (end : ℕ) → past ≡ Some end → (it : Math.Option ℕ) (p₃ : Parser) → StringMade p₁.state.cursor.at end c₂ p₂ it p₃
      → Does try_parse_string_literal p it p₃
  unfolding try_parse_string_literal skip_trivia_start
  literal-some end f it p₃ made =
      granted (kept_then e.kept (kept_then gathered made.kept))
      (λ w. then (then e position-is) (then (rw f at g.does) (made.does p₁.values.now g.bytes (λ h. rw (g.stays (right_then w) h) (g.holds (right_then w) h)))))
