-- A reading one level deeper: entering it, and where no level is left.
use Rattle.std.specs.Prelude.{◌≡◌, refl, Bool, true, false}
use Rattle.std.proofs.Math.Option.{Option}
use Prim.Native.Nat.{ℕ, zero, suc, ◌+◌, ◌-◌}
use Rattle.std.proofs.Common.{arith}
use Rattle.std.proofs.Math.Numerals.{sub-one}
use Rattle.words.specs.Refusal
use Rattle.definition.specs.declared.State.{State}
use Rattle.definition.specs.declared.Mode.{Mode}
use Rattle.definition.specs.Prog.{Prog, Memory, refused, eval, tower, enter_expr, enter_block}
use Rattle.definition.specs.Expressions.{try_parse_expr_min_bp}
use Rattle.definition.specs.Statements.{parse_block}
use Rattle.reading.specs.declared.parser.Parser.{Parser}
use Rattle.reading.specs.Standing.{is_refused, words, Kept}
use Rattle.reading.specs.Does.{Does, view, from, run, run_of, stays, halts}
use Rattle.readers.specs.Readers.{too_deep}

module _ {p : Parser} where
  -- No level is left.
  out : {A : Type 0} {c : Prog A} {a : A} → ((s : State) (m : Memory) → run p c s m ≡ refused Refusal.TooDeep s.cursor.at) → Does c p a (too_deep p)
  out {c = c} {a = a} e = go (is_refused p) refl
    where
      go : (b : Bool) → is_refused p ≡ b → Does c p a (too_deep p)
      go true h = rw h (stays h)
      go false h = rw h (halts h (e p.state (words p)))

  pub no-expr : {mode : Mode} {min : ℕ} {a : Option ℕ} → p.levels ≡ 0 → Does (enter_expr mode min) p a (too_deep p)
  unfolding eval tower
  no-expr h = out (λ s m. rw h)

  pub no_block : {start kind a : ℕ} → p.levels ≡ 0 → Does (enter_block start kind) p a (too_deep p)
  unfolding eval tower
  no_block h = out (λ s m. rw h)

-- With one level less, and back again.
abbrev pub deeper : Parser → Parser
deeper p = record p { levels = p.levels - 1 }

abbrev pub back : Parser → Parser
back p = record p { levels = p.levels + 1 }

module _ {p p₂ : Parser} (h : p.levels ≡ 0 → ⊥) where
  level-kept : Kept (deeper p) p₂ → Kept p (back p₂)
  level-kept k =
      record { text = k.text; tokens = k.tokens; nodes = k.nodes; values = k.values; reports = k.reports; levels = omega (arith, k.levels, h) }

  pub expr-level : {mode : Mode} {min : ℕ} {a : Option ℕ} → Does (try_parse_expr_min_bp mode min) (deeper p) a p₂ → Does (enter_expr mode min) p a (back p₂)
  unfolding eval tower
  expr-level {mode = mode} {min = min} {a = a} g = record { is = λ w. go p.levels h (g.is w); kept = level-kept g.kept }
    where
      go : (d : ℕ) → (d ≡ 0 → ⊥) → view a p₂ ≡ from p (run_of p.text.now p.tokens.now (d - 1) (try_parse_expr_min_bp mode min))
          → view a p₂ ≡ from p (run_of p.text.now p.tokens.now d (enter_expr mode min))
      go zero z e = absurd (z refl)
      go (suc d) z e = rw sub-one at e

  pub block-level : {start kind a : ℕ} → Does (parse_block start kind) (deeper p) a p₂ → Does (enter_block start kind) p a (back p₂)
  unfolding eval tower
  block-level {start = start} {kind = kind} {a = a} g = record { is = λ w. go p.levels h (g.is w); kept = level-kept g.kept }
    where
      go : (d : ℕ) → (d ≡ 0 → ⊥) → view a p₂ ≡ from p (run_of p.text.now p.tokens.now (d - 1) (parse_block start kind))
          → view a p₂ ≡ from p (run_of p.text.now p.tokens.now d (enter_block start kind))
      go zero z e = absurd (z refl)
      go (suc d) z e = rw sub-one at e
