-- Values stored: the words of one from an offset on, if there is room, and what `value` then does.
use Rattle.std.specs.Prelude.{◌≡◌, refl, true, false, Option, Some, None, List, ◌∷◌, ◌++◌, ℕ, ◌+◌, ◌-◌, ◌%◌, ◌≤◌, ◌<◌, length, get_or, take, drop, set}
use Rattle.std.proofs.Common.{sym, ◌∙◌, append_assoc, append-nil, arith, add-one, le-leb, length-drop, take-suc, length-take-le, drop-drop}
use Rattle.std.proofs.Math.Nat.{mod-mod}
use Rattle.std.proofs.lemmas.Bool.{lt-leb}
use Rattle.std.proofs.lemmas.List.Edits.{sets, sets-eq}
use Rattle.std.proofs.Math.Seq.{append_snoc}
use Rattle.std.proofs.lemmas.List.{set_at}
use Rattle.words.specs.Parts.{part-whole, part-rest}
use Rattle.words.specs.Refusal.{number}
use Rattle.words.specs.declared.refusal.Refusal.TheVariants.{ValuesDontFit}
use Rattle.words.specs.declared.refusal.Refused.{Refused}
use Rattle.words.specs.Words.{pack, value_head}
use Rattle.definition.specs.declared.State.{State}
use Rattle.definition.specs.Prog.{Prog, value, Memory, memory, done, refused, eval, valued, with_values}
use Rattle.reading.specs.declared.parser.Parser.{Parser}
use Rattle.reading.specs.Standing as Standing
use Rattle.reading.specs.Standing.{is_refused, words, refused_at}
use Rattle.reading.specs.Does.{Does, view, goes, stays, not_refused, kept_then}

-- Stored are the values up to word `end`.
abbrev pub past_words : Parser → ℕ → Parser
past_words p end = record p { state = with_values end p.state }

-- The parser over other values.
abbrev pub lending : Parser → List ℕ → Parser
lending p vs = record p { values = record p.values { now = vs } }

-- Which words are lent doesn't tell what is in them.
pub lent-kept : {p p' : Parser} → Standing.Kept p p' → (vs : List ℕ) → Standing.Kept (lending p vs) (lending p' vs)
lent-kept k vs = record { text = k.text; tokens = k.tokens; nodes = k.nodes; values = k.values; reports = k.reports; levels = k.levels }

pub back-lent : {p : Parser} {vs : List ℕ} → Standing.Kept (lending p vs) p
back-lent = record { text = refl; tokens = refl; nodes = refl; values = refl; reports = refl; levels = refl }

-- A refusal tells of no values.
pub values-then : {A : Type 0} {c : Prog A} {p : Parser} {a : A} (p' : Parser) (lent : List ℕ) → (is_refused p' ≡ false → p'.values.now ≡ lent)
    → Does c p a (lending p' lent) → Does c p a p'
values-then {c = c} {p = p} {a = a} p' lent f e =
    record {
      is = λ w. go p'.refused refl ∙ e.is w;
      kept = kept_then e.kept back-lent;
    }
  where
    go : (t : Option Refused) → p'.refused ≡ t → view a p' ≡ view a (lending p' lent)
    go None h = let g : p'.values.now ≡ lent = f (rw h) in rw (h, g)
    go (Some r) h = rw h

-- One that was refused stays so, over any values.
pub lent-stays : {A : Type 0} {c : Prog A} {p : Parser} {a : A} (lent : List ℕ) → is_refused p ≡ true → Does c (lending p lent) a p
lent-stays {p = p} lent h = values-then p lent (λ z. let y : true ≡ false = sym h ∙ z in absurd cc) (stays h)

-- Words put in front of a slice, if there is room for them.
abbrev pub Put : List ℕ → List ℕ → Option ℕ → List ℕ → Type 0
Put ws room (Some n) room' = (n ≡ length ws) × (n ≤ length room) × (room' ≡ ws ++ drop n room)
Put ws room None room' = length room < length ws

-- Words stored from `at` on, and where they end, if there is room for them.
abbrev pub Kept : List ℕ → List ℕ → ℕ → Option ℕ → List ℕ → Type 0
Kept ws vs at (Some end) vs' = (end ≡ at + length ws) × (end ≤ length vs) × (vs' ≡ sets vs at ws)
Kept ws vs at None vs' = length vs < at + length ws

-- A count that was cut off before is cut off in the same way.
pub head-cut : (tag n : ℕ) → value_head tag (n % 1073741824) ≡ value_head tag n
unfolding pack
head-cut tag n = rw (mod-mod n 1073741824)

-- A first word, and the words that were put behind it.
module _ (head : ℕ) (ws vs : List ℕ) (at : ℕ) where
  pub kept-none : length vs ≤ at → length vs < at + length (head ∷ ws)
  kept-none h = omega arith

  module _ (h : at < length vs) (r : Option ℕ) (out : List ℕ) (p : Put ws (take (length vs - (at + 1)) (drop (at + 1) vs)) r out) where
    pub kept_full : r ≡ None → length vs < at + length (head ∷ ws)
    kept_full e =
        let q : length (drop (at + 1) vs) < length ws = rw (e, part-whole (at + 1) vs) at p in
        omega (arith, length-drop (at + 1) vs)

    module _ (n : ℕ) (e : r ≡ Some n) where
      pub fit : Put ws (drop (at + 1) vs) (Some n) out
      fit = rw (e, part-whole (at + 1) vs) at p

      pub kept-end : at + 1 + n ≤ length vs
      kept-end = omega (arith, fit.1, length-drop (at + 1) vs)

      pub kept-fits : Kept (head ∷ ws) vs at (Some (at + 1 + n)) (set (take (at + 1) vs ++ (out ++ drop (length vs - (at + 1)) (drop (at + 1) vs))) at head)
      kept-fits =
          let k : at + length (head ∷ ws) ≡ at + 1 + n = omega (arith, fit.0) in
          let rest = drop (at + length (head ∷ ws)) vs in
          let behind : out ≡ ws ++ rest = fit.2 ∙ rw (k, drop-drop n (at + 1) vs) in
          let front : take (at + 1) vs ++ out ≡ take at vs ++ get_or vs at 0 ∷ out = rw (add-one, take-suc vs at 0 h, append_snoc) in
          let stored : sets vs at (head ∷ ws) ≡ take at vs ++ (head ∷ (ws ++ rest)) = sets-eq (head ∷ ws) vs at (omega (arith, kept-end)) ∙ append_assoc (take at vs) (head ∷ ws) rest in
          (sym k, kept-end, rw (part-rest (at + 1) vs, append-nil, front, stored, ← behind) (set_at (take at vs) (get_or vs at 0) out head at (length-take-le at vs (omega arith))))

valued-full : (ws : List ℕ) (s : State) (m : Memory) → length m.values < s.values + length ws → valued ws s m ≡ refused (number ValuesDontFit) s.cursor.at
unfolding valued
valued-full ws s m h = rw (lt-leb (s.values + length ws) (length m.values) h, valued)

valued_fits : (ws : List ℕ) (s : State) (m : Memory) → s.values + length ws ≤ length m.values
    → valued ws s m ≡ done s.values (with_values (s.values + length ws) s) (memory m.nodes (sets m.values s.values ws) m.reports)
unfolding valued
valued_fits ws s m h = rw (le-leb (s.values + length ws) (length m.values) h, valued)

-- The value is stored, and the next one goes past it; or it doesn't fit.
module _ (p : Parser) (h : is_refused p ≡ false) (ws : List ℕ) (c : Option ℕ) (vs : List ℕ) (k : Kept ws p.values.now p.state.values c vs) where
  full : c ≡ None → length p.values.now < p.state.values + length ws
  full e = rw e at k

  fits : (end : ℕ) → c ≡ Some end → Kept ws p.values.now p.state.values (Some end) vs
  fits end e = rw e at k

  pub value-full : c ≡ None → Does (value ws) p p.state.values (refused_at (lending p vs) ValuesDontFit)
  unfolding eval
  value-full e =
      record {
        is = λ w. rw (not_refused p h) (sym (valued-full ws p.state (words p) (full e)));
        kept = record { text = refl; tokens = refl; nodes = refl; values = refl; reports = refl; levels = refl };
      }

  pub value-fits : (end : ℕ) → c ≡ Some end → Does (value ws) p p.state.values (past_words (lending p vs) end)
  value-fits end e =
      goes h refl (record { text = refl; tokens = refl; nodes = refl; values = refl; reports = refl; levels = refl })
      (unfold eval in (valued_fits ws p.state (words p) (omega (arith, (fits end e).0, (fits end e).1)) ∙ rw ((fits end e).0, (fits end e).2)))
