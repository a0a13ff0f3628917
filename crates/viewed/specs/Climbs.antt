-- Up: the parent that a node tells, and the declaration that holds it.
use Rattle.std.specs.Prelude.{◌≡◌, refl, List}
use Rattle.std.proofs.Math.Path.{sym}
use Rattle.std.proofs.Common.{◌∙◌, ap, arith}
use Prim.Native.Nat.{ℕ, zero, suc, ◌-◌, ◌≤◌, ◌<◌}
use Rattle.std.proofs.Math.Decide.{ℕ_discrete}
use Rattle.definition.specs.Encodes.{parent_of}
use Rattle.rising.specs.Sound.{Sound}
use Rattle.rising.specs.Family.{Family, climb}
use Rattle.looking.specs.View.{is, none, node_at, turns}
use Rattle.looking.specs.Any.{parent}
use Rattle.looking.specs.Laws.{parent-file, parent_is}
use Rattle.walking.specs.Walks.{enclosing, enclosing_declaration}
use Rattle.walking.specs.Laws.{enclosing-none, enclosing-found, enclosing-up}
use Rattle.viewed.specs.Looks.{parent-same, looked}
use Rattle.viewed.specs.Walked.{itself, below, Encloses}

module _ (ns : List ℕ) (count : ℕ) (sound : Sound ns count) (f : Family ns count) where
  pub file-none : 0 < count → parent ns 0 ≡ none
  file-none l = sym (parent-file ns 0 (node_at ns 0) (sym (looked ns count sound 0 l)) refl)

  pub parent-told : (n : ℕ) → 0 < n → n < count → parent ns n ≡ is (parent_of ns n)
  parent-told n z l = sym (parent_is ns n (node_at ns n) (sym (looked ns count sound n l)) (omega arith)) ∙ ap is (parent-same ns n)

  pub file-free : 0 < count → enclosing_declaration ns 0 ≡ none
  file-free l = sym (enclosing-none ns 0 (turns ns) (omega arith) (sym (file-none l)))

  -- The declaration that a climb of so many steps to File passes last.
  abbrev Held : ℕ → ℕ → Type 0
  Held t n = (d : ℕ) × (enclosing t ns n ≡ is d) × Encloses ns d n

  holds : (k n : ℕ) → 0 < n → n < count → climb ns k n ≡ 0 → (t : ℕ) → k ≤ t → Held t n
  unfolding climb
  holds zero n z l e t h = absurd (omega arith)
  holds (suc k) n z l e t h = go (ℕ_discrete (parent_of ns n) 0) (λ y. holds k (parent_of ns n) y (f.parents n z l).counted e (t - 1) (omega arith))
    where
      told : is (parent_of ns n) ≡ parent ns n
      told = sym (parent-told n z l)

      further : Held (t - 1) (parent_of ns n) → (parent_of ns n ≡ 0 → ⊥) → Held t n
      further (d, r, c) q = (d, sym (enclosing-up ns n (parent_of ns n) told t (omega arith) q) ∙ r, record { declared = c.declared; holds = below c.holds })

      go : Dec (parent_of ns n ≡ 0) → (0 < parent_of ns n → Held (t - 1) (parent_of ns n)) → Held t n
      go (yes q) r = (n, sym (enclosing-found ns n (parent_of ns n) told t (omega arith) q), record { declared = rw q at (f.parents n z l).links; holds = itself refl })
      go (no q) r = further (r (omega arith)) q

  pub declaration : (n : ℕ) → 0 < n → n < count → Held (turns ns) n
  declaration n z l = holds count n z l (f.climbs n l) (turns ns) (omega (arith, sound.room))
