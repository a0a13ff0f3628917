-- Laws of the definitions in `View`.
use Rattle.std.specs.Prelude.{◌≡◌, Bool, true, false, cond, List, eqb, ltb, leb}
use Rattle.std.proofs.Math.Path.{refl, ap}
use Rattle.std.proofs.Common.{◌∙◌, suc-add, arith}
use Prim.Native.Nat.{ℕ, zero, suc, ◌+◌, ◌-◌, ◌≤◌, ◌<◌}
use borrow.Author.Tests.{eqb-true, eqb-false, ltb-true, ltb-false, leb-true, leb-false, le-leb, lt-leb, le-ltb, lt-ltb, eq-eqb, ne_eqb}
use Rattle.words.specs.Node
use Rattle.words.specs.Refusal
use Rattle.words.specs.declared.node.Node.{Node as Fields}
use Rattle.looking.specs.View.{Seen, is, none, refused, and_then, or_else, count, node_at, falls, sound, look, among, nth, counted, turns, of}
use Rattle.looking.specs.Any.{parent}

-- ---- a node that is looked at

module _ (ns : List ℕ) (n : ℕ) where
  pub look-past : count ns ≤ n → refused Refusal.AlteredNodes n ≡ look ns n
  unfolding look
  look-past h = rw (le-leb (count ns) n h)

  -- A node that is looked at without a refusal is there.
  pub look-there : (refused Refusal.AlteredNodes n ≡ look ns n → ⊥) → n < count ns
  look-there z = go (leb (count ns) n) refl
    where
      go : (t : Bool) → leb (count ns) n ≡ t → n < count ns
      go true p = absurd (z (look-past (leb-true (count ns) n p)))
      go false p = leb-false (count ns) n p

  pub looked : n < count ns → (f : Fields) → f ≡ node_at ns n → (s : Seen Fields) → s ≡ sound n f → s ≡ look ns n
  unfolding look
  looked h f e s i = rw (lt-leb (count ns) n h) (i ∙ ap (sound n) e)

module _ (n : ℕ) (f : Fields) where
  pub kind-above : Node.Error < f.kind → refused Refusal.AlteredNodes n ≡ sound n f
  unfolding sound
  kind-above k = rw (lt-ltb Node.Error f.kind k)

  module _ (k : f.kind ≤ Node.Error) where
    pub last : f.next ≡ 0 → is f ≡ sound n f
    unfolding sound
    last z = rw (le-ltb Node.Error f.kind k, eq-eqb f.next 0 z)

    module _ (z : f.next ≡ 0 → ⊥) where
      pub next-falls : f.next ≤ n → refused Refusal.AlteredNodes n ≡ sound n f
      unfolding sound
      next-falls l = rw (le-ltb Node.Error f.kind k, ne_eqb f.next 0 z, le-leb f.next n l)

      pub next-rises : n < f.next → is f ≡ sound n f
      unfolding sound
      next-rises l = rw (le-ltb Node.Error f.kind k, ne_eqb f.next 0 z, lt-leb f.next n l)

-- a node that is told has one of the kinds
sound-kind : (n : ℕ) (g f : Fields) → is f ≡ sound n g → f.kind ≤ Node.Error
unfolding sound
sound-kind n g f e = go (ltb Node.Error g.kind) (falls n g.next) refl refl
  where
    go : (t u : Bool) → ltb Node.Error g.kind ≡ t → falls n g.next ≡ u → f.kind ≤ Node.Error
    go true u p q =
        let i : is f ≡ refused Refusal.AlteredNodes n = rw p at e in
        let z : ◌≡◌ {A = ℕ} 0 1 = cc in
        omega arith
    go false true p q =
        let i : is f ≡ refused Refusal.AlteredNodes n = rw (p, q) at e in
        let z : ◌≡◌ {A = ℕ} 0 1 = cc in
        omega arith
    go false false p q =
        let i : is f ≡ is g = rw (p, q) at e in
        let j : f ≡ g = cc in
        let k : f.kind ≡ g.kind = ap (λ (x : Fields). x.kind) j in
        omega (arith, ltb-false Node.Error g.kind p)

pub look-kind : (ns : List ℕ) (n : ℕ) (f : Fields) → is f ≡ look ns n → f.kind ≤ Node.Error
unfolding look
look-kind ns n f e = go (leb (count ns) n) refl
  where
    go : (t : Bool) → leb (count ns) n ≡ t → f.kind ≤ Node.Error
    go true p =
        let i : is f ≡ refused Refusal.AlteredNodes n = rw p at e in
        let z : ◌≡◌ {A = ℕ} 0 1 = cc in
        omega arith
    go false p = sound-kind n (node_at ns n) f (rw p at e)

-- ---- the parent

module _ (ns : List ℕ) (n : ℕ) where
  pub parent-refused : (number place : ℕ) → refused number place ≡ look ns n → refused number place ≡ parent ns n
  unfolding and_then
  parent-refused number place e = rw (← e)

  module _ (f : Fields) (e : is f ≡ look ns n) where
    pub parent-file : n ≡ 0 → none ≡ parent ns n
    unfolding and_then
    parent-file z = rw (← e, eq-eqb n 0 z)

    pub parent_is : (n ≡ 0 → ⊥) → is f.parent ≡ parent ns n
    unfolding and_then
    parent_is z = rw (← e, ne_eqb n 0 z)

-- ---- the turns of the loops, of which `t` are left where one begins

pub less : (t : ℕ) → suc t - 1 ≡ t
less t = omega arith

module _ (stop from to : ℕ) (ns : List ℕ) (at i : ℕ) where
  pub nth-over : (t : ℕ) → t ≡ 0 → none ≡ nth t stop from to ns at i
  unfolding nth
  nth-over t e = rw e

  pub nth-none : (t : ℕ) → at ≡ 0 → none ≡ nth t stop from to ns at i
  unfolding nth
  nth-none zero z = refl
  nth-none (suc t) z = rw (eq-eqb at 0 z)

  module _ (z : at ≡ 0 → ⊥) where
    pub nth-refused : (t : ℕ) → (t ≡ 0 → ⊥) → (number place : ℕ) → refused number place ≡ look ns at → refused number place ≡ nth t stop from to ns at i
    unfolding nth and_then
    nth-refused zero t≢ number place e = absurd (t≢ refl)
    nth-refused (suc t) t≢ number place e = rw (ne_eqb at 0 z, ← e)

    module _ (f : Fields) (e : is f ≡ look ns at) where
      pub nth-stopped : (t : ℕ) → (t ≡ 0 → ⊥) → f.kind ≡ stop → none ≡ nth t stop from to ns at i
      unfolding nth and_then
      nth-stopped zero t≢ p = absurd (t≢ refl)
      nth-stopped (suc t) t≢ p = rw (ne_eqb at 0 z, ← e, eq-eqb f.kind stop p)

      module _ (p : f.kind ≡ stop → ⊥) where
        pub nth-below : (t : ℕ) → (t ≡ 0 → ⊥) → f.kind < from → nth (t - 1) stop from to ns f.next i ≡ nth t stop from to ns at i
        unfolding nth and_then
        nth-below zero t≢ l = absurd (t≢ refl)
        nth-below (suc t) t≢ l = rw (less t, ne_eqb at 0 z, ← e, ne_eqb f.kind stop p, lt-leb from f.kind l)

        module _ (l : from ≤ f.kind) where
          pub nth-above : (t : ℕ) → (t ≡ 0 → ⊥) → to < f.kind → nth (t - 1) stop from to ns f.next i ≡ nth t stop from to ns at i
          unfolding nth and_then
          nth-above zero t≢ h = absurd (t≢ refl)
          nth-above (suc t) t≢ h = rw (less t, ne_eqb at 0 z, ← e, ne_eqb f.kind stop p, le-leb from f.kind l, lt-leb f.kind to h)

          module _ (h : f.kind ≤ to) where
            pub nth-found : (t : ℕ) → (t ≡ 0 → ⊥) → i ≡ 0 → is at ≡ nth t stop from to ns at i
            unfolding nth and_then
            nth-found zero t≢ o = absurd (t≢ refl)
            nth-found (suc t) t≢ o = rw (ne_eqb at 0 z, ← e, ne_eqb f.kind stop p, le-leb from f.kind l, le-leb f.kind to h, eq-eqb i 0 o)

            pub nth-passed : (t : ℕ) → (t ≡ 0 → ⊥) → (i ≡ 0 → ⊥) → nth (t - 1) stop from to ns f.next (i - 1) ≡ nth t stop from to ns at i
            unfolding nth and_then
            nth-passed zero t≢ o = absurd (t≢ refl)
            nth-passed (suc t) t≢ o = rw (less t, ne_eqb at 0 z, ← e, ne_eqb f.kind stop p, le-leb from f.kind l, le-leb f.kind to h, ne_eqb i 0 o)

-- ---- one view and then another

module _ {A B : Type 0} (f : A → Seen B) (s : Seen A) where
  pub then_is : (a : A) → is a ≡ s → f a ≡ and_then s f
  unfolding and_then
  then_is a e = rw (← e)

  pub then-none : none ≡ s → none ≡ and_then s f
  unfolding and_then
  then-none e = rw (← e)

  pub then-refused : (number place : ℕ) → refused number place ≡ s → refused number place ≡ and_then s f
  unfolding and_then
  then-refused number place e = rw (← e)

module _ (s : Seen ℕ) where
  pub else_is : (t : Seen ℕ) (n : ℕ) → is n ≡ s → is n ≡ or_else s t
  unfolding or_else
  else_is t n e = rw (← e)

  pub else-none : (t : Seen ℕ) → none ≡ s → t ≡ or_else s t
  unfolding or_else
  else-none t e = rw (← e)

  pub else-refused : (t : Seen ℕ) (number place : ℕ) → refused number place ≡ s → refused number place ≡ or_else s t
  unfolding or_else
  else-refused t number place e = rw (← e)

module _ (from to : ℕ) (ns : List ℕ) (n : ℕ) where
  pub of-altered : (number place : ℕ) → refused number place ≡ look ns n → refused number place ≡ of from to ns n
  unfolding of
  of-altered number place e = then-refused _ _ _ _ e

  module _ (f : Fields) (e : is f ≡ look ns n) where
    pub of-below : f.kind < from → none ≡ of from to ns n
    unfolding of and_then
    of-below l = rw (← e, lt-leb from f.kind l)

    pub of-above : from ≤ f.kind → to < f.kind → none ≡ of from to ns n
    unfolding of and_then
    of-above l h = rw (← e, le-leb from f.kind l, lt-leb f.kind to h)

    pub of-kind : from ≤ f.kind → f.kind ≤ to → is f ≡ of from to ns n
    unfolding of and_then
    of-kind l h = rw (← e, le-leb from f.kind l, le-leb f.kind to h)

module _ (stop from to : ℕ) (ns : List ℕ) (at sum : ℕ) where
  pub counted-over : (t : ℕ) → t ≡ 0 → is sum ≡ counted t stop from to ns at sum
  unfolding counted
  counted-over t e = rw e

  pub counted_none : (t : ℕ) → at ≡ 0 → is sum ≡ counted t stop from to ns at sum
  unfolding counted
  counted_none zero z = refl
  counted_none (suc t) z = rw (eq-eqb at 0 z)

  module _ (z : at ≡ 0 → ⊥) where
    pub counted-refused : (t : ℕ) → (t ≡ 0 → ⊥) → (number place : ℕ) → refused number place ≡ look ns at → refused number place ≡ counted t stop from to ns at sum
    unfolding counted and_then
    counted-refused zero t≢ number place e = absurd (t≢ refl)
    counted-refused (suc t) t≢ number place e = rw (ne_eqb at 0 z, ← e)

    module _ (f : Fields) (e : is f ≡ look ns at) where
      pub counted-stopped : (t : ℕ) → (t ≡ 0 → ⊥) → f.kind ≡ stop → is sum ≡ counted t stop from to ns at sum
      unfolding counted and_then
      counted-stopped zero t≢ p = absurd (t≢ refl)
      counted-stopped (suc t) t≢ p = rw (ne_eqb at 0 z, ← e, eq-eqb f.kind stop p)

      module _ (p : f.kind ≡ stop → ⊥) where
        pub counted-below : (t : ℕ) → (t ≡ 0 → ⊥) → f.kind < from → counted (t - 1) stop from to ns f.next sum ≡ counted t stop from to ns at sum
        unfolding counted and_then
        counted-below zero t≢ l = absurd (t≢ refl)
        counted-below (suc t) t≢ l = rw (less t, ne_eqb at 0 z, ← e, ne_eqb f.kind stop p, lt-leb from f.kind l)

        module _ (l : from ≤ f.kind) where
          pub counted-above : (t : ℕ) → (t ≡ 0 → ⊥) → to < f.kind → counted (t - 1) stop from to ns f.next sum ≡ counted t stop from to ns at sum
          unfolding counted and_then
          counted-above zero t≢ h = absurd (t≢ refl)
          counted-above (suc t) t≢ h = rw (less t, ne_eqb at 0 z, ← e, ne_eqb f.kind stop p, le-leb from f.kind l, lt-leb f.kind to h)

          pub counted-one : (t : ℕ) → (t ≡ 0 → ⊥) → f.kind ≤ to → counted (t - 1) stop from to ns f.next (sum + 1) ≡ counted t stop from to ns at sum
          unfolding counted and_then
          counted-one zero t≢ h = absurd (t≢ refl)
          counted-one (suc t) t≢ h = rw (less t, ne_eqb at 0 z, ← e, ne_eqb f.kind stop p, le-leb from f.kind l, le-leb f.kind to h)

-- ---- flags and kinds

module _ {A : Type 0} (t : ℕ) (r s : Seen A) where
  pub flag-unset : t ≡ 0 → r ≡ cond (eqb t 0) r s
  flag-unset e = rw (eq-eqb t 0 e)

  pub flag-set : (t ≡ 0 → ⊥) → s ≡ cond (eqb t 0) r s
  flag-set e = rw (ne_eqb t 0 e)

pub is-first : (a b : ℕ) → a < b → is 0 ≡ is (a - b)
is-first a b h =
    let e : 0 ≡ a - b = omega arith in
    ap (λ (n : ℕ). is n) e

-- ---- a walk over siblings never runs out of turns

-- The siblings from a node on end, by 0 or by a node that is refused, while turns are left: with no turns there is no rule.
pub data Ends (ns : List ℕ) : ℕ → ℕ → Type 0 where
  over : (k : ℕ) → Ends ns (suc k) 0
  altered : (k at number place : ℕ) → refused number place ≡ look ns at → Ends ns (suc k) at
  goes : (k at : ℕ) (f : Fields) → is f ≡ look ns at → Ends ns k f.next → Ends ns (suc k) at

module _ (ns : List ℕ) where
  no_more : (k : ℕ) → 0 < k → Ends ns k 0
  no_more zero h = absurd (omega arith)
  no_more (suc k) h = over k

  -- a node that is there goes on to one above it, or is the last, or is refused
  passes : (k at : ℕ) (f : Fields) → at < count ns → f ≡ node_at ns at → 0 < k → ((next : ℕ) → at < next → Ends ns k next) → Ends ns (suc k) at
  passes k at f h e z above = go (ltb Node.Error f.kind) (eqb f.next 0) (leb f.next at) refl refl refl
    where
      told : (s : Seen Fields) → s ≡ sound at f → s ≡ look ns at
      told s i = looked ns at h f e s i

      go : (t u v : Bool) → ltb Node.Error f.kind ≡ t → eqb f.next 0 ≡ u → leb f.next at ≡ v → Ends ns (suc k) at
      go true u v p q r = altered k at _ _ (told _ (kind-above at f (ltb-true Node.Error f.kind p)))
      go false true v p q r =
          let l : f.next ≡ 0 = eqb-true f.next 0 q in
          goes k at f (told _ (last at f (ltb-false Node.Error f.kind p) l)) (rw l (no_more k z))
      go false false true p q r = altered k at _ _ (told _ (next-falls at f (ltb-false Node.Error f.kind p) (eqb-false f.next 0 q) (leb-true f.next at r)))
      go false false false p q r =
          let l : at < f.next = leb-false f.next at r in
          goes k at f (told _ (next-rises at f (ltb-false Node.Error f.kind p) (eqb-false f.next 0 q) l)) (above f.next l)

  -- one turn, where the next node is above
  turn : (k at : ℕ) → count ns < suc k + at → ((next : ℕ) → at < next → count ns < k + next → 0 < k → Ends ns k next) → Ends ns (suc k) at
  turn k at h above = go (eqb at 0) (leb (count ns) at) refl refl
    where
      go : (t u : Bool) → eqb at 0 ≡ t → leb (count ns) at ≡ u → Ends ns (suc k) at
      go true u p q =
          let e : at ≡ 0 = eqb-true at 0 p in
          rw e (over k)
      go false true p q = altered k at _ _ (look-past ns at (leb-true (count ns) at q))
      go false false p q =
          let l : at < count ns = leb-false (count ns) at q in
          passes k at (node_at ns at) l refl (omega arith) (λ next r. above next r (omega arith) (omega arith))

  -- each turn leaves fewer nodes above the one that is looked at
  rising : (k at : ℕ) → count ns < k + at → 0 < k → Ends ns k at
  rising zero at h z = absurd (omega arith)
  rising (suc k) at h z = turn k at h (λ next r i p. rising k next i p)

  -- `turns ns` are enough, from any node on: no walk is ever asked with none left
  pub ends : (at : ℕ) → Ends ns (turns ns) at
  ends at = rising (turns ns) at (omega arith) (omega arith)

  -- The first lines of `nth` and `counted`, for no turns, are never asked: whatever has the second line gives the same answer.
  module _ (stop from to : ℕ) where
    abbrev pub Nth : (ℕ → ℕ → ℕ → Seen ℕ) → Type 0
    Nth g =
        (k at i : ℕ) → g (suc k) at i
        ≡ cond (eqb at 0) none
        (and_then (look ns at) (λ node.
        cond (eqb node.kind stop) none
        (cond (among from to node.kind)
        (cond (eqb i 0) (is at) (g k node.next (i - 1)))
        (g k node.next i))))

    nth-same : (g : ℕ → ℕ → ℕ → Seen ℕ) → Nth g → (k at : ℕ) → Ends ns k at → (i : ℕ) → g k at i ≡ nth k stop from to ns at i
    unfolding nth and_then
    nth-same g line zero at x' i = elim x' [ ]
    nth-same g line (suc k) at (over _) i = line k at i
    nth-same g line (suc k) at (altered _ _ number place e) i = line k at i ∙ rw (← e)
    nth-same g line (suc k) at (goes _ _ f e w) i = line k at i ∙ rw (← e, nth-same g line k f.next w (i - 1), nth-same g line k f.next w i)

    pub nth-only : (g : ℕ → ℕ → ℕ → Seen ℕ) → Nth g → (at i : ℕ) → g (turns ns) at i ≡ nth (turns ns) stop from to ns at i
    nth-only g line at i = nth-same g line (turns ns) at (ends at) i

    abbrev pub Counted : (ℕ → ℕ → ℕ → Seen ℕ) → Type 0
    Counted g =
        (k at sum : ℕ) → g (suc k) at sum
        ≡ cond (eqb at 0) (is sum)
        (and_then (look ns at) (λ node.
        cond (eqb node.kind stop) (is sum)
        (g k node.next (cond (among from to node.kind) (sum + 1) sum))))

    counted_same : (g : ℕ → ℕ → ℕ → Seen ℕ) → Counted g → (k at : ℕ) → Ends ns k at → (sum : ℕ) → g k at sum ≡ counted k stop from to ns at sum
    unfolding counted and_then
    counted_same g line zero at x' sum = elim x' [ ]
    counted_same g line (suc k) at (over _) sum = line k at sum
    counted_same g line (suc k) at (altered _ _ number place e) sum = line k at sum ∙ rw (← e)
    counted_same g line (suc k) at (goes _ _ f e w) sum = line k at sum ∙ rw (← e, counted_same g line k f.next w _)

    pub counted-only : (g : ℕ → ℕ → ℕ → Seen ℕ) → Counted g → (at sum : ℕ) → g (turns ns) at sum ≡ counted (turns ns) stop from to ns at sum
    counted-only g line at sum = counted_same g line (turns ns) at (ends at) sum

    -- so any more turns give the same answer
    pub nth-enough : (at i more : ℕ) → nth (turns ns + more) stop from to ns at i ≡ nth (turns ns) stop from to ns at i
    unfolding nth
    nth-enough at i more = nth-only (λ k at i. nth (k + more) stop from to ns at i) (λ k at i. rw suc-add) at i

    pub counted-enough : (at sum more : ℕ) → counted (turns ns + more) stop from to ns at sum ≡ counted (turns ns) stop from to ns at sum
    unfolding counted
    counted-enough at sum more = counted-only (λ k at sum. counted (k + more) stop from to ns at sum) (λ k at sum. rw suc-add) at sum
