-- What the parent and the walks give of the words that reading makes of any text, with reports or without. What that says; `Climbs` and
-- `Descends` prove it, and `Walks` puts them together.
use Rattle.std.specs.Prelude.{◌≡◌, true, false, List, [], ◌∷◌, ℕ, ◌<◌}
use Rattle.words.specs.Answer.{done}
use Rattle.definition.specs.Encodes.{parent_of}
use Rattle.rising.specs.Linked.{Child}
use Rattle.reader.specs.Read.{Read}
use Rattle.looking.specs.View.{is, none, node_at}
use Rattle.looking.specs.Any.{parent}
use Rattle.walking.specs.Walks.{enclosing_declaration, covers, node_at_token}

-- A node is d or stands below it: d is met going up from parent to parent.
pub data Under (ns : List ℕ) (d : ℕ) : ℕ → Type 0 where
  itself : {n : ℕ} → n ≡ d → Under ns d n
  below : {n : ℕ} → Under ns d (parent_of ns n) → Under ns d n

-- "From a node its declaration is the child of File that holds it, or that it is" (01, W3).
pub record Encloses (ns : List ℕ) (d n : ℕ) : Type 0 where
  pub declared : Child ns 0 d
  pub holds : Under ns d n

-- "From a node down, the node at a token is the innermost that covers it" (01, W3): n or one below it, which covers the token while none of its
-- children does.
pub record Innermost (ns : List ℕ) (count n t m : ℕ) : Type 0 where
  pub counted : m < count
  pub holds : Under ns n m
  pub covering : covers t (node_at ns m) ≡ true
  pub no-child : (c : ℕ) → Child ns m c → covers t (node_at ns c) ≡ false

pub record Walked (ns : List ℕ) (count : ℕ) : Type 0 where
  -- File has no parent; that of any other node is the one that its word tells.
  pub file : parent ns 0 ≡ none
  pub parents : (n : ℕ) → 0 < n → n < count → parent ns n ≡ is (parent_of ns n)
  -- File is in no declaration; every other node is in one.
  pub file-free : enclosing_declaration ns 0 ≡ none
  pub declarations : (n : ℕ) → 0 < n → n < count → (d : ℕ) × (enclosing_declaration ns n ≡ is d) × Encloses ns d n
  -- From a node down, a token that it covers has an innermost node, and no other token has one.
  pub covered : (n t : ℕ) → n < count → covers t (node_at ns n) ≡ true → (m : ℕ) × (node_at_token t ns n ≡ is m) × Innermost ns count n t m
  pub outside : (n t : ℕ) → n < count → covers t (node_at ns n) ≡ false → node_at_token t ns n ≡ none

-- Of any text that is read, whatever slices are lent.
abbrev pub AllWalked : Read → Type 0
AllWalked r =
    (tokens nodes values reports : ℕ) → r.answer ≡ done (tokens ∷ nodes ∷ values ∷ reports ∷ [])
    → Walked r.nodes nodes
