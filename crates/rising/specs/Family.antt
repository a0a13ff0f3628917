-- What the node words of any text that isn't refused tell, with reports or without: every node but File is linked exactly once and is reached
-- from File, its parent word is the node whose child it is, and climbing from parent to parent comes to File.
use Rattle.std.specs.Prelude.{◌≡◌, refl, List, ℕ, zero, suc, ◌<◌}
use Rattle.definition.specs.Encodes.{parent_of}
use Rattle.rising.specs.Linked.{ParentTold, LinkedOnce, Reached}

-- So many parents up.
unfoldable pub climb : List ℕ → ℕ → ℕ → ℕ
climb w zero i = i
climb w (suc k) i = climb w k (parent_of w i)

pub record Family (w : List ℕ) (count : ℕ) : Type 0 where
  -- File is counted.
  pub some : 0 < count
  -- "File has 0" (01, W3).
  pub file : parent_of w 0 ≡ 0
  -- "A node gets a sixth word, its parent" (01, W3): the one node whose first child and next siblings reach it. So no node but File is one that nobody links.
  pub parents : (i : ℕ) → 0 < i → i < count → ParentTold w count i
  -- Every node but File is linked exactly once; all are reached from File.
  pub linked : (i : ℕ) → 0 < i → i < count → LinkedOnce w count i
  pub reached : (i : ℕ) → i < count → Reached w i
  -- Going up from parent to parent comes to File within as many steps as there are nodes, and stays there.
  pub climbs : (i : ℕ) → i < count → climb w count i ≡ 0

-- Above File there is File.
pub climb-file : (w : List ℕ) → parent_of w 0 ≡ 0 → (k : ℕ) → climb w k 0 ≡ 0
unfolding climb
climb-file w e zero = refl
climb-file w e (suc k) = rw e (climb-file w e k)
