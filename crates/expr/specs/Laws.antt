-- Laws of the definitions in `Expr`.
use Rattle.std.specs.Prelude.{◌≡◌, refl, List}
use Prim.Native.Nat.{ℕ, zero, suc, ◌-◌}
use borrow.Author.Tests.{eq-eqb, ne_eqb}
use Rattle.words.specs.Node
use Rattle.words.specs.declared.node.Node.{Node as Fields}
use Rattle.looking.specs.View.{Seen, is, none, refused, and_then, look, kept, name_of, child_of}
use Rattle.looking.specs.Laws.{less}
use Rattle.expr.specs.Expr.{peel, struct_body, asked, whole}

-- ---- brackets: `t` turns are left

module _ (ns : List ℕ) (n : ℕ) where
  pub peel-over : (t : ℕ) → t ≡ 0 → none ≡ peel t ns n
  unfolding peel
  peel-over t e = rw e

  pub peel-refused : (t : ℕ) → (t ≡ 0 → ⊥) → (number place : ℕ) → refused number place ≡ look ns n → refused number place ≡ peel t ns n
  unfolding peel and_then
  peel-refused zero t≢ number place e = absurd (t≢ refl)
  peel-refused (suc t) t≢ number place e = rw (← e)

  module _ (f : Fields) (e : is f ≡ look ns n) where
    pub peel-inner : (t : ℕ) → (t ≡ 0 → ⊥) → (f.kind ≡ Node.ParenExpr → ⊥) → is n ≡ peel t ns n
    unfolding peel and_then
    peel-inner zero t≢ k = absurd (t≢ refl)
    peel-inner (suc t) t≢ k = rw (← e, ne_eqb f.kind Node.ParenExpr k)

    module _ (k : f.kind ≡ Node.ParenExpr) where
      pub peel-empty : (t : ℕ) → (t ≡ 0 → ⊥) → f.child ≡ 0 → none ≡ peel t ns n
      unfolding peel and_then
      peel-empty zero t≢ z = absurd (t≢ refl)
      peel-empty (suc t) t≢ z = rw (← e, eq-eqb f.kind Node.ParenExpr k, eq-eqb f.child 0 z)

      pub peel-deeper : (t : ℕ) → (t ≡ 0 → ⊥) → (f.child ≡ 0 → ⊥) → peel (t - 1) ns f.child ≡ peel t ns n
      unfolding peel and_then
      peel-deeper zero t≢ z = absurd (t≢ refl)
      peel-deeper (suc t) t≢ z = rw (less t, ← e, eq-eqb f.kind Node.ParenExpr k, ne_eqb f.child 0 z)

-- ---- a whole expression

module _ (ns : List ℕ) (n kind : ℕ) where
  pub whole-member : (s : Seen ℕ) → kind ≡ Node.MemberExpr → s ≡ name_of kind kind 1 ns n → kept n s ≡ whole ns n kind
  unfolding whole
  whole-member s k e = rw (e, k)

  pub whole-struct : (s : Seen ℕ) → kind ≡ Node.StructDef → s ≡ struct_body ns n → kept n s ≡ whole ns n kind
  unfolding whole
  whole-struct s k e = rw (e, k)

  module _ (m : kind ≡ Node.MemberExpr → ⊥) (d : kind ≡ Node.StructDef → ⊥) (w : ℕ) (e : w ≡ asked kind) where
    pub whole-no : w ≡ 0 → none ≡ whole ns n kind
    unfolding whole
    whole-no z = rw (ne_eqb kind Node.MemberExpr m, ne_eqb kind Node.StructDef d, ← e, z)

    pub whole_plain : w ≡ 1 → is n ≡ whole ns n kind
    unfolding whole
    whole_plain z = rw (ne_eqb kind Node.MemberExpr m, ne_eqb kind Node.StructDef d, ← e, z)

    pub whole-child : (w ≡ 0 → ⊥) → (w ≡ 1 → ⊥) → (s : Seen ℕ) → s ≡ child_of Node.File Node.Error (w - 2) ns n → kept n s ≡ whole ns n kind
    unfolding whole
    whole-child z o s c = rw (ne_eqb kind Node.MemberExpr m, ne_eqb kind Node.StructDef d, ← e, ne_eqb w 0 z, ne_eqb w 1 o, c)
