-- `search` meets its contract: no name that was passed matches, and no more are passed than the name has bits.
use mathlib.Core.Path.{refl, sym, ◌∙◌}
use Prim.Native.Nat.{◌+◌, ◌*◌, ◌≤◌}
use native.Mathlib.Omega.{arith}
use lib.ListN.{length}
use Rattle.interner.specs.Alike.{named-matches}
use Rattle.interner.specs.Search.{stands-start, stands-next, stands-inside, stands-short, name-short, link-low, ends-new, ends-old}
use Rattle.interner.proofs.trees.search.Goals as goal

pub overflow_mul-label : goal.overflow_mul-label
overflow_mul-label c = let short : length c.spelling-name.result.now ≤ 65536 = name-short _ _ _ _ _ c.requires.state _ _ _ c.kind_at-kind.ensures c.spelling-name.ensures.0 c.hash-h.ensures.0 (λ i. omega (arith, c.type_inv.text i)) in omega (arith, short)

pub overflow_add-label : goal.overflow_add-label
overflow_add-label c = let short : length c.spelling-name.result.now ≤ 65536 = name-short _ _ _ _ _ c.requires.state _ _ _ c.kind_at-kind.ensures c.spelling-name.ensures.0 c.hash-h.ensures.0 (λ i. omega (arith, c.type_inv.text i)) in omega (arith, short)

pub overflow_mul-label-2 : goal.overflow_mul-label-2
overflow_mul-label-2 c = let short : length c.spelling-name.result.now ≤ 65536 = name-short _ _ _ _ _ c.requires.state _ _ _ c.kind_at-kind.ensures c.spelling-name.ensures.0 c.hash-h.ensures.0 (λ i. omega (arith, c.type_inv.text i)) in omega (arith, short)

pub overflow_add-label-2 : goal.overflow_add-label-2
overflow_add-label-2 c = let short : length c.spelling-name.result.now ≤ 65536 = name-short _ _ _ _ _ c.requires.state _ _ _ c.kind_at-kind.ensures c.spelling-name.ensures.0 c.hash-h.ensures.0 (λ i. omega (arith, c.type_inv.text i)) in omega (arith, short)

pub loop-name-init : goal.loop-name-init
loop-name-init c = stands-start _ _ _ _ _ c.requires.state _ _ _ c.kind_at-kind.ensures c.spelling-name.ensures.0 c.hash-h.ensures.0

pub offset_bounds-links-p : goal.offset_bounds-links-p
offset_bounds-links-p c = omega (arith, stands-inside _ _ _ _ _ c.requires.state _ _ c.loop-name.invariant)

pub bounds-links-p : goal.bounds-links-p
bounds-links-p c = stands-inside _ _ _ _ _ c.requires.state _ _ c.loop-name.invariant

pub returns-then-c-eq0 : goal.returns-then-c-eq0
returns-then-c-eq0 c = ends-new _ _ _ _ _ c.requires.state _ _ c.loop-name.invariant _ refl c.requires.i_in_bounds.1 c.requires.i_in_bounds.0 c.if-c-eq0.true

pub get-requires : goal.get-requires
get-requires c = omega (arith, link-low _ _ _ _ _ c.requires.state c.loop-name.p _ refl)

pub returns-then-named : goal.returns-then-named
returns-then-named c = ends-old _ _ _ _ _ c.requires.state _ _ c.loop-name.invariant _ refl c.if-c-eq0.false _ c.get.ensures (sym (named-matches _ _ _ _ _ c.kind_at-kind.ensures c.spelling-name.ensures.0 _ _ c.named.ensures) ∙ c.if-named.true)

pub overflow_mul-p : goal.overflow_mul-p
overflow_mul-p c = omega (arith, link-low _ _ _ _ _ c.requires.state c.loop-name.p _ refl)

pub overflow_add-p : goal.overflow_add-p
overflow_add-p c = omega (arith, link-low _ _ _ _ _ c.requires.state c.loop-name.p _ refl)

pub overflow_add-p-in-loop-name : goal.overflow_add-p-in-loop-name
overflow_add-p-in-loop-name c = omega (arith, link-low _ _ _ _ _ c.requires.state c.loop-name.p _ refl)

pub overflow_add-k : goal.overflow_add-k
overflow_add-k c = let short : length c.spelling-name.result.now ≤ 65536 = name-short _ _ _ _ _ c.requires.state _ _ _ c.kind_at-kind.ensures c.spelling-name.ensures.0 c.hash-h.ensures.0 (λ i. omega (arith, c.type_inv.text i)) in let bound : c.loop-name.k ≤ 48 + 8 * length c.spelling-name.result.now = stands-short _ _ _ _ _ c.requires.state _ _ _ c.kind_at-kind.ensures c.spelling-name.ensures.0 c.hash-h.ensures.0 (λ i. omega (arith, c.type_inv.text i)) _ _ c.loop-name.invariant c.requires.i_in_bounds.1 in omega (arith, bound, short)

pub loop-name-smaller : goal.loop-name-smaller
loop-name-smaller c = let bound : c.loop-name.k ≤ 48 + 8 * length c.spelling-name.result.now = stands-short _ _ _ _ _ c.requires.state _ _ _ c.kind_at-kind.ensures c.spelling-name.ensures.0 c.hash-h.ensures.0 (λ i. omega (arith, c.type_inv.text i)) _ _ c.loop-name.invariant c.requires.i_in_bounds.1 in omega (arith, bound)

pub loop-name-preserved : goal.loop-name-preserved
loop-name-preserved c = stands-next _ _ _ _ _ c.requires.state _ _ _ c.kind_at-kind.ensures c.spelling-name.ensures.0 c.hash-h.ensures.0 _ _ c.loop-name.invariant _ refl c.if-c-eq0.false _ c.get.ensures (sym (named-matches _ _ _ _ _ c.kind_at-kind.ensures c.spelling-name.ensures.0 _ _ c.named.ensures) ∙ c.if-named.false) _ c.turn.ensures.0
