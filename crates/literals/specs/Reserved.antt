-- "Report kind 11 is never made again." (01, W7): its number stays reserved, and decoding makes no report with it.
use Rattle.std.specs.Prelude.{◌≡◌, refl, Bool, true, false, cond, List, [], ◌∷◌, ℕ, ◌<◌, T, eqb, ltb}
use Rattle.std.proofs.lemmas.Bool.{eqb-false}
use Rattle.std.proofs.Common.{lit<}
use Rattle.words.specs.Report
use Rattle.literals.specs.declared.Span.{Span}
use Rattle.literals.specs.Strings.{Event, byte, report}

-- The kinds of reports that are made: they fit into the 6 bits of a report's kind, and 11 is none of them.
abbrev pub is_made : ℕ → Bool
is_made k = cond (eqb k Report.NonAscii) false (ltb k 64)

pub made-fits : (k : ℕ) → T (is_made k) → k < 64
made-fits k = go (eqb k Report.NonAscii)
  where
    go : (b : Bool) → T (cond b false (ltb k 64)) → k < 64
    go true t = elim t [ ]
    go false t = lit< t

pub made_other : (k : ℕ) → T (is_made k) → k ≡ Report.NonAscii → ⊥
made_other k t = eqb-false k Report.NonAscii (go (eqb k Report.NonAscii) t)
  where
    go : (b : Bool) → T (cond b false (ltb k 64)) → b ≡ false
    go true t = elim t [ ]
    go false t = refl

-- Steps of decoding with no report of the reserved kind among them.
pub data Others : List Event → Type 0 where
  no-others : Others []
  other_byte : {b : ℕ} {es : List Event} → Others es → Others (byte b ∷ es)
  other-report : {k d : ℕ} {p : Span} {es : List Event} → T (is_made k) → Others es → Others (report k d p ∷ es)
