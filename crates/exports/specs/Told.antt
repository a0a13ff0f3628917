-- What reading for C and Rust returns and writes.
use Rattle.std.specs.Prelude.{◌≡◌, List, ℕ}
use Rattle.std.proofs.Common.{sym, ◌∙◌, ap}
use Rattle.words.specs.Answer.{Answer}
use Rattle.codes.specs.Coded.{outcome, counted}
use Rattle.reader.specs.Read.{Read}
use Rattle.plank.specs.Reads
use Rattle.plank.specs.Reads.{Outcome}

-- The number returned, and the words of tokens, nodes, values, reports and counts, are those of what is read.
pub record Told (r : Read) (number : ℕ) (tokens nodes values reports lent counts : List ℕ) : Type 0 where
  pub outcome-is : number ≡ outcome r.answer
  pub tokens-are : tokens ≡ r.tokens
  pub nodes-are : nodes ≡ r.nodes
  pub values-are : values ≡ r.values
  pub reports-are : reports ≡ r.reports
  pub counts-are : counts ≡ counted r.answer lent

pub told : {r : Read} {o o' : Outcome} {ts ns vs rs lent counts : List ℕ} {number : ℕ} → Reads.given o ts ns vs rs ≡ r → o ≡ o' → number ≡ outcome (Reads.answer o') → counts ≡ counted (Reads.answer o') lent
    → Told r number ts ns vs rs lent counts
told {lent = lent} e h n c =
    let a = ap Reads.answer (sym h) ∙ ap (λ (x : Read). x.answer) e in
    record {
      outcome-is = n ∙ ap outcome a;
      tokens-are = ap (λ (x : Read). x.tokens) e;
      nodes-are = ap (λ (x : Read). x.nodes) e;
      values-are = ap (λ (x : Read). x.values) e;
      reports-are = ap (λ (x : Read). x.reports) e;
      counts-are = c ∙ ap (λ (x : Answer). counted x lent) a;
    }
