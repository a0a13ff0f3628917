-- Laws of the report's command: what its run is, by case.
use Rattle.std.specs.Prelude.{◌≡◌, true, false, ℕ, ◌+◌, ◌*◌, ◌/◌, ◌≤◌, ◌<◌, length, set, get_or, List}
use Rattle.std.proofs.Common.{sym, ◌∙◌, arith, le-leb}
use Rattle.std.proofs.Math.Numerals.{towards_suc}
use Rattle.std.proofs.lemmas.Bool.{lt-leb}
use Rattle.std.proofs.lemmas.List.Edits.{sets}
use Rattle.words.specs.Refusal
use Rattle.words.specs.declared.refusal.Refusal.TheVariants.{ReportsDontFit}
use Rattle.words.specs.Words.{report_width, report_words}
use Rattle.literals.specs.declared.Span.{Span}
use Rattle.literals.specs.Spelling.{span}
use Rattle.definition.specs.declared.State.{State}
use Rattle.definition.specs.Prog.{emit, Memory, memory, done, refused, eval, reported, with_reports}
use Rattle.reading.specs.declared.parser.Parser.{Parser}
use Rattle.reading.specs.Standing.{is_refused, words, refused_at, Kept}
use Rattle.reading.specs.Does.{Does, view, from, same, refused-kept, standing, not_refused}

pub reported-full : (kind detail : ℕ) (p : Span) (s : State) (m : Memory) → length m.reports < report_width * s.reports + report_width
    → reported kind detail p s m ≡ refused Refusal.ReportsDontFit s.cursor.at
unfolding reported
reported-full kind detail p s m h = rw (lt-leb (report_width * s.reports + report_width) (length m.reports) h, reported)

pub reported-fits : (kind detail : ℕ) (p : Span) (s : State) (m : Memory) → report_width * s.reports + report_width ≤ length m.reports
    → reported kind detail p s m
    ≡ done tt (with_reports (s.reports + 1) s)
    (memory m.nodes m.values (sets m.reports (report_width * s.reports) (report_words (record { kind = kind; detail = detail; start = p.start; end = p.end }))))
unfolding reported
reported-fits kind detail p s m h = rw (le-leb (report_width * s.reports + report_width) (length m.reports) h, reported)

-- A report is made, or doesn't fit.
pub record Reports (kind detail : ℕ) (q : Span) (p p' : Parser) : Type 0 where
  pub is : view tt p' ≡ from p (reported kind detail q)
  pub kept : Kept p p'

pub emit-does : {kind detail : ℕ} {q : Span} {p p' : Parser} → Reports kind detail q p p' → Does (emit kind detail q) p tt p'
unfolding eval
emit-does e = record { is = λ w. e.is; kept = e.kept }

pub emit-stays : {kind detail : ℕ} {q : Span} {p : Parser} → is_refused p ≡ true → Reports kind detail q p p
emit-stays {kind = kind} {detail = detail} {q = q} {p = p} h = record { is = standing tt p (reported kind detail q) h; kept = same }

module _ (p : Parser) (h : is_refused p ≡ false) (kind detail start end : ℕ) where
  pub emit-full : length p.reports.now / 3 ≤ p.state.reports → Reports kind detail (span start end) p (refused_at p ReportsDontFit)
  emit-full g =
      record {
        is = rw (not_refused p h) (sym (reported-full kind detail (span start end) p.state (words p) (omega arith)));
        kept = refused-kept;
      }

  pub emit-fits : (p' : Parser) (ws : List ℕ) → p.state.reports < length p.reports.now / 3
      → ws ≡ report_words (record { kind = kind; detail = detail; start = start; end = end })
      → p'.refused ≡ p.refused → Kept p p' → p'.state ≡ with_reports (p.state.reports + 1) p.state
      → words p'
      ≡ memory p.nodes.now p.values.now
      (set (set (set p.reports.now (3 * p.state.reports) (get_or ws 0 0)) (3 * p.state.reports + 1) (get_or ws 1 0)) (3 * p.state.reports + 2) (get_or ws 2 0))
      → Reports kind detail (span start end) p p'
  emit-fits p' ws g e f k s w =
      record {
        is =
            rw (f, not_refused p h)
            (sym (rw (s, w, e) (reported-fits kind detail (span start end) p.state (words p) (omega arith) ∙ simp towards_suc)));
        kept = k;
      }

-- What `emit` does: the report, and nodes and values stay as they are, also where it doesn't fit.
pub record Emits (kind detail : ℕ) (q : Span) (p p' : Parser) : Type 0 where
  pub reports : Reports kind detail q p p'
  pub nodes : p'.nodes.now ≡ p.nodes.now
  pub values : p'.values.now ≡ p.values.now
