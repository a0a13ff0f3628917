-- What decoding does: its reports go out as D's `emit_events` sends them, and its bytes are held.
use Rattle.std.proofs.Math.Path.{◌≡◌, refl, sym, ap}
use Rattle.std.proofs.Common.{◌∙◌, arith}
use Rattle.std.specs.Prelude.{Bool, Option, Some, None, is_some, ℕ, ◌+◌, ◌*◌, length}
use Rattle.std.proofs.Math.Bool.{true, false}
use mathlib.Core.List.{List, [], ◌∷◌, ◌++◌, append-nil, append_assoc}
use Rattle.std.proofs.Math.Dec.{leb}
use Rattle.words.specs.Refusal.{number}
use Rattle.words.specs.declared.refusal.Refusal.TheVariants.{ReportsDontFit}
use Rattle.words.specs.declared.refusal.Refused.{Refused}
use Rattle.words.specs.Words.{report_width}
use Rattle.literals.specs.declared.Span.{Span}
use Rattle.literals.specs.Strings.{Event, byte, report, bytes_of}
use Rattle.definition.specs.declared.State.{State}
use Rattle.definition.specs.Prog.{Prog, emit, Memory, memory, Out, done, refused, bind, eval, reported}
use Rattle.definition.specs.Strings.{emit_events}
use Rattle.reading.specs.declared.parser.Parser.{Parser}
use Rattle.reading.specs.Source.{Right}
use Rattle.reading.specs.Standing.{is_refused, words, Kept}
use Rattle.reading.specs.Does.{Does, run, gives, then, not_refused}
use Rattle.values.specs.Kept.{lending, lent-kept}
use Rattle.decoder.specs.Fours.{Held, PushByte}

-- ---- reports don't depend on the values

-- What a program comes to, over other values.
abbrev over : {A : Type 0} → List ℕ → Out A → Out A
over lent (done a s m) = done a s (memory m.nodes lent m.reports)
over lent (refused number place) = refused number place

abbrev values_of : {A : Type 0} → Out A → List ℕ
values_of (done a s m) = m.values
values_of (refused number place) = []

over-from : {A : Type 0} (lent : List ℕ) (t : Option Refused) (o : Out A)
    → over lent (elim t [ None ↦ o | Some r ↦ refused (number r.refusal) r.place ]) ≡ elim t [ None ↦ over lent o | Some r ↦ refused (number r.refusal) r.place ]
over-from lent None o = refl
over-from lent (Some r) o = refl

module _ (kind detail : ℕ) (p : Span) (s : State) (ns vs lent rs : List ℕ) where
  reported-over : over lent (reported kind detail p s (memory ns vs rs)) ≡ reported kind detail p s (memory ns lent rs)
  unfolding reported
  reported-over = go (leb (report_width * s.reports + report_width) (length rs)) refl
    where
      go : (t : Bool) → leb (report_width * s.reports + report_width) (length rs) ≡ t
          → over lent (reported kind detail p s (memory ns vs rs)) ≡ reported kind detail p s (memory ns lent rs)
      go true e = rw (e, reported)
      go false e = rw (e, reported)

  reported-same : (t : State) (m : Memory) → done tt t m ≡ reported kind detail p s (memory ns vs rs) → m.values ≡ vs
  unfolding reported
  reported-same t m e = go (leb (report_width * s.reports + report_width) (length rs)) refl
    where
      go : (b : Bool) → leb (report_width * s.reports + report_width) (length rs) ≡ b → m.values ≡ vs
      go true f = ap values_of (rw (f, reported) at e)
      go false f =
          let g : ◌≡◌ {A = Out (Unit {0})} (done tt t m) (refused (number ReportsDontFit) s.cursor.at) = rw (f, reported) at e in
          absurd (let z : ◌≡◌ {A = ℕ} 0 1 = cc in omega arith)

-- A parser that goes on was not refused before.
pub unrefused : {A : Type 0} {c : Prog A} {p : Parser} {a : A} {p' : Parser}
    → Does c p a p' → Right p.text.now p.tokens.now → is_refused p' ≡ false → (is_refused p ≡ false) × (done a p'.state (words p') ≡ run p c p.state (words p))
unrefused {A = A} {c = c} {p = p} {a = a} {p' = p'} e w h = go p.refused refl (rw (not_refused p' h) at (e.is w))
  where
    go : (t : Option Refused) → p.refused ≡ t → done a p'.state (words p') ≡ elim t [ None ↦ run p c p.state (words p) | Some r ↦ refused (number r.refusal) r.place ]
        → (is_refused p ≡ false) × (done a p'.state (words p') ≡ run p c p.state (words p))
    go None f g = (ap is_some f, g)
    go (Some r) f g = absurd cc

-- What is kept decides whether the table of names is right.
pub right_kept : {p p' : Parser} → Kept p p' → Right p.text.now p.tokens.now → Right p'.text.now p'.tokens.now
right_kept {p = p} {p' = p'} k w =
    let e : p'.text.now ≡ p.text.now = cc k.text in
    let f : p'.tokens.now ≡ p.tokens.now = cc k.tokens in
    rw (e, f) w

module _ (kind detail : ℕ) (q : Span) (p p' : Parser) (e : Does (emit kind detail q) p tt p') where
  emit-over : (lent : List ℕ) → Does (emit kind detail q) (lending p lent) tt (lending p' lent)
  unfolding eval
  emit-over lent =
      record {
        is =
            λ w. sym (over-from lent p'.refused (done tt p'.state (words p')))
            ∙ (ap (over lent) (e.is w)
            ∙ (over-from lent p.refused (reported kind detail q p.state (words p))
            ∙ ap (λ (o : Out (Unit {0})). elim p.refused [ None ↦ o | Some r ↦ refused (number r.refusal) r.place ])
            (reported-over kind detail q p.state p.nodes.now p.values.now lent p.reports.now)));
        kept = lent-kept e.kept lent;
      }

  emit-same : Right p.text.now p.tokens.now → is_refused p' ≡ false → p'.values.now ≡ p.values.now
  unfolding eval
  emit-same w h = reported-same kind detail q p.state p.nodes.now p.values.now p.values.now p.reports.now p'.state (words p') (unrefused e w h).1

-- ---- events, one after the other

-- The run goes over any values that are lent; in the values as they are, the bytes are held. They end with the count `c'`.
pub record Decodes (es : List Event) (at : ℕ) (c : Option ℕ) (p : Parser) (c' : Option ℕ) (p' : Parser) : Type 0 where
  pub does : (lent : List ℕ) → Does (emit_events es) (lending p lent) tt (lending p' lent)
  pub holds : Right p.text.now p.tokens.now → (lent bs : List ℕ) → is_refused p' ≡ false → Held lent at bs c p.values.now → Held lent at (bs ++ bytes_of es) c' p'.values.now

bytes-append : (es fs : List Event) → bytes_of (es ++ fs) ≡ bytes_of es ++ bytes_of fs
unfolding bytes_of
bytes-append [] fs = refl
bytes-append (byte b ∷ es) fs = ap (λ (l : List ℕ). b ∷ l) (bytes-append es fs)
bytes-append (report k d p ∷ es) fs = bytes-append es fs

module _ (p : Parser) where
  emits : (es fs : List Event) (s : State) (m : Memory)
      → run p (emit_events (es ++ fs)) s m ≡ bind (run p (emit_events es) s m) (λ _ t n. run p (emit_events fs) t n)
  unfolding eval emit_events
  emits [] fs s m = refl
  emits (byte b ∷ es) fs s m = emits es fs s m
  emits (report k e q ∷ es) fs s m =
      go (reported k e q s m) (emits es fs)
    where
      go : (o : Out (Unit {0})) → ((t : State) (n : Memory) → run p (emit_events (es ++ fs)) t n ≡ bind (run p (emit_events es) t n) (λ _ u k. run p (emit_events fs) u k))
          → bind o (λ _ t n. run p (emit_events (es ++ fs)) t n) ≡ bind (bind o (λ _ t n. run p (emit_events es) t n)) (λ _ u k. run p (emit_events fs) u k)
      go (done a t n) ih = ih t n
      go (refused number place) ih = refl

module _ (at : ℕ) (c : Option ℕ) (p : Parser) where
  pub decodes-none : Decodes [] at c p c p
  unfolding emit_events bytes_of
  decodes-none = record { does = λ lent. gives; holds = λ w lent bs h k. rw append-nil k }

  pub decodes-byte : (b : ℕ) (c' : Option ℕ) (vs' : List ℕ) → PushByte at b c p.values.now c' vs' → Decodes (byte b ∷ []) at c p c' (lending p vs')
  unfolding emit_events bytes_of
  decodes-byte b c' vs' q = record { does = λ lent. gives; holds = λ w lent bs h k. q.holds lent bs k }

  pub decodes-report : (kind detail : ℕ) (q : Span) (p' : Parser) → Does (emit kind detail q) p tt p' → Decodes (report kind detail q ∷ []) at c p c p'
  unfolding emit_events bytes_of
  decodes-report kind detail q p' e =
      record {
        does = λ lent. then (emit-over kind detail q p p' e lent) gives;
        holds = λ w lent bs h k. rw (append-nil, emit-same kind detail q p p' e w h) k;
      }

  pub decodes-then : (es fs : List Event) (c₁ : Option ℕ) (p₁ : Parser) (c₂ : Option ℕ) (p₂ : Parser)
      → Decodes es at c p c₁ p₁ → Decodes fs at c₁ p₁ c₂ p₂ → Decodes (es ++ fs) at c p c₂ p₂
  unfolding eval
  decodes-then es fs c₁ p₁ c₂ p₂ e f =
      record {
        does = λ lent.
            let both = then {c = emit_events es} {f = λ _. emit_events fs} (e.does lent) (f.does lent) in
            record {
              is =
                  λ w. both.is w
                  ∙ ap (λ (o : Out (Unit {0})). elim p.refused [ None ↦ o | Some r ↦ refused (number r.refusal) r.place ])
                  (sym (emits (lending p lent) es fs p.state (words (lending p lent))));
              kept = both.kept;
            };
        holds = λ w lent bs h k.
            let w₁ = right_kept (e.does lent).kept w in
            rw (bytes-append es fs, ← append_assoc) (f.holds w₁ lent (bs ++ bytes_of es) h (e.holds w lent bs (unrefused (f.does lent) w₁ h).0 k));
      }

-- ---- a loop over events: those that are decoded, and those that are left

pub record Walk (at : ℕ) (total : List Event) (c : Option ℕ) (p : Parser) (rest : List Event) (c' : Option ℕ) (p' : Parser) : Type 0 where
  pub past : List Event
  pub left : total ≡ past ++ rest
  pub decodes : Decodes past at c p c' p'

module _ (at : ℕ) (total : List Event) (c : Option ℕ) (p : Parser) where
  pub walk_first : Walk at total c p total c p
  walk_first = record { past = []; left = refl; decodes = decodes-none at c p }

  module _ (rest : List Event) (c₁ : Option ℕ) (p₁ : Parser) (w : Walk at total c p rest c₁ p₁) where
    pub walk-on : (es rest' : List Event) (c₂ : Option ℕ) (p₂ : Parser) → rest ≡ es ++ rest' → Decodes es at c₁ p₁ c₂ p₂ → Walk at total c p rest' c₂ p₂
    walk-on es rest' c₂ p₂ e f =
        record {
          past = w.past ++ es;
          left = w.left ∙ (rw e (sym (append_assoc w.past es rest')));
          decodes = decodes-then at c p w.past es c₁ p₁ c₂ p₂ w.decodes f;
        }

    pub walk-last : rest ≡ [] → Decodes total at c p c₁ p₁
    walk-last e = let f : total ≡ w.past = w.left ∙ rw (e, append-nil) in rw f w.decodes
