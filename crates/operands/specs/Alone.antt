-- Programs that leave the values alone: what they do over other values, they do over these, and the next value stays where it goes.
use Rattle.std.specs.Prelude.{◌≡◌, Option, Some, None, Bool, leb, length}
use Rattle.std.proofs.Math.Path.{refl}
use Rattle.std.proofs.Common.{sym, ◌∙◌, ap}
use Rattle.std.proofs.Math.Bool.{true, false}
use mathlib.Core.List.{List, [], ◌∷◌}
use Prim.Native.Nat.{ℕ, zero, suc, ◌+◌, ◌*◌, ◌-◌}
use Rattle.words.specs.Refusal.{number}
use Rattle.words.specs.declared.refusal.Refused.{Refused}
use Rattle.words.specs.declared.error_token.ErrorToken.{ErrorToken}
use Rattle.words.specs.ErrorToken.{error_number}
use Rattle.words.specs.Token.{is_trivia, lex_error, LexError}
use Rattle.words.specs.Words.{report_width}
use Rattle.literals.specs.declared.Span.{Span}
use Rattle.literals.specs.Strings.{Event, byte, report}
use Rattle.definition.specs.declared.State.{State}
use Rattle.definition.specs.Prog.{Prog, Memory, memory, Out, done, refused, bind, with_values, reported, kind_at, is_marked, passed, skipped, peek, pass, eval}
use Rattle.definition.specs.Strings.{emit_events}
use Rattle.reading.specs.declared.parser.Parser.{Parser}
use Rattle.reading.specs.Source.{Right}
use Rattle.reading.specs.Standing.{is_refused, words}
use Rattle.reading.specs.Does.{Does, view, run, from}
use Rattle.values.specs.Kept.{lending, lent-kept}
use Rattle.decoder.specs.Decodes.{unrefused}

-- What a program comes to, with other values, and with the next one at a place.
abbrev over : {A : Type 0} → ℕ → List ℕ → Out A → Out A
over at lent (done a s m) = done a (with_values at s) (memory m.nodes lent m.reports)
over at lent (refused number place) = refused number place

abbrev Alone : {A : Type 0} → (State → Memory → Out A) → Type 0
Alone f = (s : State) (ns vs lent rs : List ℕ) → f s (memory ns lent rs) ≡ over s.values lent (f s (memory ns vs rs))

abbrev state_of : {A : Type 0} → State → Out A → State
state_of t (done a s m) = s
state_of t (refused number place) = t

abbrev memory_of : {A : Type 0} → Memory → Out A → Memory
memory_of n (done a s m) = m
memory_of n (refused number place) = n

module _ {A B : Type 0} (f : State → Memory → Out A) (k : A → State → Memory → Out B) (p : Alone f) (q : (a : A) → Alone (k a)) where
  alone_bind : Alone (λ s m. bind (f s m) k)
  alone_bind s ns vs lent rs = rw (p s ns vs lent rs) (go (f s (memory ns vs rs)) (p s ns vs vs rs))
    where
      go : (o : Out A) → o ≡ over s.values vs o → bind (over s.values lent o) k ≡ over s.values lent (bind o k)
      go (refused number place) e = refl
      go (done a t n) e =
          let et : t ≡ with_values s.values t = ap (state_of t) e in
          let en : n ≡ memory n.nodes vs n.reports = ap (memory_of n) e in
          q a (with_values s.values t) n.nodes vs lent n.reports ∙ ap (over s.values lent) (sym (ap (λ (x : State). k a x n) et ∙ ap (k a (with_values s.values t)) en))

reported-alone : (kind detail : ℕ) (p : Span) → Alone (reported kind detail p)
unfolding reported
reported-alone kind detail p s ns vs lent rs = go (leb (report_width * s.reports + report_width) (length rs)) refl
  where
    go : (t : Bool) → leb (report_width * s.reports + report_width) (length rs) ≡ t
        → reported kind detail p s (memory ns lent rs) ≡ over s.values lent (reported kind detail p s (memory ns vs rs))
    go true e = rw (e, reported)
    go false e = rw (e, reported)

module _ (text tokens : List ℕ) where
  passed-alone : Alone (passed text tokens)
  unfolding passed
  passed-alone s ns vs lent rs = go (lex_error (kind_at text tokens s.cursor)) refl
    where
      told : (error : ErrorToken) → lex_error (kind_at text tokens s.cursor) ≡ Some error → (t : Bool) → is_marked s ≡ t
          → passed text tokens s (memory ns lent rs) ≡ over s.values lent (passed text tokens s (memory ns vs rs))
      told error e true f = rw (e, f, passed)
      told error e false f = rw (e, f, passed) (reported-alone _ (error_number error) _ _ ns vs lent rs)

      go : (l : LexError) → lex_error (kind_at text tokens s.cursor) ≡ l
          → passed text tokens s (memory ns lent rs) ≡ over s.values lent (passed text tokens s (memory ns vs rs))
      go None e = rw (e, passed)
      go (Some error) e = told error e (is_marked s) refl

  skipped-alone : (left : ℕ) → Alone (skipped text tokens left)
  unfolding skipped
  skipped-alone zero s ns vs lent rs = refl
  skipped-alone (suc left) s ns vs lent rs = go (skipped-alone left) (is_trivia (kind_at text tokens s.cursor)) refl
    where
      go : Alone (skipped text tokens left) → (t : Bool) → is_trivia (kind_at text tokens s.cursor) ≡ t
          → skipped text tokens (suc left) s (memory ns lent rs) ≡ over s.values lent (skipped text tokens (suc left) s (memory ns vs rs))
      go ih true e = rw (e, skipped) (alone_bind (passed text tokens) (λ _ t n. skipped text tokens left t n) passed-alone (λ _. ih) s ns vs lent rs)
      go ih false e = rw (e, skipped)

module _ (p : Parser) where
  pub peek-alone : Alone (run p peek)
  unfolding eval
  peek-alone s ns vs lent rs =
      alone_bind (skipped p.text.now p.tokens.now (s.cursor.end - s.cursor.at)) (λ _ t n. done (kind_at p.text.now p.tokens.now t.cursor) t n)
      (skipped-alone p.text.now p.tokens.now (s.cursor.end - s.cursor.at)) (λ _ t ms us ks qs. refl) s ns vs lent rs

  pub pass_alone : Alone (run p pass)
  unfolding eval
  pass_alone s ns vs lent rs =
      alone_bind (skipped p.text.now p.tokens.now (s.cursor.end - s.cursor.at)) (λ _ t n. passed p.text.now p.tokens.now t n)
      (skipped-alone p.text.now p.tokens.now (s.cursor.end - s.cursor.at)) (λ _. passed-alone p.text.now p.tokens.now) s ns vs lent rs

  pub events-alone : (es : List Event) → Alone (run p (emit_events es))
  unfolding eval emit_events
  events-alone [] s ns vs lent rs = refl
  events-alone (byte b ∷ es) s ns vs lent rs = events-alone es s ns vs lent rs
  events-alone (report kind detail q ∷ es) s ns vs lent rs =
      alone_bind (reported kind detail q) (λ _ t n. run p (emit_events es) t n) (reported-alone kind detail q) (λ _. events-alone es) s ns vs lent rs

-- The same of functions.
module _ {A : Type 0} {c : Prog A} {p p' : Parser} {a : A} (al : Alone (run p c)) (e : Does c p a p') where
  abbrev at : ℕ
  at = p.state.values

  -- One that goes on is so over the values as they are.
  still : done a p'.state (words p') ≡ run p c p.state (words p) → done a p'.state (words p') ≡ over at p.values.now (done a p'.state (words p'))
  still g = g ∙ (al p.state p.nodes.now p.values.now p.values.now p.reports.now ∙ ap (over at p.values.now) (sym g))

  pub does-same : Right p.text.now p.tokens.now → is_refused p' ≡ false → (p'.values.now ≡ p.values.now) × (p'.state.values ≡ at)
  does-same w h =
      let k = still (unrefused e w h).1 in
      (ap (λ (x : Out A). (memory_of (memory [] [] []) x).values) k, ap (λ (x : Out A). (state_of p.state x).values) k)

  pub does-over : (lent : List ℕ) → Does c (lending p lent) a (lending p' lent)
  does-over lent = record { is = λ w. go (e.is w) p.refused p'.refused refl refl; kept = lent-kept e.kept lent }
    where
      go : view a p' ≡ from p (run p c) → (t u : Option Refused) → p.refused ≡ t → p'.refused ≡ u → view a (lending p' lent) ≡ from (lending p lent) (run p c)
      go is None None et eu =
          let f : done a p'.state (words p') ≡ run p c p.state (words p) = rw (et, eu) at is in
          let z : p'.state ≡ with_values at p'.state = ap (state_of p.state) (still f) in
          rw (et, eu, al p.state p.nodes.now p.values.now lent p.reports.now, ← f) (ap (λ (x : State). done a x (words (lending p' lent))) z)
      go is None (Some y) et eu =
          let f : refused (number y.refusal) y.place ≡ run p c p.state (words p) = rw (et, eu) at is in
          rw (et, eu, al p.state p.nodes.now p.values.now lent p.reports.now, ← f)
      go is (Some x) None et eu =
          let f : ◌≡◌ {A = Out A} (done a p'.state (words p')) (refused (number x.refusal) x.place) = rw (et, eu) at is in
          absurd cc
      go is (Some x) (Some y) et eu =
          let f : ◌≡◌ {A = Out A} (refused (number y.refusal) y.place) (refused (number x.refusal) x.place) = rw (et, eu) at is in
          rw (et, eu) f
