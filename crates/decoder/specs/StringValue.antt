-- What making the value of a string does, whose bytes are held.
use Rattle.std.specs.Prelude.{◌≡◌, refl, true, false, Option, Some, None, List, ℕ, ◌+◌, ◌-◌, ◌/◌, ◌%◌, ◌≤◌, ◌<◌, min, length, take, drop, set}
use Rattle.std.proofs.Common.{sym, ◌∙◌, append-nil, arith, length-drop}
use Rattle.words.specs.declared.refusal.Refusal.TheVariants.{ValuesDontFit}
use Rattle.words.specs.declared.refusal.Refused.{Refused}
use Rattle.words.specs.Value
use Rattle.words.specs.Words.{value_head}
use Rattle.literals.specs.Strings.{fours, string_value}
use Rattle.definition.specs.Prog.{value}
use Rattle.reading.specs.declared.parser.Parser.{Parser}
use Rattle.reading.specs.Standing as Standing
use Rattle.reading.specs.Standing.{is_refused, refused_at}
use Rattle.reading.specs.Does.{Does, view, kept_then, refused-kept}
use Rattle.words.specs.Parts.{part-whole, part-rest}
use Rattle.values.specs.Kept.{Put, Kept, past_words, lending, back-lent, lent-stays, kept-fits, value-full, value-fits}
use Rattle.decoder.specs.Fours.{Held, packed, fours-length}

-- Whatever bytes are held behind the place of the next value's first word, it does what `value` does with them.
pub record StringKept (c : Option ℕ) (p : Parser) (offset : ℕ) (p' : Parser) : Type 0 where
  pub does : (lent bs : List ℕ) → Held lent p.state.values bs c p.values.now → Does (value (string_value bs)) (lending p lent) offset p'
  pub kept : Standing.Kept p p'

none_lent : (lent : List ℕ) (at : ℕ) (bs : List ℕ) (c : Option ℕ) (vs : List ℕ) → Held lent at bs c vs → length vs ≤ at → length lent < at + length (string_value bs)
unfolding string_value
none_lent lent at bs c vs k g = omega (arith, k.long)

full-lent : (lent : List ℕ) (at : ℕ) (bs vs : List ℕ) → Held lent at bs None vs → length lent < at + length (string_value bs)
unfolding string_value
full-lent lent at bs vs k = omega (arith, k.by)

fits-lent : (lent : List ℕ) (at : ℕ) (bs vs : List ℕ) (n : ℕ) → Held lent at bs (Some n) vs → at < length vs → (head : ℕ) → head ≡ value_head Value.String n → (r : ℕ) → r ≡ (n + 3) / 4
    → Kept (string_value bs) lent at (Some (at + 1 + r)) (set vs at head)
unfolding string_value
fits-lent lent at bs vs n k h head eh r er =
    let m = length (fours bs) in
    let out = packed bs (drop (at + 1) lent) in
    let en : n ≡ length bs = k.by.0 in
    let em : r ≡ m = er ∙ (rw en (sym (fours-length bs))) in
    let first : head ≡ value_head Value.String (length bs) = eh ∙ rw en in
    let l : m ≤ length (drop (at + 1) lent) = omega (arith, k.by.1, length-drop (at + 1) lent) in
    let p : Put (fours bs) (take (length lent - (at + 1)) (drop (at + 1) lent)) (Some m) out = rw (part-whole (at + 1) lent) (refl, l, refl) in
    let q = kept-fits (value_head Value.String (length bs)) (fours bs) lent at (omega (arith, k.long)) (Some m) out p m refl in
    rw (first, em, k.by.2) (rw (part-rest (at + 1) lent, append-nil) at q)

-- As many words as `div_ceil` says.
pub rounded : (n r : ℕ) → r ≡ n / 4 + min 1 (n % 4) → r ≡ (n + 3) / 4
rounded n r e = omega (arith, e)

module _ (c : Option ℕ) (p : Parser) where
  abbrev at : ℕ
  at = p.state.values

  -- What was refused stays so, whatever words and state it then has.
  pub string-stays : is_refused p ≡ true → (p' : Parser) → p'.refused ≡ p.refused → Standing.Kept p p' → StringKept c p at p'
  string-stays h p' g k =
      record {
        does = λ lent bs held. record { is = λ w. there p.refused refl ∙ (lent-stays {c = value (string_value bs)} {p = p} lent h).is w; kept = kept_then back-lent k };
        kept = k;
      }
    where
      there : (t : Option Refused) → p.refused ≡ t → view at p' ≡ view at p
      there None e =
          let z : false ≡ true = rw e at h in
          absurd cc
      there (Some r) e = rw (g, e)

  module _ (h : is_refused p ≡ false) where
    -- Where the words are more than there is room for.
    refusing : ((lent bs : List ℕ) → Held lent at bs c p.values.now → length lent < at + length (string_value bs)) → StringKept c p at (refused_at p ValuesDontFit)
    refusing f = record { does = λ lent bs k. value-full (lending p lent) h (string_value bs) None p.values.now (f lent bs k) refl; kept = refused-kept }

    pub string-none : length p.values.now ≤ at → StringKept c p at (refused_at p ValuesDontFit)
    string-none g = refusing (λ lent bs k. none_lent lent at bs c p.values.now k g)

    pub string-full : c ≡ None → StringKept c p at (refused_at p ValuesDontFit)
    string-full g = refusing (λ lent bs k. full-lent lent at bs p.values.now (rw g at k))

    pub string-fits : (n : ℕ) → c ≡ Some n → at < length p.values.now → (head : ℕ) → head ≡ value_head Value.String n → (r : ℕ) → r ≡ (n + 3) / 4
        → StringKept c p at (past_words (lending p (set p.values.now at head)) (at + 1 + r))
    string-fits n e g head eh r er =
        record {
          does = λ lent bs k.
              value-fits (lending p lent) h (string_value bs) (Some (at + 1 + r)) (set p.values.now at head)
              (fits-lent lent at bs p.values.now n (rw e at k) g head eh r er) (at + 1 + r) refl;
          kept = record { text = refl; tokens = refl; nodes = refl; values = refl; reports = refl; levels = refl };
        }
