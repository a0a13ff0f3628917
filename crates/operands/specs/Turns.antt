-- What a turn of a string literal's loop does, whatever values were lent and whatever bytes are held.
use Rattle.std.specs.Prelude.{◌≡◌, refl, ◌⊎◌, Option, Some, None, true, false, ◌||◌, List, [], ◌++◌, ℕ, eqb}
use Rattle.std.proofs.Common.{sym, ◌∙◌, append-nil, ne_eqb, inl, inr, ⊎_elim}
use Rattle.std.proofs.Math.Option as Math
use Rattle.std.proofs.Math.Option.{some}
use Rattle.words.specs.Token
use Rattle.literals.specs.Strings.{Event, bytes_of, decode_string, decode_hex}
use Rattle.literals.specs.Spelling as Source
use Rattle.definition.specs.Prog.{Turn, again, stop, Prog, Give, Branch, peek, pass, here, eval}
use Rattle.definition.specs.Strings.{StringBuf, decode_token, string_turn}
use Rattle.reading.specs.declared.parser.Parser.{Parser}
use Rattle.reading.specs.Source.{Right}
use Rattle.reading.specs.Standing.{is_refused}
use Rattle.reading.specs.Does.{Does, then, gives, when_true, when_false, same}
use Rattle.cst.specs.Laws.{position-is}
use Rattle.values.specs.Kept.{lending}
use Rattle.decoder.specs.Decodes.{Decodes, decodes-none, unrefused, right_kept}
use Rattle.decoder.specs.Fours.{Held}
use Rattle.operands.specs.Number.{spelling-is}
use Rattle.operands.specs.Alone.{peek-alone, pass_alone, events-alone, does-same, does-over}

abbrev pub buf : List ℕ → Math.Option ℕ → StringBuf
buf bs end = record { bytes = bs; end = end }

-- A turn that adds bytes and ends past a token, or that finds none.
abbrev pub turn_of : List ℕ → Math.Option ℕ → List ℕ → Option ℕ → Turn StringBuf
turn_of bs end added (Some n) = again (buf (bs ++ added) (some n))
turn_of bs end added None = stop (buf bs end)

pub record Passed (c : Option ℕ) (p : Parser) (past : Option ℕ) (c' : Option ℕ) (p' : Parser) : Type 0 where
  pub does : Does pass p tt p'
  pub end : past ≡ Some p'.state.cursor.at
  pub count : c' ≡ c

pub record Turned (at : ℕ) (c : Option ℕ) (p : Parser) (past : Option ℕ) (c' : Option ℕ) (p' : Parser) : Type 0 where
  pub added : List ℕ
  pub nothing : past ≡ None → added ≡ []
  pub does : (lent bs : List ℕ) (e : Math.Option ℕ) → Does (string_turn (buf bs e)) (lending p lent) (turn_of bs e added past) (lending p' lent)
  pub holds : Right p.text.now p.tokens.now → (lent bs : List ℕ) → is_refused p' ≡ false → Held lent at bs c p.values.now → Held lent at (bs ++ added) c' p'.values.now
  pub stays : Right p.text.now p.tokens.now → is_refused p' ≡ false → p'.state.values ≡ p.state.values

here-is : {p : Parser} → Does here p (Source.token_span p.tokens.now p.state.cursor.at) p
unfolding eval
here-is = record { is = λ w. refl; kept = same }

pub some-none : (n : ℕ) → ◌≡◌ {A = Option ℕ} (Some n) None → ⊥
some-none n e = absurd cc

-- What is done with the next token, by its kind.
abbrev chosen : StringBuf → Parser → ℕ → ℕ → Prog (Turn StringBuf)
chosen b p kind n =
    let place = Source.token_span p.tokens.now n in
    let source = Source.spelling p.text.now p.tokens.now n in
    Branch (eqb kind Token.LooseStringLiteral) (decode_token b (decode_string place source))
    (Branch (eqb kind Token.LooseHexStringLiteral) (decode_token b (decode_hex place source))
    (Branch (eqb kind Token.MultilineStringError || eqb kind Token.UnclosedStringError) (decode_token b []) (Give (stop b))))

module _ (at : ℕ) (c : Option ℕ) (p : Parser) (kind : ℕ) (p₁ : Parser) (e₁ : Does peek p kind p₁) where
  abbrev n : ℕ
  n = p₁.state.cursor.at

  looked : (lent bs : List ℕ) (e : Math.Option ℕ) (a : Turn StringBuf) (p₂ : Parser) → Does (chosen (buf bs e) p₁ kind n) (lending p₁ lent) a p₂
      → Does (string_turn (buf bs e)) (lending p lent) a p₂
  unfolding string_turn
  looked lent bs e a p₂ f = then (does-over (peek-alone p) e₁ lent) (then here-is (then spelling-is f))

  -- No string token comes next.
  pub turned_none : (kind ≡ Token.LooseStringLiteral → ⊥) → (kind ≡ Token.LooseHexStringLiteral → ⊥) → ((kind ≡ Token.MultilineStringError) ⊎ (kind ≡ Token.UnclosedStringError) → ⊥)
      → Turned at c p None c p₁
  turned_none h₁ h₂ h₃ =
      record {
        added = [];
        nothing = λ e. refl;
        does =
            λ lent bs e.
            looked lent bs e (stop (buf bs e)) (lending p₁ lent)
            (when_false (ne_eqb kind _ h₁) (when_false (ne_eqb kind _ h₂) (when_false (rw (ne_eqb kind Token.MultilineStringError (λ z. h₃ (inl z)), ne_eqb kind Token.UnclosedStringError (λ z. h₃ (inr z)))) gives)));
        holds = λ w lent bs h k. rw (append-nil, (does-same (peek-alone p) e₁ w h).0) k;
        stays = λ w h. (does-same (peek-alone p) e₁ w h).1;
      }

  -- One comes, is decoded, and passed.
  module _ (es : List Event) (c₂ : Option ℕ) (p₂ : Parser) (e₂ : Decodes es at c p₁ c₂ p₂) (past c₃ : Option ℕ) (p₃ : Parser) (e₃ : Passed c₂ p₂ past c₃ p₃) where
    decoded : (lent bs : List ℕ) (e : Math.Option ℕ) → Does (decode_token (buf bs e) es) (lending p₁ lent) (turn_of bs e (bytes_of es) past) (lending p₃ lent)
    unfolding decode_token
    decoded lent bs e = rw e₃.end (then (e₂.does lent) (then (does-over (pass_alone p₂) e₃.does lent) (then position-is gives)))

    turned : ((b : StringBuf) (lent : List ℕ) (a : Turn StringBuf) → Does (decode_token b es) (lending p₁ lent) a (lending p₃ lent)
        → Does (chosen b p₁ kind n) (lending p₁ lent) a (lending p₃ lent))
        → Turned at c p past c₃ p₃
    turned f =
        record {
          added = bytes_of es;
          nothing = λ e. absurd (some-none p₃.state.cursor.at (sym e₃.end ∙ e));
          does = λ lent bs e. looked lent bs e (turn_of bs e (bytes_of es) past) (lending p₃ lent) (f (buf bs e) lent (turn_of bs e (bytes_of es) past) (decoded lent bs e));
          holds = λ w lent bs h k. rw (e₃.count, (passing w h).0) (e₂.holds (right₁ w) lent bs (decoding w h) (rw (peeking w h).0 k));
          stays = λ w h. (passing w h).1 ∙ ((does-same (events-alone p₁ es) (e₂.does p₁.values.now) (right₁ w) (decoding w h)).1 ∙ (peeking w h).1);
        }
      where
        right₁ : Right p.text.now p.tokens.now → Right p₁.text.now p₁.tokens.now
        right₁ w = right_kept e₁.kept w

        right₂ : Right p.text.now p.tokens.now → Right p₂.text.now p₂.tokens.now
        right₂ w = right_kept (e₂.does p₁.values.now).kept (right₁ w)

        decoding : Right p.text.now p.tokens.now → is_refused p₃ ≡ false → is_refused p₂ ≡ false
        decoding w h = (unrefused e₃.does (right₂ w) h).0

        passing : Right p.text.now p.tokens.now → is_refused p₃ ≡ false → (p₃.values.now ≡ p₂.values.now) × (p₃.state.values ≡ p₂.state.values)
        passing w h = does-same (pass_alone p₂) e₃.does (right₂ w) h

        peeking : Right p.text.now p.tokens.now → is_refused p₃ ≡ false → (p₁.values.now ≡ p.values.now) × (p₁.state.values ≡ p.state.values)
        peeking w h = does-same (peek-alone p) e₁ w (unrefused (e₂.does p₁.values.now) (right₁ w) (decoding w h)).0

  module _ (c₂ : Option ℕ) (p₂ : Parser) (past c₃ : Option ℕ) (p₃ : Parser) (e₃ : Passed c₂ p₂ past c₃ p₃) where
    pub turned-string : kind ≡ Token.LooseStringLiteral
        → Decodes (decode_string (Source.token_span p₁.tokens.now n) (Source.spelling p₁.text.now p₁.tokens.now n)) at c p₁ c₂ p₂
        → Turned at c p past c₃ p₃
    turned-string h q = turned _ c₂ p₂ q past c₃ p₃ e₃ (λ b lent a f. when_true (rw h) f)

    pub turned-hex : kind ≡ Token.LooseHexStringLiteral
        → Decodes (decode_hex (Source.token_span p₁.tokens.now n) (Source.spelling p₁.text.now p₁.tokens.now n)) at c p₁ c₂ p₂
        → Turned at c p past c₃ p₃
    turned-hex h q = turned _ c₂ p₂ q past c₃ p₃ e₃ (λ b lent a f. when_false (rw h) (when_true (rw h) f))

  -- A broken one has no bytes.
  module _ (past c₃ : Option ℕ) (p₃ : Parser) (e₃ : Passed c p₁ past c₃ p₃) where
    broken : eqb kind Token.LooseStringLiteral ≡ false → eqb kind Token.LooseHexStringLiteral ≡ false
        → (eqb kind Token.MultilineStringError || eqb kind Token.UnclosedStringError) ≡ true → Turned at c p past c₃ p₃
    broken f g h =
        turned [] c p₁ (decodes-none at c p₁) past c₃ p₃ e₃
        (λ b lent a d. when_false f (when_false g (when_true h d)))

    pub turned-broken : (kind ≡ Token.MultilineStringError) ⊎ (kind ≡ Token.UnclosedStringError) → Turned at c p past c₃ p₃
    turned-broken h = ⊎_elim (λ z. broken (rw z) (rw z) (rw z)) (λ z. broken (rw z) (rw z) (rw z)) h

    pub turned-multiline : kind ≡ Token.MultilineStringError → Turned at c p past c₃ p₃
    turned-multiline h = turned-broken (inl h)

    pub turned-unclosed : kind ≡ Token.UnclosedStringError → Turned at c p past c₃ p₃
    turned-unclosed h = turned-broken (inr h)
