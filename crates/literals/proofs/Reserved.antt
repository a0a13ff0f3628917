-- "Report kind 11 is never made again." (01, W7): decoding makes no report with it.
use Rattle.std.specs.Prelude.{Bool, true, false, cond, List, [], ◌∷◌, ◌++◌, ℕ, zero, suc, eqb, ◌||◌, ◌+◌, ◌||◌, ◌+◌}
use Rattle.std.proofs.Math.Option.{Option, none, some}
use Rattle.literals.specs.declared.Span.{Span}
use Rattle.literals.specs.Numbers.{nibble}
use Rattle.literals.specs.Strings.{Event, Char, Piece, piece, escape, two_digits, escaped, decoded_from, decode_string, bad_digit, hex_from, decode_hex, is_bad}
use Rattle.literals.specs.Reserved.{Others, no-others, other-report, other_byte}

others-append : {xs ys : List Event} → Others xs → Others ys → Others (xs ++ ys)
others-append no-others g = g
others-append (other_byte h) g = other_byte (others-append h g)
others-append (other-report t h) g = other-report t (others-append h g)

others-test : {xs ys : List Event} (t : Bool) → Others xs → Others ys → Others (cond t xs ys)
others-test true h g = h
others-test false h g = g

others-option : {f : ℕ → List Event} {ys : List Event} (o : Option ℕ) → ((b : ℕ) → Others (f b)) → Others ys → Others (elim o [ some b ↦ f b | none ↦ ys ])
others-option (some b) h g = h b
others-option none h g = g

-- The same of what a backslash stands for.
data OtherPiece : Piece → Type 0 where
  other-piece : {e : Event} {n : ℕ} → Others (e ∷ []) → OtherPiece (piece e n)

piece-test : {p q : Piece} (t : Bool) → OtherPiece p → OtherPiece q → OtherPiece (elim t [ true ↦ p | false ↦ q ])
piece-test true h g = h
piece-test false h g = g

piece-option : {f : ℕ → Piece} {q : Piece} (o : Option ℕ) → ((b : ℕ) → OtherPiece (f b)) → OtherPiece q → OtherPiece (elim o [ some b ↦ f b | none ↦ q ])
piece-option (some b) h g = h b
piece-option none h g = g

piece-others : {p : Piece} {es : List Event} → OtherPiece p → Others es → Others (p.event ∷ es)
piece-others (other-piece h) g = others-append h g

escaped-other : (at : ℕ) (cs : List Char) → OtherPiece (escaped at cs)
unfolding escaped
escaped-other at [] = other-piece (other-report tt no-others)
escaped-other at (e ∷ cs) =
    piece-option (escape e.code) (λ b. other-piece (other_byte no-others))
    (piece-test (eqb e.code 120) (piece-option (two_digits cs) (λ b. other-piece (other_byte no-others)) (other-piece (other-report tt no-others))) (other-piece (other-report tt no-others)))

decoded-others : (at taken : ℕ) (s : List ℕ) → Others (decoded_from at taken s)
unfolding decoded_from
decoded-others at taken [] = no-others
decoded-others at (suc taken) (b ∷ s) = decoded-others _ _ s
decoded-others at zero (b ∷ s) = others-test (eqb b 92) (piece-others (escaped-other at _) (decoded-others (at + 1) _ s)) (other_byte (decoded-others _ _ s))

pub string-others : (token : Span) (s : List ℕ) → Others (decode_string token s)
unfolding decode_string
string-others token s = decoded-others _ _ _

bad-others : (already : Bool) (c : Char) → Others (bad_digit already c)
unfolding bad_digit
bad-others already c = others-option (nibble c.code) (λ d. no-others) (others-test already no-others (other-report tt no-others))

hex-others-from : (token : Span) (already : Bool) (cs : List Char) → Others (hex_from token already cs)
unfolding hex_from
hex-others-from token already [] = no-others
hex-others-from token already (c ∷ []) = others-append (bad-others already c) (other-report tt no-others)
hex-others-from token already (c ∷ d ∷ cs) = others-append (bad-others already c) (others-append (bad-others _ d) (other_byte (hex-others-from token ((already || (is_bad c)) || (is_bad d)) cs)))

pub hex-others : (token : Span) (s : List ℕ) → Others (decode_hex token s)
unfolding decode_hex
hex-others token s = hex-others-from token _ _
