-- String literals.
use Rattle.std.specs.Prelude.{◌≡◌, cond, ◌||◌}
use Rattle.std.proofs.Math.Path.{refl, sym, ap}
use Rattle.std.proofs.Common.{◌∙◌, true≢false, arith, lit<}
use Rattle.std.proofs.Math.Bool.{Bool, true, false}
use Rattle.std.proofs.lemmas.Bool.{false≢true}
use Rattle.std.proofs.Math.Option.{Option}
use mathlib.Core.List.{List, [], ◌∷◌, ◌++◌}
use Prim.Native.Nat.{ℕ, zero, suc, ◌+◌, ◌<◌, ◌≤◌, ◌^◌}
use Rattle.std.proofs.Math.Dec.{eqb}
use Rattle.std.proofs.Math.ListN.{length, length-append}
use Rattle.words.specs.Token
use Rattle.words.specs.Token.{lex_error}
use Rattle.words.specs.declared.error_token.ErrorToken.TheVariants as Case
use Rattle.std.specs.Prelude.{Some, None}
use Rattle.words.specs.Node
use Rattle.words.specs.Words.{node_kind, node_payload, node_head}
use Rattle.literals.specs.Spelling as Source
use Rattle.literals.specs.Strings.{Event, byte, report, bytes_of, decode_string, decode_hex, string_value}
use Rattle.definition.specs.Prog.{Turn, again, stop, Then, Give, Branch, value}
use Rattle.definition.specs.Nodes.{alloc_node_from, close_node_at, skip_trivia_start}
use Rattle.definition.specs.Strings.{emit_events, StringBuf, decode_token, string_turn, try_parse_string_literal}
use Rattle.definition.specs.Abstract.{Seen, World, Fate, ok, move_to, with_value}
use Rattle.chart.specs.Row.{Lexeme, RowToken, token}
use Rattle.chart.specs.Tree.{bytes, Trees, node, none, decoded, decoded_hex, quiet, string_tree}
use Rattle.chart.specs.Parser.{Outcome, if, on, bind, failed, prepend, read_strings}
use Rattle.chart.specs.Parser as Chart
use Rattle.tree.specs.Stored.{said, is_name}
use Rattle.tree.proofs.Values.{string-read}
use Rattle.utf8.specs.Bytes.{AreBytes, are-bytes-append}
use Rattle.agreement.specs.Run.{run, turns}
use Rattle.agreement.specs.Sim.{Sim, gives, fails, Made, made, mapped, call-turns, Setting, runs, lexeme_of, Fit, Fits, cost, first-clean, peek-rule, pass-rule}
use Rattle.agreement.specs.Literals.{head-parts, string-bytes-same, string-quiet-same, hex-bytes-same, hex-quiet-same, string-few, hex-string-few, string-are-bytes, spelling-are-bytes, hex-are-bytes, string-value-few}
use Rattle.agreement.specs.Steps.{Done, alloc-rule, close_at}
use Rattle.agreement.specs.Numbers.{built-before}

-- No token that opens a string is an error here.
no-string-error : (kind : ℕ) → lex_error kind ≡ None → (eqb kind Token.MultilineStringError || eqb kind Token.UnclosedStringError) ≡ false
unfolding lex_error
no-string-error kind = go (eqb kind Token.InvalidCharError) (eqb kind Token.MalformedIdentError) (eqb kind Token.MultilineStringError) (eqb kind Token.UnclosedBlockCommentError) (eqb kind Token.UnclosedStringError) (eqb kind Token.AtWithoutIdentError)
  where
    go : (d e h f i g : Bool) → cond d (Some Case.InvalidChar) (cond e (Some Case.MalformedIdent) (cond h (Some Case.MultilineString) (cond f (Some Case.UnclosedBlockComment) (cond i (Some Case.UnclosedString) (cond g (Some Case.AtWithoutIdent) None))))) ≡ None → (h || i) ≡ false
    go true e h f i g q = absurd (let z : ◌≡◌ {A = ℕ} 0 1 = cc in omega arith)
    go false true h f i g q = absurd (let z : ◌≡◌ {A = ℕ} 0 1 = cc in omega arith)
    go false false true f i g q = absurd (let z : ◌≡◌ {A = ℕ} 0 1 = cc in omega arith)
    go false false false true i g q = absurd (let z : ◌≡◌ {A = ℕ} 0 1 = cc in omega arith)
    go false false false false true g q = absurd (let z : ◌≡◌ {A = ℕ} 0 1 = cc in omega arith)
    go false false false false false g q = refl

append-none : (xs : List ℕ) → xs ++ [] ≡ xs
append-none [] = refl
append-none (x ∷ xs) = ap (λ (ys : List ℕ). x ∷ ys) (append-none xs)

append_assoc : (a b c : List ℕ) → (a ++ b) ++ c ≡ a ++ (b ++ c)
append_assoc [] b c = refl
append_assoc (x ∷ a) b c = ap (λ (ys : List ℕ). x ∷ ys) (append_assoc a b c)

-- What the node of a string says, its value just made.
string-said : (text tokens values bs : List ℕ) → length values < 2 ^ 26 → AreBytes bs → length bs < 2 ^ 30
    → (node_kind (node_head Node.StringLiteral (length values)) ≡ Node.StringLiteral) × (said text tokens (values ++ string_value bs) (node_kind (node_head Node.StringLiteral (length values))) (node_payload (node_head Node.StringLiteral (length values))) ≡ Option.some (bytes bs))
unfolding said is_name
string-said text tokens values bs h a g = let (x, y) = head-parts Node.StringLiteral (length values) (lit< tt) h in (x, rw (x, y) (string-read values bs a g))

-- The text's bytes are bytes, so those of its strings are.
module _ (s : Setting) (text-bytes : AreBytes s.text) where
  -- The reports of decoding.
  module _ {B : Type 0} {P : B → World → Outcome → Type 0} where
    emit-quiet : (es : List Event) (w : World) (k : Unit {0} → World → Fate B) {o : Outcome} → quiet es ≡ true → Sim P (k tt w) o → Sim P (runs s (emit_events es) w k) o
    unfolding run emit_events quiet
    emit-quiet [] w k e h = h
    emit-quiet (byte b ∷ es) w k e h = emit-quiet es w k e h
    emit-quiet (report kind detail p ∷ es) w k e h = absurd (false≢true e)

    emit-loud : (es : List Event) (w : World) (k : Unit {0} → World → Fate B) → quiet es ≡ false → Sim P (runs s (emit_events es) w k) failed
    unfolding run emit_events quiet
    emit-loud [] w k e = absurd (true≢false e)
    emit-loud (byte b ∷ es) w k e = emit-loud es w k e
    emit-loud (report kind detail p ∷ es) w k e = fails

  -- A token of a string: what it decodes to, here and in the chart.
  record Decoded (es cs : List Event) (size : ℕ) : Type 0 where
    calm : quiet es ≡ quiet cs
    same : bytes_of es ≡ bytes_of cs
    are : AreBytes (bytes_of cs)
    few : length (bytes_of cs) ≤ size

  -- Strings that follow bytes `bs`, the last of them past token e.
  data Strung (w : World) (bs : List ℕ) (xs : List RowToken) (b : StringBuf) : World → Trees → List RowToken → Type 0 where
    strung : (i : ℕ) (row : List Seen) (cs : List ℕ) (e : ℕ) {ys : List RowToken} → b.bytes ≡ bs ++ cs → b.end ≡ Option.some e → Fit s w.store w.values row w.sane ys → AreBytes cs → length cs + cost ys ≤ cost xs → length ys ≤ length xs
        → Strung w bs xs b (move_to i row w) (string_tree cs) ys

  strung-more : {w u : World} {bs : List ℕ} (ds : List ℕ) {xs ys zs : List RowToken} {b : StringBuf} {t : Trees} {i K : ℕ} {row : List Seen} {v : Lexeme} → AreBytes ds → length ds ≤ length v.spelling → xs ≡ token K v ∷ ys
      → Strung (move_to i row w) (bs ++ ds) ys b u t zs → Strung w bs xs b u (prepend ds t) zs
  unfolding prepend cost
  strung-more {bs = bs} ds a l e (strung i row cs n q p f h m g) =
      strung i row (ds ++ cs) n (q ∙ append_assoc bs ds cs) p f (are-bytes-append ds cs a h) (rw (e, length-append ds cs) (omega arith)) (rw e (omega arith))

  -- How a string token decodes.
  decoded-string : (j : ℕ) → Decoded (decode_string (Source.token_span s.tokens j) (lexeme_of s j).spelling) (decoded (lexeme_of s j)) (length (lexeme_of s j).spelling)
  decoded-string j =
      record {
        calm = string-quiet-same (Source.token_span s.tokens j) (Source.span 0 0) (lexeme_of s j).spelling;
        same = string-bytes-same (Source.token_span s.tokens j) (Source.span 0 0) (lexeme_of s j).spelling;
        are = string-are-bytes (Source.span 0 0) (lexeme_of s j).spelling (spelling-are-bytes s.text s.tokens j text-bytes);
        few = string-few (Source.span 0 0) (lexeme_of s j).spelling;
      }

  decoded-hex : (j : ℕ) → Decoded (decode_hex (Source.token_span s.tokens j) (lexeme_of s j).spelling) (decoded_hex (lexeme_of s j)) (length (lexeme_of s j).spelling)
  decoded-hex j =
      record {
        calm = hex-quiet-same (Source.token_span s.tokens j) (Source.span 0 0) (lexeme_of s j).spelling;
        same = hex-bytes-same (Source.token_span s.tokens j) (Source.span 0 0) (lexeme_of s j).spelling;
        are = hex-are-bytes (Source.span 0 0) (lexeme_of s j).spelling;
        few = hex-string-few (Source.span 0 0) (lexeme_of s j).spelling;
      }

  module _ {B : Type 0} {P : B → World → Outcome → Type 0} where
    -- A token of a string is decoded and passed.
    token-rule : (w : World) (k : Turn StringBuf → World → Fate B) (b : StringBuf) (es cs : List Event) (K j : ℕ) {xs ys : List RowToken} (o : Outcome) → Decoded es cs (length (lexeme_of s j).spelling) → Fits s w xs → xs ≡ token K (lexeme_of s j) ∷ ys
        → ((i : ℕ) (row : List Seen) → Fit s w.store w.values row w.sane ys → Sim P (k (again (record { bytes = b.bytes ++ bytes_of cs; end = Option.some (suc i) })) (move_to (suc i) row w)) o)
        → Sim P (runs s (decode_token b es) (move_to j w.row w) k) (if (quiet cs) o failed)
    unfolding run decode_token if
    token-rule w k b es cs K j {xs} {ys} o d f e h = go (quiet cs) refl
      where
        go : (q : Bool) → quiet cs ≡ q → Sim P (runs s (decode_token b es) (move_to j w.row w) k) (if q o failed)
        go true q =
            emit-quiet es (move_to j w.row w) _ (d.calm ∙ q)
            (pass-rule s (move_to j w.row w) (λ _ u. k (again (record { bytes = b.bytes ++ bytes_of es; end = Option.some u.at })) u) f e (λ i row _ t. rw d.same (h i row t.fit)))
        go false q = emit-loud es (move_to j w.row w) _ (d.calm ∙ q)

    -- One turn: a string token, or none. `F` is what the chart does after bytes.
    turn-rule : (w : World) (k : Turn StringBuf → World → Fate B) (b : StringBuf) {xs : List RowToken} (F : List ℕ → List RowToken → Outcome) (m : Outcome) → Fits s w xs
        → ((j K : ℕ) (ds : List ℕ) (ys : List RowToken) (i : ℕ) (row : List Seen) → xs ≡ token K (lexeme_of s j) ∷ ys → AreBytes ds → length ds ≤ length (lexeme_of s j).spelling
        → Fit s w.store w.values row w.sane ys → Sim P (k (again (record { bytes = b.bytes ++ ds; end = Option.some (suc i) })) (move_to (suc i) row w)) (F ds ys))
        → ((i : ℕ) → Sim P (k (stop b) (move_to i w.row w)) m)
        → Sim P (runs s (string_turn b) w k)
        (on Token.LooseStringLiteral xs (λ v ys. if (quiet (decoded v)) (F (bytes_of (decoded v)) ys) failed) (on Token.LooseHexStringLiteral xs (λ v ys. if (quiet (decoded_hex v)) (F (bytes_of (decoded_hex v)) ys) failed) m))
    unfolding run string_turn on if
    turn-rule w k b {xs} F m f g z =
        peek-rule s w (λ kind u. after (eqb kind Token.LooseStringLiteral) (eqb kind Token.LooseHexStringLiteral) (eqb kind Token.MultilineStringError || eqb kind Token.UnclosedStringError) u) f
        (λ i e. rw e (z i))
        (λ j kind ys e _. rw e (go j kind ys e (eqb kind Token.LooseStringLiteral) (eqb kind Token.LooseHexStringLiteral) (eqb kind Token.MultilineStringError || eqb kind Token.UnclosedStringError) (no-string-error kind (first-clean s w f e))))
      where
        after : Bool → Bool → Bool → World → Fate B
        after p q r u =
            runs s
            (Branch p (decode_token b (decode_string (Source.token_span s.tokens u.at) (Source.spelling s.text s.tokens u.at)))
            (Branch q (decode_token b (decode_hex (Source.token_span s.tokens u.at) (Source.spelling s.text s.tokens u.at)))
            (Branch r (decode_token b []) (Give (stop b)))))
            u k

        go : (j kind : ℕ) (ys : List RowToken) → xs ≡ token kind (lexeme_of s j) ∷ ys → (p q r : Bool) → r ≡ false
            → Sim P (after p q r (move_to j w.row w)) (if p (if (quiet (decoded (lexeme_of s j))) (F (bytes_of (decoded (lexeme_of s j))) ys) failed) (if q (if (quiet (decoded_hex (lexeme_of s j))) (F (bytes_of (decoded_hex (lexeme_of s j))) ys) failed) m))
        go j kind ys e true q r q₁ = token-rule w k b _ _ kind j _ (decoded-string j) f e (λ i row f₁. g j kind _ ys i row e (decoded-string j).are (decoded-string j).few f₁)
        go j kind ys e false true r q₁ = token-rule w k b _ _ kind j _ (decoded-hex j) f e (λ i row f₁. g j kind _ ys i row e (decoded-hex j).are (decoded-hex j).few f₁)
        go j kind ys e false false true q₁ = absurd (true≢false q₁)
        go j kind ys e false false false q₁ = z j

  -- The strings after the first.
  string-turns : (n m : ℕ) (w : World) (bs : List ℕ) (b : StringBuf) (e : ℕ) (xs : List RowToken) → length xs < n → length xs < m → b.bytes ≡ bs → b.end ≡ Option.some e → Fits s w xs
      → Sim (Made (Strung w bs xs)) (turns (λ y u j. runs s (string_turn y) u j) n b w ok) (read_strings m xs)
  unfolding turns read_strings
  string-turns zero m w bs b e xs l l₁ q p f = absurd (omega arith)
  string-turns (suc n) zero w bs b e xs l l₁ q p f = absurd (omega arith)
  string-turns (suc n) (suc m) w bs b e xs l l₁ q p f =
      turn-rule w _ b (λ ds ys. bind (read_strings m ys) (λ t zs. Chart.ok (prepend ds t) zs)) _ f
      (λ j K ds ys i row e₁ a few f₁.
      let short : length xs ≡ suc (length ys) = ap length e₁ in
      mapped (prepend ds) (string-turns n m (move_to (suc i) row w) (bs ++ ds) (record { bytes = b.bytes ++ ds; end = Option.some (suc i) }) (suc i) ys (omega arith) (omega arith) (ap (λ (c : List ℕ). c ++ ds) q) refl f₁)
      (λ b₁ u t zs. strung-more ds a few e₁))
      (λ i. gives (made (strung i w.row [] e (q ∙ sym (append-none bs)) p f tt (omega arith) (omega arith))))

  module _ {B : Type 0} {P : B → World → Outcome → Type 0} where
    -- The value and the node of a string.
    string-end : (w u : World) (k : Option ℕ → World → Fate B) (start e : ℕ) (bs : List ℕ) {xs ys : List RowToken} {o : Outcome} → u.store ≡ w.store → u.values ≡ w.values → Fits s w xs → Fits s u ys → AreBytes bs → suc (length bs) + cost ys ≤ cost xs
        → ((n : ℕ) (z : World) → Done s w z n (node Node.StringLiteral (bytes bs) none) → Fits s z ys → Sim P (k (Option.some n) z) o)
        → Sim P (runs s (value (string_value bs)) u (λ offset v. runs s (alloc_node_from start Node.StringLiteral offset) v (λ x z. runs s (close_node_at x e) z (λ n z₁. k (Option.some n) z₁)))) o
    unfolding run
    string-end w u k start e bs {xs} {ys} es ev f f₁ a l g =
        let few : length (string_value bs) ≤ suc (length bs) = string-value-few bs in
        let same : length u.values ≡ length w.values = ap length ev in
        let x = string-said s.text s.tokens u.values bs (omega (arith, f.room)) a (omega (arith, f.room)) in
        let f₂ : Fits s (with_value (string_value bs) u) ys = record { ahead = f₁.ahead; room = rw (length-append u.values (string_value bs)) (omega (arith, f.room)); few = f₁.few; born = f₁.born; sound = f₁.sound } in
        alloc-rule s (with_value (string_value bs) u) _ start Node.StringLiteral (length u.values) f₂ (λ y v o f₃.
        close_at s (with_value (string_value bs) u) v _ y e o (o.says _ _ _ x.1) f₃ (λ n z d f₄.
        g n z (rw (es, ev) at (built-before s.text s.tokens u.values (string_value bs) (rw x.0 at d))) f₄))

    -- `try_parse_string_literal` beside the strings of the chart.
    pub string-rule : (w : World) (k : Option ℕ → World → Fate B) {xs : List RowToken} (m : Outcome) → Fits s w xs
        → ((n : ℕ) (u : World) (bs : List ℕ) (ys : List RowToken) → Done s w u n (node Node.StringLiteral (bytes bs) none) → Fits s u ys → length ys < length xs → Sim P (k (Option.some n) u) (Chart.ok (string_tree bs) ys))
        → ((i : ℕ) → Sim P (k Option.none (move_to i w.row w)) m)
        → Sim P (runs s try_parse_string_literal w k)
        (on Token.LooseStringLiteral xs (λ v ys. if (quiet (decoded v)) (bind (read_strings (suc (length ys)) ys) (λ t zs. Chart.ok (prepend (bytes_of (decoded v)) t) zs)) failed)
        (on Token.LooseHexStringLiteral xs (λ v ys. if (quiet (decoded_hex v)) (bind (read_strings (suc (length ys)) ys) (λ t zs. Chart.ok (prepend (bytes_of (decoded_hex v)) t) zs)) failed) m))
    unfolding run turns try_parse_string_literal skip_trivia_start prepend cost
    string-rule w k {xs} m f g z =
        peek-rule s w (λ _ u. turns (λ y v j. runs s (string_turn y) v j) s.bound (record { bytes = []; end = Option.none }) u (after u.at)) f
        (λ i e. first i s.bound f.few) (λ j kind ys e _. first j s.bound f.few)
      where
        -- What comes after the loop, by where the strings end and their bytes.
        afterwards : ℕ → Option ℕ → List ℕ → World → Fate B
        afterwards start e bs u =
            runs s {A = Option ℕ} (elim e [
              | Option.none ↦ Give Option.none
              | Option.some e ↦ Then (value (string_value bs)) (λ offset. Then (alloc_node_from start Node.StringLiteral offset) (λ x. Then (close_node_at x e) (λ n. Give (Option.some n))))
            ]) u k

        after : ℕ → StringBuf → World → Fate B
        after start b u = afterwards start b.end b.bytes u

        ended : (start i : ℕ) (row : List Seen) (j K : ℕ) (ds : List ℕ) (ys : List RowToken) → xs ≡ token K (lexeme_of s j) ∷ ys → AreBytes ds → length ds ≤ length (lexeme_of s j).spelling → (b : StringBuf) (u : World) (t : Trees) (zs : List RowToken)
            → Strung (move_to (suc i) row w) ds ys b u t zs → Sim P (after start b u) (Chart.ok (prepend ds t) zs)
        ended start i row j K ds ys e a few b _ _ zs (strung i₁ row₁ cs n q p f₁ h l l₁) =
            let long : length (ds ++ cs) ≡ length ds + length cs = length-append ds cs in
            let short : length xs ≡ suc (length ys) = ap length e in
            let all : cost xs ≡ suc (length (lexeme_of s j).spelling) + cost ys = ap cost e in
            rw (p, q) (string-end w (move_to i₁ row₁ w) k start n (ds ++ cs) refl refl f f₁ (are-bytes-append ds cs a h) (omega arith) (λ m z d f₂. g m z (ds ++ cs) zs d f₂ (omega arith)))

        first : (start n : ℕ) → length xs < n → Sim P (turns (λ y v j. runs s (string_turn y) v j) n (record { bytes = []; end = Option.none }) (move_to start w.row w) (after start))
            (on Token.LooseStringLiteral xs (λ v ys. if (quiet (decoded v)) (bind (read_strings (suc (length ys)) ys) (λ t zs. Chart.ok (prepend (bytes_of (decoded v)) t) zs)) failed)
            (on Token.LooseHexStringLiteral xs (λ v ys. if (quiet (decoded_hex v)) (bind (read_strings (suc (length ys)) ys) (λ t zs. Chart.ok (prepend (bytes_of (decoded_hex v)) t) zs)) failed) m))
        first start zero l = absurd (omega arith)
        first start (suc n) l =
            turn-rule (move_to start w.row w) _ (record { bytes = []; end = Option.none }) (λ ds ys. bind (read_strings (suc (length ys)) ys) (λ t zs. Chart.ok (prepend ds t) zs)) m f
            (λ j K ds ys i row e a few f₁.
            let short : length xs ≡ suc (length ys) = ap length e in
            call-turns s string_turn n (record { bytes = ds; end = Option.some (suc i) }) (move_to (suc i) row w) (after start) _
            (string-turns n (suc (length ys)) (move_to (suc i) row w) ds (record { bytes = ds; end = Option.some (suc i) }) (suc i) ys (omega arith) (omega arith) refl refl f₁)
            (λ b u t zs. ended start i row j K ds ys e a few b u t zs))
            z
