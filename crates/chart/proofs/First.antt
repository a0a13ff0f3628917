-- What each rule begins with, what may follow it, and how many tokens it takes at the least.
use Rattle.std.specs.Prelude.{◌≡◌, refl, Bool, true, false, ◌&&◌, ◌||◌, not, List, [], ◌∷◌, ℕ, eqb}
use Rattle.std.proofs.Common.{sym, ◌∙◌, subst, true≢false, eqb-true}
use Rattle.std.proofs.lemmas.Bool.{false≢true}
use Rattle.words.specs.Token
use Rattle.chart.specs.Row.{Lexeme, RowToken, begins, token, is_over}
use Rattle.chart.specs.Tree.{Trees, branch}
use Rattle.chart.specs.Chart
use Rattle.chart.specs.Chart.{binary_tree, is_block_like, Nonterminal, Derives, file, declarations, declaration, import, path, items, item, level, postfix, operand, strings, expressions, types, fields, else_ifs, arms, arm, signature, parameters, parameter, parameter_type, struct_body, methods, block, statements, statement, binding, binding_name}
use Rattle.chart.specs.Parser
use Rattle.chart.specs.Parser.{operator_of}
use Rattle.chart.proofs.Laws.{below, post_start, stop, clash, and_left, and_right}

abbrev pub among : List ℕ → ℕ → Bool
among [] k = false
among (K ∷ r) k = eqb k K || among r k

-- What an operand, an expression and others begin with.
abbrev pub operand_start : List ℕ
operand_start = Token.True ∷ Token.False ∷ Token.DecimalLiteral ∷ Token.HexLiteral ∷ Token.BinLiteral ∷ Token.LooseStringLiteral ∷ Token.LooseHexStringLiteral ∷ Token.SelfType ∷ Token.Identifier ∷ Token.BuiltinName ∷ Token.LeftRound ∷ Token.Comptime ∷ Token.Eager ∷ Token.Fn ∷ Token.Struct ∷ Token.Tuple ∷ Token.LeftCurly ∷ Token.If ∷ Token.Match ∷ []

abbrev pub expression_start : List ℕ
expression_start = Token.Minus ∷ Token.Bang ∷ Token.Tilde ∷ operand_start

abbrev pub arm_start : List ℕ
arm_start = Token.Else ∷ expression_start

abbrev pub statement_start : List ℕ
statement_start = Token.Inline ∷ Token.While ∷ Token.Return ∷ Token.Let ∷ expression_start

abbrev pub statements_start : List ℕ
statements_start = Token.RightCurly ∷ statement_start

abbrev pub methods_start : List ℕ
methods_start = Token.RightCurly ∷ Token.Fn ∷ Token.Eager ∷ []

abbrev pub declaration_start : List ℕ
declaration_start = Token.Init ∷ Token.Run ∷ Token.Const ∷ Token.Pub ∷ Token.Use ∷ []

abbrev pub brace_start : List ℕ
brace_start = Token.LeftCurly ∷ []

abbrev pub name_start : List ℕ
name_start = Token.Identifier ∷ []

unfoldable pub heads : (ℕ → Bool) → List RowToken → Bool
heads p [] = false
heads p (token k v ∷ xs) = p k

pub apart : (p : ℕ → Bool) (K : ℕ) (xs : List RowToken) → p K ≡ false → heads p xs ≡ true → begins K xs ≡ false
unfolding heads begins
apart p K [] h e = refl
apart p K (token k v ∷ xs) h e = go (eqb k K) refl
  where
    go : (b : Bool) → eqb k K ≡ b → eqb k K ≡ false
    go true q = clash e (subst (λ n. p n ≡ false) (sym (eqb-true k K q)) h)
    go false q = q

pub not-over : (p : ℕ → Bool) (xs : List RowToken) → heads p xs ≡ true → is_over xs ≡ false
unfolding heads is_over
not-over p [] e = absurd (false≢true e)
not-over p (x ∷ xs) e = refl

abbrev pub all : (ℕ → Bool) → List ℕ → Bool
all q [] = true
all q (K ∷ r) = q K && all q r

memb-all : (l : List ℕ) (q : ℕ → Bool) (k : ℕ) → all q l ≡ true → among l k ≡ true → q k ≡ true
memb-all [] q k a e = absurd (false≢true e)
memb-all (K ∷ r) q k a e = go (eqb k K) refl e (memb-all r q k (and_right (q K) (all q r) a))
  where
    go : (b : Bool) → eqb k K ≡ b → (b || among r k) ≡ true → (among r k ≡ true → q k ≡ true) → q k ≡ true
    go true h e f = subst (λ n. q n ≡ true) (sym (eqb-true k K h)) (and_left (q K) (all q r) a)
    go false h e f = f e

-- What begins with one of `l` begins with one of `q`.
pub widen : (l : List ℕ) (q : ℕ → Bool) (xs : List RowToken) → all q l ≡ true → heads (among l) xs ≡ true → heads q xs ≡ true
unfolding heads
widen l q [] a e = e
widen l q (token k v ∷ xs) a e = memb-all l q k a e

pub stops : (l : List ℕ) (m : Bool) (k : ℕ) (xs : List RowToken) → all (λ o. not (post_start m o) && below (operator_of o) k) l ≡ true → heads (among l) xs ≡ true → stop m k xs ≡ true
unfolding heads stop
stops l m k [] a e = refl
stops l m k (token o v ∷ xs) a e = memb-all l (λ o. not (post_start m o) && below (operator_of o) k) o a e

pub name-at : (xs : List RowToken) → heads (among name_start) xs ≡ true → begins Token.Identifier xs ≡ true
unfolding heads begins
name-at [] e = e
name-at (token k v ∷ xs) e = rw (go (eqb k Token.Identifier) e) refl
  where
    go : (b : Bool) → (b || false) ≡ true → b ≡ true
    go true e = refl
    go false e = e

pub brace-at : (xs : List RowToken) → heads (among brace_start) xs ≡ true → begins Token.LeftCurly xs ≡ true
unfolding heads begins
brace-at [] e = e
brace-at (token k v ∷ xs) e = rw (go (eqb k Token.LeftCurly) e) refl
  where
    go : (b : Bool) → (b || false) ≡ true → b ≡ true
    go true e = refl
    go false e = e

pub brace-stops : (xs : List RowToken) → heads (among brace_start) xs ≡ true → stop false 0 xs ≡ true
unfolding operator_of Parser.lookup Parser.within below
brace-stops xs e = stops brace_start false 0 xs refl e

pub meth-stops : (xs : List RowToken) → heads (among methods_start) xs ≡ true → stop true 0 xs ≡ true
unfolding operator_of Parser.lookup Parser.within below
meth-stops xs e = stops methods_start true 0 xs refl e

-- What follows an expression: no `else`, and no string unless the expression is a Block, If or Match.
abbrev pub no_str : ℕ → Bool
no_str k = not (eqb k Token.LooseStringLiteral || eqb k Token.LooseHexStringLiteral)

unfoldable pub follows : Trees → List RowToken → Bool
follows t [] = true
follows t (token k v ∷ xs) = not (eqb k Token.Else) && (no_str k || is_block_like t)

unfoldable pub calm : List RowToken → Bool
calm [] = true
calm (token k v ∷ xs) = not (eqb k Token.Else) && no_str k

pub calm-fol : (t : Trees) (xs : List RowToken) → calm xs ≡ true → follows t xs ≡ true
unfolding follows calm
calm-fol t [] e = refl
calm-fol t (token k v ∷ xs) e = go (not (eqb k Token.Else)) (no_str k) e
  where
    go : (a b : Bool) → (a && b) ≡ true → (a && (b || is_block_like t)) ≡ true
    go true true e = refl
    go true false e = absurd (false≢true e)
    go false b e = e

-- For an expression that needs its `;`.
pub fol-calm : (t : Trees) (xs : List RowToken) → is_block_like t ≡ false → follows t xs ≡ true → calm xs ≡ true
unfolding follows calm
fol-calm t [] h e = refl
fol-calm t (token k v ∷ xs) h e = go (not (eqb k Token.Else)) (no_str k) (is_block_like t) h e
  where
    go : (a b c : Bool) → c ≡ false → (a && (b || c)) ≡ true → (a && b) ≡ true
    go true true c h e = refl
    go true false c h e = absurd (false≢true (sym h ∙ e))
    go false b c h e = e

pub fol-else : (t : Trees) (xs : List RowToken) → follows t xs ≡ true → begins Token.Else xs ≡ false
unfolding follows begins
fol-else t [] e = refl
fol-else t (token k v ∷ xs) e = go (eqb k Token.Else) _ e
  where
    go : (a b : Bool) → (not a && b) ≡ true → a ≡ false
    go true b e = absurd (false≢true e)
    go false b e = refl

pub fol-block : (t : Trees) (xs : List RowToken) → is_block_like t ≡ true → begins Token.Else xs ≡ false → follows t xs ≡ true
unfolding follows begins
fol-block t [] h e = refl
fol-block t (token k v ∷ xs) h e = go (eqb k Token.Else) (no_str k) (is_block_like t) h e
  where
    go : (a b c : Bool) → c ≡ true → a ≡ false → (not a && (b || c)) ≡ true
    go true b c h e = absurd (true≢false e)
    go false true c h e = refl
    go false false c h e = h

pub calm-str : (xs : List RowToken) → calm xs ≡ true → begins Token.LooseStringLiteral xs ≡ false
unfolding calm begins
calm-str [] e = refl
calm-str (token k v ∷ xs) e = go (not (eqb k Token.Else)) (eqb k Token.LooseStringLiteral) (eqb k Token.LooseHexStringLiteral) e
  where
    go : (a b c : Bool) → (a && not (b || c)) ≡ true → b ≡ false
    go true true c e = absurd (false≢true e)
    go true false c e = refl
    go false b c e = absurd (false≢true e)

pub calm-hstr : (xs : List RowToken) → calm xs ≡ true → begins Token.LooseHexStringLiteral xs ≡ false
unfolding calm begins
calm-hstr [] e = refl
calm-hstr (token k v ∷ xs) e = go (not (eqb k Token.Else)) (eqb k Token.LooseStringLiteral) (eqb k Token.LooseHexStringLiteral) e
  where
    go : (a b c : Bool) → (a && not (b || c)) ≡ true → c ≡ false
    go true true c e = absurd (false≢true e)
    go true false true e = absurd (false≢true e)
    go true false false e = refl
    go false b c e = absurd (false≢true e)

pub calms : (l : List ℕ) (xs : List RowToken) → all (λ k. not (eqb k Token.Else) && no_str k) l ≡ true → heads (among l) xs ≡ true → calm xs ≡ true
unfolding heads calm
calms l [] a e = refl
calms l (token k v ∷ xs) a e = memb-all l (λ k. not (eqb k Token.Else) && no_str k) k a e

abbrev pub First : Nonterminal → List RowToken → Type 0
First (level m k) xs = heads (among expression_start) xs ≡ true
First (postfix m) xs = heads (among operand_start) xs ≡ true
First operand xs = heads (among operand_start) xs ≡ true
First file xs = Unit {0}
First strings xs = Unit {0}
First expressions xs = Unit {0}
First types xs = Unit {0}
First fields xs = Unit {0}
First else_ifs xs = Unit {0}
First arms xs = Unit {0}
First arm xs = heads (among arm_start) xs ≡ true
First signature xs = Unit {0}
First parameters xs = Unit {0}
First parameter xs = Unit {0}
First parameter_type xs = Unit {0}
First struct_body xs = Unit {0}
First methods xs = heads (among methods_start) xs ≡ true
First block xs = heads (among brace_start) xs ≡ true
First statements xs = heads (among statements_start) xs ≡ true
First statement xs = heads (among statement_start) xs ≡ true
First declarations xs = Unit {0}
First declaration xs = heads (among declaration_start) xs ≡ true
First path xs = heads (among name_start) xs ≡ true
First items xs = heads (among name_start) xs ≡ true
First item xs = heads (among name_start) xs ≡ true
First (binding c) xs = Unit {0}
First (binding_name c m) xs = heads (among name_start) xs ≡ true
First (import p) xs = Unit {0}

-- How many tokens each takes at the least.
abbrev pub least : Nonterminal → ℕ
least (level m k) = 1
least (postfix m) = 1
least operand = 1
least file = 0
least strings = 0
least expressions = 1
least types = 1
least fields = 1
least else_ifs = 0
least arms = 1
least arm = 1
least signature = 1
least parameters = 1
least parameter = 1
least parameter_type = 1
least struct_body = 1
least methods = 1
least block = 1
least statements = 1
least statement = 1
least declarations = 0
least declaration = 1
least path = 1
least items = 1
least item = 1
least (binding c) = 1
least (binding_name c m) = 1
least (import p) = 1

-- ---- no Block, If or Match begins with `comptime`: what begins so is a ComptimeBlock, or holds one

comptime-operand : {v : Lexeme} {xs ys : List RowToken} {t : Trees} → Derives operand (token Token.Comptime v ∷ xs) ys t → is_block_like t ≡ false
unfolding is_block_like branch
comptime-operand (Chart.comptime-block D) = refl

comptime-postfix : {m : Bool} {v : Lexeme} {xs ys : List RowToken} {t : Trees} → Derives (postfix m) (token Token.Comptime v ∷ xs) ys t → is_block_like t ≡ false
unfolding is_block_like branch
comptime-postfix (Chart.member D) = refl
comptime-postfix (Chart.call D E) = refl
comptime-postfix (Chart.struct-literal D E) = refl
comptime-postfix (Chart.standalone D) = comptime-operand D

comptime-level : {m : Bool} {k : ℕ} {v : Lexeme} {xs ys : List RowToken} {t : Trees} → Derives (level m k) (token Token.Comptime v ∷ xs) ys t → is_block_like t ≡ false
unfolding is_block_like binary_tree branch
comptime-level (Chart.or a D E) = refl
comptime-level (Chart.and a D E) = refl
comptime-level (Chart.comparison a D E) = refl
comptime-level (Chart.pipe a D E) = refl
comptime-level (Chart.caret a D E) = refl
comptime-level (Chart.ampersand a D E) = refl
comptime-level (Chart.shift a D E) = refl
comptime-level (Chart.sum a D E) = refl
comptime-level (Chart.product a D E) = refl
comptime-level (Chart.tighter D) = comptime-level D
comptime-level (Chart.unprefixed D) = comptime-postfix D

pub block_start : {m : Bool} {k : ℕ} (xs : List RowToken) {ys : List RowToken} {t : Trees} → Derives (level m k) xs ys t → is_block_like t ≡ true → begins Token.Comptime xs ≡ false
unfolding begins
block_start [] D e = refl
block_start {m} {k} (token o v ∷ xs) {ys} {t} D e = go (eqb o Token.Comptime) refl
  where
    go : (b : Bool) → eqb o Token.Comptime ≡ b → b ≡ false
    go true q = clash e (comptime-level (subst (λ n. Derives (level m k) (token n v ∷ xs) ys t) (eqb-true o Token.Comptime q) D))
    go false q = refl
