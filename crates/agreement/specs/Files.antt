-- At every depth, and the file: the abstract run of parsing agrees with the parser of rows.
use Rattle.std.specs.Prelude.{◌≡◌, refl, true, List, [], length}
use Rattle.std.proofs.Math.Path.{subst}
use Rattle.std.proofs.Math.Option.{Option}
use Prim.Native.Nat.{ℕ, zero, suc, ◌+◌, ◌<◌, ◌≤◌, ◌^◌}
use Rattle.std.proofs.Common.{arith}
use Rattle.definition.specs.Expressions.{try_parse_expr_min_bp, allows_struct_literal}
use Rattle.definition.specs.Statements.{parse_block}
use Rattle.definition.specs.Declarations.{parse_file}
use Rattle.definition.specs.Parse.{max_depth, token_limit}
use Rattle.definition.specs.Abstract.{Seen, row_from, World, Fate, tower_a, start_a, parsed_a}
use Rattle.chart.specs.Row.{RowToken}
use Rattle.chart.specs.Tree.{Tree, Trees, none, ◌▸◌}
use Rattle.chart.specs.Parser.{Outcome, readers, read_level, read_block, parse}
use Rattle.tree.specs.Grown.{Built}
use Rattle.utf8.specs.Bytes.{AreBytes}
use Rattle.agreement.specs.Run.{run_ok}
use Rattle.agreement.specs.Sim.{Sim, gives, fails, sinks, Made, made, Setting, cost, Ahead, over, eof-ahead, next, Fits}
use Rattle.agreement.specs.Steps.{Found, found, not_found, Blocked, Agrees}
use Rattle.agreement.specs.Expressions.{expression-read}
use Rattle.agreement.specs.Statements.{block}
use Rattle.agreement.specs.Declarations.{file-rule}

-- What holds of an answer is something else that holds.
weaker : {A : Type 0} {P Q : A → World → Outcome → Type 0} {f : Fate A} {o : Outcome} → ((a : A) (u : World) (o : Outcome) → P a u o → Q a u o) → Sim P f o → Sim Q f o
weaker h (gives {a} {u} {o} x) = gives (h a u o x)
weaker h fails = fails
weaker h sinks = sinks

module _ (text tokens : List ℕ) (end bound : ℕ) where
  -- So many levels are left.
  abbrev pub at-depth : ℕ → Setting
  at-depth d = record { text = text; tokens = tokens; end = end; bound = bound; readers = tower_a text tokens end bound try_parse_expr_min_bp parse_block d; rows = readers d }

  -- What is ahead doesn't depend on the depth.
  ahead-any : (d e : ℕ) {row : List Seen} {xs : List RowToken} → Ahead (at-depth d) row xs → Ahead (at-depth e) row xs
  ahead-any d e over = over
  ahead-any d e eof-ahead = eof-ahead
  ahead-any d e (next l t n c a) = next l t n c (ahead-any d e a)

  fits-any : (d e : ℕ) (w : World) {xs : List RowToken} → Fits (at-depth d) w xs → Fits (at-depth e) w xs
  fits-any d e w f = record { ahead = ahead-any d e f.ahead; room = f.room; few = f.few; born = f.born; sound = f.sound }

  found-any : (d e : ℕ) {w : World} {xs : List RowToken} {x : Option ℕ} {u : World} {o : Outcome} → Found (at-depth d) w xs x u o → Found (at-depth e) w xs x u o
  found-any d e (found {u = u} b f l odd) = found b (fits-any d e u f) l odd
  found-any d e (not_found i) = not_found i

  blocked-any : (d e : ℕ) (w : World) (kind : ℕ) (xs : List RowToken) (n : ℕ) (u : World) (o : Outcome) → Blocked (at-depth d) w kind xs n u o → Blocked (at-depth e) w kind xs n u o
  blocked-any d e w kind xs n u o (made (b, f, l)) = made (b, fits-any d e u f, l)

  pub agrees_at : length tokens ≤ 2 ^ 26 → AreBytes text → (d : ℕ) → Agrees (at-depth d)
  unfolding tower_a readers
  agrees_at few bytes zero = record { few = few; bytes = bytes; exprs = λ mode min level w xs q f. sinks; blocks = λ start kind w xs e f. sinks }
  agrees_at few bytes (suc d) =
      record {
        few = few;
        bytes = bytes;
        exprs = λ mode min level w xs q f.
            subst (λ r. Sim (Found (at-depth (suc d)) w xs) r (read_level (readers d) (allows_struct_literal mode) level xs)) (run_ok text tokens end bound _ (try_parse_expr_min_bp mode min) w)
            (weaker (λ x u o. found-any d (suc d)) (expression-read (at-depth d) (agrees_at few bytes d) mode min level w xs q (fits-any (suc d) d w f)));
        blocks = λ start kind w xs e f.
            subst (λ r. Sim (Blocked (at-depth (suc d)) w kind xs) r (read_block (readers d) xs)) (run_ok text tokens end bound _ (parse_block start kind) w)
            (weaker (blocked-any d (suc d) w kind xs) (block (at-depth d) (agrees_at few bytes d) start kind w xs e (fits-any (suc d) d w f)));
      }

-- What the file comes to: the tree built from nothing, at node 0, and the row read to its end.
pub data FileRead (text tokens : List ℕ) (n : ℕ) (u : World) : Trees → List RowToken → Type 0 where
  file-read : {t : Tree} → n ≡ 0 → Built text tokens [] [] u.store u.values 0 t → u.sane ≡ true → FileRead text tokens n u (t ▸ none) []

pub file-agrees : (text tokens : List ℕ) {xs : List RowToken} → length tokens ≤ 2 ^ 26 → AreBytes text → Ahead (at-depth text tokens (token_limit tokens) (token_limit tokens + 1) max_depth) (row_from tokens 0 (token_limit tokens)) xs → cost xs < 2 ^ 26 → length xs ≤ token_limit tokens
    → Sim (Made (FileRead text tokens)) (parsed_a text tokens) (parse max_depth xs)
unfolding parsed_a parse
file-agrees text tokens {xs} few bytes ahead room short =
    let s = at-depth text tokens (token_limit tokens) (token_limit tokens + 1) max_depth in
    subst (λ r. Sim (Made (FileRead text tokens)) r (parse max_depth xs)) (run_ok text tokens (token_limit tokens) (token_limit tokens + 1) _ parse_file (start_a tokens))
    (weaker whole (file-rule s (agrees_at text tokens (token_limit tokens) (token_limit tokens + 1) few bytes max_depth) (start_a tokens) xs refl refl refl ahead room (omega arith)))
  where
    whole : (n : ℕ) (u : World) (o : Outcome) → Made (λ n u ts ys. (t : Tree) × (ts ≡ t ▸ none) × (n ≡ 0) × Built text tokens [] [] u.store u.values 0 t × (u.sane ≡ true) × (ys ≡ [])) n u o → Made (FileRead text tokens) n u o
    whole n u _ (made (t, e, z, b, g, q)) = rw (e, q) (made (file-read z b g))
