-- A counted node of sound words can be looked at, and its links lead to counted nodes.
use Rattle.std.specs.Prelude.{◌≡◌, refl, List, [], ◌∷◌, ℕ, ◌+◌, ◌*◌, ◌≤◌, ◌<◌, get_or}
use Rattle.std.proofs.Common.{sym, ◌∙◌, ap, arith, get_or-drop}
use Rattle.words.specs.Node
use Rattle.words.specs.Answer.{Answer, done, refused}
use Rattle.words.specs.Words.{node_width, node_kind}
use Rattle.lexer.specs.Lex.{lexed, lexed_words}
use Rattle.definition.specs.Prog.{head_word, next_word, child_word, parent_word}
use Rattle.definition.specs.Encodes.{place, next, parent_of}
use Rattle.rising.specs.Sound.{Sound, Next, last, rises}
use Rattle.rising.proofs.Parsed.{parsed-sound}
use Rattle.reader.specs.Read.{Lent, after, parsing, after_lexing, reads}
use Rattle.looking.specs.View
use Rattle.looking.specs.View.{is, look, node_at}
use Rattle.looking.specs.Laws as Laws

-- A node's links, as they are looked at and as they stand in the words.
module _ (ns : List ℕ) (n : ℕ) where
  pub next-same : (node_at ns n).next ≡ next ns n
  next-same = get_or-drop (node_width * n) ns next_word 0

  pub child-same : (node_at ns n).child ≡ get_or ns (place n child_word) 0
  child-same = get_or-drop (node_width * n) ns child_word 0

  pub parent-same : (node_at ns n).parent ≡ parent_of ns n
  parent-same = get_or-drop (node_width * n) ns parent_word 0

module _ (ns : List ℕ) (count : ℕ) (sound : Sound ns count) where
  pub looked : (n : ℕ) → n < count → look ns n ≡ is (node_at ns n)
  looked n l = sym (Laws.looked ns n (omega (arith, sound.room)) (node_at ns n) refl _ (go (sound.nexts n l)))
    where
      kind : (node_at ns n).kind ≤ Node.Error
      kind =
          let e : (node_at ns n).kind ≡ node_kind (get_or ns (node_width * n + head_word) 0) = ap node_kind (get_or-drop (node_width * n) ns head_word 0) in
          rw e (sound.kinds n l)

      go : Next n count (next ns n) → is (node_at ns n) ≡ View.sound n (node_at ns n)
      go (last z) = Laws.last n (node_at ns n) kind (next-same ns n ∙ z)
      go (rises h g) = Laws.next-rises n (node_at ns n) kind (omega (arith, next-same ns n)) (omega (arith, next-same ns n))

  pub child-inside : (n : ℕ) → n < count → (node_at ns n).child < count
  child-inside n l = rw (child-same ns n) (sound.firsts n l)

  pub next-inside : (n : ℕ) → n < count → (node_at ns n).next < count
  next-inside n l = rw (next-same ns n) (go (sound.nexts n l))
    where
      go : Next n count (next ns n) → next ns n < count
      go (last e) = omega arith
      go (rises h g) = g

-- What reading leaves of any text is sound.
pub reads-sound : (text : List ℕ) (lent : Lent) {tokens nodes values reports : ℕ} → (reads text lent).answer ≡ done (tokens ∷ nodes ∷ values ∷ reports ∷ []) → Sound (reads text lent).nodes nodes
unfolding reads after_lexing after
reads-sound text lent {tokens} {nodes} {values} {reports} = lexing (lexed text lent.tokens)
  where
    words : List ℕ
    words = lexed_words text lent.tokens

    parsed-to : (n : ℕ) (y : Answer) → (parsing text lent words n).answer ≡ y → (after lent words n (parsing text lent words n) y).answer ≡ done (tokens ∷ nodes ∷ values ∷ reports ∷ [])
        → Sound (after lent words n (parsing text lent words n) y).nodes nodes
    parsed-to n (done counts) p q = let c : counts ≡ nodes ∷ values ∷ reports ∷ [] = cc in parsed-sound text _ lent.nodes lent.values lent.reports (p ∙ ap done c)
    parsed-to n (refused k place) p q = absurd (let z : ◌≡◌ {A = ℕ} 0 1 = cc in omega arith)

    lexing : (x : Answer) → (after_lexing text lent words x).answer ≡ done (tokens ∷ nodes ∷ values ∷ reports ∷ []) → Sound (after_lexing text lent words x).nodes nodes
    lexing (refused k place) q = absurd (let z : ◌≡◌ {A = ℕ} 0 1 = cc in omega arith)
    lexing (done counts) q = parsed-to (get_or counts 0 0) (parsing text lent words (get_or counts 0 0)).answer refl q
