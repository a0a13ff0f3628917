-- The node words that parsing leaves of any text, with reports or without, are sound where it doesn't refuse, and a family.
use Rattle.std.specs.Prelude.{◌≡◌, List, [], ◌∷◌}
use Rattle.std.proofs.Math.Path.{refl}
use Rattle.std.proofs.Common.{sym, ◌∙◌, subst, arith}
use Prim.Native.Nat.{ℕ, zero, suc, ◌+◌}
use Rattle.words.specs.Answer as Answer
use Rattle.definition.specs.Prog.{Out, Memory, tower}
use Rattle.definition.specs.Parse.{max_depth, readers, token_limit, start, zeros, parsed_to, parsed_within, parsed}
use Rattle.rising.specs.Sound.{Sound, none-sound}
use Rattle.rising.specs.Forest.{base, forest-none}
use Rattle.rising.specs.Family.{Family}
use Rattle.rising.proofs.Family.{family}
use Rattle.rising.proofs.Rules.{Inv, Lands, lands, halts, Good}
use Rattle.rising.proofs.Readers.{try_parse_expr_min_bp-maybe}
use Rattle.rising.proofs.Statements.{parse_block-fresh}
use Rattle.rising.proofs.Files.{parse_file-lands}

readers-good : (text tokens : List ℕ) (bound depth : ℕ) → Good (readers text tokens bound depth)
unfolding tower
readers-good text tokens bound zero = record { exprs = λ mode min s m c H z e w. halts; blocks = λ start kind k s m c H z e w. halts }
readers-good text tokens bound (suc depth) =
    let deeper = readers-good text tokens bound depth in
    record {
      exprs = λ mode min s m c H z e w. ((try_parse_expr_min_bp-maybe mode min).maybe c H).run text tokens bound _ deeper s m z e w;
      blocks = λ start kind k s m c H z e w. ((parse_block-fresh start kind k).fresh c H).run text tokens bound _ deeper s m z e w;
    }

landed : {o : Out ℕ} {nodes values reports : ℕ} (blank : Memory) → Lands 0 (λ a. base a ∷ []) (λ a d. a ≡ 0) o → (parsed_to blank o).answer ≡ Answer.done (nodes ∷ values ∷ reports ∷ []) → Inv (parsed_to blank o).words.nodes nodes (base 0 ∷ [])
unfolding parsed_to
landed {nodes = nodes} blank (lands {a = a} {t = t} {n = n} d e l w q) h =
    let same : t.nodes ≡ nodes = cc in
    let count : d ≡ nodes = sym e ∙ same in
    rw (← count) (subst (λ (x : ℕ). Inv n.nodes d (base x ∷ [])) q w)
landed blank halts h = absurd (let z : ◌≡◌ {A = ℕ} 0 1 = cc in omega arith)

module _ (text tokens : List ℕ) (a b c : ℕ) {nodes values reports : ℕ} (h : (parsed text tokens a b c).answer ≡ Answer.done (nodes ∷ values ∷ reports ∷ [])) where
  kept : Inv (parsed text tokens a b c).words.nodes nodes (base 0 ∷ [])
  unfolding parsed parsed_within
  kept =
      let bound : ℕ = token_limit tokens + 1 in
      landed (zeros a b c) (parse_file-lands text tokens bound _ (readers-good text tokens bound max_depth) (start tokens) (zeros a b c) refl (record { sound = none-sound _; forest = forest-none _ })) h

  pub parsed-sound : Sound (parsed text tokens a b c).words.nodes nodes
  parsed-sound = kept.sound

  pub parsed-family : Family (parsed text tokens a b c).words.nodes nodes
  parsed-family = family _ nodes kept.forest
