-- What nodes say of values: it stays so where values are added.
use Rattle.std.specs.Prelude.{◌≡◌, refl, Bool, true, false, cond, ◌&&◌, List, [], ◌∷◌, ◌++◌, ℕ, suc, ◌+◌, ◌*◌, ◌/◌, ◌%◌, ◌^◌, ◌≤◌, ◌<◌, eqb, ltb, leb, length, get_or, take, drop}
use Rattle.std.proofs.Common.{ap, arith, eqb-true, leb-true, le-leb, ltb-true, ltb-false, length-append}
use Rattle.std.proofs.Math.Option.{Option}
use Rattle.std.proofs.Math.ListN.{get_or-append, get_or-eq_default}
use Rattle.std.proofs.lemmas.List.{take-append-le, drop-append-le}
use Rattle.std.proofs.Math.Seq.{take-length, drop-append-add, get_or-append_seam}
use Rattle.utf8.specs.Bytes.{AreBytes}
use Rattle.words.specs.Node
use Rattle.words.specs.Value as Tag
use Rattle.words.specs.Words.{high, value_head, value_tag, value_count}
use Rattle.words.specs.Laws.{high-pack, low-pack}
use Rattle.literals.specs.Spelling.{spelling}
use Rattle.literals.specs.Numbers.{limbs, number_value}
use Rattle.literals.specs.Strings.{fours, string_value}
use Rattle.literals.proofs.Laws.{limbs-make}
use Rattle.chart.specs.Tree.{Value, flags, name, number, bytes}
use Rattle.tree.specs.Stored.{word_bytes, words_for, where-so, is_name, value_at, said}

-- A test that holds, where there is an answer.
held : {A : Type 0} {b : Bool} {a v : A} → where-so b a ≡ Option.some v → (b ≡ true) × (a ≡ v)
unfolding where-so
held {b = true} e = (refl, cc)
held {b = false} e = absurd (let z : ◌≡◌ {A = ℕ} 0 1 = cc in omega arith)

both : {a b : Bool} → (a && b) ≡ true → (a ≡ true) × (b ≡ true)
both {a = true} e = (refl, e)
both {a = false} e = absurd (let z : ◌≡◌ {A = ℕ} 0 1 = cc in omega arith)

bytes-append : (xs ys : List ℕ) → word_bytes (xs ++ ys) ≡ word_bytes xs ++ word_bytes ys
unfolding word_bytes
bytes-append [] ys = refl
bytes-append (x ∷ xs) ys = ap (λ (s : List ℕ). x % 256 ∷ x / 256 % 256 ∷ x / 65536 % 256 ∷ x / 16777216 % 256 ∷ s) (bytes-append xs ys)

bytes-length : (xs : List ℕ) → length (word_bytes xs) ≡ 4 * length xs
unfolding word_bytes
bytes-length [] = refl
bytes-length (x ∷ xs) = let e : length (word_bytes xs) ≡ 4 * length xs = bytes-length xs in omega arith

-- Past the values there is no tag.
no-tag : (values : List ℕ) (at : ℕ) → length values ≤ at → value_tag (get_or values at 0) ≡ 0
unfolding high
no-tag values at h = rw (get_or-eq_default values 0 h) refl

within : (values : List ℕ) (at tag : ℕ) → 0 < tag → eqb (value_tag (get_or values at 0)) tag ≡ true → at < length values
within values at tag p e = go (ltb at (length values)) refl
  where
    go : (b : Bool) → ltb at (length values) ≡ b → at < length values
    go true h = ltb-true at (length values) h
    go false h = absurd (omega (arith, no-tag values at (ltb-false at (length values) h), eqb-true (value_tag (get_or values at 0)) tag e))

module _ (values ws : List ℕ) (at : ℕ) (h : at < length values) where
  head-same : get_or (values ++ ws) at 0 ≡ get_or values at 0
  head-same = get_or-append values ws 0 at h

  rest-same : drop (suc at) (values ++ ws) ≡ drop (suc at) values ++ ws
  rest-same = drop-append-le (suc at) values ws (omega arith)

  fits : (n : ℕ) → leb n (length (drop (suc at) values)) ≡ true → leb n (length (drop (suc at) values ++ ws)) ≡ true
  fits n e = le-leb n _ (omega (arith, leb-true n _ e, length-append (drop (suc at) values) ws))

number_more : (values ws : List ℕ) (at : ℕ) (v : Value) → value_at values Tag.Number at ≡ Option.some v → value_at (values ++ ws) Tag.Number at ≡ Option.some v
unfolding value_at where-so
number_more values ws at v e =
    let (t, a) = held e in
    let (tag, room) = both t in
    let h : at < length values = within values at Tag.Number (omega arith) tag in
    let n = value_count (get_or values at 0) in
    let same : take n (drop (suc at) values ++ ws) ≡ take n (drop (suc at) values) = take-append-le n (drop (suc at) values) ws (leb-true n _ room) in
    rw (head-same values ws at h, rest-same values ws at h, tag, fits values ws at h n room, same) (ap Option.some a)

string-more : (values ws : List ℕ) (at : ℕ) (v : Value) → value_at values Tag.String at ≡ Option.some v → value_at (values ++ ws) Tag.String at ≡ Option.some v
unfolding value_at where-so
string-more values ws at v e =
    let (t, a) = held e in
    let (tag, room) = both t in
    let h : at < length values = within values at Tag.String (omega arith) tag in
    let n = value_count (get_or values at 0) in
    let xs = drop (suc at) values in
    let r : words_for n ≤ length xs = leb-true (words_for n) _ room in
    let l : length (word_bytes xs) ≡ 4 * length xs = bytes-length xs in
    let same : take n (word_bytes xs ++ word_bytes ws) ≡ take n (word_bytes xs) = take-append-le n (word_bytes xs) (word_bytes ws) (omega arith) in
    rw (head-same values ws at h, rest-same values ws at h, tag, fits values ws at h (words_for n) room, bytes-append xs ws, same) (ap Option.some a)

-- What is said of values is said of more of them.
pub says-more : (text tokens values ws : List ℕ) (k p : ℕ) (v : Value) → said text tokens values k p ≡ Option.some v → said text tokens (values ++ ws) k p ≡ Option.some v
unfolding said
says-more text tokens values ws k p v = go (is_name k) (eqb k Node.NumLiteral) (eqb k Node.StringLiteral)
  where
    go : (a b c : Bool)
        → cond a (where-so (ltb p (length tokens)) (name (spelling text tokens p))) (cond b (value_at values Tag.Number p) (cond c (value_at values Tag.String p) (Option.some (flags p)))) ≡ Option.some v
        → cond a (where-so (ltb p (length tokens)) (name (spelling text tokens p))) (cond b (value_at (values ++ ws) Tag.Number p) (cond c (value_at (values ++ ws) Tag.String p) (Option.some (flags p)))) ≡ Option.some v
    go true b c e = e
    go false true c e = number_more values ws p v e
    go false false true e = string-more values ws p v e
    go false false false e = e

-- A number that was just stored is read back.
pub number_read : (values : List ℕ) (n : ℕ) → length (limbs n) < 2 ^ 30 → value_at (values ++ number_value n) Tag.Number (length values) ≡ Option.some (number n)
unfolding value_at where-so number_value
number_read values n h =
    let ls = limbs n in
    let head : get_or (values ++ (value_head Tag.Number (length ls) ∷ ls)) (length values) 0 ≡ value_head Tag.Number (length ls) = get_or-append_seam values (value_head Tag.Number (length ls)) ls 0 in
    let one : length values + 1 ≡ suc (length values) = omega arith in
    let rest : drop (suc (length values)) (values ++ (value_head Tag.Number (length ls) ∷ ls)) ≡ ls = rw one at (drop-append-add values (value_head Tag.Number (length ls) ∷ ls) 1) in
    let tag : value_tag (value_head Tag.Number (length ls)) ≡ Tag.Number = high-pack 30 Tag.Number (length ls) (omega arith) in
    let count : value_count (value_head Tag.Number (length ls)) ≡ length ls = low-pack 30 Tag.Number (length ls) h in
    rw (head, rest, tag, count, le-leb (length ls) (length ls) (omega arith), take-length ls, limbs-make n n (omega arith))

fours-length : (s : List ℕ) → length (fours s) ≡ words_for (length s)
unfolding fours
fours-length [] = refl
fours-length (a ∷ []) = refl
fours-length (a ∷ b ∷ []) = refl
fours-length (a ∷ b ∷ c ∷ []) = refl
fours-length (a ∷ b ∷ c ∷ d ∷ s) = let e : length (fours s) ≡ words_for (length s) = fours-length s in omega arith

-- The bytes of words that hold them four to a word.
bytes_back : (s : List ℕ) → AreBytes s → take (length s) (word_bytes (fours s)) ≡ s
unfolding fours word_bytes
bytes_back [] h = refl
bytes_back (a ∷ []) h = let x : a % 256 ≡ a = omega (arith, h.0) in rw x
bytes_back (a ∷ b ∷ []) h =
    let w = a + 256 * b in
    let x : w % 256 ≡ a = omega (arith, h.0) in
    let p : w / 256 ≡ b = omega (arith, h.0) in
    let y : b % 256 ≡ b = omega (arith, h.1.0) in
    rw (x, p, y)
bytes_back (a ∷ b ∷ c ∷ []) h =
    let w = a + 256 * (b + 256 * c) in
    let x : w % 256 ≡ a = omega (arith, h.0) in
    let p : w / 256 ≡ b + 256 * c = omega (arith, h.0) in
    let y : (b + 256 * c) % 256 ≡ b = omega (arith, h.1.0) in
    let q : w / 65536 ≡ c = omega (arith, h.0, h.1.0) in
    let z : c % 256 ≡ c = omega (arith, h.1.1.0) in
    rw (x, p, y, q, z)
bytes_back (a ∷ b ∷ c ∷ d ∷ s) h =
    let w = a + 256 * (b + 256 * (c + 256 * d)) in
    let x : w % 256 ≡ a = omega (arith, h.0) in
    let p : w / 256 ≡ b + 256 * (c + 256 * d) = omega (arith, h.0) in
    let y : (b + 256 * (c + 256 * d)) % 256 ≡ b = omega (arith, h.1.0) in
    let q : w / 65536 ≡ c + 256 * d = omega (arith, h.0, h.1.0) in
    let z : (c + 256 * d) % 256 ≡ c = omega (arith, h.1.1.0) in
    let r : w / 16777216 ≡ d = omega (arith, h.0, h.1.0, h.1.1.0) in
    let u : d % 256 ≡ d = omega (arith, h.1.1.1.0) in
    rw (x, p, y, q, z, r, u) (ap (λ (t : List ℕ). a ∷ b ∷ c ∷ d ∷ t) (bytes_back s h.1.1.1.1))

-- The bytes of a string that was just stored are read back.
pub string-read : (values s : List ℕ) → AreBytes s → length s < 2 ^ 30 → value_at (values ++ string_value s) Tag.String (length values) ≡ Option.some (bytes s)
unfolding value_at where-so string_value
string-read values s b h =
    let ws = fours s in
    let first = value_head Tag.String (length s) in
    let head : get_or (values ++ (first ∷ ws)) (length values) 0 ≡ first = get_or-append_seam values first ws 0 in
    let one : length values + 1 ≡ suc (length values) = omega arith in
    let rest : drop (suc (length values)) (values ++ (first ∷ ws)) ≡ ws = rw one at (drop-append-add values (first ∷ ws) 1) in
    let tag : value_tag first ≡ Tag.String = high-pack 30 Tag.String (length s) (omega arith) in
    let count : value_count first ≡ length s = low-pack 30 Tag.String (length s) h in
    rw (head, rest, tag, count, le-leb (words_for (length s)) (length ws) (omega (arith, fours-length s)), bytes_back s b)
