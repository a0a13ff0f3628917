-- Laws of the words, each over the width k of the low part, and that what 01 puts into each part fits there.
use Rattle.std.specs.Prelude.{◌≡◌, refl, ℕ, ◌+◌, ◌-◌, ◌*◌, ◌/◌, ◌%◌, ◌^◌, ◌<◌, ◌≤◌, length}
use Rattle.std.proofs.Common.{ap, ap₂, ◌∙◌, subst, mod-lt, mod-eq_of_lt, div-lt_iff_lt-mul, arith, pow_pos, pow-add, lit<}
use Rattle.std.proofs.Math.Path.{subst⁻¹}
use Rattle.std.proofs.Math.Pow as Pow
use Rattle.std.proofs.Math.Arith.{digits_lt}
use Rattle.words.specs.declared.node.Node.{Node}
use Rattle.words.specs.declared.report.Report.{Report}
use Rattle.words.specs.BinaryOp
use Rattle.words.specs.Flag
use Rattle.words.specs.Node
use Rattle.words.specs.Report
use Rattle.words.specs.Token
use Rattle.words.specs.Value
use Rattle.words.specs.Words.{pack, high, low, node_width, node_words, node_of, report_width, report_words, report_of}

-- the two parts make the word
pub whole : (k : ℕ) → k ≤ 32 → 2 ^ 32 ≡ 2 ^ (32 - k) * 2 ^ k
whole k k≤ =
    let e : 32 ≡ 32 - k + k = omega arith in
    ap (λ (n : ℕ). 2 ^ n) e ∙ pow-add 2 (32 - k) k

-- the parts of what is packed, as numbers. The laws of the words cite these, and not one another: a definition that is wrong breaks each by itself.
high-number : (k h l : ℕ) → h < 2 ^ (32 - k) → (h % 2 ^ (32 - k) * 2 ^ k + l % 2 ^ k) / 2 ^ k ≡ h
high-number k h l h< = Pow.high (h % 2 ^ (32 - k)) k (mod-lt l (pow_pos k)) ∙ mod-eq_of_lt h<

low-number : (k h l : ℕ) → l < 2 ^ k → (h % 2 ^ (32 - k) * 2 ^ k + l % 2 ^ k) % 2 ^ k ≡ l
low-number k h l l< = Pow.low (h % 2 ^ (32 - k)) k (mod-lt l (pow_pos k)) ∙ mod-eq_of_lt l<

high-below : (k w : ℕ) → k ≤ 32 → w < 2 ^ 32 → w / 2 ^ k < 2 ^ (32 - k)
high-below k w k≤ w< = (div-lt_iff_lt-mul (pow_pos k)).1 (subst (λ (n : ℕ). w < n) (whole k k≤) w<)

pub high-pack : (k h l : ℕ) → h < 2 ^ (32 - k) → high k (pack k h l) ≡ h
unfolding pack high
high-pack = high-number

pub low-pack : (k h l : ℕ) → l < 2 ^ k → low k (pack k h l) ≡ l
unfolding pack low
low-pack = low-number

pub high_fits : (k w : ℕ) → k ≤ 32 → w < 2 ^ 32 → high k w < 2 ^ (32 - k)
unfolding high
high_fits = high-below

pub low_fits : (k w : ℕ) → low k w < 2 ^ k
unfolding low
low_fits k w = mod-lt w (pow_pos k)

pub pack-fits : (k h l : ℕ) → k ≤ 32 → pack k h l < 2 ^ 32
unfolding pack
pack-fits k h l k≤ = subst⁻¹ (λ (n : ℕ). pack k h l < n) (whole k k≤) (digits_lt (mod-lt h (pow_pos (32 - k))) (mod-lt l (pow_pos k)))

pub pack-high-low : (k w : ℕ) → k ≤ 32 → w < 2 ^ 32 → pack k (high k w) (low k w) ≡ w
unfolding pack high low
pack-high-low k w k≤ w< =
    ap₂ (λ (h l : ℕ). h * 2 ^ k + l) (mod-eq_of_lt (high-below k w k≤ w<)) (mod-eq_of_lt (mod-lt w (pow_pos k))) ∙ Pow.split w k

pub node_of-node_words : (n : Node) → n.kind < 2 ^ 6 → n.payload < 2 ^ 26 → node_of (node_words n) ≡ n
unfolding pack high low
node_of-node_words n k< p< = rw (high-number 26, low-number 26)

pub node_words-length : (n : Node) → length (node_words n) ≡ node_width
node_words-length n = refl

pub report_of-report_words : (r : Report) → r.kind < 2 ^ 6 → r.detail < 2 ^ 26 → report_of (report_words r) ≡ r
unfolding pack high low
report_of-report_words r k< d< = rw (high-number 26, low-number 26)

pub report_words-length : (r : Report) → length (report_words r) ≡ report_width
report_words-length r = refl

-- ---- what 01 puts into the parts fits there

pub token-kinds-fit : Token.Eof < 2 ^ (32 - 25)
token-kinds-fit = lit< tt

-- "over 65,536 bytes" is refused, so no source end is above that
pub source-ends-fit : 65_536 < 2 ^ 25
source-ends-fit = lit< tt

pub node-kinds-fit : Node.Error < 2 ^ (32 - 26)
node-kinds-fit = lit< tt

-- the number of a token: at most one token for each byte, and Eof
pub token-numbers-fit : 65_537 < 2 ^ 26
token-numbers-fit = lit< tt

-- the offset of a value, at two words for each byte of text: a digit makes a first word and a limb
pub value-offsets-fit : 2 * 65_536 < 2 ^ 26
value-offsets-fit = lit< tt

pub operators-fit : BinaryOp.GreaterSlash < 2 ^ 26
operators-fit = lit< tt

pub flags-fit : Flag.LetStmt-comptime + Flag.LetStmt-mutable + Flag.LetStmt-typed < 2 ^ 26
flags-fit = lit< tt

pub value-tags-fit : Value.String < 2 ^ (32 - 30)
value-tags-fit = lit< tt

-- limbs and bytes are no more than the bytes of the text
pub value-counts-fit : 65_536 < 2 ^ 30
value-counts-fit = lit< tt

pub report-kinds-fit : Report.BackslashAtEnd < 2 ^ (32 - 26)
report-kinds-fit = lit< tt

-- the highest detail is a character: the last one of Unicode
pub characters-fit : 0x10FFFF < 2 ^ 26
characters-fit = lit< tt
