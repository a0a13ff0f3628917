-- The numbers of the refusals, 1 to 10 (01, Refusals, by who can cause them, and W1).
use Rattle.std.specs.Prelude.{ℕ}
use Rattle.words.specs.declared.refusal.Refusal.{Refusal}
use Rattle.words.specs.declared.refusal.Refusal.TheVariants as Case

-- "Refusal 1 keeps a byte that starts no sequence" (01, W1).
abbrev pub NotUtf8Start : ℕ
NotUtf8Start = 1

abbrev pub TooLong : ℕ
TooLong = 2

abbrev pub TooDeep : ℕ
TooDeep = 3

abbrev pub TokensDontFit : ℕ
TokensDontFit = 4

abbrev pub NodesDontFit : ℕ
NodesDontFit = 5

abbrev pub ValuesDontFit : ℕ
ValuesDontFit = 6

abbrev pub ReportsDontFit : ℕ
ReportsDontFit = 7

abbrev pub AlteredNodes : ℕ
AlteredNodes = 8

-- "It refuses with 9 where a later byte of a sequence isn't allowed" (01, W1).
abbrev pub NotUtf8Later : ℕ
NotUtf8Later = 9

-- "with 10 where the text ends inside a sequence that was right so far" (01, W1).
abbrev pub NotUtf8Cut : ℕ
NotUtf8Cut = 10

-- The number of each case.
abbrev pub number : Refusal → ℕ
number Case.NotUtf8Start = NotUtf8Start
number Case.TooLong = TooLong
number Case.TooDeep = TooDeep
number Case.TokensDontFit = TokensDontFit
number Case.NodesDontFit = NodesDontFit
number Case.ValuesDontFit = ValuesDontFit
number Case.ReportsDontFit = ReportsDontFit
number Case.AlteredNodes = AlteredNodes
number Case.NotUtf8Later = NotUtf8Later
number Case.NotUtf8Cut = NotUtf8Cut
