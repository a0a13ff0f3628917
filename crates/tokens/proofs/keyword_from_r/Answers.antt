-- `keyword_from_r` meets its contract: only the keywords with the word's first letter count.
use native.Mathlib.Omega.{arith}
use mathlib.Core.Path.{refl}
use lib.Dec.{lit<}
use Rattle.scan.specs.Bytes.{ascii}
use Rattle.scan.specs.Lexer.{keywords}
use Rattle.scan.specs.Longest.{keyword-at, kind-none, kind-more, keyword-none, next, lies-above}
use Rattle.tokens.proofs.keyword_from_r.Goals as goal

pub returns-in-114 : goal.returns-in-114
unfolding keywords
returns-in-114 c = keyword-at 114 _ _ _ (lit< tt) c.requires.0 c.in-114.is (kind-more _ _ _ _ _ (kind-more _ _ _ _ _ (kind-none _) c.kind_if.ensures) c.kind_if-in-114.ensures)

pub returns-in-115 : goal.returns-in-115
unfolding keywords
returns-in-115 c = keyword-at 115 _ _ _ (lit< tt) c.requires.0 c.in-115.is (kind-more _ _ _ _ _ (kind-none _) c.kind_if-in-115.ensures)

pub returns-in-116 : goal.returns-in-116
unfolding keywords
returns-in-116 c = keyword-at 116 _ _ _ (lit< tt) c.requires.0 c.in-116.is (kind-more _ _ _ _ _ (kind-more _ _ _ _ _ (kind-none _) c.kind_if-in-116.ensures) c.kind_if-in-116-2.ensures)

pub returns-in-117 : goal.returns-in-117
unfolding keywords
returns-in-117 c = keyword-at 117 _ _ _ (lit< tt) c.requires.0 c.in-117.is (kind-more _ _ _ _ _ (kind-none _) c.kind_if-in-117.ensures)

pub returns-in-119 : goal.returns-in-119
unfolding keywords
returns-in-119 c = keyword-at 119 _ _ _ (lit< tt) c.requires.0 c.in-119.is (kind-more _ _ _ _ _ (kind-none _) c.kind_if-in-119.ensures)

pub returns-in_default : goal.returns-in_default
unfolding keywords
returns-in_default c = keyword-none (ascii "rstuwacefSilmop") _ _ refl c.requires.0 (next (omega arith) (next (omega arith) (next (omega arith) (next (omega arith) (next (omega arith) (lies-above 113 _ (ascii "acefSilmop") c.requires.1 refl))))))
