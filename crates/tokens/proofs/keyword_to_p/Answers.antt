-- `keyword_to_p` meets its contract: only the keywords with the word's first letter count.
use native.Mathlib.Omega.{arith}
use mathlib.Core.Path.{refl}
use lib.Dec.{lit<}
use Rattle.scan.specs.Bytes.{ascii}
use Rattle.scan.specs.Lexer.{keywords}
use Rattle.scan.specs.Longest.{keyword-at, kind-none, kind-more, keyword-none, next, lies-apart}
use Rattle.tokens.proofs.keyword_to_p.Goals as goal

pub returns-in-105 : goal.returns-in-105
unfolding keywords
returns-in-105 c = keyword-at 105 _ _ _ (lit< tt) c.requires.0 c.in-105.is (kind-more _ _ _ _ _ (kind-more _ _ _ _ _ (kind-more _ _ _ _ _ (kind-none _) c.kind_if-inline.ensures) c.kind_if.ensures) c.kind_if-in-105.ensures)

pub returns-in-108 : goal.returns-in-108
unfolding keywords
returns-in-108 c = keyword-at 108 _ _ _ (lit< tt) c.requires.0 c.in-108.is (kind-more _ _ _ _ _ (kind-none _) c.kind_if-in-108.ensures)

pub returns-in-109 : goal.returns-in-109
unfolding keywords
returns-in-109 c = keyword-at 109 _ _ _ (lit< tt) c.requires.0 c.in-109.is (kind-more _ _ _ _ _ (kind-more _ _ _ _ _ (kind-none _) c.kind_if-in-109.ensures) c.kind_if-in-109-2.ensures)

pub returns-in-111 : goal.returns-in-111
unfolding keywords
returns-in-111 c = keyword-at 111 _ _ _ (lit< tt) c.requires.0 c.in-111.is (kind-more _ _ _ _ _ (kind-none _) c.kind_if-in-111.ensures)

pub returns-in-112 : goal.returns-in-112
unfolding keywords
returns-in-112 c = keyword-at 112 _ _ _ (lit< tt) c.requires.0 c.in-112.is (kind-more _ _ _ _ _ (kind-none _) c.kind_if-in-112.ensures)

pub returns-in_default : goal.returns-in_default
unfolding keywords
returns-in_default c = keyword-none (ascii "ilmopacefSrstuw") _ _ refl c.requires.0 (next (omega arith) (next (omega arith) (next (omega arith) (next (omega arith) (next (omega arith) (lies-apart 103 113 _ (ascii "acefSrstuw") c.requires.1 c.requires.2 refl))))))
