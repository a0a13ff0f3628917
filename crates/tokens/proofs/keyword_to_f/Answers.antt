-- `keyword_to_f` meets its contract: only the keywords with the word's first letter count.
use mathlib.Core.Path.{refl}
use lib.Dec.{lit<}
use Rattle.scan.specs.Bytes.{ascii}
use Rattle.scan.specs.Lexer.{keywords}
use Rattle.scan.specs.Longest.{keyword-at, kind-none, kind-more, keyword-none, next, lies-apart}
use native.Mathlib.Omega.{arith}
use Rattle.tokens.proofs.keyword_to_f.Goals as goal

pub returns-in-97 : goal.returns-in-97
unfolding keywords
returns-in-97 c = keyword-at 97 _ _ _ (lit< tt) c.requires.0 c.in-97.is (kind-more _ _ _ _ _ (kind-more _ _ _ _ _ (kind-none _) c.kind_if.ensures) c.kind_if-in-97.ensures)

pub returns-in-99 : goal.returns-in-99
unfolding keywords
returns-in-99 c = keyword-at 99 _ _ _ (lit< tt) c.requires.0 c.in-99.is (kind-more _ _ _ _ _ (kind-more _ _ _ _ _ (kind-none _) c.kind_if-in-99.ensures) c.kind_if-in-99-2.ensures)

pub returns-in-101 : goal.returns-in-101
unfolding keywords
returns-in-101 c = keyword-at 101 _ _ _ (lit< tt) c.requires.0 c.in-101.is (kind-more _ _ _ _ _ (kind-more _ _ _ _ _ (kind-none _) c.kind_if-in-101.ensures) c.kind_if-in-101-2.ensures)

pub returns-in-102 : goal.returns-in-102
unfolding keywords
returns-in-102 c = keyword-at 102 _ _ _ (lit< tt) c.requires.0 c.in-102.is (kind-more _ _ _ _ _ (kind-more _ _ _ _ _ (kind-none _) c.kind_if-in-102.ensures) c.kind_if-in-102-2.ensures)

pub returns-in-83 : goal.returns-in-83
unfolding keywords
returns-in-83 c = keyword-at 83 _ _ _ (lit< tt) c.requires.0 c.in-83.is (kind-more _ _ _ _ _ (kind-none _) c.kind_if-in-83.ensures)

pub returns-in_default : goal.returns-in_default
unfolding keywords
returns-in_default c = keyword-none (ascii "acefSilmoprstuw") _ _ refl c.requires.0 (next (omega arith) (next (omega arith) (next (omega arith) (next (omega arith) (next (omega arith) (lies-apart 0 103 _ (ascii "ilmoprstuw") (omega arith) c.requires.1 refl))))))
