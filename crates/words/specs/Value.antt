-- The tags of a value: "top 2 bits 1 for a number, 2 for a string" (01, Words that are lent).
use Rattle.std.specs.Prelude.{ℕ}

abbrev pub Number : ℕ
Number = 1

abbrev pub String : ℕ
String = 2
