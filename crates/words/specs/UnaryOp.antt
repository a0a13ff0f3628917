-- The payload of a UnaryExpr: "operators by enum order" (01, Words that are lent); `UnaryOp` of cst/mod.rs.
use Rattle.std.specs.Prelude.{ℕ}

abbrev pub Minus : ℕ
Minus = 0

abbrev pub Bang : ℕ
Bang = 1

abbrev pub Tilde : ℕ
Tilde = 2
