-- What the contracts say beside the definition's programs.
use Rattle.std.proofs.Math.Option as Math
use Rattle.std.specs.Prelude.{ℕ, Option, Some, None}

-- What may be missing, as the definition has it.
abbrev pub maybe : Option ℕ → Math.Option ℕ
maybe (Some n) = Math.some n
maybe None = Math.none
