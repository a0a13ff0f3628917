-- `Walked` holds of what reading leaves of any text.
use Rattle.std.specs.Prelude.{List, ℕ}
use Rattle.reader.specs.Read.{Lent, reads}
use Rattle.reader.proofs.Joined.{agreed}
use Rattle.viewed.specs.Looks.{reads-sound}
use Rattle.viewed.specs.Walked.{AllWalked}
use Rattle.viewed.specs.Climbs.{file-none, parent-told, file-free, declaration}
use Rattle.viewed.proofs.Descends.{innermost-found, nothing-found}

-- On words that reading made of any text, with reports or without, neither the climb nor the way down refuses or runs out of turns.
pub reads-walked : (text : List ℕ) (lent : Lent) → AllWalked (reads text lent)
reads-walked text lent tokens nodes values reports e =
    let sound = reads-sound text lent e in
    let f = (agreed text lent e).family in
    record {
      file = file-none _ nodes sound f f.some;
      parents = parent-told _ nodes sound f;
      file-free = file-free _ nodes sound f f.some;
      declarations = declaration _ nodes sound f;
      covered = λ n t. innermost-found _ nodes sound f t n;
      outside = λ n t. nothing-found _ nodes sound f t n;
    }
