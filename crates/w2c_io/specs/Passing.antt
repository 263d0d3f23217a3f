-- What passes through a writer in pieces, where it tells what it holds.
use Rattle.std.specs.Prelude.{ℕ, List, Option}
use Rattle.std.specs.Io.KnownBytes.{Appends}
use Rattle.w2c_io.specs.Contents.{IsPrefix}

-- the writer has gained a prefix of the piece
abbrev pub AppendsSome : Option (List ℕ) → Option (List ℕ) → List ℕ → Type 0
AppendsSome old new piece = (part : List ℕ) × IsPrefix part piece × Appends old new part
