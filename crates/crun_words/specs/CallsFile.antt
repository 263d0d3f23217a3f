-- The lines of a calls file: what stands between its newlines, and what stands behind the last one. An empty line is
-- passed over, but it counts.
use Rattle.std.specs.Prelude.{ℕ, ◌+◌, ◌==◌, List, [], ◌∷◌}
use Rattle.std.specs.List.{slice_split}

abbrev pub lines_in : List ℕ → List (List ℕ)
lines_in text = slice_split (λ b. b == 10) text

-- a line with its number in the file, counted from 1
pub record NumberedLine : Type 0 where
  pub number : ℕ
  pub text : List ℕ

-- the lines that are not empty, where the first has this number
abbrev pub numbered : ℕ → List (List ℕ) → List NumberedLine
numbered number [] = []
numbered number ([] ∷ lines) = numbered (number + 1) lines
numbered number ((b ∷ line) ∷ lines) = record { number = number; text = b ∷ line } ∷ numbered (number + 1) lines

-- the lines of a text that are to name calls
abbrev pub call_lines_of : List ℕ → List NumberedLine
call_lines_of text = numbered 1 (lines_in text)
