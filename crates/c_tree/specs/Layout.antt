-- The text of tokens in order, with a gap in front of each that may hang on the token before it.
use Rattle.std.specs.Prelude.{ℕ, List, [], ◌∷◌, ◌++◌}
use Rattle.c_tree.specs.Tokens.{Token, token_text}

-- the text of tokens behind a last one
abbrev pub laid : (Token → Token → List ℕ) → Token → List Token → List ℕ
laid gap last [] = []
laid gap last (t ∷ ts) = gap last t ++ (token_text t ++ laid gap t ts)
