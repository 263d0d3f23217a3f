-- The command that `clap` reads the words as, and what it finds. Which words give which values is clap's own
-- definition for a command of this form (clap, specs/Simple, specs/Walk and specs/Faults).
use Rattle.std.specs.Prelude.{true, List, [], ℕ, Option, Some, None, if◌then◌else◌, unwrap_or}
use Rattle.clap.specs.Words.{App, Row, Rule, all_of, fault_of, matches_of, new_app, new_rule}
use Rattle.clap.specs.Simple.{on_top}
use Rattle.clap.specs.Walk.{is_empty}
use Rattle.clap.specs.declared.builder.action.ArgAction.TheVariants.{Append}

-- no argument yet; the words leave out the program's name
abbrev pub bare : List ℕ → App
bare program = on_top (λ top. record top { no_binary_name = true }) (new_app program)

-- an option of a whole word, which takes one value
abbrev pub word_option : List ℕ → Rule
word_option id = record (new_rule id) { long = Some id }

-- the last positional, which takes each word that is left
abbrev pub words_left : List ℕ → Rule
words_left id = record (new_rule id) { action = Some Append }

-- what the words give, by the names of arguments; none where clap refuses them
unfoldable pub rows_read : App → List (List ℕ) → Option (List Row)
rows_read app words = if is_empty (fault_of app words) then Some (matches_of app words) else None

-- the words that a last positional has taken
abbrev pub words_in : List ℕ → List Row → List (List ℕ)
words_in id rows = unwrap_or (all_of id rows) []
