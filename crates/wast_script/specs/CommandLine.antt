-- The reading of a command line: --steps N SCRIPT.json.
use Rattle.std.specs.Prelude.{ℕ, ◌^◌, List, Option, Some, None, option_and_then, codes}
use Rattle.clap.specs.Words.{App, Row, Rule, first_of, new_rule, with_rule}
use Rattle.w2c_io.specs.Contents.{Name}
use Rattle.program_words.specs.Command.{bare, rows_read, word_option}
use Rattle.crun_words.specs.Numbers.{number_below}

-- how many statements are run for each assertion, and the script's file
pub record Line : Type 0 where
  pub steps : ℕ
  pub script : Name

-- the one positional
abbrev pub script_word : Rule
script_word = new_rule (codes "script")

-- --steps N and a script
abbrev pub wast_run : App
wast_run = with_rule (with_rule (bare (codes "wast_run")) (word_option (codes "steps"))) script_word

abbrev pub line_with : Option ℕ → Option Name → Option Line
line_with (Some steps) (Some script) = Some (record { steps = steps; script = script })
line_with (Some steps) None = None
line_with None script = None

-- the line of the values that clap finds: N has 1 to 20 decimal digits and is below 2^64
abbrev pub line_in : List Row → Option Line
line_in rows = line_with (option_and_then (number_below (2 ^ 64)) (first_of (codes "steps") rows)) (first_of (codes "script") rows)

-- the line of the words; none where clap refuses them
unfoldable pub line_of : List (List ℕ) → Option Line
line_of words = option_and_then line_in (rows_read wast_run words)
