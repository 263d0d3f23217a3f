-- The command that `clap` reads the words as, and the values that it finds.
use Rattle.std.specs.Prelude.{ℕ, List, Option, Some, option_map, codes}
use Rattle.clap.specs.Words.{App, Row, Rule, first_of, new_rule, with_rule}
use Rattle.w2c_io.specs.Contents.{Name}
use Rattle.program_words.specs.Command.{bare, rows_read, word_option, words_in, words_left}

-- an option of one letter, which takes one value
abbrev pub letter_option : List ℕ → ℕ → Rule
letter_option id letter = record (new_rule id) { short = Some letter }

-- -o OUT.c, -n NAME, --dir DIR, --gen N, --runtime DIR and files
abbrev pub wasm2c : App
wasm2c =
    with_rule (with_rule (with_rule (with_rule (with_rule (with_rule (bare (codes "wasm2c"))
    (letter_option (codes "output") 111)) (letter_option (codes "name") 110))
    (word_option (codes "dir"))) (word_option (codes "gen"))) (word_option (codes "runtime"))) (words_left (codes "files"))

-- the values of the options, each where it was used, and the files in order
pub record Values : Type 0 where
  pub output : Option Name
  pub module_name : Option (List ℕ)
  pub dir : Option Name
  pub count : Option (List ℕ)
  pub runtime : Option Name
  pub files : List Name

abbrev pub values_in : List Row → Values
values_in rows = record {
  output = first_of (codes "output") rows;
  module_name = first_of (codes "name") rows;
  dir = first_of (codes "dir") rows;
  count = first_of (codes "gen") rows;
  runtime = first_of (codes "runtime") rows;
  files = words_in (codes "files") rows;
}

-- the values that the words give; none where clap refuses them
unfoldable pub values_of : List (List ℕ) → Option Values
values_of words = option_map values_in (rows_read wasm2c words)
