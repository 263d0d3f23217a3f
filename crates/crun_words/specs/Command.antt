-- The command that `clap` reads the words as, and the values that it finds.
use Rattle.std.specs.Prelude.{ℕ, Bool, false, List, Option, Some, None, option_map, codes}
use Rattle.std.specs.Str.{bytes_eq}
use Rattle.clap.specs.Words.{App, Row, Rule, first_of, new_rule, with_rule}
use Rattle.clap.specs.declared.builder.action.ArgAction.TheVariants.{SetTrue}
use Rattle.w2c_io.specs.Contents.{Name}
use Rattle.program_words.specs.Command.{bare, rows_read, word_option, words_in, words_left}

-- a flag of a whole word: clap gives it the text true where it is used, and false where it is not
abbrev pub word_flag : List ℕ → Rule
word_flag id = record (new_rule id) { long = Some id; action = Some SetTrue }

-- --steps N, --calls FILE, --state, --record J, --replay J, --merge OUT.c, --trim OUT.c and units
abbrev pub crun : App
crun =
    with_rule (with_rule (with_rule (with_rule (with_rule (with_rule (with_rule (with_rule (bare (codes "crun"))
    (word_option (codes "steps"))) (word_option (codes "calls"))) (word_flag (codes "state")))
    (word_option (codes "record"))) (word_option (codes "replay")))
    (word_option (codes "merge"))) (word_option (codes "trim")))
    (words_left (codes "units"))

-- the values of the options, each where it was used, whether the flag was used, and the units in order
pub record Values : Type 0 where
  pub steps : Option (List ℕ)
  pub calls : Option Name
  pub shows_state : Bool
  pub journal : Option Name
  pub replayed : Option Name
  pub merged : Option Name
  pub trimmed : Option Name
  pub units : List Name

-- a flag's text is true
abbrev pub is_used : Option (List ℕ) → Bool
is_used None = false
is_used (Some text) = bytes_eq text (codes "true")

abbrev pub values_in : List Row → Values
values_in rows = record {
  steps = first_of (codes "steps") rows;
  calls = first_of (codes "calls") rows;
  shows_state = is_used (first_of (codes "state") rows);
  journal = first_of (codes "record") rows;
  replayed = first_of (codes "replay") rows;
  merged = first_of (codes "merge") rows;
  trimmed = first_of (codes "trim") rows;
  units = words_in (codes "units") rows;
}

-- the values that the words give; none where clap refuses them
unfoldable pub values_of : List (List ℕ) → Option Values
values_of words = option_map values_in (rows_read crun words)
