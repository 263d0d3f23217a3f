use Rattle.wast_script.proofs.Common.{◌≡◌, ℕ, List, Some, None, Err, Option, option_map, option_and_then, sym, ap, ◌∙◌, rules, seen_line}
use Rattle.clap.specs.Words.{Row, app_of, found_of, is_simple_and_free, rows_of}
use Rattle.w2c_files.specs.Words.{texts}
use Rattle.program_words.specs.declared.no_line.NoLine.TheVariants as no_line
use Rattle.program_words.specs.Command.{rows_read}
use Rattle.program_words.proofs.Parses.{same_error}
use Rattle.wast_script.specs.CommandLine.{line_in, line_of, wast_run}
use Rattle.wast_script.specs.declared.words.Line.{Line}
use Rattle.wast_script.proofs.words.read_words.Goals as goal

-- the line of words that clap reads as these rows, or reads not
line_is : (words : List (List ℕ)) (rows : Option (List Row)) → rows_read wast_run words ≡ rows
    → line_of words ≡ option_and_then line_in rows
unfolding line_of
line_is words rows read = ap (option_and_then line_in) read

pub read_matches-requires : goal.read_matches-requires
read_matches-requires c = (let app : app_of c.in_ok-command.command ≡ wast_run = search rules in ap is_simple_and_free app)

pub returns-in-Some-clause-line : goal.returns-in-Some-clause-line
returns-in-Some-clause-line c =
    let words = texts c.args.words.now in
    let app : app_of c.in_ok-command.command ≡ wast_run = search rules in
    line_is words (Some (rows_of (found_of c.in-Ok.matches))) (ap (λ a. rows_read a words) (sym app) ∙ c.in-Ok.ensures.rows)
    ∙ sym c.line_of_matches.ensures ∙ ap (option_map seen_line) c.in-Some.is

pub returns-in-Ok-clause-usage : goal.returns-in-Ok-clause-usage
returns-in-Ok-clause-usage c = λ usage.
    let words = texts c.args.words.now in
    let app : app_of c.in_ok-command.command ≡ wast_run = search rules in
    line_is words (Some (rows_of (found_of c.in-Ok.matches))) (ap (λ a. rows_read a words) (sym app) ∙ c.in-Ok.ensures.rows)
    ∙ sym c.line_of_matches.ensures ∙ ap (option_map seen_line) c.in-None.is

pub returns-clause-usage : goal.returns-clause-usage
returns-clause-usage c usage =
    let words = texts c.args.words.now in
    let app : app_of c.in_ok-command.command ≡ wast_run = search rules in
    line_is words None (ap (λ a. rows_read a words) (sym app)
    ∙ c.in-Err.ensures.usage (ap Err (same_error {T = Line} c.in-Err.why no_line.Usage usage)))
