use Rattle.crun_words.proofs.Common.{◌≡◌, ℕ, List, Some, None, Err, Option, option_map, option_and_then, sym, ap, ◌∙◌, rules, Row, app_of}
use Rattle.crun_words.proofs.Common.{found_of, is_simple_and_free, rows_of, texts, rows_read, line_of, line_of_values, seen_line}
use Rattle.program_words.specs.declared.no_line.NoLine.TheVariants as no_line
use Rattle.program_words.proofs.Parses.{same_error, told_of_equal}
use Rattle.crun_words.specs.Command.{crun, values_in, values_of}
use Rattle.crun_words.specs.declared.line.Line.{Line}
use Rattle.crun_words.proofs.read.read_words.Goals as goal

-- the line of words that clap reads as these rows, or reads not
line_is : (words : List (List ℕ)) (rows : Option (List Row)) → rows_read crun words ≡ rows
    → line_of words ≡ option_and_then line_of_values (option_map values_in rows)
unfolding values_of
line_is words rows read = ap (λ o. option_and_then line_of_values (option_map values_in o)) read

pub read_matches-requires : goal.read_matches-requires
read_matches-requires c = (let app : app_of c.in_ok-command.command ≡ crun = search rules in ap is_simple_and_free app)

pub returns-in-Ok-clause-line : goal.returns-in-Ok-clause-line
returns-in-Ok-clause-line c =
    let words = texts c.args.words.now in
    let rows = rows_of (found_of c.in-Ok.matches) in
    let app : app_of c.in_ok-command.command ≡ crun = search rules in
    told_of_equal c.line_of_matches.result seen_line (line_of words) (line_of_values (values_in rows))
    (line_is words (Some rows) (ap (λ a. rows_read a words) (sym app) ∙ c.in-Ok.ensures.rows)) c.line_of_matches.ensures.line

pub returns-in-Ok-clause-usage : goal.returns-in-Ok-clause-usage
returns-in-Ok-clause-usage c usage =
    let words = texts c.args.words.now in
    let app : app_of c.in_ok-command.command ≡ crun = search rules in
    line_is words (Some (rows_of (found_of c.in-Ok.matches))) (ap (λ a. rows_read a words) (sym app) ∙ c.in-Ok.ensures.rows)
    ∙ c.line_of_matches.ensures.usage usage

pub returns-in-Err-clause-usage : goal.returns-in-Err-clause-usage
returns-in-Err-clause-usage c usage =
    let words = texts c.args.words.now in
    let app : app_of c.in_ok-command.command ≡ crun = search rules in
    line_is words None (ap (λ a. rows_read a words) (sym app)
    ∙ c.in-Err.ensures.usage (ap Err (same_error {T = Line} c.in-Err.why no_line.Usage usage)))
