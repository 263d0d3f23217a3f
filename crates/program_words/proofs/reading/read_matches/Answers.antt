use Rattle.std.proofs.Common.{◌≡◌}
use Rattle.clap.specs.Words.{app_of, found_of, is_simple, rows_of}
use Rattle.w2c_files.specs.Words.{texts}
use Rattle.w2c_base.proofs.Conjunctions.{left_holds}
use Rattle.clap.specs.declared.parser.matches.ArgMatches.{ArgMatches}
use Rattle.program_words.specs.declared.no_line.NoLine.TheVariants as no_line
use Rattle.program_words.proofs.Parses.{none_parsed, rows_parsed, same_error}
use Rattle.program_words.proofs.reading.read_matches.Goals as goal

pub returns-in-Ok-clause-rows : goal.returns-in-Ok-clause-rows
returns-in-Ok-clause-rows c =
    let app = app_of c.args.command in
    rows_parsed (texts c.args.words.now) app c.try_get_matches_from.result (c.try_get_matches_from.ensures.kinds c.requires)
    c.in-Ok.matches (rows_of (found_of c.in-Ok.matches)) c.in-Ok.is
    (c.in-Ok.ensures.matches (left_holds (is_simple app) _ c.requires)).0

pub returns-in-Err-clause-usage : goal.returns-in-Err-clause-usage
returns-in-Err-clause-usage c usage =
    none_parsed (texts c.args.words.now) (app_of c.args.command) c.try_get_matches_from.result
    (c.try_get_matches_from.ensures.kinds c.requires) c.in-Err.error c.in-Err.is
    (c.refusal.ensures.usage (same_error {T = ArgMatches} c.refusal.result no_line.Usage usage))
