use Rattle.c_lex.proofs.Common.{sym, ap, ◌∙◌}
use Rattle.std.specs.Prelude.{Ok}
use Rattle.c_lex.proofs.Seen.{goes_on, expected, fewer}
use Rattle.c_lex.proofs.cursor.Cursor.take.Goals as goal

pub advance-requires : goal.advance-requires
advance-requires c = goes_on c.args._tok c.args.self.now c.requires.seen c.requires.more

pub returns-clause-taken : goal.returns-clause-taken
returns-clause-taken c = expected c.args._tok c.args.self.now c.requires.seen ∙ ap (λ ls. Ok (tt, ls)) (sym c.advance.ensures)

pub returns-clause-shorter : goal.returns-clause-shorter
returns-clause-shorter c =
    rw (← c.advance.ensures) at (fewer c.args.self.now (goes_on c.args._tok c.args.self.now c.requires.seen c.requires.more))
