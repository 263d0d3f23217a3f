use Rattle.std.proofs.Common.{◌∙◌}
use Rattle.c_init.proofs.source.Source.symbols.Goals as goal

pub returns : goal.returns
returns c = c.symbols.ensures ∙ c.args.self.now.spaces_are
