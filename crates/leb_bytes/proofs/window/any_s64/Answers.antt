use Rattle.std.proofs.Common.{sym}
use Rattle.leb_bytes.proofs.Numbers.{s64_of-complete}
use Rattle.leb_bytes.proofs.window.any_s64.Goals as goal

pub returns-clause-computed : goal.returns-clause-computed
returns-clause-computed c = sym (s64_of-complete c.args.window.now c.front_signed.result c.front_signed.ensures.exact)
