use Rattle.host_replay.proofs.Common.{refl, ticks}
use Rattle.std.specs.Fmt.{digits}
use Rattle.host_replay.proofs.Sampled.{behind, writable}
use Rattle.host_replay.proofs.Spelled.{spelled}
use Rattle.host_replay.proofs.cases.reading_cases.Goals as goal

pub returns-clause-read : goal.returns-clause-read
returns-clause-read c = spelled ticks writable

pub returns-clause-module_behind_a_call : goal.returns-clause-module_behind_a_call
unfolding digits
returns-clause-module_behind_a_call c = behind refl refl
