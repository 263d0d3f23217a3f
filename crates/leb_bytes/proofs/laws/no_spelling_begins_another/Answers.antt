use Rattle.leb_bytes.proofs.Runs.{IsNumberRun-append}
use Rattle.leb_bytes.proofs.laws.no_spelling_begins_another.Goals as goal

pub returns-clause-unsigned : goal.returns-clause-unsigned
returns-clause-unsigned c = λ width bytes more m n a b. IsNumberRun-append bytes more a.run b.run

pub returns-clause-signed : goal.returns-clause-signed
returns-clause-signed c = λ width bytes more m n a b. IsNumberRun-append bytes more a.run b.run
