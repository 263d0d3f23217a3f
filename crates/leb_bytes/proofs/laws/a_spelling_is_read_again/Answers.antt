use Rattle.leb_bytes.proofs.Numbers.{s32_of-append, s64_of-append, u32_of-append}
use Rattle.leb_bytes.proofs.laws.a_spelling_is_read_again.Goals as goal

pub returns-clause-u32 : goal.returns-clause-u32
returns-clause-u32 c = u32_of-append

pub returns-clause-s32 : goal.returns-clause-s32
returns-clause-s32 c = s32_of-append

pub returns-clause-s64 : goal.returns-clause-s64
returns-clause-s64 c = s64_of-append
