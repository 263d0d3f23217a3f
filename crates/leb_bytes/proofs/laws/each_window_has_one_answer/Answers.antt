use Rattle.std.proofs.Common.{sym, ◌∙◌}
use Rattle.leb_bytes.proofs.Numbers.{s32_of-sound, s64_of-sound, u32_of-sound}
use Rattle.leb_bytes.proofs.Windows.{signed_of-complete, unsigned_of-complete}
use Rattle.leb_bytes.proofs.laws.each_window_has_one_answer.Goals as goal

pub returns-clause-unsigned : goal.returns-clause-unsigned
returns-clause-unsigned c = λ width window r s a b. sym (unsigned_of-complete width window r a) ∙ unsigned_of-complete width window s b

pub returns-clause-signed : goal.returns-clause-signed
returns-clause-signed c = λ width window r s a b. sym (signed_of-complete width window r a) ∙ signed_of-complete width window s b

pub returns-clause-u32 : goal.returns-clause-u32
returns-clause-u32 c = u32_of-sound

pub returns-clause-s32 : goal.returns-clause-s32
returns-clause-s32 c = s32_of-sound

pub returns-clause-s64 : goal.returns-clause-s64
returns-clause-s64 c = s64_of-sound
