-- The laws of `u32_of`, `s32_of` and `s64_of`, for crates that read with them: it is the answer that
-- the bytes have, it is no other, and it is the same whatever follows a spelling.
use Rattle.leb_bytes.proofs.Common.{◌≡◌, ℕ, ◌≤◌, List, ◌++◌, length, take, ℤ, Ok, Result, subst, arith, SpellsSigned, SpellsUnsigned}
use Rattle.leb_bytes.proofs.Common.{AnswersSigned, AnswersUnsigned, LebFault}
use Rattle.leb_bytes.specs.Computed.{s32_of, s64_of, u32_of}
use Rattle.leb_bytes.proofs.Windows.{signed_of-append, signed_of-complete, signed_of-sound, unsigned_of-append, unsigned_of-complete}
use Rattle.leb_bytes.proofs.Windows.{unsigned_of-sound}

-- ---- 32 bits without sign

pub u32_of-sound : (window : List ℕ) → AnswersUnsigned 32 window (u32_of window)
unfolding u32_of
u32_of-sound window = unsigned_of-sound 32 window

pub u32_of-complete : (window : List ℕ) (r : Result (ℕ × ℕ) LebFault) → AnswersUnsigned 32 window r → u32_of window ≡ r
unfolding u32_of
u32_of-complete window r a = unsigned_of-complete 32 window r a

pub u32_of-spelled : (window : List ℕ) (n k : ℕ) → u32_of window ≡ Ok (n, k) → (k ≤ length window) × SpellsUnsigned 32 (take k window) n
u32_of-spelled window n k e = subst (AnswersUnsigned 32 window) e (u32_of-sound window)

pub u32_of-append : (bytes more : List ℕ) (n : ℕ) → SpellsUnsigned 32 bytes n → u32_of (bytes ++ more) ≡ Ok (n, length bytes)
unfolding u32_of
u32_of-append bytes more n s = unsigned_of-append 32 bytes more n s

-- ---- 32 bits with a sign

pub s32_of-sound : (window : List ℕ) → AnswersSigned 32 window (s32_of window)
unfolding s32_of
s32_of-sound window = signed_of-sound 32 window (omega arith)

pub s32_of-complete : (window : List ℕ) (r : Result (ℤ × ℕ) LebFault) → AnswersSigned 32 window r → s32_of window ≡ r
unfolding s32_of
s32_of-complete window r a = signed_of-complete 32 window r a

pub s32_of-spelled : (window : List ℕ) (n : ℤ) (k : ℕ) → s32_of window ≡ Ok (n, k) → (k ≤ length window) × SpellsSigned 32 (take k window) n
s32_of-spelled window n k e = subst (AnswersSigned 32 window) e (s32_of-sound window)

pub s32_of-append : (bytes more : List ℕ) (n : ℤ) → SpellsSigned 32 bytes n → s32_of (bytes ++ more) ≡ Ok (n, length bytes)
unfolding s32_of
s32_of-append bytes more n s = signed_of-append 32 bytes more n s

-- ---- 64 bits with a sign

pub s64_of-sound : (window : List ℕ) → AnswersSigned 64 window (s64_of window)
unfolding s64_of
s64_of-sound window = signed_of-sound 64 window (omega arith)

pub s64_of-complete : (window : List ℕ) (r : Result (ℤ × ℕ) LebFault) → AnswersSigned 64 window r → s64_of window ≡ r
unfolding s64_of
s64_of-complete window r a = signed_of-complete 64 window r a

pub s64_of-spelled : (window : List ℕ) (n : ℤ) (k : ℕ) → s64_of window ≡ Ok (n, k) → (k ≤ length window) × SpellsSigned 64 (take k window) n
s64_of-spelled window n k e = subst (AnswersSigned 64 window) e (s64_of-sound window)

pub s64_of-append : (bytes more : List ℕ) (n : ℤ) → SpellsSigned 64 bytes n → s64_of (bytes ++ more) ≡ Ok (n, length bytes)
unfolding s64_of
s64_of-append bytes more n s = signed_of-append 64 bytes more n s
