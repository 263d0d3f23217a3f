-- The last of some modules, with a function more.
use Rattle.host_replay.proofs.Common.{◌≡◌, ℕ, zero, suc, ◌-◌, List, [], ◌∷◌, ◌++◌, length, slice_index_or, slice_set, ap, arith, Host}
use Rattle.host_replay.proofs.Common.{module_of, modules_of, JournalModule}

last_in : (items : List JournalModule) (front : List Host) (last : Host) (k : ℕ) (d : JournalModule) → modules_of items ≡ front ++ last ∷ []
    → length items ≡ suc k → module_of (slice_index_or items k d) ≡ last
last_in (m ∷ []) [] last zero d are n = cc
last_in (m ∷ []) (x ∷ []) last k d are n = absurd cc
last_in (m ∷ []) (x ∷ y ∷ front) last k d are n = absurd cc
last_in (m ∷ o ∷ items) [] last k d are n = absurd cc
last_in (m ∷ o ∷ items) (x ∷ front) last (suc k) d are n =
    let rest : modules_of (o ∷ items) ≡ front ++ last ∷ [] = cc in last_in (o ∷ items) front last k d rest (omega (arith, n))
last_in _ _ last _ d are n = absurd (omega (arith, n))

set_in : (items : List JournalModule) (front : List Host) (last new : Host) (k : ℕ) (x : JournalModule)
    → modules_of items ≡ front ++ last ∷ []
    → length items ≡ suc k → module_of x ≡ new → modules_of (slice_set items k x) ≡ front ++ new ∷ []
set_in (m ∷ []) [] last new zero x are n is = ap (λ (h : Host). h ∷ []) is
set_in (m ∷ []) (a ∷ []) last new k x are n is = absurd cc
set_in (m ∷ []) (a ∷ b ∷ front) last new k x are n is = absurd cc
set_in (m ∷ o ∷ items) [] last new k x are n is = absurd cc
set_in (m ∷ o ∷ items) (a ∷ front) last new (suc k) x are n is =
    let first : module_of m ≡ a = cc in
    let rest : modules_of (o ∷ items) ≡ front ++ last ∷ [] = cc in
    λ i. first i ∷ set_in (o ∷ items) front last new k x rest (omega (arith, n)) is i
set_in _ _ last new _ x are n is = absurd (omega (arith, n))

count : (items : List JournalModule) (front : List Host) (last : Host) (n : ℕ) → modules_of items ≡ front ++ last ∷ [] → n ≡ length items
    → length items ≡ suc (n - 1)
count [] [] last n are is = absurd cc
count [] (a ∷ front) last n are is = absurd cc
count (m ∷ items) front last n are is = omega (arith, is)

pub last_is : (items : List JournalModule) (front : List Host) (last : Host) (n : ℕ) (d : JournalModule)
    → modules_of items ≡ front ++ last ∷ []
    → n ≡ length items → module_of (slice_index_or items (n - 1) d) ≡ last
last_is items front last n d are is = last_in items front last (n - 1) d are (count items front last n are is)

pub last_set : (items : List JournalModule) (front : List Host) (last new : Host) (n : ℕ) (x : JournalModule)
    → modules_of items ≡ front ++ last ∷ []
    → n ≡ length items → module_of x ≡ new → modules_of (slice_set items (n - 1) x) ≡ front ++ new ∷ []
last_set items front last new n x are is same = set_in items front last new (n - 1) x are (count items front last n are is) same
