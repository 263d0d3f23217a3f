-- Reading so many values one after the other, as a loop does.
use Rattle.packed_stmts.proofs.Common.{◌≡◌, ℕ, suc, ◌+◌, ◌-◌, ◌<◌, ◌≤◌, List, [], ◌∷◌, ◌++◌, sym, refl, ap, ◌∙◌, arith}
use Rattle.std.proofs.Common.{append_assoc}
use Rattle.std.proofs.lemmas.List.{append-nil}
use Rattle.packed_stmts.specs.Unpacked.{Reading, size_at, times_at, list_at}

-- what was read before, and what is still read
abbrev pub with_front : {A : Type 0} → List A → List A × List ℕ → List A × List ℕ
with_front front p = (front ++ p.0, p.1)

pub begins : {A : Type 0} (read : Reading A) (front : List A) (count : ℕ) (bytes after : List ℕ) → front ≡ []
    → size_at bytes ≡ (count, after)
    → with_front front (times_at read (count - 0) after) ≡ list_at read bytes
begins read front count bytes after e h = let k : count - 0 ≡ count = omega arith in rw (e, h, k) refl

pub goes_on : {A : Type 0} (read : Reading A) (front : List A) (count i : ℕ) (bytes after : List ℕ) (x : A) (total : List A × List ℕ)
    → i < count → read bytes ≡ (x, after)
    → with_front front (times_at read (count - i) bytes) ≡ total
    → with_front (front ++ x ∷ []) (times_at read (count - (i + 1)) after) ≡ total
goes_on {A} read front count i bytes after x total lt h so_far =
    let k : count - i ≡ suc (count - (i + 1)) = omega arith in
    let rest = times_at read (count - (i + 1)) after in
    let one : with_front front (times_at read (count - i) bytes) ≡ with_front (front ++ x ∷ []) rest =
    rw (k, h) (ap (λ (xs : List A). (xs, rest.1)) (sym (append_assoc front (x ∷ []) rest.0))) in
    sym one ∙ so_far

pub is_done : {A : Type 0} (read : Reading A) (front : List A) (count i : ℕ) (bytes : List ℕ) (total : List A × List ℕ) → count ≤ i
    → with_front front (times_at read (count - i) bytes) ≡ total
    → total ≡ (front, bytes)
is_done {A} read front count i bytes total le so_far =
    let k : count - i ≡ 0 = omega arith in
    let one : with_front front (times_at read (count - i) bytes) ≡ (front, bytes) =
    rw k (ap (λ (xs : List A). (xs, bytes)) (append-nil front)) in
    sym so_far ∙ one
