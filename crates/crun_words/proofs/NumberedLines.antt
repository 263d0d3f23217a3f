-- The lines that are to name calls, a line more.
use Rattle.crun_words.proofs.Common.{◌≡◌, ℕ, zero, suc, ◌+◌, ◌<◌, List, [], ◌∷◌, ◌++◌, length, take, slice_get, Some, sym, refl, ap, ◌∙◌}
use Rattle.crun_words.proofs.Common.{append-nil, arith, map_push, take_next, numbered, seen_lines, seen_numbered, NumberedLine}
use Rattle.crun_words.specs.CallsFile as file

-- the last line has the number behind those in front of it
numbered_next : (number : ℕ) (front : List (List ℕ)) (line : List ℕ)
    → numbered number (front ++ line ∷ []) ≡ numbered number front ++ numbered (number + length front) (line ∷ [])
numbered_next number [] line =
    let same : number ≡ number + length {A = List ℕ} [] = omega arith in ap (λ (n : ℕ). numbered n (line ∷ [])) same
numbered_next number ([] ∷ front) line =
    let same : number + 1 + length front ≡ number + length {A = List ℕ} ([] ∷ front) = omega arith in
    numbered_next (number + 1) front line ∙ ap (λ (n : ℕ). numbered (number + 1) front ++ numbered n (line ∷ [])) same
numbered_next number ((b ∷ other) ∷ front) line =
    let same : number + 1 + length front ≡ number + length ((b ∷ other) ∷ front) = omega arith in
    let first : file.NumberedLine = record { number = number; text = b ∷ other } in
    ap (λ (l : List file.NumberedLine). first ∷ l)
    (numbered_next (number + 1) front line ∙ ap (λ (n : ℕ). numbered (number + 1) front ++ numbered n (line ∷ [])) same)

so_many : (parts : List (List ℕ)) (k : ℕ) (part : List ℕ) → slice_get parts k ≡ Some part → length (take k parts) ≡ k
so_many [] k part at = cc
so_many (p ∷ parts) zero part at = refl
so_many (p ∷ parts) (suc k) part at = ap suc (so_many parts k part at)

-- the lines of so many parts, and of one more
pub next : (parts : List (List ℕ)) (k : ℕ) (part : List ℕ) → slice_get parts k ≡ Some part
    → numbered 1 (take (k + 1) parts) ≡ numbered 1 (take k parts) ++ numbered (k + 1) (part ∷ [])
next parts k part at =
    let many : 1 + length (take k parts) ≡ k + 1 = omega (arith, so_many parts k part at) in
    ap (numbered 1) (take_next parts k part at) ∙ numbered_next 1 (take k parts) part
    ∙ ap (λ (n : ℕ). numbered 1 (take k parts) ++ numbered n (part ∷ [])) many

one : (number : ℕ) (part : List ℕ) (line : file.NumberedLine) → 0 < length part → line ≡ record { number = number; text = part }
    → line ∷ [] ≡ numbered number (part ∷ [])
one number [] line some is = absurd (omega (arith, some))
one number (b ∷ part) line some is = ap (λ (l : file.NumberedLine). l ∷ []) is

none : (number : ℕ) (part : List ℕ) → length part ≡ 0 → numbered number (part ∷ []) ≡ []
none number [] empty = refl
none number (b ∷ part) empty = absurd (omega (arith, empty))

pub pushed : (lines new : List NumberedLine) (line : NumberedLine) (number : ℕ) (part : List ℕ) → 0 < length part
    → seen_numbered line ≡ record { number = number; text = part } → new ≡ lines ++ line ∷ []
    → seen_lines new ≡ seen_lines lines ++ numbered number (part ∷ [])
pushed lines new line number part some is push =
    ap seen_lines push ∙ map_push seen_numbered lines line
    ∙ ap (λ (l : List file.NumberedLine). seen_lines lines ++ l) (one number part (seen_numbered line) some is)

pub skipped : (lines : List NumberedLine) (number : ℕ) (part : List ℕ) → length part ≡ 0
    → seen_lines lines ≡ seen_lines lines ++ numbered number (part ∷ [])
skipped lines number part empty =
    sym (append-nil (seen_lines lines)) ∙ ap (λ (l : List file.NumberedLine). seen_lines lines ++ l) (sym (none number part empty))
