-- The header's name: what it is made of, and that it is not the C file's.
use Rattle.wasm2c_words.proofs.Common.{◌≡◌, ℕ, ◌-◌, ◌<◌, Bool, true, false, ◌&&◌, List, [], ◌∷◌, ◌++◌, length, get_or, take, drop, IsTrue}
use Rattle.wasm2c_words.proofs.Common.{codes, sym, ap, ◌∙◌, subst, append_assoc, arith, length-append, take-append-drop, get_or-append_seam}
use Rattle.wasm2c_words.proofs.Common.{take-append_seam, append_cancel_left, bytes_eq-Decides, Name, is_c_file, header_name_of}

not_true : IsTrue false → ⊥
not_true h = cc

second_true : (a b : Bool) → IsTrue (a && b) → IsTrue b
second_true true b h = h
second_true false b h = absurd (not_true h)

-- a C file's name ends in .c
pub ends_in_c : (out : Name) → IsTrue (is_c_file out) → out ≡ take (length out - 2) out ++ codes ".c"
ends_in_c out h =
    let ends : drop (length out - 2) out ≡ codes ".c" = (bytes_eq-Decides (drop (length out - 2) out) (codes ".c")).0 (second_true _ _ h) in
    sym (take-append-drop (length out - 2) out) ∙ ap (λ (l : List ℕ). take (length out - 2) out ++ l) ends

pub is_apart : (out : Name) → IsTrue (is_c_file out) → out ≡ header_name_of out → ⊥
is_apart out h same =
    let ends : codes ".c" ≡ codes ".h" =
    append_cancel_left (take (length out - 2) out) (codes ".c") (codes ".h") (sym (ends_in_c out h) ∙ same) in
    let last : ◌≡◌ {A = ℕ} 99 104 = ap (λ (l : List ℕ). get_or l 1 0) ends in
    omega (arith, last)

but_last : (front : List ℕ) (b : ℕ) → take (length (front ++ b ∷ []) - 1) (front ++ b ∷ []) ≡ front
but_last front b =
    let len : length (front ++ b ∷ []) - 1 ≡ length front = omega (arith, length-append front (b ∷ [])) in
    ap (λ (n : ℕ). take n (front ++ b ∷ [])) len ∙ take-append_seam front (b ∷ [])

last_is : (front : List ℕ) (b : ℕ) → get_or (front ++ b ∷ []) (length (front ++ b ∷ []) - 1) 0 ≡ b
last_is front b =
    let len : length (front ++ b ∷ []) - 1 ≡ length front = omega (arith, length-append front (b ∷ [])) in
    ap (λ (n : ℕ). get_or (front ++ b ∷ []) n 0) len ∙ get_or-append_seam front b [] 0

-- the last character leaves, and h comes
changed : (out front mid new : List ℕ) → out ≡ front ++ 99 ∷ []
    → (0 < length out → get_or out (length out - 1) 0 < 128 → mid ≡ take (length out - 1) out) → new ≡ mid ++ 104 ∷ []
    → new ≡ front ++ 104 ∷ []
changed out front mid new ends pops is =
    let some : 0 < length out = omega (arith, ap length ends, length-append front (99 ∷ [])) in
    let last : get_or out (length out - 1) 0 ≡ 99 = ap (λ (l : List ℕ). get_or l (length l - 1) 0) ends ∙ last_is front 99 in
    let cut : take (length out - 1) out ≡ front = ap (λ (l : List ℕ). take (length l - 1) l) ends ∙ but_last front 99 in
    is ∙ ap (λ (l : List ℕ). l ++ 104 ∷ []) (pops some (omega (arith, last)) ∙ cut)

pub header_name_is : (out old mid new : List ℕ) (len : ℕ) → IsTrue (is_c_file out) → old ≡ out → len ≡ length old
    → (0 < len → get_or old (len - 1) 0 < 128 → mid ≡ take (len - 1) old) → new ≡ mid ++ 104 ∷ [] → new ≡ header_name_of out
header_name_is out old mid new len h same is_len pops is =
    let stem = take (length out - 2) out in
    let ends : old ≡ (stem ++ 46 ∷ []) ++ 99 ∷ [] = same ∙ ends_in_c out h ∙ sym (append_assoc stem (46 ∷ []) (99 ∷ [])) in
    changed old (stem ++ 46 ∷ []) mid new ends (subst (λ n. 0 < n → get_or old (n - 1) 0 < 128 → mid ≡ take (n - 1) old) is_len pops) is
    ∙ append_assoc stem (46 ∷ []) (104 ∷ [])
