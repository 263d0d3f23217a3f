-- The names of a set's files are distinct, and each is a C file's or a header's.
use Rattle.wasm2c_words.proofs.Common.{◌≡◌, ℕ, ◌-◌, ◌<◌, ◌≤◌, Bool, true, false, not, ◌&&◌, ◌||◌, List, [], ◌∷◌, ◌++◌, length, get_or, take}
use Rattle.wasm2c_words.proofs.Common.{drop, IsTrue, codes, All, bytes_eq, sym, refl, ap, ◌∙◌, append_assoc, arith, length-append, le-leb}
use Rattle.wasm2c_words.proofs.Common.{drop-append_seam, take-append_seam, append_cancel_left, append_cancel_right, All-weaker}
use Rattle.wasm2c_words.proofs.Common.{AllPass-from_list_all, bytes_eq-Decides, list_any, both_hold, Name, is_c_file, escaped, are_distinct}
use Rattle.wasm2c_words.proofs.Common.{header_name_of}
use Rattle.std.proofs.lemmas.Bool.Decides.{nat_tests}
use Rattle.std.proofs.lemmas.Bool.{and_from, not-true, or_parts}
use Rattle.w2c_mangle.specs.Symbols.{is_identifier_character}
use Rattle.w2c_mangle.proofs.EscapedNames.{escaped-injective}
use Rattle.w2c_mangle.proofs.SymbolNames.{list_all-escaped}
use Rattle.wasm2c_words.specs.SetFiles.{c_file_of, files_of, header_of}

ascii : (b : ℕ) → is_identifier_character b ≡ true → b < 128
ascii b h = grind (arith, nat_tests)

pub escaped_ascii : (m : List ℕ) → All (λ b. b < 256) m → All (λ b. b < 128) (escaped m)
escaped_ascii m small = All-weaker (λ b. is_identifier_character b ≡ true) (λ b. b < 128) ascii (escaped m)
    (AllPass-from_list_all is_identifier_character (escaped m) (list_all-escaped m small))

-- a file's name with this ending
abbrev file : Name → List ℕ → ℕ → Name
file dir name letter = dir ++ (codes "/" ++ (escaped name ++ 46 ∷ letter ∷ []))

last_of : (front : List ℕ) (letter : ℕ) → get_or (drop (length (front ++ 46 ∷ letter ∷ []) - 2) (front ++ 46 ∷ letter ∷ [])) 1 0 ≡ letter
last_of front letter =
    let len : length (front ++ 46 ∷ letter ∷ []) - 2 ≡ length front = omega (arith, length-append front (46 ∷ letter ∷ [])) in
    ap (λ (n : ℕ). get_or (drop n (front ++ 46 ∷ letter ∷ [])) 1 0) len
    ∙ ap (λ (l : List ℕ). get_or l 1 0) (drop-append_seam front (46 ∷ letter ∷ []))

same_file : (dir m n : List ℕ) (a b : ℕ) → file dir m a ≡ file dir n b → (m ≡ n) × (a ≡ b)
same_file dir m n a b same =
    let ends : escaped m ++ 46 ∷ a ∷ [] ≡ escaped n ++ 46 ∷ b ∷ [] =
    append_cancel_left (codes "/") (escaped m ++ 46 ∷ a ∷ []) (escaped n ++ 46 ∷ b ∷ [])
    (append_cancel_left dir (codes "/" ++ (escaped m ++ 46 ∷ a ∷ [])) (codes "/" ++ (escaped n ++ 46 ∷ b ∷ [])) same) in
    let letters : a ≡ b =
    sym (last_of (escaped m) a) ∙ ap (λ (l : List ℕ). get_or (drop (length l - 2) l) 1 0) ends ∙ last_of (escaped n) b in
    let same_end : escaped m ++ 46 ∷ b ∷ [] ≡ escaped n ++ 46 ∷ b ∷ [] = ap (λ (x : ℕ). escaped m ++ 46 ∷ x ∷ []) (sym letters) ∙ ends in
    (escaped-injective m n (append_cancel_right (escaped m) (escaped n) (46 ∷ b ∷ []) same_end), letters)

unequal : (x y : List ℕ) → (x ≡ y → ⊥) → bytes_eq x y ≡ false
unequal x y apart = go (bytes_eq x y) refl
  where
    go : (b : Bool) → bytes_eq x y ≡ b → b ≡ false
    go true e = absurd (apart ((bytes_eq-Decides x y).0 (e)))
    go false e = refl

pub equal_not : (x y : List ℕ) → bytes_eq x y ≡ false → x ≡ y → ⊥
equal_not x y differ same =
    let yes : bytes_eq x y ≡ true = (bytes_eq-Decides x y).1 same in
    let no : false ≡ true = sym differ ∙ yes in
    cc

-- no file of other modules has the name of a file of this one
apart : (dir n : List ℕ) (letter : ℕ) (ns : List (List ℕ)) → list_any (λ other. bytes_eq other n) ns ≡ false
    → list_any (λ other. bytes_eq other (file dir n letter)) (files_of dir ns) ≡ false
apart dir n letter [] none = refl
apart dir n letter (m ∷ ms) none =
    let parts = or_parts _ _ none in
    let differ : m ≡ n → ⊥ = equal_not m n parts.0 in
    let c : bytes_eq (file dir m 99) (file dir n letter) ≡ false = unequal _ _ (λ same. differ (same_file dir m n 99 letter same).0) in
    let h : bytes_eq (file dir m 104) (file dir n letter) ≡ false = unequal _ _ (λ same. differ (same_file dir m n 104 letter same).0) in
    ap (λ (b : Bool). b || (bytes_eq (file dir m 104) (file dir n letter)
    || list_any (λ other. bytes_eq other (file dir n letter)) (files_of dir ms))) c
    ∙ ap (λ (b : Bool). b || list_any (λ other. bytes_eq other (file dir n letter)) (files_of dir ms)) h ∙ (apart dir n letter ms parts.1)

pub files_are_distinct : (dir : Name) (names : List (List ℕ)) → are_distinct names ≡ true → are_distinct (files_of dir names) ≡ true
files_are_distinct dir [] distinct = refl
files_are_distinct dir (n ∷ ns) distinct =
    let parts = both_hold _ _ distinct in
    let none : list_any (λ other. bytes_eq other n) ns ≡ false = not-true _ parts.0 in
    let h_c : bytes_eq (file dir n 104) (file dir n 99) ≡ false =
    unequal _ _ (λ same. let letters : ◌≡◌ {A = ℕ} 104 99 = (same_file dir n n 104 99 same).1 in omega (arith, letters)) in
    let c : list_any (λ other. bytes_eq other (file dir n 99)) (file dir n 104 ∷ files_of dir ns) ≡ false =
    ap (λ (b : Bool). b || list_any (λ other. bytes_eq other (file dir n 99)) (files_of dir ns)) h_c ∙ apart dir n 99 ns none in
    ap (λ (b : Bool). not b && (not (list_any (λ other. bytes_eq other (file dir n 104)) (files_of dir ns))
    && are_distinct (files_of dir ns))) c
    ∙ ap (λ (b : Bool). not b && are_distinct (files_of dir ns)) (apart dir n 104 ns none) ∙ files_are_distinct dir ns parts.1

-- a name that ends in a dot and a letter, cut before both
front_of : (front : List ℕ) (letter : ℕ) → take (length (front ++ 46 ∷ letter ∷ []) - 2) (front ++ 46 ∷ letter ∷ []) ≡ front
front_of front letter =
    let len : length (front ++ 46 ∷ letter ∷ []) - 2 ≡ length front = omega (arith, length-append front (46 ∷ letter ∷ [])) in
    ap (λ (n : ℕ). take n (front ++ 46 ∷ letter ∷ [])) len ∙ take-append_seam front (46 ∷ letter ∷ [])

end_of : (front : List ℕ) (letter : ℕ) → drop (length (front ++ 46 ∷ letter ∷ []) - 2) (front ++ 46 ∷ letter ∷ []) ≡ 46 ∷ letter ∷ []
end_of front letter =
    let len : length (front ++ 46 ∷ letter ∷ []) - 2 ≡ length front = omega (arith, length-append front (46 ∷ letter ∷ [])) in
    ap (λ (n : ℕ). drop n (front ++ 46 ∷ letter ∷ [])) len ∙ drop-append_seam front (46 ∷ letter ∷ [])

abbrev before_ending : Name → List ℕ → List ℕ
before_ending dir name = dir ++ (codes "/" ++ escaped name)

parted : (dir name : List ℕ) (letter : ℕ) → file dir name letter ≡ before_ending dir name ++ 46 ∷ letter ∷ []
parted dir name letter =
    sym (append_assoc dir (codes "/" ++ escaped name) (46 ∷ letter ∷ [])
    ∙ ap (λ (l : List ℕ). dir ++ l) (append_assoc (codes "/") (escaped name) (46 ∷ letter ∷ [])))

pub header_beside : (dir name : List ℕ) → header_name_of (c_file_of dir name) ≡ header_of dir name
header_beside dir name =
    ap (λ (x : List ℕ). take (length x - 2) x ++ codes ".h") (parted dir name 99)
    ∙ ap (λ (l : List ℕ). l ++ codes ".h") (front_of (before_ending dir name) 99) ∙ sym (parted dir name 104)

ends_in_c : (front : List ℕ) → 1 ≤ length front → is_c_file (front ++ 46 ∷ 99 ∷ []) ≡ true
ends_in_c front some =
    and_from _ _ (le-leb 3 (length (front ++ 46 ∷ 99 ∷ [])) (omega (arith, length-append front (46 ∷ 99 ∷ []))))
    ((bytes_eq-Decides (drop (length (front ++ 46 ∷ 99 ∷ []) - 2) (front ++ 46 ∷ 99 ∷ [])) (codes ".c")).1 (end_of front 99))

pub is_c : (dir name : List ℕ) → IsTrue (is_c_file (c_file_of dir name))
is_c dir name =
    ap is_c_file (parted dir name 99)
    ∙ ends_in_c (before_ending dir name)
    (omega (arith, length-append dir (codes "/" ++ escaped name), length-append (codes "/") (escaped name)))
