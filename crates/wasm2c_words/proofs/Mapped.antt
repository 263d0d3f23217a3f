-- Tests of the names that files give their modules.
use Rattle.wasm2c_words.proofs.Common.{◌≡◌, ℕ, ◌-◌, ◌<◌, Bool, true, false, not, ◌&&◌, ◌||◌, List, [], ◌∷◌, map, length, get_or, take, drop}
use Rattle.wasm2c_words.proofs.Common.{bytes_eq, sym, refl, ap, ◌∙◌, arith, take_all, Bor, list_all, list_any, names_of, is_module_name}
use Rattle.wasm2c_words.proofs.Common.{are_distinct, module_name_of}

abbrev pub modules : List (Bor (List ℕ)) → List (List ℕ)
modules files = map module_name_of (names_of files)

-- some file has this module
abbrev pub names_one : List ℕ → List (Bor (List ℕ)) → Bool
names_one name files = list_any (λ (file : Bor (List ℕ)). bytes_eq (module_name_of file.now) name) files

pub modules_have_names : (files : List (Bor (List ℕ)))
    → list_all is_module_name (map module_name_of (map (λ (name : Bor (List ℕ)). name.now) files))
    ≡ list_all (λ (file : Bor (List ℕ)). is_module_name (module_name_of file.now)) files
modules_have_names [] = refl
modules_have_names (x ∷ xs) = ap (λ b. is_module_name (module_name_of x.now) && b) (modules_have_names xs)

module_named : (name : List ℕ) (files : List (Bor (List ℕ)))
    → list_any (λ other. bytes_eq other name) (modules files) ≡ names_one name files
module_named name [] = refl
module_named name (x ∷ xs) = ap (λ b. bytes_eq (module_name_of x.now) name || b) (module_named name xs)

-- the first of the files has a module that none behind it has
pub first_apart : (files : List (Bor (List ℕ))) (d : Bor (List ℕ)) (n : ℕ) (name : List ℕ) → 0 < length files → n ≡ length files - 1
    → name ≡ module_name_of (get_or files 0 d).now → names_one name (take n (drop 1 files)) ≡ false
    → are_distinct (modules (take n (drop 1 files))) ≡ are_distinct (modules files)
first_apart [] d n name some len is apart = absurd (omega arith)
first_apart (x ∷ xs) d n name some len is apart =
    let rest : take n xs ≡ xs = take_all n xs (omega (arith, len)) in
    let none : list_any (λ other. bytes_eq other (module_name_of x.now)) (modules xs) ≡ false =
    module_named (module_name_of x.now) xs ∙ ap (λ (fs : List (Bor (List ℕ))). names_one (module_name_of x.now) fs) (sym rest)
    ∙ ap (λ (m : List ℕ). names_one m (take n xs)) (sym is) ∙ apart in
    ap (λ (fs : List (Bor (List ℕ))). are_distinct (modules fs)) rest ∙ sym (ap (λ b. not b && are_distinct (modules xs)) none)

-- or one behind it has it too
pub first_again : (files : List (Bor (List ℕ))) (d : Bor (List ℕ)) (n : ℕ) (name : List ℕ) → 0 < length files → n ≡ length files - 1
    → name ≡ module_name_of (get_or files 0 d).now → names_one name (take n (drop 1 files)) ≡ true → false ≡ are_distinct (modules files)
first_again [] d n name some len is again = absurd (omega arith)
first_again (x ∷ xs) d n name some len is again =
    let rest : take n xs ≡ xs = take_all n xs (omega (arith, len)) in
    let one : list_any (λ other. bytes_eq other (module_name_of x.now)) (modules xs) ≡ true =
    module_named (module_name_of x.now) xs ∙ ap (λ (fs : List (Bor (List ℕ))). names_one (module_name_of x.now) fs) (sym rest)
    ∙ ap (λ (m : List ℕ). names_one m (take n xs)) (sym is) ∙ again in
    sym (ap (λ b. not b && are_distinct (modules xs)) one)
