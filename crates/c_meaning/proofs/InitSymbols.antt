-- A symbol is found to be that of an init function exactly where it is one.
use Rattle.c_meaning.proofs.Common.{◌≡◌, ℕ, ◌+◌, ◌-◌, ◌*◌, ◌/◌, ◌%◌, ◌<◌, ◌≤◌, Bool, true, false, cond, ◌&&◌, List, [], ◌∷◌, ◌++◌, length}
use Rattle.c_meaning.proofs.Common.{take, drop, nat_lt, nat_le, ◌==◌, codes, All, bytes_eq, sym, refl, ap, ◌∙◌, subst, arith, length-append}
use Rattle.c_meaning.proofs.Common.{take_at, bytes_eq-Decides, list_all, init_symbol_of, hexadecimal_value, is_init_symbol, is_module_name}
use Rattle.c_meaning.proofs.Common.{unescaped}
use Rattle.std.proofs.lemmas.Bool.Decides.{nat_tests}
use Rattle.std.proofs.lemmas.List.Elements.{All-head, All-tail, All-cons, All-nil}
use Rattle.w2c_base.proofs.Conjunctions.{both_hold}
use Rattle.w2c_mangle.specs.Escaping.{stays, hexadecimal_digit, escaped_byte, escaped}
use Rattle.c_meaning.proofs.Lookups.{bytes_equal}

-- a byte that is no Z stays
kept : (b : ℕ) (text : List ℕ) → (b == 90) ≡ false → unescaped (b ∷ text) ≡ b ∷ unescaped text
kept b [] e = refl
kept b (c ∷ []) e = refl
kept b (c ∷ d ∷ text) e = rw e refl

value_of_digit : (d : ℕ) → d < 16 → hexadecimal_value (hexadecimal_digit d) ≡ d
value_of_digit d h = grind (arith, nat_tests)

not_z : (b : ℕ) → stays b ≡ true → (b == 90) ≡ false
not_z b h = go (b == 90) refl
  where
    go : (v : _) → (b == 90) ≡ v → (b == 90) ≡ false
    go true e = let is : b ≡ 90 = grind (arith, nat_tests) in let P : ℕ
        → Type 0 = λ n. stays n ≡ true in let none : false ≡ true = subst P is h in absurd (cc)
    go false e = e

byte_back : (b : ℕ) (text : List ℕ) → b < 256 → unescaped (escaped_byte b ++ text) ≡ b ∷ unescaped text
byte_back b text small = go (stays b) refl
  where
    go : (v : _) → stays b ≡ v → unescaped (cond v (b ∷ []) (90 ∷ hexadecimal_digit (b / 16) ∷ hexadecimal_digit (b % 16) ∷ []) ++ text)
        ≡ b ∷ unescaped text
    go true e = kept b text (not_z b e)
    go false e =
        let high = value_of_digit (b / 16) (omega arith) in
        let low = value_of_digit (b % 16) (omega arith) in
        let whole : 16 * (b / 16) + b % 16 ≡ b = omega arith in
        rw (high, low) (ap (λ x. x ∷ unescaped text) whole)

pub escaped_back : (n : List ℕ) → All (λ b. b < 256) n → unescaped (escaped n) ≡ n
escaped_back [] small = refl
escaped_back (b ∷ n) small =
    byte_back b (escaped n) (All-head (λ b. b < 256) b n small)
    ∙ ap (λ t. b ∷ t) (escaped_back n (All-tail (λ b. b < 256) b n small))

-- what stands between the first 5 bytes and the last 3
between : (t : List ℕ) → take (length (codes "w2cZ_" ++ t ++ codes "Z_i") - 8) (t ++ codes "Z_i") ≡ t
between t =
    let e : length (t ++ codes "Z_i") ≡ length t + 3 = length-append t (codes "Z_i") in
    take_at t (codes "Z_i") (length (codes "w2cZ_" ++ t ++ codes "Z_i") - 8) (omega arith)

-- names of 1 to 1,024 bytes
all_small : (n : List ℕ) → All (λ b. b < 256) n → list_all (λ b. nat_lt b 256) n ≡ true
all_small [] small = refl
all_small (b ∷ n) small =
    let first : b < 256 = All-head (λ b. b < 256) b n small in
    let is : nat_lt b 256 ≡ true = grind (arith, nat_tests) in
    rw is (all_small n (All-tail (λ b. b < 256) b n small))

small_all : (n : List ℕ) → list_all (λ b. nat_lt b 256) n ≡ true → All (λ b. b < 256) n
small_all [] h = All-nil (λ b. b < 256)
small_all (b ∷ n) h = go (nat_lt b 256) refl h (small_all n)
  where
    go : (v : Bool) → nat_lt b 256 ≡ v → (v && list_all (λ b. nat_lt b 256) n) ≡ true
        → (list_all (λ b. nat_lt b 256) n ≡ true → All (λ b. b < 256) n) → All (λ b. b < 256) (b ∷ n)
    go true is rest others = All-cons (λ b. b < 256) b n (grind (arith, nat_tests)) (others rest)
    go false is rest others = absurd (grind arith)

module_name : (n : List ℕ) → 1 ≤ length n → length n ≤ 1024 → All (λ b. b < 256) n → is_module_name n ≡ true
module_name n some few small =
    let low : nat_le 1 (length n) ≡ true = grind (arith, nat_tests) in
    let high : nat_le (length n) 1024 ≡ true = grind (arith, nat_tests) in
    rw (low, high) (all_small n small)

is_named : (n : List ℕ) → is_module_name n ≡ true → (1 ≤ length n) × (length n ≤ 1024) × All (λ b. b < 256) n
is_named n h =
    let first = both_hold (nat_le 1 (length n) && nat_le (length n) 1024) (list_all (λ b. nat_lt b 256) n) h in
    let second = both_hold (nat_le 1 (length n)) (nat_le (length n) 1024) first.0 in
    let some : nat_le 1 (length n) ≡ true = second.0 in
    let few : nat_le (length n) 1024 ≡ true = second.1 in
    (grind (arith, nat_tests), grind (arith, nat_tests), small_all n first.1)

abbrev name_in : List ℕ → List ℕ
name_in symbol = unescaped (take (length symbol - 8) (drop 5 symbol))

pub init_symbols_found : (n : List ℕ) → 1 ≤ length n → length n ≤ 1024 → All (λ b. b < 256) n → is_init_symbol (init_symbol_of n) ≡ true
init_symbols_found n some few small =
    let e : name_in (init_symbol_of n) ≡ n = ap unescaped (between (escaped n)) ∙ escaped_back n small in
    let P : List ℕ → Type 0 = λ m. (bytes_eq (init_symbol_of n) (init_symbol_of m) && is_module_name m) ≡ true in
    subst P (sym e) (rw (bytes_equal (init_symbol_of n)) (module_name n some few small))

pub found_are_init_symbols : (symbol : List ℕ) → is_init_symbol symbol ≡ true
    → (n : List ℕ) × (symbol ≡ init_symbol_of n) × (1 ≤ length n) × (length n ≤ 1024) × All (λ b. b < 256) n
found_are_init_symbols symbol h =
    let n = name_in symbol in
    let parts = both_hold (bytes_eq symbol (init_symbol_of n)) (is_module_name n) h in
    let named = is_named n parts.1 in
    (n, (bytes_eq-Decides symbol (init_symbol_of n)).0 parts.0, named.0, named.1, named.2)
