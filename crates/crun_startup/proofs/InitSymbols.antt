-- A name is the symbol of an init function exactly where the escape of a module's name stands between w2cZ_ and Z_i.
use Rattle.crun_startup.proofs.Common.{◌≡◌, ℕ, ◌<◌, ◌≤◌, Bool, true, false, ◌≢◌, ◌↔◌, List, ◌++◌, length, IsTrue, codes, All, sym, refl}
use Rattle.crun_startup.proofs.Common.{◌∙◌, subst, append_cancel_left, append_cancel_right, is_init_symbol, init_symbol_around}
use Rattle.w2c_mangle.specs.Escaping.{escaped}
use Rattle.w2c_mangle.proofs.EscapedNames.{escaped-injective}
use Rattle.c_meaning.proofs.InitSymbols.{found_are_init_symbols, init_symbols_found}
use Rattle.w2c_base.proofs.Tests.{same_tests}

-- texts in symbols are told apart
around_one : (a b : List ℕ) → init_symbol_around a ≡ init_symbol_around b → a ≡ b
around_one a b e =
    append_cancel_left (codes "w2cZ_") a b
    (append_cancel_right (codes "w2cZ_" ++ a) (codes "w2cZ_" ++ b) (codes "Z_i") e)

-- an answer that would be none otherwise
none_found : (b : Bool) → (b ≡ true → ⊥) → false ≡ b
none_found true none = absurd (none refl)
none_found false none = refl

pub not_around : (name : List ℕ) → ((text : List ℕ) → name ≢ init_symbol_around text) → false ≡ is_init_symbol name
not_around name none =
    none_found (is_init_symbol name) (λ is. let found = found_are_init_symbols name is in none (escaped found.0) found.1)

pub no_escape : (text : List ℕ) → ((name : List ℕ) → All (λ b. b < 256) name → escaped name ≢ text)
    → false ≡ is_init_symbol (init_symbol_around text)
no_escape text none = none_found (is_init_symbol (init_symbol_around text)) (λ is.
    let found = found_are_init_symbols (init_symbol_around text) is in
    none found.0 found.4 (around_one (escaped found.0) text (sym found.1)))

pub escape_found : (name text : List ℕ) (b : Bool) → escaped name ≡ text → All (λ b. b < 256) name
    → IsTrue b ↔ (1 ≤ length name) × (length name ≤ 1024) → b ≡ is_init_symbol (init_symbol_around text)
escape_found name text b is bytes told =
    same_tests b (is_init_symbol (init_symbol_around text))
    (λ t. subst (λ x. is_init_symbol (init_symbol_around x) ≡ true) is (init_symbols_found name (told.0 t).0 (told.0 t).1 bytes))
    (λ t. let found = found_are_init_symbols (init_symbol_around text) t in
    let same : found.0 ≡ name = escaped-injective found.0 name (around_one (escaped found.0) text (sym found.1) ∙ sym is) in
    told.1 (subst (λ n. (1 ≤ length n) × (length n ≤ 1024)) same (found.2, found.3)))
