-- A module has a file exactly where its fields were counted, and what is written is its shortest file.
use Rattle.wasm_writing.proofs.Common.{◌≡◌, ℕ, ◌≤◌, true, List, [], length, refl, subst, append-nil, arith, Module, finished}
use Rattle.wasm_writing.proofs.Common.{most_module_bytes, IsFormed, SpellsAside, Puts, IsShortFile, short_fields, Draft, Counted, Written}
use Rattle.wasm_writing.specs.Aside.{SpelledBy, SpelledShort}
use Rattle.wasm_writing.proofs.BothModules.{short_of_file}
use Rattle.wasm_writing.proofs.PlacedModule.{placed_module}
use Rattle.wasm_writing.proofs.Shorts.{short_aside}
use Rattle.wasm_writing.proofs.Windows.{counted_inside, not_counted}

-- a short file is a file of the module
pub short_file_spells : (t : Module) (bytes : List ℕ) → IsShortFile t bytes → length bytes ≤ most_module_bytes → SpellsAside t bytes
short_file_spells t bytes s small =
    let u = placed_module t bytes (short_aside (short_fields t finished) bytes s) in
    (u.0, u.1, (u.2, small))

pub counted_is_formed : (t : Module) (n : ℕ) → Puts (short_fields t) (Counted 0) (Counted n) → IsFormed t
counted_is_formed t n p =
    let small : n ≤ most_module_bytes = p.2 (omega arith) in
    let c = counted_inside (short_fields t) n p small in
    (c.0, c.3, short_file_spells t c.0 c.1 (omega (arith, c.2, small)))

pub formed_is_counted : (t : Module) (draft : Draft) → Puts (short_fields t) (Counted 0) draft → ((n : ℕ) → draft ≡ Counted n → ⊥)
    → IsFormed t → ⊥
formed_is_counted t draft p n (bytes, are, s) =
    let r = short_of_file t bytes s in
    not_counted (short_fields t) draft r.0 p n r.1 (omega (arith, r.2, r.3))

pub written_is_short : (t : Module) (bytes : List ℕ) → Puts (short_fields t) (Written []) (Written bytes) → IsShortFile t bytes
unfolding SpelledBy
written_is_short t bytes p =
    let small : length bytes ≤ most_module_bytes = p.2 (omega arith) in
    let m = p.0 bytes finished (record { rest = []; spelled = refl; are_bytes = tt; completes = append-nil bytes; small = small }) in
    subst (λ b. SpelledShort (short_fields t finished) b) m.completes m.spelled

pub written_is_small : (t : Module) (bytes : List ℕ) → Puts (short_fields t) (Written []) (Written bytes) → length bytes ≤ most_module_bytes
written_is_small t bytes p = p.2 (omega arith)

pub written_is_least : (t : Module) (bytes other : List ℕ) → Puts (short_fields t) (Written []) (Written bytes) → SpellsAside t other
    → length bytes ≤ length other
written_is_least t bytes other p s =
    let r = short_of_file t other s in
    let h = p.1 true (length other) finished
    (record { goes_on = (refl, record { rest = r.0; spelled = r.1; within = omega (arith, r.2); small = r.3 }) }) in
    omega (arith, h.goes_on.1.within)
