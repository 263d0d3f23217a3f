-- A generated module has a file, and one shortest file.
use Rattle.w2c_gen.proofs.Common.{◌≡◌, ℕ, zero, suc, ◌+◌, ◌-◌, ◌*◌, ◌%◌, ◌^◌, ◌<◌, ◌≤◌, Bool, true, false, List, map, length, replicate, ℤ}
use Rattle.w2c_gen.proofs.Common.{pos, ◌-ℤ◌, if◌then◌else◌, IsTrue, nat_eq, ◌==◌, slice_index, sym, refl, ap, ◌∙◌, subst, inl, inr, arith}
use Rattle.w2c_gen.proofs.Common.{le-ltb, lt-ltb, eq-eqb, le-leb, cases_lt, ints, length-map-range_with_len, range_with_len, InRange, Call}
use Rattle.w2c_gen.proofs.Common.{end_code, then_code, AreBytes, Fields, finished, bodies, code, code_fields, content, data_count, each}
use Rattle.w2c_gen.proofs.Common.{elements, exports, func_entry, functions, globals, imports, instr_fields, magic, memories, segments}
use Rattle.w2c_gen.proofs.Common.{start, tables, types, version, IsFormed, short_file_spells, short_fields, body_of, code_with, generated}
use Rattle.w2c_gen.proofs.Common.{of_first_type, operator, run_name, signed_reading, IsGeneratedFile, number_at}
use Rattle.std.specs.Str.{is_utf8}
use Rattle.std.proofs.lemmas.Str.{IsUtf8-from_ascii, is_utf8-from_IsUtf8}
use Rattle.std.proofs.lemmas.List.{length-replicate}
use Rattle.wasm_tree.specs.Limits.{most_functions, most_module_bytes}
use Rattle.w2c_gen.proofs.Within.{Within, within_more, within_finished, within_byte, within_text, within_here, within_provided}
use Rattle.w2c_gen.proofs.Within.{within_number, within_signed, within_window, within_empty, within_filled}

-- 32 bits that are read with a sign, by whether the sign is clear
abbrev sign : ℕ → Bool → ℤ
sign x clear = if clear then pos x else (pos x -ℤ pos (2 ^ 32))

signed_fits : (x : ℕ) → x < 2 ^ 32 → InRange 32 (signed_reading x)
signed_fits x fits = elim (cases_lt x (2 ^ 31)) [
  | inl low ↦ subst (InRange 32) (ap (sign x) (sym (lt-ltb x (2 ^ 31) low)))
      (record { low = omega (arith, ints, low); high = omega (arith, ints, low) })
  | inr high ↦ subst (InRange 32) (ap (sign x) (sym (le-ltb x (2 ^ 31) high)))
      (record { low = omega (arith, ints, high, fits); high = omega (arith, ints, high, fits) })
]

-- ---- bodies

within_operator : (r : ℕ) {rest : Fields} {n : ℕ} → Within rest n → Within (instr_fields 500 (operator r) rest) (1 + n)
within_operator zero w = within_byte 0x6A (omega arith) w
within_operator (suc zero) w = within_byte 0x6B (omega arith) w
within_operator (suc (suc zero)) w = within_byte 0x6C (omega arith) w
within_operator (suc (suc (suc r))) w = within_byte 0x73 (omega arith) w

within_call : (k : ℕ) (b : Bool) {rest : Fields} {n : ℕ} → k < 2 ^ 32 → Within rest n
    → Within (code_fields 500 (if b then end_code else then_code 0 (Call (k - 1)) end_code) rest) (6 + n)
within_call k true {rest} {n} fits w = within_more (6 + n) (omega arith) w
within_call k false {rest} {n} fits w =
    within_more (6 + n) (omega arith) (within_here 0 (within_byte 0x10 (omega arith) (within_number (k - 1) (omega (arith, fits)) w)))

within_code : (x k : ℕ) {rest : Fields} {n : ℕ} → x < 2 ^ 32 → k < 2 ^ 32 → Within rest n
    → Within (code_fields 500 (code_with x k) rest) (19 + n)
within_code x k {rest} {n} number fits w =
    within_more (19 + n) (omega arith)
    (within_here 0 (within_byte 0x20 (omega arith) (within_number 0 (omega arith)
    (within_here 0 (within_byte 0x41 (omega arith) (within_signed (signed_reading x) (signed_fits x number)
    (within_here 0 (within_operator (x % 4) (within_call k (k % 1000 == 0) fits w)))))))))

within_bodies : (n a k : ℕ) → a + k ≤ 20000 → Within (bodies 0 (map (body_of n) (range_with_len a k)) finished) (30 * k)
within_bodies n a zero le = within_finished
within_bodies n a (suc k) le =
    within_more (30 * suc k) (omega arith)
    (within_window {m = 25} (omega arith)
    (within_number 0 (omega arith) (within_code (number_at n (suc a)) a (omega arith) (omega arith)
    (within_here 0 (within_byte 0x0B (omega arith) within_finished))))
    (within_bodies n (a + 1) k (omega arith)))

-- ---- sections

within_funcs : (k : ℕ) → Within (each func_entry (replicate k of_first_type) finished) (5 * k)
within_funcs zero = within_finished
within_funcs (suc k) = within_more (5 * suc k) (omega arith) (within_here 0 (within_number 0 (omega arith) (within_funcs k)))

types_within : (n : ℕ) → Within (content types (generated n) finished) 18
types_within n =
    within_number 1 (omega arith) (within_here 0 (within_byte 0x60 (omega arith)
    (within_number 1 (omega arith) (within_provided refl (within_byte 0x7F (omega arith)
    (within_number 1 (omega arith) (within_provided refl (within_byte 0x7F (omega arith) within_finished))))))))

functions_within : (n : ℕ) → n ≤ 20000 → Within (content functions (generated n) finished) (5 + 5 * n)
functions_within n le =
    let count = length-replicate n of_first_type in
    within_number (length (replicate n of_first_type)) (omega (arith, count, le))
    (within_provided (le-leb (length (replicate n of_first_type)) most_functions (omega (arith, count, le))) (within_funcs n))

run_is_ascii : (i : ℕ) → slice_index run_name i < 128
run_is_ascii zero = omega arith
run_is_ascii (suc zero) = omega arith
run_is_ascii (suc (suc zero)) = omega arith
run_is_ascii (suc (suc (suc i))) = omega arith

pub run_is_text : IsTrue (is_utf8 run_name)
run_is_text = is_utf8-from_IsUtf8 run_name (IsUtf8-from_ascii run_name run_is_ascii)

run_in_bytes : AreBytes run_name
run_in_bytes = (omega arith, (omega arith, (omega arith, tt)))

exports_within : (n : ℕ) → n ≤ 20000 → Within (content exports (generated n) finished) 19
exports_within n le =
    within_number 1 (omega arith) (within_here 0
    (within_number 3 (omega arith) (within_provided refl (within_text run_name run_in_bytes (within_provided run_is_text
    (within_byte 0x00 (omega arith) (within_here 0 (within_number (n - 1) (omega (arith, le)) within_finished))))))))

code_within : (n : ℕ) → n ≤ 20000 → Within (content code (generated n) finished) (5 + 30 * n)
code_within n le =
    let list = map (body_of n) (range_with_len 0 n) in
    let count : length list ≡ n = length-map-range_with_len (body_of n) 0 n in
    within_number (length list) (omega (arith, count, le)) (within_bodies n 0 n (omega (arith, le)))

as_many : (n : ℕ) → nat_eq (length (replicate n of_first_type)) (length (map (body_of n) (range_with_len 0 n))) ≡ true
as_many n = eq-eqb (length (replicate n of_first_type)) (length (map (body_of n) (range_with_len 0 n)))
    (length-replicate n of_first_type ∙ sym (length-map-range_with_len (body_of n) 0 n))

within_head : {rest : Fields} {n : ℕ} → Within rest n → Within (magic (version rest)) (8 + n)
within_head {rest} {n} w =
    within_more (8 + n) (omega arith)
    (within_byte 0x00 (omega arith) (within_byte 0x61 (omega arith)
    (within_byte 0x73 (omega arith) (within_byte 0x6D (omega arith)
    (within_byte 0x01 (omega arith) (within_byte 0x00 (omega arith)
    (within_byte 0x00 (omega arith) (within_byte 0x00 (omega arith) w))))))))

file_within : (n : ℕ) → n ≤ 20000 → Within (short_fields (generated n) finished) 8388608
file_within n le =
    let t = generated n in
    within_more 8388608 (omega (arith, le))
    (within_head (within_provided (as_many n)
    (within_filled t types (omega arith) (types_within n)
    (within_empty t imports refl
    (within_filled t functions (omega (arith, le)) (functions_within n le)
    (within_empty t tables refl
    (within_empty t memories refl
    (within_empty t globals refl
    (within_filled t exports (omega arith) (exports_within n le)
    (within_empty t start refl
    (within_empty t elements refl
    (within_empty t data_count refl
    (within_filled t code (omega (arith, le)) (code_within n le)
    (within_empty t segments refl within_finished))))))))))))))

pub generated_formed : (n : ℕ) → n ≤ 20000 → IsFormed (generated n)
generated_formed n le =
    let w = file_within n le in
    (w.bytes, w.are_bytes, short_file_spells (generated n) w.bytes w.spelled w.few)

pub some_file : (n : ℕ) → n ≤ 20000 → (bytes : List ℕ) × IsGeneratedFile n bytes
some_file n le = let w = file_within n le in (w.bytes, (w.are_bytes, w.spelled))

pub one_file : (n : ℕ) (bytes other : List ℕ) → n ≤ 20000 → IsGeneratedFile n bytes → IsGeneratedFile n other → bytes ≡ other
one_file n bytes other le h k = (file_within n le).one bytes other h.0 k.0 h.1 k.1

pub file_is_small : (n : ℕ) (bytes : List ℕ) → n ≤ 20000 → IsGeneratedFile n bytes → length bytes ≤ most_module_bytes
file_is_small n bytes le h =
    let w = file_within n le in
    let same : w.bytes ≡ bytes = w.one w.bytes bytes w.are_bytes h.0 w.spelled h.1 in
    subst (λ b. length b ≤ most_module_bytes) same w.few
