-- The files of one and of two functions.
use Rattle.w2c_gen.proofs.Common.{ℕ, [], ◌∷◌, ◌++◌, pos, refl, arith, SpellsSigned, IsShortest, finished, code, content, data_count}
use Rattle.w2c_gen.proofs.Common.{elements, exports, functions, globals, imports, memories, segments, start, tables, types, short_fields}
use Rattle.w2c_gen.proofs.Common.{generated, IsGeneratedFile}
use Rattle.w2c_gen.specs.Samples.{one_type, one_export, only_body, first_body, second_body, file_of_one, file_of_two}
use Rattle.w2c_gen.proofs.Bytes.{tested_bytes}
use Rattle.w2c_gen.proofs.Formed.{run_is_text}
use Rattle.w2c_gen.proofs.ShortPieces.{Short, finished_short, byte_short, text_short, here_short, provided_short, number_short}
use Rattle.w2c_gen.proofs.ShortPieces.{window_short, signed_short, five_short, empty_short, section_short}

types_short : (n : ℕ) → Short (content types (generated n) finished) one_type
types_short n =
    number_short (omega arith) (here_short (byte_short (number_short (omega arith) (provided_short refl (byte_short
    (number_short (omega arith) (provided_short refl (byte_short finished_short))))))))

exports_of_one : Short (content exports (generated 1) finished) (one_export 0)
exports_of_one =
    number_short (omega arith) (here_short (number_short (omega arith) (provided_short refl (text_short (provided_short run_is_text
    (byte_short (here_short (number_short (omega arith) finished_short))))))))

exports_of_two : Short (content exports (generated 2) finished) (one_export 1)
exports_of_two =
    number_short (omega arith) (here_short (number_short (omega arith) (provided_short refl (text_short (provided_short run_is_text
    (byte_short (here_short (number_short (omega arith) finished_short))))))))

-- ---- one function

functions_of_one : Short (content functions (generated 1) finished) (0x01 ∷ 0x00 ∷ [])
functions_of_one = number_short (omega arith) (provided_short refl (here_short (number_short (omega arith) finished_short)))

only_number : IsShortest (SpellsSigned 32) (0xEC ∷ 0xB2 ∷ 0xA1 ∷ 0xE4 ∷ 0x03 ∷ []) (pos 1015568748)
only_number =
    five_short 1015568748 _ (omega arith, (omega arith, (omega arith, (omega arith, omega arith)))) refl refl (omega arith) (omega arith)

code_of_one : Short (content code (generated 1) finished) (0x01 ∷ 0x0B ∷ only_body)
code_of_one =
    number_short (omega arith) (window_short {within = only_body} (omega arith) refl
    (number_short (omega arith) (here_short (byte_short (number_short (omega arith) (here_short (byte_short
    (signed_short (0xEC ∷ 0xB2 ∷ 0xA1 ∷ 0xE4 ∷ 0x03 ∷ []) only_number
    (here_short (byte_short (here_short (byte_short finished_short)))))))))))
    finished_short)

pub one_function : IsGeneratedFile 1 file_of_one
one_function =
    let t = generated 1 in
    let whole : Short (short_fields t finished) file_of_one =
    byte_short (byte_short (byte_short (byte_short (byte_short (byte_short (byte_short (byte_short (provided_short refl
    (section_short t types {within = one_type} refl (omega arith) refl (types_short 1)
    (empty_short t imports refl
    (section_short t functions {within = 0x01 ∷ 0x00 ∷ []} refl (omega arith) refl functions_of_one
    (empty_short t tables refl (empty_short t memories refl (empty_short t globals refl
    (section_short t exports {within = one_export 0} refl (omega arith) refl exports_of_one
    (empty_short t start refl (empty_short t elements refl (empty_short t data_count refl
    (section_short t code {within = 0x01 ∷ 0x0B ∷ only_body} refl (omega arith) refl code_of_one
    (empty_short t segments refl finished_short)))))))))))))))))))) in
    (tested_bytes file_of_one refl, whole.is)

-- ---- two functions

functions_of_two : Short (content functions (generated 2) finished) (0x02 ∷ 0x00 ∷ 0x00 ∷ [])
functions_of_two =
    number_short (omega arith) (provided_short refl (here_short (number_short (omega arith)
    (here_short (number_short (omega arith) finished_short)))))

first_number : IsShortest (SpellsSigned 32) (0xF9 ∷ 0xFE ∷ 0x86 ∷ 0xE5 ∷ 0x03 ∷ []) (pos 1017233273)
first_number =
    five_short 1017233273 _ (omega arith, (omega arith, (omega arith, (omega arith, omega arith)))) refl refl (omega arith) (omega arith)

second_number : IsShortest (SpellsSigned 32) (0x84 ∷ 0xC5 ∷ 0x83 ∷ 0xAE ∷ 0x07 ∷ []) (pos 1975575172)
second_number =
    five_short 1975575172 _ (omega arith, (omega arith, (omega arith, (omega arith, omega arith)))) refl refl (omega arith) (omega arith)

code_of_two : Short (content code (generated 2) finished) (0x02 ∷ 0x0B ∷ (first_body ++ (0x0D ∷ second_body)))
code_of_two =
    number_short (omega arith) (window_short {within = first_body} (omega arith) refl
    (number_short (omega arith) (here_short (byte_short (number_short (omega arith) (here_short (byte_short
    (signed_short (0xF9 ∷ 0xFE ∷ 0x86 ∷ 0xE5 ∷ 0x03 ∷ []) first_number
    (here_short (byte_short (here_short (byte_short finished_short)))))))))))
    (window_short {within = second_body} (omega arith) refl
    (number_short (omega arith) (here_short (byte_short (number_short (omega arith) (here_short (byte_short
    (signed_short (0x84 ∷ 0xC5 ∷ 0x83 ∷ 0xAE ∷ 0x07 ∷ []) second_number
    (here_short (byte_short (here_short (byte_short (number_short (omega arith) (here_short (byte_short finished_short))))))))))))))
    finished_short))

pub two_functions : IsGeneratedFile 2 file_of_two
two_functions =
    let t = generated 2 in
    let whole : Short (short_fields t finished) file_of_two =
    byte_short (byte_short (byte_short (byte_short (byte_short (byte_short (byte_short (byte_short (provided_short refl
    (section_short t types {within = one_type} refl (omega arith) refl (types_short 2)
    (empty_short t imports refl
    (section_short t functions {within = 0x02 ∷ 0x00 ∷ 0x00 ∷ []} refl (omega arith) refl functions_of_two
    (empty_short t tables refl (empty_short t memories refl (empty_short t globals refl
    (section_short t exports {within = one_export 1} refl (omega arith) refl exports_of_two
    (empty_short t start refl (empty_short t elements refl (empty_short t data_count refl
    (section_short t code {within = 0x02 ∷ 0x0B ∷ (first_body ++ (0x0D ∷ second_body))} refl (omega arith) refl code_of_two
    (empty_short t segments refl finished_short)))))))))))))))))))) in
    (tested_bytes file_of_two refl, whole.is)
