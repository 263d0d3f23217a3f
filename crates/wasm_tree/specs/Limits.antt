-- The limits on what is read, which are the constants of w2c_base (`limits_are_those_of_the_code`).
use Rattle.std.specs.Prelude.{ℕ}

abbrev pub most_parameters : ℕ
most_parameters = 60

abbrev pub most_results : ℕ
most_results = 1

abbrev pub most_name_bytes : ℕ
most_name_bytes = 1024

abbrev pub most_functions : ℕ
most_functions = 100000

abbrev pub most_locals : ℕ
most_locals = 50000

abbrev pub most_all_locals : ℕ
most_all_locals = 1000000

-- blocks open at once in one expression
abbrev pub most_blocks : ℕ
most_blocks = 500

abbrev pub most_memory_pages : ℕ
most_memory_pages = 16384

abbrev pub most_table_elements : ℕ
most_table_elements = 1000000

abbrev pub most_module_bytes : ℕ
most_module_bytes = 8388608
