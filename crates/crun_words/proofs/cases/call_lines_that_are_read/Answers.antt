use Rattle.crun_words.proofs.Common.{◌<◌, [], ◌∷◌, codes, refl, arith, All-from_recursion, IsBytes, SaysCall}
use Rattle.crun_words.proofs.cases.call_lines_that_are_read.Goals as goal

add_bytes : IsBytes (codes "add")
add_bytes = All-from_recursion (λ b. b < 256) (codes "add") (omega arith, (omega arith, (omega arith, tt)))

a_b_bytes : IsBytes (codes "a b")
a_b_bytes = All-from_recursion (λ b. b < 256) (codes "a b") (omega arith, (omega arith, (omega arith, tt)))

none_bytes : IsBytes []
none_bytes = All-from_recursion (λ b. b < 256) [] tt

two_numbers_is : SaysCall (codes "add add 4294967295 01") (record { symbol = codes "w2cZ_addZ_fZ_add"; numbers = 4294967295 ∷ 1 ∷ [] })
two_numbers_is = record {
  module_word = codes "add";
  export_word = codes "add";
  number_words = codes "4294967295" ∷ codes "01" ∷ [];
  words_are = refl;
  symbol = record {
    module_name = codes "add";
    export_name = codes "add";
    module_bytes = add_bytes;
    export_bytes = add_bytes;
    module_is_there = omega arith;
    module_is = refl;
    export_is = refl;
    symbol_is = refl;
  };
  numbers = refl;
}

empty_name_is : SaysCall (codes "aZ20b Z") (record { symbol = codes "w2cZ_aZ20bZ_fZ_"; numbers = [] })
empty_name_is = record {
  module_word = codes "aZ20b";
  export_word = codes "Z";
  number_words = [];
  words_are = refl;
  symbol = record {
    module_name = codes "a b";
    export_name = [];
    module_bytes = a_b_bytes;
    export_bytes = none_bytes;
    module_is_there = omega arith;
    module_is = refl;
    export_is = refl;
    symbol_is = refl;
  };
  numbers = refl;
}

pub returns : goal.returns
returns c = record { ended = refl; not_ended = refl; none = refl; two_numbers = two_numbers_is; empty_name = empty_name_is }
