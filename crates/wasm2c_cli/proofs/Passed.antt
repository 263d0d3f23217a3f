-- What a line has passed, and what follows of the modules and files that it asks for.
use Rattle.wasm2c_cli.proofs.Common.{◌≡◌, ℕ, ◌≤◌, Bool, true, false, ◌&&◌, List, [], ◌∷◌, ◌++◌, map, length, get_or, if◌then◌else◌, nat_le}
use Rattle.wasm2c_cli.proofs.Common.{Some, None, codes, Option, option_and_then, bytes_eq, unwrap_or, sym, refl, ap, subst, inl, inr, arith}
use Rattle.wasm2c_cli.proofs.Common.{leb-true, append_cancel_left, AllByRecursion, list_all, list_any, Name, AreDistinct, IsOneOf, FileSet}
use Rattle.wasm2c_cli.proofs.Common.{Generation, Line, Translation, are_names, count_of, generate, generation, in_range, is_set, line_by}
use Rattle.wasm2c_cli.proofs.Common.{line_of, line_of_values, line_with_dir, runtime, set, translate, translation, HasName, HasPassed}
use Rattle.wasm2c_cli.proofs.Common.{names_of_targets, outputs_of, target_in}
use Rattle.std.specs.Str.Parse.{digits_value}
use Rattle.std.proofs.lemmas.Bool.{not-true, or_parts}
use Rattle.w2c_base.proofs.Conjunctions.{both_hold}
use Rattle.wasm2c_words.specs.Command.{Values, values_of}
use Rattle.program_words.specs.Tests.{is_decimal, is_module_name}
use Rattle.wasm2c_words.specs.Names.{are_distinct, header_name_of, module_name_of}
use Rattle.wasm2c_words.specs.SetFiles.{files_of}
use Rattle.wasm2c_words.proofs.HeaderName.{is_apart}
use Rattle.wasm2c_words.proofs.SetFiles.{equal_not, files_are_distinct}

-- what is given where a test is passed, was given since it was
given : {A : Type 0} (b : Bool) (x y : A) → ◌≡◌ {A = Option A} (if b then Some x else None) (Some y) → (b ≡ true) × (x ≡ y)
given true x y e = (refl, cc)
given false x y e = absurd (cc)

-- ---- names of modules

fit_name : (name : List ℕ) → is_module_name name ≡ true → (1 ≤ length name) × (length name ≤ 1024)
fit_name name fits = let parts = both_hold _ _ fits in (leb-true 1 (length name) parts.0, leb-true (length name) 1024 parts.1)

fit_names : (dir : Name) (inputs : List Name) → list_all is_module_name (map module_name_of inputs) ≡ true
    → AllByRecursion HasName (map (target_in dir) inputs)
fit_names dir [] fits = tt
fit_names dir (input ∷ inputs) fits =
    let parts = both_hold _ _ fits in (fit_name (module_name_of input) parts.0, fit_names dir inputs parts.1)

-- ---- the forms

translation_passed : (input output : Name) (name : List ℕ) (line : Line) → translation input output name ≡ Some line → HasPassed line
translation_passed input output name line is =
    let t : Translation = record { input = input; output = output; module_name = name } in
    let passed = given (are_names output name) (translate t) line is in
    let parts = both_hold _ _ passed.0 in
    subst HasPassed passed.1 (parts.0, fit_name name parts.1)

set_passed : (dir : Name) (files : List Name) (line : Line) → line_with_dir dir None files ≡ Some line → HasPassed line
set_passed dir files line is =
    let s : FileSet = record { dir = dir; inputs = files } in
    let passed = given (is_set files) (set s) line is in
    let parts = both_hold _ _ passed.0 in
    let names = both_hold _ _ parts.1 in
    subst HasPassed passed.1 (fit_names dir files names.0, names.1)

in_range_fits : (count n : ℕ) → in_range count ≡ Some n → (1 ≤ n) × (n ≤ 20000)
in_range_fits count n is =
    let passed = given (nat_le 1 count && nat_le count 20000) count n is in
    let parts = both_hold (nat_le 1 count) (nat_le count 20000) passed.0 in
    let some : 1 ≤ count = leb-true 1 count parts.0 in
    let few : count ≤ 20000 = leb-true count 20000 parts.1 in
    (omega (arith, some, passed.1), omega (arith, few, passed.1))

count_fits : (text : List ℕ) (n : ℕ) → count_of text ≡ Some n → (1 ≤ n) × (n ≤ 20000)
count_fits text n is = by_test (is_decimal 5 text) is
  where
    by_test : (b : Bool) → ◌≡◌ {A = Option ℕ} (if b then in_range (digits_value 10 text) else None) (Some n) → (1 ≤ n) × (n ≤ 20000)
    by_test true e = in_range_fits (digits_value 10 text) n e
    by_test false e = absurd (cc)

generation_passed : (count : Option ℕ) (output : Name) (name : List ℕ) (line : Line)
    → ((n : ℕ) → count ≡ Some n → (1 ≤ n) × (n ≤ 20000)) → generation count output name ≡ Some line → HasPassed line
generation_passed None output name line fits is = absurd (cc)
generation_passed (Some count) output name line fits is =
    let g : Generation = record { count = count; output = output; module_name = name } in
    let passed = given (are_names output name) (generate g) line is in
    let parts = both_hold _ _ passed.0 in
    let fit = fits count refl in
    subst HasPassed passed.1 (parts.0, fit_name name parts.1, fit.0, fit.1)

-- ---- the options

options_passed : (output dir : Option Name) (count : Option (List ℕ)) (runs : Option Name) (name : Option (List ℕ)) (files : List Name)
    (line : Line) → line_by output dir count runs name files ≡ Some line → HasPassed line
options_passed (Some output) None None None name (input ∷ []) line is =
    translation_passed input output (unwrap_or name (module_name_of input)) line is
options_passed None (Some dir) None None None files line is = set_passed dir files line is
options_passed (Some output) None (Some count) None name [] line is =
    generation_passed (count_of count) output (unwrap_or name (codes "gen")) line (count_fits count) is
options_passed None None None (Some dir) None [] line is = let same : runtime dir ≡ line = cc in subst HasPassed same tt
options_passed _ _ _ _ _ _ line is = absurd (cc)

values_passed : (values : Option Values) (line : Line) → option_and_then line_of_values values ≡ Some line → HasPassed line
values_passed None line is = absurd (cc)
values_passed (Some v) line is = options_passed v.output v.dir v.count v.runtime v.module_name v.files line is

pub passed : (words : List Name) (line : Line) → line_of words ≡ Some line → HasPassed line
passed words line is = values_passed (values_of words) line is

-- ---- names that are distinct

is_no_other : (name : Name) (names : List Name) → list_any (λ other. bytes_eq other name) names ≡ false → IsOneOf name names → ⊥
is_no_other name [] none one = absurd one
is_no_other name (other ∷ names) none (inl same) = equal_not other name (or_parts _ _ none).0 (sym same)
is_no_other name (other ∷ names) none (inr one) = is_no_other name names (or_parts _ _ none).1 one

pub distinct_names : (names : List Name) → are_distinct names ≡ true → AreDistinct names
distinct_names [] distinct = tt
distinct_names (name ∷ names) distinct =
    let parts = both_hold _ _ distinct in
    (is_no_other name names (not-true _ parts.0), distinct_names names parts.1)

two_distinct : (name other : Name) → (name ≡ other → ⊥) → AreDistinct (name ∷ other ∷ [])
two_distinct name other differ = ((λ one. elim one [ inl same ↦ differ same | inr none ↦ absurd none ]), ((λ none. absurd none), tt))

-- ---- the files of a line

set_names : (dir : Name) (inputs : List Name) → names_of_targets (map (target_in dir) inputs) ≡ files_of dir (map module_name_of inputs)
set_names dir [] = refl
set_names dir (input ∷ inputs) =
    ap (λ (names : List Name). (target_in dir input).c_file ∷ (target_in dir input).header ∷ names) (set_names dir inputs)

h_is_not_c : (dir : Name) → dir ++ codes "/w2c_rt.h" ≡ dir ++ codes "/w2c_rt.c" → ⊥
h_is_not_c dir same =
    let ends = append_cancel_left dir (codes "/w2c_rt.h") (codes "/w2c_rt.c") same in
    let last : ◌≡◌ {A = ℕ} 104 99 = ap (λ (l : List ℕ). get_or l 8 0) ends in
    omega (arith, last)

pub distinct_outputs : (line : Line) → HasPassed line → AreDistinct (outputs_of line)
distinct_outputs (translate t) p = two_distinct t.output (header_name_of t.output) (is_apart t.output p.0)
distinct_outputs (set s) p =
    let names = map module_name_of s.inputs in
    subst AreDistinct (sym (set_names s.dir s.inputs)) (distinct_names (files_of s.dir names) (files_are_distinct s.dir names p.1))
distinct_outputs (generate g) p = two_distinct g.output (header_name_of g.output) (is_apart g.output p.0)
distinct_outputs (runtime dir) p = two_distinct (dir ++ codes "/w2c_rt.h") (dir ++ codes "/w2c_rt.c") (h_is_not_c dir)
