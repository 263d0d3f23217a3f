-- The names of a module's unit are words of C.
use Rattle.unit_rules.proofs.Common.{◌≡◌, ℕ, ◌^◌, ◌<◌, true, List, [], ◌∷◌, ◌++◌, decimal, sym, refl, subst, arith, nat_tests, list_all}
use Rattle.unit_rules.proofs.Common.{All-from_recursion, AllByRecursion, both_hold, all_join, export_part, export_symbol_of-parts, escaped}
use Rattle.unit_rules.proofs.Common.{init_symbol_of-parts, list_all-escaped, export_symbol_of, init_symbol_of, is_identifier_character}
use Rattle.unit_rules.proofs.Common.{kind_letter, SymbolKind, NamedModule, Export, Import, func_name, global_name, pointer_name, FitsItem}
use Rattle.unit_rules.proofs.Common.{depth_limit, IsName, NamedItem, helper_of, Helper, export_symbol, import_symbol, made_static}
use Rattle.unit_rules.proofs.Common.{data_name, part_name}
use Rattle.w2c_mangle.specs.declared.symbol.SymbolKind.TheVariants as symbol
use Rattle.c_tree.specs.Tree as tree
use Rattle.c_tree.specs.Text.{is_word_byte}
use Rattle.c_tree.proofs.Names.{numbered as numbered_name, external}
use Rattle.c_tree.proofs.Proper.{digits_words, all_digits}
use Rattle.c_tree.proofs.TreeIsProper.{decimal_digits}
use Rattle.c_tree.proofs.TestsTell.{unit_tells}
use Rattle.unit_rules.proofs.ExportFacts.{import_kind, symbol_kind}
use Rattle.std.specs.Prelude.{codes}

-- ---- words

word_byte : (b : ℕ) → is_identifier_character b ≡ true → is_word_byte b ≡ true
word_byte b h = grind (arith, nat_tests)

all_words : (bytes : List ℕ) → list_all is_identifier_character bytes ≡ true → list_all is_word_byte bytes ≡ true
all_words [] h = refl
all_words (b ∷ bytes) h = let both = both_hold (is_identifier_character b) (list_all is_identifier_character bytes) h in
    rw (word_byte b both.0) (all_words bytes both.1)

kind_word : (k : SymbolKind) → is_word_byte (kind_letter k) ≡ true
kind_word symbol.Func = refl
kind_word _ = refl

escaped_words : (n : List ℕ) → AllByRecursion (λ b. b < 256) n → list_all is_word_byte (escaped n) ≡ true
escaped_words n small = all_words (escaped n) (list_all-escaped n (All-from_recursion (λ b. b < 256) n small))

symbol_named : (m : List ℕ) (k : SymbolKind) (n : List ℕ) → AllByRecursion (λ b. b < 256) m → AllByRecursion (λ b. b < 256) n
    → IsName (export_symbol_of m k n)
symbol_named m k n small_m small_n = subst IsName (sym (export_symbol_of-parts m k n))
    (external (escaped m ++ 90 ∷ 95 ∷ export_part k n)
    (all_join is_word_byte (escaped m) (90 ∷ 95 ∷ export_part k n) (escaped_words m small_m) (rw (kind_word k) (escaped_words n small_n))))

pub init_named : (m : List ℕ) → AllByRecursion (λ b. b < 256) m → IsName (init_symbol_of m)
init_named m small = subst IsName (sym (init_symbol_of-parts m))
    (external (escaped m ++ 90 ∷ 95 ∷ 105 ∷ []) (all_join is_word_byte (escaped m) (90 ∷ 95 ∷ 105 ∷ []) (escaped_words m small) refl))

pub import_named : (i : Import) → AllByRecursion (λ b. b < 256) i.«module» → AllByRecursion (λ b. b < 256) i.field
    → IsName (import_symbol i)
import_named i p q = let k = import_kind i in subst IsName (sym k.1) (symbol_named i.«module» k.0 i.field p q)

pub export_named : (m : NamedModule) (e : Export) → AllByRecursion (λ b. b < 256) m.name → AllByRecursion (λ b. b < 256) e.name
    → IsName (export_symbol m e)
export_named m e p q = let k = symbol_kind m e in subst IsName (sym k.1) (symbol_named m.name k.0 e.name p q)

pub global_named : (k : ℕ) → k < 2 ^ 64 → IsName (global_name k)
global_named k less = numbered_name 103 k refl (λ e. absurd (grind (arith, e))) (λ e. absurd (grind (arith, e))) less

pub func_named : (k : ℕ) → k < 2 ^ 64 → IsName (func_name k)
func_named k less = numbered_name 102 k refl (λ e. absurd (grind (arith, e))) (λ e. absurd (grind (arith, e))) less

pub data_named : (k : ℕ) → k < 2 ^ 64 → IsName (data_name k)
data_named k less = numbered_name 100 k refl (λ e. absurd (grind (arith, e))) (λ e. absurd (grind (arith, e))) less

-- no key word begins with p and g
pointer_words : (rest : List ℕ) → list_all is_word_byte rest ≡ true → IsName (112 ∷ 103 ∷ rest)
pointer_words rest all = rw all refl

pub pointer_named : (k : ℕ) → k < 2 ^ 64 → IsName (pointer_name (global_name k))
pointer_named k less = pointer_words (decimal k) (digits_words (decimal k) (all_digits (decimal k) (decimal_digits k less)))

-- no key word begins with init_
part_words : (rest : List ℕ) → list_all is_word_byte rest ≡ true → IsName (codes "init_" ++ rest)
part_words rest all = rw all refl

pub part_named : (k : ℕ) → k < 2 ^ 64 → IsName (part_name k)
part_named k less = part_words (decimal k) (digits_words (decimal k) (all_digits (decimal k) (decimal_digits k less)))

pub helper_formed : (which : Helper) → NamedItem (tree.Function (helper_of which)) × FitsItem depth_limit (tree.Function (helper_of which))
helper_formed which =
    let formed = (made_static which (helper_of which) refl).formed in
    let whole = unit_tells (tree.Function (helper_of which) ∷ []) (rw formed refl) in
    (whole.named.0, whole.fits.0)
