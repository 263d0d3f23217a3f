-- The functions that are run first are the init functions of the units, in their order.
use Rattle.unit_meaning.proofs.Common.{◌≡◌, ℕ, ◌+◌, ◌/◌, ◌%◌, ◌<◌, Bool, true, false, not, ◌&&◌, ◌≢◌, ◌⊎◌, List, [], ◌∷◌, ◌++◌, map, length}
use Rattle.unit_meaning.proofs.Common.{Some, None, codes, All, filter, Option, option_map, zip, flat_map, sym, refl, ap, ◌∙◌, inl, inr}
use Rattle.unit_meaning.proofs.Common.{arith, nat_tests, All-head, All-tail, AllByRecursion, cons_option, range_with_len, export_part}
use Rattle.unit_meaning.proofs.Common.{export_symbol_of-parts, init_symbol_of-parts, escaped, escaped_byte, hexadecimal_digit}
use Rattle.unit_meaning.proofs.Common.{export_symbol_of, init_symbol_of, kind_letter, SymbolKind, same_func_type, func_type_of, Void}
use Rattle.unit_meaning.proofs.Common.{NamedModule, Definition, definition_of, definitions, is_init, is_init_symbol, UnitFunc, made_static}
use Rattle.unit_meaning.proofs.Common.{helper_of, helpers_of, needs_of, export_func, init_func, bodies, items, IsAccepted}
use Rattle.w2c_mangle.specs.declared.symbol.SymbolKind.TheVariants as symbol
use Rattle.w2c_mangle.proofs.EscapedNames.{escaped_byte-cases, escaped-cons, stays-not_Z, escaped_byte-prefix, escaped_byte-not_end}
use Rattle.c_tree.specs.Tree as tree
use Rattle.c_meaning.proofs.InitSymbols.{init_symbols_found, found_are_init_symbols}
use Rattle.unit_meaning.proofs.Listed.{InitsAreInOrder}
use Rattle.unit_definition.proofs.Found.{Test, Misses, from_number, find_none, none_among}
use Rattle.unit_definition.proofs.Defined.{NoHelper, NoBody, NoExport, objects_miss, data_miss, declared_miss, prototypes_miss, no_body}
use Rattle.unit_definition.proofs.Defined.{body_is, export_external, init_defined, kind_of, no_part, symbol_is}
use Rattle.c_init.specs.Init.{part_func, parts_of}
use Rattle.w2c_base.specs.Lookup.{numbered}

-- ---- no export has an init function's symbol

digit_is_no_letter : (d : ℕ) (k : SymbolKind) → d < 16 → kind_letter k ≢ hexadecimal_digit d
digit_is_no_letter d symbol.Func less e = grind (arith, nat_tests, e, less)
digit_is_no_letter d _ less e = grind (arith, nat_tests, e, less)

letter_is_no_i : (k : SymbolKind) → kind_letter k ≢ 105
letter_is_no_i symbol.Func e = grind arith
letter_is_no_i _ e = grind arith

not_escaped : (b : ℕ) (k : SymbolKind) (r t : List ℕ) → 90 ∷ 95 ∷ kind_letter k ∷ r ≡ escaped_byte b ++ t → ⊥
not_escaped b k r t e = elim (escaped_byte-cases b) [
  | inl same ↦
      let whole : 90 ∷ 95 ∷ kind_letter k ∷ r ≡ b ∷ t = e ∙ ap (λ (x : List ℕ). x ++ t) same.1 in
      let is : 90 ≡ b = cc in
      stays-not_Z b same.0 (sym is)
  | inr other ↦
      let whole : 90 ∷ 95 ∷ kind_letter k ∷ r ≡ 90 ∷ hexadecimal_digit (b / 16) ∷ hexadecimal_digit (b % 16) ∷ t = e
      ∙ ap (λ (x : List ℕ). x ++ t) other.1 in
      let is : kind_letter k ≡ hexadecimal_digit (b % 16) = cc in
      digit_is_no_letter (b % 16) k (omega arith) is
]

not_init_part : (m n : List ℕ) (k : SymbolKind) (x : List ℕ) → All (λ b. b < 256) m
    → escaped m ++ 90 ∷ 95 ∷ export_part k x ≡ escaped n ++ 90 ∷ 95 ∷ 105 ∷ [] → ⊥
not_init_part [] [] k x small e = let is : kind_letter k ≡ 105 = cc in letter_is_no_i k is
not_init_part [] (c ∷ n) k x small e = not_escaped c k _ _ (e ∙ escaped-cons c n (90 ∷ 95 ∷ 105 ∷ []))
not_init_part (b ∷ m) [] k x small e = escaped_byte-not_end b (escaped m ++ 90 ∷ 95 ∷ export_part k x) (105 ∷ [])
    (All-head (λ b. b < 256) b m small) (sym (escaped-cons b m (90 ∷ 95 ∷ export_part k x)) ∙ e)
not_init_part (b ∷ m) (c ∷ n) k x small e =
    let both = escaped_byte-prefix b c (escaped m ++ 90 ∷ 95 ∷ export_part k x) (escaped n ++ 90 ∷ 95 ∷ 105 ∷ [])
    (sym (escaped-cons b m (90 ∷ 95 ∷ export_part k x)) ∙ e ∙ escaped-cons c n (90 ∷ 95 ∷ 105 ∷ [])) in
    not_init_part m n k x (All-tail (λ b. b < 256) b m small) both.1

export_is_no_init : (m : List ℕ) (k : SymbolKind) (x : List ℕ) → All (λ b. b < 256) m → is_init_symbol (export_symbol_of m k x) ≡ false
export_is_no_init m k x small = go (is_init_symbol (export_symbol_of m k x)) refl
  where
    go : (b : Bool) → is_init_symbol (export_symbol_of m k x) ≡ b → b ≡ false
    go false e = refl
    go true e =
        let n = found_are_init_symbols (export_symbol_of m k x) e in
        let whole : codes "w2cZ_" ++ (escaped m ++ 90 ∷ 95 ∷ export_part k x) ≡ codes "w2cZ_" ++ (escaped n.0 ++ 90 ∷ 95 ∷ 105 ∷ [])
        = sym (export_symbol_of-parts m k x) ∙ n.1 ∙ init_symbol_of-parts n.0 in
        absurd (not_init_part m n.0 k x small (cc))

-- ---- all definitions that pass

abbrev passing : Test → List Definition → List Definition
passing t ds = filter (λ (d : Definition). t d.func) ds

missed : (t : Test) (k : ℕ) (item : tree.Item) (ds : List Definition) → Misses t item
    → passing t (cons_option (definition_of (k, item)) ds) ≡ passing t ds
missed t k (tree.Function f) ds h = go f.body h
  where
    go : (o : Option tree.Body) → (o ≡ None) ⊎ (t f ≡ false)
        → passing t (cons_option (option_map (λ body. record { item = k; func = f; body = body }) o) ds) ≡ passing t ds
    go None h = refl
    go (Some body) (inl e) = absurd (cc)
    go (Some body) (inr e) = rw e refl
missed t k _ ds h = refl

-- the items have one definition that passes
abbrev OnlyOne : Test → tree.Func → List tree.Item → Type 0
OnlyOne t f items = (k : ℕ) → (item : ℕ) × (body : tree.Body) ×
    (passing t (from_number k items) ≡ record { item = item; func = f; body = body } ∷ [])

skip_all : (t : Test) (f : tree.Func) (xs ys : List tree.Item) → AllByRecursion (Misses t) xs → OnlyOne t f ys → OnlyOne t f (xs ++ ys)
skip_all t f [] ys h one k = one k
skip_all t f (x ∷ xs) ys h one k =
    let behind = skip_all t f xs ys h.1 one (k + 1) in
    (behind.0, behind.1, missed t k x (from_number (k + 1) (xs ++ ys)) h.0 ∙ behind.2)

one_passes : (t : Test) (f : tree.Func) (k : ℕ) (body : tree.Body) → f.body ≡ Some body → t f ≡ true
    → passing t (from_number k (tree.Function f ∷ [])) ≡ record { item = k; func = f; body = body } ∷ []
one_passes t f k body is passes = go f.body is
  where
    go : (o : Option tree.Body) → o ≡ Some body → passing t
        (cons_option (option_map (λ body. record { item = k; func = f; body = body }) o) [])
        ≡ record { item = k; func = f; body = body } ∷ []
    go None e = absurd (cc)
    go (Some b) e = let same : b ≡ body = cc in rw passes (ap (λ (b : tree.Body). record { item = k; func = f; body = b } ∷ []) same)

abbrev init_test : Test
init_test f = not f.is_static && is_init_symbol f.name && same_func_type (func_type_of f) (record { params = Void ∷ []; result = Void })

one_init : (m : NamedModule) → IsAccepted m → OnlyOne init_test (init_func m) (items m)
one_init m accepted =
    skip_all init_test _ _ _ (objects_miss init_test m.tree (needs_of m).pointers)
    (skip_all init_test _ _ _ (data_miss init_test m.tree)
    (skip_all init_test _ _ _ (declared_miss init_test m)
    (skip_all init_test _ _ _ (prototypes_miss init_test (bodies m))
    (skip_all init_test _ _ _ (none_among init_test helper_of (helpers_of m.tree) helpers)
    (skip_all init_test _ _ _ (none_among init_test (λ (g : tree.Func). g) (bodies m) own)
    (skip_all init_test _ _ _ (none_among init_test (export_func m) m.tree.exports exports)
    (skip_all init_test _ _ _ (none_among init_test (part_func m.tree) (numbered (parts_of m.tree)) (no_part init_test m (λ p. refl)))
    last)))))))
  where
    small : All (λ b. b < 256) m.name
    small = accepted.bytes

    helpers : NoHelper init_test m
    helpers = find_none (λ which. init_test (helper_of which)) (helpers_of m.tree) (λ i which is.
        let static : (helper_of which).is_static ≡ true = (made_static which (helper_of which) refl).static in rw static refl)

    own : NoBody init_test m
    own = no_body init_test m (λ index. rw ((body_is m.tree m.name index).1) refl)

    exports : NoExport init_test m
    exports = find_none (λ e. init_test (export_func m e)) m.tree.exports (λ i e is.
        let no : is_init_symbol (export_func m e).name ≡ false
        = ap is_init_symbol ((export_external m e).named ∙ symbol_is m e) ∙ export_is_no_init m.name (kind_of m e) e.name small in
        rw ((export_external m e).external, no) refl)

    last : OnlyOne init_test (init_func m) (tree.Function (init_func m) ∷ [])
    last k =
        let yes : is_init_symbol (init_symbol_of m.name) ≡ true = init_symbols_found m.name accepted.named accepted.short small in
        let body = init_defined m small in
        (k, body.0, one_passes init_test (init_func m) k body.0 body.1 (rw yes refl))

in_order : (k : ℕ) (modules : List NamedModule) → AllByRecursion IsAccepted modules
    → flat_map (λ (u : ℕ × List tree.Item). map (λ (d : Definition). UnitFunc u.0 d.func.name) (filter is_init (definitions u.1)))
    (zip (range_with_len k (length (map items modules))) (map items modules))
    ≡ map (λ (m : ℕ × NamedModule). UnitFunc m.0 (init_symbol_of m.1.name)) (zip (range_with_len k (length modules)) modules)
in_order k [] accepted = refl
in_order k (m ∷ modules) accepted =
    let one = one_init m accepted.0 0 in
    ap (λ (ds : List Definition). map (λ (d : Definition). UnitFunc k d.func.name) ds ++ flat_map
    (λ (u : ℕ × List tree.Item). map (λ (d : Definition). UnitFunc u.0 d.func.name) (filter is_init (definitions u.1)))
    (zip (range_with_len (k + 1) (length (map items modules))) (map items modules))) one.2
    ∙ ap (λ others. UnitFunc k (init_symbol_of m.name) ∷ others) (in_order (k + 1) modules accepted.1)

pub inits_are_in_order : InitsAreInOrder
inits_are_in_order s accepted = in_order 0 s.modules accepted.accepted
