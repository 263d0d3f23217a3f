-- Symbols are told apart, and are C identifiers.
use Rattle.std.proofs.Common.{◌≡◌, ℕ, ◌/◌, ◌%◌, ◌<◌, true, ◌&&◌, nat_eq, cond, List, [], ◌∷◌, ◌++◌, All, codes, refl, sym, ◌∙◌, ap, inl}
use Rattle.std.proofs.Common.{inr, arith, append_assoc}
use Rattle.std.specs.List.{list_all}
use Rattle.std.proofs.lemmas.Bool.Decides.{nat_tests}
use Rattle.std.proofs.lemmas.List.Elements.{All-head, All-tail}
use Rattle.std.proofs.lemmas.List.Folds.{list_all-append}
use Rattle.std.proofs.lemmas.List.Sums.{AllPass-from_list_all}
use Rattle.std.proofs.lemmas.Bool.{and_from}
use Rattle.w2c_mangle.specs.declared.symbol.SymbolKind.{SymbolKind}
use Rattle.w2c_mangle.specs.declared.symbol.SymbolKind.TheVariants.{Func, Table, Memory, Const, Var}
use Rattle.w2c_mangle.specs.Escaping.{stays, hexadecimal_digit, escaped_byte, escaped}
use Rattle.w2c_mangle.specs.Symbols.{kind_letter, export_symbol_of, init_symbol_of, is_identifier_character, IsSymbol}
use Rattle.w2c_mangle.proofs.EscapedNames.{escaped_byte-cases, escaped-injective, escaped-end}

-- the kind that a letter names; v for any other
kind_named : ℕ → SymbolKind
kind_named n = cond (nat_eq n 102) Func (cond (nat_eq n 116) Table (cond (nat_eq n 109) Memory (cond (nat_eq n 99) Const Var)))

kind_named-kind_letter : (k : SymbolKind) → kind_named (kind_letter k) ≡ k
unfolding kind_named
kind_named-kind_letter Func = refl
kind_named-kind_letter _ = refl

pub kind_letter-injective : (j k : SymbolKind) → kind_letter j ≡ kind_letter k → j ≡ k
kind_letter-injective j k e = sym (kind_named-kind_letter j) ∙ ap kind_named e ∙ kind_named-kind_letter k

-- an export's symbol after its module's end: the kind, Z_, the name
abbrev pub export_part : SymbolKind → List ℕ → List ℕ
export_part k n = kind_letter k ∷ 90 ∷ 95 ∷ escaped n

-- w2cZ_, the module and Z_, and then what tells the symbols of a module apart
pub export_symbol_of-parts : (m : List ℕ) (k : SymbolKind) (n : List ℕ)
    → export_symbol_of m k n ≡ codes "w2cZ_" ++ (escaped m ++ 90 ∷ 95 ∷ export_part k n)
export_symbol_of-parts m k n = simp append_assoc

pub init_symbol_of-parts : (m : List ℕ) → init_symbol_of m ≡ codes "w2cZ_" ++ (escaped m ++ 90 ∷ 95 ∷ 105 ∷ [])
init_symbol_of-parts m = simp append_assoc

pub export_symbol_of-injective : (m n : List ℕ) (j k : SymbolKind) (x y : List ℕ) → All (λ b. b < 256) m → All (λ b. b < 256) n
    → export_symbol_of m j x ≡ export_symbol_of n k y → (m ≡ n) × (j ≡ k) × (x ≡ y)
export_symbol_of-injective m n j k x y small_m small_n e =
    let whole : codes "w2cZ_" ++ (escaped m ++ 90 ∷ 95 ∷ export_part j x) ≡ codes "w2cZ_" ++ (escaped n ++ 90 ∷ 95 ∷ export_part k y)
    = sym (export_symbol_of-parts m j x) ∙ e ∙ export_symbol_of-parts n k y in
    let parts = escaped-end m n (export_part j x) (export_part k y) small_m small_n (cc) in
    let rest : export_part j x ≡ export_part k y = parts.1 in
    (parts.0, kind_letter-injective j k (cc), escaped-injective x y (cc))

pub init_symbol_of-injective : (m n : List ℕ) → All (λ b. b < 256) m → All (λ b. b < 256) n → init_symbol_of m ≡ init_symbol_of n → m ≡ n
init_symbol_of-injective m n small_m small_n e =
    let whole : codes "w2cZ_" ++ (escaped m ++ 90 ∷ 95 ∷ 105 ∷ []) ≡ codes "w2cZ_" ++ (escaped n ++ 90 ∷ 95 ∷ 105 ∷ [])
    = sym (init_symbol_of-parts m) ∙ e ∙ init_symbol_of-parts n in
    (escaped-end m n (105 ∷ []) (105 ∷ []) small_m small_n (cc)).0

pub init_symbol_of-not_export : (m n : List ℕ) (k : SymbolKind) (x : List ℕ) → All (λ b. b < 256) m → All (λ b. b < 256) n
    → init_symbol_of m ≡ export_symbol_of n k x → ⊥
init_symbol_of-not_export m n k x small_m small_n e =
    let whole : codes "w2cZ_" ++ (escaped m ++ 90 ∷ 95 ∷ 105 ∷ []) ≡ codes "w2cZ_" ++ (escaped n ++ 90 ∷ 95 ∷ export_part k x)
    = sym (init_symbol_of-parts m) ∙ e ∙ export_symbol_of-parts n k x in
    let rest : 105 ∷ [] ≡ export_part k x
    = (escaped-end m n (105 ∷ []) (export_part k x) small_m small_n (cc)).1 in
    cc

stays-identifier : (b : ℕ) → stays b ≡ true → is_identifier_character b ≡ true
stays-identifier b h = grind (arith, nat_tests)

hexadecimal_digit-identifier : (d : ℕ) → d < 16 → is_identifier_character (hexadecimal_digit d) ≡ true
hexadecimal_digit-identifier d h = grind (arith, nat_tests)

escaped_byte-identifier : (b : ℕ) → b < 256 → list_all is_identifier_character (escaped_byte b) ≡ true
escaped_byte-identifier b small =
    elim (escaped_byte-cases b) [
      | inl p ↦ ap (list_all is_identifier_character) p.1 ∙ and_from (is_identifier_character b) true (stays-identifier b p.0) refl
      | inr p ↦ ap (list_all is_identifier_character) p.1
          ∙ and_from (is_identifier_character (hexadecimal_digit (b / 16))) (is_identifier_character (hexadecimal_digit (b % 16)) && true)
          (hexadecimal_digit-identifier (b / 16) (omega arith))
          (and_from (is_identifier_character (hexadecimal_digit (b % 16))) true (hexadecimal_digit-identifier (b % 16) (omega arith)) refl)
    ]

-- an escaped name has no other characters than an identifier
pub list_all-escaped : (m : List ℕ) → All (λ b. b < 256) m → list_all is_identifier_character (escaped m) ≡ true
list_all-escaped [] _ = refl
list_all-escaped (b ∷ m) small =
    list_all-append is_identifier_character (escaped_byte b) (escaped m)
    ∙ and_from (list_all is_identifier_character (escaped_byte b)) (list_all is_identifier_character (escaped m))
    (escaped_byte-identifier b (All-head (λ b. b < 256) b m small)) (list_all-escaped m (All-tail (λ b. b < 256) b m small))

kind_letter-identifier : (k : SymbolKind) → is_identifier_character (kind_letter k) ≡ true
kind_letter-identifier Func = refl
kind_letter-identifier _ = refl

-- w2cZ_, an escaped name and what makes an identifier
IsSymbol-parts : (m rest text : List ℕ) → All (λ b. b < 256) m → list_all is_identifier_character rest ≡ true
    → text ≡ codes "w2cZ_" ++ (escaped m ++ rest) → IsSymbol text
IsSymbol-parts m rest text small h e = record {
  characters = AllPass-from_list_all is_identifier_character text
      (ap (list_all is_identifier_character) e
      ∙ list_all-append is_identifier_character (escaped m) rest
      ∙ and_from (list_all is_identifier_character (escaped m)) (list_all is_identifier_character rest) (list_all-escaped m small) h);
  begins = rw e refl;
}

pub IsSymbol-export_symbol_of : (m : List ℕ) (k : SymbolKind) (n : List ℕ) → All (λ b. b < 256) m → All (λ b. b < 256) n
    → IsSymbol (export_symbol_of m k n)
IsSymbol-export_symbol_of m k n small_m small_n =
    IsSymbol-parts m (90 ∷ 95 ∷ export_part k n) (export_symbol_of m k n) small_m
    (and_from (is_identifier_character (kind_letter k)) (list_all is_identifier_character (escaped n)) (kind_letter-identifier k)
    (list_all-escaped n small_n))
    (export_symbol_of-parts m k n)

pub IsSymbol-init_symbol_of : (m : List ℕ) → All (λ b. b < 256) m → IsSymbol (init_symbol_of m)
IsSymbol-init_symbol_of m small = IsSymbol-parts m (90 ∷ 95 ∷ 105 ∷ []) (init_symbol_of m) small refl (init_symbol_of-parts m)
