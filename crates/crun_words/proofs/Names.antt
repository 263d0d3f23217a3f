-- Two words name one symbol at most.
use Rattle.crun_words.proofs.Common.{◌≡◌, ℕ, ◌<◌, false, List, [], ◌∷◌, ◌++◌, length, IfNone, Some, None, codes, Option, bytes_eq, sym}
use Rattle.crun_words.proofs.Common.{refl, ap, ◌∙◌, subst, inl, inr, arith, IsBytes, IsSymbolOf, word_of_name}
use Rattle.w2c_mangle.specs.declared.symbol.SymbolKind.TheVariants.{Func}
use Rattle.w2c_mangle.specs.Escaping.{escaped}
use Rattle.w2c_mangle.specs.Symbols.{export_symbol_of}
use Rattle.w2c_mangle.proofs.EscapedNames.{escaped-injective, escaped_byte-cases, z_escape, escaped_apart}

-- an export's word is that of one name
pub word_is_of_one : (x y : List ℕ) → word_of_name x ≡ word_of_name y → x ≡ y
word_is_of_one [] [] e = refl
word_is_of_one [] (b ∷ y) e = absurd (escaped_apart (b ∷ y) (sym e))
word_is_of_one (a ∷ x) [] e = absurd (escaped_apart (a ∷ x) e)
word_is_of_one (a ∷ x) (b ∷ y) e = escaped-injective (a ∷ x) (b ∷ y) e

-- a word that is not Z and not empty is no word but the escape of a name
word_is_escape : (word x : List ℕ) → (word ≡ codes "Z" → ⊥) → word_of_name x ≡ word → escaped x ≡ word
word_is_escape word [] apart e = absurd (apart (sym e))
word_is_escape word (b ∷ x) apart e = e

pub one_symbol : (m x symbol other : List ℕ) → IsSymbolOf m x symbol → IsSymbolOf m x other → symbol ≡ other
one_symbol m x symbol other a b =
    let modules : a.module_name ≡ b.module_name = escaped-injective a.module_name b.module_name (sym a.module_is ∙ b.module_is) in
    let names : a.export_name ≡ b.export_name = word_is_of_one a.export_name b.export_name (sym a.export_is ∙ b.export_is) in
    a.symbol_is ∙ (λ i. export_symbol_of (modules i) Func (names i)) ∙ sym b.symbol_is

-- ---- refusals of words

-- a module's word is not empty
pub no_module : (m x symbol : List ℕ) → length m ≡ 0 → IsSymbolOf m x symbol → ⊥
no_module m x symbol empty is = by_name is.module_name is.module_is_there (sym (ap length is.module_is) ∙ empty)
  where
    by_name : (name : List ℕ) → 0 < length name → length (escaped name) ≡ 0 → ⊥
    by_name [] some none = omega (arith, some)
    by_name (b ∷ name) some none = elim (escaped_byte-cases b) [
      | inl p ↦ let same : length (b ∷ escaped name) ≡ 0 = sym (ap (λ l. length (l ++ escaped name)) p.1) ∙ none in omega (arith, same)
      | inr p ↦ let same : length (z_escape b ++ escaped name) ≡ 0 =
          sym (ap (λ l. length (l ++ escaped name)) p.1) ∙ none in omega (arith, same)
    ]

-- words that are escapes of no names
pub no_name : (m x symbol : List ℕ) → ((name : List ℕ) → IsBytes name → escaped name ≡ m → ⊥) → IsSymbolOf m x symbol → ⊥
no_name m x symbol none is = none is.module_name is.module_bytes (sym is.module_is)

-- a word that is not Z and the escape of no name is the word of none
not_z : (word : List ℕ) → bytes_eq word (codes "Z") ≡ false → word ≡ codes "Z" → ⊥
not_z word differs is = (let both : bytes_eq (codes "Z") (codes "Z") ≡ false = subst (λ w. bytes_eq w (codes "Z") ≡ false) is differs in cc)

pub none_escapes : (found : Option (List ℕ)) (word : List ℕ) → bytes_eq word (codes "Z") ≡ false
    → IfNone found ((name : List ℕ) → IsBytes name → escaped name ≡ word → ⊥)
    → IfNone found ((name : List ℕ) → IsBytes name → word_of_name name ≡ word → ⊥)
none_escapes None word differs none = λ name bytes is. none name bytes (word_is_escape word name (not_z word differs) is)
none_escapes (Some n) word differs none = tt
