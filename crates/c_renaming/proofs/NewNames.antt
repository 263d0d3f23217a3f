-- New names tell their unit and their old name.
use Rattle.c_renaming.proofs.Common.{◌≡◌, ℕ, zero, suc, ◌+◌, ◌-◌, ◌<◌, Bool, true, false, List, [], ◌∷◌, ◌++◌, map, if◌then◌else◌, Some}
use Rattle.c_renaming.proofs.Common.{None, bytes_eq, sym, refl, ap, ◌∙◌, subst, arith, bytes_eq-Decides, named, Effect, primitive}
use Rattle.c_renaming.proofs.Common.{primitives, CValue, Machine, Name, Each, TellsUnits}
use Rattle.std.specs.Int.Digits.{digits_of, number_from_digits, AllBelowBase}
use Rattle.std.proofs.lemmas.Int.Digits.{all_below_base_digits_of, number_digits_of}
use Rattle.c_renaming.specs.NewNames.{decimal_text, name_in, is_outside}
use Rattle.c_renaming.proofs.Each.{◌&◌}

-- ---- a number's digits

shifted : (ds : List ℕ) → map (λ c. c - 48) (map (λ d. 48 + d) ds) ≡ ds
shifted [] = refl
shifted (d ∷ ds) = let e : 48 + d - 48 ≡ d = omega arith in λ i. e i ∷ shifted ds i

-- the number that a text is
abbrev number_of : List ℕ → ℕ
number_of text = number_from_digits 10 (map (λ c. c - 48) text)

number-text : (n : ℕ) → number_of (decimal_text n) ≡ n
number-text zero = refl
number-text (suc n) = ap (number_from_digits 10) (shifted (digits_of 10 (suc n))) ∙ number_digits_of 10 (suc n) (omega arith)

texts_differ : (u v : ℕ) → decimal_text u ≡ decimal_text v → u ≡ v
texts_differ u v e = sym (number-text u) ∙ ap number_of e ∙ number-text v

-- no digit is an underscore
abbrev AreDigits : List ℕ → Type 0
AreDigits ds = Each (λ d. d < 58) ds

below : (ds : List ℕ) → AllBelowBase 10 ds → AreDigits (map (λ d. 48 + d) ds)
below [] all = tt
below (d ∷ ds) all = (omega (arith, all.0), below ds all.1)

text_digits : (n : ℕ) → AreDigits (decimal_text n)
text_digits zero = (omega arith, tt)
text_digits (suc n) = below (digits_of 10 (suc n)) (all_below_base_digits_of 10 (suc n) (omega arith))

-- ---- names

record Same (ds es : List ℕ) (x y : Name) : Type 0 where
  digits : ds ≡ es
  names : x ≡ y

split : (ds es : List ℕ) (x y : Name) → AreDigits ds → AreDigits es → ds ++ 95 ∷ x ≡ es ++ 95 ∷ y → Same ds es x y
split [] [] x y first second e = let same : x ≡ y = cc in record { digits = refl; names = same }
split [] (d ∷ es) x y first second e = let head : 95 ≡ d = cc in absurd (omega (arith, head, second.0))
split (d ∷ ds) [] x y first second e = let head : d ≡ 95 = cc in absurd (omega (arith, head, first.0))
split (d ∷ ds) (c ∷ es) x y first second e =
    let head : d ≡ c = cc in
    let tail : ds ++ 95 ∷ x ≡ es ++ 95 ∷ y = cc in
    let behind : Same ds es x y = split ds es x y first.1 second.1 tail in
    record { digits = (λ i. head i ∷ behind.digits i); names = behind.names }

parts : (u v : ℕ) (x y : Name) → name_in u x ≡ name_in v y → Same (decimal_text u) (decimal_text v) x y
parts u v x y e = grind (arith, text_digits u, text_digits v, split)

pub new_names : TellsUnits name_in
new_names = record {
  same_unit = λ u v x y e. texts_differ u v (parts u v x y e).digits;
  same_name = λ u v x y e. (parts u v x y e).names;
  not_depth = λ u x. refl;
}

-- ---- names of primitives are seen outside

abbrev Entries : Type 0
Entries = List (Name × (List CValue → Machine → Effect))

none_inside : (entries : Entries) → Each (λ e. is_outside e.0 ≡ true) entries → (x : Name) → is_outside x ≡ false → named x entries ≡ None
none_inside [] each x inside = refl
none_inside (e ∷ entries) each x inside = go (bytes_eq e.0 x) refl (none_inside entries each.1 x inside)
  where
    go : (b : Bool) → bytes_eq e.0 x ≡ b → named x entries ≡ None → (if b then Some e.1 else named x entries) ≡ None
    go true is behind =
        let same : e.0 ≡ x = (bytes_eq-Decides e.0 x).0 is in
        let outside : is_outside x ≡ true = subst (λ n. is_outside n ≡ true) same each.0 in
        cc
    go false is behind = behind

pub primitives_outside : (x : Name) → is_outside x ≡ false → primitive x ≡ None
primitives_outside = none_inside primitives
    (refl & refl & refl & refl & refl & refl & refl & refl & refl & refl & refl & refl & refl & refl & refl & refl & refl &
    refl & refl & tt)
