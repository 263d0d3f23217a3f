-- Escaped names are told apart: no escape of a byte begins another, and none begins with Z_.
use Rattle.std.proofs.Common.{◌≡◌, ℕ, ◌/◌, ◌%◌, ◌<◌, ◌⊎◌, true, false, cond, List, [], ◌∷◌, ◌++◌, length, codes, All, refl, sym, ◌∙◌, ap}
use Rattle.std.proofs.Common.{subst, inl, inr, arith, append_assoc}
use Rattle.std.proofs.lemmas.Bool.Decides.{nat_tests}
use Rattle.std.proofs.lemmas.List.Elements.{All-head, All-tail}
use Rattle.w2c_mangle.specs.Escaping.{stays, hexadecimal_digit, escaped_byte, escaped}

-- the three bytes that stand for a byte that doesn't stay
abbrev pub z_escape : ℕ → List ℕ
z_escape b = 90 ∷ hexadecimal_digit (b / 16) ∷ hexadecimal_digit (b % 16) ∷ []

-- a byte stays, or stands as Z and two digits
pub escaped_byte-cases : (b : ℕ) → ((stays b ≡ true) × (escaped_byte b ≡ b ∷ [])) ⊎ ((stays b ≡ false) × (escaped_byte b ≡ z_escape b))
escaped_byte-cases b =
    elim (stays b) as (λ v. ((v ≡ true) × (cond v (b ∷ []) (z_escape b) ≡ b ∷ []))
    ⊎ ((v ≡ false) × (cond v (b ∷ []) (z_escape b) ≡ z_escape b)))
    [ true ↦ inl (refl, refl) | false ↦ inr (refl, refl) ]

-- the escape of the first byte apart
pub escaped-cons : (b : ℕ) (m r : List ℕ) → escaped (b ∷ m) ++ r ≡ escaped_byte b ++ (escaped m ++ r)
escaped-cons b m r = append_assoc (escaped_byte b) (escaped m) r

pub stays-not_Z : (b : ℕ) → stays b ≡ true → b ≡ 90 → ⊥
stays-not_Z b h e = let P : ℕ → Type 0 = λ n. stays n ≡ true in let no : false ≡ true = subst P e h in cc

pub hexadecimal_digit-injective : (c d : ℕ) → hexadecimal_digit c ≡ hexadecimal_digit d → c ≡ d
hexadecimal_digit-injective c d e = grind (arith, nat_tests)

-- a hexadecimal digit is not _
pub hexadecimal_digit-not_underscore : (d : ℕ) → d < 16 → hexadecimal_digit d ≡ 95 → ⊥
hexadecimal_digit-not_underscore d h e = grind (arith, nat_tests)

-- the two digits determine the byte
z_escape-prefix : (b c : ℕ) (r s : List ℕ) → z_escape b ++ r ≡ z_escape c ++ s → (b ≡ c) × (r ≡ s)
z_escape-prefix b c r s e =
    let high : b / 16 ≡ c / 16 = hexadecimal_digit-injective (b / 16) (c / 16) (cc) in
    let low : b % 16 ≡ c % 16 = hexadecimal_digit-injective (b % 16) (c % 16) (cc) in
    (omega arith, cc)

-- a text begins with the escape of one byte at most
pub escaped_byte-prefix : (b c : ℕ) (r s : List ℕ) → escaped_byte b ++ r ≡ escaped_byte c ++ s → (b ≡ c) × (r ≡ s)
escaped_byte-prefix b c r s e =
    elim (escaped_byte-cases b) [
      | inl p ↦ elim (escaped_byte-cases c) [
        | inl q ↦ let same : b ∷ r ≡ c ∷ s = joined p.1 q.1 in (cc, cc)
        | inr q ↦ let same : b ∷ r ≡ z_escape c ++ s = joined p.1 q.1 in absurd (stays-not_Z b p.0 (cc))
      ]
      | inr p ↦ elim (escaped_byte-cases c) [
        | inl q ↦ let same : z_escape b ++ r ≡ c ∷ s = joined p.1 q.1 in absurd (stays-not_Z c q.0 (cc))
        | inr q ↦ z_escape-prefix b c r s (joined p.1 q.1)
      ]
    ]
  where
    joined : {x y : List ℕ} → escaped_byte b ≡ x → escaped_byte c ≡ y → x ++ r ≡ y ++ s
    joined {x} {y} p q = sym (ap (λ v. v ++ r) p) ∙ e ∙ ap (λ v. v ++ s) q

pub escaped_byte-not_empty : (b : ℕ) (r : List ℕ) → escaped_byte b ++ r ≡ [] → ⊥
escaped_byte-not_empty b r e =
    elim (escaped_byte-cases b) [
      | inl p ↦ let same : b ∷ r ≡ [] = sym (ap (λ v. v ++ r) p.1) ∙ e in cc
      | inr p ↦ let same : z_escape b ++ r ≡ [] = sym (ap (λ v. v ++ r) p.1) ∙ e in cc
    ]

pub escaped-injective : (m n : List ℕ) → escaped m ≡ escaped n → m ≡ n
escaped-injective [] [] e = refl
escaped-injective [] (c ∷ n) e = absurd (escaped_byte-not_empty c (escaped n) (sym e))
escaped-injective (b ∷ m) [] e = absurd (escaped_byte-not_empty b (escaped m) e)
escaped-injective (b ∷ m) (c ∷ n) e =
    let first = escaped_byte-prefix b c (escaped m) (escaped n) e in
    let rest = escaped-injective m n first.1 in
    cc (first.0, rest)

-- no escape of a byte begins with Z_ (90 ∷ 95)
pub escaped_byte-not_end : (b : ℕ) (r s : List ℕ) → b < 256 → escaped_byte b ++ r ≡ 90 ∷ 95 ∷ s → ⊥
escaped_byte-not_end b r s small e =
    elim (escaped_byte-cases b) [
      | inl p ↦ let same : b ∷ r ≡ 90 ∷ 95 ∷ s = sym (ap (λ v. v ++ r) p.1) ∙ e in stays-not_Z b p.0 (cc)
      | inr p ↦ let same : z_escape b ++ r ≡ 90 ∷ 95 ∷ s =
          sym (ap (λ v. v ++ r) p.1) ∙ e in hexadecimal_digit-not_underscore (b / 16) (omega arith) (cc)
    ]

-- Z_ ends an escaped name: what stands before it and after it is determined
pub escaped-end : (m n r s : List ℕ) → All (λ b. b < 256) m → All (λ b. b < 256) n → escaped m ++ 90 ∷ 95 ∷ r ≡ escaped n ++ 90 ∷ 95 ∷ s
    → (m ≡ n) × (r ≡ s)
escaped-end [] [] r s _ _ e = (refl, cc)
escaped-end [] (c ∷ n) r s _ small e =
    absurd (escaped_byte-not_end c (escaped n ++ 90 ∷ 95 ∷ s) r (All-head (λ b. b < 256) c n small)
    (sym (escaped-cons c n (90 ∷ 95 ∷ s)) ∙ sym e))
escaped-end (b ∷ m) [] r s small _ e =
    absurd (escaped_byte-not_end b (escaped m ++ 90 ∷ 95 ∷ r) s (All-head (λ b. b < 256) b m small)
    (sym (escaped-cons b m (90 ∷ 95 ∷ r)) ∙ e))
escaped-end (b ∷ m) (c ∷ n) r s small_m small_n e =
    let split = sym (escaped-cons b m (90 ∷ 95 ∷ r)) ∙ e ∙ escaped-cons c n (90 ∷ 95 ∷ s) in
    let first = escaped_byte-prefix b c (escaped m ++ 90 ∷ 95 ∷ r) (escaped n ++ 90 ∷ 95 ∷ s) split in
    let rest = escaped-end m n r s (All-tail (λ b. b < 256) b m small_m) (All-tail (λ b. b < 256) c n small_n) first.1 in
    (cc (first.0, rest.0), rest.1)

-- after an escaped name, where no byte's escape begins, no name's escape goes on
pub escaped-no_rest : (m n r : List ℕ) → 0 < length r → ((b : ℕ) (s : List ℕ) → b < 256 → escaped_byte b ++ s ≡ r → ⊥)
    → All (λ b. b < 256) n → escaped n ≡ escaped m ++ r → ⊥
escaped-no_rest [] [] r more none _ e = let empty : 0 ≡ length r = ap length e in absurd (omega arith)
escaped-no_rest [] (c ∷ n) r more none small e = none c (escaped n) (All-head (λ b. b < 256) c n small) e
escaped-no_rest (b ∷ m) [] r more none _ e =
    escaped_byte-not_empty b (escaped m ++ r) (sym (escaped-cons b m r) ∙ sym e)
escaped-no_rest (b ∷ m) (c ∷ n) r more none small e =
    let first = escaped_byte-prefix c b (escaped n) (escaped m ++ r) (e ∙ escaped-cons b m r) in
    escaped-no_rest m n r more none (All-tail (λ b. b < 256) c n small) first.1

-- no escape is the word Z
pub escaped_apart : (name : List ℕ) → escaped name ≡ codes "Z" → ⊥
escaped_apart [] e = absurd cc
escaped_apart (b ∷ name) e =
    elim (escaped_byte-cases b) [
      | inl p ↦ let same : b ∷ escaped name ≡ codes "Z" = sym (ap (λ l. l ++ escaped name) p.1) ∙ e in absurd (stays-not_Z b p.0 (cc))
      | inr p ↦ let same : z_escape b ++ escaped name ≡ codes "Z" = sym (ap (λ l. l ++ escaped name) p.1) ∙ e in cc
    ]
