-- Lists of pieces with the same tokens are the same, where the pieces are.
use Rattle.c_tree.proofs.Common.{◌≡◌, List, [], ◌∷◌, ◌++◌, refl, append_assoc, AllByRecursion, Fixed, Token, each, separated, Tok}
use Rattle.c_tree.specs.declared.token.Tok.TheVariants as tok

-- tokens that do not begin with this one
abbrev pub NotFirst : Tok → List Token → Type 0
NotFirst t ts = (more : List Token) → ts ≡ Fixed t ∷ more → ⊥

-- no piece begins with this token
abbrev pub BeginsNone : {A : Type 0} → (A → List Token) → Tok → Type 0
BeginsNone {A = A} f t = (x : A) (r s : List Token) → f x ++ r ≡ Fixed t ∷ s → ⊥

-- where what follows may follow, tokens have one piece in front
abbrev pub IsOne : {A : Type 0} → (A → List Token) → (A → Type 0) → (List Token → Type 0) → Type 0
IsOne {A = A} f P May = (x y : A) (r s : List Token) → P x → P y → May r → May s → f x ++ r ≡ f y ++ s → (x ≡ y) × (r ≡ s)

abbrev pub Anything : List Token → Type 0
Anything r = Unit {0}

-- pieces one behind another, in front of what begins none of them
pub same_each : {A : Type 0} (f : A → List Token) (P : A → Type 0) → IsOne f P Anything → (xs ys : List A) (r s : List Token)
    → AllByRecursion P xs → AllByRecursion P ys
    → ((x : A) (more : List Token) → f x ++ more ≡ r → ⊥) → ((x : A) (more : List Token) → f x ++ more ≡ s → ⊥)
    → each f xs ++ r ≡ each f ys ++ s → (xs ≡ ys) × (r ≡ s)
same_each f P one [] [] r s p q here there e = (refl, e)
same_each f P one [] (y ∷ ys) r s p q here there e = absurd (here y (each f ys ++ s) (let h = append_assoc (f y) (each f ys) s in cc))
same_each f P one (x ∷ xs) [] r s p q here there e = absurd (there x (each f xs ++ r) (let h = append_assoc (f x) (each f xs) r in cc))
same_each f P one (x ∷ xs) (y ∷ ys) r s p q here there e =
    let g : f x ++ (each f xs ++ r) ≡ f y ++ (each f ys ++ s) =
    (let h = append_assoc (f x) (each f xs) r in let k = append_assoc (f y) (each f ys) s in cc) in
    let h = one x y (each f xs ++ r) (each f ys ++ s) p.0 q.0 tt tt g in
    let k = same_each f P one xs ys r s p.1 q.1 here there h.1 in
    (cc, k.1)

-- what may follow a piece in such a list
may_follow : {A : Type 0} (f : A → List Token) (May : List Token → Type 0) (c : Tok) → ((more : List Token) → May (Fixed tok.Comma ∷ more))
    → ((more : List Token) → May (Fixed c ∷ more))
    → (xs : List A) (r : List Token) → May (each (λ y. Fixed tok.Comma ∷ f y) xs ++ (Fixed c ∷ r))
may_follow f May c comma end [] r = end r
may_follow f May c comma end (x ∷ xs) r = comma _

-- pieces each behind a comma
same_more : {A : Type 0} (f : A → List Token) (P : A → Type 0) (May : List Token → Type 0) (c : Tok) → IsOne f P May
    → ((more : List Token) → May (Fixed tok.Comma ∷ more)) → ((more : List Token) → May (Fixed c ∷ more))
    → (c ≡ tok.Comma → ⊥) → (xs ys : List A) (r s : List Token) → AllByRecursion P xs → AllByRecursion P ys
    → each (λ y. Fixed tok.Comma ∷ f y) xs ++ (Fixed c ∷ r) ≡ each (λ y. Fixed tok.Comma ∷ f y) ys ++ (Fixed c ∷ s) → (xs ≡ ys) × (r ≡ s)
same_more f P May c one comma end apart [] [] r s p q e = (refl, cc)
same_more f P May c one comma end apart [] (y ∷ ys) r s p q e = absurd (apart cc)
same_more f P May c one comma end apart (x ∷ xs) [] r s p q e = absurd (apart cc)
same_more {A = A} f P May c one comma end apart (x ∷ xs) (y ∷ ys) r s p q e =
    let more : List A → List Token = λ zs. each (λ y. Fixed tok.Comma ∷ f y) zs in
    let g : f x ++ (more xs ++ (Fixed c ∷ r)) ≡ f y ++ (more ys ++ (Fixed c ∷ s)) =
    (let h = append_assoc (f x) (more xs) (Fixed c ∷ r) in let k = append_assoc (f y) (more ys) (Fixed c ∷ s) in cc) in
    let h = one x y (more xs ++ (Fixed c ∷ r)) (more ys ++ (Fixed c ∷ s)) p.0 q.0 (may_follow f May c comma end xs r)
    (may_follow f May c comma end ys s) g in
    let k = same_more f P May c one comma end apart xs ys r s p.1 q.1 h.1 in
    (cc, k.1)

-- pieces with a comma between, in front of a token that begins none of them
pub same_separated : {A : Type 0} (f : A → List Token) (P : A → Type 0) (May : List Token → Type 0) (c : Tok) → IsOne f P May
    → ((more : List Token) → May (Fixed tok.Comma ∷ more)) → ((more : List Token) → May (Fixed c ∷ more))
    → (c ≡ tok.Comma → ⊥) → BeginsNone f c → (xs ys : List A) (r s : List Token) → AllByRecursion P xs → AllByRecursion P ys
    → separated f xs ++ (Fixed c ∷ r) ≡ separated f ys ++ (Fixed c ∷ s) → (xs ≡ ys) × (r ≡ s)
same_separated f P May c one comma end apart none [] [] r s p q e = (refl, cc)
same_separated f P May c one comma end apart none [] (y ∷ ys) r s p q e =
    absurd (none y (each (λ y. Fixed tok.Comma ∷ f y) ys ++ (Fixed c ∷ s)) r
    (let k = append_assoc (f y) (each (λ y. Fixed tok.Comma ∷ f y) ys) (Fixed c ∷ s) in cc))
same_separated f P May c one comma end apart none (x ∷ xs) [] r s p q e =
    absurd (none x (each (λ y. Fixed tok.Comma ∷ f y) xs ++ (Fixed c ∷ r)) s
    (let k = append_assoc (f x) (each (λ y. Fixed tok.Comma ∷ f y) xs) (Fixed c ∷ r) in cc))
same_separated {A = A} f P May c one comma end apart none (x ∷ xs) (y ∷ ys) r s p q e =
    let more : List A → List Token = λ zs. each (λ y. Fixed tok.Comma ∷ f y) zs in
    let g : f x ++ (more xs ++ (Fixed c ∷ r)) ≡ f y ++ (more ys ++ (Fixed c ∷ s)) =
    (let h = append_assoc (f x) (more xs) (Fixed c ∷ r) in let k = append_assoc (f y) (more ys) (Fixed c ∷ s) in cc) in
    let h = one x y (more xs ++ (Fixed c ∷ r)) (more ys ++ (Fixed c ∷ s)) p.0 q.0 (may_follow f May c comma end xs r)
    (may_follow f May c comma end ys s) g in
    let k = same_more f P May c one comma end apart xs ys r s p.1 q.1 h.1 in
    (cc, k.1)
