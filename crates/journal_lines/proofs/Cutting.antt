-- A text is cut at each byte of a kind, and texts without such bytes, joined by them, are the parts.
use Rattle.journal_lines.proofs.Common.{◌≡◌, ℕ, Bool, true, not, ◌&&◌, List, [], ◌∷◌, ◌++◌, ◌==◌, refl, ap, ◌∙◌, eq-eqb}
use Rattle.journal_lines.proofs.Common.{slice_split-cons_no, slice_split-cons_yes, AllByRecursion, join_with_byte, list_all, onto_first}
use Rattle.journal_lines.proofs.Common.{slice_split, both_hold}
use Rattle.std.proofs.lemmas.Bool.{not-true}

-- a byte does not stand in a text
abbrev pub lacks : ℕ → List ℕ → Bool
lacks c text = list_all (λ b. not (b == c)) text

abbrev pub cut : ℕ → List ℕ → List (List ℕ)
cut c text = slice_split (λ b. b == c) text

pub lacks-append : (c : ℕ) (x y : List ℕ) → lacks c x ≡ true → lacks c y ≡ true → lacks c (x ++ y) ≡ true
lacks-append c [] y hx hy = hy
lacks-append c (b ∷ x) y hx hy =
    let parts = both_hold (not (b == c)) (lacks c x) hx in
    (λ i. parts.0 i && lacks-append c x y parts.1 hy i)

-- the part in front of the first such byte
pub cut-first : (c : ℕ) (x y : List ℕ) → lacks c x ≡ true → cut c (x ++ c ∷ y) ≡ x ∷ cut c y
cut-first c [] y h = slice_split-cons_yes (λ b. b == c) c y (eq-eqb c c refl)
cut-first c (b ∷ x) y h =
    let parts = both_hold (not (b == c)) (lacks c x) h in
    slice_split-cons_no (λ b. b == c) b (x ++ c ∷ y) (not-true (b == c) parts.0) ∙ ap (onto_first b) (cut-first c x y parts.1)

pub cut-last : (c : ℕ) (x : List ℕ) → lacks c x ≡ true → cut c x ≡ x ∷ []
cut-last c [] h = refl
cut-last c (b ∷ x) h =
    let parts = both_hold (not (b == c)) (lacks c x) h in
    slice_split-cons_no (λ b. b == c) b x (not-true (b == c) parts.0) ∙ ap (onto_first b) (cut-last c x parts.1)

-- each of some texts lacks a byte
abbrev pub AllLack : ℕ → List (List ℕ) → Type 0
AllLack c texts = AllByRecursion (λ text. lacks c text ≡ true) texts

pub cut-join : (c : ℕ) (x : List ℕ) (xs : List (List ℕ)) → AllLack c (x ∷ xs) → cut c (join_with_byte c (x ∷ xs)) ≡ x ∷ xs
cut-join c x [] h = cut-last c x h.0
cut-join c x (y ∷ xs) h =
    cut-first c x (join_with_byte c (y ∷ xs)) h.0 ∙ ap (λ (l : List (List ℕ)). x ∷ l) (cut-join c y xs h.1)
