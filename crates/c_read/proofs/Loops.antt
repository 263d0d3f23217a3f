-- Reading a list in a loop.
use Rattle.c_read.proofs.Common.{◌≡◌, ℕ, zero, suc, ◌<◌, Bool, true, false, List, [], ◌∷◌, ◌++◌, length, Ok, Err, sym, refl, ap, ◌∙◌}
use Rattle.c_read.proofs.Common.{append_assoc, append-nil, arith, Lexeme, CReadFault, Kind, Outcome, Parser, and_then, next_kind, all}
use Rattle.c_read.proofs.Common.{and_more, is_comma}
use Rattle.c_read.specs.Lists.{many}

-- what was read before, and what is still read
abbrev pub with_front : {A : Type 0} → List A → Outcome (List A) → Outcome (List A)
with_front front o = and_then o (λ xs m. Ok (front ++ xs, m))

-- with these in front, reading on comes to the total
abbrev pub Left : {A : Type 0} → (Kind → Bool) → Parser A → List A → List Lexeme → Outcome (List A) → Type 0
Left goes one front ls total = (n : ℕ) × (length ls < n) × (with_front front (many goes one n ls) ≡ total)

regroup : {A : Type 0} (front : List A) (x : A) (o : Outcome (List A))
    → with_front front (and_then o (λ xs m. Ok (x ∷ xs, m))) ≡ with_front (front ++ x ∷ []) o
regroup front x (Ok p) = ap (λ xs. Ok (xs, p.1)) (sym (append_assoc front (x ∷ []) p.0))
regroup front x (Err f) = refl

pub left_more : {A : Type 0} (goes : Kind → Bool) (one : Parser A) (front : List A) (ls ls1 : List Lexeme) (x : A)
    (total : Outcome (List A))
    → goes (next_kind ls) ≡ true → one ls ≡ Ok (x, ls1) → length ls1 < length ls → Left goes one front ls total
    → Left goes one (front ++ x ∷ []) ls1 total
unfolding many
left_more goes one front ls ls1 x total on read short (zero, lt, e) = absurd (omega arith)
left_more goes one front ls ls1 x total on read short (suc n, lt, e) =
    let step : with_front front (many goes one (suc n) ls) ≡ with_front (front ++ x ∷ []) (many goes one n ls1) =
    rw (on, read) (regroup front x (many goes one n ls1)) in
    (n, omega arith, sym step ∙ e)

pub left_ends : {A : Type 0} (goes : Kind → Bool) (one : Parser A) (front : List A) (ls : List Lexeme) (total : Outcome (List A))
    → goes (next_kind ls) ≡ false → Left goes one front ls total → total ≡ Ok (front, ls)
unfolding many
left_ends goes one front ls total off (zero, lt, e) = absurd (omega arith)
left_ends goes one front ls total off (suc n, lt, e) =
    let step : with_front front (many goes one (suc n) ls) ≡ Ok (front, ls) = rw off (ap (λ xs. Ok (xs, ls)) (append-nil front)) in
    sym e ∙ step

pub left_fails : {A : Type 0} (goes : Kind → Bool) (one : Parser A) (front : List A) (ls : List Lexeme) (f : CReadFault)
    (total : Outcome (List A))
    → goes (next_kind ls) ≡ true → one ls ≡ Err f → Left goes one front ls total → total ≡ Err f
unfolding many
left_fails goes one front ls f total on read (zero, lt, e) = absurd (omega arith)
left_fails goes one front ls f total on read (suc n, lt, e) =
    let step : with_front front (many goes one (suc n) ls) ≡ Err f = rw (on, read) refl in
    sym e ∙ step

-- a list whose first piece was read
pub left_behind : {A : Type 0} (one : Parser A) (x : A) (ls : List Lexeme) (front : List A) → front ≡ x ∷ []
    → Left is_comma one front ls (and_more one x ls)
left_behind one x ls front e = (suc (length ls), omega arith, rw e refl)

front_nil : {A : Type 0} (o : Outcome (List A)) → with_front [] o ≡ o
front_nil (Ok p) = refl
front_nil (Err f) = refl

-- a list of which nothing was read
pub left_whole : {A : Type 0} (goes : Kind → Bool) (one : Parser A) (ls : List Lexeme) (front : List A) → front ≡ []
    → Left goes one front ls (all goes one ls)
left_whole goes one ls front e = (suc (length ls), omega arith, rw e (front_nil (many goes one (suc (length ls)) ls)))
