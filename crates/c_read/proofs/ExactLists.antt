-- Lists: pieces one after another, and pieces with commas between.
use Rattle.c_read.proofs.Common.{◌≡◌, ℕ, zero, suc, ◌<◌, Bool, true, false, cond, List, [], ◌∷◌, ◌++◌, length, Ok, Err, sym, refl, ◌∙◌}
use Rattle.c_read.proofs.Common.{subst, append_assoc, append-nil, arith, AllByRecursion, Becomes, One, Symbol, first, move, Lexeme, Fixed}
use Rattle.c_read.proofs.Common.{Token, kind_of, each, separated, Kind, Outcome, Parser, and_then, all, and_more, behind_comma, is_comma}
use Rattle.c_tree.specs.declared.token.Tok.TheVariants as tok
use Rattle.c_tree.specs.declared.token.Kind.TheVariants as kind
use Rattle.c_lex.specs.Reading.{next_kind}
use Rattle.c_read.specs.Lists.{many}
use Rattle.c_read.proofs.Exact.{Has, Exact, ExactAt, Proper, proper_behind, fewer, fails_before, join, done, last, open_part, open_before}
use Rattle.c_read.proofs.ExactTokens.{text}

-- A part of a list: where the next token goes on, it becomes one more piece and itself.
pub record Lists {A : Type 0} (s : Symbol) (goes : Kind → Bool) (one : Parser A) (toks : A → List Token) (fit : A → Type 0) : Type 0 where
  pub new : List Symbol
  pub more : (l : Lexeme) → goes (kind_of l.token) ≡ true → move s l ≡ Becomes (new ++ s ∷ [])
  pub exact : (ls : List Lexeme) → Proper ls → Exact [] toks fit new ls (one ls)
  pub some : (a : A) → (t : Token) × (ts : List Token) × (toks a ≡ t ∷ ts)

-- where the list ends, what is read behind it is exact
abbrev Behind : {A B : Type 0} → Symbol → List Symbol → (Kind → Bool) → (A → List Token) → (A → Type 0) → List Token → (B → List Token)
    → (B → Type 0) → (List A → Parser B) → Type 0
Behind {A = A} s expected goes toks fit before tb fb k =
    (xs : List A) (m : List Lexeme) → Proper m → goes (kind_of (first m).token) ≡ false → AllByRecursion fit xs
    → Exact (before ++ each toks xs) tb fb (s ∷ expected) m (k xs m)

regroup : {A B : Type 0} (x : A) (k : List A → Parser B) (o : Outcome (List A))
    → and_then (and_then o (λ xs m. Ok (x ∷ xs, m))) k ≡ and_then o (λ xs. k (x ∷ xs))
regroup x k (Ok p) = refl
regroup x k (Err f) = refl

list_step : {A B : Type 0} (s : Symbol) (expected : List Symbol) (goes : Kind → Bool) (p : Parser A) (toks : A → List Token)
    (fit : A → Type 0) (tb : B → List Token) (fb : B → Type 0) (r : Lists s goes p toks fit)
    (n : ℕ) (ls : List Lexeme) (before : List Token) (k : List A → Parser B) (o : Outcome A)
    → Proper ls → length ls < suc n → ExactAt [] toks fit r.new ls o → Behind s expected goes toks fit before tb fb k
    → ((l1 : List Lexeme) (b1 : List Token) (k1 : List A → Parser B) → length l1 < n → Proper l1
    → Behind s expected goes toks fit b1 tb fb k1 → Exact b1 tb fb (s ∷ expected) l1 (and_then (many goes p n l1) k1))
    → ExactAt before tb fb (r.new ++ s ∷ expected) ls
    (and_then (and_then o (λ x m. and_then (many goes p n m) (λ xs q. Ok (x ∷ xs, q)))) k)
list_step s expected goes p toks fit tb fb r n ls before k (Err f) proper lt one behind ih = fails_before r.new (s ∷ expected) ls f one
list_step s expected goes p toks fit tb fb r n ls before k (Ok q) proper lt one behind ih =
    let h = r.some q.0 in
    let has : Has ls (h.0 ∷ h.1) q.1 = subst (λ ts. Has ls ts q.1) (sym one.3 ∙ h.2) one.2 in
    let short : length q.1 < n = omega (arith, fewer ls h.0 h.1 q.1 has) in
    let p1 = proper_behind ls one.1 q.1 one.2 proper in
    let rest = ih q.1 (before ++ toks q.0) (λ xs. k (q.0 ∷ xs)) short p1
    (λ xs m pm off hs. subst (λ b. Exact b tb fb (s ∷ expected) m (k (q.0 ∷ xs) m)) (sym (append_assoc before (toks q.0) (each toks xs)))
    (behind (q.0 ∷ xs) m pm off (one.4, hs))) in
    let same = regroup q.0 k (many goes p n q.1) in
    subst (ExactAt before tb fb (r.new ++ s ∷ expected) ls) (sym same)
    (join before toks tb fit fb r.new (s ∷ expected) ls q.1 q.0 (and_then (many goes p n q.1) (λ xs. k (q.0 ∷ xs))) one rest.is)

many_exact : {A B : Type 0} (s : Symbol) (expected : List Symbol) (goes : Kind → Bool) (p : Parser A) (toks : A → List Token)
    (fit : A → Type 0) (tb : B → List Token) (fb : B → Type 0) (r : Lists s goes p toks fit)
    (n : ℕ) (ls : List Lexeme) (before : List Token) (k : List A → Parser B) → length ls < n → Proper ls
    → Behind s expected goes toks fit before tb fb k
    → Exact before tb fb (s ∷ expected) ls (and_then (many goes p n ls) k)
unfolding many next_kind
many_exact s expected goes p toks fit tb fb r zero ls before k lt proper behind = absurd (omega arith)
many_exact {A = A} {B = B} s expected goes p toks fit tb fb r (suc n) ls before k lt proper behind =
    by (goes (kind_of (first ls).token)) refl
    (λ l1 b1 k1 lt1 p1 behind1. many_exact s expected goes p toks fit tb fb r n l1 b1 k1 lt1 p1 behind1)
  where
    by : (b : Bool) → goes (kind_of (first ls).token) ≡ b
        → ((l1 : List Lexeme) (b1 : List Token) (k1 : List A → Parser B) → length l1 < n → Proper l1
        → Behind s expected goes toks fit b1 tb fb k1 → Exact b1 tb fb (s ∷ expected) l1 (and_then (many goes p n l1) k1))
        → Exact before tb fb (s ∷ expected) ls
        (and_then (cond b (and_then (p ls) (λ x m. and_then (many goes p n m) (λ xs q. Ok (x ∷ xs, q)))) (Ok ([], ls))) k)
    by true e ih =
        let again : Exact before tb fb (r.new ++ s ∷ expected) ls
        (and_then (and_then (p ls) (λ x m. and_then (many goes p n m) (λ xs q. Ok (x ∷ xs, q)))) k)
        = record { is = list_step s expected goes p toks fit tb fb r n ls before k (p ls) proper lt (r.exact ls proper).is behind ih } in
        open_before expected (r.more (first ls) e)
        (subst (λ ss. Exact before tb fb ss ls
        (and_then (and_then (p ls) (λ x m. and_then (many goes p n m) (λ xs q. Ok (x ∷ xs, q)))) k))
        (sym (append_assoc r.new (s ∷ []) expected)) again)
    by false e ih = subst (λ b. Exact b tb fb (s ∷ expected) ls (k [] ls)) (append-nil before) (behind [] ls proper e tt)

-- pieces, and what is read behind them
pub pieces : {A B : Type 0} {s : Symbol} {expected : List Symbol} {goes : Kind → Bool} {p : Parser A} {toks : A → List Token}
    {fit : A → Type 0} {before : List Token} {tb : B → List Token} {fb : B → Type 0} {ls : List Lexeme} {k : List A → Parser B}
    (r : Lists s goes p toks fit) → Proper ls → Behind s expected goes toks fit before tb fb k
    → Exact before tb fb (s ∷ expected) ls (and_then (all goes p ls) k)
pieces {s = s} {expected = expected} {goes = goes} {p = p} {toks = toks} {fit = fit} {before = before} {tb = tb} {fb = fb} {ls = ls}
    {k = k} r proper behind =
    many_exact s expected goes p toks fit tb fb r (suc (length ls)) ls before k (omega arith) proper behind

same_outcome : {A : Type 0} (o : Outcome A) → and_then o (λ a m. Ok (a, m)) ≡ o
same_outcome (Ok p) = refl
same_outcome (Err f) = refl

-- pieces alone, where the part becomes nothing at the end
pub pieces_alone : {A : Type 0} {s : Symbol} {goes : Kind → Bool} {p : Parser A} {toks : A → List Token} {fit : A → Type 0}
    {ls : List Lexeme} → Lists s goes p toks fit → ((l : Lexeme) → goes (kind_of l.token) ≡ false → move s l ≡ Becomes []) → Proper ls
    → Exact [] (each toks) (AllByRecursion fit) (s ∷ []) ls (all goes p ls)
pieces_alone {s = s} {goes = goes} {p = p} {toks = toks} {fit = fit} {ls = ls} r ends proper =
    subst (Exact [] (each toks) (AllByRecursion fit) (s ∷ []) ls) (same_outcome (all goes p ls))
    (pieces r proper (λ xs m pm off hs. open_part (ends (first m) off) (done refl hs)))

-- ---- where a list ends

abbrev pub EndsAt : {A : Type 0} → (Kind → Bool) → Outcome A → Type 0
EndsAt goes (Ok p) = goes (kind_of (first p.1).token) ≡ false
EndsAt goes (Err f) = Unit {0}

put_ends : {A : Type 0} (goes : Kind → Bool) (x : A) (o : Outcome (List A)) → EndsAt goes o
    → EndsAt goes (and_then o (λ xs m. Ok (x ∷ xs, m)))
put_ends goes x (Ok p) e = e
put_ends goes x (Err f) e = tt

end_step : {A : Type 0} (s : Symbol) (goes : Kind → Bool) (p : Parser A) (toks : A → List Token) (fit : A → Type 0)
    (r : Lists s goes p toks fit) (n : ℕ) (ls : List Lexeme) (o : Outcome A)
    → Proper ls → length ls < suc n → ExactAt [] toks fit r.new ls o
    → ((l1 : List Lexeme) → length l1 < n → Proper l1 → EndsAt goes (many goes p n l1))
    → EndsAt goes (and_then o (λ x m. and_then (many goes p n m) (λ xs q. Ok (x ∷ xs, q))))
end_step s goes p toks fit r n ls (Err f) proper lt one ih = tt
end_step s goes p toks fit r n ls (Ok q) proper lt one ih =
    let h = r.some q.0 in
    let has : Has ls (h.0 ∷ h.1) q.1 = subst (λ ts. Has ls ts q.1) (sym one.3 ∙ h.2) one.2 in
    let short : length q.1 < n = omega (arith, fewer ls h.0 h.1 q.1 has) in
    put_ends goes q.0 (many goes p n q.1) (ih q.1 short (proper_behind ls one.1 q.1 one.2 proper))

many_end : {A : Type 0} (s : Symbol) (goes : Kind → Bool) (p : Parser A) (toks : A → List Token) (fit : A → Type 0)
    (r : Lists s goes p toks fit) (n : ℕ) (ls : List Lexeme) → length ls < n → Proper ls → EndsAt goes (many goes p n ls)
unfolding many next_kind
many_end s goes p toks fit r zero ls lt proper = absurd (omega arith)
many_end s goes p toks fit r (suc n) ls lt proper =
    by (goes (kind_of (first ls).token)) refl (λ l1 lt1 p1. many_end s goes p toks fit r n l1 lt1 p1)
  where
    by : (b : Bool) → goes (kind_of (first ls).token) ≡ b
        → ((l1 : List Lexeme) → length l1 < n → Proper l1 → EndsAt goes (many goes p n l1))
        → EndsAt goes (cond b (and_then (p ls) (λ x m. and_then (many goes p n m) (λ xs q. Ok (x ∷ xs, q)))) (Ok ([], ls)))
    by true e ih = end_step s goes p toks fit r n ls (p ls) proper lt (r.exact ls proper).is ih
    by false e ih = e

-- a list ends where no piece comes
pub pieces_end : {A : Type 0} {s : Symbol} {goes : Kind → Bool} {p : Parser A} {toks : A → List Token} {fit : A → Type 0}
    (r : Lists s goes p toks fit) (ls : List Lexeme) → Proper ls → EndsAt goes (all goes p ls)
pieces_end {s = s} {goes = goes} {p = p} {toks = toks} {fit = fit} r ls proper =
    many_end s goes p toks fit r (suc (length ls)) ls (omega arith) proper

-- ---- commas between

-- A part that becomes a comma, a piece and itself at a comma, and nothing elsewhere.
pub record Tail (s : Symbol) (new : List Symbol) : Type 0 where
  pub more : (l : Lexeme) → kind_of l.token ≡ kind.Fixed tok.Comma → move s l ≡ Becomes (One tok.Comma ∷ (new ++ s ∷ []))
  pub ends : (l : Lexeme) (k : Kind) → kind_of l.token ≡ k → is_comma k ≡ false → move s l ≡ Becomes []

comma_is : (k : Kind) → is_comma k ≡ true → k ≡ kind.Fixed tok.Comma
comma_is (kind.Fixed tok.Comma) e = refl
comma_is _ e = absurd cc

tail_list : {A : Type 0} (s : Symbol) (new : List Symbol) (one : Parser A) (toks : A → List Token) (fit : A → Type 0) → Tail s new
    → ((ls : List Lexeme) → Proper ls → Exact [] toks fit new ls (one ls))
    → Lists s is_comma (behind_comma one) (λ a. Fixed tok.Comma ∷ toks a) fit
tail_list s new one toks fit row exact = record {
  new = One tok.Comma ∷ new;
  more = λ l on. row.more l (comma_is (kind_of l.token) on);
  exact = λ ls proper. text refl proper (λ l1 p1. last (λ a. refl) (exact l1 p1));
  some = λ a. (Fixed tok.Comma, toks a, refl);
}

-- the pieces behind a first one, as it makes a list fit that it is not empty and that each piece fits
pub tail : {A : Type 0} {s : Symbol} {new : List Symbol} {one : Parser A} {toks : A → List Token} {fit : A → Type 0}
    {whole : List A → Type 0} {x : A} {ls : List Lexeme} → Tail s new
    → ((m : List Lexeme) → Proper m → Exact [] toks fit new m (one m)) → Proper ls → fit x
    → ((xs : List A) → 0 < length xs → AllByRecursion fit xs → whole xs)
    → Exact (toks x) (separated toks) whole (s ∷ []) ls (and_more (behind_comma one) x ls)
tail {s = s} {new = new} {one = one} {toks = toks} {fit = fit} {x = x} {ls = ls} row exact proper h fits_all =
    pieces (tail_list s new one toks fit row exact) proper
    (λ xs m pm off hs. open_part (row.ends (first m) (kind_of (first m).token) refl off)
    (done refl (fits_all (x ∷ xs) (omega arith) (h, hs))))
