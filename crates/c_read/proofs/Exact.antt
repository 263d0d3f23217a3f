-- What a reading takes is what the table takes, its value is one that a unit may have, and its fault is the table's: the steps of such
-- proofs.
use Rattle.c_read.proofs.Common.{◌≡◌, ◌<◌, true, false, List, [], ◌∷◌, ◌++◌, length, Ok, Err, sym, refl, ap, ◌∙◌, subst, append_assoc}
use Rattle.c_read.proofs.Common.{append-nil, arith, AllByRecursion, Becomes, Faulty, Stops, Symbol, Takes, first, here, move, opened}
use Rattle.c_read.proofs.Common.{others, taken, Lexeme, are_digits, Number, Token, CReadFault, is_last, Outcome, Parser, and_then}

-- From these symbols at ls the table comes to what is expected behind them, at ls'.
pub record Goes (ss : List Symbol) (ls ls' : List Lexeme) : Type 0 where
  pub on : (more : List Symbol) (f : CReadFault) → Stops more ls' f → Stops (ss ++ more) ls f

-- With these symbols at ls the table stops, whatever is expected behind them.
pub record Fails (ss : List Symbol) (ls : List Lexeme) (f : CReadFault) : Type 0 where
  pub stops : (more : List Symbol) → Stops (ss ++ more) ls f

-- these tokens stand in front, and then ls'
abbrev pub Has : List Lexeme → List Token → List Lexeme → Type 0
Has ls [] ls' = ls ≡ ls'
Has [] (t ∷ ts) ls' = ⊥
Has (l ∷ ls) (t ∷ ts) ls' = (l.token ≡ t) × (is_last t ≡ false) × Has ls ts ls'

pub Has-append : (ls : List Lexeme) (xs : List Token) (mid : List Lexeme) (ys : List Token) (ls' : List Lexeme) → Has ls xs mid
    → Has mid ys ls' → Has ls (xs ++ ys) ls'
Has-append ls [] mid ys ls' p q = rw p q
Has-append [] (x ∷ xs) mid ys ls' p q = absurd p
Has-append (l ∷ ls) (x ∷ xs) mid ys ls' p q = (p.0, p.1, Has-append ls xs mid ys ls' p.2 q)

-- fewer tokens are left behind what takes one
pub fewer : (ls : List Lexeme) (t : Token) (ts : List Token) (ls' : List Lexeme) → Has ls (t ∷ ts) ls' → length ls' < length ls
fewer [] t ts ls' has = absurd has
fewer (l ∷ ls) t [] ls' has = omega (arith, ap length has.2)
fewer (l ∷ ls) t (u ∷ ts) ls' has = omega (arith, fewer ls u ts ls' has.2)

-- of what nothing is asked
abbrev pub free : {A : Type 0} → A → Type 0
free a = Unit {0}

abbrev pub ExactAt : {A : Type 0} → List Token → (A → List Token) → (A → Type 0) → List Symbol → List Lexeme → Outcome A → Type 0
ExactAt before toks fit ss ls (Ok p) =
    Goes ss ls p.1 × (took : List Token) × Has ls took p.1 × (toks p.0 ≡ before ++ took) × fit p.0
ExactAt before toks fit ss ls (Err f) = Fails ss ls f

-- What was read from ls by these symbols, behind the tokens before: the value has those and the tokens that were taken, and fits. A fault
-- is the table's.
pub record Exact {A : Type 0} (before : List Token) (toks : A → List Token) (fit : A → Type 0) (ss : List Symbol) (ls : List Lexeme)
    (o : Outcome A) : Type 0 where
  pub is : ExactAt before toks fit ss ls o

-- ---- digits of numbers

abbrev pub HasDigits : Token → Type 0
HasDigits (Number s ds) = are_digits ds ≡ true
HasDigits _ = Unit {0}

-- the numbers among these are written as they should
abbrev pub Proper : List Lexeme → Type 0
Proper ls = AllByRecursion (λ (l : Lexeme). HasDigits l.token) ls

pub proper_behind : (ls : List Lexeme) (ts : List Token) (ls' : List Lexeme) → Has ls ts ls' → Proper ls → Proper ls'
proper_behind ls [] ls' has p = subst Proper has p
proper_behind [] (t ∷ ts) ls' has p = absurd has
proper_behind (l ∷ ls) (t ∷ ts) ls' has p = proper_behind ls ts ls' has.2 p.1

-- ---- one after another

-- nothing more is read
pub done : {A : Type 0} {before : List Token} {toks : A → List Token} {fit : A → Type 0} {ls : List Lexeme} {a : A} → toks a ≡ before
    → fit a → Exact before toks fit [] ls (Ok (a, ls))
done {before = before} e h = record { is = (record { on = λ more f s. s }, [], refl, e ∙ sym (append-nil before), h) }

goes_append : (xs ys : List Symbol) (a b c : List Lexeme) → Goes xs a b → Goes ys b c → Goes (xs ++ ys) a c
goes_append xs ys a b c p q =
    record { on = λ more f s. subst (λ t. Stops t a f) (sym (append_assoc xs ys more)) (p.on (ys ++ more) f (q.on more f s)) }

pub fails_before : (xs ys : List Symbol) (ls : List Lexeme) (f : CReadFault) → Fails xs ls f → Fails (xs ++ ys) ls f
fails_before xs ys ls f x = record { stops = λ more. subst (λ t. Stops t ls f) (sym (append_assoc xs ys more)) (x.stops (ys ++ more)) }

pub join : {A B : Type 0} (before : List Token) (ta : A → List Token) (tb : B → List Token) (fa : A → Type 0) (fb : B → Type 0)
    (s1 s2 : List Symbol) (ls ls' : List Lexeme) (a : A) (o : Outcome B)
    → ExactAt [] ta fa s1 ls (Ok (a, ls')) → ExactAt (before ++ ta a) tb fb s2 ls' o → ExactAt before tb fb (s1 ++ s2) ls o
join before ta tb fa fb s1 s2 ls ls' a (Ok p) one two = (
  goes_append s1 s2 ls ls' p.1 one.0 two.0,
  one.1 ++ two.1,
  Has-append ls one.1 ls' two.1 p.1 one.2 two.2,
  two.3 ∙ ap (λ t. (before ++ t) ++ two.1) one.3 ∙ append_assoc before one.1 two.1,
  two.4,
)
join before ta tb fa fb s1 s2 ls ls' a (Err f) one two =
    record { stops = λ more. subst (λ t. Stops t ls f) (sym (append_assoc s1 s2 more)) (one.0.on (s2 ++ more) f (two.stops more)) }

then_at : {A B : Type 0} (before : List Token) (ta : A → List Token) (tb : B → List Token) (fa : A → Type 0) (fb : B → Type 0)
    (s1 s2 : List Symbol) (ls : List Lexeme) (o : Outcome A) (k : A → Parser B) → Proper ls → ExactAt [] ta fa s1 ls o
    → ((a : A) (ls' : List Lexeme) → Proper ls' → fa a → Exact (before ++ ta a) tb fb s2 ls' (k a ls'))
    → ExactAt before tb fb (s1 ++ s2) ls (and_then o k)
then_at before ta tb fa fb s1 s2 ls (Ok p) k proper one two =
    join before ta tb fa fb s1 s2 ls p.1 p.0 (k p.0 p.1) one (two p.0 p.1 (proper_behind ls one.1 p.1 one.2 proper) one.4).is
then_at before ta tb fa fb s1 s2 ls (Err f) k proper one two = fails_before s1 s2 ls f one

-- a reading of some symbols, and another one behind it
pub then_all : {A B : Type 0} {before : List Token} {ta : A → List Token} {tb : B → List Token} {fa : A → Type 0} {fb : B → Type 0}
    (s1 s2 : List Symbol) {ls : List Lexeme} {o : Outcome A} {k : A → Parser B} → Proper ls → Exact [] ta fa s1 ls o
    → ((a : A) (ls' : List Lexeme) → Proper ls' → fa a → Exact (before ++ ta a) tb fb s2 ls' (k a ls'))
    → Exact before tb fb (s1 ++ s2) ls (and_then o k)
then_all {before = before} {ta = ta} {tb = tb} {fa = fa} {fb = fb} s1 s2 {ls = ls} {o = o} {k = k} proper one two =
    record { is = then_at before ta tb fa fb s1 s2 ls o k proper one.is two }

-- the same where the first one is of one symbol
pub next : {A B : Type 0} {before : List Token} {ta : A → List Token} {tb : B → List Token} {fa : A → Type 0} {fb : B → Type 0}
    {s : Symbol} {more : List Symbol} {ls : List Lexeme} {o : Outcome A} {k : A → Parser B} → Proper ls → Exact [] ta fa (s ∷ []) ls o
    → ((a : A) (ls' : List Lexeme) → Proper ls' → fa a → Exact (before ++ ta a) tb fb more ls' (k a ls'))
    → Exact before tb fb (s ∷ more) ls (and_then o k)
next {before = before} {ta = ta} {tb = tb} {fa = fa} {fb = fb} {s = s} {more = more} {ls = ls} {o = o} {k = k} proper one two =
    record { is = then_at before ta tb fa fb (s ∷ []) more ls o k proper one.is two }

behind_at : {A B : Type 0} (before : List Token) (ta : A → List Token) (tb : B → List Token) (fa : A → Type 0) (fb : B → Type 0)
    (s1 s2 : List Symbol) (ls ls' : List Lexeme) (a : A) (o : Outcome B)
    → ExactAt before ta fa s1 ls (Ok (a, ls')) → ExactAt (ta a) tb fb s2 ls' o → ExactAt before tb fb (s1 ++ s2) ls o
behind_at before ta tb fa fb s1 s2 ls ls' a (Ok p) one two = (
  goes_append s1 s2 ls ls' p.1 one.0 two.0,
  one.1 ++ two.1,
  Has-append ls one.1 ls' two.1 p.1 one.2 two.2,
  two.3 ∙ ap (λ t. t ++ two.1) one.3 ∙ append_assoc before one.1 two.1,
  two.4,
)
behind_at before ta tb fa fb s1 s2 ls ls' a (Err f) one two =
    record { stops = λ more. subst (λ t. Stops t ls f) (sym (append_assoc s1 s2 more)) (one.0.on (s2 ++ more) f (two.stops more)) }

after_at : {A B : Type 0} (before : List Token) (ta : A → List Token) (tb : B → List Token) (fa : A → Type 0) (fb : B → Type 0)
    (s1 s2 : List Symbol) (ls : List Lexeme) (o : Outcome A) (k : A → Parser B) → Proper ls → ExactAt before ta fa s1 ls o
    → ((a : A) (ls' : List Lexeme) → Proper ls' → fa a → Exact (ta a) tb fb s2 ls' (k a ls'))
    → ExactAt before tb fb (s1 ++ s2) ls (and_then o k)
after_at before ta tb fa fb s1 s2 ls (Ok p) k proper one two =
    behind_at before ta tb fa fb s1 s2 ls p.1 p.0 (k p.0 p.1) one (two p.0 p.1 (proper_behind ls one.1 p.1 one.2 proper) one.4).is
after_at before ta tb fa fb s1 s2 ls (Err f) k proper one two = fails_before s1 s2 ls f one

-- a reading of one symbol that has the tokens before, and another one behind it
pub behind : {A B : Type 0} {before : List Token} {ta : A → List Token} {tb : B → List Token} {fa : A → Type 0} {fb : B → Type 0}
    {s : Symbol} {more : List Symbol} {ls : List Lexeme} {o : Outcome A} {k : A → Parser B} → Proper ls → Exact before ta fa (s ∷ []) ls o
    → ((a : A) (ls' : List Lexeme) → Proper ls' → fa a → Exact (ta a) tb fb more ls' (k a ls'))
    → Exact before tb fb (s ∷ more) ls (and_then o k)
behind {before = before} {ta = ta} {tb = tb} {fa = fa} {fb = fb} {s = s} {more = more} {ls = ls} {o = o} {k = k} proper one two =
    record { is = after_at before ta tb fa fb (s ∷ []) more ls o k proper one.is two }

-- ---- parts

open_at : {A : Type 0} (before : List Token) (toks : A → List Token) (fit : A → Type 0) (s : Symbol) (new more : List Symbol)
    (ls : List Lexeme) (o : Outcome A)
    → move s (first ls) ≡ Becomes new → ExactAt before toks fit (new ++ more) ls o → ExactAt before toks fit (s ∷ more) ls o
open_at before toks fit s new more ls (Ok p) e x =
    (record { on = λ rest f st. opened e (subst (λ t. Stops t ls f) (append_assoc new more rest) (x.0.on rest f st)) }, x.1, x.2, x.3, x.4)
open_at before toks fit s new more ls (Err f) e x =
    record { stops = λ rest. opened e (subst (λ t. Stops t ls f) (append_assoc new more rest) (x.stops rest)) }

-- a part and its expansion, with what is expected behind it
pub open_before : {A : Type 0} {before : List Token} {toks : A → List Token} {fit : A → Type 0} {s : Symbol} {new : List Symbol}
    (more : List Symbol) {ls : List Lexeme} {o : Outcome A}
    → move s (first ls) ≡ Becomes new → Exact before toks fit (new ++ more) ls o → Exact before toks fit (s ∷ more) ls o
open_before {before = before} {toks = toks} {fit = fit} {s = s} {new = new} more {ls = ls} {o = o} e x =
    record { is = open_at before toks fit s new more ls o e x.is }

-- the same with nothing behind it
pub open_part : {A : Type 0} {before : List Token} {toks : A → List Token} {fit : A → Type 0} {s : Symbol} {new : List Symbol}
    {ls : List Lexeme} {o : Outcome A}
    → move s (first ls) ≡ Becomes new → Exact before toks fit new ls o → Exact before toks fit (s ∷ []) ls o
open_part {before = before} {toks = toks} {fit = fit} {s = s} {new = new} {ls = ls} {o = o} e x =
    open_before [] e (subst (λ ss. Exact before toks fit ss ls o) (sym (append-nil new)) x)

-- a part that no expansion fits
pub no_part : {A : Type 0} {before : List Token} {toks : A → List Token} {fit : A → Type 0} {s : Symbol} {more : List Symbol}
    {ls : List Lexeme} {f : CReadFault} → move s (first ls) ≡ Faulty f → Exact before toks fit (s ∷ more) ls (Err f)
no_part e = record { is = record { stops = λ rest. here e } }

pub takes_one : (s : Symbol) (ls : List Lexeme) → move s (first ls) ≡ Takes → Goes (s ∷ []) ls (others ls)
takes_one s ls m = record { on = λ more f st. taken m st }

-- ---- values

last_at : {A : Type 0} (before : List Token) (ta tb : A → List Token) (fit : A → Type 0) (ss : List Symbol) (ls : List Lexeme)
    (o : Outcome A) → ((a : A) → tb a ≡ before ++ ta a) → ExactAt [] ta fit ss ls o → ExactAt before tb fit ss ls o
last_at before ta tb fit ss ls (Ok p) e x = (x.0, x.1, x.2, e p.0 ∙ ap (λ t. before ++ t) x.3, x.4)
last_at before ta tb fit ss ls (Err f) e x = x

-- a part whose value is the whole value
pub last : {A : Type 0} {before : List Token} {ta tb : A → List Token} {fit : A → Type 0} {ss : List Symbol} {ls : List Lexeme}
    {o : Outcome A} → ((a : A) → tb a ≡ before ++ ta a) → Exact [] ta fit ss ls o → Exact before tb fit ss ls o
last {before = before} {ta = ta} {tb = tb} {fit = fit} {ss = ss} {ls = ls} {o = o} e x =
    record { is = last_at before ta tb fit ss ls o e x.is }

map_at : {A B : Type 0} (before : List Token) (ta : A → List Token) (tb : B → List Token) (fa : A → Type 0) (fb : B → Type 0) (f : A → B)
    (ss : List Symbol) (ls : List Lexeme) (o : Outcome A) → ((a : A) → tb (f a) ≡ ta a) → ((a : A) → fa a → fb (f a))
    → ExactAt before ta fa ss ls o → ExactAt before tb fb ss ls (and_then o (λ a m. Ok (f a, m)))
map_at before ta tb fa fb f ss ls (Ok p) e go x = (x.0, x.1, x.2, e p.0 ∙ x.3, go p.0 x.4)
map_at before ta tb fa fb f ss ls (Err g) e go x = x

-- a part whose value is made into another one with the same tokens
pub mapped : {A B : Type 0} {before : List Token} {ta : A → List Token} {tb : B → List Token} {fa : A → Type 0} {fb : B → Type 0}
    {ss : List Symbol} {ls : List Lexeme} {o : Outcome A} (f : A → B) → ((a : A) → tb (f a) ≡ ta a) → ((a : A) → fa a → fb (f a))
    → Exact before ta fa ss ls o → Exact before tb fb ss ls (and_then o (λ a m. Ok (f a, m)))
mapped {before = before} {ta = ta} {tb = tb} {fa = fa} {fb = fb} {ss = ss} {ls = ls} {o = o} f e go x =
    record { is = map_at before ta tb fa fb f ss ls o e go x.is }
