-- The table passes tokens without a fault: its steps, numbers and types.
use Rattle.c_tree.proofs.Common.{◌≡◌, ℕ, List, [], ◌∷◌, ◌++◌, map, refl, subst, append_assoc, AllByRecursion, Becomes, Move, Of, Stops}
use Rattle.c_tree.proofs.Common.{Symbol, Takes, first, here, move, opened, taken, Lexeme, lexeme, Fixed, Token, Wrong, each, separated}
use Rattle.c_tree.proofs.Common.{type_tokens, CReadFault, Tok, CType}
use Rattle.c_tree.specs.declared.token.Tok.TheVariants as tok
use Rattle.c_tree.specs.declared.token.Part.TheVariants as part
use Rattle.c_tree.specs.declared.tree.CType.TheVariants as type

-- The table comes to no fault at these tokens.
pub record Passes (ss : List Symbol) (ts : List Token) : Type 0 where
  pub no_fault : (ls : List Lexeme) (f : CReadFault) → map (λ l. l.token) ls ≡ ts → Stops ss ls f → ⊥

-- what a part becomes
abbrev pub new_of : Move → List Symbol
new_of (Becomes new) = new
new_of _ = []

no_stop_taken : (s : Symbol) (ss : List Symbol) (l : Lexeme) (ls : List Lexeme) (f : CReadFault) → move s l ≡ Takes → (Stops ss ls f → ⊥)
    → Stops (s ∷ ss) (l ∷ ls) f → ⊥
no_stop_taken s ss l ls f is next (here e) = cc
no_stop_taken s ss l ls f is next (taken e rest) = next rest
no_stop_taken s ss l ls f is next (opened e rest) = cc

no_stop_opened : (s : Symbol) (ss new : List Symbol) (l : Lexeme) (ls : List Lexeme) (f : CReadFault) → move s l ≡ Becomes new
    → (Stops (new ++ ss) (l ∷ ls) f → ⊥) → Stops (s ∷ ss) (l ∷ ls) f → ⊥
no_stop_opened s ss new l ls f is next (here e) = cc
no_stop_opened s ss new l ls f is next (taken e rest) = cc
no_stop_opened s ss new l ls f is next (opened {new = other} e rest) =
    let h : other ≡ new = cc in next (subst (λ n. Stops (n ++ ss) (l ∷ ls) f) h rest)

takes : (s : Symbol) (ss : List Symbol) (t : Token) (ts : List Token) → ((p : ℕ) → move s (lexeme p t) ≡ Takes) → Passes ss ts
    → (ls : List Lexeme) (f : CReadFault) → map (λ l. l.token) ls ≡ t ∷ ts → Stops (s ∷ ss) ls f → ⊥
takes s ss t ts is next [] f e stops = absurd cc
takes s ss t ts is next (l ∷ ls) f e stops =
    let h : t ≡ l.token = cc in
    no_stop_taken s ss l ls f (subst (λ u. move s (lexeme l.place u) ≡ Takes) h (is l.place)) (next.no_fault ls f cc) stops

pub take : {s : Symbol} {ss : List Symbol} {t : Token} {ts : List Token} → ((p : ℕ) → move s (lexeme p t) ≡ Takes) → Passes ss ts
    → Passes (s ∷ ss) (t ∷ ts)
take {s = s} {ss = ss} {t = t} {ts = ts} is next = record { no_fault = takes s ss t ts is next }

opens : (s : Symbol) (ss new : List Symbol) (t : Token) (ts : List Token) → ((p : ℕ) → move s (lexeme p t) ≡ Becomes new)
    → Passes (new ++ ss) (t ∷ ts)
    → (ls : List Lexeme) (f : CReadFault) → map (λ l. l.token) ls ≡ t ∷ ts → Stops (s ∷ ss) ls f → ⊥
opens s ss new t ts is next [] f e stops = absurd cc
opens s ss new t ts is next (l ∷ ls) f e stops =
    let h : t ≡ l.token = cc in
    no_stop_opened s ss new l ls f (subst (λ u. move s (lexeme l.place u) ≡ Becomes new) h (is l.place)) (next.no_fault (l ∷ ls) f e) stops

pub become : {s : Symbol} {ss : List Symbol} {t : Token} {ts : List Token}
    → ((p : ℕ) → move s (lexeme p t) ≡ Becomes (new_of (move s (lexeme 0 t)))) → Passes (new_of (move s (lexeme 0 t)) ++ ss) (t ∷ ts)
    → Passes (s ∷ ss) (t ∷ ts)
become {s = s} {ss = ss} {t = t} {ts = ts} is next = record { no_fault = opens s ss (new_of (move s (lexeme 0 t))) t ts is next }

pub become_none : {s : Symbol} {ss : List Symbol} {t : Token} {ts : List Token} → ((p : ℕ) → move s (lexeme p t) ≡ Becomes [])
    → Passes ss (t ∷ ts) → Passes (s ∷ ss) (t ∷ ts)
become_none {s = s} {ss = ss} {t = t} {ts = ts} is next = record { no_fault = opens s ss [] t ts is next }

no_symbols : (ls : List Lexeme) (f : CReadFault) → Stops [] ls f → ⊥
no_symbols ls f stops = elim stops [ ]

pub nothing : (ts : List Token) → Passes [] ts
nothing ts = record { no_fault = λ ls f e stops. no_symbols ls f stops }

-- what may follow a type: no star
pub record BehindType (t : Token) : Type 0 where
  pub no_star : (d p : ℕ) → move (Of part.InStar d) (lexeme p t) ≡ Becomes []

no_star_comes : (d : ℕ) (ss : List Symbol) (t : Token) (ts : List Token) → BehindType t → Passes ss (t ∷ ts)
    → Passes (Of part.InStar d ∷ ss) (t ∷ ts)
no_star_comes d ss t ts is next = record { no_fault = opens (Of part.InStar d) ss [] t ts (is.no_star d) next }

pub type_passes : (d : ℕ) (x : CType) (ss : List Symbol) (t : Token) (ts : List Token) → BehindType t → Passes ss (t ∷ ts)
    → Passes (Of part.InType d ∷ ss) (type_tokens x ++ (t ∷ ts))
type_passes d type.Void ss t ts is next = become (λ p. refl) (take (λ p. refl) next)
type_passes d type.FnPtr ss t ts is next = become (λ p. refl) (take (λ p. refl) next)
type_passes d type.PtrU32 ss t ts is next = become (λ p. refl) (take (λ p. refl) (become (λ p. refl) (take (λ p. refl) next)))
type_passes d type.PtrU64 ss t ts is next = become (λ p. refl) (take (λ p. refl) (become (λ p. refl) (take (λ p. refl) next)))
type_passes d type.PtrMem ss t ts is next = become (λ p. refl) (take (λ p. refl) (become (λ p. refl) (take (λ p. refl) next)))
type_passes d type.PtrTab ss t ts is next = become (λ p. refl) (take (λ p. refl) (become (λ p. refl) (take (λ p. refl) next)))
type_passes d _ ss t ts is next = become (λ p. refl) (take (λ p. refl) (no_star_comes d ss t ts is next))

no_stop_any : (s : Symbol) (ss new : List Symbol) (ls : List Lexeme) (f : CReadFault) → move s (first ls) ≡ Becomes new
    → (Stops (new ++ ss) ls f → ⊥) → Stops (s ∷ ss) ls f → ⊥
no_stop_any s ss new ls f is next (here e) = cc
no_stop_any s ss new ls f is next (taken e rest) = cc
no_stop_any s ss new ls f is next (opened {new = other} e rest) =
    let h : other ≡ new = cc in next (subst (λ n. Stops (n ++ ss) ls f) h rest)

-- a part that becomes the same at every token
pub become_any : {s : Symbol} {ss : List Symbol} {ts : List Token} → ((l : Lexeme) → move s l ≡ Becomes (new_of (move s (lexeme 0 Wrong))))
    → Passes (new_of (move s (lexeme 0 Wrong)) ++ ss) ts → Passes (s ∷ ss) ts
become_any {s = s} {ss = ss} {ts = ts} is next =
    record {
      no_fault = λ ls f e stops. no_stop_any s ss (new_of (move s (lexeme 0 Wrong))) ls f (is (first ls))
          (next.no_fault ls f e) stops;
    }

-- pieces with a comma between
pub pieces_pass : {A : Type 0} (f : A → List Token) (P : A → Type 0) (May : Token → Type 0) (head : List Symbol) (tail : Symbol) (c : Tok)
    → ((x : A) (ss : List Symbol) (t : Token) (ts : List Token) → P x → May t → Passes ss (t ∷ ts) → Passes (head ++ ss) (f x ++ (t ∷ ts)))
    → ((ss : List Symbol) (ts : List Token) → Passes (head ++ (tail ∷ ss)) ts → Passes (tail ∷ ss) (Fixed tok.Comma ∷ ts))
    → ((ss : List Symbol) (ts : List Token) → Passes ss (Fixed c ∷ ts) → Passes (tail ∷ ss) (Fixed c ∷ ts))
    → May (Fixed tok.Comma) → May (Fixed c) → (x : A) (xs : List A) (ss : List Symbol) (ts : List Token) → P x → AllByRecursion P xs
    → Passes ss (Fixed c ∷ ts)
    → Passes (head ++ (tail ∷ ss)) (separated f (x ∷ xs) ++ (Fixed c ∷ ts))
pieces_pass f P May head tail c one comma end may_comma may_end x [] ss ts p all next =
    subst (Passes (head ++ (tail ∷ ss)))
    (let h = append_assoc (f x) [] (Fixed c ∷ ts) in let g : f x ++ (Fixed c ∷ ts) ≡ (f x ++ []) ++ (Fixed c ∷ ts) = cc in g)
    (one x (tail ∷ ss) (Fixed c) ts p may_end (end ss ts next))
pieces_pass {A = A} f P May head tail c one comma end may_comma may_end x (y ∷ ys) ss ts p all next =
    let more : List Token = each (λ z. Fixed tok.Comma ∷ f z) (y ∷ ys) in
    let behind : List Token = separated f (y ∷ ys) ++ (Fixed c ∷ ts) in
    subst (Passes (head ++ (tail ∷ ss)))
    (let h = append_assoc (f x) more (Fixed c ∷ ts) in
    let g : f x ++ (Fixed tok.Comma ∷ behind) ≡ (f x ++ more) ++ (Fixed c ∷ ts) = cc in g)
    (one x (tail ∷ ss) (Fixed tok.Comma) behind p may_comma
    (comma ss behind (pieces_pass f P May head tail c one comma end may_comma may_end y ys ss ts all.0 all.1 next)))
