-- A text has at most one first faulty token, and its fault is one of a token.
use Rattle.c_read.proofs.Common.{◌≡◌, ℕ, zero, suc, Bool, true, false, cond, List, ◌∷◌, ◌++◌, Some, None, Option, sym, ◌∙◌, subst, Becomes}
use Rattle.c_read.proofs.Common.{Faulty, Move, Of, One, OneByte, OneNumber, Stops, Symbol, Takes, becoming, counted, counts, expansion}
use Rattle.c_read.proofs.Common.{first, fits, here, is_byte, is_large, is_number, is_plain, move, opened, others, taken, taking, too_deep}
use Rattle.c_read.proofs.Common.{Lexeme, kind_of, CReadFault, Memory, UnitTooLong, Part}

taken_back : (s : Symbol) (ss : List Symbol) (ls : List Lexeme) (f : CReadFault) → move s (first ls) ≡ Takes → Stops (s ∷ ss) ls f
    → Stops ss (others ls) f
taken_back s ss ls f e (here is) = absurd cc
taken_back s ss ls f e (taken is rest) = rest
taken_back s ss ls f e (opened is rest) = absurd cc

becomes_same : (xs ys : List Symbol) → Becomes xs ≡ Becomes ys → xs ≡ ys
becomes_same xs ys e = cc

opened_back : (s : Symbol) (ss new : List Symbol) (ls : List Lexeme) (f : CReadFault) → move s (first ls) ≡ Becomes new
    → Stops (s ∷ ss) ls f → Stops (new ++ ss) ls f
opened_back s ss new ls f e (here is) = absurd cc
opened_back s ss new ls f e (taken is rest) = absurd cc
opened_back s ss new ls f e (opened {new = other} is rest) = subst (λ t. Stops (t ++ ss) ls f) (becomes_same other new (sym is ∙ e)) rest

faulty_same : (f g : CReadFault) → Faulty f ≡ Faulty g → f ≡ g
faulty_same f g e = cc

here_back : (s : Symbol) (ss : List Symbol) (ls : List Lexeme) (f g : CReadFault) → move s (first ls) ≡ Faulty f → Stops (s ∷ ss) ls g
    → f ≡ g
here_back s ss ls f g e (here is) = faulty_same f g (sym e ∙ is)
here_back s ss ls f g e (taken is rest) = absurd cc
here_back s ss ls f g e (opened is rest) = absurd cc

pub stops_once : {ss : List Symbol} {ls : List Lexeme} {f g : CReadFault} → Stops ss ls f → Stops ss ls g → f ≡ g
stops_once {g = g} (here {s = s} {ss = ss} {ls = ls} {f = f} is) other = here_back s ss ls f g is other
stops_once {g = g} (taken {s = s} {ss = ss} {ls = ls} is rest) other = stops_once rest (taken_back s ss ls g is other)
stops_once {g = g} (opened {s = s} {ss = ss} {new = new} {ls = ls} is rest) other = stops_once rest (opened_back s ss new ls g is other)

-- ---- faults of tokens

abbrev pub IsOfToken : CReadFault → Type 0
IsOfToken UnitTooLong = ⊥
IsOfToken Memory = ⊥
IsOfToken _ = Unit {0}

abbrev MoveFault : Move → Type 0
MoveFault (Faulty f) = IsOfToken f
MoveFault _ = Unit {0}

choose : (b : Bool) (x y : Move) → MoveFault x → MoveFault y → MoveFault (cond b x y)
choose true x y p q = p
choose false x y p q = q

becoming_fault : (p : Part) (place : ℕ) (o : Option (List Symbol)) → MoveFault (becoming p place o)
becoming_fault p place None = tt
becoming_fault p place (Some new) = tt

too_deep_fault : (p : Part) (place : ℕ) (o : Option (List Symbol)) → MoveFault (too_deep p place o)
too_deep_fault p place None = tt
too_deep_fault p place (Some new) = tt

counted_fault : (p : Part) (d : ℕ) (l : Lexeme) → MoveFault (counted p d l)
counted_fault p zero l = too_deep_fault p l.place (expansion p zero (kind_of l.token))
counted_fault p (suc d) l = becoming_fault p l.place (expansion p d (kind_of l.token))

taking_fault : (l : Lexeme) → MoveFault (taking l)
taking_fault l = choose (is_large l.token) _ Takes tt tt

move_fault : (s : Symbol) (l : Lexeme) → MoveFault (move s l)
move_fault (One t) l = choose (fits t (kind_of l.token)) (taking l) _ (taking_fault l) tt
move_fault OneByte l = choose (is_plain l.token) _ _ (choose (is_byte l.token) Takes _ tt tt) tt
move_fault OneNumber l = choose (is_number l.token) (taking l) _ (taking_fault l) tt
move_fault (Of p d) l =
    choose (counts p) (counted p d l) _ (counted_fault p d l) (becoming_fault p l.place (expansion p d (kind_of l.token)))

pub stops_at_token : {ss : List Symbol} {ls : List Lexeme} {f : CReadFault} → Stops ss ls f → IsOfToken f
stops_at_token (here {s = s} {ls = ls} is) = subst MoveFault is (move_fault s (first ls))
stops_at_token (taken is rest) = stops_at_token rest
stops_at_token (opened is rest) = stops_at_token rest
