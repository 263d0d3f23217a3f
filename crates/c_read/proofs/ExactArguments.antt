-- Arguments, calls and right sides.
use Rattle.c_read.proofs.Common.{◌≡◌, ℕ, zero, suc, ◌<◌, false, List, [], ◌∷◌, ◌++◌, length, refl, ap, ◌∙◌, append_assoc, AllByRecursion}
use Rattle.c_read.proofs.Common.{Becomes, Of, One, Symbol, FitsArg, FitsCallee, as_agroup, becoming, first, move, Lexeme, Fixed, Named}
use Rattle.c_read.proofs.Common.{Token, kind_of, arg_tokens, callee_tokens, separated, type_tokens, Kind, Part, and_then, is_comma}
use Rattle.c_tree.specs.declared.token.Tok.TheVariants as tok
use Rattle.c_tree.specs.declared.token.Part.TheVariants as part
use Rattle.c_tree.specs.declared.token.Kind.TheVariants as kind
use Rattle.c_tree.specs.Tree as tree
use Rattle.c_lex.specs.Reading.{next_kind, unexpected}
use Rattle.c_read.specs.Expressions.{expr}
use Rattle.c_read.specs.Arguments.{agroup, agroup_by, argument_by, argument_in, argument, next_argument, more_arguments, arguments}
use Rattle.c_read.specs.Arguments.{arguments_by, Called, pointer_type, through, Right, Gives, Calls, rname, rname_by, rstar, rstar_by}
use Rattle.c_read.specs.Arguments.{rgroup, rgroup_by, right_in, right_by}
use Rattle.c_read.proofs.Exact.{Exact, Proper, done, next, then_all, mapped, open_part, no_part}
use Rattle.c_read.proofs.ExactTokens.{text, named, number_exact}
use Rattle.c_read.proofs.ExactLists.{Tail, tail}
use Rattle.c_read.proofs.ExactExpressions.{ctype_exact, types_exact, index_exact, group_exact, expr_exact}

-- ---- arguments

-- the part has at this token the expansion of an agroup
abbrev HasAgroup : Part → ℕ → Lexeme → Type 0
HasAgroup p d l = move (Of p d) l ≡ becoming p l.place (as_agroup d (kind_of l.token))

agroup_exact : (p : Part) (d : ℕ) (ls : List Lexeme) → HasAgroup p d (first ls) → Proper ls
    → Exact (Fixed tok.LeftParen ∷ []) arg_tokens (FitsArg (suc d)) (Of p d ∷ []) ls (agroup p d ls)
unfolding agroup next_kind
agroup_exact p d ls has proper = by (kind_of (first ls).token) refl
  where
    at : (k : Kind) → kind_of (first ls).token ≡ k → move (Of p d) (first ls) ≡ becoming p (first ls).place (as_agroup d k)
    at k e = has ∙ ap (λ j. becoming p (first ls).place (as_agroup d j)) e

    by : (k : Kind) → kind_of (first ls).token ≡ k
        → Exact (Fixed tok.LeftParen ∷ []) arg_tokens (FitsArg (suc d)) (Of p d ∷ []) ls (agroup_by p d k ls)
    by (kind.Fixed tok.WordW2cFn) e = open_part (at _ e)
        (text refl proper (λ l1 p1. text refl p1 (λ l2 p2. named p2 (λ n l3 p3. done refl tt))))
    by _ e = mapped tree.Value (λ x. refl) (λ x h. h) (group_exact p d (expr d) ls (at _ e ∙ rw e refl) (expr_exact d) proper)

argument_level : (d : ℕ) (ls : List Lexeme) → Proper ls
    → Exact [] arg_tokens (FitsArg (suc d)) (Of part.InArgument (suc d) ∷ []) ls (argument_in d ls)
unfolding argument_in next_kind unexpected
argument_level d ls proper = by (kind_of (first ls).token) refl
  where
    by : (k : Kind) → kind_of (first ls).token ≡ k
        → Exact [] arg_tokens (FitsArg (suc d)) (Of part.InArgument (suc d) ∷ []) ls (argument_by d k ls)
    by (kind.Fixed tok.Amp) e = open_part (rw e refl) (text refl proper (λ l1 p1. named p1 (λ n l2 p2. done refl tt)))
    by (kind.Fixed tok.LeftParen) e = open_part (rw e refl) (text refl proper (λ l1 p1. agroup_exact part.InAgroup d l1 refl p1))
    by kind.Name e =
        open_part (rw e refl)
        (named proper (λ n l1 p1. mapped tree.Value (λ x. refl) (λ x h. h) (index_exact d (expr d) n l1 (expr_exact d) p1)))
    by (kind.Number s) e = open_part (rw e refl) (next proper (number_exact d ls proper) (λ v l1 p1 h. done refl h))
    by _ e = no_part (rw e refl)

no_argument_exact : (ls : List Lexeme) → Exact [] arg_tokens (FitsArg zero) (Of part.InArgument zero ∷ []) ls (argument zero ls)
unfolding argument next_kind unexpected
no_argument_exact ls = by (kind_of (first ls).token) refl
  where
    by : (k : Kind) → kind_of (first ls).token ≡ k
        → Exact [] arg_tokens (FitsArg zero) (Of part.InArgument zero ∷ []) ls (argument zero ls)
    by (kind.Fixed tok.LeftParen) e = no_part (rw e refl)
    by _ e = no_part (rw e refl)

pub argument_exact : (d : ℕ) (ls : List Lexeme) → Proper ls
    → Exact [] arg_tokens (FitsArg d) (Of part.InArgument d ∷ []) ls (argument d ls)
unfolding argument
argument_exact zero ls proper = no_argument_exact ls
argument_exact (suc d) ls proper = argument_level d ls proper

arguments_tail : (d : ℕ) → Tail (Of part.InAtail d) (Of part.InArgument d ∷ [])
arguments_tail d = record { more = λ l e. rw e refl; ends = by }
  where
    by : (l : Lexeme) (k : Kind) → kind_of l.token ≡ k → is_comma k ≡ false → move (Of part.InAtail d) l ≡ Becomes []
    by l (kind.Fixed tok.Comma) e off = absurd cc
    by l _ e off = rw e refl

some_arguments : (d : ℕ) (ls : List Lexeme) → Proper ls
    → Exact [] (separated arg_tokens) (AllByRecursion (FitsArg d)) (Of part.InArgument d ∷ Of part.InAtail d ∷ []) ls
    (and_then (argument d ls) (λ x m. more_arguments d x m))
unfolding more_arguments next_argument
some_arguments d ls proper =
    next proper (argument_exact d ls proper) (λ x l1 p1 h. tail (arguments_tail d) (argument_exact d) p1 h (λ xs some hs. hs))

pub arguments_exact : (d : ℕ) (ls : List Lexeme) → Proper ls
    → Exact [] (separated arg_tokens) (AllByRecursion (FitsArg d)) (Of part.InArguments d ∷ []) ls (arguments d ls)
unfolding arguments next_kind
arguments_exact d ls proper = by (kind_of (first ls).token) refl
  where
    by : (k : Kind) → kind_of (first ls).token ≡ k
        → Exact [] (separated arg_tokens) (AllByRecursion (FitsArg d)) (Of part.InArguments d ∷ []) ls (arguments_by d k ls)
    by (kind.Fixed tok.RightParen) e = open_part (rw e refl) (done refl tt)
    by _ e = open_part (rw e refl) (some_arguments d ls proper)

-- ---- calls

-- ( type ( * ) ( types ) )
abbrev pub pointer_tokens : tree.FuncType → List Token
pointer_tokens t =
    Fixed tok.LeftParen
    ∷ (type_tokens t.result ++ (Fixed tok.LeftParen ∷ Fixed tok.Star ∷ Fixed tok.RightParen ∷ Fixed tok.LeftParen
    ∷ (separated type_tokens t.params ++ Fixed tok.RightParen ∷ Fixed tok.RightParen ∷ [])))

abbrev pub called_tokens : Called → List Token
called_tokens c = callee_tokens c.callee ++ (Fixed tok.LeftParen ∷ (separated arg_tokens c.args ++ Fixed tok.RightParen ∷ []))

abbrev pointer_symbols : ℕ → List Symbol
pointer_symbols d =
    One tok.LeftParen ∷ Of part.InType d ∷ One tok.LeftParen ∷ One tok.Star ∷ One tok.RightParen ∷ One tok.LeftParen ∷ Of part.InTypes d
    ∷ One tok.RightParen ∷ One tok.RightParen ∷ []

abbrev argument_symbols : ℕ → List Symbol
argument_symbols d = One tok.Name ∷ One tok.RightParen ∷ One tok.LeftParen ∷ Of part.InArguments d ∷ One tok.RightParen ∷ []

pointer_exact : (d : ℕ) (ls : List Lexeme) → Proper ls
    → Exact [] pointer_tokens (λ (t : tree.FuncType). 0 < length t.params) (pointer_symbols d) ls (pointer_type ls)
unfolding pointer_type
pointer_exact d ls proper =
    text refl proper (λ l1 p1. next p1 (ctype_exact d l1 p1)
    (λ t l2 p2 ht. text refl p2 (λ l3 p3. text refl p3 (λ l4 p4. text refl p4 (λ l5 p5. text refl p5 (λ l6 p6.
    next p6 (types_exact d l6 p6) (λ ts l7 p7 h. text refl p7 (λ l8 p8. text refl p8 (λ l9 p9. done (simp append_assoc) h)))))))))

abbrev pub FitsCalled : ℕ → Called → Type 0
FitsCalled d c = FitsCallee c.callee × AllByRecursion (FitsArg d) c.args

-- behind a parenthesis and a star
pub through_exact : (d : ℕ) (ls : List Lexeme) → Proper ls
    → Exact (Fixed tok.LeftParen ∷ Fixed tok.Star ∷ []) called_tokens (FitsCalled d) (Of part.InThrough d ∷ []) ls (through d ls)
unfolding through
through_exact d ls proper =
    open_part refl (then_all (pointer_symbols d) (argument_symbols d) proper (pointer_exact d ls proper) (λ t l1 p1 ht.
    named p1
    (λ n l2 p2. text refl p2 (λ l3 p3. text refl p3
    (λ l4 p4. next p4 (arguments_exact d l4 p4) (λ xs l5 p5 h. text refl p5 (λ l6 p6. done (simp append_assoc) (ht, h))))))))

-- ---- right sides

abbrev pub right_tokens : Right → List Token
right_tokens (Gives a) = arg_tokens a
right_tokens (Calls c) = called_tokens c

abbrev pub FitsRight : ℕ → Right → Type 0
FitsRight d (Gives a) = FitsArg (suc d) a
FitsRight d (Calls c) = FitsCalled d c

rname_exact : (d : ℕ) (f : List ℕ) (ls : List Lexeme) → Proper ls
    → Exact (Named f ∷ []) right_tokens (FitsRight d) (Of part.InRname d ∷ []) ls (rname d f ls)
unfolding rname next_kind
rname_exact d f ls proper = by (kind_of (first ls).token) refl
  where
    by : (k : Kind) → kind_of (first ls).token ≡ k
        → Exact (Named f ∷ []) right_tokens (FitsRight d) (Of part.InRname d ∷ []) ls (rname_by d f k ls)
    by (kind.Fixed tok.LeftBracket) e =
        open_part (rw e refl) (text refl proper (λ l1 p1. next p1 (expr_exact d l1 p1) (λ i l2 p2 h. text refl p2 (λ l3 p3. done refl h))))
    by (kind.Fixed tok.LeftParen) e =
        open_part (rw e refl)
        (text refl proper (λ l1 p1. next p1 (arguments_exact d l1 p1) (λ xs l2 p2 h. text refl p2 (λ l3 p3. done refl (tt, h)))))
    by _ e = open_part (rw e refl) (done refl tt)

rstar_exact : (d : ℕ) (ls : List Lexeme) → Proper ls
    → Exact (Fixed tok.LeftParen ∷ Fixed tok.Star ∷ []) right_tokens (FitsRight d) (Of part.InRstar d ∷ []) ls (rstar d ls)
unfolding rstar next_kind unexpected
rstar_exact d ls proper = by (kind_of (first ls).token) refl
  where
    by : (k : Kind) → kind_of (first ls).token ≡ k
        → Exact (Fixed tok.LeftParen ∷ Fixed tok.Star ∷ []) right_tokens (FitsRight d) (Of part.InRstar d ∷ []) ls (rstar_by d k ls)
    by kind.Name e = open_part (rw e refl) (named proper (λ n l1 p1. text refl p1 (λ l2 p2. done refl tt)))
    by (kind.Fixed tok.LeftParen) e = open_part (rw e refl) (mapped Calls (λ x. refl) (λ x h. h) (through_exact d ls proper))
    by _ e = no_part (rw e refl)

rgroup_exact : (d : ℕ) (ls : List Lexeme) → Proper ls
    → Exact (Fixed tok.LeftParen ∷ []) right_tokens (FitsRight d) (Of part.InRgroup d ∷ []) ls (rgroup d ls)
unfolding rgroup next_kind
rgroup_exact d ls proper = by (kind_of (first ls).token) refl
  where
    by : (k : Kind) → kind_of (first ls).token ≡ k
        → Exact (Fixed tok.LeftParen ∷ []) right_tokens (FitsRight d) (Of part.InRgroup d ∷ []) ls (rgroup_by d k ls)
    by (kind.Fixed tok.Star) e = open_part (rw e refl) (text refl proper (λ l1 p1. rstar_exact d l1 p1))
    by _ e = mapped Gives (λ x. refl) (λ x h. h) (agroup_exact part.InRgroup d ls (rw e refl) proper)

pub right_exact : (d : ℕ) (ls : List Lexeme) → Proper ls
    → Exact [] right_tokens (FitsRight d) (Of part.InRight (suc d) ∷ []) ls (right_in d ls)
unfolding right_in next_kind unexpected
right_exact d ls proper = by (kind_of (first ls).token) refl
  where
    by : (k : Kind) → kind_of (first ls).token ≡ k
        → Exact [] right_tokens (FitsRight d) (Of part.InRight (suc d) ∷ []) ls (right_by d k ls)
    by kind.Name e = open_part (rw e refl) (named proper (λ f l1 p1. rname_exact d f l1 p1))
    by (kind.Number s) e = open_part (rw e refl) (next proper (number_exact d ls proper) (λ v l1 p1 h. done refl h))
    by (kind.Fixed tok.Amp) e = open_part (rw e refl) (text refl proper (λ l1 p1. named p1 (λ m l2 p2. done refl tt)))
    by (kind.Fixed tok.LeftParen) e = open_part (rw e refl) (text refl proper (λ l1 p1. rgroup_exact d l1 p1))
    by _ e = no_part (rw e refl)
