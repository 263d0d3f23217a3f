-- What passed through files in calls one after another.
use Rattle.w2c_io.proofs.Common.{◌≡◌, ℕ, List, [], ◌∷◌, ◌++◌, IfErr, OnOk, Ok, Err, Result, sym, refl, ap, ◌∙◌, subst, inl, inr}
use Rattle.w2c_io.proofs.Common.{append_assoc, append-nil, Name, Begin, Event, Finish, Put, WriteAnswer}
use Rattle.w2c_io.specs.declared.answers.WriteAnswer.TheVariants as writing
use Rattle.w2c_io.specs.Passed.{Passes, puts, joined, PutsText, PutsPart, FailsOn, WritesFile, BreaksOff, Finishes}

-- ---- one part behind the other

-- no call was made
pub none_passed : (old : List Event) (P : List Event → Type 0) → P [] → Passes old old P
none_passed old P holds = ([], sym (append-nil old), holds)

-- the calls of one part, then those of the next
pub both_passed : (old middle new : List Event) (P Q R : List Event → Type 0)
    → ((first last : List Event) → P first → Q last → R (first ++ last))
    → Passes old middle P → Passes middle new Q → Passes old new R
both_passed old middle new P Q R join (first, is, p) (last, then, q) =
    (first ++ last, then ∙ ap (λ (l : List Event). l ++ last) is ∙ append_assoc old first last, join first last p q)

pub passed_so : (old new : List Event) (P Q : List Event → Type 0) → ((events : List Event) → P events → Q events)
    → Passes old new P → Passes old new Q
passed_so old new P Q so (events, is, p) = (events, is, so events p)

-- ---- texts in pieces

pub puts_both : (front back : List (List ℕ)) → puts (front ++ back) ≡ puts front ++ puts back
puts_both [] back = refl
puts_both (piece ∷ front) back = ap (λ (l : List Event). Put piece (Ok tt) ∷ l) (puts_both front back)

pub joined_both : (front back : List (List ℕ)) → joined (front ++ back) ≡ joined front ++ joined back
joined_both [] back = refl
joined_both (piece ∷ front) back =
    ap (λ (l : List ℕ). piece ++ l) (joined_both front back) ∙ sym (append_assoc piece (joined front) (joined back))

pub nothing_put : PutsText [] []
nothing_put = ([], refl, refl)

pub one_put : (piece : List ℕ) → PutsText piece (Put piece (Ok tt) ∷ [])
one_put piece = (piece ∷ [], append-nil piece, refl)

-- one text, then another
pub both_put : (front back : List ℕ) (first last : List Event) → PutsText front first → PutsText back last
    → PutsText (front ++ back) (first ++ last)
both_put front back first last (pieces, is, calls) (more, then, after) = (
  pieces ++ more,
  joined_both pieces more ∙ (λ i. is i ++ then i),
  (λ i. calls i ++ after i) ∙ sym (puts_both pieces more),
)

pub put_same : (text other : List ℕ) (events : List Event) → text ≡ other → PutsText text events → PutsText other events
put_same text other events same put = subst (λ (l : List ℕ). PutsText l events) same put

-- a text was put, and memory was wanting for what follows it
pub memory_behind : (whole front rest : List ℕ) (events : List Event) → whole ≡ front ++ rest → PutsText front events
    → PutsPart whole writing.Memory events
memory_behind whole front rest events split (pieces, is, calls) = record {
  pieces = pieces;
  rest = rest;
  last = [];
  split = split ∙ ap (λ (l : List ℕ). l ++ rest) (sym is);
  calls = calls ∙ sym (append-nil (puts pieces));
  fails = refl;
}

-- a piece was put in vain
pub put_in_vain : (whole piece rest : List ℕ) (why : WriteAnswer) → whole ≡ piece ++ rest → PutsPart whole why (Put piece (Err why) ∷ [])
put_in_vain whole piece rest why split = record {
  pieces = [];
  rest = whole;
  last = Put piece (Err why) ∷ [];
  split = refl;
  calls = refl;
  fails = (refl, (rest, split));
}

-- a text was put, and of the one behind it a part
pub part_behind : (whole front back rest : List ℕ) (why : WriteAnswer) (first last : List Event) → whole ≡ front ++ (back ++ rest)
    → PutsText front first → PutsPart back why last → PutsPart whole why (first ++ last)
part_behind whole front back rest why first last split (pieces, is, calls) part = record {
  pieces = pieces ++ part.pieces;
  rest = part.rest ++ rest;
  last = part.last;
  split = split ∙ (λ i. sym is i ++ (part.split i ++ rest))
      ∙ ap (λ (l : List ℕ). joined pieces ++ l) (append_assoc (joined part.pieces) part.rest rest)
      ∙ sym (append_assoc (joined pieces) (joined part.pieces) (part.rest ++ rest))
      ∙ ap (λ (l : List ℕ). l ++ (part.rest ++ rest)) (sym (joined_both pieces part.pieces));
  calls = (λ i. calls i ++ part.calls i) ∙ sym (append_assoc (puts pieces) (puts part.pieces) part.last)
      ∙ ap (λ (l : List Event). l ++ part.last) (sym (puts_both pieces part.pieces));
  fails = fails_longer part.rest rest why part.last part.fails;
}
  where
    fails_longer : (rest more : List ℕ) (why : WriteAnswer) (last : List Event) → FailsOn rest why last → FailsOn (rest ++ more) why last
    fails_longer rest more why [] is = is
    fails_longer rest more why (Put piece answer ∷ []) (is, (behind, split)) =
        (is, (behind ++ more, ap (λ (l : List ℕ). l ++ more) split ∙ append_assoc piece behind more))
    fails_longer rest more why _ h = absurd h

-- ---- texts in pieces, in calls one after another

-- memory was wanting before a piece was put
pub memory_wanted : (old : List Event) (text : List ℕ) → Passes old old (PutsPart text writing.Memory)
memory_wanted old text = none_passed old (PutsPart text writing.Memory) (memory_behind text [] text [] refl nothing_put)

-- a text was put in one piece, as it is answered
pub whole_passed : (old new : List Event) (piece text : List ℕ) (result : Result (Unit {0}) WriteAnswer) → piece ≡ text
    → new ≡ old ++ Put piece result ∷ [] → OnOk result (Passes old new (PutsText text))
whole_passed old new piece text (Ok tt) same is =
    (Put piece (Ok tt) ∷ [], is, put_same piece text (Put piece (Ok tt) ∷ []) same (one_put piece))
whole_passed old new piece text (Err why) same is = tt

pub vain_passed : (old new : List Event) (piece text : List ℕ) (result : Result (Unit {0}) WriteAnswer) → piece ≡ text
    → new ≡ old ++ Put piece result ∷ [] → IfErr result (λ why. Passes old new (PutsPart text why))
vain_passed old new piece text (Ok x) same is = tt
vain_passed old new piece text (Err why) same is =
    (Put piece (Err why) ∷ [], is, put_in_vain text piece [] why (sym same ∙ sym (append-nil piece)))

-- one text, then another
pub more_passed : (old middle new : List Event) (front back : List ℕ) → Passes old middle (PutsText front)
    → Passes middle new (PutsText back) → Passes old new (PutsText (front ++ back))
more_passed old middle new front back =
    both_passed old middle new (PutsText front) (PutsText back) (PutsText (front ++ back)) (both_put front back)

-- one text, then a part of another
pub part_passed : (old middle new : List Event) (whole front back rest : List ℕ) (why : WriteAnswer) → whole ≡ front ++ (back ++ rest)
    → Passes old middle (PutsText front) → Passes middle new (PutsPart back why) → Passes old new (PutsPart whole why)
part_passed old middle new whole front back rest why split =
    both_passed old middle new (PutsText front) (PutsPart back why) (PutsPart whole why)
    (λ first last. part_behind whole front back rest why first last split)

-- one text, and memory was wanting for what follows
pub front_passed : (old new : List Event) (whole front rest : List ℕ) → whole ≡ front ++ rest → Passes old new (PutsText front)
    → Passes old new (PutsPart whole writing.Memory)
front_passed old new whole front rest split =
    passed_so old new (PutsText front) (PutsPart whole writing.Memory) (λ events. memory_behind whole front rest events split)

-- ---- a file from its begin to its finish

-- one call was made
pub one_call : (old new : List Event) (event : Event) (P : List Event → Type 0)
    → new ≡ old ++ event ∷ [] → P (event ∷ []) → Passes old new P
one_call old new event P is holds = (event ∷ [], is, holds)

-- it was begun, something was put, and it was finished
wrapped : (old begun middle new : List Event) (first last : Event) (P Q : List Event → Type 0)
    → begun ≡ old ++ first ∷ [] → Passes begun middle P → new ≡ middle ++ last ∷ []
    → ((events : List Event) → P events → Q (first ∷ events ++ last ∷ [])) → Passes old new Q
wrapped old begun middle new first last P Q begins (events, is, p) ends so = (
  first ∷ events ++ last ∷ [],
  ends ∙ ap (λ (l : List Event). l ++ last ∷ []) (is ∙ ap (λ (l : List Event). l ++ events) begins ∙ append_assoc old (first ∷ []) events)
      ∙ append_assoc old (first ∷ events) (last ∷ []),
  so events p,
)

pub file_written : (old begun middle new : List Event) (name : Name) (text : List ℕ) → begun ≡ old ++ Begin name (Ok tt) ∷ []
    → Passes begun middle (PutsText text) → new ≡ middle ++ Finish (Ok tt) ∷ [] → Passes old new (WritesFile name text)
file_written old begun middle new name text begins put ends =
    wrapped old begun middle new (Begin name (Ok tt)) (Finish (Ok tt)) (PutsText text) (WritesFile name text) begins put ends
    (λ events holds. (events, holds, refl))

pub begun_in_vain : (old new : List Event) (name : Name) (text : List ℕ) (why : WriteAnswer) → new ≡ old ++ Begin name (Err why) ∷ []
    → Passes old new (BreaksOff name text why)
begun_in_vain old new name text why is = (Begin name (Err why) ∷ [], is, inl refl)

pub part_written : (old begun middle new : List Event) (name : Name) (text : List ℕ) (why : WriteAnswer)
    → begun ≡ old ++ Begin name (Ok tt) ∷ [] → Passes begun middle (PutsPart text why) → Passes middle new Finishes
    → Passes old new (BreaksOff name text why)
part_written old begun middle new name text why begins put (ends, is, (answer, one)) =
    wrapped old begun middle new (Begin name (Ok tt)) (Finish answer) (PutsPart text why) (BreaksOff name text why) begins put
    (is ∙ ap (λ (l : List Event). middle ++ l) one) (λ events holds. inr (inl (events, answer, holds, refl)))

pub finished_in_vain : (old begun middle new : List Event) (name : Name) (text : List ℕ) (why : WriteAnswer)
    → begun ≡ old ++ Begin name (Ok tt) ∷ [] → Passes begun middle (PutsText text) → new ≡ middle ++ Finish (Err why) ∷ []
    → Passes old new (BreaksOff name text why)
finished_in_vain old begun middle new name text why begins put ends =
    wrapped old begun middle new (Begin name (Ok tt)) (Finish (Err why)) (PutsText text) (BreaksOff name text why) begins put ends
    (λ events holds. inr (inr (events, holds, refl)))
