-- What files hold after calls that passed, where they behave as files.
use Rattle.w2c_files.proofs.Common.{◌≡◌, ℕ, suc, ◌≤◌, List, [], ◌∷◌, ◌++◌, length, Some, Ok, Err, Option, Result, sym, refl, ap, ◌∙◌, subst}
use Rattle.w2c_files.proofs.Common.{inl, inr, append_assoc, append-nil, AllByRecursion, file_told, Contents, Name, Told, holding, Event}
use Rattle.w2c_files.proofs.Common.{Finish, Put, Read, BreaksOff, FailsOn, PutsPart, PutsText, WritesFile, joined, puts, ReadAnswer}
use Rattle.w2c_files.proofs.Common.{WriteAnswer, BreaksOffAt, ReadsAll, ReadsInOrder, WritesFiles, WritesSome, AreHeld, IsBegun, Stands}
use Rattle.w2c_files.proofs.Common.{StandsAt, written}
use Rattle.w2c_io.specs.Honest.{AreHonest, Does}
use Rattle.w2c_io.specs.declared.answers.ReadAnswer.TheVariants as reading
use Rattle.w2c_files.specs.Passing.{FailsLast}
use Rattle.w2c_files.proofs.Standing.{part_begun, put_more, whole_begun}

-- one part, then the next
pub honest_both : (front back : List Event) (old new : Told) (current after : Option Name) → AreHonest (front ++ back) old current new after
    → (told : Told) × (name : Option Name) × AreHonest front old current told name × AreHonest back told name new after
honest_both [] back old new current after honest = (old, current, (refl, refl), honest)
honest_both (e ∷ front) back old new current after (told, name, does, rest) =
    let (middle, at, first, last) = honest_both front back told new name after rest in
    (middle, at, (told, name, does, first), last)

-- ---- reads

pub read_keeps : (name : Name) (limit : ℕ) (answer : Result (List ℕ) ReadAnswer) (old new : Told) (current after : Option Name)
    → Does (Read name limit answer) old current new after → (new ≡ old) × (after ≡ current)
read_keeps name limit (Err reading.Failed) old new current after does = does
read_keeps name limit (Err reading.Memory) old new current after does = does
read_keeps name limit _ old new current after does = (does.1, does.2)

-- files that were read are as they were
pub in_order_keep : (files : List (Name × ℕ)) (events : List Event) (old new : Told) (current after : Option Name)
    → ReadsInOrder files events → AreHonest events old current new after → (new ≡ old) × (after ≡ current)
in_order_keep files [] old new current after reads honest = honest
in_order_keep [] (e ∷ events) old new current after reads honest = absurd reads
in_order_keep (f ∷ files) (e ∷ events) old new current after (inl (bytes, is, rest)) (told, name, does, behind) =
    let here = read_keeps f.0 f.1 (Ok bytes) old told current name (subst (λ (x : Event). Does x old current told name) is does) in
    let more = in_order_keep files events told new name after rest behind in (more.0 ∙ here.0, more.1 ∙ here.1)
in_order_keep (f ∷ files) (e ∷ events) old new current after (inr (answer, is, none)) (told, name, does, behind) =
    let here = read_keeps f.0 f.1 answer old told current name (subst (λ (x : Event). Does x old current told name) is does) in
    let more = subst (λ (es : List Event). AreHonest es told name new after) none behind in (more.0 ∙ here.0, more.1 ∙ here.1)

-- files that were read in full held what was read, which fits, and are as they were
pub reads_are : (each : ℕ) (names : List Name) (all : List (List ℕ)) (given : List Event) (m : Contents) (old new : Told)
    (current after : Option Name) → old ≡ Some m → ReadsAll each names all given → AreHonest given old current new after
    → AreHeld m names all × (new ≡ old) × AllByRecursion (λ bytes. length bytes ≤ each) all
reads_are each [] [] given m old new current after told_is reads honest =
    (tt, (subst (λ (es : List Event). AreHonest es old current new after) reads honest).0, tt)
reads_are each (n ∷ names) (b ∷ all) (e ∷ given) m old new current after told_is (is, reads) (told, name, does, rest) =
    let found = subst (λ (x : Event). Does x old current told name) is does in
    let more = reads_are each names all given m told new name after (found.1 ∙ told_is) reads rest in
    ((file_told old m n b told_is found.0, more.0), more.1 ∙ found.1, (found.3, more.2))
reads_are each _ _ _ m old new current after told_is reads honest = absurd reads

-- ---- writes

-- pieces behind a part
puts_hold : (pieces : List (List ℕ)) (first old new : Told) (name : Name) (part : List ℕ) (current after : Option Name)
    → old ≡ holding first name part → current ≡ Some name → AreHonest (puts pieces) old current new after
    → (new ≡ holding first name (part ++ joined pieces)) × (after ≡ Some name)
puts_hold [] first old new name part current after so is honest =
    (honest.0 ∙ so ∙ ap (holding first name) (sym (append-nil part)), honest.1 ∙ is)
puts_hold (piece ∷ pieces) first old new name part current after so is (told, other, does, rest) =
    let more = puts_hold pieces first told new name (part ++ piece) other after
    (put_more first old told current name part piece so is does.0) (does.1 ∙ is) rest in
    (more.0 ∙ ap (holding first name) (append_assoc part piece (joined pieces)), more.1)

module _ (name : Name) (text : List ℕ) (old begun now : Told) (current at : Option Name) (starts : begun ≡ holding old name [])
    (is_current : current ≡ Some name) where
  text_held : (middle : List Event) → PutsText text middle → AreHonest middle begun current now at → now ≡ holding old name text
  text_held middle (pieces, joins, calls) honest =
      (puts_hold pieces old begun now name [] current at starts is_current (rw calls at honest)).0 ∙ ap (holding old name) joins

  -- the next piece in vain, or none
  rest_held : (front rest : List ℕ) (why : WriteAnswer) (last : List Event) (here : Told) (there : Option Name)
      → text ≡ front ++ rest → here ≡ holding old name front → there ≡ Some name → FailsOn rest why last
      → AreHonest last here there now at → IsBegun old now name text
  rest_held front rest why [] here there split holds is fails honest = part_begun old now name text front rest split (honest.0 ∙ holds)
  rest_held front rest why (Put piece answer ∷ []) here there split holds is (fails, (more, cut)) (told, other, does, ends) =
      let failed = subst (λ (a : Result (Unit {0}) WriteAnswer). Does (Put piece a) here there told other) fails does in
      let (part, (tail, of_piece), appended) = failed.0 in
      part_begun old now name text (front ++ part) (tail ++ more)
      (split ∙ ap (λ (l : List ℕ). front ++ l) (cut ∙ ap (λ (l : List ℕ). l ++ more) of_piece ∙ append_assoc part tail more)
      ∙ sym (append_assoc front part (tail ++ more)))
      (ends.0 ∙ put_more old here told there name front part holds is appended)
  rest_held front rest why _ here there split holds is fails honest = absurd fails

  part_held : (why : WriteAnswer) (middle : List Event) → PutsPart text why middle → AreHonest middle begun current now at
      → IsBegun old now name text
  part_held why middle part honest =
      let (here, there, first, last) = honest_both (puts part.pieces) part.last begun now current at (rw part.calls at honest) in
      let put = puts_hold part.pieces old begun here name [] current there starts is_current first in
      rest_held (joined part.pieces) part.rest why part.last here there part.split put.0 put.1 part.fails last

pub file_holds : (name : Name) (text : List ℕ) (events : List Event) (old new : Told) (current after : Option Name)
    → WritesFile name text events → AreHonest events old current new after → new ≡ holding old name text
file_holds name text events old new current after (middle, put, is) honest =
    let (begun, at, begins, rest) = subst (λ (es : List Event). AreHonest es old current new after) is honest in
    let (now, there, first, last) = honest_both middle (Finish (Ok tt) ∷ []) begun new at after rest in
    last.3.0 ∙ last.2.0 ∙ text_held name text old begun now at there begins.0 begins.1 middle put first

pub file_begun : (name : Name) (text : List ℕ) (why : WriteAnswer) (events : List Event) (old new : Told) (current after : Option Name)
    → BreaksOff name text why events → AreHonest events old current new after → IsBegun old new name text
file_begun name text why events old new current after (inl is) honest =
    let (told, at, begins, rest) = subst (λ (es : List Event). AreHonest es old current new after) is honest in
    elim begins.0 [
      | inl same ↦ inl (rest.0 ∙ same)
      | inr empty ↦ part_begun old new name text [] text refl (rest.0 ∙ empty)
    ]
file_begun name text why events old new current after (inr (inl (middle, answer, part, is))) honest =
    let (begun, at, begins, rest) = subst (λ (es : List Event). AreHonest es old current new after) is honest in
    let (now, there, first, last) = honest_both middle (Finish answer ∷ []) begun new at after rest in
    rw (last.3.0 ∙ last.2.0) (part_held name text old begun now at there begins.0 begins.1 why middle part first)
file_begun name text why events old new current after (inr (inr (middle, put, is))) honest =
    let (begun, at, begins, rest) = subst (λ (es : List Event). AreHonest es old current new after) is honest in
    let (now, there, first, last) = honest_both middle (Finish (Err why) ∷ []) begun new at after rest in
    whole_begun old new name text
    (last.3.0 ∙ last.2.0 ∙ text_held name text old begun now at there begins.0 begins.1 middle put first)

pub files_hold : (files : List (Name × List ℕ)) (events : List Event) (old new : Told) (current after : Option Name)
    → WritesFiles files events → AreHonest events old current new after → new ≡ written old files
files_hold [] events old new current after none honest = (subst (λ (es : List Event). AreHonest es old current new after) none honest).0
files_hold (file ∷ files) events old new current after (first, rest, is, wrote, more) honest =
    let (middle, at, here, behind) = honest_both first rest old new current after (rw is at honest) in
    files_hold files rest middle new at after more behind
    ∙ ap (λ (t : Told). written t files) (file_holds file.0 file.1 first old middle current at wrote here)

pub broken_stands : (files : List (Name × List ℕ)) (name : Name) (why : WriteAnswer) (events : List Event) (old new : Told)
    (current after : Option Name) → BreaksOffAt files name why events → AreHonest events old current new after → StandsAt old new files name
broken_stands files name why events old new current after at honest =
    let (middle, now, here, behind) = honest_both at.first at.last old new current after (rw at.calls at honest) in
    record {
      done = at.done;
      rest = at.rest;
      text = at.text;
      split = at.split;
      begun = subst (λ (t : Told). IsBegun t new name at.text) (files_hold at.done at.first old middle current now at.whole here)
          (file_begun name at.text why at.last middle new now after at.broken behind);
    }

pub some_stand : (files : List (Name × List ℕ)) (events : List Event) (old new : Told) (current after : Option Name)
    → WritesSome files events → AreHonest events old current new after → Stands old new files
some_stand files events old new current after (inl s) honest = inl (record {
  done = s.done;
  rest = s.rest;
  split = s.split;
  stand = files_hold s.done events old new current after s.whole honest;
})
some_stand files events old new current after (inr (name, why, at)) honest =
    inr (name, broken_stands files name why events old new current after at honest)

-- ---- as many texts as names, and a read that fails behind others

pub as_many : (contents : Contents) (names : List Name) (texts : List (List ℕ)) → AreHeld contents names texts
    → length texts ≡ length names
as_many contents [] [] held = refl
as_many contents (n ∷ names) (t ∷ texts) held = ap suc (as_many contents names texts held.1)
as_many contents _ _ held = absurd held

pub fails_behind : (file : Name) (first last given : List Event) → given ≡ first ++ last → FailsLast file last → FailsLast file given
fails_behind file first last given split (front, limit, is) = (
  first ++ front,
  limit,
  split ∙ ap (λ (l : List Event). first ++ l) is
      ∙ sym (append_assoc first front (Read file limit (Err reading.Failed) ∷ [])),
)
