-- What reads gave is told by the calls: there is one list of bytes, and one last read.
use Rattle.w2c_files.proofs.Common.{◌≡◌, ℕ, ◌+◌, List, [], ◌∷◌, ◌++◌, length, Ok, Result, sym, refl, ap, ◌∙◌, subst, arith, Name, Event}
use Rattle.w2c_files.proofs.Common.{Read, ReadAnswer, ReadsAll, total}

-- ---- one read

pub one_answer : (name other : Name) (each : ℕ) (answer another : Result (List ℕ) ReadAnswer)
    → Read name each answer ≡ Read other each another → (name ≡ other) × (answer ≡ another)
one_answer name other each answer another is = (cc, cc)

one_bytes : (name other : Name) (each : ℕ) (bytes more : List ℕ) → Read name each (Ok bytes) ≡ Read other each (Ok more) → bytes ≡ more
one_bytes name other each bytes more is = cc

-- ---- reads that gave bytes

none_given : (each : ℕ) (names : List Name) (all : List (List ℕ)) → ReadsAll each names all [] → all ≡ []
none_given each [] [] gave = refl
none_given each [] (b ∷ all) gave = absurd gave
none_given each (n ∷ names) [] gave = absurd gave
none_given each (n ∷ names) (b ∷ all) gave = absurd gave

-- they gave these
pub one_given : (each : ℕ) (names others : List Name) (all more : List (List ℕ)) (events : List Event)
    → ReadsAll each names all events → ReadsAll each others more events → all ≡ more
one_given each [] others [] more events gave gave' = sym (none_given each others more (subst (ReadsAll each others more) gave gave'))
one_given each (n ∷ names) [] (b ∷ all) [] (e ∷ events) gave gave' = absurd cc
one_given each (n ∷ names) [] (b ∷ all) (c ∷ more) (e ∷ events) gave gave' = absurd gave'
one_given each (n ∷ names) (o ∷ others) (b ∷ all) [] (e ∷ events) gave gave' = absurd gave'
one_given each (n ∷ names) (o ∷ others) (b ∷ all) (c ∷ more) (e ∷ events) (is, gave) (is', gave') =
    let rest = one_given each names others all more events gave gave' in λ i. (one_bytes n o each b c (sym is ∙ is')) i ∷ rest i
one_given each _ others _ more _ gave gave' = absurd gave

-- the last read gave bytes, behind those of the reads in front of it
pub record GaveLast (each : ℕ) (all : List (List ℕ)) (first : List Event) (last : Event) : Type 0 where
  pub name : Name
  pub bytes : List ℕ
  pub front : List Name
  pub before : List (List ℕ)
  pub is : last ≡ Read name each (Ok bytes)
  pub gave : ReadsAll each front before first
  pub sum : total all ≡ total before + length bytes

pub gave_last : (each : ℕ) (names : List Name) (all : List (List ℕ)) (first : List Event) (last : Event)
    → ReadsAll each names all (first ++ last ∷ []) → GaveLast each all first last
gave_last each [] [] [] last gave = absurd cc
gave_last each [] [] (e ∷ first) last gave = absurd cc
gave_last each [] (b ∷ all) first last gave = absurd gave
gave_last each (n ∷ names) [] first last gave = absurd gave
gave_last each (n ∷ names) (b ∷ all) [] last (is, gave) = record {
  name = n;
  bytes = b;
  front = [];
  before = [];
  is = is;
  gave = refl;
  sum = (let none = ap total (none_given each names all gave) in omega (arith, none));
}
gave_last each (n ∷ names) (b ∷ all) (e ∷ first) last (is, gave) =
    let rest = gave_last each names all first last gave in
    record {
      name = rest.name;
      bytes = rest.bytes;
      front = n ∷ rest.front;
      before = b ∷ rest.before;
      is = rest.is;
      gave = (is, rest.gave);
      sum = (let sum = rest.sum in omega (arith, sum));
    }
