-- What is read of bytes spells it, whatever follows; and what is spelled is read again.
use Rattle.wasm_spelling.proofs.Common.{◌≡◌, ℕ, ◌+◌, ◌≤◌, List, ◌++◌, length, Ok, refl, ap, ◌∙◌, subst, arith, length-append, At, Counts}
use Rattle.wasm_spelling.proofs.Common.{Fields, Spelled, Then, Reader, reads}
use Rattle.wasm_spelling.proofs.Tools.{reads_ok}

abbrev pub SpelledAt : Fields → At → Type 0
SpelledAt fields a = Spelled fields a.place a.left

-- from one place to another stand these fields, whatever follows
pub record Taken (a : At) (f : Fields → Fields) (b : At) : Type 0 where
  pub spelled : (fields : Fields) → SpelledAt fields b → SpelledAt (f fields) a
  pub moved : a.place + length a.left ≡ b.place + length b.left
  pub within : length b.left ≤ length a.left

pub taken_none : (a : At) → Taken a (λ fields. fields) a
taken_none a = record { spelled = λ fields s. s; moved = refl; within = omega arith }

pub taken_then : {f g : Fields → Fields} (a b c : At) → Taken a f b → Taken b g c → Taken a (λ fields. f (g fields)) c
taken_then {f} {g} a b c t u = record {
  spelled = λ fields s. t.spelled (g fields) (u.spelled fields s);
  moved = t.moved ∙ u.moved;
  within = omega (arith, t.within, u.within);
}

-- and these are the counts then
pub record Leads (a : At) (f : Fields → Fields) (b : At) (counts : Counts) : Type 0 where
  pub taken : Taken a f b
  pub kept : b.counts ≡ counts

pub leads_then : {f g : Fields → Fields} {k l : Counts} (a b c : At) → Leads a f b k → Leads b g c l → Leads a (λ fields. f (g fields)) c l
leads_then a b c t u = record { taken = taken_then a b c t.taken u.taken; kept = u.kept }

-- and the counts stay
abbrev pub Took : At → (Fields → Fields) → At → Type 0
Took a f b = Leads a f b a.counts

pub took_none : (a : At) → Took a (λ fields. fields) a
took_none a = record { taken = taken_none a; kept = refl }

pub took_then : {f g : Fields → Fields} {k : Counts} (a b c : At) → Leads a f b k → Took b g c → Leads a (λ fields. f (g fields)) c k
took_then a b c t u = record { taken = taken_then a b c t.taken u.taken; kept = u.kept ∙ t.kept }

pub took_as : {f : Fields → Fields} (g : Fields → Fields) (a b : At) → Took a f b
    → ((fields : Fields) → SpelledAt (f fields) a → SpelledAt (g fields) a) → Took a g b
took_as {f} g a b t h =
    record {
      taken = record { spelled = λ fields s. h fields (t.taken.spelled fields s); moved = t.taken.moved; within = t.taken.within };
      kept = t.kept;
    }

-- some bytes stand in front
pub record Front (a : At) (front : List ℕ) (b : At) : Type 0 where
  pub bytes : a.left ≡ front ++ b.left
  pub place : b.place ≡ a.place + length front
  pub kept : b.counts ≡ a.counts

pub took_front : (a b : At) (front : List ℕ) (f : Fields → Fields) (P : ℕ → List ℕ → Type 0)
    → ((fields : Fields) (place : ℕ) (bytes : List ℕ) → Then P (Spelled fields) place bytes → Spelled (f fields) place bytes)
    → Front a front b → P a.place front → Took a f b
took_front a b front f P spelt t p = record {
  taken = record {
    spelled = λ fields s. spelt fields a.place a.left (front, b.left, t.bytes, p, subst (λ place. Spelled fields place b.left) t.place s);
    moved = omega (arith, ap length t.bytes, length-append front b.left, t.place);
    within = omega (arith, ap length t.bytes, length-append front b.left);
  };
  kept = t.kept;
}

-- each value that is read is spelled by the bytes that were taken
abbrev pub Takes : {A : Type 0} → Reader A → (A → Fields → Fields) → Type 0
Takes {A} read fields = (a : At) (v : A) (b : At) → read a ≡ Ok (v, b) → Took a (fields v) b

-- a value that is spelled is read, and what follows stands behind it
abbrev pub Again : {A : Type 0} → Reader A → (A → Fields → Fields) → Type 0
Again {A} read fields = (a : At) (v : A) (rest : Fields) → SpelledAt (fields v rest) a → (b : At) × (read a ≡ Ok (v, b)) × SpelledAt rest b

-- both, of a reading that counts: what spells a value hangs on the counts in front of it
pub record CountingSpelling {A : Type 0} (read : Reader A) (fields : Counts → A → Fields → Fields) (after : A → Counts → Counts)
    : Type 0 where
  pub takes : (a : At) (v : A) (b : At) → read a ≡ Ok (v, b) → Leads a (fields a.counts v) b (after v a.counts)
  pub again : (a : At) (v : A) (rest : Fields) → SpelledAt (fields a.counts v rest) a → (b : At) × (read a ≡ Ok (v, b)) × SpelledAt rest b

abbrev pub Spelling : {A : Type 0} → Reader A → (A → Fields → Fields) → Type 0
Spelling read fields = CountingSpelling read (λ c. fields) (λ v c. c)

-- one reading after another: what the first took, and what is left to read
pub first_taken : {A B C : Type 0} (r : Reader A) (k : A → Reader B) (fields : A → Fields → Fields) → Takes r fields → (a : At) (y : B × At)
    → reads r k a ≡ Ok y
    → ((x : A) (b : At) → Took a (fields x) b → k x b ≡ Ok y → C) → C
first_taken r k fields takes a y e more = let s = reads_ok r k a y e in more s.0 s.1 (takes a s.0 s.1 s.2) s.3

-- what is spelled first is read, and the rest stands behind it
pub first_again : {A C : Type 0} (r : Reader A) (fields : A → Fields → Fields) → Again r fields → (a : At) (v : A) (rest : Fields)
    → SpelledAt (fields v rest) a
    → ((b : At) → r a ≡ Ok (v, b) → SpelledAt rest b → C) → C
first_again r fields again a v rest s more = let t = again a v rest s in more t.0 t.1 t.2
