-- Whole texts: what was read of one is what it spells, and a fault is that of its first faulty token.
use Rattle.c_read.proofs.Common.{◌≡◌, ℕ, zero, suc, ◌+◌, true, false, ◌≢◌, ◌⊎◌, List, [], ◌∷◌, ◌++◌, map, IfOk, IfErr, Ok, Err, Result}
use Rattle.c_read.proofs.Common.{MatchResult, IsErrOf, sym, refl, ap, ◌∙◌, subst, inl, inr, One, first, opened, CSpells, CUpto, Begins}
use Rattle.c_read.proofs.Common.{Front, Gap, Lexeme, front, lexeme, lexemes, Fixed, Named, Number, Token, Wrong, kind_of, unit_of}
use Rattle.c_read.proofs.Common.{CReadFault, Memory, UnitTooLong, is_last, Outcome, Reads, not_end, unit}
use Rattle.c_tree.specs.declared.token.Tok.TheVariants as tok
use Rattle.c_tree.specs.Tree as tree
use Rattle.c_tree.specs.Text as texts
use Rattle.c_tree.proofs.TextIsProper.{IsGood, GoodFront, good_front}
use Rattle.c_tree.specs.declared.tree.Item.{Item}
use Rattle.c_tree.proofs.OneUnit.{one_unit}
use Rattle.c_tree.proofs.NoFault.{no_fault}
use Rattle.c_read.proofs.Exact.{Has, HasDigits, Proper}
use Rattle.c_read.proofs.ExactItems.{unit_exact, unit_end}
use Rattle.c_read.proofs.Once.{IsOfToken, stops_at_token}

-- ---- the lexemes of a text

digits_of : (t : Token) → IsGood t → HasDigits t
digits_of (Number s ds) (inl proper) = proper
digits_of (Number s ds) (inr wrong) = absurd cc
digits_of (Fixed u) good = tt
digits_of _ good = tt

-- the last one is the end or wrong, and no other one is
abbrev Ended : List Lexeme → Type 0
Ended [] = ⊥
Ended (l ∷ []) = is_last l.token ≡ true
Ended (l ∷ m ∷ ls) = (is_last l.token ≡ false) × Ended (m ∷ ls)

put_before : (l : Lexeme) (ls : List Lexeme) → is_last l.token ≡ false → Ended ls → Ended (l ∷ ls)
put_before l [] e ended = absurd ended
put_before l (m ∷ ls) e ended = (e, ended)

abbrev Sound : List Lexeme → Type 0
Sound ls = Proper ls × Ended ls

sound_behind : (f : Front) (p : ℕ) (follow : ℕ → List Lexeme) → GoodFront f → ((k : ℕ) → Sound (follow k))
    → Sound (texts.and_then f p follow)
sound_behind (Gap k) p follow good next = next k
sound_behind (Begins Wrong k) p follow good next = ((tt, tt), refl)
sound_behind (Begins (Fixed tok.End) k) p follow good next = ((tt, tt), refl)
sound_behind (Begins (Fixed u) k) p follow good next = ((tt, (next k).0), put_before (lexeme p (Fixed u)) (follow k) refl (next k).1)
sound_behind (Begins (Named n) k) p follow good next = ((tt, (next k).0), put_before (lexeme p (Named n)) (follow k) refl (next k).1)
sound_behind (Begins (Number s ds) k) p follow good next =
    ((digits_of (Number s ds) good, (next k).0), put_before (lexeme p (Number s ds)) (follow k) refl (next k).1)

sound : (text : List ℕ) (k p : ℕ) → Sound (lexemes k p text)
sound [] k p = ((tt, tt), refl)
sound (b ∷ rest) (suc k) p = sound rest k (p + 1)
sound (b ∷ rest) zero p = sound_behind (front b rest) p (λ k. lexemes k (p + 1) rest) (good_front b rest) (λ k. sound rest k (p + 1))

ended_behind : (ls : List Lexeme) (ts : List Token) (ls' : List Lexeme) → Has ls ts ls' → Ended ls → Ended ls'
ended_behind ls [] ls' has e = subst Ended has e
ended_behind [] (t ∷ ts) ls' has e = absurd has
ended_behind (l ∷ []) (t ∷ ts) ls' has e = let clash : true ≡ false = sym e ∙ ap is_last has.0 ∙ has.1 in absurd cc
ended_behind (l ∷ m ∷ ls) (t ∷ ts) ls' has e = ended_behind (m ∷ ls) ts ls' has.2 e.1

has_tokens : (ls : List Lexeme) (ts : List Token) (ls' : List Lexeme) → Has ls ts ls' → map (λ l. l.token) ls ≡ ts ++ map (λ l. l.token) ls'
has_tokens ls [] ls' has = ap (map (λ l. l.token)) has
has_tokens [] (t ∷ ts) ls' has = absurd has
has_tokens (l ∷ ls) (t ∷ ts) ls' has = ap (λ u. u ∷ map (λ (m : Lexeme). m.token) ls) has.0 ∙ ap (λ us. t ∷ us) (has_tokens ls ts ls' has.2)

end_token : (t : Token) → not_end (kind_of t) ≡ false → t ≡ Fixed tok.End
end_token (Fixed tok.End) off = refl
end_token _ off = absurd cc

only_end : (ls : List Lexeme) → Ended ls → (first ls).token ≡ Fixed tok.End → map (λ l. l.token) ls ≡ Fixed tok.End ∷ []
only_end [] e is = absurd e
only_end (l ∷ []) e is = ap (λ t. t ∷ []) is
only_end (l ∷ m ∷ ls) e is = let clash : true ≡ false = ap is_last (sym is) ∙ e.0 in absurd cc

-- ---- whole texts

-- what was read is what the text spells
pub spelled : (text : List ℕ) (u : List tree.Item) (ls' : List Lexeme) → unit (lexemes 0 0 text) ≡ Ok (u, ls') → CSpells u text
spelled text u ls' read =
    let s = sound text 0 0 in
    let x = rw read at (unit_exact (lexemes 0 0 text) s.0).is in
    let is = end_token (first ls').token (rw read at (unit_end (lexemes 0 0 text) s.0)) in
    record {
      fits = x.4;
      in_order =
          has_tokens (lexemes 0 0 text) x.1 ls' x.2
          ∙ ap (λ us. x.1 ++ us) (only_end ls' (ended_behind (lexemes 0 0 text) x.1 ls' x.2 s.1) is)
          ∙ ap (λ us. us ++ Fixed tok.End ∷ []) (sym x.3);
    }

-- a fault on the way is the table's
pub faulty : (text : List ℕ) (f : CReadFault) → unit (lexemes 0 0 text) ≡ Err f → CUpto text f
faulty text f read =
    let x = rw read at (unit_exact (lexemes 0 0 text) (sound text 0 0).0).is in
    opened refl (x.stops (One tok.End ∷ []))

-- every text spells a unit, or has a first faulty token
pub unit_or_fault : (text : List ℕ) → ((u : List tree.Item) × CSpells u text) ⊎ ((f : CReadFault) × CUpto text f)
unit_or_fault text = by (unit (lexemes 0 0 text)) refl
  where
    by : (o : Outcome (List tree.Item)) → unit (lexemes 0 0 text) ≡ o
        → ((u : List tree.Item) × CSpells u text) ⊎ ((f : CReadFault) × CUpto text f)
    by (Ok p) read = inl (p.0, spelled text p.0 p.1 read)
    by (Err f) read = inr (f, faulty text f read)

-- ---- what the reader answers

-- where a text spells a unit, no fault but want of memory comes
memory_alone : (text : List ℕ) (u : List tree.Item) (f : CReadFault) → CSpells u text → ((f ≡ Memory → ⊥) → CUpto text f) → f ≡ Memory
memory_alone text u Memory is upto = refl
memory_alone text u f is upto = absurd (no_fault u text f is (upto (λ e. cc)))

-- What was read of the whole text.
pub record IsRead (text : List ℕ) (r : Result (List Item) CReadFault) : Type 0 where
  pub rest : List Lexeme
  pub reads : Reads unit_of (unit (lexemes 0 0 text)) r rest

pub is_read : {text : List ℕ} {start : List Lexeme} (r : Result (List Item) CReadFault) (rest : List Lexeme) → start ≡ lexemes 0 0 text
    → Reads unit_of (unit start) r rest → IsRead text r
is_read r rest is reads = record { rest = rest; reads = subst (λ ls. Reads unit_of (unit ls) r rest) is reads }

pub read_spelled : (text : List ℕ) (r : Result (List Item) CReadFault) → IsRead text r → IfOk r (λ u. CSpells (unit_of u) text)
read_spelled text (Ok u) is = spelled text (unit_of u) is.rest is.reads
read_spelled text (Err f) is = tt

pub read_fault : (text : List ℕ) (r : Result (List Item) CReadFault) → IsRead text r → IfErr r (λ f. f ≢ Memory → CUpto text f)
read_fault text (Ok u) is = tt
read_fault text (Err f) is = λ other. faulty text f (is.reads other)

pub read_complete : (text : List ℕ) (r : Result (List Item) CReadFault) → IsRead text r → (u : List tree.Item) → CSpells u text
    → MatchResult r (λ found. unit_of found ≡ u) (λ f. f ≡ Memory)
read_complete text (Ok found) is u spells = one_unit (unit_of found) u text (spelled text (unit_of found) is.rest is.reads) spells
read_complete text (Err f) is u spells = memory_alone text u f spells (λ other. faulty text f (is.reads other))

-- the fault of a text that is too long is none of a token
pub not_too_long : (text : List ℕ) (r : Result (List Item) CReadFault) → IsRead text r → IsErrOf r UnitTooLong → ⊥
not_too_long text (Ok found) is e = cc
not_too_long text (Err f) is e =
    let same : f ≡ UnitTooLong = cc in
    subst IsOfToken same (stops_at_token (faulty text f (is.reads (λ m. let clash : UnitTooLong ≡ Memory = sym same ∙ m in cc))))
