-- Loops that write the lines of one thing after another.
use Rattle.std.proofs.Common.{◌≡◌, ℕ, suc, zero, ◌+◌, ◌-◌, ◌<◌, List, [], ◌∷◌, ◌++◌, drop, get_or, length, map, take, Option, refl, sym, ap}
use Rattle.std.proofs.Common.{◌∙◌, subst, arith, Ok, Err, flat_map, append-nil}
use Rattle.std.specs.List.{range_with_len}
use Rattle.std.proofs.lemmas.List.{get_or-map, length-map}
use Rattle.std.proofs.lemmas.Grind.{flat_map-append}
use Rattle.w2c_base.proofs.Places.{front_split}
use Rattle.w2c_io.specs.declared.answers.WriteAnswer.{WriteAnswer}
use Rattle.w2c_io.specs.Contents.{extended}
use Rattle.program_words.specs.Writing.{Writes}
use Rattle.w2c_io.proofs.Causes.{done_cause}
use Rattle.program_words.proofs.Written.{none_written, stops_writing, then_writes}

-- the lines of these are written, and no write has failed
pub record AreWritten {A : Type 0} (lines : A → List ℕ) (old now : Option (List ℕ)) (before after : ℕ) (done : List A) : Type 0 where
  pub written : now ≡ extended old (flat_map lines done)
  pub kept : after ≡ before

module _ {A : Type 0} (lines : A → List ℕ) where
  one_line : (x : A) → flat_map lines (x ∷ []) ≡ lines x
  one_line x = append-nil (lines x)

  as_call : (old now : Option (List ℕ)) (before after : ℕ) (done : List A) → AreWritten lines old now before after done
      → Writes {A = Unit {0}} old now before after (flat_map lines done) (Ok tt)
  as_call old now before after done are = record { whole = are.written; part = tt; cause = done_cause tt before after are.kept }

  pub none_yet : (old : Option (List ℕ)) (faults : ℕ) → AreWritten lines old old faults faults []
  none_yet old faults = record { written = none_written old; kept = refl }

  -- one more
  pub one_more : (u : Unit {0}) (old middle new : Option (List ℕ)) (before between after : ℕ) (done : List A) (x : A)
      → AreWritten lines old middle before between done → Writes {A = Unit {0}} middle new between after (lines x) (Ok u)
      → AreWritten lines old new before after (done ++ x ∷ [])
  one_more u old middle new before between after done x are wrote =
      let both = then_writes {B = Unit {0}} tt (Ok u) old middle new before between after (flat_map lines done) (lines x)
      (as_call old middle before between done are) wrote in
      record {
        written = both.whole ∙ ap (λ l. extended old (flat_map lines done ++ l)) (sym (one_line x))
            ∙ ap (extended old) (sym (flat_map-append lines done (x ∷ [])));
        kept = both.cause.kept;
      }

  -- the one behind these is not written whole
  pub stopped_at : (old middle new : Option (List ℕ)) (before between after : ℕ) (done : List A) (x : A) (rest all : List A)
      (e : WriteAnswer)
      → all ≡ done ++ x ∷ rest → AreWritten lines old middle before between done
      → Writes {A = Unit {0}} middle new between after (lines x) (Err e)
      → Writes {A = Unit {0}} old new before after (flat_map lines all) (Err e)
  stopped_at old middle new before between after done x rest all e split are stopped =
      subst (λ text. Writes {A = Unit {0}} old new before after text (Err e))
      (sym (flat_map-append lines done (x ∷ rest)) ∙ ap (flat_map lines) (sym split))
      (then_writes tt (Err e) old middle new before between after (flat_map lines done) (lines x ++ flat_map lines rest)
      (as_call old middle before between done are)
      (stops_writing e middle new between after (lines x) (flat_map lines rest) stopped))

  pub all_written : (old now : Option (List ℕ)) (before after : ℕ) (done all : List A) → done ≡ all
      → AreWritten lines old now before after done
      → Writes {A = Unit {0}} old now before after (flat_map lines all) (Ok tt)
  all_written old now before after done all same are = rw same at (as_call old now before after done are)

-- ---- the front of a list

-- the same through a view
pub mapped_at : {A B : Type 0} (view : A → B) (xs : List A) (k : ℕ) (x : A) → k < length xs → x ≡ get_or xs k x
    → view x ≡ get_or (map view xs) k (view x)
mapped_at view xs k x less at = ap view at ∙ sym (get_or-map view xs k x (view x) less)

pub mapped_split : {A B : Type 0} (view : A → B) (xs : List A) (k : ℕ) (x : A) → k < length xs → x ≡ get_or xs k x
    → map view xs ≡ take k (map view xs) ++ view x ∷ drop (k + 1) (map view xs)
mapped_split view xs k x less at =
    front_split (map view xs) k (view x) (omega (arith, less, length-map xs view)) (mapped_at view xs k x less at)

-- ---- the front of a range

pub range_sum : (a m n : ℕ) → range_with_len a (m + n) ≡ range_with_len a m ++ range_with_len (a + m) n
range_sum a zero n =
    let none : 0 + n ≡ n = omega arith in
    let e : a ≡ a + 0 = omega arith in
    ap (range_with_len a) none ∙ ap (λ k. range_with_len k n) e
range_sum a (suc m) n =
    let e : a + 1 + m ≡ a + suc m = omega arith in
    let next : suc m + n ≡ suc (m + n) = omega arith in
    ap (range_with_len a) next
    ∙ ap (λ l. a ∷ l) (range_sum (a + 1) m n ∙ ap (λ k. range_with_len (a + 1) m ++ range_with_len k n) e)

pub range_next : (k : ℕ) → range_with_len 0 (k + 1) ≡ range_with_len 0 k ++ k ∷ []
range_next k = range_sum 0 k 1 ∙ (let e : 0 + k ≡ k = omega arith in ap (λ n. range_with_len 0 k ++ n ∷ []) e)

pub range_split : (k n : ℕ) → k < n → range_with_len 0 n ≡ range_with_len 0 k ++ k ∷ range_with_len (k + 1) (n - (k + 1))
range_split k n less =
    let e : n ≡ k + suc (n - (k + 1)) = omega (arith, less) in
    let o : 0 + k ≡ k = omega arith in
    ap (range_with_len 0) e ∙ range_sum 0 k (suc (n - (k + 1)))
    ∙ ap (λ i. range_with_len 0 k ++ i ∷ range_with_len (i + 1) (n - (k + 1))) o
