-- What a parse says of the rows of the words.
use Rattle.std.proofs.Common.{◌≡◌, ◌∙◌, sym, ap, ℕ, Bool, false, List, [], ◌∷◌, Option, Some, None, Result, Ok, Err, IfOk, inl, inr}
use Rattle.std.proofs.Common.{if◌then◌else◌, length, arith, ne_eqb}
use Rattle.clap.specs.Words.{App, FailsBy, IsAmong, Kinds, Row, fault_of, kind_of, matches_of}
use Rattle.clap.specs.Walk.{is_empty}
use Rattle.clap.specs.declared.error.Error.{Error}
use Rattle.clap.specs.declared.error.kind.ErrorKind.{ErrorKind}
use Rattle.clap.specs.declared.error.kind.ErrorKind.TheVariants.{OutOfMemory}
use Rattle.program_words.specs.Command.{rows_read}

nothing_among : (k : ErrorKind) (kinds : Kinds) → IsAmong k kinds → is_empty kinds ≡ false
nothing_among k [] h = absurd h
nothing_among k (x ∷ xs) h = ne_eqb (length (x ∷ xs)) 0 (λ e. omega (arith, e))

no_fault : {T : Type 0} (kinds : Kinds) (r : Result T Error) (x : T) → r ≡ Ok x → FailsBy kinds r → kinds ≡ []
no_fault kinds (Ok y) x is h = h
no_fault kinds (Err e) x is h = absurd (cc)

-- a fault that is no want of memory
some_fault : {T : Type 0} (kinds : Kinds) (r : Result T Error) (e : Error) → r ≡ Err e → (kind_of e ≡ OutOfMemory → ⊥)
    → FailsBy kinds r → is_empty kinds ≡ false
some_fault kinds (Ok y) e is other h = absurd (cc)
some_fault kinds (Err d) e is other h =
    let same : d ≡ e = cc in
    elim h [
      | inl memory ↦ absurd (other (ap kind_of (sym same) ∙ memory))
      | inr among ↦ nothing_among (kind_of d) kinds among
    ]

pub same_error : {T E : Type 0} (a b : E) → ◌≡◌ {A = Result T E} (Err a) (Err b) → a ≡ b
same_error a b same = cc

-- what a parse of the words comes to
module _ {T : Type 0} (words : List (List ℕ)) (app : App) (r : Result T Error) (fails : FailsBy (fault_of app words) r) where
  pub rows_parsed : (m : T) (rows : List Row) → r ≡ Ok m → rows ≡ matches_of app words → rows_read app words ≡ Some rows
  unfolding rows_read
  rows_parsed m rows is matched =
      ap (λ (kinds : Kinds). if is_empty kinds then Some (matches_of app words) else None) (no_fault (fault_of app words) r m is fails)
      ∙ ap (λ (rs : List Row). Some rs) (sym matched)

  pub none_parsed : (e : Error) → r ≡ Err e → (kind_of e ≡ OutOfMemory → ⊥) → rows_read app words ≡ None
  unfolding rows_read
  none_parsed e is other =
      ap (λ (none : Bool). if none then Some (matches_of app words) else None) (some_fault (fault_of app words) r e is other fails)

-- what is said of one line is said of its equal
pub told_of_equal : {L E A : Type 0} (r : Result L E) (seen : L → A) (a b : Option A) → a ≡ b → IfOk r (λ l. b ≡ Some (seen l))
    → IfOk r (λ l. a ≡ Some (seen l))
told_of_equal (Ok l) seen a b same h = same ∙ h
told_of_equal (Err e) seen a b same h = tt
