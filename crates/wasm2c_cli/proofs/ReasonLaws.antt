-- Bytes are refused for at most one reason, and those of a valid module for none; so the first file that is refused is one, and so
-- is the one that passes a limit.
use Rattle.wasm2c_cli.proofs.Common.{◌≡◌, ℕ, List, [], ◌∷◌, Some, None, Option, sym, refl, ap, ◌∙◌, inl, inr, same_Some, Name, Past}
use Rattle.wasm2c_cli.proofs.Common.{TooLong, Unreadable, most_module_bytes, Module, Accepted, one_tree, ModuleBytes, SetBytes, AreAccepted}
use Rattle.wasm2c_cli.proofs.Common.{IsAccepted, IsFirstRefused, IsRefused, PassesLimitBy, reason_for, Reason, Limit}
use Rattle.std.proofs.lemmas.Option.{none-some}
use Rattle.w2c_files.specs.Reading.{Missing}
use Rattle.wasm_valid.specs.FileVerdict.{Read}
use Rattle.wasm_valid.proofs.Files.{one_file_verdict}

-- ---- bytes

pub one_reason : (bytes : List ℕ) (reason other : Reason) → IsRefused bytes reason → IsRefused bytes other → reason ≡ other
one_reason bytes reason other (v, is, for) (w, is', for') =
    same_Some reason other (sym for ∙ ap reason_for (one_file_verdict bytes v w is is') ∙ for')

pub accepted_not_refused : (bytes : List ℕ) (reason : Reason) → IsAccepted bytes → IsRefused bytes reason → ⊥
accepted_not_refused bytes reason (tree, is) (w, is', for) =
    none-some reason (ap reason_for (one_file_verdict bytes (Read tree Accepted) w is is') ∙ for)

-- ---- the bytes of all files

pub one_first_refused : (names : List Name) (sources : List (List ℕ)) (file other : Name) (reason r : Reason)
    → IsFirstRefused names sources file reason → IsFirstRefused names sources other r → (file ≡ other) × (reason ≡ r)
one_first_refused (name ∷ names) (bytes ∷ sources) file other reason r (inl (same, is)) (inl (same', is')) =
    (same ∙ sym same', one_reason bytes reason r is is')
one_first_refused (name ∷ names) (bytes ∷ sources) file other reason r (inl (same, is)) (inr (accepted, first')) =
    absurd (accepted_not_refused bytes reason accepted is)
one_first_refused (name ∷ names) (bytes ∷ sources) file other reason r (inr (accepted, first)) (inl (same', is')) =
    absurd (accepted_not_refused bytes r accepted is')
one_first_refused (name ∷ names) (bytes ∷ sources) file other reason r (inr (accepted, first)) (inr (accepted', first')) =
    one_first_refused names sources file other reason r first first'
one_first_refused _ _ file other reason r first first' = absurd first

pub accepted_not_first : (names : List Name) (sources : List (List ℕ)) (modules : List Module) (file : Name) (reason : Reason)
    → AreAccepted sources modules → IsFirstRefused names sources file reason → ⊥
accepted_not_first (name ∷ names) (bytes ∷ sources) [] file reason accepted first = absurd accepted
accepted_not_first (name ∷ names) (bytes ∷ sources) (m ∷ modules) file reason accepted (inl (same, is)) =
    accepted_not_refused bytes reason (m, accepted.0) is
accepted_not_first (name ∷ names) (bytes ∷ sources) (m ∷ modules) file reason accepted (inr (other, first)) =
    accepted_not_first names sources modules file reason accepted.1 first
accepted_not_first _ _ modules file reason accepted first = absurd first

pub modules_of : (sources : List (List ℕ)) (modules others : List Module) → AreAccepted sources modules → AreAccepted sources others
    → modules ≡ others
modules_of [] [] [] a b = refl
modules_of [] (m ∷ modules) others a b = absurd a
modules_of (bytes ∷ sources) [] others a b = absurd a
modules_of (bytes ∷ sources) (m ∷ modules) (n ∷ others) a b =
    λ i. (one_tree bytes m n a.0.0 b.0.0) i ∷ (modules_of sources modules others a.1 b.1) i
modules_of _ _ _ a b = absurd b

-- ---- limits of bytes

abbrev pub limit_of : Unreadable → Option Reason
limit_of Missing = None
limit_of TooLong = Some (Limit most_module_bytes ModuleBytes)
limit_of (Past place) = Some (Limit place SetBytes)

-- reading stops at a file for a limit
pub over : (Stops : Unreadable → Type 0) (reason : Reason) → PassesLimitBy Stops reason
    → (why : Unreadable) × Stops why × (limit_of why ≡ Some reason)
over Stops reason (inl (s, is)) = (TooLong, s, ap Some (sym is))
over Stops reason (inr (place, s, is)) = (Past place, s, ap Some (sym is))

module _ (Stops : Name → Unreadable → Type 0)
    (one : (file other : Name) (why reason : Unreadable) → Stops file why → Stops other reason → (file ≡ other) × (why ≡ reason)) where
  pub one_limit : (file other : Name) (reason r : Reason) → PassesLimitBy (Stops file) reason → PassesLimitBy (Stops other) r
      → (file ≡ other) × (reason ≡ r)
  one_limit file other reason r limit limit' =
      let (why, s, for) = over (Stops file) reason limit in
      let (why', s', for') = over (Stops other) r limit' in
      let same = one file other why why' s s' in
      (same.0, same_Some reason r (sym for ∙ ap limit_of same.1 ∙ for'))

  pub limit_not_missing : (file other : Name) (reason : Reason) → PassesLimitBy (Stops file) reason → Stops other Missing → ⊥
  limit_not_missing file other reason limit s' =
      let (why, s, for) = over (Stops file) reason limit in
      none-some reason (ap limit_of (sym (one file other why Missing s s').1) ∙ for)
