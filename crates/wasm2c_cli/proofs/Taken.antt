-- Bytes that are accepted in order, and the first that are refused.
use Rattle.wasm2c_cli.proofs.Common.{◌≡◌, ℕ, zero, suc, ◌+◌, List, [], ◌∷◌, ◌++◌, length, take, slice_get, Some, None, string_bytes, Option}
use Rattle.wasm2c_cli.proofs.Common.{MatchOption, sym, refl, ap, subst, inl, inr, take_next, Name, IsOneOf, AreBytes, Module, Accepted}
use Rattle.wasm2c_cli.proofs.Common.{is_invalid, IsRefusal, AreAccepted, AreTaken, StopsAccepting, StopsAtRefused, IsFirstRefused}
use Rattle.wasm2c_cli.proofs.Common.{IsRefused, reason_of, Reason, Stop}
use Rattle.wasm_spelling.specs.declared.fault.ReadFault.TheVariants as fault
use Rattle.wasm_valid.specs.FileVerdict.{Unread, Read, IsVerdictOn}
use Rattle.w2c_sim.specs.declared.refusal.Refusal.{Refusal}
use Rattle.w2c_sim.specs.declared.refusal.Refusal.TheVariants as refusals
use Rattle.wasm2c_cli.specs.declared.stop.Stop.TheVariants as stops

-- ---- the refusal of bytes

-- what a refusal's reason says of the bytes
pub refused_for : (bytes : List ℕ) (refusal : Refusal) → IsRefusal bytes refusal
    → MatchOption (reason_of refusal) (Unit {0}) (IsRefused bytes)
refused_for bytes (refusals.Malformed place cause) is = (Unread (fault.Malformed place cause), is, refl)
refused_for bytes (refusals.Float place) is = (Unread (fault.Float place), is, refl)
refused_for bytes (refusals.Limit place which) is = (Unread (fault.Limit place which), is, refl)
refused_for bytes (refusals.Invalid place cause) is = (Read is.0 (is_invalid (record { place = place; cause = cause })), is.1, refl)
refused_for bytes refusals.Memory is = tt

-- ---- one more that is accepted

taken_joined : (sources : List (List ℕ)) (modules : List Module) (bytes : List ℕ) (m : Module) → AreTaken sources modules
    → AreBytes bytes → IsVerdictOn bytes (Read m Accepted) → AreTaken (sources ++ bytes ∷ []) (modules ++ m ∷ [])
taken_joined [] [] bytes m taken are is = ((are, is), tt)
taken_joined (b ∷ sources) (n ∷ modules) bytes m taken are is = (taken.0, taken_joined sources modules bytes m taken.1 are is)
taken_joined _ _ bytes m taken are is = absurd taken

pub one_more_taken : (sources : List (List ℕ)) (k : ℕ) (bytes : List ℕ) (modules more : List Module) (m : Module)
    → slice_get sources k ≡ Some bytes → AreTaken (take k sources) modules → AreBytes bytes → IsVerdictOn bytes (Read m Accepted)
    → more ≡ modules ++ m ∷ [] → AreTaken (take (k + 1) sources) more
one_more_taken sources k bytes modules more m at taken are is same =
    rw same (rw (take_next sources k bytes at) (taken_joined (take k sources) modules bytes m taken are is))

-- ---- the first that is refused

pub first_refused : (names : List Name) (sources : List (List ℕ)) (modules : List Module) (k : ℕ) (name : Name) (bytes : List ℕ)
    (reason : Reason) → slice_get names k ≡ Some name → slice_get sources k ≡ Some bytes → AreTaken (take k sources) modules
    → IsRefused bytes reason → IsFirstRefused names sources name reason
first_refused (n ∷ names) (b ∷ sources) modules zero name bytes reason at at' taken is =
    let same : n ≡ name = cc in
    let same' : b ≡ bytes = cc in
    inl (sym same, subst (λ (l : List ℕ). IsRefused l reason) (sym same') is)
first_refused (n ∷ names) (b ∷ sources) [] (suc k) name bytes reason at at' taken is = absurd taken
first_refused (n ∷ names) (b ∷ sources) (m ∷ modules) (suc k) name bytes reason at at' taken is =
    inr ((m, taken.0.1), first_refused names sources modules k name bytes reason at at' taken.1 is)
first_refused _ _ modules k name bytes reason at at' taken is = cc

pub refused_is_one : (names : List Name) (sources : List (List ℕ)) (name : Name) (reason : Reason)
    → IsFirstRefused names sources name reason → IsOneOf name names
refused_is_one (n ∷ names) (b ∷ sources) name reason (inl (same, is)) = inl same
refused_is_one (n ∷ names) (b ∷ sources) name reason (inr (accepted, first)) = inr (refused_is_one names sources name reason first)
refused_is_one _ _ name reason first = absurd first

-- ---- what is taken is accepted

pub taken_accepted : (sources : List (List ℕ)) (modules : List Module) → AreTaken sources modules → AreAccepted sources modules
taken_accepted [] [] taken = tt
taken_accepted (b ∷ sources) (m ∷ modules) taken = (taken.0.1, taken_accepted sources modules taken.1)
taken_accepted _ _ taken = absurd taken

pub length-taken : (sources : List (List ℕ)) (modules : List Module) → AreTaken sources modules → length modules ≡ length sources
length-taken [] [] taken = refl
length-taken (b ∷ sources) (m ∷ modules) taken = ap suc (length-taken sources modules taken.1)
length-taken _ _ taken = absurd taken

some_reason : (bytes : List ℕ) (o : Option Reason) (reason : Reason) → o ≡ Some reason → MatchOption o (Unit {0}) (IsRefused bytes)
    → IsRefused bytes reason
some_reason bytes None reason is refused = cc
some_reason bytes (Some r) reason is refused = let same : r ≡ reason = cc in subst (IsRefused bytes) same refused

pub stops_accepting : (names : List Name) (sources : List (List ℕ)) (modules : List Module) (k : ℕ) (bytes : List ℕ) (refusal : Refusal)
    (stop : Stop) → slice_get sources k ≡ Some bytes → AreTaken (take k sources) modules → IsRefusal bytes refusal
    → StopsAtRefused refusal names k stop → StopsAccepting names sources stop
stops_accepting names sources modules k bytes refusal (stops.Refused name reason) at taken is (because, named) =
    first_refused names sources modules k (string_bytes name) bytes reason named at taken
    (some_reason bytes (reason_of refusal) reason because (refused_for bytes refusal is))
stops_accepting names sources modules k bytes refusal stops.Memory at taken is why = tt
stops_accepting names sources modules k bytes refusal _ at taken is why = absurd why
