-- The symbols of functions by their numbers, where there is a module or a function more.
use Rattle.host_replay.proofs.Common.{◌≡◌, ℕ, zero, suc, ◌⊎◌, List, [], ◌∷◌, ◌++◌, length, slice_get, Some, option_map, refl, ap, inl, inr}
use Rattle.host_replay.proofs.Common.{Host, HostFunction, symbol_at, symbol_of, with_function}

pub module_more : (hosts : List Host) (name : List ℕ) (h f : ℕ)
    → symbol_at (hosts ++ record { name = name; functions = [] } ∷ []) h f ≡ symbol_at hosts h f
module_more [] name zero f = refl
module_more [] name (suc h) f = refl
module_more (m ∷ hosts) name zero f = refl
module_more (m ∷ hosts) name (suc h) f = module_more hosts name h f

module _ (m : Host) (x : HostFunction) where
  last_more : (functions : List HostFunction) (f : ℕ) (s : List ℕ) → option_map (symbol_of m) (slice_get (functions ++ x ∷ []) f) ≡ Some s
      → (option_map (symbol_of m) (slice_get functions f) ≡ Some s) ⊎ ((f ≡ length functions) × (symbol_of m x ≡ s))
  last_more [] zero s e = inr (refl, cc)
  last_more [] (suc f) s e = absurd cc
  last_more (y ∷ functions) zero s e = inl e
  last_more (y ∷ functions) (suc f) s e = elim (last_more functions f s e) [
    | inl h ↦ inl h
    | inr h ↦ inr (ap suc h.0, h.1)
  ]

  last_kept : (functions : List HostFunction) (f : ℕ) (s : List ℕ) → option_map (symbol_of m) (slice_get functions f) ≡ Some s
      → option_map (symbol_of m) (slice_get (functions ++ x ∷ []) f) ≡ Some s
  last_kept [] f s e = absurd cc
  last_kept (y ∷ functions) zero s e = e
  last_kept (y ∷ functions) (suc f) s e = last_kept functions f s e

  last_there : (functions : List HostFunction)
      → option_map (symbol_of m) (slice_get (functions ++ x ∷ []) (length functions)) ≡ Some (symbol_of m x)
  last_there [] = refl
  last_there (y ∷ functions) = last_there functions

module _ (last : Host) (x : HostFunction) where
  -- a function more has the next number of the last module
  pub function_more : (front : List Host) (h f : ℕ) (s : List ℕ) → symbol_at (front ++ with_function last x ∷ []) h f ≡ Some s
      → (symbol_at (front ++ last ∷ []) h f ≡ Some s) ⊎ ((h ≡ length front) × (f ≡ length last.functions) × (symbol_of last x ≡ s))
  function_more [] zero f s e = elim (last_more last x last.functions f s e) [
    | inl h ↦ inl h
    | inr h ↦ inr (refl, h.0, h.1)
  ]
  function_more [] (suc h) f s e = absurd cc
  function_more (m ∷ front) zero f s e = inl e
  function_more (m ∷ front) (suc h) f s e = elim (function_more front h f s e) [
    | inl old ↦ inl old
    | inr new ↦ inr (ap suc new.0, new.1, new.2)
  ]

  pub function_kept : (front : List Host) (h f : ℕ) (s : List ℕ) → symbol_at (front ++ last ∷ []) h f ≡ Some s
      → symbol_at (front ++ with_function last x ∷ []) h f ≡ Some s
  function_kept [] zero f s e = last_kept last x last.functions f s e
  function_kept [] (suc h) f s e = absurd cc
  function_kept (m ∷ front) zero f s e = e
  function_kept (m ∷ front) (suc h) f s e = function_kept front h f s e

  pub function_there : (front : List Host)
      → symbol_at (front ++ with_function last x ∷ []) (length front) (length last.functions) ≡ Some (symbol_of last x)
  function_there [] = last_there last x last.functions
  function_there (m ∷ front) = function_there front
