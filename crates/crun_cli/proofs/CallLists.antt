-- The calls of a list, one by one.
use Rattle.crun_cli.proofs.Common.{◌≡◌, ℕ, ◌+◌, ◌<◌, List, [], ◌∷◌, ◌++◌, length, get_or, take, drop, sym, arith, length-take-le}
use Rattle.crun_cli.proofs.Common.{length-map, mapped_next, mapped_split, call_seen, calls_seen}
use Rattle.crun_job.specs.declared.calls_file.NamedCall.{NamedCall}

pub calls_split : (calls : List NamedCall) (k : ℕ) (call : NamedCall) → k < length calls → call ≡ get_or calls k call
    → take k (calls_seen calls) ++ call_seen call ∷ drop (k + 1) (calls_seen calls) ≡ calls_seen calls
calls_split calls k call less at = sym (mapped_split call_seen calls k call less at)

pub calls_before : (calls : List NamedCall) (k : ℕ) → k < length calls → length (take k (calls_seen calls)) ≡ k
calls_before calls k less = length-take-le k (calls_seen calls) (omega (arith, less, length-map calls call_seen))

pub calls_next : (calls : List NamedCall) (k : ℕ) (call : NamedCall) → k < length calls → call ≡ get_or calls k call
    → take k (calls_seen calls) ++ call_seen call ∷ [] ≡ take (k + 1) (calls_seen calls)
calls_next calls k call less at = sym (mapped_next call_seen calls k call less at)
