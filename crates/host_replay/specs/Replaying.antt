-- What hosts reply that reply again what a journal says.
use Rattle.std.specs.Prelude.{◌≡◌, ◌==◌, ◌⊎◌, ℕ, ◌+◌, Bool, List, [], ◌∷◌, slice_get, option_map, Some, filter}
use Rattle.w2c_base.specs.declared.value.Value.{Value}
use Rattle.c_hosts.specs.declared.host.HostFunction.{HostFunction}
use Rattle.c_meaning.specs.declared.reply.HostReply.{HostReply}
use Rattle.c_meaning.specs.declared.reply.HostReply.TheVariants as reply
use Rattle.c_hosts.specs.declared.journal.Asked.{Asked}
use Rattle.c_hosts.specs.Asking.{function_of}
use Rattle.host_replay.specs.Fitting.{fits_function}

-- the calls of the module with this number, in order
abbrev pub calls_of : ℕ → List Asked → List Asked
calls_of k entries = filter (λ a. a.host == k) entries

-- a call of this module's functions, with arguments and a reply of its types
abbrev pub fits_own : List HostFunction → Asked → Bool
fits_own functions a = fits_function (option_map function_of (slice_get functions a.function)) a

-- the entry that is next, of these behind so many that are used, is of this function with these arguments
pub record IsNext (entries : List Asked) (before : List ℕ) (i : ℕ) (args : List Value) (e : Asked) : Type 0 where
  pub used : ℕ
  pub before_is : before ≡ used ∷ []
  pub entry_is : slice_get entries used ≡ Some e
  pub function_is : e.function ≡ i
  pub args_are : e.args ≡ args

-- it is used up, and its reply is given
pub record Again (entries : List Asked) (before : List ℕ) (i : ℕ) (args : List Value) (answer : HostReply) (after : List ℕ) : Type 0 where
  pub entry : Asked
  pub next : IsNext entries before i args entry
  pub reply_is : answer ≡ entry.reply
  pub after_is : after ≡ (next.used + 1) ∷ []

-- there is none: a trap, and nothing is used up
pub record Other (entries : List Asked) (before : List ℕ) (i : ℕ) (args : List Value) (answer : HostReply) (after : List ℕ) : Type 0 where
  pub none : (e : Asked) → IsNext entries before i args e → ⊥
  pub reply_is : answer ≡ reply.Trap
  pub after_is : after ≡ before

abbrev pub Replays : List Asked → List ℕ → ℕ → List Value → HostReply → List ℕ → Type 0
Replays entries before i args answer after = Again entries before i args answer after ⊎ Other entries before i args answer after
