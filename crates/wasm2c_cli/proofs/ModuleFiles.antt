-- The files of modules, one module after another.
use Rattle.wasm2c_cli.proofs.Common.{◌≡◌, ℕ, suc, ◌+◌, ◌≤◌, List, [], ◌∷◌, ◌++◌, map, length, take, drop, OnOk, OnErr, slice_get, Some, Ok}
use Rattle.wasm2c_cli.proofs.Common.{Err, string_bytes, Option, Result, sym, refl, ap, ◌∙◌, subst, inl, inr, arith, AllByRecursion}
use Rattle.wasm2c_cli.proofs.Common.{take_next, both_passed, Faulted, Name, Told, holding, Event, Passes, WriteAnswer, both_written}
use Rattle.wasm2c_cli.proofs.Common.{at_before, at_behind, at_first, stands_before, stands_behind, written_joined, WritesFiles, IsBegun}
use Rattle.wasm2c_cli.proofs.Common.{IsOneOf, Stands, StandsAt, file_names, written, Module, files_of, module_files, IsNamed, StopsAtFile}
use Rattle.wasm2c_cli.proofs.Common.{StopsWriting, seen_target, seen_targets, EndsWriting, names_of_targets, Stop}
use Rattle.w2c_io.specs.declared.answers.WriteAnswer.TheVariants as answers
use Rattle.w2c_io.proofs.Telling.{rose_from}
use Rattle.w2c_io.specs.Causes.{WriteCause}
use Rattle.wasm2c_cli.specs.declared.plan.Target.{Target}
use Rattle.wasm2c_cli.specs.declared.stop.Stop.TheVariants as stops
use Rattle.wasm2c_cli.specs.Plan as plan
use Rattle.wasm2c_cli.proofs.Passing.{ends_among}
use Rattle.std.proofs.Common.{IsErrOf, min, take_all}
use Rattle.std.proofs.lemmas.List.{length-map, length-take, map_push}
use Rattle.w2c_base.proofs.OfEach.{all_push}
use Rattle.w2c_base.proofs.Places.{around, seen_at}

-- ---- what holds, whatever the answer

pub in_ok : {A E P : Type 0} (result : Result A E) → P → OnOk result P
in_ok (Ok x) holds = holds
in_ok (Err e) holds = tt

pub in_err : {A E P : Type 0} (result : Result A E) → P → OnErr result P
in_err (Ok x) holds = tt
in_err (Err e) holds = holds

-- ---- files one after another, which the calls had under names and with texts that are equal to theirs

pub both_stand : (old middle new : Told) (f g : Name × List ℕ) (files : List (Name × List ℕ)) → f ∷ g ∷ [] ≡ files
    → middle ≡ holding old f.0 f.1 → new ≡ holding middle g.0 g.1 → new ≡ written old files
both_stand old middle new f g files same one two = two ∙ ap (λ (t : Told). holding t g.0 g.1) one ∙ ap (written old) same

-- the stop at a file that stands in part
stops_at : (old new : Told) (files : List (Name × List ℕ)) (before after : ℕ) (named : Option Name) (answer : WriteAnswer) (file : Name)
    (stop : Stop) → StandsAt old new files file → (answer ≡ answers.Failed → Faulted file before after named) → StopsAtFile answer file stop
    → StopsWriting old new files before after named stop
stops_at old new files before after named answer file (stops.Unwritten name) stands faulted (failed, same) =
    (subst (λ (n : Name). Faulted n before after named) (sym same) (faulted failed), subst (StandsAt old new files) (sym same) stands)
stops_at old new files before after named answer file stops.Memory stands faulted is = inr (file, stands)
stops_at old new files before after named answer file _ stands faulted is = absurd is

-- at the first of files, and at the second
pub first_stops : (old new : Told) (before after : ℕ) (named : Option Name) (answer : WriteAnswer) (stop : Stop) (f : Name × List ℕ)
    (rest files : List (Name × List ℕ)) → f ∷ rest ≡ files → IsBegun old new f.0 f.1 → WriteCause {A = Unit {0}} before after (Err answer)
    → (IsErrOf {T = Unit {0}} {E = WriteAnswer} (Err answer) answers.Failed → named ≡ Some f.0) → StopsAtFile answer f.0 stop
    → StopsWriting old new files before after named stop
first_stops old new before after named answer stop f rest files same begun cause is_named stops =
    subst (λ (l : List (Name × List ℕ)). StopsWriting old new l before after named stop) same
    (stops_at old new (f ∷ rest) before after named answer f.0 stop (at_first old new f.0 f.1 rest begun)
    (λ failed. record { rose = cause.failed (ap Err failed); named = is_named (ap Err failed) }) stops)

pub second_stops : (old mid new : Told) (start here after : ℕ) (named : Option Name) (answer : WriteAnswer) (stop : Stop)
    (f g : Name × List ℕ) (files : List (Name × List ℕ)) → f ∷ g ∷ [] ≡ files → mid ≡ holding old f.0 f.1 → start ≤ here
    → IsBegun mid new g.0 g.1 → WriteCause {A = Unit {0}} here after (Err answer)
    → (IsErrOf {T = Unit {0}} {E = WriteAnswer} (Err answer) answers.Failed → named ≡ Some g.0) → StopsAtFile answer g.0 stop
    → StopsWriting old new files start after named stop
second_stops old mid new start here after named answer stop f g files same one later begun cause is_named stops =
    subst (λ (l : List (Name × List ℕ)). StopsWriting old new l start after named stop) same
    (stops_at old new (f ∷ g ∷ []) start after named answer g.0 stop
    (at_behind old mid new (f ∷ []) (g ∷ []) g.0 one (at_first mid new g.0 g.1 [] begun))
    (λ failed. record { rose = rose_from start here after later (cause.failed (ap Err failed)); named = is_named (ap Err failed) }) stops)

-- ---- the files of all modules

files_joined : (ts us : List plan.Target) (ms ns : List Module) → length ms ≡ length ts
    → files_of (ts ++ us) (ms ++ ns) ≡ files_of ts ms ++ files_of us ns
files_joined [] us [] ns same = refl
files_joined (t ∷ ts) us (m ∷ ms) ns same =
    ap (λ (l : List (Name × List ℕ)). module_files t m ++ l) (files_joined ts us ms ns (omega (arith, same)))
files_joined _ us _ ns same = absurd (omega (arith, same))

-- the modules at a place, and those in front of it
module _ (targets : List plan.Target) (modules : List Module) (k : ℕ) (t : plan.Target) (m : Module)
    (at : slice_get targets k ≡ Some t) (at' : slice_get modules k ≡ Some m) (many : length modules ≡ length targets) where
  abbrev rest : List (Name × List ℕ)
  rest = files_of (drop (suc k) targets) (drop (suc k) modules)

  front : length (take k modules) ≡ length (take k targets)
  front = length-take k modules ∙ ap (min k) many ∙ sym (length-take k targets)

  all_files : files_of targets modules ≡ files_of (take k targets) (take k modules) ++ (module_files t m ++ rest)
  all_files = (λ i. files_of (around targets k t at i) (around modules k m at' i))
      ∙ files_joined (take k targets) (t ∷ drop (suc k) targets) (take k modules) (m ∷ drop (suc k) modules) front

  next_files : files_of (take (k + 1) targets) (take (k + 1) modules) ≡ files_of (take k targets) (take k modules) ++ module_files t m
  next_files = (λ i. files_of (take_next targets k t at i) (take_next modules k m at' i))
      ∙ files_joined (take k targets) (t ∷ []) (take k modules) (m ∷ []) front

  module _ (old before new : Told) (so_far : before ≡ written old (files_of (take k targets) (take k modules))) where
    pub one_more : new ≡ written before (module_files t m) → new ≡ written old (files_of (take (k + 1) targets) (take (k + 1) modules))
    one_more one = one ∙ ap (λ (told : Told). written told (module_files t m)) so_far
        ∙ sym (written_joined old (files_of (take k targets) (take k modules)) (module_files t m)) ∙ ap (written old) (sym next_files)

    pub stops_all : (start here after : ℕ) (named : Option Name) (stop : Stop) → start ≤ here
        → StopsWriting before new (module_files t m) here after named stop
        → StopsWriting old new (files_of targets modules) start after named stop
    stops_all start here after named (stops.Unwritten name) later (faulted, stands) = (
      record { rose = rose_from start here after later faulted.rose; named = faulted.named },
      subst (λ (l : List (Name × List ℕ)). StandsAt old new l (string_bytes name)) (sym all_files)
          (at_behind old before new (files_of (take k targets) (take k modules)) (module_files t m ++ rest) (string_bytes name) so_far
          (at_before before new (module_files t m) rest (string_bytes name) stands)),
    )
    stops_all start here after named stops.Memory later stands =
        subst (λ (l : List (Name × List ℕ)). Stands old new l) (sym all_files)
        (stands_behind old before new (files_of (take k targets) (take k modules)) (module_files t m ++ rest) so_far
        (stands_before before new (module_files t m) rest stands))
    stops_all start here after named _ later why = absurd why

  -- the same of what was put
  module _ (old before new : List Event) (so_far : Passes old before (WritesFiles (files_of (take k targets) (take k modules)))) where
    pub one_more_put : Passes before new (WritesFiles (module_files t m))
        → Passes old new (WritesFiles (files_of (take (k + 1) targets) (take (k + 1) modules)))
    one_more_put one = subst (λ (l : List (Name × List ℕ)). Passes old new (WritesFiles l)) (sym next_files)
        (both_passed old before new (WritesFiles (files_of (take k targets) (take k modules))) (WritesFiles (module_files t m))
        (WritesFiles (files_of (take k targets) (take k modules) ++ module_files t m))
        (both_written (files_of (take k targets) (take k modules)) (module_files t m)) so_far one)

    pub ends_all : (stop : Stop) → Passes before new (EndsWriting (module_files t m) stop)
        → Passes old new (EndsWriting (files_of targets modules) stop)
    ends_all stop tried = subst (λ (l : List (Name × List ℕ)). Passes old new (EndsWriting l stop)) (sym all_files)
        (both_passed old before new (WritesFiles (files_of (take k targets) (take k modules))) (EndsWriting (module_files t m) stop)
        (EndsWriting (files_of (take k targets) (take k modules) ++ (module_files t m ++ rest)) stop) (λ first last whole ends.
        ends_among (files_of (take k targets) (take k modules)) (module_files t m) rest first last stop whole ends) so_far tried)

-- ---- what holds of each

pub named_more : (ts : List plan.Target) (k : ℕ) (t : plan.Target) → slice_get ts k ≡ Some t → AllByRecursion IsNamed (take k ts)
    → IsNamed t → AllByRecursion IsNamed (take (k + 1) ts)
named_more ts k t at all one = rw (take_next ts k t at) (all_push IsNamed (take k ts) t all one)

-- ---- the names of the files

pub one_of_targets : (ts : List plan.Target) (ms : List Module) (name : Name) → IsOneOf name (file_names (files_of ts ms))
    → IsOneOf name (names_of_targets ts)
one_of_targets [] ms name one = one
one_of_targets (t ∷ ts) [] name one = absurd one
one_of_targets (t ∷ ts) (m ∷ ms) name (inl same) = inl same
one_of_targets (t ∷ ts) (m ∷ ms) name (inr (inl same)) = inr (inl same)
one_of_targets (t ∷ ts) (m ∷ ms) name (inr (inr one)) = inr (inr (one_of_targets ts ms name one))

-- ---- the targets of a set

pub one_more_target : (f : Name → plan.Target) (names : List Name) (k : ℕ) (name : Name) (ts more : List Target) (t : Target)
    → slice_get names k ≡ Some name → seen_targets ts ≡ take k (map f names) → seen_target t ≡ f name → more ≡ ts ++ t ∷ []
    → seen_targets more ≡ take (k + 1) (map f names)
one_more_target f names k name ts more t at so_far is same =
    ap seen_targets same ∙ map_push seen_target ts t ∙ (λ i. so_far i ++ is i ∷ [])
    ∙ sym (take_next (map f names) k (f name) (seen_at f names k name at))

pub all_targets : (f : Name → plan.Target) (names : List Name) (k : ℕ) (ts : List Target) → k ≡ length names
    → seen_targets ts ≡ take k (map f names) → seen_targets ts ≡ map f names
all_targets f names k ts end so_far = so_far ∙ take_all k (map f names) (omega (arith, end, length-map names f))
