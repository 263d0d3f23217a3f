-- The names that a script gives to modules have 1 to 1,024 bytes.
use Rattle.wast_run.proofs.Common.{◌≡◌, ℕ, ◌≤◌, Bool, true, false, ◌&&◌, List, [], ◌∷◌, length, if◌then◌else◌, nat_le, Some, None, codes}
use Rattle.wast_run.proofs.Common.{Option, option_map, find, option_and_then, bytes_eq, refl, subst, arith, none-some, same_Some}
use Rattle.wast_run.proofs.Common.{AllByRecursion, TrapKind, Value, Command, IsScript, HasModuleName}
use Rattle.std.proofs.lemmas.Bool.Decides.{nat_tests}
use Rattle.serde_json.specs.Data.{Data}
use Rattle.w2c_base.proofs.Conjunctions.{both_hold}
use Rattle.program_words.specs.Tests.{is_module_name}
use Rattle.wast_script.specs.Commands as script
use Rattle.wast_script.specs.Commands.{Call}
use Rattle.wast_script.specs.Forms.{call_in, cause_in, command_by, command_of, expected_in, kind_named, kind_text, kinds, module_with}
use Rattle.wast_script.specs.Forms.{return_with, trap_with}
use Rattle.wast_script.specs.Values.{text_in}
use Rattle.wast_script.specs.Lists.{all_given}

-- something that is made of what was found
of_found : {A : Type 0} (make : A → Command) → ((a : A) → HasModuleName (make a)) → (o : Option A) (c : Command)
    → option_map make o ≡ Some c → HasModuleName c
of_found make holds None c is = absurd (none-some c is)
of_found make holds (Some a) c is = subst HasModuleName (same_Some (make a) c is) (holds a)

long_enough : (n : ℕ) → nat_le 1 n && nat_le n 1024 ≡ true → (1 ≤ n) × (n ≤ 1024)
long_enough n is = let h = both_hold (nat_le 1 n) (nat_le n 1024) is in (grind (arith, nat_tests, h.0), grind (arith, nat_tests, h.1))

of_module : (name filename : Option (List ℕ)) (c : Command)
    → option_map script.Module (module_with name filename) ≡ Some c → HasModuleName c
of_module (Some name) (Some filename) c is = by (is_module_name name) refl is
  where
    by : (b : Bool) → is_module_name name ≡ b
        → option_map script.Module (if b then Some (record { name = name; filename = filename }) else None) ≡ Some c → HasModuleName c
    by true named is = subst HasModuleName (same_Some _ c is) (long_enough (length name) named)
    by false named is = absurd (none-some c is)
of_module _ _ c is = absurd (none-some c is)

of_return : (call : Option Call) (expected : Option (Option Value)) (c : Command) → return_with call expected ≡ Some c → HasModuleName c
of_return (Some call) (Some expected) c is = subst HasModuleName (same_Some (script.AssertReturn call expected) c is) tt
of_return _ _ c is = absurd (none-some c is)

of_trap : (call : Option Call) (cause : Option TrapKind) (c : Command) → trap_with call cause ≡ Some c → HasModuleName c
of_trap (Some call) (Some cause) c is = subst HasModuleName (same_Some (script.AssertTrap call cause) c is) tt
of_trap _ _ c is = absurd (none-some c is)

-- what each of some kinds gives, the first of them that passes gives
of_first : {A : Type 0} (f : A → Option Command) (passes : A → Bool) (xs : List A)
    → AllByRecursion (λ x. (c : Command) → f x ≡ Some c → HasModuleName c) xs
    → (c : Command) → option_and_then f (find passes xs) ≡ Some c → HasModuleName c
of_first f passes [] all c is = absurd (none-some c is)
of_first f passes (x ∷ xs) all c is = by (passes x) (of_first f passes xs all.1 c) is
  where
    by : (b : Bool) → (option_and_then f (find passes xs) ≡ Some c → HasModuleName c)
        → option_and_then f (if b then Some x else find passes xs) ≡ Some c → HasModuleName c
    by true others is = all.0 c is
    by false others is = others is

of_text : (d : Data) (text : Option (List ℕ)) (c : Command)
    → option_and_then (command_by d) (option_and_then kind_named text) ≡ Some c → HasModuleName c
of_text d None c is = absurd (none-some c is)
of_text d (Some text) c is =
    let call = call_in d in
    let file = text_in (codes "filename") d in
    let joins = of_module (text_in (codes "name") d) file in
    let invokes = of_found script.Invoke (λ call. tt) call in
    let returns = of_return call (expected_in d) in
    let traps = of_trap call (cause_in d) in
    let invalid = of_found script.AssertInvalid (λ file. tt) file in
    let malformed = of_found script.AssertMalformed (λ file. tt) file in
    of_first (command_by d) (λ kind. bytes_eq (kind_text kind) text) kinds
    (joins, (invokes, (returns, (traps, (invalid, (malformed, tt)))))) c is

all_named : (ds : List Data) (commands : List Command) → all_given command_of ds ≡ Some commands → AllByRecursion HasModuleName commands
all_named [] commands is = subst (AllByRecursion HasModuleName) (same_Some [] commands is) tt
all_named (d ∷ ds) commands is = by (command_of d) refl (all_given command_of ds) (all_named ds) is
  where
    by : (o : Option Command) → command_of d ≡ o → (all : Option (List Command))
        → ((commands : List Command) → all ≡ Some commands → AllByRecursion HasModuleName commands)
        → option_and_then (λ y. option_map (λ ys. y ∷ ys) all) o ≡ Some commands → AllByRecursion HasModuleName commands
    by None of all named is = absurd (none-some commands is)
    by (Some c) of None named is = absurd (none-some commands is)
    by (Some c) of (Some cs) named is =
        subst (AllByRecursion HasModuleName) (same_Some (c ∷ cs) commands is) (of_text d (text_in (codes "type") d) c of, named cs refl)

pub names_of_script : (text : List ℕ) (commands : List Command) → IsScript text commands → AllByRecursion HasModuleName commands
names_of_script text commands is = all_named is.has_commands.objects commands is.has_commands.commands_are
