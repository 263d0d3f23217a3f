-- A text comes to one thing at most.
use Rattle.wast_script.proofs.Common.{◌≡◌, ℕ, ◌+◌, ◌<◌, ◌≤◌, ◌≢◌, List, [], ◌∷◌, length, Some, None, Option, option_map, option_and_then}
use Rattle.wast_script.proofs.Common.{sym, refl, ap, ◌∙◌, arith, Data, position_from, command_of, all_given, gives_nothing, HasFault}
use Rattle.wast_script.proofs.Common.{IsFault, IsJson, IsScript, is_formless, most_script_bytes, objects_in}
use Rattle.wast_script.specs.declared.fault.ScriptFault.{ScriptFault}
use Rattle.wast_script.specs.declared.fault.ScriptFault.TheVariants as fault
use Rattle.wast_script.specs.Commands.{Command}

one_some : {A : Type 0} (a b : A) (o : Option A) → o ≡ Some a → o ≡ Some b → a ≡ b
one_some {A = A} a b o is other = let both : ◌≡◌ {A = Option A} (Some a) (Some b) = sym is ∙ other in cc

none_some : {A : Type 0} (a : A) (o : Option A) → o ≡ None → o ≡ Some a → ⊥
none_some {A = A} a o none is = let both : ◌≡◌ {A = Option A} None (Some a) = sym none ∙ is in cc

one_json : (text : List ℕ) (d e : Data) → IsJson text d → IsJson text e → d ≡ e
one_json text d e is other = one_some d e _ is.1 other.1

same_objects : (d e : Data) (objects others : List Data) → d ≡ e → objects_in d ≡ Some objects → objects_in e ≡ Some others
    → objects ≡ others
same_objects d e objects others same is other = one_some objects others (objects_in d) is (ap objects_in same ∙ other)

-- where each item gives something, none gives nothing
none_formless : {A B : Type 0} (f : A → Option B) (xs : List A) (ys : List B) (i : ℕ) → all_given f xs ≡ Some ys
    → position_from (gives_nothing f) i xs ≡ None
none_formless f [] ys i given = refl
none_formless {B = B} f (x ∷ xs) ys i given = by_first (f x) refl (λ zs is. none_formless f xs zs (i + 1) is) given
  where
    by_rest : (y : B) (o : Option (List B)) → ((zs : List B) → o ≡ Some zs → position_from (gives_nothing f) (i + 1) xs ≡ None)
        → option_map (λ ys. y ∷ ys) o ≡ Some ys → position_from (gives_nothing f) (i + 1) xs ≡ None
    by_rest y None rest given = absurd cc
    by_rest y (Some zs) rest given = rest zs refl

    by_first : (o : Option B) → f x ≡ o → ((zs : List B) → all_given f xs ≡ Some zs → position_from (gives_nothing f) (i + 1) xs ≡ None)
        → option_and_then (λ y. option_map (λ ys. y ∷ ys) (all_given f xs)) o ≡ Some ys → position_from (gives_nothing f) i (x ∷ xs) ≡ None
    by_first None is rest given = absurd cc
    by_first (Some y) is rest given = rw is (by_rest y (all_given f xs) rest given)

-- ---- a text says one script

pub one_script : (text : List ℕ) (a b : List Command) → IsScript text a → IsScript text b → a ≡ b
one_script text a b is other =
    let same = one_json text is.json other.json is.is_json other.is_json in
    let mine = is.has_commands in
    let yours = other.has_commands in
    let objects = same_objects is.json other.json mine.objects yours.objects same mine.objects_are yours.objects_are in
    one_some a b (all_given command_of mine.objects) mine.commands_are (ap (all_given command_of) objects ∙ yours.commands_are)

-- ---- or it has one fault

module _ (text : List ℕ) where
  long : (b : ScriptFault) → b ≢ fault.Memory → most_script_bytes < length text → IsFault text b → fault.TooLong ≡ b
  long fault.TooLong other too_long is = refl
  long fault.NotJson other too_long is = absurd (omega (arith, too_long, is.0))
  long fault.Memory other too_long is = absurd (other refl)
  long _ other too_long is = absurd (let short = is.short in omega (arith, too_long, short))

  no_json : (b : ScriptFault) → b ≢ fault.Memory → length text ≤ most_script_bytes → ((d : Data) → IsJson text d → ⊥) → IsFault text b
      → fault.NotJson ≡ b
  no_json fault.TooLong other short none is = absurd (omega (arith, short, is))
  no_json fault.NotJson other short none is = refl
  no_json fault.Memory other short none is = absurd (other refl)
  no_json _ other short none is = absurd (none is.json is.is_json)

  module _ (short : length text ≤ most_script_bytes) (json : Data) (is_json : IsJson text json) where
    no_commands : (b : ScriptFault) → b ≢ fault.Memory → objects_in json ≡ None → IsFault text b → fault.NoCommands ≡ b
    no_commands fault.TooLong other none is = absurd (omega (arith, short, is))
    no_commands fault.NotJson other none is = absurd (is.1 json is_json)
    no_commands fault.NoCommands other none is = refl
    no_commands (fault.Command n) other none is =
        let same = one_json text is.json json is.is_json is_json in
        absurd (none_some is.fault_is.objects (objects_in is.json) (ap objects_in same ∙ none) is.fault_is.objects_are)
    no_commands fault.Memory other none is = absurd (other refl)

    one_formless : (m : ℕ) (b : ScriptFault) → b ≢ fault.Memory → HasFault json m → IsFault text b → fault.Command m ≡ b
    one_formless m fault.TooLong other mine is = absurd (omega (arith, short, is))
    one_formless m fault.NotJson other mine is = absurd (is.1 json is_json)
    one_formless m fault.NoCommands other mine is =
        let same = one_json text is.json json is.is_json is_json in
        absurd (none_some mine.objects (objects_in json) (ap objects_in (sym same) ∙ is.fault_is) mine.objects_are)
    one_formless m (fault.Command n) other mine is =
        let same = one_json text json is.json is_json is.is_json in
        let objects = same_objects json is.json mine.objects is.fault_is.objects same mine.objects_are is.fault_is.objects_are in
        ap fault.Command (one_some m n (position_from is_formless 1 mine.objects) mine.number_is
        (ap (position_from is_formless 1) objects ∙ is.fault_is.number_is))
    one_formless m fault.Memory other mine is = absurd (other refl)

  pub one_fault : (a b : ScriptFault) → a ≢ fault.Memory → b ≢ fault.Memory → IsFault text a → IsFault text b → a ≡ b
  one_fault fault.TooLong b first other is and_is = long b other is and_is
  one_fault fault.NotJson b first other is and_is = no_json b other is.0 is.1 and_is
  one_fault fault.NoCommands b first other is and_is = no_commands is.short is.json is.is_json b other is.fault_is and_is
  one_fault (fault.Command m) b first other is and_is = one_formless is.short is.json is.is_json m b other is.fault_is and_is
  one_fault fault.Memory b first other is and_is = absurd (first refl)

  -- ---- and not both

  pub no_both : (commands : List Command) (b : ScriptFault) → b ≢ fault.Memory → IsScript text commands → IsFault text b → ⊥
  no_both commands fault.TooLong other said is = let short = said.short in omega (arith, short, is)
  no_both commands fault.NotJson other said is = is.1 said.json said.is_json
  no_both commands fault.NoCommands other said is =
      let same = one_json text said.json is.json said.is_json is.is_json in
      none_some said.has_commands.objects (objects_in said.json) (ap objects_in same ∙ is.fault_is) said.has_commands.objects_are
  no_both commands (fault.Command n) other said is =
      let same = one_json text said.json is.json said.is_json is.is_json in
      let mine = said.has_commands in
      let objects = same_objects said.json is.json mine.objects is.fault_is.objects same mine.objects_are is.fault_is.objects_are in
      none_some n (position_from is_formless 1 mine.objects) (none_formless command_of mine.objects commands 1 mine.commands_are)
      (ap (position_from is_formless 1) objects ∙ is.fault_is.number_is)
  no_both commands fault.Memory other said is = other refl
