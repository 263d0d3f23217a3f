-- Files that behave as files: a read gives what is held, and what is put is held from then on. These are the promises of `Files` on
-- what files tell, call by call.
use Rattle.std.specs.Prelude.{◌≡◌, ◌⊎◌, ℕ, ◌≤◌, List, [], ◌∷◌, length, Option, Some, None, Ok, Err}
use Rattle.w2c_io.specs.Contents.{Name, Told, HasFile, HasNoFile, HasLongFile, holding, appending, IsPrefix}
use Rattle.w2c_io.specs.Events.{Event, Read, Begin, Put, Finish}
use Rattle.w2c_io.specs.declared.answers.ReadAnswer.TheVariants as reading

-- what a call finds and leaves, and which file is current before and behind it
abbrev pub Does : Event → Told → Option Name → Told → Option Name → Type 0
Does (Read name limit (Ok bytes)) old current new after =
    HasFile old name bytes × (new ≡ old) × (after ≡ current) × (length bytes ≤ limit)
Does (Read name limit (Err reading.Absent)) old current new after = HasNoFile old name × (new ≡ old) × (after ≡ current)
Does (Read name limit (Err reading.TooLong)) old current new after = HasLongFile old name limit × (new ≡ old) × (after ≡ current)
Does (Read name limit (Err reading.Failed)) old current new after = (new ≡ old) × (after ≡ current)
Does (Read name limit (Err reading.Memory)) old current new after = (new ≡ old) × (after ≡ current)
Does (Begin name (Ok _)) old current new after = (new ≡ holding old name []) × (after ≡ Some name)
Does (Begin name (Err why)) old current new after = ((new ≡ old) ⊎ (new ≡ holding old name [])) × (after ≡ None)
Does (Put piece (Ok _)) old current new after = (new ≡ appending old current piece) × (after ≡ current)
Does (Put piece (Err why)) old current new after =
    ((part : List ℕ) × IsPrefix part piece × (new ≡ appending old current part)) × (after ≡ current)
Does (Finish answer) old current new after = (new ≡ old) × (after ≡ None)

-- each call, one after another
abbrev pub AreHonest : List Event → Told → Option Name → Told → Option Name → Type 0
AreHonest [] old current new after = (new ≡ old) × (after ≡ current)
AreHonest (event ∷ events) old current new after =
    (told : Told) × (name : Option Name) × Does event old current told name × AreHonest events told name new after
