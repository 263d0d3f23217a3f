-- The linker's refusal is of one of the units.
use Rattle.crun_job.proofs.Common.{◌≡◌, ℕ, ◌<◌, List, length, Some, arith, first_refusal, Concerns, Symbols, Cause}
use Rattle.c_tree.specs.Tree as tree
use Rattle.c_meaning.specs.Linking as linking
use Rattle.c_meaning.proofs.Links.{refusal_within, unit_named}

pub concern_within : (units : List (List tree.Item)) (symbols : Symbols) (r : linking.LinkRefusal) (k : ℕ) (why : Cause)
    → first_refusal units symbols ≡ Some r → Concerns r k why → k < length units
concern_within units symbols r k why first concerns = by_kind r (refusal_within units symbols r first) concerns
  where
    by_kind : (r : linking.LinkRefusal) → unit_named r < length units → Concerns r k why → k < length units
    by_kind (linking.NotDefined unit symbol) less is = omega (arith, less, is.0)
    by_kind _ less is = omega (arith, less, is.0)
