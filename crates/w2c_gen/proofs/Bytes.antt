-- Lists of bytes.
use Rattle.w2c_gen.proofs.Common.{ℕ, List, [], ◌∷◌, IsTrue, nat_lt, ltb-true, list_all, AreBytes}
use Rattle.w2c_base.proofs.Conjunctions.{both_hold}

-- of given numbers a test tells
pub tested_bytes : (bytes : List ℕ) → IsTrue (list_all (λ b. nat_lt b 256) bytes) → AreBytes bytes
tested_bytes [] h = tt
tested_bytes (b ∷ bytes) h =
    let each = both_hold (nat_lt b 256) (list_all (λ b. nat_lt b 256) bytes) h in
    (ltb-true b 256 each.0, tested_bytes bytes each.1)
