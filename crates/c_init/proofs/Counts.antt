-- Lists of one length.
use Rattle.c_init.proofs.Common.{length-map}
use Rattle.std.proofs.Common.{◌≡◌, List, length, map, ap, ◌∙◌}

pub counted : {A B : Type 0} (f : A → B) (made : List B) (xs : List A) → made ≡ map f xs → length made ≡ length xs
counted f made xs is = ap length is ∙ length-map xs f
