-- Some text spells a unit exactly where it is well formed.
use Rattle.c_tree.proofs.Common.{List, [], ◌∷◌, ◌++◌, refl, laid, Formed, depth_limit, Fixed, token_text, each, item_tokens, unit_tokens}
use Rattle.c_tree.proofs.Common.{IsWellFormed}
use Rattle.c_tree.specs.declared.token.Tok.TheVariants as tok
use Rattle.c_tree.specs.Tree as tree
use Rattle.c_tree.proofs.Laid.{laid_tokens, blank_apart}
use Rattle.c_tree.proofs.TextIsProper.{tokens_proper}
use Rattle.c_tree.proofs.TreeIsProper.{unit_proper, unit_named}

pub formed : (u : List tree.Item) → IsWellFormed u → Formed u
formed u is =
    let behind = each item_tokens u in
    let proper = unit_proper depth_limit u is.named is.fits in (
      token_text (Fixed tok.Include) ++ (laid (λ t v. 32 ∷ []) (Fixed tok.Include) behind ++ []),
      record {
        in_order = (laid_tokens (λ t v. 32 ∷ []) blank_apart (Fixed tok.Include) behind refl proper.1 [] tt 0).1;
        fits = is.fits;
      },
    )

pub well_formed : (u : List tree.Item) → Formed u → IsWellFormed u
well_formed u is = record { named = unit_named u (tokens_proper is.0 (unit_tokens u) is.1.in_order); fits = is.1.fits }
