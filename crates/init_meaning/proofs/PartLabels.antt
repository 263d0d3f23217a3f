-- The labels of the parts of an init function are found: that of the trap for bounds, and those of the loops over bytes.
use Rattle.c_tree.proofs.NumberedLabels.{labels-append, labels_differ}
use Rattle.c_tree.specs.Rules.{labels_of}
use Rattle.c_tree.specs.Makers as makers
use Rattle.c_tree.specs.Tree as c
use Rattle.alike.specs.Placed.{IsPlaced}
use Rattle.alike.proofs.Placed.{placed}
use Rattle.c_init.specs.Init.{bytes_part, part_end, part_stmts}
use Rattle.c_init.specs.Portions.{numbered_from}
use Rattle.c_init.proofs.InitLabelsDiffer.{bytes_within}
use Rattle.init_meaning.proofs.Common.{◌≡◌, ℕ, ◌+◌, ◌^◌, ◌<◌, ◌≤◌, List, [], ◌∷◌, ◌++◌, length, flat_map, sym, refl, ap, ◌∙◌, append-nil}
use Rattle.init_meaning.proofs.Common.{arith, SegmentEntry, SegmentOut, NamedModule, label_name, bounds_label, write_data}
use Rattle.init_meaning.proofs.InitStatements.{Seat}
use Rattle.init_meaning.proofs.InitTests.{IsTrapLabel}

abbrev trapping : List c.Stmt
trapping = c.ReturnNone ∷ c.Label (label_name bounds_label) ∷ makers.trap SegmentOut ∷ []

-- behind statements without labels
pub testing_traps : (stmts : List c.Stmt) (g : Seat) → g.stmts ≡ stmts ++ trapping → labels_of stmts ≡ []
    → IsTrapLabel g bounds_label SegmentOut
testing_traps stmts g e unlabelled = (
  [],
  (placed g.stmts stmts trapping [] (e ∙ ap (λ rest. stmts ++ rest) (sym (append-nil trapping)))
      (rw (ap labels_of e ∙ (labels-append stmts trapping ∙ ap (λ labels. labels ++ labels_of trapping) unlabelled)) refl)).0,
)

-- the loops over the bytes of segments, of which the first has this number
pub bytes_placed : (m : NamedModule) (j : ℕ) (ds : List SegmentEntry) → length m.tree.segments + 2 < 2 ^ 32
    → j + length ds ≤ length m.tree.segments
    → IsPlaced (part_stmts (bytes_part m.tree (numbered_from j ds))) (flat_map (write_data m.tree) (numbered_from j ds))
    (part_end (bytes_part m.tree (numbered_from j ds)))
bytes_placed m j ds few among =
    let loops : List c.Stmt = flat_map (write_data m.tree) (numbered_from j ds) in
    placed (loops ++ (c.ReturnNone ∷ [])) [] loops (c.ReturnNone ∷ []) refl
    (labels_differ (j + 2) (j + length ds + 2) (loops ++ (c.ReturnNone ∷ [])) (omega (arith, few, among)) (bytes_within m j ds))
