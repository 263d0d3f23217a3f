-- What arrays stand for by number is what they stand for in the meaning of C.
use Rattle.crun_startup.proofs.Common.{◌≡◌, ℕ, ◌+◌, Bool, true, false, List, [], ◌∷◌, ◌++◌, map, length, if◌then◌else◌, slice_get, Some}
use Rattle.crun_startup.proofs.Common.{None, Option, filter_map, bytes_eq, sym, refl, ap, ◌∙◌, append_assoc, length_push, cons_option}
use Rattle.crun_startup.proofs.Common.{option_or, right_behind, if_found, Name, array_bytes, entry_in, item_bytes, array_name}
use Rattle.c_tree.specs.Tree as tree

module _ (q : Name) where
  -- the bytes of the array that is found from an item on
  abbrev bytes_by : List tree.Item → Option ℕ → Option (List ℕ)
  bytes_by items o = if_found o (λ i. if_found (slice_get items i) item_bytes)

  abbrev Behind : List tree.Item → List tree.Item → Type 0
  Behind before items =
      slice_get (filter_map (array_bytes q) items) 0 ≡ bytes_by (before ++ items) (entry_in (length before) q (map array_name items))

  later : (before : List tree.Item) (x : tree.Item) (items : List tree.Item) → Behind (before ++ x ∷ []) items
      → slice_get (filter_map (array_bytes q) items) 0
      ≡ bytes_by (before ++ x ∷ items) (entry_in (length before + 1) q (map array_name items))
  later before x items e =
      e ∙ ap (λ k. bytes_by ((before ++ x ∷ []) ++ items) (entry_in k q (map array_name items))) (length_push before x)
      ∙ ap (λ l. bytes_by l (entry_in (length before + 1) q (map array_name items))) (append_assoc before (x ∷ []) items)

  pub arrays_behind : (before items : List tree.Item) → Behind before items
  arrays_behind before [] = refl
  arrays_behind before (tree.Array name count bytes ∷ items) =
      go (bytes_eq name q) (later before (tree.Array name count bytes) items (arrays_behind (before ++ tree.Array name count bytes ∷
      []) items))
    where
      whole : List tree.Item
      whole = before ++ tree.Array name count bytes ∷ items

      rest : Option ℕ
      rest = entry_in (length before + 1) q (map array_name items)

      go : (b : Bool) → slice_get (filter_map (array_bytes q) items) 0 ≡ bytes_by whole rest
          → slice_get (cons_option (if b then Some bytes else None) (filter_map (array_bytes q) items)) 0
          ≡ bytes_by whole (option_or (if b then Some (length before) else None) rest)
      go true e = sym (ap (λ o. if_found o item_bytes) (right_behind before (tree.Array name count bytes) items))
      go false e = e
  arrays_behind before (tree.Var ty name number ∷ items) =
      later before (tree.Var ty name number) items (arrays_behind (before ++ tree.Var ty name number ∷ []) items)
  arrays_behind before (tree.Function f ∷ items) =
      later before (tree.Function f) items (arrays_behind (before ++ tree.Function f ∷ []) items)
