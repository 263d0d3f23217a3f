-- The calls of the parts of a kind, before those of other kinds.
use Rattle.c_tree.specs.Tree as c
use Rattle.c_init.specs.Init.{Part, call_part, pieces}
use Rattle.c_init.proofs.PieceCounts.{pieces_none, pieces_some}
use Rattle.std.proofs.Common.{length-drop, take-append-drop}
use Rattle.std.proofs.lemmas.List.{map-append}
use Rattle.init_meaning.proofs.Common.{◌≡◌, ℕ, zero, suc, ◌+◌, ◌≤◌, List, [], ◌∷◌, ◌++◌, map, length, take, drop, sym, refl, ap, ◌∙◌, subst}
use Rattle.init_meaning.proofs.Common.{append_assoc, append-nil, arith, range_with_len, LinkedSet, NamedModule, Task}
use Rattle.init_meaning.specs.Parts.{PartsAreDefined}
use Rattle.init_meaning.proofs.InitStatements.{Seat}
use Rattle.init_meaning.proofs.InitRuns.{Stage, FollowsTasks}
use Rattle.init_meaning.proofs.PartCalls.{Crosses, PartFollows, part_called}

-- the calls of these parts, of which the first has this number
abbrev pub calls : ℕ → List Part → List c.Stmt
calls k [] = []
calls k (x ∷ parts) = call_part k ∷ calls (k + 1) parts

pub calls_are : (k : ℕ) (parts : List Part) → map call_part (range_with_len k (length parts)) ≡ calls k parts
calls_are k [] = refl
calls_are k (x ∷ parts) = ap (λ stmts. call_part k ∷ stmts) (calls_are (k + 1) parts)

-- all entries of a kind stand in pieces, each of which is a part that follows its tasks
pub record ArePieces (s : LinkedSet) (g : Seat) (m : NamedModule) {A : Type 0} (whole : List A) (stage : List A → Seat → Stage)
    (part : List A → Part) (task : A → Task) : Type 1 where
  pub crosses : (front : List A) → Crosses m (stage front)
  pub each : (front : List A) (x : A) (xs behind : List A) → front ++ x ∷ (xs ++ behind) ≡ whole
      → PartFollows s g (part (x ∷ xs)) (stage front) (stage (front ++ x ∷ xs)) (map task (x ∷ xs))

module _ {s : LinkedSet} {g : Seat} {m : NamedModule} {A : Type 0} {whole : List A} {stage : List A → Seat → Stage}
    {part : List A → Part} {task : A → Task} (r : ArePieces s g m whole stage part task) where
  tasks_split : (x : A) (xs : List A) (tasks : List Task)
      → map task (x ∷ take 99 xs) ++ (map task (drop 99 xs) ++ tasks) ≡ map task (x ∷ xs) ++ tasks
  tasks_split x xs tasks =
      sym (append_assoc (map task (x ∷ take 99 xs)) (map task (drop 99 xs)) tasks)
      ∙ ap (λ ts. ts ++ tasks) (sym (map-append task (x ∷ take 99 xs) (drop 99 xs)) ∙ ap (λ ys. map task (x ∷ ys)) (take-append-drop 99 xs))

  pub pieces_called : (n spare k : ℕ) (front xs : List A) (others : List Part) (rest : List c.Stmt) (tasks : List Task) → length xs ≤ n
      → front ++ xs ≡ whole → PartsAreDefined g.program g.unit m.tree k (map part (pieces xs) ++ others)
      → ((k : ℕ) → PartsAreDefined g.program g.unit m.tree k others
      → FollowsTasks s g (suc spare) (stage whole g) (calls k others ++ rest) tasks)
      → FollowsTasks s g (suc spare) (stage front g) (calls k (map part (pieces xs) ++ others) ++ rest) (map task xs ++ tasks)
  pieces_called n spare k front [] others rest tasks few e defined follows =
      subst (λ ps. FollowsTasks s g (suc spare) (stage front g) (calls k (map part ps ++ others) ++ rest) tasks) (sym (pieces_none {A = A}))
      (subst (λ f. FollowsTasks s g (suc spare) (stage f g) (calls k others ++ rest) tasks) (sym e ∙ append-nil front)
      (follows k (subst (λ ps. PartsAreDefined g.program g.unit m.tree k (map part ps ++ others)) (pieces_none {A = A}) defined)))
  pieces_called zero spare k front (x ∷ xs) others rest tasks few e defined follows = absurd (omega (arith, few))
  pieces_called (suc n) spare k front (x ∷ xs) others rest tasks few e defined follows =
      let p : List A = take 99 xs in
      let q : List A = drop 99 xs in
      let there : front ++ x ∷ (p ++ q) ≡ whole = ap (λ ys. front ++ x ∷ ys) (take-append-drop 99 xs) ∙ e in
      let each = subst (λ ps. PartsAreDefined g.program g.unit m.tree k (map part ps ++ others)) (pieces_some x xs) defined in
      let behind : List c.Stmt = calls (k + 1) (map part (pieces q) ++ others) ++ rest in
      subst (λ ps. FollowsTasks s g (suc spare) (stage front g) (calls k (map part ps ++ others) ++ rest) (map task (x ∷ xs) ++ tasks))
      (sym (pieces_some x xs))
      (subst (λ ts. FollowsTasks s g (suc spare) (stage front g) (call_part k ∷ behind) ts) (tasks_split x xs tasks)
      (part_called s g m spare k (part (x ∷ p)) (stage front) (stage (front ++ x ∷ p)) behind (map task (x ∷ p)) (map task q ++ tasks)
      each.0 (r.crosses front) (r.crosses (front ++ x ∷ p)) (r.each front x p q there)
      (pieces_called n spare (k + 1) (front ++ x ∷ p) q others rest tasks (let d = length-drop 99 xs in omega (arith, d, few))
      (append_assoc front (x ∷ p) q ∙ there) each.1 follows)))

  -- all of them
  pub kind_called : (spare k : ℕ) (others : List Part) (rest : List c.Stmt) (tasks : List Task)
      → PartsAreDefined g.program g.unit m.tree k (map part (pieces whole) ++ others)
      → ((k : ℕ) → PartsAreDefined g.program g.unit m.tree k others
      → FollowsTasks s g (suc spare) (stage whole g) (calls k others ++ rest) tasks)
      → FollowsTasks s g (suc spare) (stage [] g) (calls k (map part (pieces whole) ++ others) ++ rest) (map task whole ++ tasks)
  kind_called spare k others rest tasks = pieces_called (length whole) spare k [] whole others rest tasks (omega arith) refl
