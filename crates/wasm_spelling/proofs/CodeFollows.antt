-- The machine goes over instructions as reading does.
use Rattle.wasm_spelling.proofs.Common.{◌≡◌, ℕ, zero, suc, ◌-◌, ◌<◌, Bool, true, false, List, [], ◌∷◌, ◌++◌, length, Ok, Err, Option}
use Rattle.wasm_spelling.proofs.Common.{Result, sym, refl, subst, append_assoc, arith, ValType, Block, Code, If, Kind, Loop, else_code, At}
use Rattle.wasm_spelling.proofs.Common.{most_blocks, expression, Head, Reader, a_block, a_form, a_loop, an_if, byte_at, checked, done}
use Rattle.wasm_spelling.proofs.Common.{head_of, the_else, the_end, ◌>>=◌, Field, form_fields, instructions, none_more, state, ReadFault}
use Rattle.wasm_spelling.specs.Steps.{reads}
use Rattle.wasm_spelling.specs.Table.{block_type, head_fields, row}
use Rattle.wasm_spelling.specs.Reading.{block_type_at, form_at, Ender, by_end, by_else, ender_place, Item, closed, one, as_one, item_of}
use Rattle.wasm_spelling.specs.Reading.{item_at, put_before, after_item, items_at, if_closed, block_of, block_at, code_at, expression_at}
use Rattle.wasm_spelling.proofs.Tools.{checked_ok}
use Rattle.wasm_spelling.proofs.Runs.{Runs, lands, Follows, FollowsTo, follows_row, follows_both, then_reads, runs_now}
use Rattle.wasm_spelling.proofs.Readings.{Reads, then_done}
use Rattle.wasm_spelling.proofs.Leaves.{block_type_reads}
use Rattle.wasm_spelling.proofs.Forms.{form_follows}
use Rattle.wasm_spelling.proofs.CodeTaken.{HeadIs, head_is, Inner, InnerTakes, item_takes, ItemTaken, block_takes, code_takes}
use Rattle.wasm_spelling.proofs.CodeTaken.{expression_takes}
use Rattle.wasm_spelling.proofs.CodeAgain.{expression_again}

-- what is still expected behind what closes instructions, and behind an item
abbrev pub ender_left : ℕ → Ender → List Field
ender_left room (by_end place) = []
ender_left room (by_else place) = instructions room false ∷ []

abbrev item_left : ℕ → Bool → Item → List Field
item_left room may_else (closed x) = ender_left room x
item_left room may_else (one place k) = instructions room may_else ∷ []

abbrev pub code_left : ℕ → Code × Ender → List Field
code_left room c = ender_left room c.1

record InnerFollows (room : ℕ) (inner : Inner) : Type 0 where
  block : 0 < room → Follows (block_type ∷ instructions (room - 1) false ∷ []) (inner a_block)
  loops : 0 < room → Follows (block_type ∷ instructions (room - 1) false ∷ []) (inner a_loop)
  branches : 0 < room → Follows (block_type ∷ instructions (room - 1) true ∷ []) (inner an_if)

-- behind an opcode: its fields, and then an instruction stands in the list
as_item : (room : ℕ) (may_else : Bool) (place : ℕ) (front : List Field) (read : Reader Kind) → Follows front read
    → (a : At) (outer : List (List ℕ)) (fields : List Field)
    → Runs (state a outer (front ++ (instructions room may_else ∷ fields)))
    (reads read (as_one place) a >>= lands (item_left room may_else) outer fields)
as_item room may_else place front read h a outer fields =
    then_reads (state a outer (front ++ (instructions room may_else ∷ fields))) read (as_one place) a none_more
    (item_left room may_else) outer (instructions room may_else ∷ fields) fields (h a outer (instructions room may_else ∷ fields))
    (λ x b e. runs_now _)

by_head : (room : ℕ) (may_else : Bool) (inner : Inner) → InnerFollows room inner → (op place : ℕ) (h : Head) → HeadIs room may_else op h
    → (a : At) (outer : List (List ℕ)) (fields : List Field)
    → Runs (state a outer (head_fields room may_else h ++ fields))
    (item_of inner place h a >>= lands (item_left room may_else) outer fields)
by_head room may_else inner t op place the_end is a outer fields = runs_now _
by_head room may_else inner t op place the_else is a outer fields = runs_now _
by_head room may_else inner t op place a_block is a outer fields =
    as_item room may_else place (block_type ∷ instructions (room - 1) false ∷ []) (inner a_block) (t.block is.1) a outer fields
by_head room may_else inner t op place a_loop is a outer fields =
    as_item room may_else place (block_type ∷ instructions (room - 1) false ∷ []) (inner a_loop) (t.loops is.1) a outer fields
by_head room may_else inner t op place an_if is a outer fields =
    as_item room may_else place (block_type ∷ instructions (room - 1) true ∷ []) (inner an_if) (t.branches is.1) a outer fields
by_head room may_else inner t op place (a_form f) is a outer fields =
    subst (λ (l : List Field). Runs (state a outer l) (reads (form_at f) (as_one place) a >>= lands (item_left room may_else) outer fields))
    (sym (append_assoc (form_fields f) (instructions room may_else ∷ []) fields))
    (as_item room may_else place (form_fields f) (form_at f) (form_follows f) a outer fields)

item_follows : (room : ℕ) (may_else : Bool) (inner : Inner) → InnerFollows room inner
    → FollowsTo (instructions room may_else ∷ []) (item_left room may_else) (item_at room may_else inner)
unfolding item_at reads row
item_follows room may_else inner t a outer fields =
    then_reads (state a outer (instructions room may_else ∷ fields)) (checked byte_at (head_of room may_else)) (item_of inner a.place) a
    (head_fields room may_else) (item_left room may_else) outer fields fields
    (follows_row (instructions room may_else) (checked byte_at (head_of room may_else)) (head_fields room may_else)
    (λ a outer fields. refl) a outer fields)
    (λ h b e. let op = checked_ok byte_at (head_of room may_else) a h b e in
    by_head room may_else inner t op.0 a.place h (head_is room may_else a.place op.0 h op.2) b outer fields)

after_follows : (room : ℕ) (may_else : Bool) (q : At) (k : ℕ) → length q.left < suc k → (more : Reader (Code × Ender))
    → ((a : At) → length a.left < k → (outer : List (List ℕ)) (fields : List Field)
    → Runs (state a outer (instructions room may_else ∷ fields)) (more a >>= lands (code_left room) outer fields))
    → (i : Item) (a : At) → ItemTaken room may_else q i a → (outer : List (List ℕ)) (fields : List Field)
    → Runs (state a outer (item_left room may_else i ++ fields)) (after_item more i a >>= lands (code_left room) outer fields)
after_follows room may_else q k less more h (closed x) a t outer fields = runs_now _
after_follows room may_else q k less more h (one place kind) a t outer fields =
    then_reads (state a outer (instructions room may_else ∷ fields)) more (put_before place kind) a (code_left room)
    (code_left room) outer fields fields (h a (omega (arith, less, t.1)) outer fields) (λ x b e. runs_now _)

items_follow : (room : ℕ) (may_else : Bool) (inner : Inner) → InnerFollows room inner → InnerTakes room inner → (k : ℕ) (a : At)
    → length a.left < k → (outer : List (List ℕ)) (fields : List Field)
    → Runs (state a outer (instructions room may_else ∷ fields)) (items_at room may_else inner k a >>= lands (code_left room) outer fields)
unfolding items_at
items_follow room may_else inner h t zero a less outer fields = absurd (omega (arith, less))
items_follow room may_else inner h t (suc k) a less outer fields =
    then_reads (state a outer (instructions room may_else ∷ fields)) (item_at room may_else inner)
    (after_item (items_at room may_else inner k)) a (item_left room may_else) (code_left room) outer fields fields
    (item_follows room may_else inner h a outer fields)
    (λ i b e. after_follows room may_else a k less (items_at room may_else inner k) (items_follow room may_else inner h t k) i b
    (item_takes room may_else inner t a i b e) outer fields)

-- ---- blocks

abbrev CodesFollow : ℕ → (Bool → Reader (Code × Ender)) → Type 0
CodesFollow room code = (may_else : Bool) → FollowsTo (instructions room may_else ∷ []) (code_left room) (code may_else)

abbrev NoElse : ℕ → (Bool → Reader (Code × Ender)) → Type 0
NoElse room code = (a : At) (c : Code × Ender) (b : At) → code false a ≡ Ok (c, b) → ender_left room c.1 ≡ []

-- instructions where no `else` may stand, and what is made of them
closed_follows : (room : ℕ) (code : Bool → Reader (Code × Ender)) → CodesFollow room code → NoElse room code → (make : Code × Ender → Kind)
    → Follows (instructions room false ∷ []) (reads (code false) (λ c a. Ok (make c, a)))
closed_follows room code h none make a outer fields =
    then_reads (state a outer (instructions room false ∷ fields)) (code false) (λ c a. Ok (make c, a)) a
    (code_left room) none_more outer fields fields (h false a outer fields)
    (λ c b e. subst (λ (l : List Field). Runs (state b outer (l ++ fields)) (Ok (state b outer fields))) (sym (none a c b e)) (runs_now _))

if_follows : (room : ℕ) (code : Bool → Reader (Code × Ender)) → CodesFollow room code → NoElse room code → (r : Option ValType)
    → Follows (instructions room true ∷ []) (reads (code true) (if_closed (code false) r))
if_follows room code h none r a outer fields =
    then_reads (state a outer (instructions room true ∷ fields)) (code true) (if_closed (code false) r) a
    (code_left room) none_more outer fields fields (h true a outer fields) (λ c b e. branches c.0 c.1 b)
  where
    branches : (c : Code) (x : Ender) (b : At)
        → Runs (state b outer (ender_left room x ++ fields)) (if_closed (code false) r (c, x) b >>= lands none_more outer fields)
    branches c (by_end place) b = runs_now _
    branches c (by_else place) b = closed_follows room code h none (λ o. If r c (else_code place o.0) (ender_place o.1)) b outer fields

lowered : (room : ℕ) (may_else : Bool) (read : Reader Kind) → Follows (block_type ∷ instructions room may_else ∷ []) read
    → Follows (block_type ∷ instructions (suc room - 1) may_else ∷ []) read
lowered room may_else read h =
    let less : suc room - 1 ≡ room = omega arith in subst (λ n. Follows (block_type ∷ instructions n may_else ∷ []) read) (sym less) h

blocks_follow : (room : ℕ) (code : Bool → Reader (Code × Ender)) → CodesFollow room code → NoElse room code
    → InnerFollows (suc room) (block_of code)
blocks_follow room code h none = record {
  block = λ _. lowered room false (block_of code a_block)
      (typed false (λ r. reads (code false) (λ c. done (Block r c.0 (ender_place c.1))))
      (λ r. closed_follows room code h none (λ c. Block r c.0 (ender_place c.1))));
  loops = λ _. lowered room false (block_of code a_loop)
      (typed false (λ r. reads (code false) (λ c. done (Loop r c.0 (ender_place c.1))))
      (λ r. closed_follows room code h none (λ c. Loop r c.0 (ender_place c.1))));
  branches =
      λ _. lowered room true (block_of code an_if)
      (typed true (λ r. reads (code true) (if_closed (code false) r)) (if_follows room code h none));
}
  where
    typed : (may_else : Bool) (more : Option ValType → Reader Kind)
        → ((r : Option ValType) → Follows (instructions room may_else ∷ []) (more r))
        → Follows (block_type ∷ instructions room may_else ∷ []) (reads block_type_at more)
    typed may_else more h =
        follows_both (block_type ∷ []) (instructions room may_else ∷ []) block_type_at more block_type_reads.follows h

no_else_left : (room : ℕ) (q : At) (x : Ender) (b : At) → ItemTaken room false q (closed x) b → ender_left room x ≡ []
no_else_left room q (by_end place) b t = refl
no_else_left room q (by_else place) b t = absurd cc

pub no_else_behind : (room : ℕ) → NoElse room (code_at room)
no_else_behind room a c b e = let t = code_takes room false a c.0 c.1 b e in no_else_left room t.q c.1 b t.ender

blocks : (room : ℕ) → InnerFollows room (block_at room)
unfolding block_at
blocks zero =
    record {
      block = λ less. absurd (omega (arith, less));
      loops = λ less. absurd (omega (arith, less));
      branches = λ less. absurd (omega (arith, less));
    }
blocks (suc room) =
    blocks_follow room (code_at room)
    (λ may_else a outer fields. items_follow room may_else (block_at room) (blocks room) (block_takes room) (suc (length a.left)) a
    (omega arith) outer fields) (no_else_behind room)

pub code_follows : (room : ℕ) (may_else : Bool) → FollowsTo (instructions room may_else ∷ []) (code_left room) (code_at room may_else)
code_follows room may_else a outer fields =
    items_follow room may_else (block_at room) (blocks room) (block_takes room) (suc (length a.left)) a (omega arith) outer fields

-- what closes an expression leaves nothing expected
pub ended_code_follows : Follows (instructions most_blocks false ∷ []) (code_at most_blocks false)
ended_code_follows a outer fields =
    ended (code_at most_blocks false a) (λ c b e. no_else_behind most_blocks a c b e) (code_follows most_blocks false a outer fields)
  where
    ended : (r : Result ((Code × Ender) × At) ReadFault) → ((c : Code × Ender) (b : At) → r ≡ Ok (c, b) → ender_left most_blocks c.1 ≡ [])
        → Runs (state a outer (instructions most_blocks false ∷ fields)) (r >>= lands (code_left most_blocks) outer fields)
        → Runs (state a outer (instructions most_blocks false ∷ fields)) (r >>= lands none_more outer fields)
    ended (Ok x) h run =
        subst (λ (l : List Field). Runs (state a outer (instructions most_blocks false ∷ fields)) (Ok (state x.1 outer (l ++ fields))))
        (h x.0 x.1 refl) run
    ended (Err f) h run = run

pub expression_reads : Reads expression_at expression (instructions most_blocks false ∷ [])
unfolding expression_at
expression_reads = record {
  takes = expression_takes;
  again = expression_again;
  follows = then_done (instructions most_blocks false ∷ []) (code_at most_blocks false) (λ (c : Code × Ender). c.0) ended_code_follows;
}
