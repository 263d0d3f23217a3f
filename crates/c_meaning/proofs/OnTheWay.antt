-- A run is out of steps exactly where it is on its way: no statement makes one that is over so.
use Rattle.c_meaning.proofs.Common.{◌≡◌, ℕ, zero, suc, ◌≢◌, List, [], ◌∷◌, Some, None, Option, refl, arith, ⊤, Call, Init, Phase, Reply}
use Rattle.c_meaning.proofs.Common.{Program, SymbolCall, fresh, Ended, Entry, Going, IsGoing, OutOfSteps, Over, Pending, Progress, Stopped}
use Rattle.c_meaning.proofs.Common.{after, begin_entry, begun, c_run, c_start, came_back, entries_of, go_on, run_of, told_end, CValue}
use Rattle.c_meaning.proofs.Common.{FuncAddress, FuncPointer, Machine, Number, Pointer, Stop, Back, Next, Step, Stops, c_step}

-- what is over is over for another reason
abbrev Proper : Progress → Type 0
Proper (Going pending s) = ⊤
Proper (Over run) = run.outcome ≢ OutOfSteps

stopped : (why : Stop) → Stopped why ≢ OutOfSteps
stopped why e = grind arith

ended : Ended ≢ OutOfSteps
ended e = grind arith

begun_proper : (pending : Pending) (o : Step) → Proper (begun pending o)
begun_proper pending (Next s) = tt
begun_proper pending (Back m value) = stopped _
begun_proper pending (Stops m why) = stopped why

entry_proper : (p : Program) (m : Machine) (last : Phase) (entries : List Entry) → Proper (begin_entry p m last entries)
entry_proper p m last [] = ended
entry_proper p m last (e ∷ entries) = go e.func
  where
    go : (f : Option FuncAddress) → Proper (begin_entry p m last (record { phase = e.phase; func = f; args = e.args } ∷ entries))
    go None = stopped _
    go (Some f) = begun_proper _ _

back_proper : (p : Program) (pending : Pending) (m : Machine) (phase : Phase) (value : Option CValue)
    → Proper (came_back p pending m phase value)
back_proper p pending m (Init k) None = entry_proper p m (Init k) pending.entries
back_proper p pending m (Call k) None = entry_proper p (told_end m None) (Call k) pending.entries
back_proper p pending m (Call k) (Some (Number v)) = entry_proper p (told_end m (Some v)) (Call k) pending.entries
back_proper p pending m (Call k) (Some (Pointer to)) = stopped _
back_proper p pending m (Call k) (Some (FuncPointer to)) = stopped _
back_proper p pending m (Init k) (Some v) = stopped _

on_proper : (p : Program) (pending : Pending) (o : Step) → Proper (go_on p pending o)
on_proper p pending (Next s) = tt
on_proper p pending (Back m value) = back_proper p pending m pending.phase value
on_proper p pending (Stops m why) = stopped why

after_proper : (p : Program) (n : ℕ) (progress : Progress) → Proper progress → Proper (after p n progress)
after_proper p zero progress h = h
after_proper p (suc n) (Over run) h = h
after_proper p (suc n) (Going pending s) h = after_proper p n (go_on p pending (c_step p s)) (on_proper p pending (c_step p s))

proper_going : (progress : Progress) → Proper progress → (run_of progress).outcome ≡ OutOfSteps → IsGoing progress
proper_going (Going pending s) h e = tt
proper_going (Over run) h e = absurd (h e)

going_out : (progress : Progress) → IsGoing progress → (run_of progress).outcome ≡ OutOfSteps
going_out (Going pending s) h = refl
going_out (Over run) h = absurd h

pub out_is_going : (p : Program) (calls : List SymbolCall) (replies : List Reply) (m : ℕ)
    → (c_run p calls m replies).outcome ≡ OutOfSteps → IsGoing (after p m (c_start p calls replies))
out_is_going p calls replies m out =
    proper_going (after p m (c_start p calls replies))
    (after_proper p m (c_start p calls replies) (entry_proper p (fresh p replies) (Init 0) (entries_of p calls)))
    out

pub going_is_out : (p : Program) (calls : List SymbolCall) (replies : List Reply) (m : ℕ)
    → IsGoing (after p m (c_start p calls replies)) → (c_run p calls m replies).outcome ≡ OutOfSteps
going_is_out p calls replies m going = going_out (after p m (c_start p calls replies)) going
