-- A history: the calls that are made of a log, how each ends, what is seen of it, and the log in hand.
use Rattle.std.specs.Prelude.{ℕ, Bool, true, false, cond, ◌||◌, List, [], ◌∷◌, Option}
use Rattle.store.specs.declared.cause.Cause.{Cause}
use Rattle.rules.specs.Rules.{Fault}

-- Open has the ceiling, if any; Append the records, and how many bytes are lent to pack them; Clear stages one, to be completed or left
pub data Call (R : Type 0) : Type 0 where
  Open : Option ℕ → Call R
  Append : List R → ℕ → Call R
  Truncate Publish Prune Clear : ℕ → Call R
  Commit Sync Complete Leave : Call R

-- stopped by the store for a cause, or for none: the blobs were not consecutive to the tail
pub data End : Type 0 where
  Done : End
  Refused : Fault → End
  Stopped : Option Cause → End

-- one position; or several, and how many bytes and records are lent for them
pub data Ask : Type 0 where
  One : ℕ → Ask
  Many : List ℕ → ℕ → ℕ → Ask

pub data Answer (R : Type 0) : Type 0 where
  Gave : List R → Answer R
  Denied : Fault → Answer R
  Failed : Cause → Answer R

-- Called has the span of the log in hand after it
pub data Event (R : Type 0) : Type 0 where
  Restart : Event R
  Called : Call R → End → Option (ℕ × ℕ) → Event R
  Read : Ask → Answer R → Event R

-- the log in hand -------------------------------------------------------------------------------

-- what it offers: open; truncate, publish and clear; append, sync and prune; commit; complete and leave
pub record Hand : Type 0 where
  pub opens : Bool
  pub recovers : Bool
  pub grows : Bool
  pub runs : Bool
  pub completes : Bool

abbrev pub hand : Bool → Bool → Bool → Bool → Bool → Hand
hand o r g u c = record { opens = o; recovers = r; grows = g; runs = u; completes = c }

abbrev pub fresh : Hand
fresh = hand true false false false false

abbrev pub opened : Hand
opened = hand false true false false false

abbrev pub trimmed : Hand
trimmed = hand false true true false false

abbrev pub running : Hand
running = hand false false true true false

abbrev pub staged : Hand
staged = hand false false false false true

abbrev pub over : Hand
over = hand false false false false false

abbrev pub is_log : Hand → Bool
is_log h = h.recovers || h.runs

module _ {R : Type 0} where
  abbrev pub offers : Hand → Call R → Bool
  offers h (Open o) = h.opens
  offers h (Append rs n) = h.grows
  offers h (Truncate m) = h.recovers
  offers h (Publish m) = h.recovers
  offers h (Prune p) = h.grows
  offers h (Clear t) = h.recovers
  offers h Commit = h.runs
  offers h Sync = h.grows
  offers h Complete = h.completes
  offers h Leave = h.completes

  abbrev pub gives : Hand → Call R → Hand
  gives h (Open o) = opened
  gives h (Append rs n) = h
  gives h (Truncate m) = trimmed
  gives h (Publish m) = running
  gives h (Prune p) = h
  gives h (Clear t) = staged
  gives h Commit = h
  gives h Sync = h
  gives h Complete = trimmed
  gives h Leave = over

  -- a refused open leaves no log, another refused call hands it back, a stopped one ends it
  abbrev pub after : Hand → Call R → End → Hand
  after h k Done = gives h k
  after h k (Refused f) = cond h.opens over h
  after h k (Stopped s) = over

  -- of a list of events, newest first
  abbrev pub in_hand : List (Event R) → Hand
  in_hand [] = fresh
  in_hand (Restart ∷ es) = fresh
  in_hand (Called k e s ∷ es) = after (in_hand es) k e
  in_hand (Read q a ∷ es) = in_hand es
