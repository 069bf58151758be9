use Rattle.std.proofs.Common.{◌≡◌, ℕ, ◌<◌, ◌++◌, map, take, drop}
use Rattle.store.specs.Left.{left_entry}
use Rattle.built.specs.Seen.{blobs}
use Rattle.built.specs.Untouched.{Apart, UntouchedBut}
use Rattle.built.proofs.stores.BuiltStore.restart.Given as goal

abbrev pub invariant-loop-i : goal.invariant-loop-i
invariant-loop-i g l =
    record {
      blobs : blobs l.self ≡ map (left_entry l.how) (take l.i (blobs l.initial.self)) ++ drop l.i (blobs l.initial.self);
      count : l.self.catalog.table.count ≡ l.initial.self.catalog.table.count;
      saved : l.self.catalog.saved ≡ l.initial.self.catalog.saved;
      memory : UntouchedBut (λ _. Unit {0}) l.initial.self l.self;
      apart : (q : ℕ) → ((k : ℕ) → k < l.initial.self.catalog.table.count → Apart l.initial.self k q) → (k : ℕ) → k < l.initial.self.catalog.table.count → Apart l.self k q;
    }
