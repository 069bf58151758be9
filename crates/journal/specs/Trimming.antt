-- The calls of a trimmed log, by their rules.
use Rattle.std.specs.Prelude.{◌≡◌, ℕ, ◌+◌, Bool, true, cond, List, [], ◌∷◌, Ok, Err, Result}
use Rattle.store.specs.Disk.{View, Op, Append, Sync}
use Rattle.rules.specs.Rules.{Config, blob_of, aligned, answered, Follows}
use Rattle.rules.specs.Calls.{trimmed_append_rule, trimmed_prune_rule, trimmed_sync_rule}
use Rattle.journal.specs.declared.fault.StoreFault.{StoreFault}
use Rattle.journal.specs.declared.log.Lost.{Lost}
use Rattle.journal.specs.declared.log.Stop.{Stop}
use Rattle.journal.specs.declared.log.Log.{Log}
use Rattle.journal.specs.Configs.{ruled}
use Rattle.journal.specs.Logs.{held_of, Calls, Stops}
use Rattle.journal.specs.Steps.{Down}

abbrev pub Synced : {P S K : Type 0} → (S → View) → Log P S K → Result (Log P S K) (Lost S) → Type 0
Synced view l (Ok x) =
    Follows (trimmed_sync_rule (ruled l.config) (view l.store).disk (held_of l.held)) (view l.store) (answered (held_of x.held)) (view x.store)
    × (x.config ≡ l.config)
Synced view l (Err e) = Stops (trimmed_sync_rule (ruled l.config) (view l.store).disk (held_of l.held)) (view l.store) e.fault (view e.store)

-- a question whether a blob is there
abbrev pub Finds : Bool → View → Result Bool StoreFault → Type 0
Finds h v (Ok x) = (v.up ≡ true) × (x ≡ h)
Finds h v (Err e) = Down v e v

-- one record's bytes after the end; a blob that fills is synced
abbrev pub adding : Config → ℕ → List ℕ → List Op
adding c end bytes = Append (blob_of c end) bytes ∷ cond (aligned c (end + 1)) (Sync (blob_of c end) ∷ []) []

abbrev pub Appended : {P S K : Type 0} → (S → View) → Log P S K → List ℕ → Result (Log P S K) (Stop (Log P S K) S) → Type 0
Appended view l bytes r =
    Calls view (λ x. x.store) (λ x. held_of x.held) (λ x. x.config ≡ l.config) (trimmed_append_rule (ruled l.config) (view l.store).disk (held_of l.held) bytes) (view l.store) l r

abbrev pub Pruned : {P S K : Type 0} → (S → View) → Log P S K → ℕ → Result (Log P S K × Bool) (Lost S) → Type 0
Pruned view l p (Ok x) =
    Follows (trimmed_prune_rule (ruled l.config) (view l.store).disk (held_of l.held) p) (view l.store) (answered (held_of x.0.held, x.1)) (view x.0.store)
    × (x.0.config ≡ l.config)
Pruned view l p (Err e) = Stops (trimmed_prune_rule (ruled l.config) (view l.store).disk (held_of l.held) p) (view l.store) e.fault (view e.store)
