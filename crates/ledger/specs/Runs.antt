-- What happens to a log and its store, call by call, when every call follows its rule; and the law: it agrees with the ledger.
use Rattle.std.specs.Prelude.{◌≡◌, ℕ, ◌+◌, ◌*◌, min, Bool, true, false, cond, List, [], ◌∷◌, map, length, Some, None, Option, nat_lt}
use Rattle.store.specs.Disk.{Disk, View, numbers, Restarted, New}
use Rattle.store.specs.Laws.{Lawful}
use Rattle.rules.specs.Rules.{Config, MAX, bad_config, Fault, ItemPruned, ItemOutOfRange, SizeOverflow, OffsetOverflow, EmptyAppend, Corruption, Layout, NotRising, NoSpace, Codec}
use Rattle.rules.specs.Rules.{Plan, answer, refuse, ask, call, refuse_if, Outcome, answered, refused, stopped, Follows}
use Rattle.rules.specs.Open.{Opened, open_rule}
use Rattle.rules.specs.Calls.{Running, truncate_rule, publish_rule, trimmed_append_rule, trimmed_sync_rule, trimmed_prune_rule, stage_rule, complete_rule, append_rule, commit_rule, sync_rule, prune_rule}
use Rattle.rules.specs.Reads.{Reading, read_rule, read_many_rule}
use Rattle.ledger.specs.History.{Call, Open, Append, Truncate, Publish, Prune, Clear, Commit, Sync, Complete, Leave, End, Done, Refused, Stopped, Ask, One, Many, Answer, Gave, Denied, Failed, Event, Restart, Called, Read}
use Rattle.ledger.specs.Ledger.{Ledger}
use Rattle.ledger.specs.Promises.{Agrees}

-- the log in hand: none before an open, none after its end
pub data Log : Type 0 where
  fresh over : Log
  opened trimmed : Opened → Log
  staged : ℕ → Log
  running : Running → Log

-- by the kind of log in hand
abbrev pub on_log : {A : Type 0} → Log → A → A → (Opened → A) → (Opened → A) → (ℕ → A) → (Running → A) → A
on_log fresh a b f g h i = a
on_log over a b f g h i = b
on_log (opened o) a b f g h i = f o
on_log (trimmed o) a b f g h i = g o
on_log (staged t) a b f g h i = h t
on_log (running r) a b f g h i = i r

abbrev pub no : {A B : Type 0} → A → Option B
no x = None

abbrev pub span_of : Log → Option (ℕ × ℕ)
span_of l = on_log l None None (λ o. Some (o.start, o.end)) (λ o. Some (o.start, o.end)) no (λ r. Some (r.start, r.end))

-- the same calls, and the log that they leave
abbrev pub leaving : {A : Type 0} → (A → Log) → Plan A → Plan Log
leaving f (answer x) = answer (f x)
leaving f (refuse e) = refuse e
leaving f (ask p) = ask (leaving f p)
leaving f (call o p) = call o (leaving f p)

abbrev pub is_layout : Fault → Bool
is_layout (ItemPruned p) = false
is_layout (ItemOutOfRange p) = false
is_layout SizeOverflow = false
is_layout OffsetOverflow = false
is_layout EmptyAppend = false
is_layout (Corruption k) = false
is_layout Layout = true
is_layout (NotRising i) = false
is_layout (NoSpace n) = false
is_layout (Codec p) = false

abbrev pub end_of : Outcome Log → End
end_of (answered l) = Done
end_of (refused f) = cond (is_layout f) (Stopped None) (Refused f)
end_of (stopped s y) = Stopped (Some y)

-- a refused open leaves no log, blobs out of line and a stop end it, another refused call hands it back
abbrev pub log_after : Log → Outcome Log → Log
log_after l (answered m) = m
log_after l (refused f) = cond (is_layout f) over (on_log l over over opened trimmed staged running)
log_after l (stopped s y) = over

abbrev pub Consecutive : List ℕ → Type 0
Consecutive [] = Unit {0}
Consecutive (x ∷ []) = Unit {0}
Consecutive (x ∷ (y ∷ ys)) = (y ≡ x + 1) × Consecutive (y ∷ ys)

module _ {R : Type 0} where
  abbrev pub answer_of : List R → Outcome (Unit {0}) → Answer R
  answer_of rs (answered u) = Gave rs
  answer_of rs (refused f) = Denied f
  answer_of rs (stopped s y) = Failed y

  abbrev pub handed_in : Call R → List R
  handed_in (Open o) = []
  handed_in (Append rs lent) = rs
  handed_in (Truncate m) = []
  handed_in (Publish m) = []
  handed_in (Prune p) = []
  handed_in (Clear t) = []
  handed_in Commit = []
  handed_in Sync = []
  handed_in Complete = []
  handed_in Leave = []

module _ {R : Type 0} (c : Config) (writes : R → List ℕ) (decodes : List ℕ → Option R) where
  abbrev pub packed : List R → ℕ → Plan Log → Plan Log
  packed rs lent p = let needs : ℕ = min (length rs * c.z) MAX in refuse_if (nat_lt lent needs) (NoSpace needs) p

  -- a trimmed log takes one record at a time
  abbrev pub add_one : Disk → Opened → List R → ℕ → Option (Plan Log)
  add_one d o [] lent = None
  add_one d o (r ∷ []) lent = Some (packed (r ∷ []) lent (leaving trimmed (trimmed_append_rule c d o (writes r))))
  add_one d o (r ∷ (s ∷ ss)) lent = None

  -- the rule of a call on the log in hand, if that offers it
  abbrev pub rule_of : Log → Disk → Call R → Option (Plan Log)
  rule_of l d (Open k) = on_log l (Some (leaving opened (open_rule c k d))) None no no no no
  rule_of l d (Append rs lent) = on_log l None None no (λ o. add_one d o rs lent) no (λ r. Some (packed rs lent (leaving (λ x. running x.0) (append_rule c r (map writes rs)))))
  rule_of l d (Truncate m) =
      let f : Opened → Option (Plan Log) = λ o. Some (leaving trimmed (truncate_rule c d o m)) in on_log l None None f f no no
  rule_of l d (Publish m) =
      let f : Opened → Option (Plan Log) = λ o. Some (leaving running (publish_rule c d o m)) in on_log l None None f f no no
  rule_of l d (Prune p) =
      on_log l None None no (λ o. Some (leaving (λ x. trimmed x.0) (trimmed_prune_rule c d o p))) no (λ r. Some (leaving (λ x. running x.0) (prune_rule c r p)))
  rule_of l d (Clear t) =
      let f : Opened → Option (Plan Log) = λ o. Some (leaving (λ u. staged t) (stage_rule d t)) in on_log l None None f f no no
  rule_of l d Commit = on_log l None None no no no (λ r. Some (leaving running (commit_rule c r)))
  rule_of l d Sync = on_log l None None no (λ o. Some (leaving trimmed (trimmed_sync_rule c d o))) no (λ r. Some (leaving running (sync_rule c r)))
  rule_of l d Complete = on_log l None None no no (λ t. Some (leaving trimmed (complete_rule c d t))) no
  rule_of l d Leave = on_log l None None no no (λ t. Some (answer over)) no

  abbrev pub told : Reading R → Answer R
  told x = answer_of x.records x.outcome

  abbrev pub read_by : ℕ × ℕ → View → Ask → Answer R
  read_by s v (One p) = told (read_rule decodes c s.0 s.1 v p)
  read_by s v (Many ps bytes recs) = told (read_many_rule decodes c s.0 s.1 v ps bytes recs)

  -- records that have their Z bytes and are read as they were written
  abbrev pub Records : List R → Type 0
  Records [] = Unit {0}
  Records (r ∷ rs) = (length (writes r) ≡ c.z) × (decodes (writes r) ≡ Some r) × Records rs

  -- so are those that a call hands in, unless it is refused
  abbrev pub HandsIn : Call R → End → Type 0
  HandsIn x Done = Records (handed_in x)
  HandsIn x (Refused f) = Unit {0}
  HandsIn x (Stopped y) = Records (handed_in x)

  -- events, newest first, with the log in hand and the store that they leave, whose view always has the laws of a store
  abbrev pub Happened : List (Event R) → Log → View → Type 0
  Happened [] l w = (l ≡ fresh) × New w × Lawful w
  Happened (Restart ∷ es) l w = (k : Log) × (v : View) × Happened es k v × Restarted v w × Lawful w × (l ≡ fresh)
  Happened (Called x e s ∷ es) l w =
      (k : Log) × (v : View) × (p : Plan Log) × (r : Outcome Log) × Happened es k v × (rule_of k v.disk x ≡ Some p) × Follows p v r w × Lawful w
      × HandsIn x e × (e ≡ end_of r) × (l ≡ log_after k r) × (s ≡ span_of l)
  Happened (Read q a ∷ es) l w = (s : ℕ × ℕ) × Happened es l w × (span_of l ≡ Some s) × (a ≡ read_by s w q)

  -- whatever happens with an accepted configuration, some ledger agrees with it
  abbrev pub Law : Type 0
  Law = bad_config c ≡ false → (es : List (Event R)) (l : Log) (w : View) → Happened es l w → (m : Ledger R) × Agrees c es w m

  -- whatever was done, refused or stopped, the blobs are numbered one after the other, unless a clear is staged
  pub record InLine : Type 0 where
    pub unstaged : (es : List (Event R)) (l : Log) (w : View) → Happened es l w → w.disk.saved.target ≡ None → Consecutive (numbers w.disk.blobs)
    -- so a truncate leaves them, wherever it stops
    pub truncated : (es : List (Event R)) (m : ℕ) (e : End) (s : Option (ℕ × ℕ)) (l : Log) (w : View) → Happened (Called (Truncate m) e s ∷ es) l w → Consecutive (numbers w.disk.blobs)
    -- and no publish finds them out of line: a call is stopped by its store only
    pub published : (es : List (Event R)) (x : Call R) (s : Option (ℕ × ℕ)) (l : Log) (w : View) → Happened (Called x (Stopped None) s ∷ es) l w → ⊥

-- the law of every configuration and every kind of record
abbrev pub LawFor : Type 0 → Type 0
LawFor R = (c : Config) (writes : R → List ℕ) (decodes : List ℕ → Option R) → Law c writes decodes

abbrev pub InLineFor : Type 0 → Type 0
InLineFor R = (c : Config) (writes : R → List ℕ) (decodes : List ℕ → Option R) → bad_config c ≡ false → InLine c writes decodes
