-- The promises: what a history of a log begun on a new store must be, to agree with its ledger.
use Rattle.std.specs.Prelude.{◌≡◌, ℕ, ◌≤◌, true, false, cond, ◌⊎◌, List, [], ◌∷◌, map, Some, None, Option}
use Rattle.store.specs.declared.cause.Cause.{Cause}
use Rattle.store.specs.declared.cause.Cause.TheVariants.{Power, NoRoom}
use Rattle.store.specs.Disk.{View, Op, Made, Restarted, New}
use Rattle.rules.specs.Rules.{Config}
use Rattle.ledger.specs.History.{Call, Open, Publish, End, Done, Refused, Stopped, Ask, One, Many, Answer, Gave, Denied, Failed, Event, Restart, Called, Read, Hand, is_log, offers, after, in_hand}
use Rattle.ledger.specs.Ledger.{Ledger, refusal, denial, first, entry, Left, Falls}

-- writing calls, all done
abbrev pub AllDone : View → View → Type 0
AllDone v w = (ops : List Op) × Made ops v None w

abbrev pub positions : Ask → List ℕ
positions (One p) = p ∷ []
positions (Many ps bytes recs) = ps

module _ {R : Type 0} where
  -- only the store stops a call, for want of power or of room; and publish may find its blobs out of line
  abbrev pub StoppedBy : Option Cause → Call R → View → View → Type 0
  StoppedBy (Some y) k v w = ((y ≡ Power) ⊎ (y ≡ NoRoom)) × ((ops : List Op) × (o : Op) × Made ops v (Some (o, y)) w)
  StoppedBy None k v w = ((m : ℕ) × (k ≡ Publish m)) × AllDone v w

  -- how a call ends on a store that it takes from v to w; an open alone may be stopped before it is refused, by a clear that it completes
  abbrev pub Ends : Config → Ledger R → Call R → End → View → View → Ledger R → Type 0
  Ends c l k Done v w m = (refusal c l k ≡ None) × (m ≡ entry c l k) × AllDone v w
  Ends c l k (Refused f) v w m = (refusal c l k ≡ Some f) × (m ≡ l) × AllDone v w
  Ends c l k (Stopped s) v w m = ((refusal c l k ≡ None) ⊎ ((o : Option ℕ) × (k ≡ Open o))) × Left c l k m × StoppedBy s k v w

  -- a log's span is the ledger's
  abbrev pub shown : Hand → Ledger R → Option (ℕ × ℕ)
  shown h l = cond (is_log h) (Some (l.start, l.end)) None

  -- each position reads the record last handed in for it, while the store is up
  abbrev pub Reads : Config → Ledger R → View → Ask → Answer R → Type 0
  Reads c l v q (Gave rs) = (denial c l q ≡ None) × (map Some rs ≡ map l.handed (positions q))
  Reads c l v q (Denied f) = denial c l q ≡ Some f
  Reads c l v q (Failed y) = (v.up ≡ false) × (y ≡ Power)

  -- events, newest first, the store as it then is, and the ledger that they come to
  abbrev pub Agrees : Config → List (Event R) → View → Ledger R → Type 0
  Agrees c [] w m = New w × (m ≡ first)
  Agrees c (Restart ∷ es) w m = (v : View) × (l : Ledger R) × Agrees c es v l × Restarted v w × Falls l m
  Agrees c (Called k e s ∷ es) w m =
      (v : View) × (l : Ledger R) × Agrees c es v l × (offers (in_hand es) k ≡ true) × Ends c l k e v w m
      × (s ≡ shown (after (in_hand es) k e) m) × (m.kept ≤ m.far)
  Agrees c (Read q a ∷ es) w m = Agrees c es w m × (is_log (in_hand es) ≡ true) × Reads c m w q a
