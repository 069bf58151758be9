-- The rows of the table: what is always so of them, and what the calls make of one.
use Rattle.std.specs.Prelude.{ℕ, ◌+◌, ◌^◌, ◌<◌, ◌≤◌, min, cond, List, map, length, ◌==◌, slice_index_or}
use Rattle.catalog.specs.declared.row.Row.{Row}

abbrev pub none : Row
none = record { number = 0; place = 0; tail = 0; len = 0; sound = 0; safe = 0 }

abbrev pub numbers_of : List Row → List ℕ
numbers_of rs = map (λ (r : Row). r.number) rs

abbrev pub places_of : List Row → List ℕ
places_of rs = map (λ (r : Row). r.place) rs

abbrev pub Ordered : Row → Type 0
Ordered r = (r.safe ≤ r.sound) × (r.sound ≤ r.len) × (r.len < 2 ^ 64)

abbrev pub Each : (Row → Type 0) → List Row → Type 0
Each P rs = (k : ℕ) → k < length rs → P (slice_index_or rs k none)

-- a row for a new blob
abbrev pub fresh_row : ℕ → ℕ → Row
fresh_row b p = record { number = b; place = p; tail = p; len = 0; sound = 0; safe = 0 }

-- the same blob with other lengths
abbrev pub sized : Row → ℕ → ℕ → ℕ → Row
sized r len sound safe = record { number = r.number; place = r.place; tail = r.tail; len = len; sound = sound; safe = safe }

abbrev pub grown_row : ℕ → Row → Row
grown_row n r = sized r (r.len + n) (cond (r.sound == r.len) (r.sound + n) r.sound) r.safe

abbrev pub cut_row : ℕ → Row → Row
cut_row n r = sized r n (min r.sound n) (min r.sound n)

abbrev pub synced_row : Row → Row
synced_row r = sized r r.len r.sound r.sound

-- m bytes are left sound, and so safe: the others are cut off, or stay
abbrev pub cut_left : ℕ → Row → Row
cut_left m r = sized r m m m

abbrev pub filled_left : ℕ → Row → Row
filled_left m r = sized r r.len m m
