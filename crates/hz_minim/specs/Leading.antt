-- Leaders: for each state one that stands for it.
use Rattle.std.specs.Prelude.{◌≡◌, ◌≢◌, ◌⊎◌, ℕ, ◌+◌, ◌<◌, ◌≤◌, List, Option, Some, None, length, slice_index_or, slice_set}
use Rattle.hz_pipeline_model.specs.Tables.Tables.{Table, entry}
use Rattle.hz_pipeline_model.specs.Tables.Apart.{Apart}
use Rattle.hz_pipeline_model.specs.Least.Blocks.{block_of}

-- the leader of a state
abbrev pub leader_of : List ℕ → ℕ → ℕ
leader_of leaders state = slice_index_or leaders state 0

-- the leader of the next state, where there is one
abbrev pub led : List ℕ → Option ℕ → Option ℕ
led leaders None = None
led leaders (Some state) = Some (leader_of leaders state)

-- where a column leads from a state, read by leaders
abbrev pub led_entry : Table → List ℕ → ℕ → ℕ → Option ℕ
led_entry table leaders state column = led leaders (entry table state column)

-- Each state has a leader, which leads itself, and states of one block have one leader.
pub record IsLed (blocks leaders : List ℕ) : Type 0 where
  pub each : length leaders ≡ length blocks
  pub within : (state : ℕ) → state < length blocks → leader_of leaders state < length blocks
  pub itself : (state : ℕ) → state < length blocks → leader_of leaders (leader_of leaders state) ≡ leader_of leaders state
  pub same : (one other : ℕ) → one < length blocks → other < length blocks → block_of blocks one ≡ block_of blocks other → leader_of leaders one ≡ leader_of leaders other

-- Each state has a leader, which leads itself, and states with different leaders are apart.
pub record IsCoarse (table : Table) (leaders : List ℕ) : Type 0 where
  pub each : length leaders ≡ length table
  pub within : (state : ℕ) → state < length table → leader_of leaders state < length table
  pub itself : (state : ℕ) → state < length table → leader_of leaders (leader_of leaders state) ≡ leader_of leaders state
  pub apart : (one other : ℕ) → one < length table → other < length table → leader_of leaders one ≢ leader_of leaders other → Apart table one other

-- in this column the state leads to other leaders than its leader does
pub record Strays (table : Table) (columns : ℕ) (leaders : List ℕ) (state column : ℕ) : Type 0 where
  pub here : state < length table
  pub across : column ≤ columns
  pub otherwise : led_entry table leaders state column ≢ led_entry table leaders (leader_of leaders state) column

-- in each of the first k columns the state leads to the leaders that its leader leads to
pub record Follows (table : Table) (leaders : List ℕ) (state k : ℕ) : Type 0 where
  pub alike : (column : ℕ) → column < k → led_entry table leaders state column ≡ led_entry table leaders (leader_of leaders state) column

-- each of the first k states does so in all columns
pub record AllFollow (table : Table) (columns : ℕ) (leaders : List ℕ) (k : ℕ) : Type 0 where
  pub each : (state : ℕ) → state < k → Follows table leaders state (columns + 1)

-- a coarse choice of leaders that every state follows
pub record IsSettled (table : Table) (columns : ℕ) (leaders : List ℕ) : Type 0 where
  pub coarse : IsCoarse table leaders
  pub all : AllFollow table columns leaders (length table)

-- the state has the leader of another one, and leads with it to one leader in the column
abbrev pub GoesAlong : Table → List ℕ → ℕ → ℕ → ℕ → Type 0
GoesAlong table leaders other column state =
    (leader_of leaders state ≡ leader_of leaders other) × (led_entry table leaders state column ≡ led_entry table leaders other column)

-- the leader after a parting: those that go along with the other one are led by it
abbrev pub IsPartedTo : Table → List ℕ → ℕ → ℕ → ℕ → ℕ → Type 0
IsPartedTo table leaders other column state leader =
    (GoesAlong table leaders other column state × (leader ≡ other)) ⊎ ((GoesAlong table leaders other column state → ⊥) × (leader ≡ leader_of leaders state))

-- of the first k states each has its leader after the parting
pub record IsParted (table : Table) (leaders : List ℕ) (other column k : ℕ) (parted : List ℕ) : Type 0 where
  pub each : length parted ≡ k
  pub at : (state : ℕ) → state < k → IsPartedTo table leaders other column state (leader_of parted state)

-- The first state of a block is noted: it stands there already, or it is this one.
pub record HasFirst (old : List (Option ℕ)) (block state : ℕ) (new : List (Option ℕ)) (first : ℕ) : Type 0 where
  pub step : ((slice_index_or old block None ≡ Some first) × (new ≡ old)) ⊎ ((slice_index_or old block None ≡ None) × (first ≡ state) × (new ≡ slice_set old block (Some state)))
