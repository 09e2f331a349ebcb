-- WHEN STATE AND TABLE ARE SOUND (R3.1 to R3.11, R19.8, R20.2), rule by rule, in the words of the rules.
use Rattle.std.specs.Prelude.{ℕ, ◌^◌, ◌<◌, ◌≤◌, ◌≡◌, true, false, List}
use Rattle.table_layout.specs.Layout.{rows_of}
use Rattle.table_layout.specs.declared.Kind.TheVariants.{Connection as Connections, Route as Routes}
use Rattle.table_rows.specs.Rows.{route_of}
use Rattle.receive_part.specs.declared.Part.{Part}
use Rattle.receive_part.specs.declared.Part.TheVariants.{Header, Payload, Skip, Transfer}
use Rattle.connection.specs.declared.Mode.TheVariants.{Offline, Online}
use Rattle.connection.specs.declared.Connection.{Connection}
use Rattle.connection.specs.Connection.{zero_record}
use Rattle.state.specs.declared.State.{State}
use Rattle.state.specs.State.{record_at}
use Rattle.state.specs.Fresh.{config_of}
use Rattle.theorem_calls.specs.Image.{MeetsAll}

module _ (image : List ℕ) (k : ℕ) where
  -- R3.4, R19.8: route r is there and belongs to the connection
  pub record BelongsHere (r : ℕ) : Type 0 where
    pub there : r < rows_of image Routes
    pub owned : (route_of image r).connection ≡ k

  -- R3.3, R3.4: an unfinished payload holds fewer bytes than its length; its route belongs to the connection, allows the length and is not
  -- marked
  pub record UnfinishedRule (r len held : ℕ) : Type 0 where
    pub fewer : held < len
    pub route : BelongsHere r
    pub allows : len ≤ (route_of image r).longest
    pub unmarked : (route_of image r).transfer ≡ false

  -- R19.8: a running transfer has at least one byte to come; its route belongs to the connection and is marked
  pub record RunningRule (r left : ℕ) : Type 0 where
    pub some : 0 < left
    pub route : BelongsHere r
    pub marked : (route_of image r).transfer ≡ true

  -- R3.3: 0..7 header bytes, a number below 256 to the bytes held; at least one byte still to skip
  abbrev pub PartRule : Part → Type 0
  PartRule (Header held value) = (held ≤ 7) × (value < 256 ^ held)
  PartRule (Payload route len held) = UnfinishedRule route len held
  PartRule (Skip n) = 0 < n
  PartRule (Transfer route left) = RunningRule route left

  -- EACH RULE OF A RECORD c of a row
  pub record RecordRules (c : Connection) : Type 0 where
    -- R3.2: send used at most the send size
    pub used : c.used ≤ (config_of image k).size
    pub part : PartRule c.part
    -- R3.5: only an online TCP connection has a receive part (a ready one, with no header byte, has none)
    pub receives : (c.part ≡ Header 0 0 → ⊥) → (c.mode ≡ Online) × ((config_of image k).tcp ≡ true)
    -- R3.6: only an online one has send bytes
    pub sends : 0 < c.used → c.mode ≡ Online
    -- R3.7: timer or due only with send bytes
    pub timer : 0 < c.timer → 0 < c.used
    pub due : c.due ≡ true → 0 < c.used
    -- R3.8: never both
    pub never_both : 0 < c.timer → c.due ≡ true → ⊥
    -- R3.9: an online remote has no wildcard
    pub reached : c.mode ≡ Online → (c.remote.address ≡ 0 → ⊥) × (c.remote.port ≡ 0 → ⊥)
    -- R3.10: open wanted only on a non-automatic offline record, and never with close wanted
    pub opening : c.open_wanted ≡ true → ((config_of image k).automatic ≡ false) × (c.mode ≡ Offline) × (c.close_wanted ≡ false)
    -- R3.11: close wanted never on an automatic UDP record, nor on an automatic offline one
    pub closing : c.close_wanted ≡ true → (config_of image k).automatic ≡ true → ((config_of image k).tcp ≡ true) × (c.mode ≡ Offline → ⊥)
    -- R20.2: the alive timer runs only on an online UDP connection, and is at most the limit
    pub watched : 0 < c.watch.alive → (c.mode ≡ Online) × ((config_of image k).tcp ≡ false) × (c.watch.alive ≤ (config_of image k).alive)

-- STATE AND TABLE ARE SOUND (R3.1): the table meets its rules, each row's record meets its own, and records past the row count are all zero
pub record SoundTogether (image : List ℕ) (s : State) : Type 0 where
  pub table : MeetsAll image
  pub rows : (k : ℕ) → k < rows_of image Connections → RecordRules image k (record_at s k)
  pub past : (k : ℕ) → rows_of image Connections ≤ k → record_at s k ≡ zero_record
