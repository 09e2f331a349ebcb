-- What the contracts of the inner functions cite: the same rules by the bodies, asked for once, and a quick way for records that have
-- received nothing and want nothing. They say nothing that the rules of Gate and Sound do not say.
use Rattle.std.specs.Prelude.{ℕ, Bool, cond, not, ◌&&◌, List, eqb, leb, ltb}
use Rattle.table_rows.specs.declared.ConnectionBrief.{ConnectionBrief}
use Rattle.table_rows.specs.declared.GroupRow.{GroupRow}
use Rattle.table_rows.specs.Rows.{group_in, brief_in}
use Rattle.receive_part.specs.Part.{empty_part}
use Rattle.connection.specs.declared.Config.{Config}
use Rattle.connection.specs.declared.Connection.{Connection}
use Rattle.connection.specs.Connection.{zero_remote}
use Rattle.connection.specs.Sound.{sound_of, zero_of, sends, timed, never_both, online_remote, open_rule, close_rule, watched}
use Rattle.state.specs.Fresh.{config_in}
use Rattle.gate.specs.Sound.{routed}

-- what the rules of a record ask of the table; of remote and start switches they ask nothing, and these are 0
abbrev pub rules_from : ConnectionBrief → GroupRow → Config
rules_from row group =
    record {
      tcp = eqb group.protocol 2;
      automatic = row.automatic;
      remote = zero_remote;
      size = row.size;
      alive = row.alive;
      switches = 0;
    }

-- what they ask of row n, out of the bodies of connections and groups
abbrev pub rules_in : List ℕ → List ℕ → ℕ → Config
rules_in connections groups n = rules_from (brief_in connections n) (group_in groups (brief_in connections n).group)

-- a record as sound_at has it, by the bodies where it has a row
abbrev pub row_sound : List ℕ → List ℕ → List ℕ → ℕ → Connection → Bool
row_sound connections groups routes n c = sound_of (config_in connections groups n) c && routed routes n c.part

-- and by the number of rows
abbrev pub sound_in : ℕ → List ℕ → List ℕ → List ℕ → ℕ → Connection → Bool
sound_in rows connections groups routes n c = cond (ltb n rows) (row_sound connections groups routes n c) (zero_of c)

-- a record that has received nothing and wants nothing: of the rules those on its send bytes are left, "an online remote has no wildcard",
-- and the alive timer's
abbrev pub idle : Connection → Bool
idle c = empty_part c.part && not c.open_wanted && not c.close_wanted

abbrev pub idle_sound : ℕ → Connection → Bool
idle_sound size c = leb c.used size && sends c && timed c && never_both c && online_remote c

abbrev pub quiet_sound : Config → Connection → Bool
quiet_sound g c = idle_sound g.size c && watched g c

-- and the rules on what is wanted
abbrev pub wished : Config → Connection → Bool
wished g c = open_rule g c && close_rule g c
