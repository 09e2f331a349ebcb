-- While a TCP connection is online, nothing but its segments changes what it holds of its stream; and one that is not online
-- holds nothing of it. Here for connection events.
use Prim.Native.Nat.{ℕ, ◌-◌}
use mathlib.Core.Path.{◌≡◌, refl, sym, ap, ◌∙◌}
use mathlib.Core.Bool.{Bool, true, false, cond, true≢false, false≢true}
use mathlib.Core.List.{List, []}
use lib.ListN.{get_or, set, take as front}
use lib.Seq.{take-take}
use lib.Dec.{ltb}
use native.Mathlib.Nat.{le_refl}
use Rattle.lists.proofs.Each.{one_at}
use Rattle.receive_part.specs.declared.Part.{Part}
use Rattle.receive_part.specs.declared.Part.TheVariants.{Header, Payload, Skip, Transfer}
use Rattle.connection.specs.declared.Connection.{Connection}
use Rattle.connection.specs.declared.Config.{Config}
use Rattle.receive_part.specs.Part.{ready_part}
use Rattle.connection.specs.declared.Event.{Event as Change}
use Rattle.connection.specs.Connection.{is_online}
use Rattle.connection.specs.Event.{record_after, empties}
use Rattle.reading.specs.Feed.{cell, payload}
use Rattle.connection.proofs.Leaves.{after-leaves}
use Rattle.connection.proofs.Ticks.{step-either}
use Rattle.send_waiting.specs.Waiting.{take_of}
use Rattle.send_waiting.proofs.Taken.{take_part, take-mode}
use Rattle.receive_stream.specs.Stream.{cell_of}
use Rattle.model.specs.World.{Held, blank, held_by, cell_at, follow}
use Rattle.model.specs.Events.{Own, change, walk, take_waiting}
use Rattle.model.specs.Step.{Table, does, acts}
use Rattle.model_runs.specs.Streams.{Quiet, Kept}

-- nothing happened
pub kept_same : (h : Held) → Quiet h → Kept h h
kept_same h q = record { going = λ _. refl; gone = q }

-- a record that follows holds the same of its stream, where its part is the same
pub cell-follow : (p : Part) (l : List ℕ) → cell_of p (front (held_by p) l) ≡ cell_of p l
cell-follow (Header held value) l = refl
cell-follow (Payload route n held) l = ap (λ (q : List ℕ). cell (n - held) (payload route q)) (take-take held held l (le_refl held))
cell-follow (Skip bytes) l = refl
cell-follow (Transfer route left) l = refl

pub follows : (c : Connection) (h : Held) → c.part ≡ h.connection.part → cell_at (follow c h) ≡ cell_at h
follows c h e = cell-follow c.part h.received ∙ ap (λ (p : Part). cell_of p h.received) e

pub kept_follow : (c : Connection) (h : Held) → c.part ≡ h.connection.part → c.mode ≡ h.connection.mode → Quiet h → Kept h (follow c h)
kept_follow c h p m q =
    record { going = λ _. follows c h p; gone = λ off. follows c h p ∙ q (ap is_online (sym m) ∙ off) }

-- the six events of the record alone
kept_after : (e : Change) (g : Config) (h : Held) → Quiet h → Kept h (follow (record_after e g h.connection) h)
kept_after e g h q = go (empties e) refl (after-leaves e g h.connection).part
  where
    d : Connection
    d = record_after e g h.connection

    go : (b : Bool) → empties e ≡ b → d.part ≡ cond b ready_part h.connection.part → Kept h (follow d h)
    go true n p =
        record {
          going = λ on. absurd (false≢true (sym ((after-leaves e g h.connection).down n) ∙ on));
          gone = λ _. cell-follow d.part h.received ∙ ap (λ (t : Part). cell_of t h.received) p;
        }
    go false n p =
        record {
          going = λ _. follows d h p;
          gone = λ off. follows d h p ∙ q (down n off (is_online h.connection.mode) refl);
        }
      where
        down : empties e ≡ false → is_online d.mode ≡ false → (b : Bool) → is_online h.connection.mode ≡ b → b ≡ false
        down n off true was = absurd (true≢false (sym ((after-leaves e g h.connection).up n was) ∙ off))
        down n off false was = refl

-- what an event is, if no segment
pub data Other : Own → Type 0 where
  a_change : (e : Change) → Other (change e)
  a_walk : (d : List ℕ) (p : ℕ) → Other (walk d p)
  a_take : (room : ℕ) → Other (take_waiting room)

module _ (T : Table) (k : ℕ) (tcp : (T.config k).tcp ≡ true) where
  kept_does : (e : Own) → Other e → (h : Held) → Quiet h → Kept h (does T k e h).to
  unfolding does
  kept_does _ (a_change e) h q =
      step-either e (T.config k) h.connection (λ (c : Connection). Kept h (follow c h))
      (λ _. kept_follow h.connection h refl refl q) (λ _. kept_after e (T.config k) h q)
  kept_does _ (a_walk d p) h q = rw tcp (kept_same h q)
  kept_does _ (a_take room) h q =
      kept_follow (take_of (T.config k) room h.connection) h
      (take_part (T.config k) room h.connection) (take-mode (T.config k) room h.connection tcp) q

  pub kept_acts : (e : Own) → Other e → (h : Held) (there : Bool) → ltb k T.rows ≡ there → Quiet h → Kept h (acts T k e h).to
  unfolding acts
  kept_acts e o h true p q = rw p (kept_does e o h q)
  kept_acts e o h false p q = rw p (kept_same h q)

  -- .. and none of them hands anything out
  does-nothing : (e : Own) → Other e → (h : Held) → (does T k e h).list ≡ []
  unfolding does
  does-nothing _ (a_change e) h = refl
  does-nothing _ (a_walk d p) h = rw tcp
  does-nothing _ (a_take room) h = refl

  pub acts-nothing : (e : Own) → Other e → (h : Held) (there : Bool) → ltb k T.rows ≡ there → (acts T k e h).list ≡ []
  unfolding acts
  acts-nothing e o h true p = rw p (does-nothing e o h)
  acts-nothing e o h false p = rw p

-- at its place in the world; past the last record nothing is there
pub kept_set : (hs : List Held) (k : ℕ) (h' : Held) → Quiet (get_or hs k blank) → Kept (get_or hs k blank) h'
    → Kept (get_or hs k blank) (get_or (set hs k h') k blank)
kept_set hs k h' q r = one_at blank hs k k h' (Kept (get_or hs k blank)) (λ _. r) (kept_same (get_or hs k blank) q)
