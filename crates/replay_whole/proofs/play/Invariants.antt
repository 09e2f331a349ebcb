-- `replay_whole::play` meets its contract. The invariant: from this entry on the replay ends as from its start on.
use mathlib.Core.Path.{◌≡◌}
use lib.ListN.{length}
use Rattle.replay_whole.proofs.Entries.{going_of, AtEntry}
use Rattle.replay_whole.proofs.play.Given as goal

abbrev pub invariant-loop-i : goal.invariant-loop-i
invariant-loop-i l =
    AtEntry l.image l.recording l.initial.rx l.initial.tx l.initial.out l.initial.state l.entries l.i
    (going_of l.state l.rx l.tx l.out l.at l.before l.ticks l.differs)
    × ((length l.rx ≡ length l.initial.rx) × ((length l.tx ≡ length l.initial.tx) × (length l.out ≡ length l.initial.out)))
