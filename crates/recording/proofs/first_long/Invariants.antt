-- `recording::first_long` meets its contract. The invariant: the bodies below i are short.
use Rattle.lists.proofs.Search.{Searched}
use Rattle.recording.specs.Recording.{body_short}
use Rattle.recording.proofs.first_long.Given as goal

abbrev pub invariant-loop-i : goal.invariant-loop-i
invariant-loop-i l = Searched (body_short l.recording) l.entries l.i
