-- LENT MEMORY, in stretches.
use Rattle.std.specs.Prelude.{ℕ, ◌*◌, List, take, drop}

-- R2.7: one stretch for each connection in number order, filled from its front
abbrev pub stretch : ℕ → ℕ → List ℕ → List ℕ
stretch size k memory = take size (drop (k * size) memory)
