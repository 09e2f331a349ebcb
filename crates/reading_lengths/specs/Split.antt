-- THE SPLIT (R5.16): bytes as the whole PDUs that stand in them, by lengths alone, and the unfinished rest. No table, no switches.
use Rattle.std.specs.Prelude.{ℕ, zero, suc, ◌+◌, List, [], ◌∷◌, length, take, drop}
use Rattle.frame.specs.Frame.{Sent}
use Rattle.reading_lengths.specs.Head.{Head, ended, short, beyond, whole, head_of}

-- an id and a payload, whose length the header told
abbrev pub sent : ℕ → List ℕ → Sent
sent i p = record { id = i; body = p }

-- the whole PDUs, and the bytes left behind them
pub record Split : Type 0 where
  pub pdus : List Sent
  pub rest : List ℕ

abbrev pub unfinished : List ℕ → Split
unfinished l = record { pdus = []; rest = l }

abbrev pub before : Sent → Split → Split
before s r = record { pdus = s ∷ r.pdus; rest = r.rest }

-- by what stands at the front of l, where `more` splits the bytes behind it
abbrev pub split_by : (List ℕ → Split) → List ℕ → Head → Split
split_by more l ended = unfinished l
split_by more l short = unfinished l
split_by more l (beyond i n) = unfinished l
split_by more l (whole i n) = before (sent i (take n (drop 8 l))) (more (drop (8 + n) l))

-- at most f PDUs
unfoldable pub splits : ℕ → List ℕ → Split
splits zero l = unfinished l
splits (suc f) l = split_by (splits f) l (head_of l)

-- a PDU takes eight bytes at least, so this many are enough
unfoldable pub split : List ℕ → Split
split l = splits (length l) l
