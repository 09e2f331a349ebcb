-- What an event of connection k leaves: its record, its stretches, and its protocol's count.
use Prim.Native.Nat.{ℕ}
use mathlib.Core.Path.{◌≡◌, refl, sym, ap, ◌∙◌}
use mathlib.Core.Bool.{Bool, true, false, not}
use mathlib.Core.List.{List, []}
use lib.ListN.{set}
use lib.Seq.{set-get_or}
use Rattle.connection.specs.declared.Connection.{Connection}
use Rattle.reading.specs.Feed.{Out, Ran, finely, drops}
use Rattle.reading.proofs.Compared.{drops-fine}
use Rattle.state.specs.declared.State.{State}
use Rattle.state.specs.State.{record_at, with_record}
use Rattle.state.specs.Memory.{stretch}
use Rattle.model.specs.World.{Held, World, blank, held_at, held_of, view_of, follow, with_cell}
use Rattle.model.specs.Step.{Table, count_after, count_after_if, acted, streamed, left}
use Rattle.model.proofs.View.{view_at, view_one, Less, follow-held}

-- a state with so many drops of a protocol more
abbrev pub drops_of : Bool → ℕ → State → State
drops_of tcp n s = record
    { connections = s.connections; udp_drops = count_after_if (not tcp) n s.udp_drops; tcp_drops = count_after_if tcp n s.tcp_drops }

no_drop : (tcp : Bool) (s : State) → drops_of tcp 0 s ≡ s
unfolding count_after
no_drop true s = refl
no_drop false s = refl

none : (b : Bool) (n : ℕ) → count_after_if b 0 n ≡ n
unfolding count_after
none true n = refl
none false n = refl

-- WHAT CONNECTION k LEAVES
module _ (T : Table) (s : State) (rx tx rx' tx' : List ℕ) (k : ℕ)
    (same-rx : (j : ℕ) → (j ≡ k → ⊥) → stretch 1464 j rx' ≡ stretch 1464 j rx)
    (same-tx : (j : ℕ) → (j ≡ k → ⊥) → stretch 1472 j tx' ≡ stretch 1472 j tx) where
  pub view_left : (c : Connection) (os : List Out)
      → view_of (with_record k c (drops_of (T.config k).tcp (drops os) s)) rx' tx' ≡ left T (view_of s rx tx) k (acted (held_of rx' tx' k c) os)
  view_left c os =
      ap
      (λ (l : List Held).
      record {
        held = l;
        udp = count_after_if (not (T.config k).tcp) (drops os) s.udp_drops;
        tcp = count_after_if (T.config k).tcp (drops os) s.tcp_drops;
      })
      (view_one rx tx rx' tx' k same-rx same-tx s.connections c)

-- where it writes no memory and drops nothing: a record that holds no more
pub view_follow : (T : Table) (s : State) (rx tx : List ℕ) (k : ℕ) (c : Connection) → Less c (record_at s k)
    → view_of (with_record k c s) rx tx ≡ left T (view_of s rx tx) k (acted (follow c (held_at (view_of s rx tx) k)) [])
unfolding drops
view_follow T s rx tx k c l =
    ap (λ (t : State). view_of (with_record k c t) rx tx) (sym (no_drop (T.config k).tcp s))
    ∙ view_left T s rx tx rx tx k (λ j ne. refl) (λ j ne. refl) c []
    ∙ ap (λ (h : Held). left T (view_of s rx tx) k (acted h []))
    (follow-held rx tx k c (record_at s k) l ∙ ap (follow c) (sym (view_at s rx tx k)))

-- an event that is refused leaves the world
pub left-nothing : (T : Table) (w : World) (k : ℕ) → left T w k (acted (held_at w k) []) ≡ w
unfolding drops
left-nothing T w k =
    let p : set w.held k (held_at w k) ≡ w.held = set-get_or w.held k blank in
    let u : count_after_if (not (T.config k).tcp) 0 w.udp ≡ w.udp = none (not (T.config k).tcp) w.udp in
    let t : count_after_if (T.config k).tcp 0 w.tcp ≡ w.tcp = none (T.config k).tcp w.tcp in
    λ i. record { held = p i; udp = u i; tcp = t i }

-- byte by byte or in pieces, takes leave the same
pub left-fine : (T : Table) (w : World) (k : ℕ) (h : Held) (q : Ran) → left T w k (streamed h (finely q)) ≡ left T w k (streamed h q)
left-fine T w k h q =
    ap
    (λ (n : ℕ).
    record {
      held = set w.held k (with_cell q.to h);
      udp = count_after_if (not (T.config k).tcp) n w.udp;
      tcp = count_after_if (T.config k).tcp n w.tcp;
    })
    (drops-fine q.list)
