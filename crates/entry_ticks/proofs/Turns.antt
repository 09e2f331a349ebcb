-- Ticks of a connection that is up, and one turn of the loop over the records.
use Prim.Native.Nat.{ℕ, ◌+◌, ◌<◌}
use mathlib.Core.Path.{◌≡◌, refl, sym, ap, ◌∙◌, subst}
use mathlib.Core.Bool.{Bool, true, false, not, ◌||◌}
use mathlib.Core.List.{List}
use lib.Dec.{eqb}
use borrow.Author.Tests.{not-true, eqb-true}
use lib.ListN.{length}
use Rattle.connection.specs.declared.Config.{Config}
use Rattle.connection.specs.declared.Connection.{Connection}
use Rattle.connection.specs.declared.Mode.{Mode}
use Rattle.connection.specs.declared.Mode.TheVariants.{Offline, Reconnect, Online}
use Rattle.connection.specs.Connection.{is_online}
use Rattle.lists.proofs.Both.{and_left, and_right, impossible}
use Rattle.state.specs.declared.State.{State}
use Rattle.state.specs.State.{record_at, with_record}
use Rattle.state.specs.Fresh.{config_of}
use Rattle.state.proofs.Records.{put_back}
use Rattle.state.proofs.Upto.{Upto, still, turn}
use Rattle.entry_ticks.specs.Many.{many_of, turns_next, up_of, still_of, stays_of, later_by, settled_of}
use Rattle.entry_ticks.proofs.Many.{many_at, waits, many_later, settled_many}

module _ (g : Config) (c : Connection) where
  -- an online connection that is not to be closed has nothing to start and nothing to reach
  online-quiet : (m : Mode) → c.mode ≡ m → is_online m ≡ true → c.close_wanted ≡ false → turns_next g c ≡ false
  online-quiet Offline e p k = impossible p
  online-quiet Reconnect e p k = impossible p
  online-quiet Online e p k = rw (k, e)

  up_quiet : up_of c ≡ true → turns_next g c ≡ false
  up_quiet q =
      online-quiet c.mode refl (and_right (not c.close_wanted) _ q)
      (not-true c.close_wanted (and_left (not c.close_wanted) _ q))

  -- no number of ticks changes one that is up, with no timer that runs
  pub still_many : (n : ℕ) → up_of c ≡ true → still_of c ≡ true → c ≡ many_of g n c
  still_many n u p =
      sym (waits g c (up_quiet u) (eqb-true _ _ (and_left (eqb c.timer 0) _ p)) (eqb-true _ _ (and_right (eqb c.timer 0) _ p)) n)

  -- they let the timers of one that stays run
  pub stays_many : (n : ℕ) → up_of c ≡ true → stays_of n c ≡ true → later_by n c ≡ many_of g n c
  stays_many n u p = sym (many_later g n c (up_quiet u) (ap (λ (b : Bool). b || g.tcp) p))

  -- and are at once what they are one after the other
  pub up_many : (n : ℕ) → up_of c ≡ true → settled_of g n c ≡ many_of g n c
  up_many n u = settled_many g c (up_quiet u) n

-- one turn of the loop over the records: of one that has ticked; of one that is up: it is still, or stays, or may be let go
module _ (image : List ℕ) (count : ℕ) (s n : State) (i : ℕ) (there : i < length s.connections) (upto : Upto (many_at image count) s n i) where
  pub many_turn : (g : Config) (d : Connection) → g ≡ config_of image i → d ≡ many_of g count (record_at n i)
      → Upto (many_at image count) s (with_record i d n) (i + 1)
  many_turn g d config ticked =
      turn (many_at image count) s n i d there upto
      (ticked
      ∙ ap (λ (x : Config). many_of x count (record_at n i)) config
      ∙ ap (many_at image count i) (still (many_at image count) s n i upto))

  pub still-turn : up_of (record_at n i) ≡ true → still_of (record_at n i) ≡ true → Upto (many_at image count) s n (i + 1)
  still-turn u p =
      subst (λ (m : State). Upto (many_at image count) s m (i + 1)) (put_back n i)
      (many_turn (config_of image i) (record_at n i) refl (still_many (config_of image i) (record_at n i) count u p))

  pub stays-turn : (d : Connection) → up_of (record_at n i) ≡ true → stays_of count (record_at n i) ≡ true → d ≡ later_by count (record_at n i)
      → Upto (many_at image count) s (with_record i d n) (i + 1)
  stays-turn d u p e = many_turn (config_of image i) d refl (e ∙ stays_many (config_of image i) (record_at n i) count u p)

  pub up_turn : (g : Config) (d : Connection) → up_of (record_at n i) ≡ true → g ≡ config_of image i → d ≡ settled_of g count (record_at n i)
      → Upto (many_at image count) s (with_record i d n) (i + 1)
  up_turn g d u config e = many_turn g d config (e ∙ up_many g (record_at n i) count u)
