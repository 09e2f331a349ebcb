-- When a source starts the alive timer of the record that it meets (R20.3).
use mathlib.Core.Path.{◌≡◌, sym, ap}
use mathlib.Core.Bool.{Bool, true, false, cond, ◌||◌}
use lib.Dec.{ltb}
use Rattle.connection.specs.declared.Connection.{Connection}
use Rattle.connection.specs.declared.Config.{Config}
use Rattle.connection.specs.Connection.{wildcard, alive_after}

module _ (g : Config) (c : Connection) (b : Bool) (is : b ≡ wildcard c.remote) where
  pub alive_started : (b || ltb 0 c.watch.alive) ≡ true → g.alive ≡ alive_after g c
  unfolding alive_after
  alive_started e = sym (ap (λ (x : Bool). cond x g.alive c.watch.alive) (rw is at e))

  pub alive-stays : (b || ltb 0 c.watch.alive) ≡ false → c.watch.alive ≡ alive_after g c
  unfolding alive_after
  alive-stays e = sym (ap (λ (x : Bool). cond x g.alive c.watch.alive) (rw is at e))
