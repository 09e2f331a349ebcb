-- What the table says of a connection, by its bodies and by the image.
use Prim.Native.Nat.{ℕ}
use mathlib.Core.Path.{◌≡◌, refl, ◌∙◌}
use mathlib.Core.List.{List}
use Rattle.table_layout.specs.Layout.{body_of}
use Rattle.table_layout.specs.declared.Kind.TheVariants.{Group, Connection}
use Rattle.connection.specs.declared.Config.{Config}
use Rattle.state.specs.Fresh.{config_in, config_of}

config-in : (image : List ℕ) (i : ℕ) → config_in (body_of image Connection) (body_of image Group) i ≡ config_of image i
unfolding config_of
config-in image i = refl

pub config_bodies : (image connections groups : List ℕ) (i : ℕ) (g : Config) → connections ≡ body_of image Connection
    → groups ≡ body_of image Group → g ≡ config_in connections groups i → g ≡ config_of image i
config_bodies image connections groups i g a b p =
    let q : config_in connections groups i ≡ config_of image i = rw (a, b) (config-in image i) in
    p ∙ q
