-- R7.5: the four classes of a match, best first (chapter 7.5 of the standard), with the rank of each.
use Rattle.std.specs.Prelude.{ℕ, Bool, true, false, List, [], ◌∷◌, map}
use Rattle.connection.specs.declared.Fields.{Fields}
use Rattle.select.specs.Choose.{rank_of}

-- a match of which the address is equal or a wildcard, and the port
abbrev pub fields : Bool → Bool → Fields
fields address port = record { address = address; port = port }

abbrev pub classes : List Fields
classes =
    -- both fields
    fields true true
    -- the address, any port
    ∷ fields true false
    -- any address, the port
    ∷ fields false true
    -- neither
    ∷ fields false false
    ∷ []

abbrev pub ranks : List ℕ
ranks = map rank_of classes
