-- THE TRANSITIONS OF A CONNECTION: mode, open wanted and close wanted (its wishes), by the events that concern the record alone and by
-- a tick (R8.2, R9.1, R19.6); of a sound record (an unsound one is answered 12). Where no row fits, they stay. A datagram or an accept makes the
-- chosen member online (R7.6: select/specs/Choose `meet`), and what follows a non-empty take of waiting bytes is R10.9 (send_waiting/specs/Waiting
-- `after_take`): these are not in the table.
use Rattle.std.specs.Prelude.{ℕ, eqb, Bool, true, false, cond, ◌&&◌, List, [], ◌∷◌}
use Rattle.std.specs.Bool.{beq}
use Rattle.connection.specs.declared.Mode.{Mode}
use Rattle.connection.specs.declared.Mode.TheVariants.{Offline, Reconnect, Online}
use Rattle.connection.specs.declared.Connection.{Connection}
use Rattle.connection.specs.declared.Config.{Config}
use Rattle.connection.specs.declared.Event.{Event}
use Rattle.connection.specs.declared.Event.TheVariants.{Open, Close, Connected, Lost, SetRemote, Switch, Cancel}
use Rattle.connection.specs.Connection.{expires as ends}

-- mode, open wanted, close wanted
pub data Place : Type 0 where
  at : Mode → Bool → Bool → Place

abbrev pub place_of : Connection → Place
place_of c = at c.mode c.open_wanted c.close_wanted

-- what happens to a connection; set remote and a switch leave mode and wishes, as every event does that no row is of
pub data Happening : Type 0 where
  opens : Happening
  closes : Happening
  connects : Happening
  loses : Happening
  stays : Happening
  cancels : Happening
  ticks : Happening
  expires : Happening

abbrev pub happening_of : Event → Happening
happening_of Open = opens
happening_of Close = closes
happening_of Connected = connects
happening_of Lost = loses
happening_of (SetRemote r) = stays
happening_of (Switch n on) = stays
happening_of Cancel = cancels

-- a tick, and one that ends the alive timer of a UDP connection whose remote the upper layer has not set (R20.4)
abbrev pub tick_happening : Config → Connection → Happening
tick_happening g c = cond (ends g c) expires ticks

-- what a column asks
pub data Asks : Type 0 where
  either : Asks
  is : Bool → Asks

pub data AsksMode : Type 0 where
  any_mode : AsksMode
  only : Mode → AsksMode

pub data Row : Type 0 where
  row : Happening → Asks → Asks → Asks → Asks → AsksMode → Asks → Asks → Place → Row

-- THE TABLE. Columns: event; TCP; automatic; a wildcard in the remote; a transfer runs; mode; open wanted; close wanted; what it becomes
unfoldable pub table : List Row
table =
    row opens either (is false) either either (only Offline) either (is false) (at Offline true false)
    ∷ row closes either (is false) either either (only Offline) (is true) either (at Offline false true)
    ∷ row closes either (is false) either either (only Reconnect) either either (at Reconnect false true)
    ∷ row closes either (is false) either either (only Online) either either (at Online false true)
    ∷ row connects (is true) either (is false) either (only Reconnect) either (is false) (at Online false false)
    ∷ row loses (is true) either either either (only Online) either (is false) (at Reconnect false false)
    ∷ row loses (is true) either either either (only Online) either (is true) (at Reconnect false true)
    ∷ row cancels (is true) either either (is true) (only Online) either either (at Online false true)
    ∷ row ticks either either either either any_mode either (is true) (at Offline false false)
    ∷ row ticks (is false) either (is false) either (only Offline) (is true) (is false) (at Online false false)
    ∷ row ticks (is false) (is true) (is false) either (only Offline) either (is false) (at Online false false)
    ∷ row ticks either either either either (only Offline) (is true) (is false) (at Reconnect false false)
    ∷ row ticks either (is true) either either (only Offline) either (is false) (at Reconnect false false)
    ∷ row ticks (is false) either (is false) either (only Reconnect) either (is false) (at Online false false)
    ∷ row expires either either either either any_mode either (is true) (at Offline false false)
    ∷ row expires (is false) either either either (only Online) either (is false) (at Reconnect false false)
    ∷ []

abbrev pub happening_number : Happening → ℕ
happening_number opens = 1
happening_number closes = 2
happening_number connects = 3
happening_number loses = 4
happening_number stays = 5
happening_number cancels = 6
happening_number ticks = 0
happening_number expires = 7

abbrev pub meets : Asks → Bool → Bool
meets either b = true
meets (is a) b = beq a b

abbrev pub mode_number : Mode → ℕ
mode_number Offline = 0
mode_number Reconnect = 1
mode_number Online = 2

abbrev pub meets_mode : AsksMode → Mode → Bool
meets_mode any_mode m = true
meets_mode (only n) m = eqb (mode_number n) (mode_number m)

abbrev pub row_fits : Row → Happening → Bool → Bool → Bool → Bool → Place → Bool
row_fits (row h t a w x m o k to) happening tcp automatic wild moving (at mode opened closed) =
    eqb (happening_number h) (happening_number happening)
    && meets t tcp && meets a automatic && meets w wild && meets x moving && meets_mode m mode && meets o opened && meets k closed

abbrev pub target : Row → Place
target (row h t a w x m o k to) = to

-- the first row that fits
unfoldable pub first_in : List Row → Happening → Bool → Bool → Bool → Bool → Place → Place
first_in [] happening tcp automatic wild moving place = place
first_in (r ∷ rs) happening tcp automatic wild moving place =
    cond (row_fits r happening tcp automatic wild moving place) (target r) (first_in rs happening tcp automatic wild moving place)

-- the place after an event: of a connection that is TCP or not, automatic or not, its remote with a wildcard or not, with a transfer that
-- runs or none
unfoldable pub move : Happening → Bool → Bool → Bool → Bool → Place → Place
move = first_in table
