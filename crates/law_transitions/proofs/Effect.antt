-- The table is the events' effect on every sound record.
use Rattle.std.proofs.Common.{Ok}
use Prim.Native.Nat.{◌-◌}
use lib.Dec.{eqb}
use mathlib.Core.Path.{◌≡◌, refl, ap, ◌∙◌}
use mathlib.Core.Bool.{Bool, true, false, cond, not, ◌&&◌, ◌||◌, beq}
use Rattle.receive_part.specs.Part.{transferring}
use Rattle.connection.specs.declared.Mode.{Mode}
use Rattle.connection.specs.declared.Mode.TheVariants.{Offline, Reconnect, Online}
use Rattle.connection.specs.declared.Connection.{Connection}
use Rattle.connection.specs.declared.Config.{Config}
use Rattle.connection.specs.declared.Refusal.TheVariants.{Denied}
use Rattle.connection.specs.declared.Event.{Event}
use Rattle.connection.specs.declared.Event.TheVariants.{Open, Close, Connected, Lost, SetRemote, Switch, Cancel}
use Rattle.connection.specs.Connection.{is_offline, is_reconnect, is_online, wildcard, with_mode, with_send, become, closed_of}
use Rattle.connection.specs.Connection.{started_of, reach_of, run_of, expires as ends, let_go_of, sunk_of, onward, tick_of}
use Rattle.connection.specs.Event.{allowed, record_after, refused_by, step_of}
use Rattle.connection.specs.Sound.{Sound}
use Rattle.connection.proofs.Keeps.{moves-online, let_go_watched}
use Rattle.connection.proofs.Ticks.{step-either}
use Rattle.lists.proofs.Both.{impossible, and_left, and_right, and_both}
use Rattle.law_transitions.specs.Table.{Place, at, place_of, Happening, opens, closes, connects, loses, stays}
use Rattle.law_transitions.specs.Table.{cancels, ticks, expires, happening_of, tick_happening, mode_number, table, first_in, move}

-- the two steps of a tick that goes on
abbrev start_p : Bool → Place → Place
start_p a (at m o k) = cond (is_offline m && (o || a)) (at Reconnect false k) (at m o k)

abbrev reach_p : Bool → Bool → Place → Place
reach_p t w (at m o k) = cond (is_reconnect m && not t && not w) (at Online o k) (at m o k)

-- what the definitions of the events say of mode and wishes
effect : Happening → Bool → Bool → Bool → Bool → Mode → Bool → Bool → Place
effect opens t a w x m o k = cond (not a && is_offline m && not k) (at m true k) (at m o k)
effect closes t a w x m o k = cond (not a && (o || not (is_offline m))) (at m false true) (at m o k)
effect connects t a w x m o k = cond (t && is_reconnect m && not k && not w) (at Online o k) (at m o k)
effect loses t a w x m o k = cond (t && is_online m) (at Reconnect o k) (at m o k)
effect stays t a w x m o k = at m o k
effect cancels t a w x m o k = cond x (at m false true) (at m o k)
effect ticks t a w x m o k = cond k (at Offline false false) (reach_p t w (start_p a (at m o k)))
effect expires t a w x m o k = cond k (at Offline false false) (at Reconnect o k)

-- the rules on wishes, and on where a transfer runs
ruled : Bool → Bool → Bool → Mode → Bool → Bool → Bool
ruled t a x m o k = (not o || (not a && is_offline m && not k)) && (not k || not a || (t && not (is_offline m))) && (not x || (is_online m && t))

-- where an alive timer ends: on an online connection that is not TCP
ending : Happening → Bool → Mode → Bool
ending opens t m = true
ending closes t m = true
ending connects t m = true
ending loses t m = true
ending stays t m = true
ending cancels t m = true
ending ticks t m = true
ending expires t m = is_online m && not t

same : Place → Place → Bool
same (at m o k) (at n p q) = eqb (mode_number m) (mode_number n) && beq o p && beq k q

-- a test of every value
bools : (Bool → Bool) → Bool
bools p = p true && p false

modes : (Mode → Bool) → Bool
modes p = p Offline && p Reconnect && p Online

happenings : (Happening → Bool) → Bool
happenings p = p opens && p closes && p connects && p loses && p stays && p cancels && p ticks && p expires

agrees : Happening → Bool → Bool → Bool → Bool → Mode → Bool → Bool → Bool
agrees h t a w x m o k = not (ruled t a x m o k) || not (ending h t m) || same (effect h t a w x m o k) (move h t a w x (at m o k))

whole : Bool
whole = happenings (λ h. bools (λ t. bools (λ a. bools (λ w. bools (λ x. modes (λ m. bools (λ o. bools (λ k. agrees h t a w x m o k))))))))

-- every happening, protocol, mode and wish, by computation
checked : whole ≡ true
unfolding move first_in table whole happenings bools modes agrees ruled ending same effect
checked = refl

of_bool : (p : Bool → Bool) → bools p ≡ true → (b : Bool) → p b ≡ true
unfolding bools
of_bool p h true = and_left (p true) (p false) h
of_bool p h false = and_right (p true) (p false) h

of_mode : (p : Mode → Bool) → modes p ≡ true → (m : Mode) → p m ≡ true
unfolding modes
of_mode p h Offline = and_left (p Offline) (p Reconnect) (and_left (p Offline && p Reconnect) (p Online) h)
of_mode p h Reconnect = and_right (p Offline) (p Reconnect) (and_left (p Offline && p Reconnect) (p Online) h)
of_mode p h Online = and_right (p Offline && p Reconnect) (p Online) h

of_happening : (p : Happening → Bool) → happenings p ≡ true → (h : Happening) → p h ≡ true
unfolding happenings
of_happening p e h = go h
  where
    seven : (p opens && p closes && p connects && p loses && p stays && p cancels && p ticks) ≡ true
    seven = and_left (p opens && p closes && p connects && p loses && p stays && p cancels && p ticks) (p expires) e

    six : (p opens && p closes && p connects && p loses && p stays && p cancels) ≡ true
    six = and_left (p opens && p closes && p connects && p loses && p stays && p cancels) (p ticks) seven

    five : (p opens && p closes && p connects && p loses && p stays) ≡ true
    five = and_left (p opens && p closes && p connects && p loses && p stays) (p cancels) six

    four : (p opens && p closes && p connects && p loses) ≡ true
    four = and_left (p opens && p closes && p connects && p loses) (p stays) five

    three : (p opens && p closes && p connects) ≡ true
    three = and_left (p opens && p closes && p connects) (p loses) four

    two : (p opens && p closes) ≡ true
    two = and_left (p opens && p closes) (p connects) three

    go : (x : Happening) → p x ≡ true
    go opens = and_left (p opens) (p closes) two
    go closes = and_right (p opens) (p closes) two
    go connects = and_right (p opens && p closes) (p connects) three
    go loses = and_right (p opens && p closes && p connects) (p loses) four
    go stays = and_right (p opens && p closes && p connects && p loses) (p stays) five
    go cancels = and_right (p opens && p closes && p connects && p loses && p stays) (p cancels) six
    go ticks = and_right (p opens && p closes && p connects && p loses && p stays && p cancels) (p ticks) seven
    go expires = and_right (p opens && p closes && p connects && p loses && p stays && p cancels && p ticks) (p expires) e

bool_is : (a b : Bool) → beq a b ≡ true → a ≡ b
bool_is true true e = refl
bool_is true false e = impossible e
bool_is false true e = impossible e
bool_is false false e = refl

mode-is : (m n : Mode) → eqb (mode_number m) (mode_number n) ≡ true → m ≡ n
mode-is Offline Offline e = refl
mode-is Offline Reconnect e = impossible e
mode-is Offline Online e = impossible e
mode-is Reconnect Offline e = impossible e
mode-is Reconnect Reconnect e = refl
mode-is Reconnect Online e = impossible e
mode-is Online Offline e = impossible e
mode-is Online Reconnect e = impossible e
mode-is Online Online e = refl

same-is : (x y : Place) → same x y ≡ true → x ≡ y
unfolding same
same-is (at m o k) (at n p q) e =
    let l = and_left (eqb (mode_number m) (mode_number n) && beq o p) (beq k q) e in
    let a = mode-is m n (and_left (eqb (mode_number m) (mode_number n)) (beq o p) l) in
    let b = bool_is o p (and_right (eqb (mode_number m) (mode_number n)) (beq o p) l) in
    let c = bool_is k q (and_right (eqb (mode_number m) (mode_number n) && beq o p) (beq k q) e) in
    rw (a, b, c)

-- of places that meet these rules
moved : (h : Happening) (t a w x : Bool) (m : Mode) (o k : Bool) → ruled t a x m o k ≡ true
    → ending h t m ≡ true → effect h t a w x m o k ≡ move h t a w x (at m o k)
unfolding whole agrees
moved h t a w x m o k r n =
    let p1 = of_happening (λ h. bools (λ t. bools (λ a. bools (λ w. bools (λ x. modes (λ m. bools (λ o. bools (λ k. agrees h t a w x m o k)))))))) checked h in
    let p2 = of_bool (λ t. bools (λ a. bools (λ w. bools (λ x. modes (λ m. bools (λ o. bools (λ k. agrees h t a w x m o k))))))) p1 t in
    let p3 = of_bool (λ a. bools (λ w. bools (λ x. modes (λ m. bools (λ o. bools (λ k. agrees h t a w x m o k)))))) p2 a in
    let p4 = of_bool (λ w. bools (λ x. modes (λ m. bools (λ o. bools (λ k. agrees h t a w x m o k))))) p3 w in
    let p5 = of_bool (λ x. modes (λ m. bools (λ o. bools (λ k. agrees h t a w x m o k)))) p4 x in
    let p6 = of_mode (λ m. bools (λ o. bools (λ k. agrees h t a w x m o k))) p5 m in
    let p7 = of_bool (λ o. bools (λ k. agrees h t a w x m o k)) p6 o in
    let p8 = of_bool (λ k. agrees h t a w x m o k) p7 k in
    same-is (effect h t a w x m o k) (move h t a w x (at m o k)) (rw (r, n) at p8)

-- a transfer runs on an online TCP record alone
moving-online : (g : Config) (c : Connection) → Sound g c → (not (transferring c.part) || (is_online c.mode && g.tcp)) ≡ true
moving-online g c s = go (transferring c.part) refl
  where
    go : (x : Bool) → transferring c.part ≡ x → (not x || (is_online c.mode && g.tcp)) ≡ true
    go false e = refl
    go true e = moves-online g c s e

rules : (g : Config) (c : Connection) → Sound g c
    → ruled g.tcp g.automatic (transferring c.part) c.mode c.open_wanted c.close_wanted ≡ true
unfolding ruled
rules g c s = and_both (and_both s.wishes.opening s.wishes.closing) (moving-online g c s)

-- an event that is allowed or not
decided : (b : Bool) (c d : Connection)
    → place_of (cond (not b) (refused_by Denied c) (record { answer = Ok tt; connection = d })).connection ≡ cond b (place_of d) (place_of c)
decided true c d = refl
decided false c d = refl

-- an event that leaves mode and wishes, allowed or not
stays_put : (e : Event) (g : Config) (c : Connection) → place_of (record_after e g c) ≡ place_of c → place_of (step_of e g c).connection ≡ place_of c
stays_put e g c p = step-either e g c (λ (d : Connection). place_of d ≡ place_of c) (λ _. refl) (λ _. p)

step_effect : (e : Event) (g : Config) (c : Connection)
    → place_of (step_of e g c).connection
    ≡ effect (happening_of e) g.tcp g.automatic (wildcard c.remote) (transferring c.part) c.mode c.open_wanted c.close_wanted
unfolding step_of effect
step_effect Open g c = decided (allowed Open g c) c (record_after Open g c)
step_effect Close g c = decided (allowed Close g c) c (record_after Close g c)
step_effect Connected g c = decided (allowed Connected g c) c (record_after Connected g c)
step_effect Lost g c = decided (allowed Lost g c) c (record_after Lost g c)
step_effect (SetRemote r) g c = stays_put (SetRemote r) g c refl
step_effect (Switch n on) g c = stays_put (Switch n on) g c refl
step_effect Cancel g c = decided (allowed Cancel g c) c (record_after Cancel g c)

start-place : (g : Config) (c : Connection) → place_of (started_of g c) ≡ start_p g.automatic (place_of c)
unfolding started_of
start-place g c = go (is_offline c.mode && (c.open_wanted || g.automatic))
  where
    go : (b : Bool) → place_of (cond b (with_mode Reconnect false c.close_wanted c) c) ≡ cond b (at Reconnect false c.close_wanted) (place_of c)
    go true = refl
    go false = refl

start-remote : (g : Config) (c : Connection) → (started_of g c).remote ≡ c.remote
unfolding started_of
start-remote g c = go (is_offline c.mode && (c.open_wanted || g.automatic))
  where
    go : (b : Bool) → (cond b (with_mode Reconnect false c.close_wanted c) c).remote ≡ c.remote
    go true = refl
    go false = refl

reach_place : (g : Config) (c : Connection) → place_of (reach_of g c) ≡ reach_p g.tcp (wildcard c.remote) (place_of c)
unfolding reach_of
reach_place g c = go (is_reconnect c.mode && not g.tcp && not (wildcard c.remote))
  where
    go : (b : Bool) → place_of (cond b (become Online c) c) ≡ cond b (at Online c.open_wanted c.close_wanted) (place_of c)
    go true = refl
    go false = refl

run-place : (c : Connection) → place_of (run_of c) ≡ place_of c
unfolding run_of
run-place c = go (eqb c.timer 0)
  where
    go : (b : Bool) → place_of (cond b c (with_send c.used (c.timer - 1) (eqb c.timer 1 || c.due) c)) ≡ place_of c
    go true = refl
    go false = refl

tick_effect : (g : Config) (c : Connection)
    → place_of (tick_of g c)
    ≡ effect (tick_happening g c) g.tcp g.automatic (wildcard c.remote) (transferring c.part) c.mode c.open_wanted c.close_wanted
unfolding tick_of effect
tick_effect g c = go (ends g c)
  where
    on : place_of (onward g c) ≡ reach_p g.tcp (wildcard c.remote) (start_p g.automatic (place_of c))
    on =
        let d = sunk_of c in
        run-place (reach_of g (started_of g d))
        ∙ reach_place g (started_of g d)
        ∙ ap (λ r. reach_p g.tcp (wildcard r) (place_of (started_of g d))) (start-remote g d)
        ∙ ap (reach_p g.tcp (wildcard c.remote)) (start-place g d)

    going : (b : Bool) → place_of (cond b (closed_of g c) (onward g c))
        ≡ cond b (at Offline false false) (reach_p g.tcp (wildcard c.remote) (start_p g.automatic (place_of c)))
    going true = refl
    going false = on

    ended : (b : Bool) → place_of (cond b (closed_of g c) (let_go_of g c)) ≡ cond b (at Offline false false) (at Reconnect c.open_wanted c.close_wanted)
    ended true = refl
    ended false = refl

    -- whether the timer ends
    go : (n : Bool)
        → place_of (cond c.close_wanted (closed_of g c) (cond n (let_go_of g c) (onward g c)))
        ≡ effect (cond n expires ticks) g.tcp g.automatic (wildcard c.remote) (transferring c.part) c.mode c.open_wanted c.close_wanted
    go true = ended c.close_wanted
    go false = going c.close_wanted

-- an event of the record alone ends no alive timer
ends-nothing : (e : Event) (t : Bool) (m : Mode) → ending (happening_of e) t m ≡ true
unfolding ending
ends-nothing Open t m = refl
ends-nothing Close t m = refl
ends-nothing Connected t m = refl
ends-nothing Lost t m = refl
ends-nothing (SetRemote r) t m = refl
ends-nothing (Switch n on) t m = refl
ends-nothing Cancel t m = refl

-- an alive timer ends on an online connection that is not TCP
ends-online : (g : Config) (c : Connection) → Sound g c → ending (tick_happening g c) g.tcp c.mode ≡ true
unfolding ending
ends-online g c s = go (ends g c) refl
  where
    go : (b : Bool) → ends g c ≡ b → ending (cond b expires ticks) g.tcp c.mode ≡ true
    go false e = refl
    go true e = let w = let_go_watched g c s e in and_both w.0 w.1

-- THE TABLE IS THE EVENTS' EFFECT
pub event-moves : (e : Event) (g : Config) (c : Connection) → Sound g c
    → place_of (step_of e g c).connection ≡ move (happening_of e) g.tcp g.automatic (wildcard c.remote) (transferring c.part) (place_of c)
event-moves e g c s =
    step_effect e g c
    ∙ moved (happening_of e) g.tcp g.automatic (wildcard c.remote) (transferring c.part) c.mode c.open_wanted c.close_wanted
    (rules g c s) (ends-nothing e g.tcp c.mode)

pub tick-moves : (g : Config) (c : Connection) → Sound g c
    → place_of (tick_of g c) ≡ move (tick_happening g c) g.tcp g.automatic (wildcard c.remote) (transferring c.part) (place_of c)
tick-moves g c s =
    tick_effect g c
    ∙ moved (tick_happening g c) g.tcp g.automatic (wildcard c.remote) (transferring c.part) c.mode c.open_wanted c.close_wanted
    (rules g c s) (ends-online g c s)
