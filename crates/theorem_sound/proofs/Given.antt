-- EACH NUMBER IS GIVEN EXACTLY WHEN THE RULES SAY SO, with 11, 12, 2, 3 and 4 in words, from any table, state and memory.
use Prim.Native.Nat.{ℕ, zero, suc, ◌<◌, ◌≤◌}
use mathlib.Core.Path.{◌≡◌, refl, sym, ap, ◌∙◌, subst}
use mathlib.Core.Logic.{◌↔◌}
use mathlib.Core.Bool.{Bool, true, false, cond, not, ◌&&◌, ◌||◌, false≢true, true≢false}
use mathlib.Core.List.{List, [], ◌∷◌}
use native.Mathlib.Omega.{arith}
use lib.Dec.{eqb, leb, ltb}
use lib.ListN.{length}
use borrow.Author.Tests.{not-true, not-false, eqb-true, eqb-false, eq-eqb, ne_eqb, leb-true, leb-false, ltb-true, ltb-false, lt-ltb}
use Rattle.lists.proofs.Both.{impossible, and_left, and_right, and_both, neither}
use Rattle.table_layout.specs.Layout.{rows_of}
use Rattle.table_layout.specs.declared.Kind.TheVariants.{Connection as Connections, Group}
use Rattle.table_rows.specs.Rows.{group_of}
use Rattle.connection.specs.declared.Mode.{Mode}
use Rattle.connection.specs.declared.Mode.TheVariants.{Offline, Reconnect, Online}
use Rattle.connection.specs.declared.Connection.{Connection}
use Rattle.connection.specs.declared.Config.{Config}
use Rattle.connection.specs.declared.Remote.{Remote}
use Rattle.connection.specs.declared.Event.{Event as Change}
use Rattle.connection.specs.declared.Event.TheVariants.{Open, Close, Connected, Lost, SetRemote, Switch, Cancel}
use Rattle.connection.specs.Connection.{is_online, wildcard}
use Rattle.connection.specs.Event.{known, allowed}
use Rattle.state.specs.State.{record_at}
use Rattle.state.specs.Fresh.{config_of}
use Rattle.gate.specs.Sound.{sound_state}
use Rattle.model.specs.Events.{change, segment, walk, take_waiting, datagram, accept, tick, transmit, switch_all, read_count, clear_count, Event, on, on_whole}
use Rattle.model_refines.specs.Machine.{Machine}
use Rattle.theorems.specs.Numbers.{number_of}
use Rattle.send.specs.Send.{destinations}
use Rattle.theorem_answers.specs.When.{Check, check, first_failing, not_online, destination_here, has}
use Rattle.theorem_answers.specs.When.{switched_on, payload_too_long, no_room, asked_from, transmits, checks_for}
use Rattle.theorem_answers.proofs.When.{exactly_when}
use Rattle.theorem_records.specs.Allowed.{MayHappen}
use Rattle.theorem_records.proofs.Allowed.{allowed_exactly}
use Rattle.theorem_sound.specs.Rules.{SoundTogether}
use Rattle.theorem_sound.specs.Given.{Decides, by_this, by_later, NoneLeft, NoSuchSwitch, above_31, RightLengths, AfterGate, MayReceive}
use Rattle.theorem_sound.specs.Given.{NoWalk, on_tcp, beyond_end, MayArrive, IsProtocol, is_udp, is_tcp, Counting, GivenFor}
use Rattle.theorem_sound.proofs.Rules.{sound_exactly}

-- A CHECK AND ITS WORDS: the test fails exactly where the rule is broken
step : {Broken : Type 0} {Later : ℕ → Type 0} (b : Bool) (n : ℕ) (cs : List Check) → (b ≡ true → Broken) → (b ≡ false → Broken → ⊥) → Later (first_failing cs)
    → Decides Broken n Later (first_failing (check b n ∷ cs))
unfolding first_failing
step true n cs yes-so no-so h = by_this (yes-so refl) refl
step false n cs yes-so no-so h = by_later (no-so refl) h

-- two numbers that the words allow are equal, where the later words allow but one
one-given : {Broken : Type 0} {n : ℕ} {Later : ℕ → Type 0} {x y : ℕ} → ((x y : ℕ) → Later x → Later y → x ≡ y) → Decides Broken n Later x
    → Decides Broken n Later y → x ≡ y
one-given same (by_this p e) (by_this q f) = e ∙ sym f
one-given same (by_this p e) (by_later q f) = absurd (q p)
one-given same (by_later p e) (by_this q f) = absurd (p q)
one-given {x = x} {y = y} same (by_later p e) (by_later q f) = same x y e f

-- a rule that is broken where a test is not passed: the test of its being met, and the other side
unmet : {Met : Type 0} (b : Bool) → (b ≡ true → Met) → not b ≡ true → (Met → b ≡ true) → Met → ⊥
unmet b told e is m = false≢true (sym (not-true b e) ∙ is m)

met : {Met : Type 0} (b : Bool) → (b ≡ true → Met) → not b ≡ false → (Met → ⊥) → ⊥
met b told e broken = broken (told (not-false b e))

-- a test of which one of two says no
either : (a b : Bool) → (not a || not b) ≡ not (a && b)
either true b = refl
either false b = refl

is-online : (m : Mode) → is_online m ≡ true → m ≡ Online
is-online Offline e = impossible e
is-online Reconnect e = impossible e
is-online Online e = refl

module _ (image : List ℕ) (m : Machine) where
  -- 11 AND 12
  right : Bool
  right = eqb (length m.rx) 23424 && eqb (length m.tx) 23552

  right_told : right ≡ true → RightLengths image m
  unfolding right
  right_told e = record { receive = eqb-true _ _ (and_left (eqb (length m.rx) 23424) _ e); send = eqb-true _ _ (and_right (eqb (length m.rx) 23424) _ e) }

  told_right : RightLengths image m → right ≡ true
  unfolding right
  told_right w = and_both (eq-eqb _ _ w.receive) (eq-eqb _ _ w.send)

  other : Bool
  other = not (eqb (length m.rx) 23424) || not (eqb (length m.tx) 23552)

  other_is : other ≡ not right
  unfolding right other
  other_is = either (eqb (length m.rx) 23424) (eqb (length m.tx) 23552)

  gated : {Own : ℕ → Type 0} (own : List Check) → Own (first_failing own)
      → AfterGate image m Own (first_failing (check (not (eqb (length m.rx) 23424) || not (eqb (length m.tx) 23552)) 11 ∷ check (not (sound_state image
      m.state)) 12 ∷ own))
  unfolding other
  gated own h =
      step other 11 _ (λ e. unmet right right_told (sym other_is ∙ e) told_right) (λ e. met right right_told (sym other_is ∙ e))
      (step (not (sound_state image m.state)) 12 own (λ e. unmet (sound_state image m.state) (sound_exactly image m.state).0 e (sound_exactly image
      m.state).1)
      (λ e. met (sound_state image m.state) (sound_exactly image m.state).0 e) h)

  -- 2, a number that is not there
  missing : {Later : ℕ → Type 0} (rows k : ℕ) (own : List Check) → Later (first_failing own) → Decides (rows ≤ k) 2 Later (first_failing (check
      (leb rows k) 2 ∷ own))
  missing rows k own h = step (leb rows k) 2 own (leb-true rows k) (λ e q. omega (arith, leb-false rows k e, q)) h

  above : {Later : ℕ → Type 0} (a b n : ℕ) (own : List Check) → Later (first_failing own) → Decides (a < b) n Later (first_failing (check (ltb a b) n ∷ own))
  above a b n own h = step (ltb a b) n own (ltb-true a b) (λ e q. omega (arith, ltb-false a b e, q)) h

  done : NoneLeft (first_failing [])
  unfolding first_failing
  done = refl

  -- 2 of a switch
  no_switch : (e : Change) → not (known e) ≡ true → NoSuchSwitch e
  no_switch Open q = impossible q
  no_switch Close q = impossible q
  no_switch Connected q = impossible q
  no_switch Lost q = impossible q
  no_switch (SetRemote r) q = impossible q
  no_switch (Switch n position) q = above_31 n position (omega (arith, ltb-false n 32 (not-true (ltb n 32) q)))
  no_switch Cancel q = impossible q

  switch_known : (e : Change) → NoSuchSwitch e → known e ≡ true → ⊥
  switch_known e (above_31 n position h) q = omega (arith, h, ltb-true n 32 q)

  -- 4
  module _ (k : ℕ) where
    abbrev c : Connection
    c = record_at m.state k

    abbrev g : Config
    g = config_of image k

    receives : Bool
    receives = is_online c.mode && not c.close_wanted

    receives_told : receives ≡ true → MayReceive image m k
    unfolding receives
    receives_told e =
        record {
          online = is-online c.mode (and_left (is_online c.mode) _ e);
          stays = not-true c.close_wanted (and_right (is_online c.mode) (not
              c.close_wanted) e);
        }

    told_receives : MayReceive image m k → receives ≡ true
    unfolding receives
    told_receives w = and_both (ap is_online w.online) (ap not w.stays)

    not_receiving : (b d : Bool) → (not b || d) ≡ not (b && not d)
    not_receiving true true = refl
    not_receiving true false = refl
    not_receiving false d = refl

    silent_is : (not (is_online c.mode) || c.close_wanted) ≡ not receives
    unfolding receives
    silent_is = not_receiving (is_online c.mode) c.close_wanted

    silent : Decides (MayReceive image m k → ⊥) 4 NoneLeft (first_failing (check (not (is_online c.mode) || c.close_wanted) 4 ∷ []))
    silent =
        step (not (is_online c.mode) || c.close_wanted) 4 [] (λ e. unmet receives receives_told (sym silent_is ∙ e) told_receives)
        (λ e. met receives receives_told (sym silent_is ∙ e)) done

    -- 3 of a connection event, of a segment, of a walk
    may : (e : Change) → Decides (MayHappen g c e → ⊥) 3 NoneLeft (first_failing (check (not (allowed e g c)) 3 ∷ []))
    may e =
        step (not (allowed e g c)) 3 [] (λ q. unmet (allowed e g c) (allowed_exactly g c e).0 q (allowed_exactly g c e).1) (λ q. met (allowed e g c)
        (allowed_exactly g c e).0 q) done

    walks : (d : List ℕ) (place : ℕ) → (g.tcp || ltb (length d) place) ≡ true → NoWalk image m k d place
    walks d place e = go g.tcp refl e
      where
        go : (b : Bool) → g.tcp ≡ b → (b || ltb (length d) place) ≡ true → NoWalk image m k d place
        go true t q = on_tcp t
        go false t q = beyond_end (ltb-true (length d) place q)

    walks_not : (d : List ℕ) (place : ℕ) → (g.tcp || ltb (length d) place) ≡ false → NoWalk image m k d place → ⊥
    walks_not d place e (on_tcp t) = true≢false (sym t ∙ (neither g.tcp (ltb (length d) place) e).0)
    walks_not d place e (beyond_end h) = true≢false (sym (lt-ltb (length d) place h) ∙ (neither g.tcp (ltb (length d) place) e).1)

  -- 3 of a datagram and an accept
  module _ (protocol group : ℕ) (source : Remote) where
    abbrev its : Bool
    its = eqb (group_of image group).protocol protocol

    welcome : (not its || wildcard source) ≡ true → MayArrive image m protocol group source → ⊥
    welcome e w =
        false≢true (sym (ap not (eq-eqb _ _ w.its)) ∙ wild (not its) (eqb source.address 0) (eqb source.port 0) e (ne_eqb _ _ w.address)
        (ne_eqb _ _ w.port))
      where
        wild : (a b d : Bool) → (a || (b || d)) ≡ true → b ≡ false → d ≡ false → a ≡ true
        wild true b d q f h = refl
        wild false true d q f h = absurd (true≢false f)
        wild false false true q f h = absurd (true≢false h)
        wild false false false q f h = q

    not_welcome : (not its || wildcard source) ≡ false → (MayArrive image m protocol group source → ⊥) → ⊥
    not_welcome e broken =
        let n = neither (not its) (wildcard source) e in
        let w = neither (eqb source.address 0) (eqb source.port 0) n.1 in
        broken (record { its = eqb-true _ _ (not-false its n.0); address = eqb-false _ _ w.0; port = eqb-false _ _ w.1 })

  -- 3 of a count
  no-protocol : (p : ℕ) → not (eqb p 1 || eqb p 2) ≡ true → IsProtocol image m p → ⊥
  no-protocol _ e is_udp = false≢true e
  no-protocol _ e is_tcp = false≢true e

  a_protocol : (p : ℕ) → not (eqb p 1 || eqb p 2) ≡ false → (IsProtocol image m p → ⊥) → ⊥
  a_protocol p e broken = go (eqb p 1) refl (not-false (eqb p 1 || eqb p 2) e)
    where
      go : (b : Bool) → eqb p 1 ≡ b → (b || eqb p 2) ≡ true → ⊥
      go true q f = broken (subst (IsProtocol image m) (sym (eqb-true p 1 q)) is_udp)
      go false q f = broken (subst (IsProtocol image m) (sym (eqb-true p 2 f)) is_tcp)

  counts : (p : ℕ) → Counting image m p (first_failing (check (not (eqb (length m.rx) 23424) || not (eqb (length m.tx) 23552)) 11 ∷ check (not
      (sound_state image m.state)) 12 ∷ check (not (eqb p 1 || eqb p 2)) 3 ∷ []))
  counts p = gated (check (not (eqb p 1 || eqb p 2)) 3 ∷ []) (step (not (eqb p 1 || eqb p 2)) 3 [] (no-protocol p) (a_protocol p) done)

  -- THE CHECKS OF EVERY EVENT
  checks_given : (e : Event) → GivenFor image m e (first_failing (checks_for image m e))
  unfolding GivenFor checks_for
  checks_given (on k (change e)) =
      gated _ (missing (rows_of image Connections) k _ (step (not (known e)) 2 _ (no_switch e) (λ q w. switch_known e w (not-false (known e) q)) (may k e)))
  checks_given (on k (segment bytes)) =
      gated _ (missing (rows_of image Connections) k _ (step (not (config_of image k).tcp) 3 _ (not-true (config_of image k).tcp) (λ q w. false≢true
      (sym w ∙ not-false (config_of image k).tcp q)) (silent k)))
  checks_given (on k (walk d place)) =
      gated _ (missing (rows_of image Connections) k _ (step ((config_of image k).tcp || ltb (length d) place) 3 _ (walks k d place) (walks_not k d place)
      (silent k)))
  checks_given (on k (take_waiting room)) = gated _ (missing (rows_of image Connections) k _ (above room (record_at m.state k).used 9 [] done))
  checks_given (on_whole (datagram group source)) =
      gated _ (missing (rows_of image Group) group _ (step (not (eqb (group_of image group).protocol 1) || wildcard source) 3 _ (welcome 1 group source)
      (not_welcome 1 group source) refl))
  checks_given (on_whole (accept group source)) =
      gated _ (missing (rows_of image Group) group _ (step (not (eqb (group_of image group).protocol 2) || wildcard source) 3 _ (welcome 2 group source)
      (not_welcome 2 group source) refl))
  checks_given (on_whole tick) = gated [] done
  checks_given (on_whole (transmit pdu payload)) = gated (transmits image m pdu (length payload)) refl
  checks_given (on_whole (switch_all number position)) = gated _ (above 31 number 2 [] done)
  checks_given (on_whole (read_count protocol)) = counts protocol
  checks_given (on_whole (clear_count protocol)) = counts protocol

  -- and no other number is
  none_two : (x y : ℕ) → NoneLeft x → NoneLeft y → x ≡ y
  none_two x y e f = e ∙ sym f

  then_two : {Broken : Type 0} {n : ℕ} {Later : ℕ → Type 0} → ((x y : ℕ) → Later x → Later y → x ≡ y) → (x y : ℕ) → Decides Broken n Later x
      → Decides Broken n Later y → x ≡ y
  then_two same x y p q = one-given same p q

  is_two : (n x y : ℕ) → n ≡ x → n ≡ y → x ≡ y
  is_two n x y e f = sym e ∙ f

  given-once : (e : Event) (x y : ℕ) → GivenFor image m e x → GivenFor image m e y → x ≡ y
  unfolding GivenFor
  given-once (on k (change e)) x y p q = then_two (then_two (then_two (then_two (then_two none_two)))) x y p q
  given-once (on k (segment bytes)) x y p q = then_two (then_two (then_two (then_two (then_two none_two)))) x y p q
  given-once (on k (walk d place)) x y p q = then_two (then_two (then_two (then_two (then_two none_two)))) x y p q
  given-once (on k (take_waiting room)) x y p q = then_two (then_two (then_two (then_two none_two))) x y p q
  given-once (on_whole (datagram group source)) x y p q = then_two (then_two (then_two (then_two (is_two _)))) x y p q
  given-once (on_whole (accept group source)) x y p q = then_two (then_two (then_two (then_two (is_two _)))) x y p q
  given-once (on_whole tick) x y p q = then_two (then_two none_two) x y p q
  given-once (on_whole (transmit pdu payload)) x y p q = then_two (then_two (is_two _)) x y p q
  given-once (on_whole (switch_all number position)) x y p q = then_two (then_two (then_two none_two)) x y p q
  given-once (on_whole (read_count protocol)) x y p q = then_two (then_two (then_two none_two)) x y p q
  given-once (on_whole (clear_count protocol)) x y p q = then_two (then_two (then_two none_two)) x y p q

  -- THE NUMBER IS x EXACTLY WHEN THE WORDS GIVE x
  pub exactly_given : (e : Event) (x : ℕ) → (number_of image m e ≡ x) ↔ GivenFor image m e x
  exactly_given e x = (there, back)
    where
      is : GivenFor image m e (number_of image m e)
      is = subst (GivenFor image m e) (sym (exactly_when image m e)) (checks_given e)

      there : number_of image m e ≡ x → GivenFor image m e x
      there q = subst (GivenFor image m e) q is

      back : GivenFor image m e x → number_of image m e ≡ x
      back w = given-once e (number_of image m e) x is w

-- 12 ALONE. No other check gives it: these give 10 at most
Low : List Check → Type 0
Low [] = Unit {0}
Low (c ∷ cs) = (c.number ≤ 10) × Low cs

first-low : (cs : List Check) → Low cs → first_failing cs ≤ 10
unfolding first_failing Low
first-low [] h = omega arith
first-low (c ∷ cs) (here, h) = go c.fails (first-low cs h)
  where
    go : (b : Bool) → first_failing cs ≤ 10 → cond b c.number (first_failing cs) ≤ 10
    go true q = here
    go false q = q

module _ (image : List ℕ) (m : Machine) where
  abbrev Twelve : Type 0
  Twelve = RightLengths image m × (SoundTogether image m.state → ⊥)

  abbrev unsound : Bool
  unsound = not (sound_state image m.state)

  abbrev gate_first : List Check → List Check
  gate_first own = check (not (eqb (length m.rx) 23424) || not (eqb (length m.tx) 23552)) 11 ∷ check unsound 12 ∷ own

  twelve_of : (own : List Check) → Low own → (first_failing (gate_first own) ≡ 12) ↔ Twelve
  unfolding first_failing other
  twelve_of own low = (λ e. go (other image m) refl unsound refl e, back)
    where
      go : (a : Bool) → other image m ≡ a → (b : Bool) → unsound ≡ b → cond a 11 (cond b 12 (first_failing own)) ≡ 12 → Twelve
      go true ea b eb e = absurd (omega (arith, e))
      go false ea true eb e = (
        right_told image m (not-false (right image m) (sym (other_is image m) ∙ ea)),
        unmet (sound_state image m.state) (sound_exactly image m.state).0 eb (sound_exactly image m.state).1,
      )
      go false ea false eb e = absurd (omega (arith, e, first-low own low))

      back : Twelve → cond (other image m) 11 (cond unsound 12 (first_failing own)) ≡ 12
      back (lengths, broken) =
          ap (λ (b : Bool). cond b 11 (cond unsound 12 (first_failing own))) (other_is image m ∙ ap not (told_right image m lengths))
          ∙ ap (λ (b : Bool). cond b 12 (first_failing own)) (no_pass (sound_state image m.state) refl)
        where
          no_pass : (b : Bool) → sound_state image m.state ≡ b → not b ≡ true
          no_pass true e = absurd (broken ((sound_exactly image m.state).0 e))
          no_pass false e = refl

  low-asked : (pdu len n i : ℕ) → Low (asked_from image m pdu len n i)
  unfolding asked_from Low
  low-asked pdu len zero i = tt
  low-asked pdu len (suc n) i = go (has image m pdu len i && switched_on image m pdu len i) (low-asked pdu len n (suc i))
    where
      next : List Check
      next = asked_from image m pdu len n (suc i)

      go : (b : Bool) → Low next
          → Low (cond b (not_online image m
          (destination_here image m pdu len i).connection ∷ payload_too_long image m pdu len i ∷ no_room image m pdu len i ∷ next) next)
      go true h = (omega arith, (omega arith, (omega arith, h)))
      go false h = h

  twelve_checks : (e : Event) → (first_failing (checks_for image m e) ≡ 12) ↔ Twelve
  unfolding checks_for Low
  twelve_checks (on k (change c)) = twelve_of _ (omega arith, (omega arith, (omega arith, tt)))
  twelve_checks (on k (segment bytes)) = twelve_of _ (omega arith, (omega arith, (omega arith, tt)))
  twelve_checks (on k (walk d place)) = twelve_of _ (omega arith, (omega arith, (omega arith, tt)))
  twelve_checks (on k (take_waiting room)) = twelve_of _ (omega arith, (omega arith, tt))
  twelve_checks (on_whole (datagram group source)) = twelve_of _ (omega arith, (omega arith, (omega arith, tt)))
  twelve_checks (on_whole (accept group source)) = twelve_of _ (omega arith, (omega arith, (omega arith, tt)))
  twelve_checks (on_whole tick) = twelve_of [] tt
  twelve_checks (on_whole (transmit pdu payload)) = twelve_of _ (omega arith, (omega arith, low-asked pdu (length payload) (destinations image) 0))
  twelve_checks (on_whole (switch_all number position)) = twelve_of _ (omega arith, tt)
  twelve_checks (on_whole (read_count protocol)) = twelve_of _ (omega arith, tt)
  twelve_checks (on_whole (clear_count protocol)) = twelve_of _ (omega arith, tt)

  -- 12 IS GIVEN EXACTLY WHEN the lent memories have their lengths and state or table is not sound
  pub twelve_exactly : (e : Event) → (number_of image m e ≡ 12) ↔ (RightLengths image m × (SoundTogether image m.state → ⊥))
  twelve_exactly e = (λ q. (twelve_checks e).0 (sym (exactly_when image m e) ∙ q), λ w. exactly_when image m e ∙ (twelve_checks e).1 w)
