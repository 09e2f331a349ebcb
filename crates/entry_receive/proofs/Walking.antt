-- The walk over a datagram at each of its returns.
use Rattle.std.proofs.Common.{Result, Ok}
use Prim.Native.Nat.{ℕ, ◌%◌, ◌<◌}
use mathlib.Core.Path.{◌≡◌, refl, sym, ap, ap₂, ◌∙◌}
use mathlib.Core.Bool.{Bool, true, false, cond, not, ◌&&◌}
use mathlib.Core.List.{List}
use native.Mathlib.Omega.{arith}
use lib.Dec.{leb}
use lib.ListN.{length}
use Rattle.table_layout.specs.Layout.{body_of, Laid}
use Rattle.table_layout.specs.declared.Kind.TheVariants.{Route as Routes}
use Rattle.connection.specs.declared.Connection.{Connection}
use Rattle.state.specs.declared.State.{State}
use Rattle.state.specs.State.{record_at, with_count}
use Rattle.state.specs.Fresh.{config_of}
use Rattle.receive_datagram.specs.declared.Outcome.{Outcome}
use Rattle.receive_datagram.specs.declared.Outcome.TheVariants.{End, Pdu, Drop}
use Rattle.receive_datagram.specs.declared.Walked.{Walked}
use Rattle.receive_datagram.specs.Datagram.{walked_of}
use Rattle.gate.specs.Lent.{Lent}
use Rattle.gate.specs.Gate.{gate_at}
use Rattle.gate.proofs.Pass.{passed-laid}
use Rattle.entry_receive.specs.declared.DatagramWalked.{DatagramWalked}
use Rattle.entry_receive.specs.declared.WalkStep.{WalkStep}
use Rattle.entry_receive.specs.Answer.{is_done, answer_past, stream_past}
use Rattle.entry_receive.specs.Walk.{count_walk, walk_drops, step_walked, walked_at, walk_on, none_walked, walk_allowed, walk_answer, walk_of}
use Rattle.entry_receive.proofs.Answers.{Clear, done_clear, is-done, answer-is, past-stream}
use Rattle.entry_receive.proofs.Past.{below_sixteen}
use Rattle.connection.specs.declared.Refusal.{Refusal}
use Rattle.entry_receive.specs.declared.NotReceived.{NotReceived}

-- A STEP: where nothing refuses it, the walk
module _ (image : List ℕ) (switches drops n : ℕ) (datagram : List ℕ) (place : ℕ) (answer : Result Unit NotReceived) where
  pub step_done : is_done answer ≡ true → (routes : List ℕ) → routes ≡ body_of image Routes → (w : Walked) → w ≡ walked_of datagram place routes n switches
      → (after : ℕ) → after ≡ walk_drops w.outcome drops
      → record { drops = after; outcome = w.outcome; next = w.next } ≡ step_walked image switches drops n datagram place answer
  unfolding step_walked
  step_done p routes er w ew after ea =
      let same : w ≡ walked_of datagram place (body_of image Routes) n switches = ew ∙ ap (λ (l : List ℕ). walked_of datagram place l n switches) er in
      rw p
      (ap (λ (d : ℕ). record { drops = d; outcome = w.outcome; next = w.next }) ea
      ∙ ap (λ (u : Walked). record { drops = walk_drops u.outcome drops; outcome = u.outcome; next = u.next }) same)

  pub step_none : is_done answer ≡ false → record { drops = drops; outcome = End; next = place } ≡ step_walked image switches drops n datagram place answer
  unfolding step_walked
  step_none p = rw p

-- the state with that count
count-is : (o : Outcome) (s : State) → with_count false (walk_drops o s.udp_drops) s ≡ count_walk o s
count-is End s = refl
count-is (Pdu route id at n) s = refl
count-is (Drop reason id n) s = refl

pub walk-answer : (l : Lent) (n : ℕ) (datagram : List ℕ) (place : ℕ) (asked : Result Unit Refusal) → asked ≡ gate_at l n
    → (tcp : Bool) → tcp ≡ stream_past asked (config_of l.image n).tcp
    → (c : Connection) → c ≡ record_at l.state (n % 16) → (a : Result Unit NotReceived)
    → a ≡ answer_past asked (not tcp && leb place (length datagram)) c → a ≡ walk_answer l n datagram place
walk-answer l n datagram place asked eg tcp et c ec a e =
    let t : Bool = (config_of l.image n).tcp in
    let allows : Bool → Bool = λ (b : Bool). not b && leb place (length datagram) in
    answer-is l n (allows t) asked eg c ec a (e ∙ ap (λ (b : Bool). answer_past asked (allows b) c) et ∙ past-stream asked allows t c)

-- THE ENTRY
module _ (l : Lent) (n : ℕ) (datagram : List ℕ) (place : ℕ) (c : Connection) (ec : c ≡ record_at l.state (n % 16))
    (answer : Result Unit NotReceived) (ea : answer ≡ walk_answer l n datagram place) where
  cleared : is_done answer ≡ true → Clear l n (walk_allowed l.image n datagram place)
  cleared p = done_clear l n (walk_allowed l.image n datagram place) (ap is_done (sym ea) ∙ p)

  pub may_walk : is_done answer ≡ true → Laid l.image
  may_walk p = passed-laid l (cleared p).passed

  own : is_done answer ≡ true → c ≡ record_at l.state n
  own p =
      let k : Clear l n (walk_allowed l.image n datagram place) = cleared p in
      let small : n < 16 = below_sixteen l.image k.passed.table n k.there in
      let same : n % 16 ≡ n = omega arith in
      ec ∙ ap (record_at l.state) same

  -- what is told of a step
  abbrev told : Result Unit NotReceived → WalkStep → DatagramWalked
  told a u = record { state = with_count false u.drops l.state; answer = a; outcome = u.outcome; next = u.next }

  abbrev walked : ℕ → WalkStep
  walked switches =
      record {
        drops = walk_drops (walked_of datagram place (body_of l.image Routes) n switches).outcome l.state.udp_drops;
        outcome = (walked_of datagram place (body_of l.image Routes) n switches).outcome;
        next = (walked_of datagram place (body_of l.image Routes) n switches).next;
      }

  abbrev stays : WalkStep
  stays = record { drops = l.state.udp_drops; outcome = End; next = place }

  module _ (t : WalkStep) (et : t ≡ step_walked l.image c.switches l.state.udp_drops n datagram place answer) where
    walk_done : is_done answer ≡ true → told answer t ≡ walk_of l n datagram place
    unfolding walk_of step_walked walk_on
    walk_done p =
        let steps : t ≡ walked c.switches = et ∙ ap (λ (b : Bool). cond b (walked c.switches) stays) p in
        ap (told answer) steps
        ∙ ap₂ (λ (a : Result Unit NotReceived) (x : Connection). told a (walked x.switches)) (is-done answer p) (own p)
        ∙ ap
        (λ (s : State).
        record {
          state = s;
          answer = Ok tt;
          outcome = (walked_at l.image l.state n datagram place).outcome;
          next =
              (walked_at l.image l.state n datagram place).next;
        })
        (count-is (walked_at l.image l.state n datagram place).outcome l.state)
        ∙ sym
        (ap (λ (b : Bool). cond b (walk_on l.image l.state n datagram place) (none_walked l.state place (walk_answer l n datagram place)))
        (ap is_done (sym ea) ∙ p))

    walk-stays : is_done answer ≡ false → told answer t ≡ walk_of l n datagram place
    unfolding walk_of step_walked
    walk-stays p =
        let steps : t ≡ stays = et ∙ ap (λ (b : Bool). cond b (walked c.switches) stays) p in
        ap (told answer) steps
        ∙ ap (none_walked l.state place) ea
        ∙ sym
        (ap (λ (b : Bool). cond b (walk_on l.image l.state n datagram place) (none_walked l.state place (walk_answer l n datagram place)))
        (ap is_done (sym ea) ∙ p))

    pub walk_is : told answer t ≡ walk_of l n datagram place
    walk_is = go (is_done answer) refl
      where
        go : (b : Bool) → is_done answer ≡ b → told answer t ≡ walk_of l n datagram place
        go true p = walk_done p
        go false p = walk-stays p
