-- A REPLAY AT ITS i-TH ENTRY, as a loop goes through them: what is left of it ends as the whole does.
use Prim.Native.Nat.{ℕ, suc, ◌+◌, ◌*◌, ◌-◌, ◌<◌, ◌≤◌}
use mathlib.Core.Path.{◌≡◌, refl, sym, ap, ap₂, subst, ◌∙◌}
use mathlib.Core.Logic.{◌⊎◌, inl, inr, ⊎_elim}
use mathlib.Core.Bool.{Bool, true, false, cond}
use mathlib.Core.List.{List}
use native.Mathlib.Nat.{sub-zero}
use native.Mathlib.Numerals.{add-one}
use native.Mathlib.Omega.{arith}
use native.Mathlib.Decide.{dec_le}
use borrow.Author.Tests.{ltb-false}
use lib.Dec.{ltb}
use lib.ListN.{length, take, drop, length-drop}
use Rattle.lists.proofs.Both.{impossible}
use Rattle.lists.proofs.Search.{left_over}
use Rattle.state.specs.declared.State.{State}
use Rattle.gate.specs.Lent.{Loan, loan}
use Rattle.event_answer.specs.Answers.{room}
use Rattle.recording.specs.Recording.{entries_in, contents_to, entry_row, stamp_in, body_long, distance_in, stamps}
use Rattle.std.proofs.Common.{Result, Ok, Err}
use Rattle.replay_step.specs.declared.Unplayed.{Unplayed}
use Rattle.replay_step.specs.declared.Unplayed.TheVariants.{Small, Cut}
use Rattle.replay_step.specs.declared.Compared.{Compared}
use Rattle.replay_step.specs.declared.Step.{Step}
use Rattle.replay_step.specs.Step.{Stepped, unplayed, entered, entry_step}
use Rattle.replay_step.proofs.Leaves.{Leaves, leaves_by}
use Rattle.replay_whole.specs.declared.End.{End}
use Rattle.replay_whole.specs.declared.Replayed.{Replayed}
use Rattle.replay_whole.specs.Replay.{Going, Left, is_run, is_other, first_other, end_at, step_at}
use Rattle.replay_whole.specs.Replay.{ongoing, stopped, finished, replay_from, played_all}

-- an entry that was run is there whole
pub run-there : (l : Loan) (out : List ℕ) (before : ℕ) (row rest : List ℕ) → is_run (entry_step l out before row rest).played ≡ true
    → body_long row ≤ length rest
unfolding entry_step is_run
run-there l out before row rest e = go (ltb (length out) room) (ltb (length rest) (body_long row)) refl e
  where
    go : (a b : Bool) → ltb (length rest) (body_long row) ≡ b
        → is_run
        (cond a (unplayed l out Small)
        (cond b (unplayed l out Cut) (entered l out (distance_in stamps before (stamp_in row)) row (take (body_long row) rest)))).played
        ≡ true
        → body_long row ≤ length rest
    go true b q r = impossible r
    go false true q r = impossible r
    go false false q r = ltb-false _ _ q

-- what the function leaves, by value, in both memories and in the out buffer
abbrev pub LeavesAll : Replayed → List ℕ → List ℕ → List ℕ → Left → Type 0
LeavesAll r rx tx out l = (r ≡ l.replayed) × ((rx ≡ l.rx) × ((tx ≡ l.tx) × (out ≡ l.out)))

abbrev pub going_of : State → List ℕ → List ℕ → List ℕ → ℕ → ℕ → ℕ → ℕ → Going
going_of s rx tx out at before ticks differs =
    record { state = s; rx = rx; tx = tx; out = out; at = at; before = before; ticks = ticks; differs = differs }

-- a body that is there from a place on, and a place below a bound: the sum is below it, or within
within-either : (at long n m : ℕ) → m ≡ n - at → long ≤ m → at ≤ 786424 → (at + long ≤ 786424) ⊎ (at + long ≤ n)
within-either at long n m e h p = go (dec_le at n)
  where
    go : Dec (at ≤ n) → (at + long ≤ 786424) ⊎ (at + long ≤ n)
    go (yes q) = inr (omega (arith, e, h, q))
    go (no q) = inl (omega (arith, e, h, p, q))

module _ (image recording rx₀ tx₀ out₀ : List ℕ) (start : State) where
  abbrev whole : Left
  whole = played_all image recording rx₀ tx₀ out₀ start

  -- a place that a body may have
  abbrev pub Placed : ℕ → Type 0
  Placed at = (at ≤ 786424) ⊎ (at ≤ length recording)

  pub record AtEntry (n i : ℕ) (g : Going) : Type 0 where
    pub rest : replay_from image recording (n - i) i g ≡ whole
    pub within : i ≤ n
    pub placed : Placed g.at
    pub few : g.ticks ≤ i * 4294967295

  pub entry_start : (n at before : ℕ) → n ≡ entries_in recording → n ≤ 65535 → at ≡ 4 + n * 12 → before ≡ stamp_in (entry_row recording 0)
      → AtEntry n 0 (going_of start rx₀ tx₀ out₀ at before 0 0)
  entry_start n at before e h a b =
      record {
        rest =
            ap (λ (k : ℕ). replay_from image recording k 0 (going_of start rx₀ tx₀ out₀ at before 0 0)) (sub-zero n ∙ e)
            ∙ ap₂ (λ (x y : ℕ). replay_from image recording (entries_in recording) 0 (going_of start rx₀ tx₀ out₀ x y 0 0)) (a ∙ ap contents_to e) b;
        within = omega arith;
        placed = inl (omega (arith, a, h));
        few = omega arith;
      }

  pub entry_ends : (n i : ℕ) (g : Going) → AtEntry n i g → n ≤ i → finished image recording i g ≡ whole
  unfolding replay_from
  entry_ends n i g a h =
      let e : n - i ≡ 0 = omega (arith, h) in
      sym (ap (λ (k : ℕ). replay_from image recording k i g) e) ∙ a.rest

  pub all_done : (n i : ℕ) (g : Going) (r : Replayed) → AtEntry n i g → n ≤ i → r ≡ (finished image recording n g).replayed
      → LeavesAll r g.rx g.tx g.out whole
  all_done n i g r a h e =
      let f = entry_ends n i g a h in
      let s : n ≡ i = omega (arith, h, a.within) in (
        e ∙ ap (λ (k : ℕ). (finished image recording k g).replayed) s ∙ ap (λ (l : Left). l.replayed) f,
        (ap (λ (l : Left). l.rx) f, (ap (λ (l : Left). l.tx) f, ap (λ (l : Left). l.out) f)),
      )

  -- the step of an entry, as the loop makes it
  module _ (n i : ℕ) (g : Going) (a : AtEntry n i g) (h : i < n) (row rest : List ℕ) (s : Step) (rx tx out : List ℕ) (r : row ≡ entry_row recording i)
      (d : rest ≡ drop g.at recording) (l : Leaves s rx tx out (entry_step (loan image g.state g.rx g.tx) g.out g.before row rest)) where
    abbrev now_at : Stepped
    now_at = step_at image recording i g

    step_is : entry_step (loan image g.state g.rx g.tx) g.out g.before row rest ≡ now_at
    step_is = ap₂ (λ (x y : List ℕ). entry_step (loan image g.state g.rx g.tx) g.out g.before x y) r d

    leaves : Leaves s rx tx out now_at
    leaves = leaves_by s rx tx out _ now_at step_is l

    played : s.played ≡ now_at.played
    played = ap (λ (x : Step). x.played) leaves.0

    state : s.state ≡ now_at.state
    state = ap (λ (x : Step). x.state) leaves.0

    one_more : replay_from image recording (suc (n - suc i)) i g ≡ whole
    one_more = sym (ap (λ (k : ℕ). replay_from image recording k i g) (left_over h)) ∙ a.rest

    stops : is_run now_at.played ≡ false → stopped image recording i g now_at ≡ whole
    unfolding replay_from
    stops e =
        sym (ap (λ (t : Bool). cond t (replay_from image recording (n - suc i) (suc i) (ongoing image recording i g now_at))
        (stopped image recording i g now_at)) e)
        ∙ one_more

    goes_on : is_run now_at.played ≡ true → replay_from image recording (n - suc i) (suc i) (ongoing image recording i g now_at) ≡ whole
    unfolding replay_from
    goes_on e =
        sym (ap (λ (t : Bool). cond t (replay_from image recording (n - suc i) (suc i) (ongoing image recording i g now_at))
        (stopped image recording i g now_at)) e)
        ∙ one_more

    -- it was not run: the replay ends
    pub entry_stops : (why : Unplayed) (e : Result Unit End) → s.played ≡ Err why → e ≡ end_at i (Err why)
        → LeavesAll (record { end = e; run = i; ticks = g.ticks; differs = g.differs; state = s.state }) rx tx out whole
    unfolding is_run
    entry_stops why e q f =
        let w = stops (ap is_run (sym played ∙ q)) in
        let z : record { end = e; run = i; ticks = g.ticks; differs = g.differs; state = s.state } ≡ (stopped image recording i g now_at).replayed =
        ap₂ (λ (x : Result Unit End) (y : State). record { end = x; run = i; ticks = g.ticks; differs = g.differs; state = y })
        (f ∙ ap (end_at i) (sym q ∙ played)) state in (
          z ∙ ap (λ (x : Left). x.replayed) w,
          (leaves.1.0 ∙ ap (λ (x : Left). x.rx) w, (leaves.1.1.0 ∙ ap (λ (x : Left). x.tx) w, leaves.1.1.1 ∙ ap (λ (x : Left). x.out) w)),
        )

    ran_so : (c : Compared) → s.played ≡ Ok c → is_run now_at.played ≡ true
    unfolding is_run
    ran_so c q = ap is_run (sym played ∙ q)

    -- it was run: the next body begins behind it
    pub entry_placed : (c : Compared) (long : ℕ) → s.played ≡ Ok c → long ≡ body_long row → Placed (g.at + long)
    entry_placed c long q b =
        let w : body_long (entry_row recording i) ≤ length (drop g.at recording) =
        run-there (loan image g.state g.rx g.tx) g.out g.before (entry_row recording i) (drop g.at recording)
        (ran_so c q) in
        let v : long ≡ body_long (entry_row recording i) = b ∙ ap body_long r in
        ⊎_elim
        (λ (p : g.at ≤ 786424). within-either g.at long (length recording)
        (length (drop g.at recording)) (length-drop g.at recording) (omega (arith, w, v)) p)
        (λ (p : g.at ≤ length recording). inr (omega (arith, w, v, p, length-drop g.at recording))) a.placed

    pub entry_on : (c : Compared) (stamp later distance long : ℕ) (other : Bool) (differs : ℕ) → s.played ≡ Ok c → stamp ≡ stamp_in row
        → distance ≡ distance_in stamps g.before stamp → distance ≤ 4294967295 → long ≡ body_long row → later ≡ stamp_in row → other ≡ is_other s.played
        → differs ≡ first_other g.differs i other → AtEntry n (i + 1) (going_of s.state rx tx out (g.at + long) later (g.ticks + distance) differs)
    entry_on c stamp later distance long other differs q st di sm lo la ot df =
        record {
          rest =
              ap₂ (λ (k : ℕ) (x : Going). replay_from image recording (n - k) k x) (add-one i) same
              ∙ goes_on (ran_so c q);
          within = omega (arith, h);
          placed = entry_placed c long q lo;
          few = omega (arith, sm, a.few);
        }
      where
        same : going_of s.state rx tx out (g.at + long) later (g.ticks + distance) differs ≡ ongoing image recording i g now_at
        same =
            ap₂ (λ (x : State) (y : List ℕ). going_of x y tx out (g.at + long) later (g.ticks + distance) differs) state leaves.1.0
            ∙ ap₂ (λ (x y : List ℕ). going_of now_at.state now_at.rx x y (g.at + long) later (g.ticks + distance) differs)
            leaves.1.1.0 leaves.1.1.1
            ∙ ap₂ (λ (x y : ℕ). going_of now_at.state now_at.rx now_at.tx now_at.out (g.at + x) y (g.ticks + distance) differs)
            (lo ∙ ap body_long r) (la ∙ ap stamp_in r)
            ∙ ap₂
            (λ (x y : ℕ).
            going_of now_at.state now_at.rx now_at.tx now_at.out
            (g.at + body_long (entry_row recording i)) (stamp_in (entry_row recording i)) (g.ticks + x) y)
            (di ∙ ap (distance_in stamps g.before) (st ∙ ap stamp_in r)) (df ∙ ap (first_other g.differs i) (ot ∙ ap is_other played))

-- nothing is run, from a state that is this one
pub unrun_so : (e : End) (r : Replayed) (s t : State) → r ≡ record { end = Err e; run = 0; ticks = 0; differs = 0; state = s } → s ≡ t
    → r ≡ record { end = Err e; run = 0; ticks = 0; differs = 0; state = t }
unrun_so e r s t p q = p ∙ ap (λ (x : State). record { end = Err e; run = 0; ticks = 0; differs = 0; state = x }) q

-- all is run, from a state that is this one
pub played_so : (image recording rx₀ tx₀ out₀ : List ℕ) (r : Replayed) (rx tx out : List ℕ) (s t : State)
    → LeavesAll r rx tx out (played_all image recording rx₀ tx₀ out₀ s) → s ≡ t → LeavesAll r rx tx out (played_all image recording rx₀ tx₀ out₀ t)
played_so image recording rx₀ tx₀ out₀ r rx tx out s t p q = subst (λ (x : State). LeavesAll r rx tx out (played_all image recording rx₀ tx₀ out₀ x)) q p
