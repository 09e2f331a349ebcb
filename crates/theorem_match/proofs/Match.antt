-- THE BEST MATCH, over what matching and its classes mean and not over the score that the code computes.
use Rattle.std.proofs.Common.{Result, Ok, Err, Option, ℕ, Some, None}
use Prim.Native.Nat.{ℕ, zero, suc, ◌+◌, ◌-◌, ◌<◌, ◌≤◌}
use mathlib.Core.Path.{◌≡◌, refl, sym, ap, ◌∙◌, subst}
use mathlib.Core.Logic.{◌↔◌}
use mathlib.Core.Bool.{Bool, true, false, cond, not, ◌&&◌, ◌||◌, false≢true}
use native.Mathlib.Omega.{arith}
use lib.Dec.{eqb, leb, ltb}
use borrow.Author.Tests.{eqb-true, eqb-false, eq-eqb, ne_eqb, ltb-true, leb-true, leb-false, lt-ltb, le-leb, lt-leb}
use Rattle.lists.proofs.Both.{impossible, and_left, and_right, and3, neither as neither-of}
use Rattle.table_layout.specs.Layout.{rows_of}
use Rattle.table_layout.specs.declared.Kind.TheVariants.{Connection as Connections, Group}
use Rattle.table_rows.specs.Rows.{group_of, connection_of}
use Rattle.connection.specs.declared.Connection.{Connection}
use Rattle.connection.specs.declared.Mode.{Mode}
use Rattle.connection.specs.declared.Mode.TheVariants.{Offline, Reconnect, Online}
use Rattle.connection.specs.declared.Remote.{Remote}
use Rattle.connection.specs.declared.Refusal.TheVariants.{Missing, Denied}
use Rattle.connection.specs.Connection.{is_reconnect, is_online, equal_fields, wild_fields, wildcard}
use Rattle.state.specs.State.{record_at}
use Rattle.gate.specs.Lent.{Lent}
use Rattle.gate.specs.Gate.{gate_of, through}
use Rattle.gate.proofs.Pass.{rows_in-sixteen}
use Rattle.select.specs.Best.{Best, IsChosen}
use Rattle.select.specs.Choose.{rank_of, matches, member_counts, score_of, member, score_at, chosen_in, meet, arrival_refused, protocol_of, denied_of}
use Rattle.select.specs.Choose.{arrive_of}
use Rattle.select.proofs.Pass.{chosen_is_best, chosen_is_only}
use Rattle.entry_arrivals.specs.Arrivals.{arrival_of}
use Rattle.theorem_match.specs.Match.{MatchClass, both, any-port, any-address, neither, class_place, MatchesAs, by_both}
use Rattle.theorem_match.specs.Match.{by_address, by_port, by_neither, CountsIn, in_reconnect, in_online, Matching, BestMatch}
use Rattle.theorem_match.specs.Match.{GroupFor, Welcome, Arrives, shut, no_group, not_welcome, none_matches, meets}
use Rattle.connection.specs.declared.Refusal.{Refusal}
use Rattle.select.specs.declared.NotMet.{NotMet}

-- places and scores
place-most : (x : MatchClass) → class_place x ≤ 3
place-most both = omega arith
place-most any-port = omega arith
place-most any-address = omega arith
place-most neither = omega arith

beneath : (a b : ℕ) → a ≤ 3 → b ≤ 3 → 4 - b ≤ 4 - a → a ≤ b
beneath a b h g e = omega arith

below : (a b : ℕ) → a ≤ 3 → b ≤ 3 → 4 - b < 4 - a → a < b
below a b h g e = omega arith

module _ (l : Lent) (accept : Bool) (group : ℕ) (source : Remote) where
  abbrev score : ℕ → ℕ
  score = score_at l.image l.state accept group source

  abbrev c : ℕ → Connection
  c i = record_at l.state i

  abbrev Matches : ℕ → MatchClass → Type 0
  Matches i x = Matching l accept group source i x

  -- a mode in which a member counts, as the test
  counts_test : (b : Bool) (m : Mode) → CountsIn b m → (is_reconnect m || (not b && is_online m)) ≡ true
  counts_test b _ (in_reconnect _) = refl
  counts_test _ _ in_online = refl

  test_counts : (b : Bool) (m : Mode) → (is_reconnect m || (not b && is_online m)) ≡ true → CountsIn b m
  test_counts true Offline e = impossible e
  test_counts false Offline e = impossible e
  test_counts b Reconnect e = in_reconnect b
  test_counts true Online e = impossible e
  test_counts false Online e = in_online

  -- A SOURCE WITHOUT WILDCARD
  module _ (address : source.address ≡ 0 → ⊥) (port : source.port ≡ 0 → ⊥) where
    -- the score of a match is 4 less its class's place
    remote_score : (r : Remote) (x : MatchClass) → MatchesAs r source x
        → cond (matches (equal_fields r source) (wild_fields r)) (1 + rank_of (equal_fields r source)) 0 ≡ 4 - class_place x
    unfolding rank_of
    remote_score r _ (by_both a p) = rw (eq-eqb _ _ a, eq-eqb _ _ p)
    remote_score r _ (by_address a z) =
        rw (eq-eqb r.address source.address a, ne_eqb r.port source.port (λ q. port (sym q ∙ z)), eq-eqb r.port 0 z)
    remote_score r _ (by_port z p) =
        rw (eq-eqb r.port source.port p, ne_eqb r.address source.address (λ q. address (sym q ∙ z)), eq-eqb r.address 0 z)
    remote_score r _ (by_neither z w) =
        rw (
          ne_eqb r.address source.address (λ q. address (sym q ∙ z)),
          eq-eqb r.address 0 z,
          ne_eqb r.port source.port (λ q. port (sym q ∙ w)),
          eq-eqb r.port 0 w,
        )

    match_score : (i : ℕ) (x : MatchClass) → Matches i x → score i ≡ 4 - class_place x
    unfolding score_at score_of
    match_score i x m =
        rw (
          lt-ltb i (rows_of l.image Connections) m.there,
          eq-eqb (connection_of l.image i).group group m.its,
          counts_test accept (c i).mode m.counts,
          m.stays,
        )
        (remote_score (c i).remote x m.matches)

    -- what scores matches
    remote-matches : (r : Remote) → matches (equal_fields r source) (wild_fields r) ≡ true → (x : MatchClass) × MatchesAs r source x
    remote-matches r e = go (eqb r.address source.address) refl (eqb r.port source.port) refl
      where
        left : (eqb r.address source.address || eqb r.address 0) ≡ true
        left = and_left (eqb r.address source.address || eqb r.address 0) (eqb r.port source.port || eqb r.port 0) e

        right : (eqb r.port source.port || eqb r.port 0) ≡ true
        right = and_right (eqb r.address source.address || eqb r.address 0) (eqb r.port source.port || eqb r.port 0) e

        other : (a b : ℕ) → eqb a b ≡ false → (eqb a b || eqb a 0) ≡ true → a ≡ 0
        other a b ne e = eqb-true a 0 (ap (λ (t : Bool). t || eqb a 0) (sym ne) ∙ e)

        go : (a : Bool) → eqb r.address source.address ≡ a → (p : Bool) → eqb r.port source.port ≡ p → (x : MatchClass) × MatchesAs r source x
        go true a true p = (both, by_both (eqb-true _ _ a) (eqb-true _ _ p))
        go true a false p = (any-port, by_address (eqb-true _ _ a) (other r.port source.port p right))
        go false a true p = (any-address, by_port (other r.address source.address a left) (eqb-true _ _ p))
        go false a false p = (neither, by_neither (other r.address source.address a left) (other r.port source.port p right))

    score_match : (i : ℕ) → 0 < score i → (x : MatchClass) × Matches i x
    unfolding score_at score_of
    score_match i h = go (member l.image l.state accept group source i && member_counts accept (c i)
        && matches (equal_fields (c i).remote source) (wild_fields (c i).remote)) refl h
      where
        go : (b : Bool) → (member l.image l.state accept group source i && member_counts accept (c i)
            && matches (equal_fields (c i).remote source) (wild_fields (c i).remote)) ≡ b
            → 0 < cond b (1 + rank_of (equal_fields (c i).remote source)) 0 → (x : MatchClass) × Matches i x
        go false e h = absurd (omega (arith, h))
        go true e h =
            let p = and3 (member l.image l.state accept group source i) (member_counts accept (c i))
            (matches (equal_fields (c i).remote source) (wild_fields (c i).remote)) e in
            let m = remote-matches (c i).remote p.2 in
            let wide : not (c i).close_wanted ≡ true =
            and_right (is_reconnect (c i).mode || (not accept && is_online (c i).mode)) (not (c i).close_wanted) p.1 in (
              m.0,
              record {
                there = ltb-true i (rows_of l.image Connections)
                    (and_left (ltb i (rows_of l.image Connections)) (eqb (connection_of l.image i).group group) p.0);
                its = eqb-true (connection_of l.image i).group group
                    (and_right (ltb i (rows_of l.image Connections)) (eqb (connection_of l.image i).group group) p.0);
                counts = test_counts accept (c i).mode
                    (and_left (is_reconnect (c i).mode || (not accept && is_online (c i).mode)) (not (c i).close_wanted) p.1);
                stays = open_wish (c i).close_wanted wide;
                matches = m.1;
              },
            )
          where
            open_wish : (b : Bool) → not b ≡ true → b ≡ false
            open_wish true e = impossible e
            open_wish false e = refl

    -- of the sixteen
    module _ (most : rows_of l.image Connections ≤ 16) where
      best_match : (k : ℕ) → Best score 16 k → BestMatch l accept group source k
      best_match k b =
          let f = score_match k b.counts in
          let is : score k ≡ 4 - class_place f.0 = match_score k f.0 f.1 in
          record {
            class = f.0;
            matching = f.1;
            best = λ i x m. beneath (class_place f.0) (class_place x) (place-most f.0) (place-most x)
                (omega (arith, is, match_score i x m, b.highest i (omega (arith, most, m.there))));
            lowest = λ i x m h. below (class_place f.0) (class_place x) (place-most f.0)
                (place-most x) (omega (arith, is, match_score i x m, b.lowest i h));
          }

      -- each of the sixteen has score 0, or matches
      scored : (P : ℕ → Type 0) (i : ℕ) → P 0 → ((x : MatchClass) → Matches i x → P (4 - class_place x)) → P (score i)
      scored P i none some = go (score i) refl
        where
          go : (n : ℕ) → score i ≡ n → P n
          go zero e = none
          go (suc n) e = let f = score_match i (omega (arith, e)) in subst P (sym (match_score i f.0 f.1) ∙ e) (some f.0 f.1)

      match_best : (k : ℕ) → BestMatch l accept group source k → Best score 16 k
      match_best k b =
          let is : score k ≡ 4 - class_place b.class = match_score k b.class b.matching in
          record {
            inside = omega (arith, most, b.matching.there);
            counts = omega (arith, is, place-most b.class);
            highest = λ j h. subst (λ (n : ℕ). score j ≤ n) (sym is)
                (scored (λ n. n ≤ 4 - class_place b.class) j (omega arith) (λ x m. omega (arith, b.best j x m)));
            lowest = λ j h. subst (λ (n : ℕ). score j < n) (sym is)
                (scored (λ n. n < 4 - class_place b.class) j (omega (arith, place-most b.class)) (λ x m. omega (arith, b.lowest j x m h, place-most x)));
          }

      match_none : ((i : ℕ) (x : MatchClass) → Matches i x → ⊥) → (i : ℕ) → score i ≡ 0
      match_none none i = scored (λ n. n ≡ 0) i refl (λ x m. absurd (none i x m))

      none_match : ((i : ℕ) → i < 16 → score i ≡ 0) → (i : ℕ) (x : MatchClass) → Matches i x → ⊥
      none_match z i x m = omega (arith, z i (omega (arith, most, m.there)), match_score i x m, place-most x)

  -- WHO IS WELCOME, as the tests
  protocol_test : (b : Bool) (p : ℕ) → GroupFor l accept group source b p → eqb p (protocol_of b) ≡ true
  protocol_test true p e = eq-eqb p 2 e
  protocol_test false p e = eq-eqb p 1 e

  test_protocol : (b : Bool) (p : ℕ) → eqb p (protocol_of b) ≡ true → GroupFor l accept group source b p
  test_protocol true p e = eqb-true p 2 e
  test_protocol false p e = eqb-true p 1 e

  abbrev its : ℕ
  its = (group_of l.image group).protocol

  welcome_not_denied : Welcome l accept group source → denied_of l.image accept group source ≡ false
  unfolding denied_of
  welcome_not_denied w = rw (protocol_test accept its w.protocol, ne_eqb source.address 0 w.address, ne_eqb source.port 0 w.port)

  not_denied_welcome : denied_of l.image accept group source ≡ false → Welcome l accept group source
  unfolding denied_of
  not_denied_welcome e =
      let f = neither-of (not (eqb its (protocol_of accept))) (wildcard source) e in
      let g = neither-of (eqb source.address 0) (eqb source.port 0) f.1 in
      record {
        protocol = test_protocol accept its (twice (eqb its (protocol_of accept)) f.0);
        address =
            eqb-false source.address 0 g.0;
        port = eqb-false source.port 0 g.1;
      }
    where
      twice : (b : Bool) → not b ≡ false → b ≡ true
      twice true e = refl
      twice false e = impossible (sym e)

  -- THE ENTRY POINT
  abbrev Given : Result ℕ NotMet → Type 0
  Given = Arrives l accept group source

  past-says : gate_of l ≡ Ok tt → Given (arrive_of l.image l.state accept group source).answer
  unfolding arrive_of
  past-says g = there (leb (rows_of l.image Group) group) refl
    where
      most : rows_of l.image Connections ≤ 16
      most = rows_in-sixteen l g

      chosen : group < rows_of l.image Group → Welcome l accept group source → (x : Option ℕ)
          → IsChosen score 16 x → Given (meet l.image l.state source x).answer
      chosen h w None none = none_matches g h w (none_match w.address w.port most none)
      chosen h w (Some k) b = meets k g h w (best_match w.address w.port most k b)

      welcome : group < rows_of l.image Group → (b : Bool) → denied_of l.image accept group source ≡ b
          → Given (cond b (arrival_refused l.state Denied) (meet l.image l.state source (chosen_in l.image l.state accept group source))).answer
      welcome h true e = not_welcome g h (λ w. false≢true (sym (welcome_not_denied w) ∙ e))
      welcome h false e =
          chosen h (not_denied_welcome e) (chosen_in l.image l.state accept group source) (chosen_is_best l.image l.state accept group source)

      there : (b : Bool) → leb (rows_of l.image Group) group ≡ b
          → Given (cond b (arrival_refused l.state Missing)
          (cond (denied_of l.image accept group source) (arrival_refused l.state Denied)
          (meet l.image l.state source (chosen_in l.image l.state accept group source)))).answer
      there true e = no_group g (leb-true (rows_of l.image Group) group e)
      there false e = welcome (leb-false (rows_of l.image Group) group e) (denied_of l.image accept group source) refl

  told : Given (arrival_of l accept group source).answer
  unfolding arrival_of
  told = go (gate_of l) refl
    where
      go : (g : Result Unit Refusal) → gate_of l ≡ g → Given (through g (arrival_refused l.state) (arrive_of l.image l.state accept group source)).answer
      go (Ok tt) e = past-says e
      go (Err r) e = shut r e

  chosen_is : group < rows_of l.image Group → Welcome l accept group source → gate_of l ≡ Ok tt → (x : Option ℕ) → IsChosen score 16 x
      → (arrival_of l accept group source).answer ≡ (meet l.image l.state source x).answer
  unfolding arrival_of arrive_of
  chosen_is h w g x b =
      rw (g, lt-leb (rows_of l.image Group) group h, welcome_not_denied w, ← chosen_is_only l.image l.state accept group source x b)

  given : (x : Result ℕ NotMet) → Given x → (arrival_of l accept group source).answer ≡ x
  unfolding arrival_of arrive_of
  given _ (shut r g) = rw g
  given _ (no_group g h) = rw (g, le-leb (rows_of l.image Group) group h)
  given _ (not_welcome g h n) = rw (g, lt-leb (rows_of l.image Group) group h, denied (denied_of l.image accept group source) refl)
    where
      denied : (b : Bool) → denied_of l.image accept group source ≡ b → b ≡ true
      denied true e = refl
      denied false e = absurd (n (not_denied_welcome e))
  given _ (none_matches g h w none) = chosen_is h w g None (λ i _. match_none w.address w.port (rows_in-sixteen l g) none i)
  given _ (meets k g h w b) = chosen_is h w g (Some k) (match_best w.address w.port (rows_in-sixteen l g) k b)

  -- EXACTLY WHEN
  pub arrival_answer : (x : Result ℕ NotMet) → ((arrival_of l accept group source).answer ≡ x) ↔ Arrives l accept group source x
  arrival_answer x = (λ (e : (arrival_of l accept group source).answer ≡ x). subst Given e told, given x)
