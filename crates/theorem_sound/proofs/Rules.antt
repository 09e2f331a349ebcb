-- THE GATE'S TEST IS THESE RULES: state and table pass it exactly when they are sound, rule by rule.
use Rattle.std.proofs.Common.{Result, Ok, Err}
use Prim.Native.Nat.{ℕ, suc, ◌+◌, ◌/◌, ◌^◌, ◌<◌, ◌≤◌}
use mathlib.Core.Path.{◌≡◌, refl, sym, ap, ◌∙◌, subst}
use mathlib.Core.Logic.{◌↔◌}
use mathlib.Core.Bool.{Bool, true, false, not, ◌&&◌, ◌||◌, false≢true, true≢false}
use mathlib.Core.List.{List, [], ◌∷◌}
use native.Mathlib.Omega.{arith}
use native.Mathlib.Decide.{dec_lt}
use lib.Dec.{eqb, leb, ltb}
use lib.ListN.{length, get_or, get_or-eq_default}
use borrow.Author.Tests.{not-true, not-false, eqb-true, eqb-false, eq-eqb, ne_eqb, leb-true, le-leb, ltb-true, lt-ltb}
use Rattle.lists.specs.Each.{all_from}
use Rattle.lists.proofs.Both.{impossible, and_left, and_right, and_both, and_first, and_second, and3, and4, neither}
use Rattle.table_layout.specs.Layout.{rows_of, body_of}
use Rattle.table_layout.specs.declared.Kind.TheVariants.{Connection as Connections, Route as Routes}
use Rattle.table_layout.proofs.Parts.{body-rows}
use Rattle.table_rows.specs.Rows.{route_of}
use Rattle.table.specs.declared.BadTable.TheVariants.{At}
use Rattle.table.specs.Table.{check_table}
use Rattle.table.proofs.Facts.{accepted_facts}
use Rattle.receive_part.specs.declared.Part.{Part}
use Rattle.receive_part.specs.declared.Part.TheVariants.{Header, Payload, Skip, Transfer}
use Rattle.receive_part.specs.Part.{shaped, empty_part}
use Rattle.connection.specs.declared.Mode.{Mode}
use Rattle.connection.specs.declared.Mode.TheVariants.{Offline, Reconnect, Online}
use Rattle.connection.specs.declared.Config.{Config}
use Rattle.connection.specs.declared.Connection.{Connection}
use Rattle.connection.specs.Connection.{is_offline, is_online, wildcard, zero_record}
use Rattle.connection.specs.Sound.{Sound}
use Rattle.connection.proofs.Rules.{empty_is}
use Rattle.state.specs.declared.State.{State}
use Rattle.state.specs.State.{record_at}
use Rattle.state.specs.Fresh.{config_of}
use Rattle.gate.specs.Sound.{routed, sound_at, records_sound, is_accepted, sound_state}
use Rattle.gate.proofs.Records.{row-sound, row-routed, sound-row, past-zero, zero-past, record-at}
use Rattle.theorem_calls.proofs.Image.{table-answer}
use Rattle.theorem_sound.specs.Rules.{PartRule, RecordRules, SoundTogether}
use Rattle.table.specs.declared.BadTable.{BadTable}

-- tests and what they say
or_then : (a b : Bool) → (a || b) ≡ true → a ≡ false → b ≡ true
or_then true b e f = absurd (true≢false f)
or_then false b e f = e

then_or : (a b : Bool) → (a ≡ false → b ≡ true) → (a || b) ≡ true
then_or true b h = refl
then_or false b h = h refl

not_true_is : {b : Bool} → b ≡ false → not b ≡ true
not_true_is e = ap not e

is-online : (m : Mode) → is_online m ≡ true → m ≡ Online
is-online Offline e = impossible e
is-online Reconnect e = impossible e
is-online Online e = refl

is-offline : (m : Mode) → is_offline m ≡ true → m ≡ Offline
is-offline Offline e = refl
is-offline Reconnect e = impossible e
is-offline Online e = impossible e

not_offline : (m : Mode) → (m ≡ Offline → ⊥) → not (is_offline m) ≡ true
not_offline Offline h = absurd (h refl)
not_offline Reconnect h = refl
not_offline Online h = refl

some : (n : ℕ) → eqb n 0 ≡ false → 0 < n
some n e = let h : n ≡ 0 → ⊥ = eqb-false n 0 e in omega (arith, h)

none : (n : ℕ) → 0 < n → eqb n 0 ≡ false
none n h = ne_eqb n 0 (λ e. omega (arith, h, e))

-- RECEIVE PARTS, under a table whose routes are laid out
module _ (image : List ℕ) (k : ℕ) (rows : length (body_of image Routes) / 16 ≡ rows_of image Routes) where
  part_words : (p : Part) → shaped p ≡ true → routed (body_of image Routes) k p ≡ true → PartRule image k p
  part_words (Header held value) s r =
      (leb-true _ _ (and_left (leb held 7) _ s), ltb-true _ _ (and_right (leb held 7) (ltb value (256 ^ held)) s))
  part_words (Payload route len held) s r =
      let t = and4 (ltb route (length (body_of image Routes) / 16)) (eqb (route_of image route).connection k) (leb len (route_of image route).longest) (not
      (route_of image route).transfer) r in
      let low : route < length (body_of image Routes) / 16 = ltb-true _ _ t.0 in
      record {
        fewer = ltb-true _ _ s;
        route = record { there = omega (arith, low, rows); owned = eqb-true _ _ t.1 };
        allows = leb-true _ _ t.2;
        unmarked = not-true (route_of image route).transfer t.3;
      }
  part_words (Skip n) s r = ltb-true _ _ s
  part_words (Transfer route left) s r =
      let t = and3 (ltb route (length (body_of image Routes) / 16)) (eqb (route_of image route).connection k) (route_of image route).transfer r in
      let low : route < length (body_of image Routes) / 16 = ltb-true _ _ t.0 in
      record { some = ltb-true _ _ s; route = record { there = omega (arith, low, rows); owned = eqb-true _ _ t.1 }; marked = t.2 }

  words_part : (p : Part) → PartRule image k p → (shaped p ≡ true) × (routed (body_of image Routes) k p ≡ true)
  words_part (Header held value) w = (and_both (le-leb held 7 w.0) (lt-ltb value (256 ^ held) w.1), refl)
  words_part (Payload route len held) w =
      let low : route < length (body_of image Routes) / 16 = omega (arith, w.route.there, rows) in (
        lt-ltb held len w.fewer,
        and_both (and_both (and_both (lt-ltb _ _ low) (eq-eqb _ _ w.route.owned)) (le-leb _ _ w.allows)) (not_true_is w.unmarked),
      )
  words_part (Skip n) w = (lt-ltb 0 n w, refl)
  words_part (Transfer route left) w =
      let low : route < length (body_of image Routes) / 16 = omega (arith, w.route.there, rows) in
      (lt-ltb 0 left w.some, and_both (and_both (lt-ltb _ _ low) (eq-eqb _ _ w.route.owned)) w.marked)

  -- A RECORD of a row
  module _ (c : Connection) where
    abbrev g : Config
    g = config_of image k

    record_words : Sound g c → routed (body_of image Routes) k c.part ≡ true → RecordRules image k c
    record_words s r =
        record {
          used = leb-true _ _ s.send.fits;
          part = part_words c.part s.receive.shape r;
          receives = λ has. let f = held has in (is-online c.mode (and_left (is_online c.mode) g.tcp f), and_right (is_online c.mode) g.tcp f);
          sends = λ h. is-online c.mode (or_then (eqb c.used 0) (is_online c.mode) s.send.sending (none c.used h));
          timer = λ h. timed_by (and_first (eqb c.timer 0) (not c.due) (none c.timer h));
          due = λ h. timed_by (and_second (eqb c.timer 0) (not c.due) (ap not h));
          never_both = λ h d. false≢true (sym (ap not d) ∙ or_then (eqb c.timer 0) (not c.due) s.send.once (none c.timer h));
          reached = λ h. let w = not-true (wildcard c.remote) (or_then (not (is_online c.mode)) (not (wildcard c.remote)) s.wishes.reached (ap (λ
              (m : Mode). not (is_online m)) h)) in
              let n = neither (eqb c.remote.address 0) (eqb c.remote.port 0) w in
              (eqb-false _ _ n.0, eqb-false _ _ n.1);
          opening = λ h. let t = and3 (not g.automatic) (is_offline c.mode) (not c.close_wanted)
              (or_then (not c.open_wanted) (not g.automatic && is_offline c.mode && not c.close_wanted) s.wishes.opening (ap not h)) in
              (not-true g.automatic t.0, is-offline c.mode t.1, not-true c.close_wanted t.2);
          closing = λ h a. let t = or_then (not c.close_wanted || not g.automatic) (g.tcp && not (is_offline c.mode))
              s.wishes.closing (both_false (ap not h) (ap not a)) in (
                and_left g.tcp (not (is_offline c.mode)) t,
                λ m. false≢true (sym (ap (λ (x : Mode). not (is_offline x)) m) ∙ and_right g.tcp (not
                    (is_offline c.mode)) t),
              );
          watched = λ h. let t = and3 (is_online c.mode) (not g.tcp) (leb c.watch.alive g.alive)
              (or_then (eqb c.watch.alive 0) (is_online c.mode && not g.tcp && leb c.watch.alive g.alive) s.watch.watching
              (none c.watch.alive h)) in
              (is-online c.mode t.0, not-true g.tcp t.1, leb-true _ _ t.2);
        }
      where
        held : (c.part ≡ Header 0 0 → ⊥) → (is_online c.mode && g.tcp) ≡ true
        held has = go (empty_part c.part) refl
          where
            go : (b : Bool) → empty_part c.part ≡ b → (is_online c.mode && g.tcp) ≡ true
            go true e = absurd (has (empty_is c.part e))
            go false e = or_then (empty_part c.part) (is_online c.mode && g.tcp) s.receive.receiving e

        both_false : {a b : Bool} → a ≡ false → b ≡ false → (a || b) ≡ false
        both_false {a} {b} e f = ap (λ (x : Bool). x || b) e ∙ f

        timed_by : (eqb c.timer 0 && not c.due) ≡ false → 0 < c.used
        timed_by e = ltb-true 0 c.used (or_then (eqb c.timer 0 && not c.due) (ltb 0 c.used) s.send.timing e)

    words_record : RecordRules image k c → Sound g c × (routed (body_of image Routes) k c.part ≡ true)
    words_record w = (
      record {
        send = record {
          fits = le-leb _ _ w.used;
          sending = then_or (eqb c.used 0) (is_online c.mode) (λ e. ap is_online (w.sends (some c.used e)));
          timing = then_or (eqb c.timer 0 && not c.due) (ltb 0 c.used) (λ e. lt-ltb 0 c.used (waits e));
          once = then_or (eqb c.timer 0) (not c.due) (λ e. undue (w.never_both (some c.timer e)));
        };
        wishes = record {
          reached = then_or (not (is_online c.mode)) (not (wildcard c.remote)) (λ e. let n = w.reached (is-online c.mode (not-false (is_online
              c.mode) e)) in
              tame (ne_eqb _ _ n.0) (ne_eqb _ _ n.1));
          opening = then_or (not c.open_wanted) (not g.automatic && is_offline c.mode && not c.close_wanted) (λ e. let t = w.opening
              (not-false c.open_wanted e) in
              and_both (and_both (not_true_is t.0) (ap is_offline t.1)) (not_true_is t.2));
          closing = then_or (not c.close_wanted || not g.automatic) (g.tcp && not (is_offline c.mode)) (λ e. let n = neither (not
              c.close_wanted) (not g.automatic) e in
              let t = w.closing (not-false c.close_wanted n.0) (not-false g.automatic n.1) in
              and_both t.0 (not_offline c.mode t.1));
        };
        receive = record {
          shape = (words_part c.part w.part).0;
          receiving = then_or (empty_part c.part) (is_online c.mode && g.tcp)
              (λ e. let h = w.receives (λ q. false≢true (sym e ∙ ap empty_part q)) in and_both (ap is_online h.0) h.1);
        };
        watch = record {
          watching = then_or (eqb c.watch.alive 0) (is_online c.mode && not g.tcp && leb c.watch.alive g.alive) (λ e. let t = w.watched
              (some c.watch.alive e) in
              and_both (and_both (ap is_online t.0) (not_true_is t.1)) (le-leb _ _ t.2));
        };
      },
      (words_part c.part w.part).1,
    )
      where
        undue : (c.due ≡ true → ⊥) → not c.due ≡ true
        undue h = go c.due refl
          where
            go : (b : Bool) → c.due ≡ b → not b ≡ true
            go true e = absurd (h e)
            go false e = refl

        tame : eqb c.remote.address 0 ≡ false → eqb c.remote.port 0 ≡ false → not (wildcard c.remote) ≡ true
        tame a b = rw (a, b)

        waits : (eqb c.timer 0 && not c.due) ≡ false → 0 < c.used
        waits e = go (eqb c.timer 0) refl e
          where
            go : (b : Bool) → eqb c.timer 0 ≡ b → (b && not c.due) ≡ false → 0 < c.used
            go true q f = w.due (not-false c.due f)
            go false q f = w.timer (some c.timer q)

-- a test of every element, each by its index
all-from : {A : Type 0} (f : ℕ → A → Bool) (k : ℕ) (xs : List A) (d : A) → ((i : ℕ) → i < length xs → f (k + i) (get_or xs i d) ≡ true) → all_from f k xs ≡ true
all-from f k [] d h = refl
all-from f k (x ∷ xs) d h =
    let z : k + 0 ≡ k = omega arith in
    and_both (subst (λ (n : ℕ). f n x ≡ true) z (h 0 (omega arith)))
    (all-from f (suc k) xs d (λ i l. let n : k + suc i ≡ suc k + i = omega arith in
    subst (λ (j : ℕ). f j (get_or xs i d) ≡ true) n (h (suc i) (omega (arith, l)))))

-- the zero record meets the rules of any row
zero_words : (image : List ℕ) (k : ℕ) → RecordRules image k zero_record
zero_words image k =
    record {
      used = omega arith;
      part = (omega arith, omega arith);
      receives = λ h. absurd (h refl);
      sends = λ h. absurd (omega (arith, h));
      timer = λ h. h;
      due = λ e. absurd (false≢true e);
      never_both = λ h e. false≢true e;
      reached = λ e. impossible (ap is_online e);
      opening = λ e. absurd (false≢true e);
      closing = λ e a. absurd (false≢true e);
      watched = λ h. absurd (omega (arith, h));
    }

accepted-is : (a : Result Unit BadTable) → is_accepted a ≡ true → a ≡ Ok tt
accepted-is (Ok tt) e = refl
accepted-is (Err (At place)) e = impossible e

-- STATE AND TABLE: the gate's test and the rules, both ways
module _ (image : List ℕ) (s : State) where
  abbrev cs : List Connection
  cs = s.connections

  laid : check_table image ≡ Ok tt → length (body_of image Routes) / 16 ≡ rows_of image Routes
  laid ok = body-rows image (accepted_facts image ok).laid Routes

  row_words : check_table image ≡ Ok tt → records_sound image cs ≡ true → (k : ℕ) → k < rows_of image Connections → RecordRules image k (record_at s k)
  row_words ok sound k there = go (dec_lt k (length cs))
    where
      go : Dec (k < length cs) → RecordRules image k (record_at s k)
      go (yes h) =
          let a : sound_at image k (record_at s k) ≡ true = record-at image cs k sound h in
          record_words image k (laid ok) (record_at s k) (row-sound image k (record_at s k) a there) (row-routed image k (record_at s k) a there)
      go (no h) = subst (RecordRules image k) (sym (get_or-eq_default cs zero_record (omega (arith, h)))) (zero_words image k)

  past_words : records_sound image cs ≡ true → (k : ℕ) → rows_of image Connections ≤ k → record_at s k ≡ zero_record
  past_words sound k out = go (dec_lt k (length cs))
    where
      go : Dec (k < length cs) → record_at s k ≡ zero_record
      go (yes h) = past-zero image k (record_at s k) (record-at image cs k sound h) out
      go (no h) = get_or-eq_default cs zero_record (omega (arith, h))

  test_words : sound_state image s ≡ true → SoundTogether image s
  unfolding sound_state
  test_words e =
      let ok : check_table image ≡ Ok tt = accepted-is (check_table image) (and_left (is_accepted (check_table image)) (records_sound image cs) e) in
      let sound : records_sound image cs ≡ true = and_right (is_accepted (check_table image)) (records_sound image cs) e in
      record { table = (table-answer image (Ok tt)).0 ok; rows = row_words ok sound; past = past_words sound }

  words_at : SoundTogether image s → check_table image ≡ Ok tt → (k : ℕ) → sound_at image k (record_at s k) ≡ true
  words_at w ok k = go (dec_lt k (rows_of image Connections))
    where
      go : Dec (k < rows_of image Connections) → sound_at image k (record_at s k) ≡ true
      go (yes h) =
          let r = words_record image k (laid ok) (record_at s k) (w.rows k h) in
          sound-row image k (record_at s k) h r.0 r.1
      go (no h) =
          let out : rows_of image Connections ≤ k = omega (arith, h) in
          subst (λ (c : Connection). sound_at image k c ≡ true) (sym (w.past k out)) (zero-past image k out)

  words_test : SoundTogether image s → sound_state image s ≡ true
  unfolding sound_state records_sound
  words_test w =
      let ok : check_table image ≡ Ok tt = (table-answer image (Ok tt)).1 w.table in
      and_both (ap is_accepted ok) (all-from (sound_at image) 0 cs zero_record (λ i l. let z : i ≡ 0 + i = omega arith in
      subst (λ (j : ℕ). sound_at image j (record_at s i) ≡ true) z (words_at w ok i)))

  pub sound_exactly : (sound_state image s ≡ true) ↔ SoundTogether image s
  sound_exactly = (test_words, words_test)
