-- A Loop's second turn need not be played where its first would play as well from what it left: no cycle of the second fails, and it leaves the same.
use Prim.Native.Nat.{ℕ, zero, suc, ◌<◌, ◌≤◌}
use native.Mathlib.Omega.{arith}
use mathlib.Core.Path.{◌≡◌, refl, sym, ap, ap₂, ◌∙◌}
use mathlib.Core.Bool.{Bool, true, false, ◌||◌}
use mathlib.Core.Option.{none, or_else}
use mathlib.Core.Logic.{◌⊎◌, inr}
use mathlib.Core.List.{List}
use lib.Dec.{ltb, eqb}
use lib.ListN.{length, get_or}
use lib.Seq.{ext_get_or, get_or-take}
use Rattle.tokens.specs.Tokens.{Toks}
use Rattle.tokens.proofs.Bools.{true_false}
use Rattle.meaning.specs.Timing.{Tables}
use Rattle.meaning.specs.Body.{Body}
use Rattle.meaning.specs.Statements.{Env}
use Rattle.meaning.specs.Run.{State, Played as Play, follow}
use Rattle.meaning.specs.Meaning.{first_failing}
use Rattle.meaning.proofs.Turns.{keeps, fails-++}
use Rattle.turns.specs.Few.{loop_few, play_few}
use Rattle.turns.proofs.Decides.{few_left, fewer_fail}
use Rattle.pins.specs.Shown.{table_of}
use Rattle.memos.specs.Tracks.{is_marked, assigned_mark, tracks_length, marks_at, Granted, Like, Lands, Tracked, Tracking, Joins}
use Rattle.memos.proofs.Marking.{zero_marked}
use Rattle.memos.proofs.Tracking.{like_same, tracked_body, tracking_joined}
use Rattle.plays.specs.declared.Played.{Played}
use Rattle.plays.specs.Plays.{Ground, Arrays, Standing, Plays, Looping, Begins}
use Rattle.plays.proofs.Following.{told_alike}
use Rattle.plays.proofs.Tracks.{pins_wide}
use Rattle.plays.proofs.Turning.{second_open, second_due, first_sound}

-- ---- f, and then g, which leaves what f leaves and has a failing cycle only where f has one

module _ {tabs : Tables} {n : ℕ} {m : ℕ → ℕ} {s : State} {f : State → Play} (g : State → Play) (left_same : (z : State) → (g z).0 ≡ (f z).0)
    (fewer : (z : State) → first_failing tabs (f z).1 ≡ none → first_failing tabs (g z).1 ≡ none) (x : Tracked tabs n m s f) (again : Like tabs n m s (f s).0) where
  module _ {z : State} (q : Like tabs n m s z) where
    first : Lands n m z (f s).0 (f z).0
    first = (x.each z q).1

    -- what f left is such that f would play from it as well
    like_again : Like tabs n m s (f z).0
    like_again = record {
      wide = first.wide;
      table_same = first.table_same ∙ again.table_same;
      args_same = first.args_same ∙ again.args_same;
      pins_are = λ i l. by i l (is_marked (m i) assigned_mark) refl;
    }
      where
        by : (i : ℕ) → i < n → (w : Bool) → is_marked (m i) assigned_mark ≡ w → (get_or (f z).0.pins i 0 ≡ get_or s.pins i 0) ⊎ Granted tabs (m i) i (get_or (f z).0.pins i 0)
        by i l true e = rw (first.put i l e) (again.pins_are i l)
        by i l false e = rw (first.kept i l e) (q.pins_are i l)

    second : Lands n m (f z).0 (f s).0 (f (f z).0).0
    second = (x.each (f z).0 like_again).1

    -- and it is left as it is
    stays : (f (f z).0).0 ≡ (f z).0
    stays =
        let p = ext_get_or 0 (f (f z).0).0.pins (f z).0.pins (second.wide ∙ sym first.wide) (λ i l. by i (omega (arith, second.wide)) (is_marked (m i) assigned_mark) refl) in
        let k = second.table_same ∙ sym first.table_same in
        let a = second.args_same ∙ sym first.args_same in
        λ i. record { pins = p i; table = k i; args = a i }
      where
        by : (i : ℕ) → i < n → (w : Bool) → is_marked (m i) assigned_mark ≡ w → get_or (f (f z).0).0.pins i 0 ≡ get_or (f z).0.pins i 0
        by i l true e = second.put i l e ∙ sym (first.put i l e)
        by i l false e = second.kept i l e

    both_left : (follow (f z) g).0 ≡ (f z).0
    unfolding follow
    both_left = left_same (f z).0 ∙ stays

    both_sound : first_failing tabs (follow (f z) g).1 ≡ none
    unfolding follow or_else
    both_sound = fails-++ tabs (f z).1 (g (f z).0).1 ∙ ap₂ or_else (x.each z q).0 (fewer (f z).0 (x.each (f z).0 like_again).0)

  -- THE LAW: both are tracked as f is
  tracked_twice : length s.pins ≡ n → Tracked tabs n m s (λ z. follow (f z) g)
  tracked_twice wide = record { each = λ z q. (both_sound q, rw (both_left q, both_left (like_same wide)) (first q)) }

-- ---- the second turn

-- where nothing was tracked before
joins_fresh : {a b : ℕ} → a ≡ 0 → Joins a b b
joins_fresh e = record { kept = λ u l q. true_false q (ap (λ (k : ℕ). is_marked k u) e ∙ zero_marked u l); more = λ q u l p. p; only = λ q. inr q }

module _ {g : Ground} {ts us : Toks} {more level nest table : ℕ} {x : Arrays} (y : Arrays) {E : Env} {b : Body} {s : State} (r : Played) (memo : List ℕ) {memo' : List ℕ} (t : ℕ)
    (st : Standing g ts more level table x E b us s) (wide : g.signals ≤ length x.values) (wide' : g.signals ≤ length y.values) (long : length memo' ≡ length memo) (fine : Looping g.signals nest memo b) (h : Begins g.waves memo' g.signals nest table r.table y.values) where
  room : tracks_length ≤ length memo
  room = omega (arith, h.room)

  pins : length s.pins ≡ g.signals
  pins = pins_wide st.shows wide

  left_like : (k : ℕ) → Plays g E.tables level y us r (play_few k t b s) → r.failed ≡ false → Like E.tables g.signals (marks_at memo' nest) s (play_few k t b s).0
  left_like k p e =
      let q = p.told.shows e in
      record {
        wide = pins_wide q wide';
        table_same = q.table_is ∙ ap table_of h.table_same ∙ sym st.shows.table_is;
        args_same = ap (λ (z : State). z.args) (few_left t b st.fits.good s k) ∙ keeps t b (fine room).0 s;
        pins_are = λ i l. inr (rw (q.pins_are, get_or-take g.signals y.values i 0 l) (h.granted E.tables (_, _, _, st.holding.held) i l));
      }

  module _ (n k : ℕ) (p : Plays g E.tables level y us r (play_few (suc k) t b s)) (e : r.failed ≡ false)
      (tracked : Tracking E.tables g.signals nest memo memo' s (play_few (suc k) t b)) where
    of_first : Tracked E.tables g.signals (marks_at memo' nest) s (play_few (suc k) t b)
    of_first = tracked_body pins h.deep room (fine room).1 tracked

    same_left : (z : State) → (play_few k t b z).0 ≡ (play_few (suc k) t b z).0
    same_left z = few_left t b st.fits.good z k ∙ sym (few_left t b st.fits.good z (suc k))

    fewer : (z : State) → first_failing E.tables (play_few (suc k) t b z).1 ≡ none → first_failing E.tables (play_few k t b z).1 ≡ none
    fewer z = fewer_fail t b st.fits.good z E.tables k

    skipped_plays : Plays g E.tables level y us r (loop_few (suc (suc n)) (suc k) (λ j. play_few j t b) s)
    unfolding loop_few
    skipped_plays =
        let like = left_like (suc k) p e in
        record {
          told = told_alike (record {
            left_same = both_left (play_few k t b) same_left fewer of_first like (like_same pins);
            fails_same = both_sound (play_few k t b) same_left fewer of_first like (like_same pins) ∙ sym (p.told.sound e);
          }) p.told;
          behind = p.behind;
        }

    skipped_tracks : Tracking E.tables g.signals nest memo memo' s (loop_few (suc (suc n)) (suc k) (λ j. play_few j t b))
    unfolding loop_few
    skipped_tracks = tracking_joined (λ some room. (
      tracked_twice (play_few k t b) same_left fewer of_first (left_like (suc k) p e) pins,
      λ i l. joins_fresh ((fine room).1 i l),
    ))

  -- it is left out
  module _ (n k : ℕ) (p : Plays g E.tables level y us r (play_few k t b s)) (left : ((r.failed || ltb n 2) || eqb k 0) ≡ false) where
    sound : r.failed ≡ false
    sound = first_sound n k r.failed left

    pub turned_plays : Tracking E.tables g.signals nest memo memo' s (play_few k t b) → Plays g E.tables level y us r (loop_few n k (λ j. play_few j t b) s)
    turned_plays tracked = by n k (second_due n k r.failed left) (second_open n k r.failed left) p tracked
      where
        by : (n k : ℕ) → 2 ≤ n → 0 < k → Plays g E.tables level y us r (play_few k t b s) → Tracking E.tables g.signals nest memo memo' s (play_few k t b)
            → Plays g E.tables level y us r (loop_few n k (λ j. play_few j t b) s)
        by zero k h l p q = absurd (omega arith)
        by (suc zero) k h l p q = absurd (omega arith)
        by (suc (suc n)) zero h l p q = absurd (omega arith)
        by (suc (suc n)) (suc k) h l p q = skipped_plays n k p sound q

    pub turned_tracks : Tracking E.tables g.signals nest memo memo' s (play_few k t b) → Tracking E.tables g.signals nest memo memo' s (loop_few n k (λ j. play_few j t b))
    turned_tracks tracked = by n k (second_due n k r.failed left) (second_open n k r.failed left) p tracked
      where
        by : (n k : ℕ) → 2 ≤ n → 0 < k → Plays g E.tables level y us r (play_few k t b s) → Tracking E.tables g.signals nest memo memo' s (play_few k t b)
            → Tracking E.tables g.signals nest memo memo' s (loop_few n k (λ j. play_few j t b))
        by zero k h l p q = absurd (omega arith)
        by (suc zero) k h l p q = absurd (omega arith)
        by (suc (suc n)) zero h l p q = absurd (omega arith)
        by (suc (suc n)) (suc k) h l p q = skipped_tracks n k p sound q
