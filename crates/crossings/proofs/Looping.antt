-- The turns of a Loop: one that leaves what it found, or two, and the first cycle once more behind the last one.
use Prim.Native.Nat.{ℕ, zero, suc, ◌+◌, ◌*◌, ◌-◌, ◌<◌, ◌≤◌}
use native.Mathlib.Omega.{arith}
use mathlib.Core.Path.{◌≡◌, refl, sym, ap, ap₂, ◌∙◌, subst}
use mathlib.Core.Bool.{Bool, true, false, ◌||◌, true≢false}
use mathlib.Core.Option.{Option, none, some, or_else}
use mathlib.Core.List.{List, [], ◌∷◌, ◌++◌, append-nil, append_assoc}
use lib.Dec.{eqb, ltb}
use lib.ListN.{get_or}
use borrow.Author.Tests.{ltb-true, ltb-false}
use Rattle.tokens.specs.Tokens.{Toks}
use Rattle.meaning.specs.Bounds.{signals_most, depth_most}
use Rattle.meaning.specs.Timing.{Tables}
use Rattle.meaning.specs.Body.{Body}
use Rattle.meaning.specs.Run.{State, Cycle, Played as Play, follow, again, play}
use Rattle.meaning.specs.Statements.{Env}
use Rattle.meaning.proofs.Turns.{Plain, plain_twice, loop_left, keeps, steady}
use Rattle.meaning.specs.Edges.{last_behind, failing_behind}
use Rattle.edges.proofs.Loops.{opening, opening_loop, loop_failing, loop_last, steady_failing, steady_last}
use Rattle.pins.specs.Shown.{table_of, Shows, Roomy}
use Rattle.plays.specs.declared.Played.{Played}
use Rattle.plays.specs.Plays.{Ground, Arrays, Showing, Standing}
use Rattle.tokens.proofs.Bools.{neither}
use Rattle.plays.proofs.Fitting.{fits_again}
use Rattle.crossings.specs.declared.Seen.{Seen}
use Rattle.crossings.specs.Rows.{rows_most, rows_of, Ample, cycle_in, row_of, row_at, Stored, first_seen, at_most_one, Noted, Passed, Closed}
use Rattle.crossings.specs.Crossings.{Plays}
use Rattle.crossings.proofs.Storing.{window}
use Rattle.crossings.proofs.Stepping.{same_played}
use Rattle.crossings.proofs.Passing.{first-++, stays_failing, passed_both, passed_failing, passed_less, Same, passed_from_lem, same_stored, same_then}

-- ---- first cycles

first_opening : (o : Option Cycle) (l : List Cycle) → first_seen o l ≡ first_seen o (opening l)
unfolding first_seen
first_opening (some d) l = refl
first_opening none [] = refl
first_opening none (c ∷ l) = refl

one_opening : (l : List Cycle) → at_most_one (first_seen none l) ≡ opening l
unfolding first_seen at_most_one
one_opening [] = refl
one_opening (c ∷ l) = refl

-- ---- cycles of all turns

module _ (t : ℕ) (b : Body) (s : State) where
  abbrev first : List Cycle
  first = (play t b s).1

  abbrev second : List Cycle
  second = (play t b (play t b s).0).1

  -- whatever the number of turns
  first_all : (o : Option Cycle) (m : ℕ) → first_seen o (again (suc m) (play t b) s).1 ≡ first_seen o first
  first_all o m = first_opening o (again (suc m) (play t b) s).1 ∙ ap (first_seen o) (opening_loop t b m s) ∙ sym (first_opening o first)

  -- two turns have the first cycle of one
  first_twice : (o : Option Cycle) → first_seen (first_seen o first) second ≡ first_seen o first
  unfolding again follow
  first_twice o = first-++ o first second ∙ ap (λ (l : List Cycle). first_seen o (first ++ l)) (sym (append-nil second)) ∙ first_all o 1

  module _ {tabs : Tables} {n rows : ℕ} {v₀ v : Seen} {p : ℕ} (h : Passed tabs n rows v₀ v false p first) where
    -- a turn that leaves what it found
    pub steady_passed : {q : ℕ} {f : Bool} (m : ℕ) → (play t b s).0 ≡ s → row_at n v rows ≡ first_seen none first → Closed tabs n rows v f q
        → Passed tabs n rows v₀ v f q (again (suc (suc m)) (play t b) s).1
    unfolding or_else
    steady_passed m same opened k = record {
      fails = λ e. is ∙ k.fails e;
      sound = λ e. is ∙ k.sound e;
      noted = λ e. record {
        last = (h.noted refl).last ∙ sym (steady_last tabs t b s same (row_at n v₀ 0) (suc m));
        first = λ i l r. (h.noted refl).first i l r ∙ sym (first_all (row_at n v₀ i) (suc m));
      };
    }
      where
        is : failing_behind tabs (row_at n v₀ 0) (again (suc (suc m)) (play t b) s).1 ≡ failing_behind tabs (row_at n v 0) (at_most_one (row_at n v rows))
        is =
            steady_failing tabs t b s same (row_at n v₀ 0) m
            ∙ ap (λ (o : Option ℕ). or_else o (failing_behind tabs (last_behind (row_at n v₀ 0) first) (opening first))) (h.sound refl)
            ∙ ap₂ (λ (o : Option Cycle) (l : List Cycle). failing_behind tabs o l) (sym (h.noted refl).last) (sym (ap at_most_one opened ∙ one_opening first))

    module _ {v' w : Seen} {p' : ℕ} (alike : Same n rows v v') (some-row : 0 < rows) where
      -- two turns, or a pair in the second that is not in order
      pub twice_passed : {f : Bool} → Passed tabs n rows v' w f p' second → Passed tabs n rows v₀ w f p' (first ++ second)
      twice_passed k = passed_both h (passed_from_lem some-row alike k)

      -- and more
      pub looped_passed : {q : ℕ} {f : Bool} (m : ℕ) → Plain b → Passed tabs n rows v' w false p' second → row_at n w rows ≡ first_seen none second → Closed tabs n rows w f q
          → Passed tabs n rows v₀ w f q (again (suc (suc (suc m))) (play t b) s).1
      unfolding or_else
      looped_passed m plain k opened c = record {
        fails = λ e. is ∙ c.fails e;
        sound = λ e. is ∙ c.sound e;
        noted = λ e. record {
          last = (both.noted refl).last ∙ ends;
          first = λ i l r. (k.noted refl).first i l r ∙ ap (λ (o : Option Cycle). first_seen o second) (alike.each i r ∙ (h.noted refl).first i l r) ∙ first_twice (row_at n v₀ i) ∙ sym (first_all (row_at n v₀ i) (suc (suc m)));
        };
      }
        where
          next : Passed tabs n rows v w false p' second
          next = passed_from_lem some-row alike k

          both : Passed tabs n rows v₀ w false p' (first ++ second)
          both = passed_both h next

          behind : last_behind (last_behind (row_at n v₀ 0) first) second ≡ row_at n w 0
          behind = ap (λ (o : Option Cycle). last_behind o second) (sym (h.noted refl).last) ∙ sym (next.noted refl).last

          ends : last_behind (row_at n v₀ 0) (first ++ second) ≡ last_behind (row_at n v₀ 0) (again (suc (suc (suc m))) (play t b) s).1
          ends = sym (both.noted refl).last ∙ sym behind ∙ sym (loop_last tabs t b plain s (row_at n v₀ 0) (suc m))

          is : failing_behind tabs (row_at n v₀ 0) (again (suc (suc (suc m))) (play t b) s).1 ≡ failing_behind tabs (row_at n w 0) (at_most_one (row_at n w rows))
          is =
              loop_failing tabs t b plain s (row_at n v₀ 0) m
              ∙ ap₂ (λ (o q : Option ℕ). or_else o (or_else q (failing_behind tabs (last_behind (last_behind (row_at n v₀ 0) first) second) (opening second)))) (h.sound refl)
              (ap (λ (o : Option Cycle). failing_behind tabs o second) (sym (h.noted refl).last) ∙ next.sound refl)
              ∙ ap₂ (λ (o : Option Cycle) (l : List Cycle). failing_behind tabs o l) behind (sym (ap at_most_one opened ∙ one_opening second))

-- ---- what is told of the turns

-- n turns, by the number that are more than one, two or three
one_only : (n : ℕ) → 0 < n → n < 2 → n ≡ suc zero
one_only n h k = omega arith

again_once : (f : State → Play) (s : State) → again (suc zero) f s ≡ f s
unfolding again follow
again_once f s = λ i. ((f s).0, append-nil (f s).1 i)

again_twice : (f : State → Play) (s : State) → again (suc (suc zero)) f s ≡ ((f (f s).0).0, (f s).1 ++ (f (f s).0).1)
unfolding again follow
again_twice f s = λ i. ((f (f s).0).0, (f s).1 ++ append-nil (f (f s).0).1 i)

module _ (t n more : ℕ) (b : Body) (s : State) {g : Ground} {tabs : Tables} {level : ℕ} {us : Toks} {v₀ v₁ v₂ v : Seen} {y : Arrays} {r : Played} (some_more : 0 < more) (deep : more ≤ depth_most)
    {o : Option Cycle} (forgot : Stored g.signals (rows_of more) none v₀ v₁) (found : Stored g.signals (rows_of more + 1) o v₁ v₂)
    (a : Plays g tabs level (rows_of (more - 1)) y v₂ v us r (play t b s))
  where
    abbrev rows : ℕ
    rows = rows_of more

    as_before : Same g.signals rows v₀ v₂
    as_before = same_then (same_stored (omega arith) (omega arith) forgot) (same_stored (omega arith) (omega arith) found)

    once : Passed tabs g.signals rows v₀ v r.failed r.place (play t b s).1
    once = passed_from_lem (omega arith) as_before (passed_less (omega arith) a.tells.passed)

    -- the first turn, and no more
    pub turned_once : 0 < n → (r.failed || ltb n 2) ≡ true → Plays g tabs level rows y v₀ v us r (again n (play t b) s)
    unfolding again follow
    turned_once some_turn q = by n some_turn r.failed refl q
      where
        by : (n : ℕ) → 0 < n → (f : Bool) → r.failed ≡ f → (f || ltb n 2) ≡ true → Plays g tabs level rows y v₀ v us r (again n (play t b) s)
        by zero h f e q = absurd (omega arith)
        by (suc m) h true e q = record {
          tells = record {
            passed = passed_failing e (stays_failing tabs _ (play t b s).1 (again m (play t b) (play t b s).0).1 (once.fails e));
            shows = λ d. absurd (true≢false (sym e ∙ d));
          };
          behind = λ d. absurd (true≢false (sym e ∙ d));
        }
        by (suc m) h false e q = subst (λ (k : ℕ). Plays g tabs level rows y v₀ v us r (again k (play t b) s)) (sym (one_only (suc m) h (ltb-true (suc m) 2 q)))
            (subst (Plays g tabs level rows y v₀ v us r) (sym (again_once (play t b) s)) (record { tells = record { passed = once; shows = a.tells.shows }; behind = a.behind }))

    module _ (q : (r.failed || ltb n 2) ≡ false) where
      sound : r.failed ≡ false
      sound = (neither r.failed (ltb n 2) q).0

      two_turns : 2 ≤ n
      two_turns = ltb-false n 2 (neither r.failed (ltb n 2) q).1

      first_turn : Passed tabs g.signals rows v₀ v false r.place (play t b s).1
      first_turn = subst (λ (f : Bool). Passed tabs g.signals rows v₀ v f r.place (play t b s).1) sound once

      first_noted : Noted g.signals (rows_of (more - 1)) v₂ v (play t b s).1
      first_noted = a.tells.passed.noted sound

      opened : row_at g.signals v rows ≡ first_seen none (play t b s).1
      opened = first_noted.first rows (omega arith) (omega arith) ∙ ap (λ (o : Option Cycle). first_seen o (play t b s).1) (found.others rows (omega arith) (λ e. omega arith) ∙ forgot.here)

      -- what was found before the turn
      pub still_found : {c : Cycle} → o ≡ some c → row_at g.signals v (rows + 1) ≡ some c
      unfolding first_seen
      still_found e = first_noted.first (rows + 1) (omega arith) (omega arith) ∙ ap (λ (o : Option Cycle). first_seen o (play t b s).1) (found.here ∙ e)

      -- a turn that leaves what it found
      pub turned_steady : {z : Played} → (play t b s).0 ≡ s → z.cursor ≡ r.cursor → z.table ≡ r.table → Closed tabs g.signals rows v z.failed z.place
          → Plays g tabs level rows y v₀ v us z (again n (play t b) s)
      turned_steady {z} same there chosen k = record {
        tells = record {
          passed = subst (λ (k : ℕ). Passed tabs g.signals rows v₀ v z.failed z.place (again k (play t b) s).1) many (steady_passed t b s first_turn (n - 2) same opened k);
          shows = λ e. rw (chosen, ap (λ (p : Play). p.0) (steady (play t b) s same n)) (subst (Showing g level r.table y) same (a.tells.shows sound));
        };
        behind = λ e. rw there (a.behind sound);
      }
        where
          many : suc (suc (n - 2)) ≡ n
          many = omega (arith, two_turns)

      module _ {v₃ w : Seen} {y' : Arrays} {r' : Played} (again-forgot : Stored g.signals rows none v v₃) (a' : Plays g tabs level (rows_of (more - 1)) y' v₃ w us r' (play t b (play t b s).0)) where
        as_behind : Same g.signals rows v v₃
        as_behind = same_stored (omega arith) (omega arith) again-forgot

        second_turn : Passed tabs g.signals rows v₃ w r'.failed r'.place (play t b (play t b s).0).1
        second_turn = passed_less (omega arith) a'.tells.passed

        twice : Passed tabs g.signals rows v₀ w r'.failed r'.place ((play t b s).1 ++ (play t b (play t b s).0).1)
        twice = twice_passed t b s first_turn as_behind (omega arith) second_turn

        -- two turns, and no more
        pub turned_twice : (r'.failed || ltb n 3) ≡ true → Plays g tabs level rows y' v₀ w us r' (again n (play t b) s)
        unfolding again follow
        turned_twice d = by n two_turns r'.failed refl d
          where
            by : (n : ℕ) → 2 ≤ n → (f : Bool) → r'.failed ≡ f → (f || ltb n 3) ≡ true → Plays g tabs level rows y' v₀ w us r' (again n (play t b) s)
            by zero h f e d = absurd (omega arith)
            by (suc zero) h f e d = absurd (omega arith)
            by (suc (suc m)) h true e d = record {
              tells = record {
                passed = passed_failing e (ap (failing_behind tabs (row_at g.signals v₀ 0)) (sym (append_assoc (play t b s).1 (play t b (play t b s).0).1 (again m (play t b) (play t b (play t b s).0).0).1))
                    ∙ stays_failing tabs _ ((play t b s).1 ++ (play t b (play t b s).0).1) (again m (play t b) (play t b (play t b s).0).0).1 (twice.fails e));
                shows = λ d. absurd (true≢false (sym e ∙ d));
              };
              behind = λ d. absurd (true≢false (sym e ∙ d));
            }
            by (suc (suc m)) h false e d = subst (λ (k : ℕ). Plays g tabs level rows y' v₀ w us r' (again k (play t b) s)) (two_only (suc (suc m)) h (ltb-true (suc (suc m)) 3 d))
                (subst (Plays g tabs level rows y' v₀ w us r') (sym (again_twice (play t b) s)) (record { tells = record { passed = twice; shows = a'.tells.shows }; behind = a'.behind }))
              where
                two_only : (n : ℕ) → 2 ≤ n → n < 3 → suc (suc zero) ≡ n
                two_only n h k = omega arith

        -- two turns, and the first cycle of a third
        module _ (d : (r'.failed || ltb n 3) ≡ false) where
          sound' : r'.failed ≡ false
          sound' = (neither r'.failed (ltb n 3) d).0

          three_turns : 3 ≤ n
          three_turns = ltb-false n 3 (neither r'.failed (ltb n 3) d).1

          pub turned_on : {z : Played} → Plain b → z.cursor ≡ r'.cursor → z.table ≡ r'.table → Closed tabs g.signals rows w z.failed z.place
              → Plays g tabs level rows y' v₀ w us z (again n (play t b) s)
          turned_on {z} plain there chosen k = record {
            tells = record {
              passed = subst (λ (k : ℕ). Passed tabs g.signals rows v₀ w z.failed z.place (again k (play t b) s).1) many
                  (looped_passed t b s first_turn as_behind (omega arith) (n - 3) plain (subst (λ (f : Bool). Passed tabs g.signals rows v₃ w f r'.place (play t b (play t b s).0).1) sound' second_turn) opened' k);
              shows = λ e. rw (chosen) (subst (Showing g level r'.table y') ends (a'.tells.shows sound'));
            };
            behind = λ e. rw there (a'.behind sound');
          }
            where
              many : suc (suc (suc (n - 3))) ≡ n
              many = omega (arith, three_turns)

              opened' : row_at g.signals w rows ≡ first_seen none (play t b (play t b s).0).1
              opened' = (a'.tells.passed.noted sound').first rows (omega arith) (omega arith) ∙ ap (λ (o : Option Cycle). first_seen o (play t b (play t b s).0).1) again-forgot.here

              ends : (play t b (play t b s).0).0 ≡ (again n (play t b) s).0
              ends = plain_twice t b plain s ∙ sym (loop_left t b plain s (suc (suc (n - 3)))) ∙ ap (λ (k : ℕ). (again k (play t b) s).0) many

-- ---- the next turn

-- the body is held where it was, and can be played again
pub turned_standing : (t : ℕ) {g : Ground} {ts us : Toks} {more level table rows : ℕ} {x y : Arrays} {E : Env} {b : Body} {s : State} {v w : Seen} {r : Played} → Standing g ts more level table x E b us s
    → Plays g E.tables level rows y v w us r (play t b s) → r.failed ≡ false → Standing g ts more level r.table y E b us (play t b s).0
turned_standing t {b = b} {s = s} st p e = record { holding = st.holding; holds = st.holds; fits = fits_again (same_played t b st.fits.good s) st.fits; shows = p.tells.shows e }

-- a row that holds a cycle has its parts
there_is : (there : ℕ) (c d : Cycle) → row_of there c ≡ some d → c ≡ d
unfolding row_of
there_is there c d e = by (eqb there 0) e
  where
    by : (w : Bool) → ◌≡◌ {A = Option Cycle} (elim w [ true ↦ none | false ↦ some c ]) (some d) → c ≡ d
    by true e = let z : ◌≡◌ {A = ℕ} 0 1 = cc in absurd (omega arith)
    by false e = cc

-- where the pins and the table are those that were stored before the turn, it left what it found
pub turn_same : (t r : ℕ) (b : Body) (s : State) {text : List ℕ} {n level table table' : ℕ} {values values' feeds feeds' : List ℕ} {v : Seen} → Plain b → Shows text n values table feeds level s
    → Shows text n values' table' feeds' level (play t b s).0 → row_at n v r ≡ some (cycle_in n 0 table values 0) → Roomy n values' feeds' level → Ample v → r < rows_most
    → (get_or v.marks (r * 3) 0 ≡ table') × ((i : ℕ) → i < n → get_or v.pins (r * signals_most + i) 0 ≡ get_or values' i 0) → (play t b s).0 ≡ s
unfolding row_at
turn_same t r b s {text} {n} {level} {table} {table'} {values} {values'} {feeds} {feeds'} {v} plain before after row roomy ample h same =
    let c = there_is _ _ _ row in
    let table_same : table_of table' ≡ table_of table = ap table_of (sym same.0) ∙ ap (λ (c : Cycle). c.table) c in
    let there = window n (r * signals_most) 0 v.pins values' (omega (arith, ample.pins_long, roomy.few)) (omega (arith, roomy.few, roomy.values_long)) (λ i k. same.1 i k ∙ ap (λ (j : ℕ). get_or values' j 0) (none_before i)) in
    let pins_same : (play t b s).0.pins ≡ s.pins = after.pins_are ∙ sym there ∙ ap (λ (c : Cycle). c.pins) c ∙ sym before.pins_are in
    let chosen : (play t b s).0.table ≡ s.table = after.table_is ∙ table_same ∙ sym before.table_is in
    let arguments = keeps t b plain s in
    λ i. record { pins = pins_same i; table = chosen i; args = arguments i }
  where
    none_before : (i : ℕ) → i ≡ 0 + i
    none_before i = omega arith
