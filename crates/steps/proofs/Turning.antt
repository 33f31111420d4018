-- Turns of a Loop one by one, the cycle looked for being in the first of them: each is gone through as a body, and begins where the one before ended.
use Prim.Native.Nat.{ℕ, suc, ◌+◌, ◌*◌, ◌-◌, ◌≤◌, ◌<◌}
use native.Mathlib.Nat.{eq-zero-or-pos, zero-add, add-zero, zero-mul, one-mul, mul-le-mul_right}
use native.Mathlib.Omega.{arith}
use mathlib.Core.Path.{◌≡◌, refl, sym, ap, ◌∙◌, subst}
use mathlib.Core.Bool.{Bool, true, false}
use mathlib.Core.Logic.{◌⊎◌, inl, inr}
use mathlib.Core.Option.{none}
use mathlib.Core.List.{List, ◌++◌, append-nil}
use lib.Dec.{leb, ltb}
use lib.ListN.{length}
use borrow.Author.Tests.{le-leb, lt-leb, lt-ltb, le-ltb, leb-true}
use Rattle.tokens.specs.Tokens.{Toks}
use Rattle.tokens.proofs.Bools.{both}
use Rattle.meaning.specs.Timing.{Tables}
use Rattle.meaning.specs.Body.{looped, Body, supplied}
use Rattle.meaning.specs.Run.{State, Cycle, Played as Play, shift_of, cycles, visits, follow, again, playing, play}
use Rattle.meaning.specs.Meaning.{first_failing}
use Rattle.meaning.specs.Statements.{Env}
use Rattle.meaning.proofs.Turns.{Plain, keeps, copies, steady, sound_parts}
use Rattle.meaning.proofs.Rows.{AllWide, length_play, length_again}
use Rattle.walks.specs.Statement.{played_in}
use Rattle.walks.specs.Turns.{begins}
use Rattle.walks.proofs.Loops.{again_add, loop_begins, loop_behind}
use Rattle.words.specs.Cursor.{alive, stream}
use Rattle.words.specs.declared.Cursor.{Cursor}
use Rattle.plays.specs.Plays.{Ground, Arrays, Showing, Standing}
use Rattle.plays.proofs.Fitting.{fits_again}
use Rattle.rows.specs.declared.Walk.{Walk}
use Rattle.rows.specs.Went.{over, spends, Went}
use Rattle.rows.proofs.Going.{went_both, went_over}
use Rattle.steps.specs.declared.Walked.{Walked}
use Rattle.steps.specs.Walks.{Ready, Walks, Turning, Repeated}
use Rattle.steps.proofs.Parting.{spends_none, went_none}
use Rattle.steps.proofs.Copying.{went_repeated}

-- ---- what it costs counts only on the way to the cycle looked for

spends_same : (k : Bool) (v v' : ℕ) → (k ≡ true → v ≡ v') → spends k v ≡ spends k v'
spends_same true v v' h = h refl
spends_same false v v' h = refl

pub went_cost : {signals : ℕ} {l : List Cycle} {v v' : ℕ} {w w' : Walk} {x y : List ℕ} → (w.walking ≡ true → v ≡ v') → Went signals l v w w' x y → Went signals l v' w w' x y
went_cost {v = v} {v' = v'} {w = w} {w' = w'} h p = record {
  rows = p.rows;
  show = p.show;
  pass = p.pass;
  walking = p.walking;
  spending = p.spending ∙ ap (λ (n : ℕ). w'.budget + n) (spends_same w.walking v v' h);
  marked = p.marked;
  written = p.written;
  long = p.long;
}

-- ---- turns of any kind

module _ (f : State → Play) (s : State) where
  -- some turns, and those behind them
  pub turns_split : (i m : ℕ) → i ≤ m → (again m f s).1 ≡ (again i f s).1 ++ (again (m - i) f (again i f s).0).1
  unfolding follow
  turns_split i m h =
      let e : m ≡ i + (m - i) = omega arith in
      ap (λ (k : ℕ). (again k f s).1) e ∙ ap (λ (y : Play). y.1) (again_add f i (m - i) s)

  -- one more
  turns_more : (i : ℕ) → again (i + 1) f s ≡ follow (again i f s) f
  unfolding again follow
  turns_more i =
      again_add f i 1 s ∙ ap (λ (l : List Cycle). ((f (again i f s).0).0, (again i f s).1 ++ l)) (append-nil (f (again i f s).0).1)

-- ---- the same of a Loop

module _ (t : ℕ) (b : Body) (plain : Plain b) (s : State) where
  begins_next : (i : ℕ) → (play t b (begins t b i s)).0 ≡ begins t b (i + 1) s
  unfolding follow
  begins_next i =
      ap (λ (u : State). (play t b u).0) (sym (loop_begins t b plain s i)) ∙ sym (ap (λ (y : Play). y.0) (turns_more (play t b) s i))
      ∙ loop_begins t b plain s (i + 1)

  cycles_next : (i : ℕ) → (again (i + 1) (play t b) s).1 ≡ (again i (play t b) s).1 ++ (play t b (begins t b i s)).1
  unfolding follow
  cycles_next i =
      ap (λ (y : Play). y.1) (turns_more (play t b) s i)
      ∙ ap (λ (u : State). (again i (play t b) s).1 ++ (play t b u).1) (loop_begins t b plain s i)

  -- no cycle of a turn fails where none of the Loop does
  turn_sound : (tabs : Tables) (i m : ℕ) → i < m → first_failing tabs (again m (play t b) s).1 ≡ none → first_failing tabs (play t b (begins t b i s)).1 ≡ none
  turn_sound tabs i m h sound =
      let first = (sound_parts tabs (again (i + 1) (play t b) s).1 _ (ap (first_failing tabs) (sym (turns_split (play t b) s (i + 1) m (omega arith))) ∙ sound)).0 in
      (sound_parts tabs (again i (play t b) s).1 _ (ap (first_failing tabs) (sym (cycles_next i)) ∙ first)).1

-- behind a turn the body is held once more
pub turn_standing : {g : Ground} {ts us : Toks} {more level table : ℕ} {x : Arrays} {E : Env} {b : Body} {s : State} (t table' : ℕ) (y : Arrays)
    → Standing g ts more level table x E b us s → Plain b → Showing g level table' y (play t b s).0 → Standing g ts more level table' y E b us (play t b s).0
turn_standing {b = b} {s = s} t table' y st plain shows =
    record { holding = st.holding; holds = st.holds; fits = fits_again (ap supplied (keeps t b plain s)) st.fits; shows = shows }

-- ---- how far they are

-- i turns of the body b are gone through, from the state s and the walk w₀; the visits are those in the first
pub record Turns (g : Ground) (ts us : Toks) (more level t : ℕ) (E : Env) (b : Body) (s : State) (w₀ : Walk) (before : List ℕ) (i table : ℕ) (x : Arrays) (w : Walk) (now : List ℕ) (c : Cursor) : Type 0 where
  pub standing : Standing g ts more level table x E b us (begins t b i s)
  pub went : Went g.signals (again i (play t b) s).1 (spends (ltb 0 i) (visits t b w₀.pass)) w₀ w before now
  pub behind : 0 < i → (alive c ≡ true) × (stream g.text c ≡ us)

module _ {g : Ground} {ts us : Toks} {more level table₀ t m : ℕ} {x₀ : Arrays} {E : Env} {b : Body} {s : State} {w₀ : Walk}
    (turning : Turning g ts more level table₀ t m x₀ E b us s w₀) where
  long : (i : ℕ) → length (again i (play t b) s).1 ≡ i * cycles t b
  long i = length_again i (cycles t b) (play t b) s (length_play t b)

  -- behind the first turn the cycle looked for is reached
  reached : w₀.walking ≡ true → (i : ℕ) → 0 < i → w₀.pass < length (again i (play t b) s).1
  reached on i h = let p : 1 * cycles t b ≤ i * cycles t b = mul-le-mul_right (cycles t b) h in omega (arith, long i, one-mul (cycles t b), turning.within on)

  sound : first_failing E.tables (again m (play t b) s).1 ≡ none
  unfolding playing shift_of
  sound = turning.sound

  module _ {before : List ℕ} where
    pub turns_begin : over w₀ ≡ false → (c : Cursor) → Turns g ts us more level t E b s w₀ before 0 table₀ x₀ w₀ before c
    unfolding begins again
    turns_begin going c = record { standing = turning.standing; went = went_none w₀ before going; behind = λ h. absurd (omega arith) }

    module _ {i table : ℕ} {x : Arrays} {w : Walk} {now : List ℕ} {c : Cursor} (left : Turns g ts us more level t E b s w₀ before i table x w now c) (going : over w ≡ false) where
      -- in the first turn as many are to be passed as were at its beginning
      pass_first : i ≡ 0 → w.pass ≡ w₀.pass
      pass_first e = omega (arith, left.went.pass going, long i, zero-mul (cycles t b), ap (λ (n : ℕ). n * cycles t b) e)

      cost_next : w₀.walking ≡ true
          → spends (ltb 0 i) (visits t b w₀.pass) + spends (leb (length (again i (play t b) s).1) w₀.pass) (visits t b w.pass)
          ≡ spends (ltb 0 (i + 1)) (visits t b w₀.pass)
      cost_next on = rw (lt-ltb 0 (i + 1) (omega arith)) (by (eq-zero-or-pos i))
        where
          by : (i ≡ 0) ⊎ (0 < i)
              → spends (ltb 0 i) (visits t b w₀.pass) + spends (leb (length (again i (play t b) s).1) w₀.pass) (visits t b w.pass) ≡ visits t b w₀.pass
          by (inl e) =
              rw (le-ltb 0 i (omega arith), le-leb (length (again i (play t b) s).1) w₀.pass (omega (arith, long i, zero-mul (cycles t b), ap (λ (n : ℕ). n * cycles t b) e)))
              (zero-add _ ∙ ap (visits t b) (pass_first e))
          by (inr h) =
              rw (lt-ltb 0 i h, lt-leb (length (again i (play t b) s).1) w₀.pass (reached on i h)) (add-zero _)

      pays : (i ≡ 0) ⊎ (0 < i) → w.walking ≡ true → visits t b w.pass ≤ w.budget
      pays (inl e) h =
          let on = (both w₀.walking _ (sym left.went.walking ∙ h)).0 in
          let none_spent : spends (ltb 0 i) (visits t b w₀.pass) ≡ 0 = rw (le-ltb 0 i (omega arith)) in
          let same : w₀.budget ≡ w.budget =
          left.went.spending ∙ ap (λ (n : ℕ). w.budget + spends w₀.walking n) none_spent ∙ ap (λ (n : ℕ). w.budget + n) (spends_none w₀.walking) ∙ add-zero w.budget in
          rw (pass_first e, ← same) (turning.pays on)
      pays (inr p) h =
          let q = both w₀.walking (leb (length (again i (play t b) s).1) w₀.pass) (sym left.went.walking ∙ h) in
          absurd (omega (arith, reached q.0 i p, leb-true (length (again i (play t b) s).1) w₀.pass q.1))

      -- turn i can be gone through
      module _ (more_turns : i < m) where
        pub turns_ready : Ready E.tables t b (begins t b i s) w
        turns_ready =
            let one : 1 * cycles t b ≤ m * cycles t b = mul-le-mul_right (cycles t b) (omega arith) in
            record {
              few_cycles = omega (arith, turning.few_cycles, one-mul (cycles t b));
              small = turning.small;
              sound = turn_sound t b turning.plain s E.tables i m more_turns sound;
              pays = pays (eq-zero-or-pos i);
            }

        module _ {y : Arrays} {after : List ℕ} {r : Walked} (p : Walks g level y us (play t b (begins t b i s)) (visits t b w.pass) w now after r) where
          went_next : Went g.signals (again (i + 1) (play t b) s).1 (spends (ltb 0 (i + 1)) (visits t b w₀.pass)) w₀ r.walk before after
          went_next = rw (cycles_next t b turning.plain s i) (went_cost cost_next (went_both left.went going p.tells.went))

          pub turns_next : over r.walk ≡ false → Turns g ts us more level t E b s w₀ before (i + 1) r.table y r.walk after r.cursor
          turns_next h = record {
            standing = subst (λ (u : State). Standing g ts more level r.table y E b us u) (begins_next t b turning.plain s i)
                (turn_standing t r.table y left.standing turning.plain (p.tells.shows h));
            went = went_next;
            behind = λ q. p.behind h;
          }

          -- nothing is left to do, and so the turns behind it are not gone through
          pub turns_over : over r.walk ≡ true
              → Walks g level y us (played_in t (looped m) b s) (visits t b w₀.pass) w₀ before after (record { cursor = r.cursor; table = r.table; walk = r.walk; ends = false })
          unfolding playing shift_of
          turns_over h =
              let rest = (again (m - (i + 1)) (play t b) (again (i + 1) (play t b) s).0).1 in
              let passed = leb (length (again (i + 1) (play t b) s).1) w₀.pass in
              let cost : spends (ltb 0 (i + 1)) (visits t b w₀.pass) + spends passed 0 ≡ visits t b w₀.pass =
              rw (lt-ltb 0 (i + 1) (omega arith), spends_none passed) (add-zero (visits t b w₀.pass)) in
              record {
                tells = record {
                  went = rw (turns_split (play t b) s (i + 1) m (omega arith), ← cost) (went_over went_next h rest 0);
                  shows = λ q. absurd (never q);
                };
                behind = λ q. absurd (never q);
              }
            where
              never : over r.walk ≡ false → ⊥
              never q = let z : ◌≡◌ {A = ℕ} 0 1 = cc in omega arith

          -- it was shown whole, and leaves the state that it began in: its rows are those of the turns behind it
          module _ (same : (play t b (begins t b i s)).0 ≡ begins t b i s) where
            again_left : again (m - i) (play t b) (begins t b i s) ≡ (begins t b i s, copies (suc (m - (i + 1))) (play t b (begins t b i s)).1)
            again_left =
                let e : m - i ≡ suc (m - (i + 1)) = omega arith in
                ap (λ (n : ℕ). again n (play t b) (begins t b i s)) e ∙ steady (play t b) (begins t b i s) same (suc (m - (i + 1)))

            cycles_left : (again m (play t b) s).1 ≡ (again i (play t b) s).1 ++ copies (suc (m - (i + 1))) (play t b (begins t b i s)).1
            cycles_left =
                turns_split (play t b) s i m (omega arith)
                ∙ ap (λ (u : State). (again i (play t b) s).1 ++ (again (m - i) (play t b) u).1) (loop_begins t b turning.plain s i)
                ∙ ap (λ (y : Play). (again i (play t b) s).1 ++ y.1) again_left

            state_left : (play t b (begins t b i s)).0 ≡ (again m (play t b) s).0
            state_left = same ∙ sym (ap (λ (y : Play). y.0) again_left) ∙ loop_behind t b turning.plain s i m (omega arith)

            pub turns_copied : over r.walk ≡ false → w.pass ≡ 0 → AllWide g.signals (play t b (begins t b i s)).1 → {w' : Walk} {last : List ℕ}
                → Repeated g.signals w.row (m - (i + 1)) r.walk w' after last
                → Walks g level y us (played_in t (looped m) b s) (visits t b w₀.pass) w₀ before last (record { cursor = r.cursor; table = r.table; walk = w'; ends = false })
            unfolding playing shift_of
            turns_copied h start wide copied =
                let cost : spends (ltb 0 (i + 1)) (visits t b w₀.pass) ≡ visits t b w₀.pass = rw (lt-ltb 0 (i + 1) (omega arith)) in
                record {
                  tells = record {
                    went = rw cycles_left (went_cost (λ on. cost_next on ∙ cost) (went_both left.went going (went_repeated p.tells.went start h wide copied)));
                    shows = λ q. rw (← state_left) (p.tells.shows h);
                  };
                  behind = λ q. p.behind h;
                }

      -- all turns are gone through
      pub turns_all : i ≡ m → 0 < m
          → Walks g level x us (played_in t (looped m) b s) (visits t b w₀.pass) w₀ before now (record { cursor = c; table = table; walk = w; ends = false })
      unfolding playing shift_of
      turns_all e h =
          let some : 0 < i = omega arith in
          let cost : spends (ltb 0 i) (visits t b w₀.pass) ≡ visits t b w₀.pass = rw (lt-ltb 0 i some) in
          let there : Showing g level table x (again i (play t b) s).0 = rw (loop_begins t b turning.plain s i) left.standing.shows in
          record {
            tells = record {
              went = rw (← e, ← cost) left.went;
              shows = λ q. subst (λ (n : ℕ). Showing g level table x (again n (play t b) s).0) e there;
            };
            behind = λ q. left.behind some;
          }
