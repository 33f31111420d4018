-- What is tracked of each statement: which signals it assigns, and under which table it shows the others.
use Prim.Native.Nat.{ℕ, zero, suc, ◌+◌, ◌-◌, ◌<◌, ◌≤◌}
use native.Mathlib.Nat.{add-zero, zero-add, add-suc, suc-add}
use native.Mathlib.Omega.{arith}
use mathlib.Core.Path.{◌≡◌, refl, sym, ap, ◌∙◌, subst}
use mathlib.Core.Bool.{Bool, true, false, ◌||◌}
use mathlib.Core.Option.{Option, none, some}
use mathlib.Core.Logic.{◌⊎◌, inl, inr}
use mathlib.Core.List.{List, [], ◌∷◌}
use lib.Dec.{eqb, ltb}
use lib.ListN.{length, get_or, replicate}
use borrow.Author.Tests.{eqb-true, eqb-false, ltb-true}
use Rattle.tokens.specs.Tokens.{Toks}
use Rattle.tokens.proofs.Bools.{both, true_false}
use Rattle.meaning.specs.Bounds.{signals_most, tables_most, depth_most}
use Rattle.meaning.specs.Timing.{Wave, Tables}
use Rattle.meaning.specs.Body.{Assigns, Args, mark, choosing, macro, procedure, Body, marked, arg_of}
use Rattle.meaning.specs.Run.{State, Played, unassigned, next, puts, changed, cycle_at, follow, again, bare, entering}
use Rattle.meaning.specs.Statements.{Env}
use Rattle.words.specs.declared.Cursor.{Cursor}
use Rattle.meaning.specs.Meaning.{has_wave, all_waves, table_at, playable, first_failing}
use Rattle.meaning.proofs.Turns.{sound_parts}
use Rattle.meaning.proofs.Rows.{puts_table, puts_long}
use Rattle.walks.specs.Turns.{lost_all}
use Rattle.walks.proofs.Shifts.{puts_args}
use Rattle.measures.specs.Uses.{Given}
use lib.Seq.{length-take-le}
use Rattle.pins.specs.Shown.{table_of, values_length, Shows, vector}
use Rattle.plays.specs.Plays.{Ground, Arrays, nest_of, Fits, Invoking}
use Rattle.pins.proofs.Puts.{shown, puts_pin}
use Rattle.sums.specs.Sums.{ok_at}
use Rattle.sums.proofs.Cycles.{passes}
use Rattle.memos.specs.Tracks.{is_marked, assigned_mark, shown_marks, Granted, Like, Lands, Tracked}
use Rattle.memos.proofs.Marking.{zero_marked, joins_same, shown_put, shown_kept, shown_under}
use Rattle.memos.proofs.Tracking.{tracked_then, tracked_silent}

-- ---- a cycle that can be played shows what can be shown

waves_each : (ws : List Wave) (s : ℕ) (cs : List ℕ) → all_waves s cs ws ≡ true → (j : ℕ) → j < length cs → (eqb (get_or cs j 0) unassigned || has_wave (s + j) (get_or cs j 0) ws) ≡ true
unfolding all_waves
waves_each ws s [] h j l = absurd (omega arith)
waves_each ws s (c ∷ cs) h zero l = rw add-zero (both (eqb c unassigned || has_wave s c ws) (all_waves (suc s) cs ws) h).0
waves_each ws s (c ∷ cs) h (suc j) l =
    let r = waves_each ws (suc s) cs (both (eqb c unassigned || has_wave s c ws) (all_waves (suc s) cs ws) h).1 j (omega arith) in rw (add-suc, ← suc-add) r

passed_waves : (tabs : Tables) (p : ℕ) (s : State) (k : ℕ) → s.table ≡ some k → (w : Bool) → all_waves 0 s.pins (table_at tabs k) ≡ w → first_failing tabs (cycle_at p s ∷ []) ≡ none → w ≡ true
unfolding first_failing playable cycle_at
passed_waves tabs p s k e true q h = refl
passed_waves tabs p s k e false q h = let z : some p ≡ none = rw (e, first_failing, q) at h in let w : ◌≡◌ {A = ℕ} 0 1 = cc in absurd (omega arith)

-- it has a table
passed_table : (tabs : Tables) (p : ℕ) (s : State) (t : Option ℕ) → s.table ≡ t → first_failing tabs (cycle_at p s ∷ []) ≡ none → (k : ℕ) × (s.table ≡ some k)
unfolding first_failing playable cycle_at
passed_table tabs p s none e h = let z : some p ≡ none = rw (e, first_failing) at h in let w : ◌≡◌ {A = ℕ} 0 1 = cc in absurd (omega arith)
passed_table tabs p s (some k) e h = (k, e)

-- and each signal's character a waveform in it
passed_each : (tabs : Tables) (p : ℕ) (s : State) (k : ℕ) → s.table ≡ some k → first_failing tabs (cycle_at p s ∷ []) ≡ none → (i : ℕ) → i < length s.pins
    → (eqb (get_or s.pins i 0) unassigned || has_wave i (get_or s.pins i 0) (table_at tabs k)) ≡ true
passed_each tabs p s k e h i l = rw zero-add at (waves_each (table_at tabs k) 0 s.pins (passed_waves tabs p s k e _ refl h) i l)

pub table_below : (t k : ℕ) → table_of t ≡ some k → (t ≡ k) × (k < tables_most)
unfolding table_of
table_below t k e = by (ltb t tables_most) refl
  where
    by : (w : Bool) → ltb t tables_most ≡ w → (t ≡ k) × (k < tables_most)
    by true q = let z : some t ≡ some k = rw (q, table_of) at e in let same : t ≡ k = cc in (same, omega (arith, ltb-true t tables_most q))
    by false q = let z : none ≡ some k = rw (q, table_of) at e in let w : ◌≡◌ {A = ℕ} 0 1 = cc in absurd (omega arith)

pub pins_wide : {text : List ℕ} {n : ℕ} {values : List ℕ} {table : ℕ} {feeds : List ℕ} {level : ℕ} {s : State} → Shows text n values table feeds level s → n ≤ length values
    → length s.pins ≡ n
pins_wide {n = n} {values = values} h long = ap length h.pins_are ∙ length-take-le n values long

pub pins_roomy : {text : List ℕ} {n : ℕ} {values : List ℕ} {table : ℕ} {feeds : List ℕ} {level : ℕ} {s : State} → Shows text n values table feeds level s → n ≤ signals_most
    → length values ≡ values_length → length s.pins ≡ n
pins_roomy h few long = pins_wide h (omega arith)

pub as_long : {a b c : ℕ} → a ≡ b → c ≤ b → c ≤ a
as_long e h = omega arith

-- ---- how deep a body stands in the nest of Loops and uses

pub nest_fits : (more : ℕ) → nest_of more ≤ depth_most
nest_fits more = omega arith

pub nest_less : {more : ℕ} → 0 < more → nest_of more < depth_most
nest_less h = omega arith

-- one in it stands one deeper
pub nest_next : {more : ℕ} → 0 < more → more ≤ depth_most → nest_of (more - 1) ≡ nest_of more + 1
nest_next h l = omega arith

pub nest_some : (around : ℕ) {within : ℕ} → within ≡ around + 1 → 0 < within
nest_some around e = omega arith

pub nest_deep : {more : ℕ} (level : ℕ) {args : Args} {b : Body} → Fits more (level + 1) args b → 0 < nest_of more
nest_deep level f = omega (arith, f.levels)

pub invoked_next : {g : Ground} {c : Cursor} {i t more level table : ℕ} {given : List ℕ} {x : Arrays} {E : Env} {b : Body} {us : Toks} {a : Args} {s : State}
    → Invoking g c i t more level table given x E b us a s → nest_of (more - 1) ≡ nest_of more + 1
invoked_next v = nest_next v.some_more (omega (arith, v.fits.levels, v.some_more))

pub few_below : {n j : ℕ} → n ≤ signals_most → j < n → j < signals_most
few_below h l = omega arith

pub roomy_values : {n a b : ℕ} → n ≤ signals_most → a ≡ values_length → b ≡ a → n ≤ b
roomy_values few long same = omega arith

-- ---- assignments

zero_or : (given : List ℕ) (i : ℕ) → (get_or given i 0 ≡ 0) ⊎ (get_or given i 0 ≡ 0 → ⊥)
zero_or given i = by (eqb (get_or given i 0) 0) refl
  where
    by : (w : Bool) → eqb (get_or given i 0) 0 ≡ w → (get_or given i 0 ≡ 0) ⊎ (get_or given i 0 ≡ 0 → ⊥)
    by true e = inl (eqb-true (get_or given i 0) 0 e)
    by false e = inr (eqb-false (get_or given i 0) 0 e)

-- what is given doesn't depend on what stood there
shown_other : (c x y : ℕ) (l : List ℕ) → (c ≡ 0 → ⊥) → shown c x l ≡ shown c y l
shown_other c x y l h = by (eqb c unassigned) refl
  where
    k : ℕ
    k = elim (eqb c mark) [ true ↦ next l | false ↦ c ]

    by : (w : Bool) → eqb c unassigned ≡ w → ◌≡◌ {A = ℕ} (elim w [ true ↦ x | false ↦ k ]) (elim w [ true ↦ y | false ↦ k ])
    by true q = absurd (h (eqb-true c 0 q))
    by false q = refl

-- what they mark under a table
abbrev pub given_marks : List ℕ → ℕ → ℕ → ℕ
given_marks given table i = shown_marks (get_or given i 0) table

module _ {n : ℕ} {a : Assigns} {given : List ℕ} (gave : Given a given) (few : n ≤ signals_most) where
  -- a signal's pin behind them
  put_pin : (z : State) → length z.pins ≡ n → (i : ℕ) → i < n → get_or (puts a z).pins i 0 ≡ shown (get_or given i 0) (get_or z.pins i 0) (arg_of i z.args)
  put_pin z w i l =
      puts_pin i a z gave.once gave.gave.real (omega arith) ∙ ap (λ (c : ℕ). shown c (get_or z.pins i 0) (arg_of i z.args)) (sym (gave.gave.each i (omega arith)))

  pin_left : (z : State) → length z.pins ≡ n → (i : ℕ) → i < n → get_or given i 0 ≡ 0 → get_or (puts a z).pins i 0 ≡ get_or z.pins i 0
  pin_left z w i l e = put_pin z w i l ∙ ap (λ (c : ℕ). shown c (get_or z.pins i 0) (arg_of i z.args)) e

  pin_given : (s z : State) → length s.pins ≡ n → length z.pins ≡ n → z.args ≡ s.args → (i : ℕ) → i < n → (get_or given i 0 ≡ 0 → ⊥) → get_or (puts a z).pins i 0 ≡ get_or (puts a s).pins i 0
  pin_given s z v w e i l h =
      put_pin z w i l ∙ shown_other (get_or given i 0) (get_or z.pins i 0) (get_or s.pins i 0) (arg_of i z.args) h
      ∙ ap (λ (b : Args). shown (get_or given i 0) (get_or s.pins i 0) (arg_of i b)) e ∙ sym (put_pin s v i l)

  module _ {tabs : Tables} where
    puts_land : {s z : State} (table : ℕ) → length s.pins ≡ n → Like tabs n (given_marks given table) s z → Lands n (given_marks given table) z (puts a s) (puts a z)
    puts_land {s} {z} table wide q = record {
      wide = puts_long a z ∙ q.wide;
      table_same = puts_table a z ∙ q.table_same ∙ sym (puts_table a s);
      args_same = puts_args a z ∙ ap (lost_all 1 (marked a)) q.args_same ∙ sym (puts_args a s);
      put = λ i l e. put_by i l e (zero_or given i);
      kept = λ i l e. kept_by i l e (zero_or given i);
    }
      where
        put_by : (i : ℕ) → i < n → is_marked (given_marks given table i) assigned_mark ≡ true → (get_or given i 0 ≡ 0) ⊎ (get_or given i 0 ≡ 0 → ⊥) → get_or (puts a z).pins i 0 ≡ get_or (puts a s).pins i 0
        put_by i l e (inl g) = true_false e (shown_kept (get_or given i 0) table g)
        put_by i l e (inr g) = pin_given s z wide q.wide q.args_same i l g

        kept_by : (i : ℕ) → i < n → is_marked (given_marks given table i) assigned_mark ≡ false → (get_or given i 0 ≡ 0) ⊎ (get_or given i 0 ≡ 0 → ⊥) → get_or (puts a z).pins i 0 ≡ get_or z.pins i 0
        kept_by i l e (inl g) = pin_left z q.wide i l g
        kept_by i l e (inr g) = true_false (shown_put (get_or given i 0) table g) e

    -- C
    pub assigns_tracked : {s : State} (table : ℕ) → length s.pins ≡ n → Tracked tabs n (given_marks given table) s (λ z. (puts a z, []))
    unfolding first_failing
    assigns_tracked table wide = record { each = λ z q. (refl, puts_land table wide q) }

    -- V
    module _ {s : State} (table p : ℕ) (wide : length s.pins ≡ n) (chosen : s.table ≡ table_of table) (sound : first_failing tabs (vector p a s).1 ≡ none) where
      vector_sound : (z : State) → Like tabs n (given_marks given table) s z → first_failing tabs (vector p a z).1 ≡ none
      unfolding ok_at
      vector_sound z q =
          let t = passed_table tabs p (puts a s) _ refl sound in
          let k = t.0 in
          let there : (puts a z).table ≡ some k = puts_table a z ∙ q.table_same ∙ sym (puts_table a s) ∙ t.1 in
          let is : table_of table ≡ some k = sym chosen ∙ sym (puts_table a s) ∙ t.1 in
          passes tabs p (puts a z) k there λ i l.
          let below : i < n = omega (arith, puts_long a z, q.wide) in
          rw there (by k t.1 (table_below table k is) i below (zero_or given i) (q.pins_are i below))
        where
          same : (k : ℕ) → (puts a s).table ≡ some k → (i : ℕ) → i < n → get_or (puts a z).pins i 0 ≡ get_or (puts a s).pins i 0
              → (eqb (get_or (puts a z).pins i 0) unassigned || has_wave i (get_or (puts a z).pins i 0) (table_at tabs k)) ≡ true
          same k e i l h = rw h (passed_each tabs p (puts a s) k e sound i (omega (arith, puts_long a s)))

          by : (k : ℕ) → (puts a s).table ≡ some k → (table ≡ k) × (k < tables_most) → (i : ℕ) → i < n → (get_or given i 0 ≡ 0) ⊎ (get_or given i 0 ≡ 0 → ⊥)
              → (get_or z.pins i 0 ≡ get_or s.pins i 0) ⊎ Granted tabs (given_marks given table i) i (get_or z.pins i 0)
              → (eqb (get_or (puts a z).pins i 0) unassigned || has_wave i (get_or (puts a z).pins i 0) (table_at tabs k)) ≡ true
          by k e d i l (inr g) o = same k e i l (pin_given s z wide q.wide q.args_same i l g)
          by k e d i l (inl g) (inl o) = same k e i l (pin_left z q.wide i l g ∙ o ∙ sym (pin_left s wide i l g))
          by k e d i l (inl g) (inr o) = rw (pin_left z q.wide i l g) (o.each k d.1 (subst (λ (x : ℕ). is_marked (given_marks given table i) x ≡ true) d.0 (shown_under (get_or given i 0) table g (omega arith))))

      pub vector_tracked : Tracked tabs n (given_marks given table) s (vector p a)
      vector_tracked = record { each = λ z q. (vector_sound z q, puts_land table wide q) }

    pub turns_tracked : (t p table : ℕ) (s : State) → length s.pins ≡ n → s.table ≡ table_of table → first_failing tabs (again (suc t) (vector p a) s).1 ≡ none
        → Tracked tabs n (given_marks given table) s (again (suc t) (vector p a))
    unfolding again follow
    turns_tracked zero p table s wide chosen sound =
        tracked_silent (vector_tracked table p wide chosen (sound_parts tabs (vector p a s).1 [] sound).0)
    turns_tracked (suc t) p table s wide chosen sound =
        let b = sound_parts tabs (vector p a s).1 (again (suc t) (vector p a) (puts a s)).1 sound in
        let first = vector_tracked table p wide chosen b.0 in
        tracked_then wide first (turns_tracked t p table (puts a s) (puts_long a s ∙ wide) (puts_table a s ∙ chosen) b.1) λ i l. joins_same _ _ refl

-- W
pub chosen_tracked : {tabs : Tables} {n : ℕ} (k : ℕ) {s : State} → Tracked tabs n (λ i. 0) s (λ z. (changed (choosing k) z, []))
unfolding first_failing changed
chosen_tracked k = record {
  each = λ z q. (
    refl,
    record {
      wide = q.wide;
      table_same = refl;
      args_same = q.args_same;
      put = λ i l e. true_false e (zero_marked assigned_mark (omega arith));
      kept = λ i l e. refl;
    },
  );
}

-- ---- a body that is entered

entered_same : (tabs : Tables) (a : Args) (f : State → Played) (s z : State) → z.table ≡ s.table → length z.pins ≡ length s.pins
    → first_failing tabs (f (record { pins = bare s.pins; table = s.table; args = a })).1 ≡ none
    → first_failing tabs (f (record { pins = bare z.pins; table = z.table; args = a })).1 ≡ none
unfolding bare
entered_same tabs a f s z e same h =
    subst (λ (k : ℕ). first_failing tabs (f (record { pins = replicate k unassigned; table = z.table; args = a })).1 ≡ none) (sym same)
    (subst (λ (k : Option ℕ). first_failing tabs (f (record { pins = replicate (length s.pins) unassigned; table = k; args = a })).1 ≡ none) (sym e) h)

module _ {tabs : Tables} {n : ℕ} {m : ℕ → ℕ} {s : State} (a : Args) (f : State → Played) where
  pub macro_tracked : Tracked tabs n m (record { pins = s.pins; table = s.table; args = a }) f → Tracked tabs n m s (entering macro a f)
  unfolding entering
  macro_tracked x = record {
    each = λ z q. (
        let r = x.each (record { pins = z.pins; table = z.table; args = a }) (record { wide = q.wide; table_same = q.table_same; args_same = refl; pins_are = q.pins_are }) in
        (r.0, record { wide = r.1.wide; table_same = r.1.table_same; args_same = q.args_same; put = r.1.put; kept = r.1.kept }));
  }

  -- a procedure begins with every signal unassigned, whatever stood there
  pub procedure_tracked : length s.pins ≡ n → ((i : ℕ) → i < n → m i ≡ 0) → first_failing tabs (entering procedure a f s).1 ≡ none → Tracked tabs n m s (entering procedure a f)
  unfolding entering
  procedure_tracked wide unmarked sound = record {
    each = λ z q. (
        let same : length z.pins ≡ length s.pins = q.wide ∙ sym wide in (
          entered_same tabs a f s z q.table_same same sound,
          record {
            wide = q.wide;
            table_same = q.table_same;
            args_same = q.args_same;
            put = λ i l e. true_false e (ap (λ (k : ℕ). is_marked k assigned_mark) (unmarked i l) ∙ zero_marked assigned_mark (omega arith));
            kept = λ i l e. refl;
          },
        ));
  }
