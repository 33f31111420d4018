-- A used body that is passed: its sum is known, and the state grants what that asks. So no cycle of it fails, and what it leaves is known.
use Prim.Native.Nat.{ℕ, ◌+◌, ◌*◌, ◌<◌, ◌≤◌}
use native.Mathlib.Omega.{arith}
use mathlib.Core.Path.{◌≡◌, refl, sym, ap, ◌∙◌}
use mathlib.Core.Bool.{Bool, true, false, ◌||◌}
use mathlib.Core.Option.{Option, none, some}
use mathlib.Core.Logic.{◌⊎◌, inl, inr}
use mathlib.Core.List.{List, [], ◌∷◌, ◌++◌}
use lib.Dec.{leb, ltb}
use lib.ListN.{length, get_or, take, drop, replicate, length-replicate, get_or-replicate}
use lib.Seq.{length-take-le, get_or-take, ext_get_or, drop-length}
use borrow.Author.Tests.{leb-false, ltb-false}
use Rattle.tokens.proofs.Bools.{neither}
use Rattle.meaning.specs.Bounds.{signals_most}
use Rattle.meaning.specs.Timing.{Tables}
use Rattle.meaning.specs.Body.{Args, Body, arg_of}
use Rattle.meaning.specs.Run.{State, unassigned, bare, entering, play}
use Rattle.meaning.specs.Meaning.{first_failing}
use Rattle.meaning.proofs.Turns.{Good}
use Rattle.turns.specs.Few.{play_few}
use Rattle.turns.proofs.Shows.{seen, With}
use Rattle.turns.proofs.Thinned.{thinning}
use Rattle.turns.proofs.Decides.{few_left}
use Rattle.measures.specs.Book.{bodies, first_procedure}
use Rattle.pins.specs.Shown.{table_of, values_length}
use Rattle.sums.specs.Sums.{Shown, before, argument, char, Sum, ok_at, or_table, Asks, Stands, Leaves, due, Sums}
use Rattle.sums.specs.Parts.{Exact, last_of}
use Rattle.sums.proofs.Left.{last_at}
use Rattle.tallies.specs.Rows.{row_size, sum_at, Marked, left_on, Grants, Holds}
use Rattle.memos.specs.Tracks.{is_marked, assigned_mark, Granted as GrantedPin, Like}
use Rattle.memos.proofs.Tracking.{like_same}
use Rattle.plays.proofs.Tracks.{pins_wide, procedure_tracked}
use Rattle.plays.specs.Plays.{Ground, Settles, SumMarks, Passed}
use Rattle.plays.proofs.Summing.{usable, known_sum}
use Rattle.plays.proofs.Entering.{kind_macro, kind_procedure}

-- where no cycle fails, none does with few turns
few_none : (tabs : Tables) (k t : ℕ) (b : Body) → Good b → (s : State) → first_failing tabs (play t b s).1 ≡ none → first_failing tabs (play_few k t b s).1 ≡ none
few_none tabs k t b good s h =
    let x = thinning (length s.pins) tabs b good t s.args in
    let w : With (length s.pins) s.args s = record { args = refl; width = refl } in
    (x.shows_few k).fails s w ∙ x.thins.within (seen tabs s) k (sym (x.shows.fails s w) ∙ h)

-- ---- what it leaves on a signal

left_on_lem : (x : Shown) (i : ℕ) (s s' : State) → Stands x i s s' → arg_of i s'.args ≡ [] → get_or s'.pins i 0 ≡ left_on x (get_or s.pins i 0) (arg_of i s.args)
unfolding Stands left_on
left_on_lem before i s s' e none_left = e
left_on_lem (char c) i s s' e none_left = e
left_on_lem argument i s s' e none_left =
    let all : arg_of i s.args ≡ e.0 ++ e.1 ∷ [] = e.2 ∙ ap (λ (l : List ℕ). e.0 ++ e.1 ∷ l) none_left in
    e.3 ∙ sym (last_at e.0 e.1 0) ∙ ap (λ (l : List ℕ). last_of l 0) (sym all)

-- ---- it was played from the state s

module _ {tabs : Tables} {n t : ℕ} {b : Body} {S : Sum} {left : List ℕ} {s : State} (sums : Sums tabs n t b S) (exact : Exact t b s.args) (wide : length s.pins ≡ n)
    (grants : Grants tabs n S s left) where
  played : (first_failing tabs (play t b s).1 ≡ none) × Leaves n S s (play t b s).0
  played = sums.each s wide (λ i. omega (arith, exact.lengths i)) grants.asks

  module _ (good : Good b) (k : ℕ) where
    passed_none : first_failing tabs (play_few k t b s).1 ≡ none
    passed_none = few_none tabs k t b good s played.0

    passed_table : (play_few k t b s).0.table ≡ or_table S.table s.table
    passed_table = ap (λ (x : State). x.table) (few_left t b good s k) ∙ played.1.table_is

    passed_pins : (values : List ℕ) → n ≤ length values → ((i : ℕ) → i < n → get_or values i 0 ≡ get_or left i 0) → (play_few k t b s).0.pins ≡ take n values
    passed_pins values long here =
        let l = played.1 in
        let m = length-take-le n values long in
        ap (λ (x : State). x.pins) (few_left t b good s k)
        ∙ ext_get_or 0 (play t b s).0.pins (take n values) (l.wide ∙ sym m) λ i j.
        let below : i < n = omega (arith, l.wide) in
        let nothing : arg_of i (play t b s).0.args ≡ [] = sums.used s i ∙ ap (λ (k : ℕ). drop k (arg_of i s.args)) (sym (exact.lengths i)) ∙ drop-length (arg_of i s.args) in
        left_on_lem (S.pin i) i s (play t b s).0 (l.pins_are i below) nothing ∙ sym (grants.pins_are i below) ∙ sym (here i below) ∙ sym (get_or-take n values i 0 below)

-- ---- and would have been from every state like it

left_other : (x : Shown) (c d : ℕ) (l : List ℕ) → (x ≡ before → ⊥) → left_on x c l ≡ left_on x d l
unfolding left_on
left_other before c d l h = absurd (h refl)
left_other (char x) c d l h = refl
left_other argument c d l h = refl

stands_before : (x : Shown) (i : ℕ) (s s' : State) → x ≡ before → Stands x i s s' → get_or s'.pins i 0 ≡ get_or s.pins i 0
unfolding Stands
stands_before x i s s' e h = rw e at h

module _ (table : ℕ) {tabs : Tables} {n t : ℕ} {b : Body} {S : Sum} {m : ℕ → ℕ} {s : State} (sums : Sums tabs n t b S) (exact : Exact t b s.args) (wide : length s.pins ≡ n)
    (table_is : s.table ≡ table_of table) (asks : Asks tabs n S s) (marks : (j : ℕ) → j < n → SumMarks S (table_of table) j (m j)) where
  shown_like : (z : State) → Like tabs n m s z → (i : ℕ) (u : Option ℕ) → i < n → S.under i u ≡ true → ok_at tabs (or_table u z.table) i (get_or z.pins i 0) ≡ true
  unfolding ok_at
  shown_like z q i u l e = rw q.table_same (by (q.pins_are i l) (or_table u s.table) refl (asks.shown i u l e))
    where
      by : (get_or z.pins i 0 ≡ get_or s.pins i 0) ⊎ GrantedPin tabs (m i) i (get_or z.pins i 0) → (k : Option ℕ) → or_table u s.table ≡ k
          → ok_at tabs (or_table u s.table) i (get_or s.pins i 0) ≡ true → ok_at tabs (or_table u s.table) i (get_or z.pins i 0) ≡ true
      by (inl p) k r h = rw p h
      by (inr p) none r h = let w : false ≡ true = rw r at h in let y : ◌≡◌ {A = ℕ} 0 1 = cc in absurd (omega arith)
      by (inr p) (some k) r h = let x = (marks i l).shown u k e (ap (or_table u) (sym table_is) ∙ r) in rw r (p.each k x.0 x.1)

  asks_like : (z : State) → Like tabs n m s z → Asks tabs n S z
  asks_like z q = record {
    good = asks.good;
    tabled = λ e. (let x = asks.tabled e in (x.0, q.table_same ∙ x.1, x.2));
    shown = shown_like z q;
    fed = λ i u l e c h. rw q.table_same (asks.fed i u l e c (rw q.args_same at h));
  }

  played_like : (z : State) → Like tabs n m s z → (first_failing tabs (play t b z).1 ≡ none) × Leaves n S z (play t b z).0
  played_like z q = sums.each z q.wide (λ i. omega (arith, exact.lengths i, ap (λ (a : Args). length (arg_of i a)) q.args_same)) (asks_like z q)

  pin_like : (z : State) → Like tabs n m s z → (i : ℕ) → i < n → get_or (play t b z).0.pins i 0 ≡ left_on (S.pin i) (get_or z.pins i 0) (arg_of i s.args)
  pin_like z q i l =
      let same = ap (arg_of i) q.args_same in
      let nothing : arg_of i (play t b z).0.args ≡ [] =
      sums.used z i ∙ ap (drop (due t b i)) same ∙ ap (λ (k : ℕ). drop k (arg_of i s.args)) (sym (exact.lengths i)) ∙ drop-length (arg_of i s.args) in
      left_on_lem (S.pin i) i z (play t b z).0 ((played_like z q).1.pins_are i l) nothing ∙ ap (left_on (S.pin i) (get_or z.pins i 0)) same

  module _ (good : Good b) (k : ℕ) where
    pin_few : (z : State) → Like tabs n m s z → (i : ℕ) → i < n → get_or (play_few k t b z).0.pins i 0 ≡ left_on (S.pin i) (get_or z.pins i 0) (arg_of i s.args)
    pin_few z q i l = ap (λ (x : State). get_or x.pins i 0) (few_left t b good z k) ∙ pin_like z q i l

    table_few : (z : State) → Like tabs n m s z → (play_few k t b z).0.table ≡ or_table S.table s.table
    table_few z q = ap (λ (x : State). x.table) (few_left t b good z k) ∙ (played_like z q).1.table_is ∙ ap (or_table S.table) q.table_same

    -- all but the arguments, which its caller has back
    pub passed_like : (z : State) → Like tabs n m s z → (first_failing tabs (play_few k t b z).1 ≡ none) × (length (play_few k t b z).0.pins ≡ n)
        × ((play_few k t b z).0.table ≡ (play_few k t b s).0.table)
        × ((i : ℕ) → i < n → is_marked (m i) assigned_mark ≡ true → get_or (play_few k t b z).0.pins i 0 ≡ get_or (play_few k t b s).0.pins i 0)
        × ((i : ℕ) → i < n → is_marked (m i) assigned_mark ≡ false → get_or (play_few k t b z).0.pins i 0 ≡ get_or z.pins i 0)
    unfolding left_on
    passed_like z q = (
      few_none tabs k t b good z (played_like z q).0,
      ap (λ (x : State). length x.pins) (few_left t b good z k) ∙ (played_like z q).1.wide,
      table_few z q ∙ sym (table_few s (like_same wide)),
      λ i l e. pin_few z q i l ∙ left_other (S.pin i) (get_or z.pins i 0) (get_or s.pins i 0) (arg_of i s.args) ((marks i l).put e) ∙ sym (pin_few s (like_same wide) i l),
      λ i l e. pin_few z q i l ∙ ap (λ (x : Shown). left_on x (get_or z.pins i 0) (arg_of i s.args)) ((marks i l).kept e),
    )

-- ---- what is promised of it

-- its mark and its row are there
pub room : (marks sums : List ℕ) (i : ℕ) → (leb (length marks) i || ltb (length sums) (i * row_size + row_size)) ≡ false
    → (i < length marks) × (i * row_size + row_size ≤ length sums)
room marks sums i e =
    let h = neither (leb (length marks) i) (ltb (length sums) (i * row_size + row_size)) e in
    (leb-false (length marks) i h.0, ltb-false (length sums) (i * row_size + row_size) h.1)

zeros_front : (n m : ℕ) → n ≤ m → take {A = ℕ} n (replicate m 0) ≡ replicate n 0
zeros_front n m h =
    let long = length-replicate {A = ℕ} m 0 in
    let l = length-take-le {A = ℕ} n (replicate m 0) (omega arith) in
    ext_get_or {A = ℕ} 0 (take n (replicate m 0)) (replicate n 0) (l ∙ sym (length-replicate {A = ℕ} n 0)) λ i j.
    let below : i < n = omega arith in
    get_or-take {A = ℕ} n (replicate m 0) i 0 below ∙ get_or-replicate {A = ℕ} m i 0 0 (omega arith) ∙ sym (get_or-replicate {A = ℕ} n i 0 0 below)

-- the state that begins with these pins grants what the sum of the body of number i asks
abbrev pub Granted : Ground → (sums : List ℕ) (i table : ℕ) (given args pins left : List ℕ) → Type 0
Granted g sums i table given args pins left =
    (tabs : Tables) (s : State) → Marked g.waves tabs → Holds g.text pins given args g.signals table s → Grants tabs g.signals (sum_at sums i) s left

module _ {g : Ground} {marks sums : List ℕ} {i t table : ℕ} {given args values : List ℕ} where
  module _ (usable-is : usable marks i t ≡ true) (few : g.signals ≤ signals_most) (long : length values ≡ values_length) (there : i * row_size + row_size ≤ length sums) where
    pub passes_macro : {left values' : List ℕ} {k : ℕ} → i < first_procedure → Granted g sums i table given args values left → Settles g.signals left values values'
        → table_of k ≡ or_table (sum_at sums i).table (table_of table) → Passed g marks sums i t table given args values values' k
    unfolding entering
    passes_macro {left} {values'} {k} is-macro granted settles behind = record {
      long = settles.long;
      rows = λ j h. settles.else j (omega arith);
      room = there;
      tracks = λ E b us a s feeds level few_turns_lem m c shows marked. (
          let known = known_sum i t b us c.summed (omega arith) c.holds c.exact usable-is in
          let s' : State = record { pins = s.pins; table = s.table; args = a } in
          let holds : Holds g.text values given args g.signals table s' = record { pins_are = shows.pins_are; table_is = shows.table_is; args_are = c.supplied } in
          let grants = granted E.tables s' (g.text, g.tplaces, g.known.tables, c.held) holds in
          let wide = pins_wide shows (omega arith) in
          rw (kind_macro i is-macro) (record {
            each = λ z q. (
                let r = passed_like table known.0 known.1 wide shows.table_is grants.asks (λ j l. (marked j l).in_place is-macro) c.good few_turns_lem
                (record { pins = z.pins; table = z.table; args = a }) (record { wide = q.wide; table_same = q.table_same; args_same = refl; pins_are = q.pins_are }) in
                (r.0, record { wide = r.1; table_same = r.2; args_same = q.args_same; put = r.3; kept = r.4 }));
          }));
      told = λ E b us a s feeds level few_turns_lem p c shows. (
          let known = known_sum i t b us c.summed (omega arith) c.holds c.exact usable-is in
          let holds : Holds g.text values given args g.signals table (record { pins = s.pins; table = s.table; args = a }) =
          record { pins_are = shows.pins_are; table_is = shows.table_is; args_are = c.supplied } in
          let grants = granted E.tables (record { pins = s.pins; table = s.table; args = a }) (g.text, g.tplaces, g.known.tables, c.held) holds in
          let wide = pins_wide shows (omega arith) in
          rw (kind_macro i is-macro) (record {
            fails = λ q. (let z : ◌≡◌ {A = ℕ} 0 1 = cc in absurd (omega arith));
            sound = λ q. passed_none known.0 known.1 wide grants c.good few_turns_lem;
            shows = λ q. record {
              pins_are = passed_pins known.0 known.1 wide grants c.good few_turns_lem values' (omega (arith, settles.long)) settles.here;
              table_is = passed_table known.0 known.1 wide grants c.good few_turns_lem ∙ ap (or_table (sum_at sums i).table) shows.table_is ∙ sym behind;
              args_are = shows.args_are;
            };
          }));
    }

    -- a procedure begins with every signal unassigned, and what it leaves is the caller's
    pub passes_procedure : {left : List ℕ} → first_procedure ≤ i → i < bodies → Granted g sums i table given args (replicate signals_most 0) left
        → Passed g marks sums i t table given args values values table
    unfolding entering bare
    passes_procedure is-procedure declared granted = record {
      long = refl;
      rows = λ j h. refl;
      room = there;
      tracks = λ E b us a s feeds level few_turns_lem m c shows marked. (
          let known = known_sum i t b us c.summed declared c.holds c.exact usable-is in
          let wide = pins_wide shows (omega arith) in
          let s' : State = record { pins = bare s.pins; table = s.table; args = a } in
          let holds : Holds g.text (replicate signals_most 0) given args g.signals table s' =
          record { pins_are = ap (λ (n : ℕ). replicate n unassigned) wide ∙ sym (zeros_front g.signals signals_most few); table_is = shows.table_is; args_are = c.supplied } in
          let grants = granted E.tables s' (g.text, g.tplaces, g.known.tables, c.held) holds in
          rw (kind_procedure i is-procedure) (procedure_tracked a (play_few few_turns_lem t b) wide (λ j l. (marked j l).comes_back is-procedure)
          (passed_none known.0 known.1 (length-replicate (length s.pins) unassigned ∙ wide) grants c.good few_turns_lem)));
      told = λ E b us a s feeds level few_turns_lem p c shows. (
          let known = known_sum i t b us c.summed declared c.holds c.exact usable-is in
          let wide = pins_wide shows (omega arith) in
          let holds : Holds g.text (replicate signals_most 0) given args g.signals table (record { pins = bare s.pins; table = s.table; args = a }) =
          record { pins_are = ap (λ (n : ℕ). replicate n unassigned) wide ∙ sym (zeros_front g.signals signals_most few); table_is = shows.table_is; args_are = c.supplied } in
          let grants = granted E.tables (record { pins = bare s.pins; table = s.table; args = a }) (g.text, g.tplaces, g.known.tables, c.held) holds in
          rw (kind_procedure i is-procedure) (record {
            fails = λ q. (let z : ◌≡◌ {A = ℕ} 0 1 = cc in absurd (omega arith));
            sound = λ q. passed_none known.0 known.1 (length-replicate (length s.pins) unassigned ∙ wide) grants c.good few_turns_lem;
            shows = λ q. shows;
          }));
    }
