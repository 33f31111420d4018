-- Turns of a V gone on at once: where every `#` has k characters with waveforms ahead, none of k turns fails, and the last of them alone, with the characters of
-- the others passed, leaves what all of them leave.
use Prim.Native.Nat.{ℕ, ◌+◌, ◌*◌, ◌-◌, ◌≤◌, ◌<◌}
use native.Mathlib.Omega.{arith}
use mathlib.Core.Path.{◌≡◌, refl, sym, ap, ◌∙◌, subst}
use mathlib.Core.Bool.{Bool, true, false}
use mathlib.Core.List.{List}
use lib.Dec.{ltb, eqb}
use lib.ListN.{length, get_or, take, drop, length-take, get_or-eq_default}
use lib.Seq.{get_or-take, get_or-drop, drop-drop}
use borrow.Author.Tests.{eq-eqb, eqb-true, eqb-false, ltb-true, ltb-false}
use Rattle.tokens.proofs.Bools.{or_right}
use Rattle.meaning.specs.Bounds.{signals_most, tables_most}
use Rattle.meaning.specs.Body.{Assigns, mark, arg_of, supplied}
use Rattle.meaning.specs.Timing.{Tables}
use Rattle.meaning.specs.Run.{State, unassigned, next, behind, puts, cycle_at, again}
use Rattle.meaning.specs.Meaning.{has_wave, all_waves, table_at, playable}
use Rattle.meaning.proofs.Rows.{puts_table, puts_long}
use Rattle.walks.specs.Turns.{skipped}
use Rattle.walks.proofs.Shifts.{turn_skipped, shift_last, skipped_arg, skipped_supplied}
use Rattle.walks.proofs.Arguments.{behind_one}
use Rattle.timing.specs.Marks.{chars_most}
use Rattle.timing.specs.Held.{Held}
use Rattle.assigns.specs.Given.{char_of}
use Rattle.feeds.specs.declared.Feed.{Feed}
use Rattle.feeds.specs.declared.Fed.{Fed}
use Rattle.feeds.specs.Feeds.{Feeds, Takes, Skips as Passed, Fine}
use Rattle.feeds.proofs.Front.{fine_each}
use Rattle.measures.specs.Uses.{Given}
use Rattle.arguments.proofs.Lists.{inside_each}
use Rattle.pins.specs.Shown.{feed_at, Shows, Playable, Others, Skips, HasMark, Having, Ahead, Advances, vector}
use Rattle.pins.proofs.Puts.{shown, puts_pin, char_marked, char_assigned}
use Rattle.pins.proofs.Search.{fine, waves_all_lem, waves_each, a_table}
use Rattle.pins.proofs.Callers.{table_some, others_none, others_then}

-- ---- how many

-- a row of marks, lent alone
row_mark : (l : List ℕ) (at n c : ℕ) → get_or (take n (drop at l)) c 0 ≡ 1 → (c < n) × (get_or l (at + c) 0 ≡ 1)
row_mark l at n c h = by (ltb c n) refl
  where
    by : (b : Bool) → ltb c n ≡ b → (c < n) × (get_or l (at + c) 0 ≡ 1)
    by true e = let k = ltb-true c n e in (k, sym (get_or-take n (drop at l) c 0 k ∙ get_or-drop at l c 0) ∙ h)
    by false e =
        let k = ltb-false c n e in
        let z : ◌≡◌ {A = ℕ} 0 1 = sym (get_or-eq_default (take n (drop at l)) 0 (omega (arith, length-take n (drop at l)))) ∙ h in
        absurd (omega arith)

pub having_row : {text waves : List ℕ} {f : Feed} {table s most n : ℕ} → Fine text f (take ((table * signals_most + s) * chars_most + chars_most - (table * signals_most + s) * chars_most) (drop ((table * signals_most + s) * chars_most) waves)) most n
    → Having text f waves table s most n
having_row {text} {waves} {f} {table} {s} x =
    let at = (table * signals_most + s) * chars_most in
    record {
      few = x.few;
      each = λ cs y i l. (
          let r = row_mark waves at (at + chars_most - at) _ (fine_each x cs y i l) in
          (omega (arith, r.0), r.1));
    }

-- n characters of the feed f have waveforms, and r is behind them
pub record Far (text : List ℕ) (f : Feed) (waves : List ℕ) (table s most n : ℕ) (r : Feed) : Type 0 where
  pub having : Having text f waves table s most n
  pub skipped : Passed text f n r

pub far_none : {text waves : List ℕ} {f : Feed} {table s most : ℕ} → Far text f waves table s most 0 f
far_none = record { having = record { few = omega arith; each = λ cs g i l. absurd (omega arith) }; skipped = record { left = λ cs g. g } }

-- behind n of them, as many more
pub having_then : {text waves : List ℕ} {f r : Feed} {table s most n k m : ℕ} → Having text f waves table s most n → Passed text f n r → Having text r waves table s m k → n + m ≤ most
    → Having text f waves table s most (n + k)
having_then {text} {waves} {f} {r} {table} {s} {most} {n} {k} a z y l = record { few = omega (arith, y.few); each = λ cs g i h. by cs g i h (ltb i n) refl }
  where
    by : (cs : List ℕ) → Feeds text f cs → (i : ℕ) → i < n + k → (b : Bool) → ltb i n ≡ b → HasMark waves table s (next (drop i cs))
    by cs g i h true e = a.each cs g i (ltb-true i n e)
    by cs g i h false e =
        let o = ltb-false i n e in
        let at : n + (i - n) ≡ i = omega arith in
        subst (HasMark waves table s) (ap next (drop-drop (i - n) n cs ∙ ap (λ (u : ℕ). drop u cs) at)) (y.each _ (z.left cs g) (i - n) (omega arith))

-- one character more, and those of its word
pub far_on : {text waves : List ℕ} {f r r' : Feed} {x : Fed} {table s most n m k : ℕ} → Far text f waves table s most n r → n < most → Takes text r x → HasMark waves table s x.char
    → Having text x.feed waves table s m k → m ≤ most - n - 1 → Passed text x.feed k r' → Far text f waves table s most (n + (1 + k)) r'
far_on {text} {waves} {f} {r} {r'} {x} {table} {s} {most} {n} {m} {k} a h t w y few z = record {
  having = record { few = omega (arith, y.few); each = λ cs g i l. by cs g i l (ltb i n) refl (eqb i n) refl };
  skipped = record {
    left = λ cs g. subst (Feeds text r') (ap (drop k) (behind_one (drop n cs)) ∙ drop-drop k 1 (drop n cs) ∙ drop-drop (1 + k) n cs) (z.left _ (t.left _ (a.skipped.left cs g)));
  };
}
  where
    by : (cs : List ℕ) → Feeds text f cs → (i : ℕ) → i < n + (1 + k) → (b : Bool) → ltb i n ≡ b → (c : Bool) → eqb i n ≡ c → HasMark waves table s (next (drop i cs))
    by cs g i l true e c q = a.having.each cs g i (ltb-true i n e)
    by cs g i l false e true q = subst (HasMark waves table s) (t.char _ (a.skipped.left cs g) ∙ ap (λ (j : ℕ). next (drop j cs)) (sym (eqb-true i n q))) w
    by cs g i l false e false q =
        let o = ltb-false i n e in
        let d = eqb-false i n q in
        let j = i - n - 1 in
        let at : n + (1 + j) ≡ i = omega arith in
        let same : drop j (behind (drop n cs)) ≡ drop i cs =
        ap (drop j) (behind_one (drop n cs)) ∙ drop-drop j 1 (drop n cs) ∙ drop-drop (1 + j) n cs ∙ ap (λ (u : ℕ). drop u cs) at
        in
        subst (HasMark waves table s) (ap next same) (y.each _ (t.left _ (a.skipped.left cs g)) j (omega arith))

-- k turns, as far as the signals from s on tell
pub record Least (text given feeds waves : List ℕ) (level signals table most s k : ℕ) : Type 0 where
  pub few : k ≤ most
  pub each : (j : ℕ) → s ≤ j → j < signals → get_or given j 0 ≡ mark → (cs : List ℕ) → Feeds text (feed_at feeds level j) cs
      → (i : ℕ) → i < k → HasMark waves table j (next (drop i cs))

module _ {text given feeds waves : List ℕ} {level signals table most : ℕ} where
  module _ {s k : ℕ} (x : Least text given feeds waves level signals table most s k) where
    -- the signal before them too
    module _ {s' n : ℕ} (next_one : s ≤ s' + 1) (less : n ≤ k)
        (here : get_or given s' 0 ≡ mark → (cs : List ℕ) → Feeds text (feed_at feeds level s') cs → (i : ℕ) → i < n → HasMark waves table s' (next (drop i cs))) where
      least_next : Least text given feeds waves level signals table most s' n
      least_next = record { few = omega (arith, x.few); each = λ j h b m cs f i l. by j h b m cs f i l (eqb s' j) refl }
        where
          by : (j : ℕ) → s' ≤ j → j < signals → get_or given j 0 ≡ mark → (cs : List ℕ) → Feeds text (feed_at feeds level j) cs → (i : ℕ) → i < n → (z : Bool) → eqb s' j ≡ z
              → HasMark waves table j (next (drop i cs))
          by j h b m cs f i l true e =
              let o = eqb-true s' j e in
              subst (λ (j : ℕ). HasMark waves table j (next (drop i cs))) o (here (rw o m) cs (rw o f) i l)
          by j h b m cs f i l false e = let o = eqb-false s' j e in x.each j (omega arith) b m cs f i (omega arith)

    pub least_fed : {s' n : ℕ} {f : Feed} → s ≤ s' + 1 → f ≡ feed_at feeds level s' → Having text f waves table s' k n
        → Least text given feeds waves level signals table most s' n
    least_fed {s'} {n} b e a =
        least_next b a.few (λ m cs g. a.each cs (subst (λ (v : Feed). Feeds text v cs) (sym e) g))

    pub least_other : {s' : ℕ} → s ≤ s' + 1 → (get_or given s' 0 ≡ mark → ⊥) → Least text given feeds waves level signals table most s' k
    least_other b o = least_next b (omega arith) (λ m. absurd (o m))

    -- no signal is left
    pub least_all : s ≡ 0 → Ahead text given feeds waves level signals table most k
    least_all e = record { few = x.few; each = λ j b m. x.each j (omega arith) b m }
    -- no turn

-- ---- the state behind them

pub playable_skipped : {signals : ℕ} {a : Assigns} (n : ℕ) (s : State) → Playable signals a s.args → Playable signals a (skipped n a s).args
playable_skipped {signals} {a} n s p = record { below = p.below; fed = rw (skipped_supplied n a s) p.fed }

module _ {text given values feeds waves : List ℕ} {level signals table most k : ℕ} (x : Ahead text given feeds waves level signals table most k) where
  pub advances_none : k ≡ 0 → Advances text given values feeds waves level signals table most k values feeds
  unfolding again
  advances_none e =
      record {
        ahead = x;
        others = others_none;
        shows = λ a s table p g u h. subst (λ (n : ℕ). Shows text signals values table feeds level (again n (vector p a) s).0) (sym e) h;
      }

  pub advances_some : {values' feeds' feeds'' : List ℕ} → (k ≡ 0 → ⊥) → Others level values values feeds feeds'' → Skips text given signals level (k - 1) values feeds feeds''
      → Others level values values' feeds'' feeds'
      → ((a : Assigns) (s : State) (table : ℕ) → Given a given → Playable signals a s.args → Shows text signals values table feeds'' level s
      → Shows text signals values' table feeds' level (puts a s))
      → Advances text given values feeds waves level signals table most k values' feeds'
  advances_some {values'} {feeds'} {feeds''} some o w o' put =
      record {
        ahead = x;
        others = others_then o o';
        shows = λ a s table p g u h.
            subst (Shows text signals values' table feeds' level) (sym (shift_last p a k s (omega arith)))
            (put a (skipped (k - 1) a s) table g (playable_skipped (k - 1) s u) (w.shows a s table g u h));
      }

-- ---- and their cycles

-- what is no `#` shows the same again
shown_again : (c old : ℕ) (arg arg' : List ℕ) → eqb c mark ≡ false → shown c (shown c old arg) arg' ≡ shown c old arg
shown_again c old arg arg' m = by (eqb c unassigned) refl
  where
    by : (b : Bool) → eqb c unassigned ≡ b → shown c (shown c old arg) arg' ≡ shown c old arg
    by true e = rw (e, shown) (rw (e, shown))
    by false e = rw (e, shown) (rw m)

module _ {text given : List ℕ} {signals : ℕ} {values : List ℕ} {table : ℕ} {feeds : List ℕ} {level : ℕ} {waves tplaces : List ℕ} {tables : ℕ} {tabs : Tables} {a : Assigns}
    (inside : table < tables_most) (few : signals ≤ signals_most) (d : Held text tplaces waves tables tabs) (g : Given a given) (s : State)
    (u : Playable signals a (puts a s).args) (h : Shows text signals values table feeds level (puts a s))
    (room : signals ≤ length values) (waved : all_waves 0 (puts a s).pins (table_at tabs table) ≡ true) {most k : ℕ} (x : Ahead text given feeds waves level signals table most k) where
  wide : length (puts a s).pins ≡ signals
  wide = ap length h.pins_are ∙ omega (arith, length-take signals values)

  -- a signal of turn i behind this one
  signal : (i : ℕ) → i < k → (j : ℕ) → j < signals → fine j (shown (char_of j a) (get_or (puts a s).pins j 0) (arg_of j (skipped i a (puts a s)).args)) (table_at tabs table) ≡ true
  signal i l j b = by (eqb (char_of j a) mark) refl
    where
      by : (z : Bool) → eqb (char_of j a) mark ≡ z
          → fine j (shown (char_of j a) (get_or (puts a s).pins j 0) (arg_of j (skipped i a (puts a s)).args)) (table_at tabs table) ≡ true
      by true e =
          let m = char_marked j a e in
          let is = eqb-true (char_of j a) mark e in
          let fed = (h.args_are.each j (inside_each _ (supplied (puts a s).args) u.fed j m)).1 in
          let c = next (drop i (arg_of j (puts a s).args)) in
          let has = x.each j b (g.gave.each j (g.below j (char_assigned j a e)) ∙ is) (arg_of j (puts a s).args) fed i l in
          let wave : has_wave j c (table_at tabs table) ≡ true = sym (d.marks table j c inside (omega arith) has.0) ∙ eq-eqb _ _ has.1 in
          let same : shown (char_of j a) (get_or (puts a s).pins j 0) (arg_of j (skipped i a (puts a s)).args) ≡ c =
          ap (λ (y : ℕ). shown y (get_or (puts a s).pins j 0) (arg_of j (skipped i a (puts a s)).args)) is
          ∙ ap next (skipped_arg i a (puts a s) j g.once m) in
          ap (λ (y : ℕ). fine j y (table_at tabs table)) same ∙ or_right (eqb c unassigned) (has_wave j c (table_at tabs table)) wave
      by false e =
          let pin = puts_pin j a s g.once g.gave.real (omega (arith, puts_long a s, wide)) in
          let same = ap (λ (y : ℕ). shown (char_of j a) y (arg_of j (skipped i a (puts a s)).args)) pin
          ∙ shown_again (char_of j a) (get_or s.pins j 0) (arg_of j s.args) (arg_of j (skipped i a (puts a s)).args) e ∙ sym pin in
          ap (λ (y : ℕ). fine j y (table_at tabs table)) same ∙ waves_each (puts a s).pins (table_at tabs table) waved j (omega (arith, wide))

  -- the turn can be played
  pub ahead_playable : (p i : ℕ) → i < k → playable tabs (cycle_at p (puts a (again i (vector p a) (puts a s)).0)) ≡ true
  unfolding skipped
  ahead_playable p i l =
      let v = skipped i a (puts a s) in
      ap (λ (y : State). playable tabs (cycle_at p y)) (turn_skipped p a i (puts a s))
      ∙ a_table tabs p (puts a v) table (puts_table a v ∙ h.table_is ∙ table_some table inside)
      ∙ waves_all_lem (puts a v).pins (table_at tabs table) (λ j b.
      let c : j < signals = omega (arith, puts_long a v, wide) in
      ap (λ (y : ℕ). fine j y (table_at tabs table)) (puts_pin j a v g.once g.gave.real (omega (arith, wide))) ∙ signal i l j c)
