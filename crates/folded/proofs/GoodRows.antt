-- The rows of an accepted text may be written: each has a table of the text, and characters with waveforms there.
use Prim.Native.Nat.{ℕ, zero, suc, ◌+◌, ◌≤◌, ◌<◌}
use native.Mathlib.Nat.{zero-add}
use native.Mathlib.Omega.{arith}
use mathlib.Core.Path.{◌≡◌, refl, sym, ap, ap₂, ◌∙◌}
use mathlib.Core.Bool.{Bool, true, false, ◌&&◌, ◌||◌, or-false}
use mathlib.Core.Option.{Option, none, some}
use mathlib.Core.List.{List, [], ◌∷◌, ◌++◌}
use lib.Dec.{eqb}
use lib.ListN.{length}
use borrow.Author.Tests.{eqb-true, ne_eqb}
use Rattle.meaning.specs.Bounds.{loop_most}
use Rattle.meaning.specs.Lists.{has}
use Rattle.meaning.specs.Names.{is_some}
use Rattle.meaning.specs.Timing.{Event, Wave, Table, Tables, wave_char}
use Rattle.meaning.specs.Body.{Assigns, mark}
use Rattle.meaning.specs.Data.{assigned}
use Rattle.meaning.specs.Run.{Cycle, unassigned}
use Rattle.meaning.specs.Meaning.{has_wave, all_waves, table_at, playable, first_failing}
use Rattle.meaning.specs.Services.{wave_of}
use Rattle.meaning.proofs.Rows.{AllWide}
use Rattle.meaning.proofs.Plain.{free_char}
use Rattle.folded.specs.Flat.{Row, table_of, row_of, rows_of, Stretch, Line, chooses, valued, choosing, lines_from}
use Rattle.folded.specs.Layout.{name_at}
use Rattle.folded.proofs.Reading.{AllFit, find_in}
use Rattle.folded.proofs.SourceTiming.{AllSound, TableFits}
use Rattle.folded.proofs.SourceRows.{AllLow}
use Rattle.folded.proofs.Charts.{has_wave_lem, wave_sound, Along, along_at, Known, Knowns, one}
use Rattle.folded.proofs.StatementsBack.{numbered_in, NewValue, GoodLine, GoodLines}
use Rattle.folded.proofs.Sheets.{itself}
use Rattle.folded.proofs.Stretches.{All, Stepping}
use Rattle.folded.proofs.PlayBack.{Clean, Fair, cycle_of, cycles_for}
use Rattle.folded.specs.Same.{placeless}

pub record GoodRow (n : ℕ) (tabs : Tables) (x : Row) : Type 0 where
  pub wide : length x.pins ≡ n
  pub below : x.table < length tabs
  pub waves : all_waves 0 x.pins (table_at tabs x.table) ≡ true

-- ---- the cycles' rows

-- a cycle that can be played shows its row
one_good : (n : ℕ) (tabs : Tables) (at : ℕ) (t : Option ℕ) (pins : List ℕ) → length pins ≡ n → AllLow (length tabs) (record { at = at; table = t; pins = pins } ∷ [])
    → playable tabs (record { at = at; table = t; pins = pins }) ≡ true
    → GoodRow n tabs (row_of (record { at = at; table = t; pins = pins })) × (◌≡◌ {A = Cycle} (record { at = 0; table = t; pins = pins }) (cycle_of (row_of (record { at = at; table = t; pins = pins }))))
unfolding playable row_of table_of cycle_of
one_good n tabs at none pins w l p = absurd (let z : ◌≡◌ {A = ℕ} 0 1 = cc in omega arith)
one_good n tabs at (some k) pins w l p = (record { wide = w; below = l.0; waves = p }, refl)

pub cycles_good : (n : ℕ) (tabs : Tables) (cs : List Cycle) → AllWide n cs → AllLow (length tabs) cs → first_failing tabs cs ≡ none
    → All (GoodRow n tabs) (rows_of cs) × (placeless cs ≡ cycles_for (rows_of cs))
unfolding first_failing rows_of placeless cycles_for
cycles_good n tabs [] w l f = (tt, refl)
cycles_good n tabs (c ∷ cs) w l f = by (playable tabs c) refl f (cycles_good n tabs cs w.1 l.1)
  where
    by : (b : Bool) → playable tabs c ≡ b → ◌≡◌ {A = Option ℕ} (elim b [ true ↦ first_failing tabs cs | false ↦ some c.at ]) none
        → (first_failing tabs cs ≡ none → All (GoodRow n tabs) (rows_of cs) × (placeless cs ≡ cycles_for (rows_of cs)))
        → (GoodRow n tabs (row_of c) × All (GoodRow n tabs) (rows_of cs)) × (◌≡◌ {A = List Cycle} (record { at = 0; table = c.table; pins = c.pins } ∷ placeless cs) (cycle_of (row_of c) ∷ cycles_for (rows_of cs)))
    by true p f ih =
        let r = ih f in
        let o = one_good n tabs c.at c.table c.pins w.0 (l.0, tt) p in
        ((o.0, r.0), ap₂ (λ (a : Cycle) (b : List Cycle). a ∷ b) o.1 r.1)
    by false p f ih = absurd (let z : ◌≡◌ {A = ℕ} 0 1 = cc in omega arith)

-- ---- characters

-- a character that has a waveform is one
wave_char_lem : (n s c : ℕ) (ws : List Wave) → AllSound n ws → has_wave s c ws ≡ true → wave_char c ≡ true
unfolding is_some
wave_char_lem n s c ws g h = by (wave_of s c ws) refl
  where
    by : (o : Option (List Event)) → wave_of s c ws ≡ o → wave_char c ≡ true
    by none e = let z : false ≡ true = sym (has_wave_lem s c ws ∙ rw e) ∙ h in absurd (let y : ◌≡◌ {A = ℕ} 0 1 = cc in omega arith)
    by (some es) e = (wave_sound n s c ws g es e).1

-- of one pin: unassigned, or with a waveform; and the pins behind it
pin_cases : (s c : ℕ) (cs : List ℕ) (ws : List Wave) → all_waves s (c ∷ cs) ws ≡ true → ((eqb c unassigned ≡ false → has_wave s c ws ≡ true) × (all_waves (suc s) cs ws ≡ true))
unfolding all_waves
pin_cases s c cs ws h = by (eqb c unassigned) (has_wave s c ws) (all_waves (suc s) cs ws) h
  where
    by : (a b d : Bool) → ((a || b) && d) ≡ true → (a ≡ false → b ≡ true) × (d ≡ true)
    by true b d h = (λ e. absurd (let z : ◌≡◌ {A = ℕ} 0 1 = cc in omega arith), h)
    by false true d h = (λ e. refl, h)
    by false false d h = absurd (let z : ◌≡◌ {A = ℕ} 0 1 = cc in omega arith)

clean_pins : (n s : ℕ) (pins : List ℕ) (ws : List Wave) → AllSound n ws → all_waves s pins ws ≡ true → Clean pins
clean_pins n s [] ws g h = tt
clean_pins n s (c ∷ pins) ws g h =
    let p = pin_cases s c pins ws h in
    (by (eqb c unassigned) refl p.0, clean_pins n (suc s) pins ws g p.1)
  where
    by : (b : Bool) → eqb c unassigned ≡ b → (eqb c unassigned ≡ false → has_wave s c ws ≡ true) → eqb c mark ≡ false
    by true e k = ap (λ (x : ℕ). eqb x mark) (eqb-true c unassigned e)
    by false e k = free_char c (wave_char_lem n s c ws g (k e))

-- all tables of a text
abbrev pub SoundTables : ℕ → Tables → Type 0
SoundTables n [] = Unit {0}
SoundTables n (x ∷ xs) = AllSound n x.1.waves × SoundTables n xs

pub tables_sound : (n : ℕ) (before tabs : Tables) → AllFit (TableFits n) before tabs → SoundTables n tabs
tables_sound n before [] f = tt
tables_sound n before (x ∷ tabs) f = (f.0.sound, tables_sound n (before ++ x ∷ []) tabs f.1)

pub table_sound : (n : ℕ) (tabs : Tables) (k : ℕ) → SoundTables n tabs → AllSound n (table_at tabs k)
unfolding table_at
table_sound n [] k g = tt
table_sound n (x ∷ tabs) zero g = g.0
table_sound n (x ∷ tabs) (suc k) g = table_sound n tabs k g.1

pub rows_fair : (n : ℕ) (tabs : Tables) → SoundTables n tabs → (xs : List Row) → All (GoodRow n tabs) xs → All (Fair n) xs
rows_fair n tabs g [] h = tt
rows_fair n tabs g (x ∷ xs) h =
    (record { wide = h.0.wide; clean = clean_pins n 0 x.pins (table_at tabs x.table) (table_sound n tabs x.table g) h.0.waves }, rows_fair n tabs g xs h.1)

-- ---- statements

has_assigned : (x s c : ℕ) (before : Assigns) → has x (assigned (before ++ (s, c) ∷ [])) ≡ (has x (assigned before) || eqb s x)
unfolding has assigned
has_assigned x s c [] = or-false (eqb s x)
has_assigned x s c (y ∷ before) = rw (has_assigned x s c before) (by (eqb y.0 x))
  where
    by : (b : Bool) → (b || (has x (assigned before) || eqb s x)) ≡ ((b || has x (assigned before)) || eqb s x)
    by true = refl
    by false = refl

assigned_more : (s c : ℕ) (before : Assigns) → ((x : ℕ) → s ≤ x → has x (assigned before) ≡ false) → (x : ℕ) → suc s ≤ x → has x (assigned (before ++ (s, c) ∷ [])) ≡ false
assigned_more s c before b x q = has_assigned x s c before ∙ rw (b x (omega arith), ne_eqb s x (λ e. omega arith))

module _ (signals tables : List (List ℕ)) (names : List (List ℕ × List ℕ)) (sheets : List (List ℕ × Table)) (n : ℕ)
    (known : Knowns names 0 signals) (many : length signals ≡ n) (table-known : Along (Known (numbered_in 0 sheets) itself) 0 tables) where
  values_new : (s : ℕ) (pins : List ℕ) (before : Assigns) (ws : List Wave) → AllSound n ws → all_waves s pins ws ≡ true → s + length pins ≤ n
      → ((x : ℕ) → s ≤ x → has x (assigned before) ≡ false) → AllFit (NewValue signals tables names sheets) before (valued s pins)
  unfolding valued
  values_new s [] before ws g h l b = tt
  values_new s (c ∷ pins) before ws g h l b =
      let p = pin_cases s c pins ws h in
      by (eqb c unassigned) refl p.0 (λ before b. values_new (suc s) pins before ws g p.1 (omega arith) b)
    where
      by : (d : Bool) → eqb c unassigned ≡ d → (eqb c unassigned ≡ false → has_wave s c ws ≡ true)
          → ((before : Assigns) → ((x : ℕ) → suc s ≤ x → has x (assigned before) ≡ false) → AllFit (NewValue signals tables names sheets) before (valued (suc s) pins))
          → AllFit (NewValue signals tables names sheets) before (elim d as (λ x. Assigns) [ true ↦ valued (suc s) pins | false ↦ (s, c) ∷ valued (suc s) pins ])
      by true e k ih = ih before (λ x q. b x (omega arith))
      by false e k ih =
          let a = along_at (Known names one) 0 signals known s (omega arith) in
          let f : find_in names (name_at signals s) ≡ some (s ∷ []) = a.2 ∙ ap (λ (i : ℕ). some (i ∷ [])) (zero-add s) in
          (record { proper = a.0; is_name_lem = a.1; known = f; free = b s (omega arith); char = wave_char_lem n s c ws g (k e) }, ih (before ++ (s, c) ∷ []) (assigned_more s c before b))

  chosen_good : (before : Option ℕ) (k : ℕ) (ls : List Line) → GoodLine signals tables names sheets (chooses k) → GoodLines signals tables names sheets ls
      → GoodLines signals tables names sheets (choosing before k ls)
  unfolding choosing
  chosen_good none k ls f g = (f, g)
  chosen_good (some j) k ls f g = by (eqb j k)
    where
      by : (b : Bool) → GoodLines signals tables names sheets (elim b as (λ x. List Line) [ true ↦ ls | false ↦ chooses k ∷ ls ])
      by true = g
      by false = (f, g)

  -- a Pattern's statements, of stretches no longer than a Loop may be
  pub lines_good : (tabs : Tables) → SoundTables n tabs → length tabs ≡ length tables → (ys : List Stretch) (before : Option ℕ) (old : List ℕ) → All (λ y. GoodRow n tabs y.0) ys → Stepping old ys
      → All (λ y. y.1 ≤ loop_most) ys → GoodLines signals tables names sheets (lines_from before ys)
  unfolding lines_from Stepping has assigned
  lines_good tabs g many-tables [] before old r h m = tt
  lines_good tabs g many-tables (y ∷ ys) before old r h m =
      chosen_good before y.0.table _ table_good ((h.0, m.0, values), lines_good tabs g many-tables ys (some y.0.table) y.0.pins r.1 h.2 m.1)
    where
      xs : Assigns
      xs = valued 0 y.0.pins

      values : AllFit (NewValue signals tables names sheets) [] xs
      values = values_new 0 y.0.pins [] (table_at tabs y.0.table) (table_sound n tabs y.0.table g) r.0.waves (omega (arith, r.0.wide)) (λ x q. refl)

      table_good : GoodLine signals tables names sheets (chooses y.0.table)
      table_good =
          let a = along_at (Known (numbered_in 0 sheets) itself) 0 tables table-known y.0.table (omega (arith, r.0.below)) in
          (a.0, a.1, a.2 ∙ ap some (zero-add y.0.table))
