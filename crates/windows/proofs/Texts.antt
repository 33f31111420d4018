-- From an accepted text to its run, which the budget pays for; and from the run gone through to the window's answer.
use Prim.Native.Nat.{ℕ, ◌+◌, ◌*◌, ◌-◌, ◌<◌, ◌≤◌}
use native.Mathlib.Nat.{zero-add}
use native.Mathlib.Omega.{arith}
use mathlib.Core.Path.{◌≡◌, refl, sym, ap, ap₂, ◌∙◌, subst}
use mathlib.Core.Bool.{true, false}
use mathlib.Core.Option.{none}
use mathlib.Core.List.{List, [], ◌++◌}
use lib.ListN.{length, drop, replicate}
use lib.Dec.{leb}
use borrow.Author.Tests.{leb-true}
use Rattle.tokens.specs.Tokens.{Tok, Toks, toks}
use Rattle.tokens.proofs.Bools.{both}
use Rattle.meaning.specs.Bounds.{signals_most, list_most, size_most, cycles_most}
use Rattle.meaning.specs.Timing.{Tables}
use Rattle.meaning.specs.Run.{size, cycles, play, visits, start, cycles_of}
use Rattle.meaning.specs.Meaning.{Meaning, first_failing, fitting}
use Rattle.meaning.specs.Services.{rows as rows_of, row_width}
use Rattle.meaning.specs.Statements.{Env}
use Rattle.meaning.specs.Document.{Read}
use Rattle.meaning.proofs.Rows.{rows_are_cycles}
use Rattle.meaning.proofs.Accepted.{Accepted, accepted, visits_bounded}
use Rattle.held.specs.Held.{Listed}
use Rattle.held.proofs.Parts.{Parts as PartsOf, parts}
use Rattle.held.proofs.Whole.{Whole, whole, listed_stand}
use Rattle.walks.specs.Seen.{seen}
use Rattle.walks.proofs.Seen.{length_seen}
use Rattle.walks.proofs.Rows.{written_none}
use Rattle.words.specs.Table.{name_of}
use Rattle.signals.proofs.Tables.{names_length}
use Rattle.pins.specs.Shown.{values_length, feeds_length}
use Rattle.heads.specs.declared.Known.{Known}
use Rattle.texts.specs.declared.Parts.{Parts}
use Rattle.texts.proofs.Runs.{list_from, list_cut, list_end}
use Rattle.plays.specs.Plays.{Ground, grounded, Arrays, arrays, Sized}
use Rattle.plays.specs.Run.{ListedAt}
use Rattle.plays.proofs.Running.{opening_long}
use Rattle.plays.proofs.Texts.{listed_at, opening_sized}
use Rattle.rows.specs.declared.Walk.{Walk}
use Rattle.rows.specs.Went.{over, Went}
use Rattle.windows.specs.Run.{entry, WentListed, Accepts, SomeText, Windows}
use Rattle.windows.proofs.Running.{Before, before_all, before_none, Next, before_next, next_ready, next_left, next_over}

-- what is read of a text is what was read of it
read_once : {ts us vs : Toks} {d e : Read} → PartsOf ts d us → PartsOf ts e vs → (d.signals ≡ e.signals) × (d.tables ≡ e.tables)
read_once p q = (cc, cc)

-- the walk at its beginning
abbrev pub outset : (budget first due mark : ℕ) → Walk
outset budget first due mark = record { pass = first; row = 0; show = due; budget = budget; walking = true; mark = mark }

-- ---- an accepted text that the tables hold

module _ {text places lists tplaces waves book rows list : List ℕ} {known : Known} {signals listed patterns sized first due : ℕ} {before : List ℕ} {p : Parts} {d : Read} {m : Meaning}
    (h : Accepts text places lists tplaces waves book rows list known signals listed patterns sized first due before p d m) where
  abbrev all : Ground
  all = grounded text places lists tplaces book rows waves known signals

  abbrev env : Env
  env = h.runs.tabled.parts.env

  is_whole : Whole env h.runs.tabled.parts.names d
  is_whole = whole (toks text 0) d h.runs.tabled.rest h.runs.tabled.parts

  is_accepted : Accepted text m
  is_accepted = accepted text m h.meant

  fits : (size m.run ≤ size_most) × (cycles 0 m.run ≤ cycles_most)
  unfolding fitting
  fits =
      let x = both (leb (size m.run) size_most) (leb (cycles 0 m.run) cycles_most) is_accepted.fits in
      (leb-true (size m.run) size_most x.0, leb-true (cycles 0 m.run) cycles_most x.1)

  -- within the machine's numbers
  pub size_fits : sized ≤ size_most
  size_fits = omega (arith, h.size_is, fits.0)

  pub few_listed : listed ≤ list_most
  few_listed = rw h.runs.listed_is at h.runs.tabled.few_listed

  sound : first_failing env.tables (play 0 m.run (start signals)).1 ≡ none
  unfolding cycles_of
  sound =
      let same = read_once h.runs.tabled.parts ((parts (toks text 0)).all is_accepted.doc is_accepted.rest is_accepted.read) in
      let n : length d.signals ≡ signals = ap length h.runs.tabled.signals_are ∙ names_length text places lists p.signals ∙ h.runs.signals_is in
      ap₂ (λ (tabs : Tables) (n : ℕ). first_failing tabs (play 0 m.run (start n)).1) (is_whole.tables ∙ same.1) (sym n ∙ ap length same.0) ∙ is_accepted.plays

  -- with ten times the run's size to spend, it begins before all patterns
  pub run_begins : {budget mark : ℕ} → 10 * sized ≤ budget
      → Before env.tables signals env d.patterns m.run (list_from text list listed 0) (outset budget first due mark) (outset budget first due mark) before before
  run_begins {budget} {mark} enough =
      let e : listed - 0 ≡ listed = omega arith in
      let l : d.listed ≡ list_from text list listed 0 = h.runs.tabled.listed_are ∙ (rw (h.runs.listed_is, e)) in
      before_all
      (subst (λ (z : List Tok). Listed env d.patterns z m.run) l (listed_stand env d.patterns is_whole.patterns d.listed m.run h.runs.run_is))
      (record { few_cycles = fits.1; small = fits.0; sound = sound; pays = λ e. omega (arith, h.size_is, visits_bounded text m h.meant first) })
      (record { more = refl; reached = λ e. (let z : ◌≡◌ {A = ℕ} 0 1 = cc in absurd (omega arith)); room = rw zero-add h.room })

  -- ---- pattern by pattern

  module _ {k : ℕ} {w₀ w : Walk} {buffer : List ℕ}
      (b : Before env.tables signals env d.patterns m.run (list_from text list listed k) w₀ w before buffer) where
    -- none is left: all was gone through
    pub run_gone : listed ≤ k → Went signals (play 0 m.run (start signals)).1 (visits 0 m.run w₀.pass) w₀ w before buffer
    run_gone q = before_none (rw (list_end text list listed k q) at b)

    module _ (q : k < listed) where
      pub upcoming : Next env.tables signals env d.patterns m.run (name_of text list k) (list_from text list listed (k + 1)) w₀ w before buffer
      upcoming = before_next (rw (list_cut text list listed k q) at b)

      -- the next one
      pub listed_next : ListedAt all list patterns k env d.patterns upcoming.decl
      listed_next = listed_at text places lists tplaces waves book rows list known signals listed patterns h.runs upcoming.found upcoming.stands

      module _ {y : Arrays} {w' : Walk} {after : List ℕ} (r : WentListed all list patterns k y w w' buffer after) where
        went_next : Went signals (play 0 (entry upcoming.decl.body) (start signals)).1 (visits 0 (entry upcoming.decl.body) w.pass) w w' buffer after
        went_next = r.went env d.patterns upcoming.decl listed_next (start signals) (opening_long signals) (next_ready upcoming)

        pub run_left : over w' ≡ false
            → Before env.tables signals env d.patterns m.run (list_from text list listed (k + 1)) w₀ w' before after
        run_left = next_left upcoming went_next

        -- nothing is left to do: all was gone through
        pub run_over : over w' ≡ true → Went signals (play 0 m.run (start signals)).1 (visits 0 m.run w₀.pass) w₀ w' before after
        run_over = next_over upcoming went_next

  -- ---- THE ANSWER

  module _ {budget mark : ℕ} {w : Walk} {buffer : List ℕ}
      (g : Went signals (play 0 m.run (start signals)).1 (visits 0 m.run first) (outset budget first due mark) w before buffer) where
    pub windows_are : Windows signals first due mark before m (budget - w.budget) buffer
    unfolding cycles_of
    windows_are =
        let l = cycles_of signals m.run in
        let count : length (seen first due l) ≡ due = length_seen first due l ∙ omega (arith, rows_are_cycles signals m.run, h.due_there) in
        record {
          visits_are = omega (arith, g.spending);
          rows_are = (g.written before [] refl (written_none mark signals before)).is
              ∙ ap₂ (λ (u k : ℕ). rows_of u (seen first due l) ++ drop (k * row_width signals) before) g.marked count;
        }

-- ---- the loop

module _ (text places lists tplaces waves book rows list : List ℕ) (known : Known) (signals listed patterns sized first due budget mark : ℕ) (before : List ℕ) where
  -- from the listed name of number k on, whatever accepted text the tables hold, its patterns are still to be gone through
  pub record Unseen (k : ℕ) (x : Arrays) (w : Walk) (buffer : List ℕ) : Type 0 where
    pub arrays_sized : Sized (grounded text places lists tplaces book rows waves known signals) 0 x
    pub left : (p : Parts) (d : Read) (m : Meaning) (h : Accepts text places lists tplaces waves book rows list known signals listed patterns sized first due before p d m)
        → Before h.runs.tabled.parts.env.tables signals h.runs.tabled.parts.env d.patterns m.run (list_from text list listed k) (outset budget first due mark) w before buffer

  -- before the first
  pub unseen : SomeText text places lists tplaces waves book rows list known signals listed patterns sized first due before → 10 * sized ≤ budget
      → Unseen 0 (arrays (replicate values_length 0) (replicate feeds_length 0) (replicate (signals_most * 2) 0)) (outset budget first due mark) before
  unseen s enough = record {
    arrays_sized = opening_sized text places lists tplaces waves book rows list known signals listed patterns
        (record { parts = s.parts; read = s.read; body = s.it.run; runs = s.accepts.runs });
    left = λ p d m h. run_begins h enough;
  }
