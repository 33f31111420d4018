-- One statement of a body that is held: what going through it tells, and the rest of the body behind it.
use Prim.Native.Nat.{ℕ, ◌<◌, ◌≤◌}
use native.Mathlib.Omega.{arith}
use mathlib.Core.Path.{◌≡◌, refl, sym, ◌∙◌}
use mathlib.Core.Bool.{true, false}
use mathlib.Core.List.{List, [], ◌∷◌}
use lib.Dec.{ltb}
use borrow.Author.Tests.{lt-ltb}
use Rattle.tokens.specs.Tokens.{Toks, left}
use Rattle.meaning.specs.Body.{Assigns, assigning, choosing, Body, vec}
use Rattle.meaning.specs.Run.{State, Cycle, visits, puts, changed, cycle_at, play}
use Rattle.meaning.specs.Statements.{Env, ends, vecs, sets}
use Rattle.held.specs.Held.{free_head, Holds}
use Rattle.words.specs.Cursor.{alive, stream}
use Rattle.words.specs.declared.Cursor.{Cursor}
use Rattle.timing.specs.Makes.{Makes}
use Rattle.measures.specs.Uses.{Given}
use Rattle.heads.specs.declared.What.{What}
use Rattle.heads.specs.declared.What.TheVariants.{Ends, Vector, Assigns as AssignsOnly, Chooses}
use Rattle.heads.specs.Heads.{Tells as HeadTells}
use Rattle.pins.specs.Shown.{table_of, Playable}
use Rattle.plays.specs.Plays.{Ground, Holding, Fits, Arrays, Showing, Standing}
use Rattle.plays.proofs.Supply.{same_puts, same_changed}
use Rattle.plays.proofs.Fitting.{fits_behind_vec, fits_behind_set}
use Rattle.plays.proofs.Heading.{met_split, met_fine, met_less}
use Rattle.plays.proofs.Stepping.{vec_playable, set_playable, meets}
use Rattle.rows.specs.declared.Walk.{Walk}
use Rattle.rows.specs.Went.{over, Going, spent, Went, Cycled}
use Rattle.rows.proofs.Going.{went_spent}
use Rattle.steps.specs.declared.Walked.{Walked}
use Rattle.steps.specs.Walks.{Ready, Parted, Steps}
use Rattle.steps.proofs.Parting.{went_none, part_vec, part_set, pays_first}

-- ---- from the first statement to the rest

module _ {g : Ground} {ts : Toks} {more level t : ℕ} {y : Arrays} {E : Env} {us : Toks} {b : Body} {s : State} {w : Walk} {before after : List ℕ} {r : Walked} where
  -- behind the first statement of b, which is d, `rest` is held
  pub steps_on : {d : Body} {first : List Cycle} {cost : ℕ} {rest : Body} {state : State} → b ≡ d → Parted t d s w.pass first cost rest state → Holding g E
      → Fits more level state.args rest → r.ends ≡ false → Went g.signals first cost w r.walk before after
      → (over r.walk ≡ false → Showing g level r.table y state)
      → (over r.walk ≡ false → (alive r.cursor ≡ true) × Holds E (stream g.text r.cursor) rest us × (left (stream g.text r.cursor) < left ts))
      → Steps g ts more level t y E us b s w before after r
  steps_on {d} {first} {cost} {rest} {state} is parted holding fits more-comes went shows on = record {
    ended = λ q. (let z : true ≡ false = sym q ∙ more-comes in let k : ◌≡◌ {A = ℕ} 0 1 = cc in absurd (omega arith));
    goes = λ q. record {
      first = first;
      cost = cost;
      rest = rest;
      state = state;
      parted = rw is parted;
      went = went;
      on = λ h. (on h).0;
      standing = λ h. record { holding = holding; holds = (on h).1; fits = fits; shows = shows h };
      fewer = λ h. (on h).2;
    };
  }

-- ---- each head without a body in it

module _ {g : Ground} {c r : Cursor} {more level table : ℕ} {x : Arrays} {E : Env} {b : Body} {us : Toks} {s : State} (st : Standing g (stream g.text c) more level table x E b us s)
    (on : alive c ≡ true) (given args : List ℕ) (what : What) (m : Makes g.text c (free_head E) r (HeadTells g.text g.book g.rows given args g.known.tables what)) where
  module _ {t : ℕ} {w : Walk} (ready : Ready E.tables t b s w) where
    -- what it costs can be paid
    pub vector_pays : (p : ℕ) → what ≡ Vector p → w.walking ≡ true → 1 ≤ w.budget
    unfolding HeadTells
    vector_pays p q =
        let i = meets st on given args what m (Vector p) q in
        let d = met_split i (vecs p i.told.0) i.told.1 in
        pays_first (rw d.1 at ready) (part_vec t s w.pass p i.told.0 d.0)

    pub assigns_pays : what ≡ AssignsOnly → w.walking ≡ true → 1 ≤ w.budget
    unfolding HeadTells
    assigns_pays q =
        let i = meets st on given args what m AssignsOnly q in
        let d = met_split i (sets (assigning i.told.0)) i.told.1 in
        pays_first (rw d.1 at ready) (part_set t s w.pass (assigning i.told.0) d.0)

    pub chooses_pays : (n : ℕ) → what ≡ Chooses n → w.walking ≡ true → 1 ≤ w.budget
    unfolding HeadTells
    chooses_pays n q =
        let i = meets st on given args what m (Chooses n) q in
        let d = met_split i (sets (choosing n)) i.told.0 in
        pays_first (rw d.1 at ready) (part_set t s w.pass (choosing n) d.0)

  module _ {y : Arrays} {t : ℕ} {w : Walk} {before : List ℕ} (going : Going g.signals w before) where
    pub ends_step : what ≡ Ends → Showing g level table y s
        → Steps g (stream g.text c) more level t y E us b s w before before (record { cursor = r; table = table; walk = w; ends = true })
    unfolding HeadTells play visits
    ends_step q shown =
        let i = meets st on given args what m Ends q in
        let d = met_split i ends i.told in
        record {
          ended = λ e. rw d.0 (record { tells = record { went = went_none w before going.more; shows = λ h. shown }; behind = λ h. (i.on, d.1) });
          goes = λ e. (let z : ◌≡◌ {A = ℕ} 0 1 = cc in absurd (omega arith));
        }

    pub vector_step : {w' : Walk} {after : List ℕ} (p : ℕ) → what ≡ Vector p
        → ((a : Assigns) (s : State) (table : ℕ) → Given a given → Playable g.signals a s.args → Showing g level table x s → Showing g level table y (puts a s))
        → ((v : Cycle) → Cycled g.signals y.values table v → Went g.signals (v ∷ []) 1 w w' before after)
        → Steps g (stream g.text c) more level t y E us b s w before after (record { cursor = r; table = table; walk = w'; ends = false })
    unfolding HeadTells cycle_at
    vector_step p q put went =
        let i = meets st on given args what m (Vector p) q in
        let a = i.told.0 in
        let d = met_split i (vecs p a) i.told.1 in
        let fits : Fits more level s.args (vec p a d.0) = rw d.1 at st.fits in
        let shown = put a s table i.told.2 (vec_playable (met_fine i (vecs p a) i.told.1) fits) st.shows in
        steps_on d.1 (part_vec t s w.pass p a d.0) st.holding (fits_behind_vec (same_puts a s) fits) refl
        (went (cycle_at p (puts a s)) (record { pins_are = shown.pins_are; table_is = shown.table_is })) (λ h. shown)
        λ h. (i.on, d.2, met_less i)

    pub assigns_step : {w' : Walk} → what ≡ AssignsOnly → (w.walking ≡ true → 1 ≤ w.budget) → w' ≡ spent w 1
        → ((a : Assigns) (s : State) (table : ℕ) → Given a given → Playable g.signals a s.args → Showing g level table x s → Showing g level table y (puts a s))
        → Steps g (stream g.text c) more level t y E us b s w before before (record { cursor = r; table = table; walk = w'; ends = false })
    unfolding HeadTells changed
    assigns_step q pays e put =
        let i = meets st on given args what m AssignsOnly q in
        let a = i.told.0 in
        let d = met_split i (sets (assigning a)) i.told.1 in
        let f = met_fine i (sets (assigning a)) i.told.1 in
        steps_on d.1 (part_set t s w.pass (assigning a) d.0) st.holding (fits_behind_set (same_puts a s) (rw d.1 at st.fits)) refl
        (rw e (went_spent w 1 before going.more pays)) (λ h. put a s table i.told.2 (set_playable f.0 f.1) st.shows)
        λ h. (i.on, d.2, met_less i)

    pub chooses_step : {w' : Walk} (n : ℕ) → what ≡ Chooses n → (w.walking ≡ true → 1 ≤ w.budget) → w' ≡ spent w 1 → Showing g level table y s
        → Steps g (stream g.text c) more level t y E us b s w before before (record { cursor = r; table = n; walk = w'; ends = false })
    unfolding HeadTells changed table_of
    chooses_step n q pays e shown =
        let i = meets st on given args what m (Chooses n) q in
        let d = met_split i (sets (choosing n)) i.told.0 in
        let l : ltb n 8 ≡ true = lt-ltb n 8 (omega (arith, i.told.1, st.holding.describes.few_tables)) in
        steps_on d.1 (part_set t s w.pass (choosing n) d.0) st.holding (fits_behind_set (same_changed (choosing n) s) (rw d.1 at st.fits)) refl
        (rw e (went_spent w 1 before going.more pays)) (λ h. record { pins_are = shown.pins_are; table_is = rw (l, table_of); args_are = shown.args_are })
        λ h. (i.on, d.2, met_less i)
