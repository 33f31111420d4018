-- A statement with a body in it: where it is passed or entered as it stands alone, the rest of the body is held behind it.
use Prim.Native.Nat.{ℕ}
use mathlib.Core.Path.{◌≡◌, refl, sym, ◌∙◌, subst}
use mathlib.Core.Bool.{true, false}
use mathlib.Core.List.{List}
use Rattle.tokens.specs.Tokens.{Toks}
use Rattle.meaning.specs.Timing.{Tables}
use Rattle.meaning.specs.Body.{Args, Kind, Way, looped, shifted, entered, Body, done, vec, inner, supplied}
use Rattle.meaning.specs.Run.{State, turns_of, shift_of, cycles, visits, playing, play}
use Rattle.meaning.specs.Statements.{Env, uses}
use Rattle.meaning.proofs.Turns.{Plain, Good}
use Rattle.held.specs.Held.{free_head}
use Rattle.turns.proofs.Decides.{few_left}
use Rattle.words.specs.Cursor.{alive, stream}
use Rattle.words.specs.declared.Cursor.{Cursor}
use Rattle.timing.specs.Makes.{Makes}
use Rattle.measures.specs.Measures.{Measures}
use Rattle.measures.specs.Book.{measure_at}
use Rattle.heads.specs.declared.What.{What}
use Rattle.heads.specs.declared.What.TheVariants.{Uses as UsesBody}
use Rattle.heads.specs.Heads.{kind_of, Tells as HeadTells}
use Rattle.plays.specs.Plays.{Ground, Holding, Arrays, Standing, Using}
use Rattle.plays.proofs.Supply.{Same, same_play}
use Rattle.plays.proofs.Fitting.{fits_behind_inner}
use Rattle.plays.proofs.Heading.{met_split}
use Rattle.plays.proofs.Stepping.{meets, Inside, Called, one_vector}
use Rattle.rows.specs.declared.Walk.{Walk}
use Rattle.steps.specs.declared.Walked.{Walked}
use Rattle.steps.specs.Walks.{Ready, Tells, Walks, Steps, only, Use}
use Rattle.steps.proofs.Parting.{part_inner, ready_only}
use Rattle.steps.proofs.Stepping.{steps_on}

-- the signals that have an argument stay
same_only : (t : ℕ) (w : Way) (b : Body) → Good (only w b) → (s : State) → Same s (play t (only w b) s).0
same_only t w b good s = subst (λ (u : State). supplied u.args ≡ supplied s.args) (few_left t (only w b) good s 0) (same_play 0 t (only w b) s)

-- ---- Loop and Shift

module _ {g : Ground} {c r : Cursor} {more level : ℕ} {E : Env} {b : Body} {us : Toks} {s : State} where
  module _ {way : Way} (i : Inside g c r more level E b us s way) where
    pub inside_ready : {tabs : Tables} {t : ℕ} {w : Walk} → Ready tabs t b s w → Ready tabs t (only way i.body) s w
    inside_ready h = ready_only (rw i.is at h)

    pub inside_step : {y : Arrays} {t : ℕ} {w : Walk} {before after : List ℕ} {z : Walked} → Holding g E → z.ends ≡ false
        → Walks g level y i.between (play t (only way i.body) s) (visits t (only way i.body) w.pass) w before after z
        → Steps g (stream g.text c) more level t y E us b s w before after z
    unfolding Good
    inside_step {t = t} {w = w} holding more-comes p =
        let good : Good (only way i.body) = (i.fits.good.0, i.fits.good.1, tt) in
        steps_on i.is (part_inner t s w.pass way i.body i.rest) holding (fits_behind_inner (same_only t way i.body good s) i.fits) more-comes
        p.tells.went p.tells.shows
        λ h. let q = p.behind h in (q.0, rw q.1 i.behind, rw q.1 i.less)

  pub loop_plain : {n : ℕ} (i : Inside g c r more level E b us s (looped n)) → Plain i.body
  unfolding Good
  loop_plain i = i.fits.good.0

  module _ (i : Inside g c r more level E b us s shifted) where
    pub shift_ready : {tabs : Tables} {t : ℕ} {w : Walk} → Ready tabs t b s w → Ready tabs t (only shifted (vec (one_vector i).0 (one_vector i).1 done)) s w
    shift_ready h = rw (one_vector i).2 at (inside_ready i h)

    pub shift_step : {y : Arrays} {t : ℕ} {w : Walk} {before after : List ℕ} {z : Walked} → Holding g E → z.ends ≡ false
        → Walks g level y i.between (play t (only shifted (vec (one_vector i).0 (one_vector i).1 done)) s)
        (visits t (only shifted (vec (one_vector i).0 (one_vector i).1 done)) w.pass) w before after z
        → Steps g (stream g.text c) more level t y E us b s w before after z
    shift_step holding more-comes p = inside_step i holding more-comes (rw (one_vector i).2 p)

-- ---- Macro and Call

-- how often the Shift of the caller plays makes no difference
module _ (t u : ℕ) (k : Kind) (a : Args) (b : Body) where
  entered_play : (s : State) → play t (only (entered k u a) b) s ≡ play u (only (entered k u a) b) s
  unfolding play playing shift_of
  entered_play s = refl

  entered_visits : (n : ℕ) → visits t (only (entered k u a) b) n ≡ visits u (only (entered k u a) b) n
  unfolding visits turns_of shift_of
  entered_visits n = refl

  entered_ready : {tabs : Tables} {s : State} {w : Walk} → Ready tabs t (only (entered k u a) b) s w → Ready tabs u (only (entered k u a) b) s w
  unfolding cycles turns_of shift_of
  entered_ready {tabs} {s} {w} h = record { few_cycles = h.few_cycles; small = h.small; sound = rw (entered_play s) at h.sound; pays = rw (entered_visits w.pass) at h.pays }

module _ {g : Ground} {c r : Cursor} {more level : ℕ} {E : Env} {b : Body} {us : Toks} {s : State} {i u : ℕ} {given args : List ℕ}
    (d : Called g c r more level E b us s i u given args) where
  -- the book has the body's measure
  pub called_measured : {table : ℕ} {x : Arrays} {what : What} → Standing g (stream g.text c) more level table x E b us s → alive c ≡ true
      → Makes g.text c (free_head E) r (HeadTells g.text g.book g.rows given args g.known.tables what) → what ≡ UsesBody i u
      → Measures d.body (measure_at g.book i)
  unfolding HeadTells
  called_measured {what = what} st on m q =
      let w = meets st on given args what m (UsesBody i u) q in
      let z = w.told.1 in
      let e = met_split w (uses (kind_of i) z u w.told.2) w.told.3 in
      let is : inner (entered (kind_of i) u d.arguments) d.body d.rest ≡ inner (entered (kind_of i) u w.told.2) z.body e.0 = sym d.is ∙ e.1 in
      let same : d.body ≡ z.body = cc in
      rw same w.told.5.entry.measured

  pub called_use : {table : ℕ} {y : Arrays} {t : ℕ} {w : Walk} → Using g i more level table y E d.body d.after d.arguments s → Measures d.body (measure_at g.book i)
      → Ready E.tables t b s w → Use g i more level table u y E d.body d.after d.arguments s w
  called_use {t = t} used measured h =
      record { use' = used; measured = measured; ready = entered_ready t u (kind_of i) d.arguments d.body (ready_only (rw d.is at h)) }

  pub called_step : {y : Arrays} {t : ℕ} {w : Walk} {before after : List ℕ} (z : Walked) → Holding g E
      → Tells g level y (play u (only (entered (kind_of i) u d.arguments) d.body) s) (visits u (only (entered (kind_of i) u d.arguments) d.body) w.pass) w before after z
      → Steps g (stream g.text c) more level t y E us b s w before after (record { cursor = r; table = z.table; walk = z.walk; ends = false })
  unfolding Good
  called_step {t = t} {w = w} z holding p =
      let way = entered (kind_of i) u d.arguments in
      let good : Good (only way d.body) = (tt, d.fits.good.1, tt) in
      let plays = entered_play t u (kind_of i) d.arguments d.body s in
      steps_on d.is (part_inner t s w.pass way d.body d.rest) holding (fits_behind_inner (same_only t way d.body good s) d.fits) refl
      (rw (plays, entered_visits t u (kind_of i) d.arguments d.body w.pass) p.went) (λ h. rw plays (p.shows h))
      λ h. (d.on, d.behind, d.less)
