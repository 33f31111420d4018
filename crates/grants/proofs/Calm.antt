-- Where every table has a waveform for each mark, and all that a body assigns is marked, no cycle of it fails once a table is in force.
use Prim.Native.Nat.{ℕ, zero, suc, ◌≤◌, ◌<◌}
use native.Mathlib.Omega.{arith}
use mathlib.Core.Path.{◌≡◌, refl, subst}
use mathlib.Core.Bool.{Bool, true, false, ◌||◌}
use mathlib.Core.Option.{none, some}
use mathlib.Core.List.{List, [], ◌∷◌}
use lib.Dec.{ltb, eqb}
use lib.ListN.{length, get_or, set, replicate, length-set, length-replicate, get_or-replicate, get_or-eq_default}
use lib.Seq.{set_out, get_or-set_same, get_or-set_other}
use borrow.Author.Tests.{ltb-true, ltb-false, eqb-true, eqb-false, eq-eqb}
use Rattle.tokens.proofs.Bools.{or_right}
use Rattle.meaning.specs.Bounds.{signals_most}
use Rattle.meaning.specs.Lists.{has}
use Rattle.meaning.specs.Timing.{Tables}
use Rattle.meaning.specs.Body as body
use Rattle.meaning.specs.Body.{Assigns, Args, Setting, assigning, choosing, Kind, macro, procedure, listed, Way, looped, shifted, entered, Body, done, vec, set', inner, arg_of}
use Rattle.meaning.specs.Run.{unassigned, State, Played, next, behind, taken, put, puts, changed, cycle_at, follow, again, bare, entering, playing, play, shift_of, start}
use Rattle.meaning.specs.Meaning.{has_wave, table_at, first_failing}
use Rattle.timing.specs.Marks.{mark}
use Rattle.noted.specs.Noted.{Gives, Supplies, Sets, Enters, Noted, Fine}
use Rattle.sums.specs.Sums.{ok_at}
use Rattle.sums.proofs.Cycles.{passes}
use Rattle.sums.proofs.Adds.{fails_none}

-- signal i can show c: nothing, or what is marked
abbrev Fit : List ℕ → ℕ → ℕ → Type 0
Fit used i c = (eqb c unassigned || mark used i c) ≡ true

-- a state in which every signal shows such a character, every argument has such ones, and one of the tables is in force
pub record Calm (tables : ℕ) (used : List ℕ) (s : State) : Type 0 where
  pub few : length s.pins ≤ signals_most
  pub pins_fit : (i : ℕ) → Fit used i (get_or s.pins i 0)
  pub args_fit : Supplies used s.args
  pub number : ℕ
  pub chosen : s.table ≡ some number
  pub below : number < tables

-- ---- characters

module _ (used : List ℕ) where
  fit_set : (pins : List ℕ) (j c : ℕ) → ((i : ℕ) → Fit used i (get_or pins i 0)) → Fit used j c → (i : ℕ) → Fit used i (get_or (set pins j c) i 0)
  fit_set pins j c h k i = by (eqb i j) refl
    where
      same : (z : Bool) → ltb j (length pins) ≡ z → Fit used j (get_or (set pins j c) j 0)
      same true q = rw (get_or-set_same pins j c 0 (ltb-true j (length pins) q)) k
      same false q = rw (set_out pins j c (ltb-false j (length pins) q)) (h j)

      by : (z : Bool) → eqb i j ≡ z → Fit used i (get_or (set pins j c) i 0)
      by true e = rw (eqb-true i j e) (same (ltb j (length pins)) refl)
      by false e = rw (get_or-set_other pins j i c 0 (eqb-false i j e)) (h i)

  -- the next one of an argument
  fit_next : (s : ℕ) (l : List ℕ) → ((c : ℕ) → has c l ≡ true → mark used s c ≡ true) → Fit used s (next l)
  unfolding next has
  fit_next s [] h = refl
  fit_next s (c ∷ l) h = or_right (eqb c unassigned) (mark used s c) (h c (rw (eq-eqb c c refl)))

  fit_argument : (s : ℕ) (xs : Args) → Supplies used xs → Fit used s (next (arg_of s xs))
  unfolding Supplies arg_of next
  fit_argument s [] h = refl
  fit_argument s (x ∷ xs) h = by (eqb x.0 s) refl (fit_argument s xs h.1)
    where
      by : (z : Bool) → eqb x.0 s ≡ z → Fit used s (next (arg_of s xs)) → Fit used s (next (elim z [ true ↦ x.1 | false ↦ arg_of s xs ]))
      by true e ih = fit_next s x.1 (subst (λ (n : ℕ). (c : ℕ) → has c x.1 ≡ true → mark used n c ≡ true) (eqb-true x.0 s e) h.0)
      by false e ih = ih

  fewer_has : (c : ℕ) (l : List ℕ) → has c (behind l) ≡ true → has c l ≡ true
  unfolding behind has
  fewer_has c [] h = h
  fewer_has c (x ∷ l) h = or_right (eqb x c) (has c l) h

  supplies_taken : (s : ℕ) (xs : Args) → Supplies used xs → Supplies used (taken s xs)
  unfolding Supplies taken
  supplies_taken s [] h = tt
  supplies_taken s (x ∷ xs) h = by (eqb x.0 s) (supplies_taken s xs h.1)
    where
      by : (z : Bool) → Supplies used (taken s xs) → Supplies used (elim z [ true ↦ (x.0, behind x.1) ∷ xs | false ↦ x ∷ taken s xs ])
      by true ih = (λ c k. h.0 c (fewer_has c x.1 k), h.1)
      by false ih = (h.0, ih)

-- ---- states

module _ {tables : ℕ} {used : List ℕ} where
  put_calm : {s : State} (x : ℕ × ℕ) → (eqb x.1 body.mark ≡ false → mark used x.0 x.1 ≡ true) → Calm tables used s → Calm tables used (put x s)
  unfolding put
  put_calm {s} x g h = by (eqb x.1 body.mark) refl
    where
      by : (z : Bool) → eqb x.1 body.mark ≡ z
          → Calm tables used (elim z [
            | true ↦ record { pins = set s.pins x.0 (next (arg_of x.0 s.args)); table = s.table; args = taken x.0 s.args }
            | false ↦ record { pins = set s.pins x.0 x.1; table = s.table; args = s.args }
          ])
      by true e = record {
        few = rw length-set h.few;
        pins_fit = fit_set used s.pins x.0 _ h.pins_fit (fit_argument used x.0 s.args h.args_fit);
        args_fit = supplies_taken used x.0 s.args h.args_fit;
        number = h.number;
        chosen = h.chosen;
        below = h.below;
      }
      by false e = record {
        few = rw length-set h.few;
        pins_fit = fit_set used s.pins x.0 x.1 h.pins_fit (or_right (eqb x.1 unassigned) _ (g e));
        args_fit = h.args_fit;
        number = h.number;
        chosen = h.chosen;
        below = h.below;
      }

  puts_calm : {s : State} (a : Assigns) → Gives used a → Calm tables used s → Calm tables used (puts a s)
  unfolding Gives puts
  puts_calm {s = s} [] g h = h
  puts_calm {s = s} (x ∷ a) g h = puts_calm {s = put x s} a g.1 (put_calm x g.0 h)

  changed_calm : {s : State} (x : Setting) → Sets tables used x → Calm tables used s → Calm tables used (changed x s)
  unfolding Sets changed
  changed_calm (assigning a) g h = puts_calm a g h
  changed_calm (choosing k) g h = record { few = h.few; pins_fit = h.pins_fit; args_fit = h.args_fit; number = k; chosen = refl; below = g }

-- all signals unassigned
zeros_fit : (used : List ℕ) (n i : ℕ) → Fit used i (get_or (replicate n 0) i 0)
zeros_fit used n i = by (ltb i n) refl
  where
    by : (z : Bool) → ltb i n ≡ z → Fit used i (get_or (replicate n 0) i 0)
    by true e = rw (get_or-replicate {A = ℕ} n i 0 0 (ltb-true i n e))
    by false e = rw (get_or-eq_default {A = ℕ} (replicate n 0) 0 {n = i} (omega (arith, length-replicate {A = ℕ} n 0, ltb-false i n e)))

-- ---- plays

-- no cycle of a play fails, and the state behind it is calm
pub record Going (tabs : Tables) (tables : ℕ) (used : List ℕ) (p : Played) : Type 0 where
  pub sound : first_failing tabs p.1 ≡ none
  pub calm : Calm tables used p.0

module _ (tabs : Tables) (tables : ℕ) (used : List ℕ) (fine : Fine tables used tabs) where
  abbrev pub Goes : (State → Played) → Type 0
  Goes f = (s : State) → Calm tables used s → Going tabs tables used (f s)

  going_then : (x : Played) (f : State → Played) → Going tabs tables used x → Goes f → Going tabs tables used (follow x f)
  unfolding follow
  going_then x f g h = let y = h x.0 g.calm in record { sound = fails_none tabs 0 x f g.sound y.sound; calm = y.calm }

  -- a cycle
  fit_shown : (k i c : ℕ) → k < tables → i < signals_most → Fit used i c → (eqb c unassigned || has_wave i c (table_at tabs k)) ≡ true
  fit_shown k i c h b f = by (eqb c unassigned) f
    where
      by : (z : Bool) → (z || mark used i c) ≡ true → (z || has_wave i c (table_at tabs k)) ≡ true
      by true e = refl
      by false e = fine.each k i c h b e

  cycle_sound : (p : ℕ) (s : State) → Calm tables used s → first_failing tabs (cycle_at p s ∷ []) ≡ none
  unfolding ok_at
  cycle_sound p s h =
      passes tabs p s h.number h.chosen λ i b. rw h.chosen (fit_shown h.number i (get_or s.pins i 0) h.below (omega (arith, h.few)) (h.pins_fit i))

  again_going : (n : ℕ) (f : State → Played) → Goes f → Goes (again n f)
  unfolding again first_failing
  again_going zero f h s c = record { sound = refl; calm = c }
  again_going (suc n) f h s c = going_then (f s) (again n f) (h s c) (again_going n f h)

  entered_going : (k : Kind) (u : ℕ) (a : Args) (f : State → Played) → Enters used (entered k u a) → Goes f → Goes (entering k a f)
  unfolding Enters entering bare
  entered_going macro u a f e h s c =
      let y = h (record { pins = s.pins; table = s.table; args = a })
      (record { few = c.few; pins_fit = c.pins_fit; args_fit = e.1; number = c.number; chosen = c.chosen; below = c.below }) in
      let z = y.calm in
      record {
        sound = y.sound;
        calm = record { few = z.few; pins_fit = z.pins_fit; args_fit = c.args_fit; number = z.number; chosen = z.chosen; below = z.below };
      }
  entered_going procedure u a f e h s c =
      let y = h (record { pins = bare s.pins; table = s.table; args = a })
      (record {
        few = rw (length-replicate {A = ℕ} (length s.pins) 0) c.few;
        pins_fit = zeros_fit used (length s.pins);
        args_fit = e.1;
        number = c.number;
        chosen = c.chosen;
        below = c.below;
      }) in
      record { sound = y.sound; calm = c }
  entered_going listed u a f e h s c = absurd e.0

  way_going : (t : ℕ) (w : Way) (f : State → Played) → Enters used w → Goes f → Goes (playing t w f)
  unfolding playing
  way_going t (looped n) f e h = again_going n f h
  way_going t shifted f e h = again_going t f h
  way_going t (entered k u a) f e h = entered_going k u a f e h

  -- THE LAW
  pub noted_plays : (b : Body) → Noted tables used b → (t : ℕ) → Goes (play t b)
  unfolding Noted play first_failing
  noted_plays done n t s c = record { sound = refl; calm = c }
  noted_plays (vec p a r) n t s c =
      let z = puts_calm a n.0 c in
      going_then (puts a s, cycle_at p (puts a s) ∷ []) (play t r) (record { sound = cycle_sound p (puts a s) z; calm = z }) (noted_plays r n.1 t)
  noted_plays (set' x r) n t s c = noted_plays r n.1 t (changed x s) (changed_calm x n.0 c)
  noted_plays (inner w b r) n t s c =
      going_then (playing t w (play (shift_of t w) b) s) (play t r) (way_going t w (play (shift_of t w) b) n.0 (noted_plays b n.1 (shift_of t w)) s c)
      (noted_plays r n.2 t)

  -- a listed pattern that chooses a table before all else
  pub pattern_plays : (n k : ℕ) (r : Body) → n ≤ signals_most → Noted tables used (set' (choosing k) r) → first_failing tabs (play 0 (set' (choosing k) r) (start n)).1 ≡ none
  unfolding Noted Sets Supplies play changed start
  pattern_plays n k r few x =
      (noted_plays r x.1 0 (record { pins = replicate n unassigned; table = some k; args = [] }) (record {
        few = rw (length-replicate {A = ℕ} n 0) few;
        pins_fit = zeros_fit used n;
        args_fit = tt;
        number = k;
        chosen = refl;
        below = x.0;
      })).sound
