-- A body as its first statement and the rest: what each plays and costs. What can be gone through hands that down to both, and going through both is going through all.
use Prim.Native.Nat.{ℕ, ◌+◌, ◌-◌, ◌%◌, ◌≤◌}
use native.Mathlib.Nat.{sub-zero}
use native.Mathlib.Omega.{arith}
use mathlib.Core.Path.{◌≡◌, refl, sym, ap, ◌∙◌, subst}
use mathlib.Core.Bool.{Bool, true, false}
use mathlib.Core.Option.{none}
use mathlib.Core.List.{List, [], ◌∷◌, ◌++◌}
use lib.ListN.{length}
use lib.Dec.{leb}
use borrow.Author.Tests.{le-leb}
use Rattle.tokens.specs.Tokens.{Toks}
use Rattle.tokens.proofs.Bools.{both}
use Rattle.meaning.specs.Timing.{Tables}
use Rattle.meaning.specs.Body.{Assigns, Setting, Way, Body, vec, set', inner}
use Rattle.meaning.specs.Run.{State, Cycle, shift_of, size, cycles, visits, puts, changed, cycle_at, follow, play}
use Rattle.meaning.specs.Meaning.{first_failing}
use Rattle.meaning.proofs.Turns.{sound_parts}
use Rattle.walks.specs.Statement.{played_in, cycles_in}
use Rattle.walks.proofs.Bodies.{length_in}
use Rattle.plays.specs.Plays.{Ground, Arrays}
use Rattle.rows.specs.declared.Walk.{Walk}
use Rattle.rows.specs.Went.{over, spends, Went}
use Rattle.rows.proofs.Going.{went_spent, went_both, went_over}
use Rattle.steps.specs.declared.Walked.{Walked}
use Rattle.steps.specs.Walks.{Ready, Walks, Parted, only}
use Rattle.steps.proofs.Passing.{only_cycles}

-- ---- nothing is gone through

pub spends_none : (k : Bool) → spends k 0 ≡ 0
spends_none true = refl
spends_none false = refl

pub went_none : {signals : ℕ} (w : Walk) (now : List ℕ) → over w ≡ false → Went signals [] 0 w w now now
went_none {signals} w now more =
    let e : w.budget - spends w.walking 0 ≡ w.budget = ap (λ (n : ℕ). w.budget - n) (spends_none w.walking) ∙ sub-zero w.budget in
    subst (λ (n : ℕ). Went signals [] 0 w (record { pass = w.pass; row = w.row; show = w.show; budget = n; walking = w.walking; mark = w.mark }) now now) e
    (went_spent w 0 now more (λ q. omega arith))

-- ---- the parts, by the first statement

module _ (t : ℕ) (s : State) (n : ℕ) where
  pub part_vec : (p : ℕ) (a : Assigns) (r : Body) → Parted t (vec p a r) s n (cycle_at p (puts a s) ∷ []) 1 r (puts a s)
  unfolding play follow cycles size visits
  part_vec p a r = record { cycles_are = refl; left_is = refl; visits_are = by (leb 1 n); rest_few = omega arith; rest_small = omega arith }
    where
      by : (c : Bool) → elim c [ true ↦ 1 + visits t r (n - 1) | false ↦ 1 ] ≡ 1 + spends c (visits t r (n - 1))
      by true = refl
      by false = refl

  pub part_set : (x : Setting) (r : Body) → Parted t (set' x r) s n [] 1 r (changed x s)
  unfolding play cycles size visits
  part_set x r =
      record { cycles_are = refl; left_is = refl; visits_are = rw (le-leb 0 n (omega arith), sub-zero); rest_few = omega arith; rest_small = omega arith }

  module _ (w : Way) (b r : Body) where
    -- what it costs is what it costs alone
    visits_inner : visits t (inner w b r) n ≡ visits t (only w b) n + spends (leb (cycles_in t w b) n) (visits t r (n - cycles_in t w b))
    unfolding visits
    visits_inner = by (leb (cycles_in t w b) n) (visits t r (n - cycles_in t w b)) (visits (shift_of t w) b (n % cycles (shift_of t w) b))
      where
        by : (c : Bool) (behind inside : ℕ)
            → elim c [ true ↦ (1 + size b) + behind | false ↦ (1 + size b) + inside ]
            ≡ elim c [ true ↦ (1 + size b) + 0 | false ↦ (1 + size b) + inside ] + spends c behind
        by true behind inside = omega arith
        by false behind inside = omega arith

    pub part_inner : Parted t (inner w b r) s n (play t (only w b) s).1 (visits t (only w b) n) r (play t (only w b) s).0
    unfolding play follow cycles size
    part_inner =
        let long : length (play t (only w b) s).1 ≡ cycles_in t w b = ap length (only_cycles t w b s) ∙ length_in t w b s in
        record {
          cycles_are = ap (λ (l : List Cycle). l ++ (play t r (played_in t w b s).0).1) (sym (only_cycles t w b s));
          left_is = refl;
          visits_are = rw long visits_inner;
          rest_few = omega arith;
          rest_small = omega arith;
        }

-- ---- what can be gone through

module _ {tabs : Tables} {t : ℕ} {b : Body} {s : State} {w : Walk} (h : Ready tabs t b s w) where
  module _ {first : List Cycle} {cost : ℕ} {rest : Body} {state : State} (p : Parted t b s w.pass first cost rest state) where
    -- the first statement can be paid
    pub pays_first : w.walking ≡ true → cost ≤ w.budget
    pays_first e = omega (arith, h.pays e, p.visits_are)

    sound_both : (first_failing tabs first ≡ none) × (first_failing tabs (play t rest state).1 ≡ none)
    sound_both = sound_parts tabs first (play t rest state).1 (ap (first_failing tabs) (sym p.cycles_are) ∙ h.sound)

    -- the rest can be gone through behind it
    pub ready_rest : {signals : ℕ} {w' : Walk} {x y : List ℕ} → Went signals first cost w w' x y → over w' ≡ false → Ready tabs t rest state w'
    ready_rest {w' = w'} went more = record {
      few_cycles = omega (arith, h.few_cycles, p.rest_few);
      small = omega (arith, h.small, p.rest_small);
      sound = sound_both.1;
      pays = λ e. (
          let still = both w.walking (leb (length first) w.pass) (sym went.walking ∙ e) in
          let all : visits t b w.pass ≡ cost + visits t rest (w.pass - length first) =
          p.visits_are ∙ ap (λ (c : Bool). cost + spends c (visits t rest (w.pass - length first))) still.1 in
          let paid : w.budget ≡ w'.budget + cost = went.spending ∙ ap (λ (c : Bool). w'.budget + spends c cost) still.0 in
          rw (went.pass more) (omega (arith, h.pays still.0)));
    }

-- a statement with a body in it, alone
pub ready_only : {tabs : Tables} {t : ℕ} {way : Way} {b r : Body} {s : State} {w : Walk} → Ready tabs t (inner way b r) s w → Ready tabs t (only way b) s w
unfolding cycles size
ready_only {tabs} {t} {way} {b} {r} {s} {w} h =
    let p = part_inner t s w.pass way b r in
    record {
      few_cycles = omega (arith, h.few_cycles);
      small = omega (arith, h.small);
      sound = (sound_both h p).0;
      pays = pays_first h p;
    }

-- ---- the first statement and then the rest

module _ {g : Ground} {level : ℕ} {y : Arrays} {us : Toks} {t : ℕ} {b : Body} {s : State} {w : Walk} {before after : List ℕ} {first : List Cycle} {cost : ℕ} {rest : Body} {state : State}
    (p : Parted t b s w.pass first cost rest state) where
  -- the rest was gone through too
  pub walks_both : {w' : Walk} {now : List ℕ} {r : Walked} → Went g.signals first cost w w' before now → over w' ≡ false
      → Walks g level y us (play t rest state) (visits t rest w'.pass) w' now after r → Walks g level y us (play t b s) (visits t b w.pass) w before after r
  walks_both {w'} {now} {r} went more k = record {
    tells = record {
      went = rw (p.cycles_are, p.visits_are, ← went.pass more) (went_both went more k.tells.went);
      shows = λ e. rw p.left_is (k.tells.shows e);
    };
    behind = k.behind;
  }

  -- nothing is left to do
  pub walks_over : {r : Walked} → Went g.signals first cost w r.walk before after → over r.walk ≡ true
      → Walks g level y us (play t b s) (visits t b w.pass) w before after r
  walks_over {r} went ended = record {
    tells = record {
      went = rw (p.cycles_are, p.visits_are) (went_over went ended (play t rest state).1 (visits t rest (w.pass - length first)));
      shows = λ e. absurd (never e);
    };
    behind = λ e. absurd (never e);
  }
    where
      never : over r.walk ≡ false → ⊥
      never e = let z : true ≡ false = sym ended ∙ e in let k : ◌≡◌ {A = ℕ} 0 1 = cc in omega arith
