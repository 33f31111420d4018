-- Going through cycles part by part: what a step spends and passes, one part behind the other, and nothing behind the end.
use mathlib.Core.Path.{◌≡◌, refl, sym, ap, ap₂, ◌∙◌, subst}
use Prim.Native.Nat.{ℕ, ◌+◌, ◌*◌, ◌-◌, ◌≤◌}
use native.Mathlib.Nat.{sub-zero}
use native.Mathlib.Omega.{arith}
use mathlib.Core.Bool.{Bool, true, false, not, ◌&&◌}
use mathlib.Core.List.{List, [], ◌++◌, append_assoc, append-nil}
use lib.Dec.{leb, eqb}
use lib.ListN.{length, length-append}
use borrow.Author.Tests.{le-leb, lt-leb, leb-true, leb-false, eqb-true}
use Rattle.meaning.specs.Run.{Cycle}
use Rattle.meaning.specs.Services.{row_width}
use Rattle.walks.specs.Seen.{seen}
use Rattle.walks.specs.Written.{Written}
use Rattle.walks.proofs.Seen.{length_seen, seen_past, seen-++, seen_behind}
use Rattle.rows.specs.Went.{over, Going, spends, spent, past, Went}
use Rattle.rows.specs.declared.Walk.{Walk}

-- ---- is the cycle looked for still to be reached?

module _ (a b n : ℕ) where
  -- where neither part holds it
  leb_both : (leb a n && leb b (n - a)) ≡ leb (a + b) n
  leb_both = by (leb a n) (leb b (n - a)) refl refl
    where
      by : (c d : Bool) → leb a n ≡ c → leb b (n - a) ≡ d → (c && d) ≡ leb (a + b) n
      by true true e f = sym (le-leb (a + b) n (omega (arith, leb-true a n e, leb-true b (n - a) f)))
      by true false e f = sym (lt-leb (a + b) n (omega (arith, leb-true a n e, leb-false b (n - a) f)))
      by false d e f = sym (lt-leb (a + b) n (omega (arith, leb-false a n e)))

  still_both : (k : Bool) → ((k && leb a n) && leb b (n - a)) ≡ (k && leb (a + b) n)
  still_both true = leb_both
  still_both false = refl

  reached_both : (k : Bool) → (k && leb a n) ≡ false → (k && leb (a + b) n) ≡ false
  reached_both true e = lt-leb (a + b) n (omega (arith, leb-false a n e))
  reached_both false e = refl

still_past : (k : Bool) (a n : ℕ) → a ≤ n → k ≡ (k && leb a n)
still_past true a n h = sym (le-leb a n h)
still_past false a n h = refl

-- behind that cycle none are to be passed
none_to_pass : (k : Bool) (a n : ℕ) → (k ≡ false → n ≡ 0) → (k && leb a n) ≡ false → n - a ≡ 0
none_to_pass true a n h e = omega (arith, leb-false a n e)
none_to_pass false a n h e = omega (arith, h refl)

-- ---- what is spent

module _ (budget v : ℕ) where
  pub spent_all : (k : Bool) → (k ≡ true → v ≤ budget) → budget ≡ (budget - spends k v) + spends k v
  spent_all true h = omega (arith, h refl)
  spent_all false h = omega arith

  spent_both : (k l : Bool) (u m n : ℕ) → budget ≡ m + spends k v → m ≡ n + spends (k && l) u → budget ≡ n + spends k (v + spends l u)
  spent_both true true u m n e f = omega arith
  spent_both true false u m n e f = omega arith
  spent_both false l u m n e f = omega arith

  -- behind that cycle nothing is
  spent_over : (k l : Bool) (u m : ℕ) → budget ≡ m + spends k v → (k && l) ≡ false → budget ≡ m + spends k (v + spends l u)
  spent_over true l u m e f = rw f (omega arith)
  spent_over false l u m e f = omega arith

  spent_into : (k : Bool) (c m : ℕ) → (k ≡ true → c ≤ budget) → budget - spends k c ≡ m + spends k v → budget ≡ m + spends k (c + v)
  spent_into true c m h e = omega (arith, h refl)
  spent_into false c m h e = omega arith

-- ---- the end

over_ended : (w : Walk) → over w ≡ true → (w.walking ≡ false) × (w.show ≡ 0)
over_ended w = by w.walking
  where
    by : (k : Bool) → (not k && eqb w.show 0) ≡ true → (k ≡ false) × (w.show ≡ 0)
    by true e = (sym e, let z : ◌≡◌ {A = ℕ} 0 1 = cc in absurd (omega arith))
    by false e = (refl, eqb-true w.show 0 e)

-- ---- steps that show nothing

module _ {signals : ℕ} where
  -- none of the cycles are seen: they are passed
  pub went_past : (l : List Cycle) (v : ℕ) (w : Walk) (b : List ℕ) → over w ≡ false → (w.walking ≡ true → v ≤ w.budget) → length l ≤ w.pass
      → Went signals l v w (past (spent w v) (length l)) b b
  went_past l v w b going enough h =
      let none = seen_past w.pass w.show l h in
      let few : length (seen w.pass w.show l) ≡ 0 = ap length none in
      record {
        rows = omega arith;
        show = omega arith;
        pass = λ x. refl;
        walking = still_past w.walking (length l) w.pass h;
        spending = spent_all w.budget v w.walking enough;
        marked = refl;
        written = λ entry cs long x. subst (Written w.mark signals entry b) (sym (append-nil cs) ∙ ap (λ (l : List Cycle). cs ++ l) (sym none)) x;
        long = refl;
      }

  pub went_spent : (w : Walk) (v : ℕ) (b : List ℕ) → over w ≡ false → (w.walking ≡ true → v ≤ w.budget) → Went signals [] v w (spent w v) b b
  went_spent w v b going enough =
      subst (λ (n : ℕ). Went signals [] v w (record { pass = n; row = w.row; show = w.show; budget = (spent w v).budget; walking = w.walking; mark = w.mark }) b b)
      (sub-zero w.pass) (went_past [] v w b going enough (omega arith))

  -- ---- one part behind the other

  module _ {a : List Cycle} {v : ℕ} {w w' : Walk} {x y : List ℕ} (p : Went signals a v w w' x y) where
    abbrev shown : List Cycle
    shown = seen w.pass w.show a

    parts : (b : List Cycle) → seen w.pass w.show (a ++ b) ≡ shown ++ seen (w.pass - length a) w'.show b
    parts b = seen-++ w.pass w.show a b ∙ ap (λ (n : ℕ). shown ++ seen (w.pass - length a) n b) (sym p.show)

    pub went_both : {b : List Cycle} {u : ℕ} {w'' : Walk} {z : List ℕ} → over w' ≡ false → Went signals b u w' w'' y z
        → Went signals (a ++ b) (v + spends (leb (length a) w.pass) u) w w'' x z
    went_both {b} {u} {w''} {z} going q =
        let more = seen w'.pass w'.show b in
        let all : seen w.pass w.show (a ++ b) ≡ shown ++ more = parts b ∙ ap (λ (n : ℕ). shown ++ seen n w'.show b) (sym (p.pass going)) in
        let count : length (seen w.pass w.show (a ++ b)) ≡ length shown + length more = ap length all ∙ length-append shown more in
        let still : w''.walking ≡ ((w.walking && leb (length a) w.pass) && leb (length b) (w.pass - length a)) =
        q.walking ∙ ap₂ (λ (k : Bool) (n : ℕ). k && leb (length b) n) p.walking (p.pass going) in
        record {
          rows = omega (arith, p.rows, q.rows);
          show = omega (arith, p.show, q.show);
          pass = λ h. omega (arith, p.pass going, q.pass h, length-append a b);
          walking = still ∙ still_both (length a) (length b) w.pass w.walking ∙ ap (λ (n : ℕ). w.walking && leb n w.pass) (sym (length-append a b));
          spending = spent_both w.budget v w.walking (leb (length a) w.pass) u w'.budget w''.budget p.spending
              (q.spending ∙ ap (λ (k : Bool). w''.budget + spends k u) p.walking);
          marked = q.marked ∙ p.marked;
          written = λ entry cs h k. subst (Written w''.mark signals entry z) (append_assoc cs shown more ∙ ap (λ (l : List Cycle). cs ++ l) (sym all))
              (q.written entry (cs ++ shown) (omega (arith, length-append cs shown, p.rows)) (p.written entry cs h k));
          long = q.long ∙ p.long;
        }

    -- nothing is left to do: the others are not gone through
    pub went_over : over w' ≡ true → (b : List Cycle) (u : ℕ) → Went signals (a ++ b) (v + spends (leb (length a) w.pass) u) w w' x y
    went_over ended b u =
        let done = over_ended w' ended in
        let all : seen w.pass w.show (a ++ b) ≡ shown =
        parts b ∙ ap (λ (n : ℕ). shown ++ seen (w.pass - length a) n b) done.1 ∙ append-nil shown in
        let count : length (seen w.pass w.show (a ++ b)) ≡ length shown = ap length all in
        let reached : (w.walking && leb (length a) w.pass) ≡ false = sym p.walking ∙ done.0 in
        record {
          rows = omega (arith, p.rows);
          show = omega (arith, p.show);
          pass = λ h. let z : ◌≡◌ {A = ℕ} 0 1 = cc in absurd (omega arith);
          walking = done.0 ∙ sym (reached_both (length a) (length b) w.pass w.walking reached)
              ∙ ap (λ (n : ℕ). w.walking && leb n w.pass) (sym (length-append a b));
          spending = spent_over w.budget v w.walking (leb (length a) w.pass) u w'.budget p.spending reached;
          marked = p.marked;
          written = λ entry cs h k. subst (λ (l : List Cycle). Written w'.mark signals entry y (cs ++ l)) (sym all) (p.written entry cs h k);
          long = p.long;
        }

  module _ {w w' : Walk} {x y : List ℕ} where
    -- what it cost to go in
    pub went_into : {l : List Cycle} {v : ℕ} (c : ℕ) → (w.walking ≡ true → c ≤ w.budget) → Went signals l v (spent w c) w' x y → Went signals l (c + v) w w' x y
    went_into {l} {v} c enough p = record {
      rows = p.rows;
      show = p.show;
      pass = p.pass;
      walking = p.walking;
      spending = spent_into w.budget v w.walking c w'.budget enough p.spending;
      marked = p.marked;
      written = p.written;
      long = p.long;
    }

    -- cycles passed before, as the turns of a Loop before the one that is entered
    pub went_from : {b : List Cycle} {v : ℕ} (a : List Cycle) → length a ≤ w.pass → Went signals b v (past w (length a)) w' x y → Went signals (a ++ b) v w w' x y
    went_from {b} {v} a h p =
        let all = seen_behind w.pass w.show a b h in
        let count : length (seen w.pass w.show (a ++ b)) ≡ length (seen (w.pass - length a) w.show b) = ap length all in
        record {
          rows = omega (arith, p.rows);
          show = omega (arith, p.show);
          pass = λ g. omega (arith, p.pass g, length-append a b);
          walking = p.walking ∙ ap (λ (k : Bool). k && leb (length b) (w.pass - length a)) (still_past w.walking (length a) w.pass h)
              ∙ still_both (length a) (length b) w.pass w.walking ∙ ap (λ (n : ℕ). w.walking && leb n w.pass) (sym (length-append a b));
          spending = p.spending;
          marked = p.marked;
          written = λ entry cs g k. subst (λ (l : List Cycle). Written w'.mark signals entry y (cs ++ l)) (sym all) (p.written entry cs g k);
          long = p.long;
        }

  -- ---- there is more to do

  module _ {w : Walk} {b : List ℕ} (g : Going signals w b) where
    pub going_on : {l : List Cycle} {v : ℕ} {w' : Walk} {y : List ℕ} → Went signals l v w w' b y → over w' ≡ false → Going signals w' y
    going_on {l} {w'} {y} p more =
        let count = length_seen w.pass w.show l in
        let due : w'.row + w'.show ≡ w.row + w.show = omega (arith, p.rows, p.show) in
        record {
          more = more;
          reached = λ e. p.pass more ∙ none_to_pass w.walking (length l) w.pass g.reached (sym p.walking ∙ e);
          room = subst (λ (n : ℕ). n * row_width signals ≤ length y) (sym due) (omega (arith, g.room, p.long));
        }

    pub going_spent : (v : ℕ) → Going signals (spent w v) b
    going_spent v = record { more = g.more; reached = g.reached; room = g.room }

    pub going_past : (n : ℕ) → n ≤ w.pass → Going signals (past w n) b
    going_past n h = record { more = g.more; reached = λ e. omega (arith, g.reached e); room = g.room }
