-- What is tracked of one play and of another behind it is tracked of both.
use Prim.Native.Nat.{ℕ, ◌<◌, ◌≤◌}
use native.Mathlib.Omega.{arith}
use mathlib.Core.Path.{◌≡◌, refl, sym, ap, ap₂, ◌∙◌, subst}
use mathlib.Core.Bool.{Bool, true, false}
use mathlib.Core.Option.{none, or_else}
use mathlib.Core.Logic.{◌⊎◌, inl, inr}
use mathlib.Core.List.{List, [], ◌++◌, append_assoc, append-nil}
use lib.ListN.{length, get_or}
use Rattle.tokens.proofs.Bools.{contra, true_false}
use Rattle.meaning.specs.Timing.{Tables}
use Rattle.meaning.specs.Run.{State, Cycle, Played, follow}
use Rattle.meaning.specs.Meaning.{first_failing}
use Rattle.meaning.proofs.Turns.{fails-++}
use Rattle.memos.proofs.Marking.{zero_marked}
use Rattle.memos.specs.Tracks.{is_marked, assigned_mark, Joins, tracks_length, marks_at, Granted, Like, Lands, Tracked, Tracking}

granted_fewer : {tabs : Tables} {a r i c : ℕ} → ((k : ℕ) → k ≤ assigned_mark → is_marked a k ≡ true → is_marked r k ≡ true) → Granted tabs r i c → Granted tabs a i c
granted_fewer h g = record { each = λ k l e. g.each k l (h k (omega arith) e) }

pub follow_none : (x : Played) → follow x (λ z. (z, [])) ≡ x
unfolding follow
follow_none x = ap (λ (l : List Cycle). (x.0, l)) (append-nil x.1)

module _ {tabs : Tables} {n : ℕ} where
  pub like_same : {m : ℕ → ℕ} {s : State} → length s.pins ≡ n → Like tabs n m s s
  like_same w = record { wide = w; table_same = refl; args_same = refl; pins_are = λ i l. inl refl }

  module _ {m : ℕ → ℕ} {s : State} {h : State → Played} (wide : length s.pins ≡ n) (x : Tracked tabs n m s h) where
    -- what was not assigned is as it was
    pub tracked_kept : (i : ℕ) → i < n → is_marked (m i) assigned_mark ≡ false → get_or (h s).0.pins i 0 ≡ get_or s.pins i 0
    tracked_kept i l e = (x.each s (like_same wide)).1.kept i l e

    pub tracked_wide : length (h s).0.pins ≡ n
    tracked_wide = (x.each s (like_same wide)).1.wide

    module _ {m₂ m' : ℕ → ℕ} {f : State → Played} (y : Tracked tabs n m₂ (h s).0 f) (j : (i : ℕ) → i < n → Joins (m i) (m₂ i) (m' i)) where
      first_like : {z : State} → Like tabs n m' s z → Like tabs n m s z
      first_like {z} q = record { wide = q.wide; table_same = q.table_same; args_same = q.args_same; pins_are = λ i l. by i l (q.pins_are i l) }
        where
          by : (i : ℕ) → i < n → (get_or z.pins i 0 ≡ get_or s.pins i 0) ⊎ Granted tabs (m' i) i (get_or z.pins i 0)
              → (get_or z.pins i 0 ≡ get_or s.pins i 0) ⊎ Granted tabs (m i) i (get_or z.pins i 0)
          by i l (inl e) = inl e
          by i l (inr g) = inr (granted_fewer (j i l).kept g)

      second_like : {z : State} → Like tabs n m' s z → Lands n m z (h s).0 (h z).0 → Like tabs n m₂ (h s).0 (h z).0
      second_like {z} q d =
          record { wide = d.wide; table_same = d.table_same; args_same = d.args_same; pins_are = λ i l. by i l (is_marked (m i) assigned_mark) refl (q.pins_are i l) }
        where
          by : (i : ℕ) → i < n → (w : Bool) → is_marked (m i) assigned_mark ≡ w → (get_or z.pins i 0 ≡ get_or s.pins i 0) ⊎ Granted tabs (m' i) i (get_or z.pins i 0)
              → (get_or (h z).0.pins i 0 ≡ get_or (h s).0.pins i 0) ⊎ Granted tabs (m₂ i) i (get_or (h z).0.pins i 0)
          by i l true e p = inl (d.put i l e)
          by i l false e (inl p) = inl (d.kept i l e ∙ p ∙ sym (tracked_kept i l e))
          by i l false e (inr g) = inr (rw (d.kept i l e) (granted_fewer ((j i l).more e) g))

      both_land : {z : State} → Lands n m z (h s).0 (h z).0 → Lands n m₂ (h z).0 (f (h s).0).0 (f (h z).0).0 → Lands n m' z (f (h s).0).0 (f (h z).0).0
      both_land {z} d q = record {
        wide = q.wide;
        table_same = q.table_same;
        args_same = q.args_same;
        put = λ i l e. put_by i l (is_marked (m₂ i) assigned_mark) refl ((j i l).only e);
        kept = λ i l e. (
            let a = contra (is_marked (m i) assigned_mark) (is_marked (m' i) assigned_mark) ((j i l).kept assigned_mark (omega arith)) e in
            let b = contra (is_marked (m₂ i) assigned_mark) (is_marked (m' i) assigned_mark) ((j i l).more a assigned_mark (omega arith)) e in
            q.kept i l b ∙ d.kept i l a);
      }
        where
          put_by : (i : ℕ) → i < n → (w : Bool) → is_marked (m₂ i) assigned_mark ≡ w → (is_marked (m i) assigned_mark ≡ true) ⊎ (is_marked (m₂ i) assigned_mark ≡ true)
              → get_or (f (h z).0).0.pins i 0 ≡ get_or (f (h s).0).0.pins i 0
          put_by i l true e o = q.put i l e
          put_by i l false e (inr o) = true_false o e
          put_by i l false e (inl o) = q.kept i l e ∙ d.put i l o ∙ sym ((y.each (h s).0 (like_same tracked_wide)).1.kept i l e)

      -- THE LAW
      pub tracked_then : Tracked tabs n m' s (λ z. follow (h z) f)
      unfolding follow or_else
      tracked_then = record {
        each = λ z q. (
            let a = x.each z (first_like q) in
            let b = y.each (h z).0 (second_like q a.1) in
            (fails-++ tabs (h z).1 (f (h z).0).1 ∙ ap₂ or_else a.0 b.0, both_land a.1 b.1));
      }

  pub tracked_same : {m : ℕ → ℕ} {s : State} {h f : State → Played} → ((z : State) → h z ≡ f z) → Tracked tabs n m s h → Tracked tabs n m s f
  tracked_same {m} {s} {h} {f} e x = record {
    each = λ z q. subst (λ (p : Played). (first_failing tabs p.1 ≡ none) × Lands n m z (f s).0 p.0) (e z)
        (subst (λ (p : Played). (first_failing tabs (h z).1 ≡ none) × Lands n m z p.0 (h z).0) (e s) (x.each z q));
  }

  -- nothing was played
  pub tracked_none : {m : ℕ → ℕ} {s : State} → ((i : ℕ) → i < n → m i ≡ 0) → Tracked tabs n m s (λ z. (z, []))
  unfolding first_failing
  tracked_none {m} zero = record {
    each = λ z q. (
      refl,
      record {
        wide = q.wide;
        table_same = q.table_same;
        args_same = q.args_same;
        put = λ i l e. true_false e (ap (λ (k : ℕ). is_marked k assigned_mark) (zero i l) ∙ zero_marked assigned_mark (omega arith));
        kept = λ i l e. refl;
      },
    );
  }

  -- nothing more was played
  pub tracked_silent : {m : ℕ → ℕ} {s : State} {h : State → Played} → Tracked tabs n m s h → Tracked tabs n m s (λ z. follow (h z) (λ x. (x, [])))
  tracked_silent {h = h} x = tracked_same (λ z. sym (follow_none (h z))) x

-- ---- along a row of marks

pub follow_assoc : (x : Played) (f g : State → Played) → follow (follow x f) g ≡ follow x (λ y. follow (f y) g)
unfolding follow
follow_assoc x f g = ap (λ (l : List Cycle). ((g (f x.0).0).0, l)) (append_assoc x.1 (f x.0).1 (g (f x.0).0).1)

pub follow_alike : (p : Played) (f g : State → Played) → ((z : State) → f z ≡ g z) → follow p f ≡ follow p g
unfolding follow
follow_alike p f g e = ap (λ (k : Played). (k.0, p.1 ++ k.1)) (e p.0)

module _ {tabs : Tables} {n level : ℕ} {memo memo' : List ℕ} {s : State} where
  -- what is tracked of f alone, joined to what was tracked before it
  pub tracking_joined : {m : ℕ → ℕ} {f : State → Played} → (0 < level → tracks_length ≤ length memo → Tracked tabs n m s f × ((i : ℕ) → i < n → Joins (marks_at memo level i) (m i) (marks_at memo' level i)))
      → Tracking tabs n level memo memo' s f
  tracking_joined {m} {f} y = record {
    on = λ some long s₀ h wide here x. (
        let q = y some long in
        let t : Tracked tabs n m (h s₀).0 f = rw here q.0 in
        tracked_then wide x t q.1);
  }

  pub tracking_then : {memo'' : List ℕ} {f g : State → Played} → Tracking tabs n level memo memo' s f → length memo' ≡ length memo → Tracking tabs n level memo' memo'' (f s).0 g
      → Tracking tabs n level memo memo'' s (λ z. follow (f z) g)
  unfolding follow
  tracking_then {f = f} {g = g} x long y = record {
    on = λ some room s₀ h wide here q. tracked_same (λ z. follow_assoc (h z) f g)
        (y.on some (omega arith) s₀ (λ z. follow (h z) f) wide (ap (λ (z : State). (f z).0) here) (x.on some room s₀ h wide here q));
  }

  pub tracking_same : {f g : State → Played} → ((z : State) → f z ≡ g z) → Tracking tabs n level memo memo' s f → Tracking tabs n level memo memo' s g
  tracking_same {f} {g} e x = record { on = λ some long s₀ h wide here q. tracked_same (λ z. follow_alike (h z) f g e) (x.on some long s₀ h wide here q) }

pub follow_start : (z : State) (f : State → Played) → f z ≡ follow (z, []) f
unfolding follow
follow_start z f = refl

-- nothing was played
pub tracking_none : {tabs : Tables} {n level : ℕ} {memo : List ℕ} {s : State} → Tracking tabs n level memo memo s (λ z. (z, []))
tracking_none = record { on = λ some long s₀ h wide here x. tracked_silent x }

-- a body of which nothing was tracked before
pub tracked_body : {tabs : Tables} {n level : ℕ} {memo memo' : List ℕ} {s : State} {f : State → Played} → length s.pins ≡ n → 0 < level → tracks_length ≤ length memo
    → ((j : ℕ) → j < n → marks_at memo level j ≡ 0) → Tracking tabs n level memo memo' s f → Tracked tabs n (marks_at memo' level) s f
tracked_body {s = s} {f = f} wide some long fresh x = tracked_same (λ z. sym (follow_start z f)) (x.on some long s (λ z. (z, [])) wide refl (tracked_none fresh))
