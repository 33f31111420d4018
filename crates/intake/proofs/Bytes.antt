-- One byte: the definition's tables by what is known of the byte, and the changes that stand for them.
use Prim.Native.Nat.{ℕ, ◌+◌, ◌-◌, ◌^◌, ◌≤◌, ◌<◌}
use native.Mathlib.Omega.{arith}
use mathlib.Core.Path.{◌≡◌, refl, sym, ◌∙◌}
use mathlib.Core.Bool.{Bool, true, false, not, ◌&&◌, ◌||◌, and-false}
use mathlib.Core.Logic.{◌⊎◌, inl, inr}
use mathlib.Core.List.{[], ◌∷◌, ◌++◌}
use lib.ListN.{length}
use lib.Dec.{eqb, leb, ltb}
use mir.Val.{bool_byte, Fits}
use mir.Syntax.{w64}
use borrow.Author.Tests.{eq-eqb, ne_eqb, eqb-true, le-leb, lt-leb, lt-ltb, le-ltb, leb-false, ltb-true, ltb-false}
use Rattle.tokens.specs.Written.{cases}
use Rattle.tokens.specs.Bytes.{allowed, blank}
use Rattle.tokens.specs.Refusals.{too_long, bad_byte}
use Rattle.intake.specs.declared.Intake.{Intake}
use Rattle.intake.specs.declared.Change.{Change}
use Rattle.intake.specs.Intake.{raw_most, no_store, is_plain, is_slash, is_line, is_block, is_star, mark_with, waiting, stepped, outside, behind_slash, in_line, in_block, behind_star, step, lacks, refusal_of, last_bytes}
use Rattle.intake.specs.Answers.{only_if, adds_of, step_by, holds_of, last_of}

-- ---- the tables

pub mark_lf : (run b : ℕ) → (eqb b 10 || eqb run 10) ≡ true → 10 ≡ mark_with run b
unfolding mark_with
mark_lf run b e = rw (e, mark_with)

pub mark_space : (run b : ℕ) → (eqb b 10 || eqb run 10) ≡ false → 32 ≡ mark_with run b
unfolding mark_with
mark_space run b e = rw (e, mark_with)

module _ (x : Intake) (b : ℕ) where
  pub outside_slash : b ≡ 47 → outside x b ≡ stepped x [] x.run is_slash x.taken
  unfolding outside cases
  outside_slash e = rw (eq-eqb b 47 e)

  pub outside_blank : (b ≡ 47 → ⊥) → blank b ≡ true → outside x b ≡ stepped x [] (mark_with x.run b) is_plain 0
  unfolding outside cases
  outside_blank e k = rw (ne_eqb b 47 e, k)

  pub outside_kept : (b ≡ 47 → ⊥) → blank b ≡ false → outside x b ≡ stepped x (waiting x.run ++ b ∷ []) 0 is_plain 0
  unfolding outside cases
  outside_kept e k = rw (ne_eqb b 47 e, k)

  pub slash_line : b ≡ 47 → behind_slash x b ≡ stepped x [] (mark_with x.run b) is_line 0
  unfolding behind_slash cases
  slash_line e = rw (eq-eqb b 47 e)

  pub slash_block : b ≡ 42 → behind_slash x b ≡ stepped x [] (mark_with x.run b) is_block x.opening
  unfolding behind_slash cases
  slash_block e = rw (ne_eqb b 47 (λ z. omega arith), eq-eqb b 42 e)

  pub slash_blank : (b ≡ 47 → ⊥) → (b ≡ 42 → ⊥) → blank b ≡ true
      → behind_slash x b ≡ stepped x (waiting x.run ++ 47 ∷ []) (mark_with 0 b) is_plain 0
  unfolding behind_slash cases
  slash_blank e h k = rw (ne_eqb b 47 e, ne_eqb b 42 h, k)

  pub slash_kept : (b ≡ 47 → ⊥) → (b ≡ 42 → ⊥) → blank b ≡ false
      → behind_slash x b ≡ stepped x (waiting x.run ++ 47 ∷ b ∷ []) 0 is_plain 0
  unfolding behind_slash cases
  slash_kept e h k = rw (ne_eqb b 47 e, ne_eqb b 42 h, k)

  pub line_ends : b ≡ 10 → in_line x b ≡ stepped x [] (mark_with x.run b) is_plain 0
  unfolding in_line cases
  line_ends e = rw (eq-eqb b 10 e)

  pub line_goes : (b ≡ 10 → ⊥) → in_line x b ≡ stepped x [] (mark_with x.run b) is_line 0
  unfolding in_line cases
  line_goes e = rw (ne_eqb b 10 e)

  pub block_star : b ≡ 42 → in_block x b ≡ stepped x [] (mark_with x.run b) is_star x.opening
  unfolding in_block cases
  block_star e = rw (eq-eqb b 42 e)

  pub block_goes : (b ≡ 42 → ⊥) → in_block x b ≡ stepped x [] (mark_with x.run b) is_block x.opening
  unfolding in_block cases
  block_goes e = rw (ne_eqb b 42 e)

  pub star_closes : b ≡ 47 → behind_star x b ≡ stepped x [] (mark_with x.run b) is_plain 0
  unfolding behind_star cases
  star_closes e = rw (eq-eqb b 47 e)

  pub star_goes : (b ≡ 47 → ⊥) → behind_star x b ≡ in_block x b
  unfolding behind_star cases
  star_goes e = rw (ne_eqb b 47 e)

  pub step_slash : x.mode ≡ is_slash → step x b ≡ behind_slash x b
  unfolding step cases
  step_slash e = rw (eq-eqb x.mode is_slash e)

  pub step_line : x.mode ≡ is_line → step x b ≡ in_line x b
  unfolding step cases
  step_line e = rw (ne_eqb x.mode is_slash (λ z. omega arith), eq-eqb x.mode is_line e)

  pub step_block : x.mode ≡ is_block → step x b ≡ in_block x b
  unfolding step cases
  step_block e =
      rw (ne_eqb x.mode is_slash (λ z. omega arith), ne_eqb x.mode is_line (λ z. omega arith), eq-eqb x.mode is_block e)

  pub step_star : x.mode ≡ is_star → step x b ≡ behind_star x b
  unfolding step cases
  step_star e =
      rw (
        ne_eqb x.mode is_slash (λ z. omega arith),
        ne_eqb x.mode is_line (λ z. omega arith),
        ne_eqb x.mode is_block (λ z. omega arith),
        eq-eqb x.mode is_star e,
      )

  pub step_outside : (x.mode ≡ is_slash → ⊥) → (x.mode ≡ is_line → ⊥) → (x.mode ≡ is_block → ⊥) → (x.mode ≡ is_star → ⊥)
      → step x b ≡ outside x b
  unfolding step cases
  step_outside e f g h =
      rw (ne_eqb x.mode is_slash e, ne_eqb x.mode is_line f, ne_eqb x.mode is_block g, ne_eqb x.mode is_star h)

-- ---- the changes that stand for them

-- the run's mark, if one waits
marked : (run : ℕ) → only_if (not (eqb run 0)) run ≡ waiting run
unfolding only_if waiting
marked run = by (eqb run 0)
  where
    by : (t : Bool) → only_if (not t) run ≡ elim t [ true ↦ [] | false ↦ run ∷ [] ]
    by true = refl
    by false = refl

module _ (x : Intake) (b : ℕ) where
  -- nothing
  pub holds_step : (run mode opening : ℕ) {c : Change} → c ≡ holds_of run mode opening → step_by x b c ≡ stepped x [] run mode opening
  unfolding step_by adds_of only_if
  holds_step run mode opening e = rw e

  -- the mark, the `/` that waited, the byte itself
  pub kept_step : (run mode opening : ℕ)
      → step_by x b (record { mark = true; slash = false; kept = true; run = run; mode = mode; opening = opening })
      ≡ stepped x (waiting x.run ++ b ∷ []) run mode opening
  unfolding step_by adds_of only_if
  kept_step run mode opening = rw (marked x.run)

  pub slash_only_step : (run mode opening : ℕ)
      → step_by x b (record { mark = true; slash = true; kept = false; run = run; mode = mode; opening = opening })
      ≡ stepped x (waiting x.run ++ 47 ∷ []) run mode opening
  unfolding step_by adds_of only_if
  slash_only_step run mode opening = rw (marked x.run)

  pub slash_kept_step : (run mode opening : ℕ)
      → step_by x b (record { mark = true; slash = true; kept = true; run = run; mode = mode; opening = opening })
      ≡ stepped x (waiting x.run ++ 47 ∷ b ∷ []) run mode opening
  unfolding step_by adds_of only_if
  slash_kept_step run mode opening = rw (marked x.run)

-- what waits at the close
pub last_adds : (x : Intake) {c : Change} → c ≡ last_of (eqb x.mode is_slash) → adds_of x.run 0 c ≡ last_bytes x
unfolding adds_of only_if last_bytes
last_adds x e = rw e (by (eqb x.mode is_slash))
  where
    by : (t : Bool) → only_if (not (eqb x.run 0)) x.run ++ (only_if t 47 ++ []) ≡ waiting x.run ++ elim t [ true ↦ 47 ∷ [] | false ↦ [] ]
    by true = rw (marked x.run)
    by false = rw (marked x.run)

-- how many bytes go to the store
pub counted : (s t u : Bool) (a b c : ℕ) → bool_byte s + bool_byte t + bool_byte u ≡ length (only_if s a ++ (only_if t b ++ only_if u c))
unfolding only_if
counted true true true a b c = refl
counted true true false a b c = refl
counted true false true a b c = refl
counted true false false a b c = refl
counted false true true a b c = refl
counted false true false a b c = refl
counted false false true a b c = refl
counted false false false a b c = refl

small : (t : Bool) → bool_byte t ≤ 1
small true = omega arith
small false = omega arith

pub two_small : (s t : Bool) → bool_byte s + bool_byte t < 2 ^ 64
two_small s t = omega (arith, small s, small t)

pub three_small : (s t u : Bool) → bool_byte s + bool_byte t + bool_byte u < 2 ^ 64
three_small s t u = omega (arith, small s, small t, small u)

pub counted_adds : (run b : ℕ) (c : Change) → bool_byte (c.mark && not (eqb run 0)) + bool_byte c.slash + bool_byte c.kept ≡ length (adds_of run b c)
unfolding adds_of
counted_adds run b c = counted (c.mark && not (eqb run 0)) c.slash c.kept run 47 b

-- ---- room

module _ (room stored n : ℕ) where
  pub lacks_none : n ≡ 0 → lacks room stored n ≡ false
  unfolding lacks
  lacks_none e = rw (eq-eqb n 0 e)

  pub lacks_over : (n ≡ 0 → ⊥) → room < stored → lacks room stored n ≡ true
  unfolding lacks
  lacks_over e h = rw (ne_eqb n 0 e, lt-ltb room (stored + n) (omega arith))

  pub lacks_by : (n ≡ 0 → ⊥) → stored ≤ room → ltb (room - stored) n ≡ lacks room stored n
  unfolding lacks
  lacks_by e h = rw (ne_eqb n 0 e) (by (ltb room (stored + n)) refl)
    where
      by : (t : Bool) → ltb room (stored + n) ≡ t → ltb (room - stored) n ≡ ltb room (stored + n)
      by true k = lt-ltb (room - stored) n (omega (arith, ltb-true room (stored + n) k)) ∙ sym k
      by false k = le-ltb (room - stored) n (omega (arith, ltb-false room (stored + n) k)) ∙ sym k

  pub lacks_not : stored + n ≤ room → lacks room stored n ≡ false
  unfolding lacks
  lacks_not h = rw (le-ltb room (stored + n) h, and-false)

  -- where it is not lacking, nothing is added or all of it fits
  pub lacks_fits : lacks room stored n ≡ false → (n ≡ 0) ⊎ (stored + n ≤ room)
  unfolding lacks
  lacks_fits e = by (eqb n 0) refl e
    where
      by : (t : Bool) → eqb n 0 ≡ t → (not t && ltb room (stored + n)) ≡ false → (n ≡ 0) ⊎ (stored + n ≤ room)
      by true k h = inl (eqb-true n 0 k)
      by false k h = inr (ltb-false room (stored + n) h)

-- ---- the refusal

module _ (room : ℕ) (x : Intake) (b n : ℕ) where
  pub refused_long : raw_most ≤ x.taken → refusal_of room x b n ≡ too_long
  unfolding refusal_of cases
  refused_long h = rw (le-leb raw_most x.taken h)

  pub refused_bad : x.taken < raw_most → allowed b ≡ false → refusal_of room x b n ≡ bad_byte
  unfolding refusal_of cases
  refused_bad h e = rw (lt-leb raw_most x.taken h, e)

  pub refused_room : x.taken < raw_most → allowed b ≡ true → lacks room x.stored n ≡ true → refusal_of room x b n ≡ no_store
  unfolding refusal_of cases
  refused_room h e l = rw (lt-leb raw_most x.taken h, e, l)

  pub refused_not : x.taken < raw_most → allowed b ≡ true → lacks room x.stored n ≡ false → refusal_of room x b n ≡ 0
  unfolding refusal_of cases
  refused_not h e l = rw (lt-leb raw_most x.taken h, e, l)

  -- what a byte that is not refused tells
  pub record Free : Type 0 where
    pub short : x.taken < raw_most
    pub good : allowed b ≡ true
    pub roomy : lacks room x.stored n ≡ false

  pub free : refusal_of room x b n ≡ 0 → Free
  unfolding refusal_of cases
  free e = by (leb raw_most x.taken) (allowed b) (lacks room x.stored n) refl refl refl e
    where
      by : (t u v : Bool) → leb raw_most x.taken ≡ t → allowed b ≡ u → lacks room x.stored n ≡ v
          → cases ((t, too_long) ∷ (not u, bad_byte) ∷ (v, no_store) ∷ []) 0 ≡ 0 → Free
      by true u v h k l z = absurd (omega arith)
      by false false v h k l z = absurd (omega arith)
      by false true true h k l z = absurd (omega arith)
      by false true false h k l z = record { short = leb-false raw_most x.taken h; good = k; roomy = l }

-- so its sum fits
pub free_fits : (room : ℕ) (x : Intake) (b n : ℕ) → room < 2 ^ 64 → x.stored < 2 ^ 64 → Free room x b n → Fits w64 (x.stored + n)
free_fits room x b n h k f = by (lacks_fits room x.stored n f.roomy)
  where
    by : (n ≡ 0) ⊎ (x.stored + n ≤ room) → Fits w64 (x.stored + n)
    by (inl z) = record { fits = omega arith }
    by (inr l) = record { fits = omega arith }
