-- A declared body is summed up: its row holds its sum, and its mark says so.
use Prim.Native.Nat.{ℕ, ◌<◌, ◌≤◌}
use native.Mathlib.Omega.{arith}
use mathlib.Core.Path.{◌≡◌, refl, sym, ap, ◌∙◌, subst}
use mathlib.Core.Bool.{Bool, true, false, true≢false}
use mathlib.Core.List.{List}
use lib.Dec.{eqb}
use lib.ListN.{length, get_or, set, length-set}
use lib.Seq.{get_or-set_same, get_or-set_other}
use borrow.Author.Tests.{eq-eqb, eqb-true, eqb-false}
use Rattle.tokens.specs.Tokens.{Toks, toks}
use Rattle.meaning.specs.Lists.{count}
use Rattle.meaning.specs.Body.{Body, done, shifting}
use Rattle.meaning.specs.Statements.{Env}
use Rattle.held.specs.Held.{Holds}
use Rattle.held.proofs.Only.{only}
use Rattle.words.specs.Cursor.{alive, stream, Stands}
use Rattle.words.specs.declared.Cursor.{Cursor}
use Rattle.measures.specs.Measures.{joined}
use Rattle.measures.specs.Uses.{flag}
use Rattle.measures.specs.Book.{bodies, start_at}
use Rattle.plays.specs.Plays.{Ground, SumOf, Summed}
use Rattle.sums.specs.Sums.{Sums}
use Rattle.sums.specs.Parts.{Nothing}
use Rattle.sums.proofs.Statements.{nothing_sums}
use Rattle.tallies.specs.Rows.{sum_at, is_summed, is_shifted, Only}
use Rattle.grants.specs.declared.Tallied.{Tallied}
use Rattle.grants.specs.Grants.{is_begun, Kept, Standing, Sized, Gone, Promised, Declared, BodyStood, Bodied}
use Rattle.grants.proofs.Same.{other_sum}
use Rattle.grants.proofs.Keeping.{kept_then, kept_only, kept_begun, open_begun, kept_body, kept_marked}
use Rattle.grants.proofs.Adding.{sum_of_same}

module _ {g : Ground} {E : Env} (i : ℕ) where
  -- it is marked as v
  module _ (marks sums : List ℕ) (v : ℕ) (within : i < length marks) (one : v ≡ is_summed → SumOf g E sums i 0) (two : v ≡ is_shifted → SumOf g E sums i 1) (u : Summed g marks sums E) where
    pub summed_marked : Summed g (set marks i v) sums E
    summed_marked = record { each = λ j b e. by j b e (eqb j i) refl; shifted_each = λ j b e. by₂ j b e (eqb j i) refl }
      where
        here : (j : ℕ) → j ≡ i → get_or (set marks i v) j 0 ≡ v
        here j z = rw z (get_or-set_same marks i v 0 within)

        by : (j : ℕ) → j < bodies → get_or (set marks i v) j 0 ≡ is_summed → (w : Bool) → eqb j i ≡ w → SumOf g E sums j 0
        by j b e true q = let z = eqb-true j i q in subst (λ (k : ℕ). SumOf g E sums k 0) (sym z) (one (sym (here j z) ∙ e))
        by j b e false q = u.each j b (sym (get_or-set_other marks i j v 0 (eqb-false j i q)) ∙ e)

        by₂ : (j : ℕ) → j < bodies → get_or (set marks i v) j 0 ≡ is_shifted → (w : Bool) → eqb j i ≡ w → SumOf g E sums j 1
        by₂ j b e true q = let z = eqb-true j i q in subst (λ (k : ℕ). SumOf g E sums k 1) (sym z) (two (sym (here j z) ∙ e))
        by₂ j b e false q = u.shifted_each j b (sym (get_or-set_other marks i j v 0 (eqb-false j i q)) ∙ e)

  -- its row is cleared where nothing is known of it
  pub summed_begun : (marks : List ℕ) {sums sums₁ : List ℕ} → i < length marks → Only i sums sums₁ → Summed g marks sums E → Summed g (set marks i is_begun) sums₁ E
  summed_begun marks {sums} {sums₁} within o u = record {
    each = λ j b e. sum_of_same (other_sum o j (apart j is_summed e (λ z. omega arith))) (u.each j b (sym (get_or-set_other marks i j is_begun 0 (apart j is_summed e (λ z. omega arith))) ∙ e));
    shifted_each = λ j b e. sum_of_same (other_sum o j (apart j is_shifted e (λ z. omega arith))) (u.shifted_each j b (sym (get_or-set_other marks i j is_begun 0 (apart j is_shifted e (λ z. omega arith))) ∙ e));
  }
    where
      apart : (j v : ℕ) → get_or (set marks i is_begun) j 0 ≡ v → (is_begun ≡ v → ⊥) → j ≡ i → ⊥
      apart j v e d z = d (sym (get_or-set_same marks i is_begun 0 within) ∙ ap (λ (k : ℕ). get_or (set marks i is_begun) k 0) (sym z) ∙ e)

  -- what was summed up is the body's sum
  module _ {us : Toks} {b : Body} {marks marks₂ sums sums₂ : List ℕ} {x : Tallied} (nothing : (n : ℕ) → Nothing n (sum_at sums i)) (y : Gone g E us i marks marks₂ sums sums₂ b x)
      (u : Summed g marks sums E) (holds : Holds E (toks g.text (start_at g.book i)) b us) (single : x.twice ≡ false) where
    body_sum : (t : ℕ) → (x.shifts ≡ true → 1 ≤ t) → Sums E.tables g.signals t b (sum_at sums₂ i)
    unfolding joined
    body_sum t h = y.added.sums_are u done t h (nothing_sums (nothing g.signals))

    few : (w : Bool) (m : ℕ) → m ≤ flag w → m ≤ 1
    few true m h = h
    few false m h = omega arith

    pub sum_of_body : (least : ℕ) → (x.shifts ≡ true → 1 ≤ least) → SumOf g E sums₂ i least
    sum_of_body least h = record {
      sums_are = λ b₂ us₂ k t l. subst (λ (c : Body). Sums E.tables g.signals t c (sum_at sums₂ i)) (only E _ b us holds b₂ us₂ k).0 (body_sum t (λ e. omega (arith, h e)));
      once = λ b₂ us₂ k s. subst (λ (c : Body). count s (shifting c) ≤ 1) (only E _ b us holds b₂ us₂ k).0 (few x.shifts _ (y.once.once single s));
    }

-- ---- where it stands

module _ {g : Ground} {more i at : ℕ} {E : Env} {b : Body} {us : Toks} {c : Cursor} where
  pub body_standing : Stands g.text at c → at ≡ start_at g.book i → Declared g more i E b us → Standing g (stream g.text c) more E b us
  body_standing s e d = subst (λ (ts : Toks). Standing g ts more E b us) (ap (toks g.text) (sym e) ∙ sym s.there) d.standing

pub stands_on : {text : List ℕ} {at : ℕ} {c : Cursor} → Stands text at c → alive c ≡ true
stands_on {c = c} s = eq-eqb c.no 0 s.on

module _ {g : Ground} {more i : ℕ} {marks sums sums₁ : List ℕ} (s : BodyStood g more i marks sums) (unknown : get_or marks i 0 ≡ 0) (o : Only i sums sums₁) where
  number : i < bodies
  number = s.declared.number

  pub body_sized : Sized g more i (set marks i is_begun) sums₁
  body_sized = record {
    marks_long = length-set marks i is_begun ∙ s.marks_long;
    sums_long = o.long ∙ s.sums_long;
    waves_long = s.waves_long;
    few = s.few;
    row = open_begun i marks number unknown s.marks_long s.declared.standing.levels;
  }

  module _ {at : ℕ} {c : Cursor} {x : Tallied} {marks₂ sums₂ : List ℕ} (nothing : (n : ℕ) → Nothing n (sum_at sums₁ i)) (there : Stands g.text at c) (e : at ≡ start_at g.book i)
      (p : Promised g (stream g.text c) more i (set marks i is_begun) marks₂ sums₁ sums₂ x) where
    kept_all : Kept more i marks marks₂ sums sums₂
    kept_all = kept_then (kept_begun i marks number unknown sums) (kept_then (kept_only o) p.kept)

    module _ {E : Env} {b : Body} {us : Toks} (d : Declared g more i E b us) (u : Summed g marks sums E) where
      is_begun_lem : Summed g (set marks i is_begun) sums₁ E
      is_begun_lem = summed_begun i marks (omega (arith, number, s.marks_long)) o u

      is_gone : Gone g E us i (set marks i is_begun) marks₂ sums₁ sums₂ b x
      is_gone = p.gone E b us (body_standing there e d)

      is_sum : x.twice ≡ false → (least : ℕ) → (x.shifts ≡ true → 1 ≤ least) → SumOf g E sums₂ i least
      is_sum single = sum_of_body i nothing is_gone is_begun_lem d.standing.holds single

    -- with two Shifts nothing is known of it
    pub bodied_twice : Bodied g more i marks marks₂ sums sums₂
    bodied_twice = record { kept = kept_body i marks number unknown kept_all; summed = λ E b us d u. (is_gone d u).added.summed (is_begun_lem d u) }

    module _ (single : x.twice ≡ false) where
      long : i < length marks₂
      long = omega (arith, number, s.marks_long, kept_all.marks_long)

      pub bodied_shifted : Bodied g more i marks (set marks₂ i is_shifted) sums sums₂
      bodied_shifted = record {
        kept = λ r. kept_marked i marks number unknown kept_all r is_shifted;
        summed = λ E b us d u.
            summed_marked i marks₂ sums₂ is_shifted long (λ z. absurd (omega arith)) (λ z. is_sum d u single 1 (λ q. omega arith)) ((is_gone d u).added.summed (is_begun_lem d u));
      }

      pub bodied_summed : x.shifts ≡ false → Bodied g more i marks (set marks₂ i is_summed) sums sums₂
      bodied_summed none = record {
        kept = λ r. kept_marked i marks number unknown kept_all r is_summed;
        summed = λ E b us d u.
            summed_marked i marks₂ sums₂ is_summed long (λ z. is_sum d u single 0 (λ q. absurd (true≢false (sym q ∙ none)))) (λ z. absurd (omega arith)) ((is_gone d u).added.summed (is_begun_lem d u));
      }

-- ---- marks are as many as before

module _ {g : Ground} {more i : ℕ} {marks marks₂ sums sums₁ sums₂ : List ℕ} {ts : Toks} {x : Tallied} (s : BodyStood g more i marks sums)
    (p : Promised g ts more i (set marks i is_begun) marks₂ sums₁ sums₂ x) where
  pub body_long : length marks₂ ≡ length marks
  body_long = p.kept.marks_long ∙ length-set marks i is_begun

  pub body_within : i < length marks₂
  body_within = omega (arith, body_long, s.declared.number, s.marks_long)

  pub body_set_long : (v : ℕ) → length (set marks₂ i v) ≡ length marks
  body_set_long v = length-set marks₂ i v ∙ body_long
