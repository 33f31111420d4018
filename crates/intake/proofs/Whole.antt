-- A whole text, byte by byte: what was added, then what waits, is what becomes of it; what it counts, and when nothing is refused.
use Prim.Native.Nat.{ℕ, suc, ◌+◌, ◌≤◌}
use native.Mathlib.Omega.{arith}
use mathlib.Core.Path.{◌≡◌, refl, sym, ap, ◌∙◌}
use mathlib.Core.Bool.{Bool, true, false, not, false≢true}
use mathlib.Core.Logic.{inl, inr}
use mathlib.Core.Option.{Option, none, some}
use mathlib.Core.List.{List, [], ◌∷◌, ◌++◌, append_assoc, append-nil}
use lib.ListN.{length, length-append}
use lib.Dec.{eqb, leb}
use borrow.Author.Tests.{eqb-true, eqb-false}
use Rattle.tokens.specs.Written.{cases}
use Rattle.tokens.specs.Bytes.{between, allowed, blank}
use Rattle.tokens.specs.Refusals.{too_long, bad_byte, open_comment}
use Rattle.tokens.specs.Tokens.{Mode, plain, line, block}
use Rattle.intake.specs.declared.Intake.{Intake}
use Rattle.intake.specs.Intake.{raw_most, no_store, is_slash, is_line, is_block, is_star, Step, stepped, outside, behind_slash, in_line, in_block, behind_star, step, lacks, refusal_of, refusal, Taken, on, refused, behind, takes}
use Rattle.intake.specs.Answers.{passes}
use Rattle.intake.proofs.Bytes.{outside_slash, outside_blank, outside_kept, slash_line, slash_block, slash_blank, slash_kept, star_closes, star_goes, step_slash, step_line, step_block, step_star, step_outside, Free, free, refused_not, lacks_not, lacks_fits}
use Rattle.intake.proofs.Stores.{Within}
use Rattle.intake.proofs.Turns.{takes_on, passes_behind}
use Rattle.intake.proofs.Pieces.{rest, fault, token_fault, fault_goes, bad_fault}
use Rattle.intake.proofs.Stands.{Stands, in_plain, at_slash, in_line_lem, in_block_lem, at_star, Reads, Steps, reads_step, star_good, alone, stays}

-- ---- what a step counts

pub record Counts (x : Intake) (z : Step) : Type 0 where
  pub taken : z.intake.taken ≡ suc x.taken
  pub stored : z.intake.stored ≡ x.stored + length z.adds

module _ (x : Intake) where
  stepped_counts : (adds : List ℕ) (run mode opening : ℕ) → Counts x (stepped x adds run mode opening)
  unfolding stepped
  stepped_counts adds run mode opening = record { taken = refl; stored = refl }

  module _ (b : ℕ) where
    outside_counts : (t u : Bool) → eqb b 47 ≡ t → blank b ≡ u → Counts x (outside x b)
    outside_counts true u k l = rw (outside_slash x b (eqb-true b 47 k)) (stepped_counts _ _ _ _)
    outside_counts false true k l = rw (outside_blank x b (eqb-false b 47 k) l) (stepped_counts _ _ _ _)
    outside_counts false false k l = rw (outside_kept x b (eqb-false b 47 k) l) (stepped_counts _ _ _ _)

    slash_counts : (t u v : Bool) → eqb b 47 ≡ t → eqb b 42 ≡ u → blank b ≡ v → Counts x (behind_slash x b)
    slash_counts true u v k l n = rw (slash_line x b (eqb-true b 47 k)) (stepped_counts _ _ _ _)
    slash_counts false true v k l n = rw (slash_block x b (eqb-true b 42 l)) (stepped_counts _ _ _ _)
    slash_counts false false true k l n = rw (slash_blank x b (eqb-false b 47 k) (eqb-false b 42 l) n) (stepped_counts _ _ _ _)
    slash_counts false false false k l n = rw (slash_kept x b (eqb-false b 47 k) (eqb-false b 42 l) n) (stepped_counts _ _ _ _)

    line_counts : Counts x (in_line x b)
    unfolding in_line
    line_counts = stepped_counts _ _ _ _

    block_counts : Counts x (in_block x b)
    unfolding in_block
    block_counts = stepped_counts _ _ _ _

    star_counts : (t : Bool) → eqb b 47 ≡ t → Counts x (behind_star x b)
    star_counts true k = rw (star_closes x b (eqb-true b 47 k)) (stepped_counts _ _ _ _)
    star_counts false k = rw (star_goes x b (eqb-false b 47 k)) block_counts

    pub step_counts : Counts x (step x b)
    step_counts = by (eqb x.mode is_slash) (eqb x.mode is_line) (eqb x.mode is_block) (eqb x.mode is_star) refl refl refl refl
      where
        by : (t u v w : Bool) → eqb x.mode is_slash ≡ t → eqb x.mode is_line ≡ u → eqb x.mode is_block ≡ v → eqb x.mode is_star ≡ w
            → Counts x (step x b)
        by true u v w i j k l = rw (step_slash x b (eqb-true x.mode is_slash i)) (slash_counts (eqb b 47) (eqb b 42) (blank b) refl refl refl)
        by false true v w i j k l = rw (step_line x b (eqb-true x.mode is_line j)) line_counts
        by false false true w i j k l = rw (step_block x b (eqb-true x.mode is_block k)) block_counts
        by false false false true i j k l = rw (step_star x b (eqb-true x.mode is_star l)) (star_counts (eqb b 47) refl)
        by false false false false i j k l =
            rw (step_outside x b (eqb-false _ is_slash i) (eqb-false _ is_line j) (eqb-false _ is_block k) (eqb-false _ is_star l))
            (outside_counts (eqb b 47) (blank b) refl refl)

-- ---- a byte that is not allowed

unlike : (b c : ℕ) → allowed b ≡ false → allowed c ≡ true → b ≡ c → ⊥
unlike b c h k e = false≢true (sym h ∙ ap allowed e ∙ k)

slash_good : allowed 47 ≡ true
unfolding allowed blank between
slash_good = refl

pub bad_read : {x : Intake} {m : Mode} {p : ℕ} {held : List ℕ} {r : Option Bool} → Reads x m p held r → (b : ℕ) (s : List ℕ) → allowed b ≡ false
    → fault m p (held ++ b ∷ s) ≡ some (bad_byte, x.taken)
bad_read {x} {m} {p} {held} {r} k b s e = by k.stands k.placed
  where
    there : (n : Mode) (q : ℕ) → q ≡ x.taken → fault n q (b ∷ s) ≡ some (bad_byte, x.taken)
    there n q h = bad_fault n q b s e ∙ ap (λ (z : ℕ). some (bad_byte, z)) h

    by : {m : Mode} {held : List ℕ} → Stands x p m held → p + length held ≡ x.taken → fault m p (held ++ b ∷ s) ≡ some (bad_byte, x.taken)
    by (in_plain z) h = there plain p (omega arith)
    by (at_slash z o) h =
        token_fault p 47 (b ∷ s) (47 ∷ []) plain refl (alone x p r k.runs h b (unlike b 47 e slash_good) (unlike b 42 e star_good) s)
        ∙ there plain (suc p) (omega arith)
    by (in_line_lem z) h = there line p (omega arith)
    by (in_block_lem {q} z o) h = there (block q) p (omega arith)
    by (at_star {q} z o) h =
        fault_goes (block q) (block q) p 42 (b ∷ s) (stays x p r k.runs h q o b s (unlike b 47 e slash_good)) ∙ there (block q) (suc p) (omega arith)

-- ---- all bytes

-- where the intake stands behind the bytes s, and what it added; or why it is refused
pub record Through (room : ℕ) (x : Intake) (m : Mode) (p : ℕ) (s : List ℕ) (n : ℕ) (r : Option Bool) (y : Intake) (adds : List ℕ) : Type 0 where
  pub mode : Mode
  pub place : ℕ
  pub held : List ℕ
  pub run : Option Bool
  pub reads : Reads y mode place held run
  pub becomes : adds ++ rest run mode place held ≡ rest r m p s
  pub faults : fault mode place held ≡ fault m p s
  pub counted : y.taken ≡ x.taken + n
  pub short : x.taken ≤ raw_most → x.taken + n ≤ raw_most
  pub stored : y.stored ≡ x.stored + length adds
  pub within : Within room x.stored (length adds)

abbrev pub Passes : (room : ℕ) (x : Intake) (m : Mode) (p : ℕ) (s : List ℕ) (n : ℕ) (r : Option Bool) → Taken → Type 0
Passes room x m p s n r (on y adds) = Through room x m p s n r y adds
Passes room x m p s n r (refused k q) = (k ≡ bad_byte → fault m p s ≡ some (bad_byte, q)) × (k ≡ open_comment → ⊥)

-- a refusal 2 is of a byte that is not allowed
bad_refusal : (room : ℕ) (x : Intake) (b n : ℕ) → refusal_of room x b n ≡ bad_byte → allowed b ≡ false
unfolding refusal_of cases
bad_refusal room x b n e = by (leb raw_most x.taken) (allowed b) (lacks room x.stored n) e
  where
    by : (t u v : Bool) → cases ((t, too_long) ∷ (not u, bad_byte) ∷ (v, no_store) ∷ []) 0 ≡ bad_byte → u ≡ false
    by true u v z = absurd (omega arith)
    by false false v z = refl
    by false true true z = absurd (omega arith)
    by false true false z = absurd (omega arith)

-- and none is 3, which only the close gives
no_open_refusal : (room : ℕ) (x : Intake) (b n : ℕ) → refusal_of room x b n ≡ open_comment → ⊥
unfolding refusal_of cases
no_open_refusal room x b n e = by (leb raw_most x.taken) (allowed b) (lacks room x.stored n) e
  where
    by : (t u v : Bool) → cases ((t, too_long) ∷ (not u, bad_byte) ∷ (v, no_store) ∷ []) 0 ≡ open_comment → ⊥
    by true u v z = omega arith
    by false false v z = omega arith
    by false true true z = omega arith
    by false true false z = omega arith

joined_within : (room at n m : ℕ) → Within room at n → Within room (at + n) m → Within room at (n + m)
joined_within room at n m (inl e) (inl f) = inl (omega arith)
joined_within room at n m (inr e) (inl f) = inr (omega arith)
joined_within room at n m v (inr f) = inr (omega arith)

module _ (room : ℕ) where
  pub reads_through : {x : Intake} {m : Mode} {p : ℕ} {held : List ℕ} {r : Option Bool} → Reads x m p held r → (s : List ℕ)
      → Passes room x m p (held ++ s) (length s) r (takes room x s)
  unfolding takes refusal behind
  reads_through {x} {m} {p} {held} {r} k [] =
      record {
        mode = m;
        place = p;
        held = held;
        run = r;
        reads = k;
        becomes = rw (append-nil held);
        faults = rw (append-nil held);
        counted = omega arith;
        short = λ h. omega arith;
        stored = omega arith;
        within = inl refl;
      }
  reads_through {x} {m} {p} {held} {r} k (b ∷ s) =
      by (eqb (refusal room x b) 0) refl (λ n q h t l. reads_through {x = (step x b).intake} {m = n} {p = q} {held = h} {r = t} l s)
    where
      first : refusal room x b ≡ 0 → Free room x b (length (step x b).adds)
      first e = free room x b (length (step x b).adds) e

      then : (f : Free room x b (length (step x b).adds)) (st : Steps (step x b) m p (λ t. held ++ b ∷ t) r) (t : Taken)
          → Passes room (step x b).intake st.mode st.place (st.held ++ s) (length s) st.run t
          → Passes room x m p (held ++ b ∷ s) (length (b ∷ s)) r (behind (step x b).adds t)
      then f st (on y a) g =
          let c = step_counts x b in
          let w : (step x b).intake.stored ≡ x.stored + length (step x b).adds = c.stored in
          record {
            mode = g.mode;
            place = g.place;
            held = g.held;
            run = g.run;
            reads = g.reads;
            becomes = append_assoc (step x b).adds a _ ∙ ap (λ (l : List ℕ). (step x b).adds ++ l) g.becomes ∙ st.becomes s;
            faults = g.faults ∙ st.faults s;
            counted = omega (arith, g.counted, c.taken);
            short = λ h. omega (arith, g.short (omega (arith, c.taken, f.short)), c.taken);
            stored = omega (arith, g.stored, c.stored, length-append (step x b).adds a);
            within =
                rw (length-append (step x b).adds a)
                (joined_within room x.stored (length (step x b).adds) (length a) (lacks_fits room x.stored _ f.roomy) (rw w at g.within));
          }
      then f st (refused n q) g = (λ e. sym (st.faults s) ∙ g.0 e, g.1)

      stops : Passes room x m p (held ++ b ∷ s) (length (b ∷ s)) r (refused (refusal room x b) x.taken)
      stops =
          (λ e. bad_read k b s (bad_refusal room x b (length (step x b).adds) e), no_open_refusal room x b (length (step x b).adds))

      by : (t : Bool) → eqb (refusal room x b) 0 ≡ t
          → ((n : Mode) (q : ℕ) (h : List ℕ) (t : Option Bool) → Reads (step x b).intake n q h t
          → Passes room (step x b).intake n q (h ++ s) (length s) t (takes room (step x b).intake s))
          → Passes room x m p (held ++ b ∷ s) (length (b ∷ s)) r
          (elim t [
            | true ↦ behind (step x b).adds (takes room (step x b).intake s)
            | false ↦ refused (refusal room x b) x.taken
          ])
      by true h ih =
          let f = first (eqb-true (refusal room x b) 0 h) in
          let st = reads_step k b f.good in
          then f st (takes room (step x b).intake s) (ih st.mode st.place st.held st.run st.reads)
      by false h ih = stops

  -- nothing is refused where the text isn't too long, has no fault, and what becomes of it has room
  pub reads_pass : {x : Intake} {m : Mode} {p : ℕ} {held : List ℕ} {r : Option Bool} → Reads x m p held r → (s : List ℕ)
      → x.taken + length s ≤ raw_most → fault m p (held ++ s) ≡ none → x.stored + length (rest r m p (held ++ s)) ≤ room
      → passes (takes room x s) ≡ true
  unfolding takes passes refusal
  reads_pass k [] h f l = refl
  reads_pass {x} {m} {p} {held} {r} k (b ∷ s) h f l =
      by (allowed b) refl (λ st a n o. reads_pass {x = (step x b).intake} st.reads s a n o)
    where
      goes : (st : Steps (step x b) m p (λ t. held ++ b ∷ t) r) → allowed b ≡ true
          → ((step x b).intake.taken + length s ≤ raw_most → fault st.mode st.place (st.held ++ s) ≡ none
          → (step x b).intake.stored + length (rest st.run st.mode st.place (st.held ++ s)) ≤ room
          → passes (takes room (step x b).intake s) ≡ true)
          → passes (takes room x (b ∷ s)) ≡ true
      goes st g ih =
          let c = step_counts x b in
          let n : length (step x b).adds + length (rest st.run st.mode st.place (st.held ++ s)) ≡ length (rest r m p (held ++ b ∷ s)) =
          sym (length-append (step x b).adds _) ∙ ap length (st.becomes s) in
          let q : refusal room x b ≡ 0 =
          refused_not room x b (length (step x b).adds) (omega arith) g (lacks_not room x.stored _ (omega arith)) in
          ap passes (takes_on room x b s q)
          ∙ passes_behind _ _
          ∙ ih (omega (arith, c.taken)) (st.faults s ∙ f) (omega (arith, c.stored))

      by : (t : Bool) → allowed b ≡ t
          → ((st : Steps (step x b) m p (λ t. held ++ b ∷ t) r) → (step x b).intake.taken + length s ≤ raw_most
          → fault st.mode st.place (st.held ++ s) ≡ none
          → (step x b).intake.stored + length (rest st.run st.mode st.place (st.held ++ s)) ≤ room
          → passes (takes room (step x b).intake s) ≡ true)
          → passes (takes room x (b ∷ s)) ≡ true
      by true g ih = let st = reads_step k b g in goes st g (ih st)
      by false g ih =
          let z : ◌≡◌ {A = Option (ℕ × ℕ)} none (some (bad_byte, x.taken)) = sym f ∙ bad_read k b s g in
          let y : ◌≡◌ {A = ℕ} 0 1 = cc in
          absurd (omega arith)
