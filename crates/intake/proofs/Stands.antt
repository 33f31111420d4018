-- Where the intake stands by the token rules: what it adds, then what becomes of the rest, is what becomes of all; and the faults are the same.
use Prim.Native.Nat.{ℕ, suc, ◌+◌}
use native.Mathlib.Omega.{arith}
use mathlib.Core.Path.{◌≡◌, refl, sym, ap, ◌∙◌, subst}
use mathlib.Core.Bool.{Bool, true, false, ◌||◌}
use mathlib.Core.Option.{Option, none, some}
use mathlib.Core.List.{List, [], ◌∷◌, ◌++◌, append_assoc}
use lib.ListN.{length}
use lib.Dec.{eqb}
use borrow.Author.Tests.{ne_eqb, eqb-true, eqb-false}
use Rattle.tokens.specs.Written.{starts, cases}
use Rattle.tokens.specs.Bytes.{between, allowed, blank}
use Rattle.tokens.specs.Tokens.{Mode, plain, line, closing, opened, block, go, token, act}
use Rattle.tokens.proofs.Reading.{lf_does, slash_does, second_slash_does, second_star_does, star_does, last_slash_does, line_does, block_does}
use Rattle.intake.specs.declared.Intake.{Intake}
use Rattle.intake.specs.Squeezed.{piece_of, of_run, mark_of, longer}
use Rattle.intake.specs.Intake.{is_plain, is_slash, is_line, is_block, is_star, mark_with, waiting, Step, stepped, outside, behind_slash, in_line, in_block, behind_star, step}
use Rattle.intake.proofs.Bytes.{outside_slash, outside_blank, outside_kept, slash_line, slash_block, slash_blank, slash_kept, line_ends, line_goes, block_star, block_goes, star_closes, star_goes, step_slash, step_line, step_block, step_star, step_outside}
use Rattle.intake.proofs.Pieces.{rest, fault, longer_none, longer_same, run_goes, fault_goes, token_kept, token_fault, sign_kept, sign_fault, blank_act}

-- ---- runs

-- the mark that waits, of the run so far
pub data Runs (mark : ℕ) : Option Bool → Type 0 where
  no_run : mark ≡ 0 → Runs mark none
  lf_run : mark ≡ 10 → Runs mark (some true)
  space_run : mark ≡ 32 → Runs mark (some false)

pub runs_waiting : {mark : ℕ} {r : Option Bool} → Runs mark r → waiting mark ≡ of_run r
unfolding waiting of_run mark_of
runs_waiting (no_run e) = rw e
runs_waiting (lf_run e) = rw e
runs_waiting (space_run e) = rw e

pub runs_with : {mark : ℕ} {r : Option Bool} (b : ℕ) → Runs mark r → Runs (mark_with mark b) (longer r (eqb b 10))
unfolding mark_with longer
runs_with b (no_run e) = rw e (by (eqb b 10))
  where
    by : (t : Bool) → Runs (elim (t || false) [ true ↦ 10 | false ↦ 32 ]) (some t)
    by true = lf_run refl
    by false = space_run refl
runs_with b (lf_run e) = rw e (by (eqb b 10))
  where
    by : (t : Bool) → Runs (elim (t || true) [ true ↦ 10 | false ↦ 32 ]) (some true)
    by true = lf_run refl
    by false = lf_run refl
runs_with b (space_run e) = rw e (by (eqb b 10))
  where
    by : (t : Bool) → Runs (elim (t || false) [ true ↦ 10 | false ↦ 32 ]) (some t)
    by true = lf_run refl
    by false = space_run refl

-- ---- modes

-- the token rules stand in the mode m at place p; the bytes `held` from there on were taken, and what they do isn't decided
pub data Stands (x : Intake) (p : ℕ) : Mode → List ℕ → Type 0 where
  in_plain : x.mode ≡ is_plain → Stands x p plain []
  at_slash : x.mode ≡ is_slash → x.opening ≡ p → Stands x p plain (47 ∷ [])
  in_line_lem : x.mode ≡ is_line → Stands x p line []
  in_block_lem : {q : ℕ} → x.mode ≡ is_block → x.opening ≡ q → Stands x p (block q) []
  at_star : {q : ℕ} → x.mode ≡ is_star → x.opening ≡ q → Stands x p (block q) (42 ∷ [])

-- all of it: the mode, the place, the bytes not decided and the run
pub record Reads (x : Intake) (m : Mode) (p : ℕ) (held : List ℕ) (r : Option Bool) : Type 0 where
  pub stands : Stands x p m held
  pub runs : Runs x.run r
  pub placed : p + length held ≡ x.taken

-- one byte more
pub record Steps (z : Step) (m : Mode) (p : ℕ) (s₀ : List ℕ → List ℕ) (r : Option Bool) : Type 0 where
  pub mode : Mode
  pub place : ℕ
  pub held : List ℕ
  pub run : Option Bool
  pub reads : Reads z.intake mode place held run
  pub becomes : (s : List ℕ) → z.adds ++ rest run mode place (held ++ s) ≡ rest r m p (s₀ s)
  pub faults : (s : List ℕ) → fault mode place (held ++ s) ≡ fault m p (s₀ s)

-- ---- the cases

pub star_good : allowed 42 ≡ true
unfolding allowed blank between
star_good = refl

module _ (x : Intake) (p : ℕ) (r : Option Bool) (runs : Runs x.run r) where
  module _ (e : p + 0 ≡ x.taken) where
    plain_slash : Steps (stepped x [] x.run is_slash x.taken) plain p (λ s. 47 ∷ s) r
    unfolding stepped
    plain_slash =
        record {
          mode = plain;
          place = p;
          held = 47 ∷ [];
          run = r;
          reads = record { stands = at_slash refl (omega arith); runs = runs; placed = omega arith };
          becomes = λ s. refl;
          faults = λ s. refl;
        }

    plain_blank : (b : ℕ) → blank b ≡ true → Steps (stepped x [] (mark_with x.run b) is_plain 0) plain p (λ s. b ∷ s) r
    unfolding stepped piece_of
    plain_blank b k =
        record {
          mode = plain;
          place = suc p;
          held = [];
          run = longer r (eqb b 10);
          reads = record { stands = in_plain refl; runs = runs_with b runs; placed = omega arith };
          becomes = λ s. sym (run_goes plain plain p b s (blank_act p b s k) refl r);
          faults = λ s. sym (fault_goes plain plain p b s (blank_act p b s k));
        }

    plain_kept : (b : ℕ) → allowed b ≡ true → blank b ≡ false → (b ≡ 47 → ⊥)
        → Steps (stepped x (waiting x.run ++ b ∷ []) 0 is_plain 0) plain p (λ s. b ∷ s) r
    unfolding stepped
    plain_kept b g k o =
        record {
          mode = plain;
          place = suc p;
          held = [];
          run = none;
          reads = record { stands = in_plain refl; runs = no_run refl; placed = omega arith };
          becomes = λ s. append_assoc (waiting x.run) (b ∷ []) _ ∙ rw (runs_waiting runs) (sym (sign_kept p b s g k o r));
          faults = λ s. sym (sign_fault p b s g k o);
        }

    line_lf : Steps (stepped x [] (mark_with x.run 10) is_plain 0) line p (λ s. 10 ∷ s) r
    unfolding stepped piece_of
    line_lf =
        record {
          mode = plain;
          place = suc p;
          held = [];
          run = longer r true;
          reads = record { stands = in_plain refl; runs = runs_with 10 runs; placed = omega arith };
          becomes = λ s. sym (run_goes line plain p 10 s (lf_does p s) refl r);
          faults = λ s. sym (fault_goes line plain p 10 s (lf_does p s));
        }

    line_other : (b : ℕ) → allowed b ≡ true → (b ≡ 10 → ⊥) → Steps (stepped x [] (mark_with x.run b) is_line 0) line p (λ s. b ∷ s) r
    unfolding stepped piece_of
    line_other b g o =
        record {
          mode = line;
          place = suc p;
          held = [];
          run = longer r (eqb b 10);
          reads = record { stands = in_line_lem refl; runs = runs_with b runs; placed = omega arith };
          becomes = λ s. sym (run_goes line line p b s (line_does p b s g o) refl r);
          faults = λ s. sym (fault_goes line line p b s (line_does p b s g o));
        }

    module _ (q : ℕ) (h : x.opening ≡ q) where
      -- the run holds the `*` already, which comes again with the byte behind it
      star_twice : (s : List ℕ) → rest (longer r false) (block q) p (42 ∷ s) ≡ rest r (block q) p (42 ∷ s)
      unfolding piece_of
      star_twice s = by (starts 47 s) refl
        where
          by : (t : Bool) → starts 47 s ≡ t → rest (longer r false) (block q) p (42 ∷ s) ≡ rest r (block q) p (42 ∷ s)
          by true k =
              run_goes (block q) closing p 42 s (star_does p s q k) refl (longer r false)
              ∙ rw (longer_same r false) (sym (run_goes (block q) closing p 42 s (star_does p s q k) refl r))
          by false k =
              run_goes (block q) (block q) p 42 s (block_does p 42 s q star_good k) refl (longer r false)
              ∙ rw (longer_same r false) (sym (run_goes (block q) (block q) p 42 s (block_does p 42 s q star_good k) refl r))

      block_at_star : Steps (stepped x [] (mark_with x.run 42) is_star x.opening) (block q) p (λ s. 42 ∷ s) r
      unfolding stepped
      block_at_star =
          record {
            mode = block q;
            place = p;
            held = 42 ∷ [];
            run = longer r false;
            reads = record { stands = at_star refl h; runs = runs_with 42 runs; placed = omega arith };
            becomes = star_twice;
            faults = λ s. refl;
          }

      block_other : (b : ℕ) → allowed b ≡ true → (b ≡ 42 → ⊥)
          → Steps (stepped x [] (mark_with x.run b) is_block x.opening) (block q) p (λ s. b ∷ s) r
      unfolding stepped piece_of
      block_other b g o =
          record {
            mode = block q;
            place = suc p;
            held = [];
            run = longer r (eqb b 10);
            reads = record { stands = in_block_lem refl h; runs = runs_with b runs; placed = omega arith };
            becomes = λ s. sym (run_goes (block q) (block q) p b s (block_does p b s q g (rw (ne_eqb b 42 o))) refl r);
            faults = λ s. sym (fault_goes (block q) (block q) p b s (block_does p b s q g (rw (ne_eqb b 42 o))));
          }

  module _ (e : p + 1 ≡ x.taken) where
    opens_line : (s : List ℕ) → act plain p 47 (47 ∷ s) ≡ go line
    unfolding cases starts
    opens_line s = slash_does p (47 ∷ s)

    slash_to_line : Steps (stepped x [] (mark_with x.run 47) is_line 0) plain p (λ s. 47 ∷ 47 ∷ s) r
    unfolding stepped piece_of
    slash_to_line =
        record {
          mode = line;
          place = suc (suc p);
          held = [];
          run = longer r false;
          reads = record { stands = in_line_lem refl; runs = runs_with 47 runs; placed = omega arith };
          becomes = λ s.
              sym
              (run_goes plain line p 47 (47 ∷ s) (opens_line s) refl r
              ∙ run_goes line line (suc p) 47 s (second_slash_does (suc p) s) refl (longer r false)
              ∙ rw (longer_same r false));
          faults = λ s.
              sym (fault_goes plain line p 47 (47 ∷ s) (opens_line s) ∙ fault_goes line line (suc p) 47 s (second_slash_does (suc p) s));
        }

    opens_block : (s : List ℕ) → act plain p 47 (42 ∷ s) ≡ go (opened p)
    unfolding cases starts
    opens_block s = slash_does p (42 ∷ s)

    slash_to_block : x.opening ≡ p → Steps (stepped x [] (mark_with x.run 42) is_block x.opening) plain p (λ s. 47 ∷ 42 ∷ s) r
    unfolding stepped piece_of
    slash_to_block h =
        record {
          mode = block p;
          place = suc (suc p);
          held = [];
          run = longer r false;
          reads = record { stands = in_block_lem refl h; runs = runs_with 42 runs; placed = omega arith };
          becomes = λ s.
              sym
              (run_goes plain (opened p) p 47 (42 ∷ s) (opens_block s) refl r
              ∙ run_goes (opened p) (block p) (suc p) 42 s (second_star_does (suc p) s p) refl (longer r false)
              ∙ rw (longer_same r false));
          faults = λ s.
              sym
              (fault_goes plain (opened p) p 47 (42 ∷ s) (opens_block s)
              ∙ fault_goes (opened p) (block p) (suc p) 42 s (second_star_does (suc p) s p));
        }

    module _ (b : ℕ) (o : b ≡ 47 → ⊥) (n : b ≡ 42 → ⊥) where
      pub alone : (s : List ℕ) → act plain p 47 (b ∷ s) ≡ token (47 ∷ []) plain
      unfolding cases starts
      alone s = slash_does p (b ∷ s) ∙ rw (ne_eqb b 47 o, ne_eqb b 42 n)

      slash_then_blank : blank b ≡ true
          → Steps (stepped x (waiting x.run ++ 47 ∷ []) (mark_with 0 b) is_plain 0) plain p (λ s. 47 ∷ b ∷ s) r
      unfolding stepped piece_of
      slash_then_blank k =
          record {
            mode = plain;
            place = suc (suc p);
            held = [];
            run = longer none (eqb b 10);
            reads = record { stands = in_plain refl; runs = runs_with b (no_run refl); placed = omega arith };
            becomes = λ s.
                append_assoc (waiting x.run) (47 ∷ []) _
                ∙ rw (runs_waiting runs, ← run_goes plain plain (suc p) b s (blank_act (suc p) b s k) refl none)
                (sym (token_kept p 47 (b ∷ s) (47 ∷ []) plain refl (alone s) r));
            faults = λ s.
                sym
                (token_fault p 47 (b ∷ s) (47 ∷ []) plain refl (alone s) ∙ fault_goes plain plain (suc p) b s (blank_act (suc p) b s k));
          }

      slash_then_kept : allowed b ≡ true → blank b ≡ false
          → Steps (stepped x (waiting x.run ++ 47 ∷ b ∷ []) 0 is_plain 0) plain p (λ s. 47 ∷ b ∷ s) r
      unfolding stepped of_run
      slash_then_kept g k =
          record {
            mode = plain;
            place = suc (suc p);
            held = [];
            run = none;
            reads = record { stands = in_plain refl; runs = no_run refl; placed = omega arith };
            becomes = λ s.
                append_assoc (waiting x.run) (47 ∷ b ∷ []) _
                ∙ rw (runs_waiting runs)
                (sym
                (token_kept p 47 (b ∷ s) (47 ∷ []) plain refl (alone s) r
                ∙ ap (λ (l : List ℕ). of_run r ++ 47 ∷ l) (sign_kept (suc p) b s g k o none)));
            faults = λ s. sym (token_fault p 47 (b ∷ s) (47 ∷ []) plain refl (alone s) ∙ sign_fault (suc p) b s g k o);
          }

    module _ (q : ℕ) (h : x.opening ≡ q) where
      closes : (s : List ℕ) → act (block q) p 42 (47 ∷ s) ≡ go closing
      unfolding starts
      closes s = star_does p (47 ∷ s) q refl

      star_to_plain : Steps (stepped x [] (mark_with x.run 47) is_plain 0) (block q) p (λ s. 42 ∷ 47 ∷ s) r
      unfolding stepped piece_of
      star_to_plain =
          record {
            mode = plain;
            place = suc (suc p);
            held = [];
            run = longer r false;
            reads = record { stands = in_plain refl; runs = runs_with 47 runs; placed = omega arith };
            becomes = λ s.
                sym
                (run_goes (block q) closing p 42 (47 ∷ s) (closes s) refl r
                ∙ run_goes closing plain (suc p) 47 s (last_slash_does (suc p) s) refl (longer r false)
                ∙ rw (longer_same r false));
            faults = λ s.
                sym
                (fault_goes (block q) closing p 42 (47 ∷ s) (closes s) ∙ fault_goes closing plain (suc p) 47 s (last_slash_does (suc p) s));
          }

      pub stays : (b : ℕ) (s : List ℕ) → (b ≡ 47 → ⊥) → act (block q) p 42 (b ∷ s) ≡ go (block q)
      unfolding starts
      stays b s o = block_does p 42 (b ∷ s) q star_good (ne_eqb b 47 o)

      star_at_star : Steps (stepped x [] (mark_with x.run 42) is_star x.opening) (block q) p (λ s. 42 ∷ 42 ∷ s) r
      unfolding stepped piece_of
      star_at_star =
          record {
            mode = block q;
            place = suc p;
            held = 42 ∷ [];
            run = longer r false;
            reads = record { stands = at_star refl h; runs = runs_with 42 runs; placed = omega arith };
            becomes = λ s. sym (run_goes (block q) (block q) p 42 (42 ∷ s) (stays 42 s (λ z. omega arith)) refl r);
            faults = λ s. sym (fault_goes (block q) (block q) p 42 (42 ∷ s) (stays 42 s (λ z. omega arith)));
          }

      star_to_block : (b : ℕ) → allowed b ≡ true → (b ≡ 47 → ⊥) → (b ≡ 42 → ⊥)
          → Steps (stepped x [] (mark_with x.run b) is_block x.opening) (block q) p (λ s. 42 ∷ b ∷ s) r
      unfolding stepped piece_of
      star_to_block b g o n =
          record {
            mode = block q;
            place = suc (suc p);
            held = [];
            run = longer r (eqb b 10);
            reads = record { stands = in_block_lem refl h; runs = runs_with b runs; placed = omega arith };
            becomes = λ s.
                sym
                (run_goes (block q) (block q) p 42 (b ∷ s) (stays b s o) refl r
                ∙ run_goes (block q) (block q) (suc p) b s (block_does (suc p) b s q g (rw (ne_eqb b 42 n))) refl (longer r false)
                ∙ rw (longer_none r (eqb b 10)));
            faults = λ s.
                sym
                (fault_goes (block q) (block q) p 42 (b ∷ s) (stays b s o)
                ∙ fault_goes (block q) (block q) (suc p) b s (block_does (suc p) b s q g (rw (ne_eqb b 42 n))));
          }

-- ---- any byte that is allowed

module _ (x : Intake) (p : ℕ) (r : Option Bool) (runs : Runs x.run r) (b : ℕ) (good : allowed b ≡ true) where
  plain_steps : p + 0 ≡ x.taken → Steps (outside x b) plain p (λ s. b ∷ s) r
  plain_steps h = by (eqb b 47) (blank b) refl refl
    where
      by : (t u : Bool) → eqb b 47 ≡ t → blank b ≡ u → Steps (outside x b) plain p (λ s. b ∷ s) r
      by true u k l =
          let e = eqb-true b 47 k in
          rw (outside_slash x b e) (subst (λ (c : ℕ). Steps (stepped x [] x.run is_slash x.taken) plain p (λ s. c ∷ s) r) (sym e) (plain_slash x p r runs h))
      by false true k l = rw (outside_blank x b (eqb-false b 47 k) l) (plain_blank x p r runs h b l)
      by false false k l = rw (outside_kept x b (eqb-false b 47 k) l) (plain_kept x p r runs h b good l (eqb-false b 47 k))

  slash_steps : p + 1 ≡ x.taken → x.opening ≡ p → Steps (behind_slash x b) plain p (λ s. 47 ∷ b ∷ s) r
  slash_steps h o = by (eqb b 47) (eqb b 42) (blank b) refl refl refl
    where
      by : (t u v : Bool) → eqb b 47 ≡ t → eqb b 42 ≡ u → blank b ≡ v → Steps (behind_slash x b) plain p (λ s. 47 ∷ b ∷ s) r
      by true u v k l n =
          let e = eqb-true b 47 k in
          rw (slash_line x b e)
          (subst (λ (c : ℕ). Steps (stepped x [] (mark_with x.run c) is_line 0) plain p (λ s. 47 ∷ c ∷ s) r) (sym e) (slash_to_line x p r runs h))
      by false true v k l n =
          let e = eqb-true b 42 l in
          rw (slash_block x b e)
          (subst (λ (c : ℕ). Steps (stepped x [] (mark_with x.run c) is_block x.opening) plain p (λ s. 47 ∷ c ∷ s) r) (sym e) (slash_to_block x p r runs h o))
      by false false true k l n =
          rw (slash_blank x b (eqb-false b 47 k) (eqb-false b 42 l) n) (slash_then_blank x p r runs h b (eqb-false b 47 k) (eqb-false b 42 l) n)
      by false false false k l n =
          rw (slash_kept x b (eqb-false b 47 k) (eqb-false b 42 l) n) (slash_then_kept x p r runs h b (eqb-false b 47 k) (eqb-false b 42 l) good n)

  line_steps : p + 0 ≡ x.taken → Steps (in_line x b) line p (λ s. b ∷ s) r
  line_steps h = by (eqb b 10) refl
    where
      by : (t : Bool) → eqb b 10 ≡ t → Steps (in_line x b) line p (λ s. b ∷ s) r
      by true k =
          let e = eqb-true b 10 k in
          rw (line_ends x b e) (subst (λ (c : ℕ). Steps (stepped x [] (mark_with x.run c) is_plain 0) line p (λ s. c ∷ s) r) (sym e) (line_lf x p r runs h))
      by false k = rw (line_goes x b (eqb-false b 10 k)) (line_other x p r runs h b good (eqb-false b 10 k))

  module _ (q : ℕ) (o : x.opening ≡ q) where
    block_steps : p + 0 ≡ x.taken → Steps (in_block x b) (block q) p (λ s. b ∷ s) r
    block_steps h = by (eqb b 42) refl
      where
        by : (t : Bool) → eqb b 42 ≡ t → Steps (in_block x b) (block q) p (λ s. b ∷ s) r
        by true k =
            let e = eqb-true b 42 k in
            rw (block_star x b e)
            (subst (λ (c : ℕ). Steps (stepped x [] (mark_with x.run c) is_star x.opening) (block q) p (λ s. c ∷ s) r) (sym e) (block_at_star x p r runs h q o))
        by false k = rw (block_goes x b (eqb-false b 42 k)) (block_other x p r runs h q o b good (eqb-false b 42 k))

    star_steps : p + 1 ≡ x.taken → Steps (behind_star x b) (block q) p (λ s. 42 ∷ b ∷ s) r
    star_steps h = by (eqb b 47) (eqb b 42) refl refl
      where
        by : (t u : Bool) → eqb b 47 ≡ t → eqb b 42 ≡ u → Steps (behind_star x b) (block q) p (λ s. 42 ∷ b ∷ s) r
        by true u k l =
            let e = eqb-true b 47 k in
            rw (star_closes x b e)
            (subst (λ (c : ℕ). Steps (stepped x [] (mark_with x.run c) is_plain 0) (block q) p (λ s. 42 ∷ c ∷ s) r) (sym e) (star_to_plain x p r runs h q o))
        by false true k l =
            let e = eqb-true b 42 l in
            rw (star_goes x b (eqb-false b 47 k), block_star x b e)
            (subst (λ (c : ℕ). Steps (stepped x [] (mark_with x.run c) is_star x.opening) (block q) p (λ s. 42 ∷ c ∷ s) r) (sym e)
            (star_at_star x p r runs h q o))
        by false false k l =
            rw (star_goes x b (eqb-false b 47 k), block_goes x b (eqb-false b 42 l))
            (star_to_block x p r runs h q o b good (eqb-false b 47 k) (eqb-false b 42 l))

pub reads_step : {x : Intake} {m : Mode} {p : ℕ} {held : List ℕ} {r : Option Bool} → Reads x m p held r → (b : ℕ) → allowed b ≡ true
    → Steps (step x b) m p (λ s. held ++ b ∷ s) r
reads_step {x} {m} {p} {held} {r} k b good = by k.stands k.placed
  where
    by : {m : Mode} {held : List ℕ} → Stands x p m held → p + length held ≡ x.taken → Steps (step x b) m p (λ s. held ++ b ∷ s) r
    by (in_plain e) h =
        rw (step_outside x b (λ z. omega arith) (λ z. omega arith) (λ z. omega arith) (λ z. omega arith)) (plain_steps x p r k.runs b good h)
    by (at_slash e o) h = rw (step_slash x b e) (slash_steps x p r k.runs b good h o)
    by (in_line_lem e) h = rw (step_line x b e) (line_steps x p r k.runs b good h)
    by (in_block_lem {q} e o) h = rw (step_block x b e) (block_steps x p r k.runs b good q o h)
    by (at_star {q} e o) h = rw (step_star x b e) (star_steps x p r k.runs b good q o h)
