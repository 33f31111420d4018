-- What a byte does by the token rules, as pieces of runs and as faults; what was read and isn't decided yet stands before the rest.
use Prim.Native.Nat.{ℕ, suc}
use mathlib.Core.Path.{◌≡◌, refl}
use mathlib.Core.Bool.{Bool, true, false, or-false}
use mathlib.Core.Option.{Option, none, some}
use mathlib.Core.List.{List, [], ◌∷◌, ◌++◌}
use lib.Dec.{eqb}
use Rattle.tokens.specs.Bytes.{allowed, blank, wordy}
use Rattle.tokens.specs.Refusals.{bad_byte}
use Rattle.tokens.specs.Tokens.{Mode, plain, inword, go, token, run, act, done, lex, fault_in}
use Rattle.tokens.proofs.Allowed.{wordy_allowed, blank_allowed, blank_unwordy}
use Rattle.tokens.proofs.Stream.{in_word, behind_word}
use Rattle.tokens.proofs.Reading.{word_does, sign_does, blank_does, bad_does}
use Rattle.tokens.proofs.Faults.{fault_in_word}
use Rattle.intake.specs.Squeezed.{in_run, piece_of, mode_of, pieces, of_run, longer, joined_runs}

-- what becomes of the rest of a raw text, behind a run r
abbrev pub rest : Option Bool → Mode → ℕ → List ℕ → List ℕ
rest r m p s = joined_runs r (pieces m p s)

abbrev pub fault : Mode → ℕ → List ℕ → Option (ℕ × ℕ)
fault m p s = fault_in (lex m p s)

-- ---- runs

pub longer_none : (r : Option Bool) (lf : Bool) → longer (longer r false) lf ≡ longer r lf
unfolding longer
longer_none none lf = refl
longer_none (some l) lf = rw or-false

pub longer_same : (r : Option Bool) (lf : Bool) → longer (longer r lf) false ≡ longer r lf
unfolding longer
longer_same none lf = rw or-false
longer_same (some l) lf = rw or-false

-- ---- one byte

-- in a word reading goes on as from there, but for the token that was given
pub pieces_in_word : (p : ℕ) (s : List ℕ) → pieces inword p s ≡ pieces plain p s
unfolding pieces piece_of mode_of
pieces_in_word p [] = refl
pieces_in_word p (b ∷ s) = by (wordy b) refl
  where
    by : (w : Bool) → wordy b ≡ w → pieces inword p (b ∷ s) ≡ pieces plain p (b ∷ s)
    by true e = rw (in_word p b s e, word_does p b s (wordy_allowed b e) e)
    by false e = rw (behind_word p b s e)

module _ (m n : Mode) (p b : ℕ) (s : List ℕ) where
  -- a byte of a run, behind which reading stands in the mode n
  pub run_goes : act m p b s ≡ go n → piece_of (go n) b ≡ in_run (eqb b 10) → (r : Option Bool)
      → rest r m p (b ∷ s) ≡ rest (longer r (eqb b 10)) n (suc p) s
  unfolding pieces mode_of joined_runs
  run_goes e k r = rw (e, k)

  pub fault_goes : act m p b s ≡ go n → fault m p (b ∷ s) ≡ fault n (suc p) s
  unfolding lex done
  fault_goes e = rw e

module _ (p b : ℕ) (s w : List ℕ) where
  -- a byte of a token
  pub token_kept : (m : Mode) → pieces m (suc p) s ≡ pieces plain (suc p) s → act plain p b s ≡ token w m → (r : Option Bool)
      → rest r plain p (b ∷ s) ≡ of_run r ++ b ∷ rest none plain (suc p) s
  unfolding pieces piece_of mode_of joined_runs
  token_kept m k e r = rw (e, k)

  pub token_fault : (m : Mode) → fault m (suc p) s ≡ fault plain (suc p) s → act plain p b s ≡ token w m
      → fault plain p (b ∷ s) ≡ fault plain (suc p) s
  unfolding lex done fault_in
  token_fault m k e = rw e k

-- outside comments, a byte that is allowed, no blank and no `/`
module _ (p b : ℕ) (s : List ℕ) (good : allowed b ≡ true) (mark : blank b ≡ false) (other : b ≡ 47 → ⊥) where
  pub sign_kept : (r : Option Bool) → rest r plain p (b ∷ s) ≡ of_run r ++ b ∷ rest none plain (suc p) s
  sign_kept r = by (wordy b) refl
    where
      by : (w : Bool) → wordy b ≡ w → rest r plain p (b ∷ s) ≡ of_run r ++ b ∷ rest none plain (suc p) s
      by true e = token_kept p b s (b ∷ run s) inword (pieces_in_word (suc p) s) (word_does p b s good e) r
      by false e = token_kept p b s (b ∷ []) plain refl (sign_does p b s good e mark other) r

  pub sign_fault : fault plain p (b ∷ s) ≡ fault plain (suc p) s
  sign_fault = by (wordy b) refl
    where
      by : (w : Bool) → wordy b ≡ w → fault plain p (b ∷ s) ≡ fault plain (suc p) s
      by true e = token_fault p b s (b ∷ run s) inword (fault_in_word (suc p) s) (word_does p b s good e)
      by false e = token_fault p b s (b ∷ []) plain refl (sign_does p b s good e mark other)

pub blank_act : (p b : ℕ) (s : List ℕ) → blank b ≡ true → act plain p b s ≡ go plain
blank_act p b s k = blank_does p b s (blank_allowed b k) (blank_unwordy b k) k

-- a byte that is not allowed is a fault
pub bad_fault : (m : Mode) (p b : ℕ) (s : List ℕ) → allowed b ≡ false → fault m p (b ∷ s) ≡ some (bad_byte, p)
unfolding lex done fault_in
bad_fault m p b s e = rw (bad_does p b s m e)
