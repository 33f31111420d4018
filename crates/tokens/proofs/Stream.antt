-- Reading as a stream: the first token's bytes are the text's, behind it reading goes on as from its end, and how a stream stops.
use Prim.Native.Nat.{ℕ, suc, ◌+◌, ◌≤◌, ◌<◌}
use native.Mathlib.Nat.{add-zero, add-suc, suc-add}
use native.Mathlib.Numerals.{add-one}
use native.Mathlib.Omega.{arith}
use mathlib.Core.Path.{◌≡◌, refl, ap}
use mathlib.Core.Bool.{Bool, true, false, ◌&&◌}
use mathlib.Core.Logic.{◌⊎◌, inl, inr}
use mathlib.Core.List.{List, [], ◌∷◌}
use lib.ListN.{length, take, drop}
use lib.Dec.{eqb}
use Rattle.tokens.specs.Written.{starts, cases}
use Rattle.tokens.specs.Bytes.{allowed, blank, wordy}
use Rattle.tokens.specs.Refusals.{bad_byte, open_comment, not_here}
use Rattle.tokens.specs.Tokens.{Tok, Toks, stop, tok, Mode, plain, inword, line, closing, opened, block, Act, go, token, bad, run, outside, in_mode, act, ended, done, lex, left}
use Rattle.tokens.proofs.Allowed.{wordy_allowed}

-- ---- a word: its bytes are a front of the text's, and reading on behind its first byte is reading from its end

run_front : (s : List ℕ) → run s ≡ take (length (run s)) s
unfolding run
run_front [] = refl
run_front (b ∷ s) = by (wordy b) (run_front s)
  where
    by : (w : Bool) → run s ≡ take (length (run s)) s
        → ◌≡◌ {A = List ℕ} (elim w [ true ↦ b ∷ run s | false ↦ [] ]) (take (length {A = ℕ} (elim w [ true ↦ b ∷ run s | false ↦ [] ])) (b ∷ s))
    by true h = ap (λ (l : List ℕ). b ∷ l) h
    by false h = refl

run_short : (s : List ℕ) → length (run s) ≤ length s
unfolding run
run_short [] = omega arith
run_short (b ∷ s) = by (wordy b) (run_short s)
  where
    by : (w : Bool) → length (run s) ≤ length s → length {A = ℕ} (elim w [ true ↦ b ∷ run s | false ↦ [] ]) ≤ length (b ∷ s)
    by true h = omega arith
    by false h = omega arith

pub in_word : (p b : ℕ) (s : List ℕ) → wordy b ≡ true → act inword p b s ≡ go inword
unfolding act in_mode outside cases
in_word p b s e = rw (wordy_allowed b e, e)

pub behind_word : (p b : ℕ) (s : List ℕ) → wordy b ≡ false → act inword p b s ≡ act plain p b s
unfolding act in_mode outside cases
behind_word p b s e = ap (λ (x : Act). cases ((allowed b, x) ∷ []) bad) (rw e)

after_word : (p : ℕ) (s : List ℕ) → lex inword p s ≡ lex plain (p + length (run s)) (drop (length (run s)) s)
unfolding lex run ended done
after_word p [] = rw add-zero
after_word p (b ∷ s) = by (wordy b) refl (after_word (suc p) s)
  where
    by : (w : Bool) → wordy b ≡ w → lex inword (suc p) s ≡ lex plain (suc p + length (run s)) (drop (length (run s)) s)
        → lex inword p (b ∷ s) ≡ lex plain (p + length (run (b ∷ s))) (drop (length (run (b ∷ s))) (b ∷ s))
    by true e ih = rw (e, run) (rw (add-suc, ← suc-add) (rw (in_word p b s e) ih))
    by false e ih = rw (e, run) (rw add-zero (rw (behind_word p b s e)))

-- ---- a token: w stands at the front of s, at place p, and ts are the tokens from its end on

pub record Begins (p : ℕ) (s w : List ℕ) (ts : Toks) : Type 0 where
  pub bytes : w ≡ take (length w) s
  pub some : 0 < length w
  pub short : length w ≤ length s
  pub rest : ts ≡ lex plain (p + length w) (drop (length w) s)

-- so it is of what the byte b does, with s behind it, if that is to begin a token
abbrev Begun : ℕ → ℕ → List ℕ → Act → Type 0
Begun p b s (go m) = Unit {0}
Begun p b s (token w m) = Begins p (b ∷ s) w (lex m (suc p) s)
Begun p b s bad = Unit {0}

begun_outside : (w : Bool) (p b : ℕ) (s : List ℕ) → Begun p b s (outside w p b s)
unfolding outside cases
begun_outside w p b s = by (wordy b && w) (wordy b) (blank b) (eqb b 47 && starts 47 s) (eqb b 47 && starts 42 s)
  where
    by : (u v d e f : Bool)
        → Begun p b s
        (cases ((u, go inword) ∷ (v, token (b ∷ run s) inword) ∷ (d, go plain) ∷ (e, go line) ∷ (f, go (opened p)) ∷ []) (token (b ∷ []) plain))
    by true v d e f = tt
    by false true d e f =
        record {
          bytes = ap (λ (l : List ℕ). b ∷ l) (run_front s);
          some = omega arith;
          short = omega (arith, run_short s);
          rest = rw (add-suc, ← suc-add) (after_word (suc p) s);
        }
    by false false true e f = tt
    by false false false true f = tt
    by false false false false true = tt
    by false false false false false = record { bytes = refl; some = omega arith; short = omega arith; rest = rw add-one }

begun : (m : Mode) (p b : ℕ) (s : List ℕ) → Begun p b s (act m p b s)
unfolding act in_mode cases
begun m p b s = by (allowed b) m
  where
    goes : (c : Bool) (m n : Mode) → Begun p b s (cases ((c, go m) ∷ []) (go n))
    goes true m n = tt
    goes false m n = tt

    by : (c : Bool) (m : Mode) → Begun p b s (cases ((c, in_mode m p b s) ∷ []) bad)
    by false m = tt
    by true plain = begun_outside false p b s
    by true inword = begun_outside true p b s
    by true line = goes (eqb b 10) plain line
    by true closing = tt
    by true (opened q) = tt
    by true (block q) = goes (eqb b 42 && starts 47 s) closing (block q)

-- ---- the first token t of a stream, some bytes on, with ts behind it

pub record Ahead (p : ℕ) (s : List ℕ) (t : Tok) (ts : Toks) : Type 0 where
  pub skip : ℕ
  pub place : t.at ≡ p + skip
  pub begins : Begins t.at (drop skip s) t.word ts

abbrev pub First : ℕ → List ℕ → Toks → Type 0
First p s (stop n q) = Unit {0}
First p s (tok t ts) = Ahead p s t ts

first_on : (p b : ℕ) (s : List ℕ) (ts : Toks) → First (suc p) s ts → First p (b ∷ s) ts
first_on p b s (stop n q) h = tt
first_on p b s (tok t ts) h = record { skip = suc h.skip; place = omega (arith, h.place); begins = h.begins }

pub first_of : (m : Mode) (p : ℕ) (s : List ℕ) → First p s (lex m p s)
unfolding lex done ended
first_of plain p [] = tt
first_of inword p [] = tt
first_of line p [] = tt
first_of closing p [] = tt
first_of (opened q) p [] = tt
first_of (block q) p [] = tt
first_of m p (b ∷ s) = by (act m p b s) (begun m p b s) (λ m'. first_of m' (suc p) s)
  where
    by : (a : Act) → Begun p b s a → ((m' : Mode) → First (suc p) s (lex m' (suc p) s))
        → First p (b ∷ s) (done a p (λ m'. lex m' (suc p) s))
    by (go m') h ih = first_on p b s (lex m' (suc p) s) (ih m')
    by (token w m') h ih = record { skip = 0; place = omega arith; begins = h }
    by bad h ih = tt

-- ---- how a stream stops: at the text's end, e, or at a fault

abbrev pub Stops : ℕ → ℕ → ℕ → Type 0
Stops e n q = ((n ≡ not_here) × (q ≡ e)) ⊎ ((n ≡ bad_byte) ⊎ (n ≡ open_comment))

abbrev pub Closes : ℕ → Toks → Type 0
Closes e (stop n q) = Stops e n q
Closes e (tok t ts) = Closes e ts

pub closes : (m : Mode) (p : ℕ) (s : List ℕ) → Closes (p + length s) (lex m p s)
unfolding lex done ended
closes plain p [] = inl (refl, omega arith)
closes inword p [] = inl (refl, omega arith)
closes line p [] = inl (refl, omega arith)
closes closing p [] = inl (refl, omega arith)
closes (opened q) p [] = inr (inr refl)
closes (block q) p [] = inr (inr refl)
closes m p (b ∷ s) = by (act m p b s) (λ m'. closes m' (suc p) s)
  where
    by : (a : Act) → ((m' : Mode) → Closes (suc p + length s) (lex m' (suc p) s))
        → Closes (p + length (b ∷ s)) (done a p (λ m'. lex m' (suc p) s))
    by (go m') ih = rw (add-suc, ← suc-add) (ih m')
    by (token w m') ih = rw (add-suc, ← suc-add) (ih m')
    by bad ih = inr (inl refl)

-- ---- a stream has at most a token for each byte

pub few : (m : Mode) (p : ℕ) (s : List ℕ) → left (lex m p s) ≤ length s
unfolding lex done ended left
few plain p [] = omega arith
few inword p [] = omega arith
few line p [] = omega arith
few closing p [] = omega arith
few (opened q) p [] = omega arith
few (block q) p [] = omega arith
few m p (b ∷ s) = by (act m p b s) (λ m'. few m' (suc p) s)
  where
    by : (a : Act) → ((m' : Mode) → left (lex m' (suc p) s) ≤ length s)
        → left (done a p (λ m'. lex m' (suc p) s)) ≤ length (b ∷ s)
    by (go m') ih = omega (arith, ih m')
    by (token w m') ih = omega (arith, ih m')
    by bad ih = omega arith
