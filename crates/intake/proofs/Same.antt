-- A squeezed text reads as the same tokens as its raw text: a run's mark parts what the run parted, and nothing new meets.
use Prim.Native.Nat.{ℕ, suc}
use native.Mathlib.Omega.{arith}
use mathlib.Core.Path.{◌≡◌, refl, sym, ap, ◌∙◌}
use mathlib.Core.Bool.{Bool, true, false, ◌&&◌, ◌||◌}
use mathlib.Core.Option.{Option, none, some}
use mathlib.Core.List.{List, [], ◌∷◌, ◌++◌}
use lib.Dec.{eqb}
use borrow.Author.Tests.{ne_eqb, eqb-true, eqb-false}
use Rattle.tokens.specs.Written.{starts, cases}
use Rattle.tokens.specs.Bytes.{allowed, blank, wordy}
use Rattle.tokens.specs.Refusals.{bad_byte}
use Rattle.tokens.specs.Tokens.{toks, Toks, stop, Mode, plain, inword, line, closing, opened, block, Act, go, token, bad, run, in_mode, act, ended, done, lex, fault_in}
use Rattle.tokens.proofs.Allowed.{wordy_allowed, blank_unwordy}
use Rattle.tokens.proofs.Stream.{in_word, behind_word}
use Rattle.tokens.proofs.Reading.{word_does, sign_does, slash_does}
use Rattle.intake.specs.Squeezed.{squeezed, Piece, kept, in_run, piece_of, mode_of, pieces, mark_of, of_run, longer, joined_runs}
use Rattle.intake.specs.Calls.{words_of}
use Rattle.intake.proofs.Pieces.{rest, blank_act, pieces_in_word, run_goes, token_kept, bad_fault}

-- ---- a run's mark stands before what is kept

-- it is a blank
mark_blank : (lf : Bool) → blank (mark_of lf) ≡ true
unfolding blank mark_of
mark_blank true = refl
mark_blank false = refl

-- what becomes of a text behind a run begins with the run's mark
pub record Marked (l : List ℕ) : Type 0 where
  pub lf : Bool
  pub tail : List ℕ
  pub is : l ≡ mark_of lf ∷ tail

behind_run : (l : Bool) (xs : List Piece) → Marked (joined_runs (some l) xs)
unfolding joined_runs of_run longer
behind_run l [] = record { lf = l; tail = []; is = refl }
behind_run l (kept b ∷ xs) = record { lf = l; tail = b ∷ joined_runs none xs; is = refl }
behind_run l (in_run lf ∷ xs) = behind_run (l || lf) xs

-- ---- what stands behind a word's byte, and behind a `/`

-- the same word goes on, and the same bytes open comments
marked_run : {l : List ℕ} → Marked l → run l ≡ []
unfolding run
marked_run m = rw m.is (rw (blank_unwordy (mark_of m.lf) (mark_blank m.lf), run))

marked_starts : {l : List ℕ} (c : ℕ) → blank c ≡ false → Marked l → starts c l ≡ false
unfolding starts
marked_starts c h m = rw m.is (ne_eqb (mark_of m.lf) c (λ e. no_blank (sym (mark_blank m.lf) ∙ ap blank e ∙ h)))
  where
    no_blank : true ≡ false → ⊥
    no_blank e = let z : ◌≡◌ {A = ℕ} 0 1 = cc in omega arith

-- the first piece is the byte, or one of a run, whose mark then stands first
head_run : (a : Act) (b : ℕ) (xs : List Piece) → wordy b ≡ false → run (joined_runs none (piece_of a b ∷ xs)) ≡ []
unfolding piece_of joined_runs of_run longer run
head_run (token w m) b xs e = rw (e, run)
head_run bad b xs e = rw (e, run)
head_run (go inword) b xs e = rw (e, run)
head_run (go plain) b xs e = marked_run (behind_run (eqb b 10) xs)
head_run (go line) b xs e = marked_run (behind_run (eqb b 10) xs)
head_run (go closing) b xs e = marked_run (behind_run (eqb b 10) xs)
head_run (go (opened q)) b xs e = marked_run (behind_run (eqb b 10) xs)
head_run (go (block q)) b xs e = marked_run (behind_run (eqb b 10) xs)

head_starts : (a : Act) (b c : ℕ) (xs : List Piece) → blank c ≡ false → eqb b c ≡ false → starts c (joined_runs none (piece_of a b ∷ xs)) ≡ false
unfolding piece_of joined_runs of_run longer starts
head_starts (token w m) b c xs h e = e
head_starts bad b c xs h e = e
head_starts (go inword) b c xs h e = e
head_starts (go plain) b c xs h e = marked_starts c h (behind_run (eqb b 10) xs)
head_starts (go line) b c xs h e = marked_starts c h (behind_run (eqb b 10) xs)
head_starts (go closing) b c xs h e = marked_starts c h (behind_run (eqb b 10) xs)
head_starts (go (opened q)) b c xs h e = marked_starts c h (behind_run (eqb b 10) xs)
head_starts (go (block q)) b c xs h e = marked_starts c h (behind_run (eqb b 10) xs)

same_starts : (p c : ℕ) (s : List ℕ) → blank c ≡ false → starts c s ≡ false → starts c (rest none plain p s) ≡ false
unfolding pieces joined_runs of_run starts
same_starts p c [] h e = refl
same_starts p c (b ∷ s) h e = head_starts (act plain p b s) b c (pieces (mode_of (act plain p b s)) (suc p) s) h e

same_run : (p : ℕ) (s : List ℕ) → run (rest none plain p s) ≡ run s
unfolding pieces joined_runs of_run run
same_run p [] = refl
same_run p (b ∷ s) = by (wordy b) refl (same_run (suc p) s)
  where
    by : (w : Bool) → wordy b ≡ w → run (rest none plain (suc p) s) ≡ run s → run (rest none plain p (b ∷ s)) ≡ run (b ∷ s)
    by true e ih =
        ap run (token_kept p b s (b ∷ run s) inword (pieces_in_word (suc p) s) (word_does p b s (wordy_allowed b e) e) none)
        ∙ rw (e, run) (ap (λ (l : List ℕ). b ∷ l) ih)
    by false e ih = head_run (act plain p b s) b (pieces (mode_of (act plain p b s)) (suc p) s) e ∙ rw (e, run)

-- ---- the same tokens, of a text with no fault

abbrev pub Same : Toks → Toks → Type 0
Same ts us = fault_in us ≡ none → (words_of ts ≡ words_of us) × (fault_in ts ≡ none)

-- the modes in which a run may stand
data Between : Mode → Type 0 where
  b_plain : Between plain
  b_line : Between line
  b_closing : Between closing
  b_opened : {q : ℕ} → Between (opened q)
  b_block : {q : ℕ} → Between (block q)

between_piece : {n : Mode} (b : ℕ) → Between n → piece_of (go n) b ≡ in_run (eqb b 10)
unfolding piece_of
between_piece b b_plain = refl
between_piece b b_line = refl
between_piece b b_closing = refl
between_piece b b_opened = refl
between_piece b b_block = refl

-- a mark is passed over
mark_passed : (lf : Bool) (q : ℕ) (l : List ℕ) → lex plain q (mark_of lf ∷ l) ≡ lex plain (suc q) l
unfolding lex done
mark_passed lf q l = rw (blank_act q (mark_of lf) l (mark_blank lf))

-- a stream that has ended
nothing_same : (p q : ℕ) → Same (stop 4 q) (stop 4 p)
unfolding fault_in words_of
nothing_same p q h = (refl, refl)

ended_same : {m : Mode} (p q : ℕ) → Between m → Same (stop 4 q) (ended m p)
unfolding ended fault_in words_of
ended_same p q b_plain h = (refl, refl)
ended_same p q b_line h = (refl, refl)
ended_same p q b_closing h = (refl, refl)
ended_same p q b_opened h = (refl, refl)
ended_same p q b_block h = (refl, refl)

record Reread (p : ℕ) (s : List ℕ) : Type 0 where
  pub in_plain : (q : ℕ) → Same (lex plain q (rest none plain p s)) (lex plain p s)
  pub in_word : (q : ℕ) → Same (lex inword q (rest none plain p s)) (lex inword p s)
  pub in_run_lem : (l : Bool) (m : Mode) → Between m → (q : ℕ) → Same (lex plain q (rest (some l) m p s)) (lex m p s)

-- ---- one byte in front

no_run : (b : ℕ) (s : List ℕ) → wordy b ≡ false → run (b ∷ s) ≡ []
unfolding run
no_run b s e = rw (e, run)

-- where no word goes on, reading is as outside words
word_over : (p : ℕ) (l : List ℕ) → run l ≡ [] → lex inword p l ≡ lex plain p l
unfolding lex ended run
word_over p [] e = refl
word_over p (b ∷ l) e = by (wordy b) refl e
  where
    by : (t : Bool) → wordy b ≡ t → ◌≡◌ {A = List ℕ} (elim t [ true ↦ b ∷ run l | false ↦ [] ]) [] → lex inword p (b ∷ l) ≡ lex plain p (b ∷ l)
    by true k h = cc
    by false k h = rw (behind_word p b l k)

slash_mark : blank 47 ≡ false
unfolding blank
slash_mark = refl

star_mark : blank 42 ≡ false
unfolding blank
star_mark = refl

goes : (m n : Mode) (p b : ℕ) (s : List ℕ) → act m p b s ≡ go n → lex m p (b ∷ s) ≡ lex n (suc p) s
unfolding lex done
goes m n p b s e = rw e

module _ (p b : ℕ) (s : List ℕ) (ih : Reread (suc p) s) where
  -- a byte of a run
  run_same : (r : Option Bool) (l : Bool) (m n : Mode) → longer r (eqb b 10) ≡ some l → Between n → act m p b s ≡ go n → (q : ℕ)
      → Same (lex plain q (rest r m p (b ∷ s))) (lex m p (b ∷ s))
  run_same r l m n k v e q =
      rw (run_goes m n p b s e (between_piece b v) r, k, goes m n p b s e) (ih.in_run_lem l n v q)

  -- a byte of a token w: what becomes of it begins the same token
  abbrev tail : List ℕ
  tail = rest none plain (suc p) s

  word_same : wordy b ≡ true → (q : ℕ) → Same (lex plain q (b ∷ tail)) (lex plain p (b ∷ s))
  unfolding lex done words_of fault_in
  word_same e q h =
      let g = wordy_allowed b e in
      let c : fault_in (lex inword (suc p) s) ≡ none = sym (ap (λ (a : Act). fault_in (done a p (λ m. lex m (suc p) s))) (word_does p b s g e)) ∙ h in
      rw (word_does q b tail g e, word_does p b s g e, same_run (suc p) s)
      (ap (λ (l : List (List ℕ)). (b ∷ run s) ∷ l) (ih.in_word (suc q) c).0, (ih.in_word (suc q) c).1)

  sign_same : (q : ℕ) → act plain q b tail ≡ token (b ∷ []) plain → act plain p b s ≡ token (b ∷ []) plain
      → Same (lex plain q (b ∷ tail)) (lex plain p (b ∷ s))
  unfolding lex done words_of fault_in
  sign_same q d e h =
      let c : fault_in (lex plain (suc p) s) ≡ none = sym (ap (λ (a : Act). fault_in (done a p (λ m. lex m (suc p) s))) e) ∙ h in
      rw (d, e) (ap (λ (l : List (List ℕ)). (b ∷ []) ∷ l) (ih.in_plain (suc q) c).0, (ih.in_plain (suc q) c).1)

-- what a byte does outside comments: it is one of a run; or one of a token, which begins the same way in what becomes of the text
data Kind (p b : ℕ) (s : List ℕ) : Type 0 where
  of_run_lem : (n : Mode) → Between n → act plain p b s ≡ go n → Kind p b s
  of_token : ((r : Option Bool) → rest r plain p (b ∷ s) ≡ of_run r ++ b ∷ rest none plain (suc p) s)
      → ((q : ℕ) → Same (lex plain q (b ∷ rest none plain (suc p) s)) (lex plain p (b ∷ s))) → Kind p b s

module _ (p b : ℕ) (s : List ℕ) (ih : Reread (suc p) s) (good : allowed b ≡ true) where
  slash_kind : b ≡ 47 → (t u : Bool) → starts 47 s ≡ t → starts 42 s ≡ u → Kind p b s
  unfolding cases
  slash_kind e true u k l = of_run_lem line b_line (rw e (slash_does p s ∙ rw k))
  slash_kind e false true k l = of_run_lem (opened p) b_opened (rw e (slash_does p s ∙ rw (k, l)))
  slash_kind e false false k l =
      let a : (q : ℕ) (t : List ℕ) → starts 47 t ≡ false → starts 42 t ≡ false → act plain q b t ≡ token (b ∷ []) plain =
      λ q t f g. rw e (slash_does q t ∙ rw (f, g)) in
      of_token (token_kept p b s (b ∷ []) plain refl (a p s k l))
      (λ q. sign_same p b s ih q
      (a q (rest none plain (suc p) s) (same_starts (suc p) 47 s slash_mark k) (same_starts (suc p) 42 s star_mark l)) (a p s k l))

  kind : Kind p b s
  kind = by (wordy b) (blank b) (eqb b 47) refl refl refl
    where
      by : (t u v : Bool) → wordy b ≡ t → blank b ≡ u → eqb b 47 ≡ v → Kind p b s
      by true u v e f g =
          of_token (token_kept p b s (b ∷ run s) inword (pieces_in_word (suc p) s) (word_does p b s good e)) (word_same p b s ih e)
      by false true v e f g = of_run_lem plain b_plain (blank_act p b s f)
      by false false true e f g = slash_kind (eqb-true b 47 g) (starts 47 s) (starts 42 s) refl refl
      by false false false e f g =
          let o = eqb-false b 47 g in
          of_token (token_kept p b s (b ∷ []) plain refl (sign_does p b s good e f o))
          (λ q. sign_same p b s ih q (sign_does q b (rest none plain (suc p) s) good e f o) (sign_does p b s good e f o))

  -- outside comments
  none_same : Kind p b s → (q : ℕ) → Same (lex plain q (rest none plain p (b ∷ s))) (lex plain p (b ∷ s))
  unfolding longer of_run
  none_same (of_run_lem n v e) q = run_same p b s ih none (eqb b 10) plain n refl v e q
  none_same (of_token k f) q = rw (k none) (f q)

  some_same : Kind p b s → (l : Bool) (q : ℕ) → Same (lex plain q (rest (some l) plain p (b ∷ s))) (lex plain p (b ∷ s))
  unfolding longer of_run
  some_same (of_run_lem n v e) l q = run_same p b s ih (some l) (l || eqb b 10) plain n refl v e q
  some_same (of_token k f) l q = rw (k (some l), mark_passed l q (b ∷ rest none plain (suc p) s)) (f (suc q))

  -- in a comment
  comment_same : (l : Bool) (m n : Mode) → Between n → act m p b s ≡ go n → (q : ℕ) → Same (lex plain q (rest (some l) m p (b ∷ s))) (lex m p (b ∷ s))
  unfolding longer
  comment_same l m n v e q = run_same p b s ih (some l) (l || eqb b 10) m n refl v e q

  run_front : (l : Bool) {m : Mode} → Between m → (q : ℕ) → Same (lex plain q (rest (some l) m p (b ∷ s))) (lex m p (b ∷ s))
  unfolding act in_mode cases
  run_front l b_plain q = some_same kind l q
  run_front l b_line q = by (eqb b 10) refl
    where
      by : (t : Bool) → eqb b 10 ≡ t → Same (lex plain q (rest (some l) line p (b ∷ s))) (lex line p (b ∷ s))
      by true k = comment_same l line plain b_plain (rw (good, k)) q
      by false k = comment_same l line line b_line (rw (good, k)) q
  run_front l b_closing q = comment_same l closing plain b_plain (rw good) q
  run_front l (b_opened {q = o}) q = comment_same l (opened o) (block o) b_block (rw good) q
  run_front l (b_block {q = o}) q = by (eqb b 42 && starts 47 s) refl
    where
      by : (t : Bool) → (eqb b 42 && starts 47 s) ≡ t → Same (lex plain q (rest (some l) (block o) p (b ∷ s))) (lex (block o) p (b ∷ s))
      by true k = comment_same l (block o) closing b_closing (rw (good, k)) q
      by false k = comment_same l (block o) (block o) b_block (rw (good, k)) q

  -- in a word: it goes on, or it is over
  word_front : (q : ℕ) → Same (lex inword q (rest none plain p (b ∷ s))) (lex inword p (b ∷ s))
  unfolding of_run
  word_front q = by (wordy b) refl
    where
      by : (t : Bool) → wordy b ≡ t → Same (lex inword q (rest none plain p (b ∷ s))) (lex inword p (b ∷ s))
      by true e =
          rw (
            token_kept p b s (b ∷ run s) inword (pieces_in_word (suc p) s) (word_does p b s good e) none,
            goes inword inword q b (rest none plain (suc p) s) (in_word q b (rest none plain (suc p) s) e),
            goes inword inword p b s (in_word p b s e),
          )
          (ih.in_word (suc q))
      by false e =
          rw (word_over q (rest none plain p (b ∷ s)) (same_run p (b ∷ s) ∙ no_run b s e), word_over p (b ∷ s) (no_run b s e)) (none_same kind q)

-- ---- all of it

all_reread : (s : List ℕ) (p : ℕ) → Reread p s
unfolding pieces joined_runs of_run lex ended
all_reread [] p =
    record {
      in_plain = λ q. nothing_same p q;
      in_word = λ q. nothing_same p q;
      in_run_lem = λ l m v q. rw (mark_passed l q []) (ended_same p (suc q) v);
    }
all_reread (b ∷ s) p = by (allowed b) refl (all_reread s (suc p))
  where
    by : (t : Bool) → allowed b ≡ t → Reread (suc p) s → Reread p (b ∷ s)
    by true g ih =
        record {
          in_plain = λ q. none_same p b s ih g (kind p b s ih g) q;
          in_word = λ q. word_front p b s ih g q;
          in_run_lem = λ l m v q. run_front p b s ih g l v q;
        }
    by false g ih = record { in_plain = λ q. never plain _; in_word = λ q. never inword _; in_run_lem = λ l m v q. never m _ }
      where
        never : (m : Mode) (ts : Toks) → Same ts (lex m p (b ∷ s))
        never m ts h =
            let z : ◌≡◌ {A = Option (ℕ × ℕ)} none (some (bad_byte, p)) = sym h ∙ bad_fault m p b s g in
            let y : ◌≡◌ {A = ℕ} 0 1 = cc in
            absurd (omega arith)

-- a clean text squeezed has the raw text's tokens, and is clean
pub squeezed_same : (raw : List ℕ) → Same (toks (squeezed raw) 0) (toks raw 0)
unfolding toks squeezed
squeezed_same raw = (all_reread raw 0).in_plain 0
