-- Rows written one behind the other: row k goes to the part of the buffer that begins at k times the row width. The rows of all that is seen are what the window gives.
use mathlib.Core.Path.{◌≡◌, sym, ap, ap₂, ◌∙◌, subst}
use Prim.Native.Nat.{ℕ, zero, suc, ◌+◌, ◌*◌, ◌-◌, ◌≤◌, min}
use native.Mathlib.Nat.{zero-mul, one-mul, add-mul}
use native.Mathlib.Omega.{arith}
use mathlib.Core.Bool.{false}
use mathlib.Core.List.{List, [], ◌∷◌, ◌++◌, append_assoc, append-nil}
use lib.ListN.{length, take, drop, length-append, length-drop, drop_of_length-le}
use lib.Seq.{take_all, take_at, drop_at, drop-drop}
use borrow.Author.Tests.{le-leb}
use Rattle.meaning.specs.Run.{Cycle, cycles_of, visits}
use Rattle.meaning.specs.Meaning.{Answer, given, answering, Meaning, meaning}
use Rattle.meaning.specs.Services.{bad_mark, row, rows, row_width, window, window_of, rows_out, window_rows, rows_due, width_of}
use Rattle.meaning.proofs.Rows.{row_width_lem, rows_are_cycles}
use Rattle.meaning.proofs.Turns.{copies}
use Rattle.meaning.proofs.Windows.{rows-++, take_min, window_rows_lem}
use Rattle.walks.specs.Seen.{seen}
use Rattle.walks.specs.Written.{Even, Written}
use Rattle.walks.proofs.Seen.{length_seen, seen-++}

-- ---- the rows of what is seen

pub rows_seen : (mark n m : ℕ) (a b : List Cycle) → rows mark (seen n m (a ++ b)) ≡ rows mark (seen n m a) ++ rows mark (seen (n - length a) (m - length (seen n m a)) b)
rows_seen mark n m a b = ap (rows mark) (seen-++ n m a b) ∙ rows-++ mark (seen n m a) (seen (n - length a) (m - length (seen n m a)) b)

-- as many as there are, where more are asked for
pub seen_due : {A : Type 0} (n m : ℕ) (l : List A) → seen n (min m (length l - n)) l ≡ seen n m l
seen_due n m l = ap (λ (k : ℕ). seen n (min m k) l) (sym (length-drop n l)) ∙ take_min m (drop n l)

pub even_none : (mark signals : ℕ) → Even mark signals []
unfolding rows
even_none mark signals = sym (zero-mul (row_width signals))

pub even_one : (mark signals : ℕ) (c : Cycle) → length c.pins ≡ signals → Even mark signals (c ∷ [])
unfolding rows
even_one mark signals c h = ap length (append-nil (row mark c)) ∙ row_width_lem mark c signals h ∙ sym (one-mul (row_width signals))

length_both : (signals : ℕ) (cs ds : List Cycle) → length (cs ++ ds) * row_width signals ≡ length cs * row_width signals + length ds * row_width signals
length_both signals cs ds = ap (λ (k : ℕ). k * row_width signals) (length-append cs ds) ∙ add-mul (length cs) (length ds) (row_width signals)

bytes_both : (mark : ℕ) (cs ds : List Cycle) → length (rows mark (cs ++ ds)) ≡ length (rows mark cs) + length (rows mark ds)
bytes_both mark cs ds = ap length (rows-++ mark cs ds) ∙ length-append (rows mark cs) (rows mark ds)

pub even_both : (mark signals : ℕ) (cs ds : List Cycle) → Even mark signals cs → Even mark signals ds → Even mark signals (cs ++ ds)
even_both mark signals cs ds h k = omega (arith, bytes_both mark cs ds, length_both signals cs ds)

-- those behind others, where all are and the others are
pub even_behind : (mark signals : ℕ) (cs ds : List Cycle) → Even mark signals cs → Even mark signals (cs ++ ds) → Even mark signals ds
even_behind mark signals cs ds h k = omega (arith, bytes_both mark cs ds, length_both signals cs ds)

pub even_copies : (mark signals k : ℕ) (l : List Cycle) → Even mark signals l → Even mark signals (copies k l)
unfolding copies
even_copies mark signals zero l h = even_none mark signals
even_copies mark signals (suc k) l h = even_both mark signals l (copies k l) h (even_copies mark signals k l h)

-- ---- a buffer

pub written_none : (mark signals : ℕ) (entry : List ℕ) → Written mark signals entry entry []
unfolding rows
written_none mark signals entry = record { even = even_none mark signals; is = rw zero-mul }

module _ {mark signals : ℕ} {entry buffer : List ℕ} {cs : List Cycle} (x : Written mark signals entry buffer cs) where
  -- some of the rows, where they stand
  pub written_there : (before l behind : List Cycle) → cs ≡ before ++ (l ++ behind) → Even mark signals before → Even mark signals l
      → take (length l * row_width signals) (drop (length before * row_width signals) buffer) ≡ rows mark l
  written_there before l behind e g h =
      let rest = drop (length cs * row_width signals) entry in
      let parts = x.is ∙ ap (λ (cs : List Cycle). rows mark cs ++ rest) e
      ∙ ap (λ (y : List ℕ). y ++ rest) (rows-++ mark before (l ++ behind) ∙ ap (λ (y : List ℕ). rows mark before ++ y) (rows-++ mark l behind))
      ∙ append_assoc (rows mark before) (rows mark l ++ rows mark behind) rest
      ∙ ap (λ (y : List ℕ). rows mark before ++ y) (append_assoc (rows mark l) (rows mark behind) rest) in
      ap (λ (b : List ℕ). take (length l * row_width signals) (drop (length before * row_width signals) b)) parts
      ∙ ap (take (length l * row_width signals)) (drop_at (rows mark before) (rows mark l ++ (rows mark behind ++ rest)) (length before * row_width signals) g)
      ∙ take_at (rows mark l) (rows mark behind ++ rest) (length l * row_width signals) h

  -- where the next row goes
  module _ (at : ℕ) (place : at ≡ length cs * row_width signals) where
    parted : buffer ≡ rows mark cs ++ drop at entry
    parted = x.is ∙ ap (λ (k : ℕ). rows mark cs ++ drop k entry) (sym place)

    pub written_long : at ≤ length entry → length buffer ≡ length entry
    written_long h = ap length parted ∙ length-append (rows mark cs) (drop at entry) ∙ omega (arith, x.even, length-drop at entry)

    front : take at buffer ≡ rows mark cs
    front = ap (take at) parted ∙ take_at (rows mark cs) (drop at entry) at (x.even ∙ sym place)

    -- the part from there on is as it was
    pub written_behind : drop at buffer ≡ drop at entry
    written_behind = ap (drop at) parted ∙ drop_at (rows mark cs) (drop at entry) at (x.even ∙ sym place)

    -- more rows, written to the front of that part
    module _ (ds : List Cycle) (h : Even mark signals ds) where
      pub written_more : (ys : List ℕ) → ys ≡ rows mark ds ++ drop (length ds * row_width signals) (drop at buffer) → Written mark signals entry (take at buffer ++ ys) (cs ++ ds)
      written_more ys e = record {
        even = even_both mark signals cs ds x.even h;
        is = ap₂ (λ (a b : List ℕ). a ++ b) front
            (e ∙ ap (λ (l : List ℕ). rows mark ds ++ drop (length ds * row_width signals) l) written_behind ∙ ap (λ (l : List ℕ). rows mark ds ++ l) rest)
            ∙ sym (append_assoc (rows mark cs) (rows mark ds) _)
            ∙ ap (λ (l : List ℕ). l ++ drop (length (cs ++ ds) * row_width signals) entry) (sym (rows-++ mark cs ds));
      }
        where
          rest : drop (length ds * row_width signals) (drop at entry) ≡ drop (length (cs ++ ds) * row_width signals) entry
          rest =
              let n = length_both signals cs ds in
              drop-drop (length ds * row_width signals) at entry ∙ ap (λ (k : ℕ). drop k entry) (ap (λ (k : ℕ). k + length ds * row_width signals) place ∙ sym n)

      -- the part to the end, lent and back
      pub written_lent : (ys : List ℕ) → ys ≡ rows mark ds ++ drop (length ds * row_width signals) (take (length buffer - at) (drop at buffer))
          → Written mark signals entry (take at buffer ++ (ys ++ drop (length buffer - at) (drop at buffer))) (cs ++ ds)
      written_lent ys e =
          let long : length (drop at buffer) ≤ length buffer - at = omega (arith, length-drop at buffer) in
          let part = take_all (length buffer - at) (drop at buffer) long in
          let none = drop_of_length-le (drop at buffer) long in
          subst (λ (l : List ℕ). Written mark signals entry (take at buffer ++ l) (cs ++ ds)) (sym (append-nil ys) ∙ ap (λ (l : List ℕ). ys ++ l) (sym none))
          (written_more ys (e ∙ ap (λ (l : List ℕ). rows mark ds ++ drop (length ds * row_width signals) l) part))

    -- THE LAW: one row more
    pub written_row : (c : Cycle) → length c.pins ≡ signals → (ys : List ℕ) → ys ≡ row mark c ++ drop (row_width signals) (take (length buffer - at) (drop at buffer))
        → Written mark signals entry (take at buffer ++ (ys ++ drop (length buffer - at) (drop at buffer))) (cs ++ c ∷ [])
    unfolding rows
    written_row c h ys e =
        written_lent (c ∷ []) (even_one mark signals c h) ys
        (e ∙ ap₂ (λ (l : List ℕ) (k : ℕ). l ++ drop k (take (length buffer - at) (drop at buffer))) (sym (append-nil (row mark c))) (sym (one-mul (row_width signals))))

-- ---- the window

module _ (m : Meaning) where
  abbrev all : List Cycle
  all = cycles_of (length m.signals) m.run

  -- as many rows are shown as are due
  pub seen_count : (first wanted : ℕ) → length (seen first wanted all) ≡ rows_due m first wanted
  unfolding rows_due
  seen_count first wanted = length_seen first wanted all ∙ ap (λ (k : ℕ). min wanted (k - first)) (rows_are_cycles (length m.signals) m.run)

  -- whoever asks for those alone sees them all
  pub seen_due_all : (first wanted : ℕ) → seen first (rows_due m first wanted) all ≡ seen first wanted all
  unfolding rows_due
  seen_due_all first wanted =
      ap (λ (k : ℕ). seen first (min wanted (k - first)) all) (sym (rows_are_cycles (length m.signals) m.run)) ∙ seen_due first wanted all

  -- THE WINDOW: where there is room, the rows of what is seen are written
  pub window_written : (text : List ℕ) → meaning text ≡ given m → (first wanted mark : ℕ) → bad_mark mark ≡ false → (entry buffer : List ℕ)
      → rows_due m first wanted * width_of m ≤ length entry → Written mark (length m.signals) entry buffer (seen first wanted all)
      → window text first wanted mark entry ≡ given (record { count = rows_due m first wanted; visits = visits 0 m.run first; buffer = buffer })
  unfolding window answering window_of rows_out width_of
  window_written text e first wanted mark good entry buffer h x =
      let b : window_rows m first wanted mark ++ drop (rows_due m first wanted * width_of m) entry ≡ buffer =
      ap₂ (λ (l : List ℕ) (k : ℕ). l ++ drop (k * width_of m) entry) (window_rows_lem m mark first wanted) (sym (seen_count first wanted)) ∙ sym x.is in
      ap (λ (a : Answer Meaning). answering a λ m. window_of m first wanted mark entry) e
      ∙ rw (good, le-leb (rows_due m first wanted * width_of m) (length entry) h, window_of, rows_out)
      (ap (λ (l : List ℕ). given (record { count = rows_due m first wanted; visits = visits 0 m.run first; buffer = l })) b)
