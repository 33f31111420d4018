-- What an intake does with a raw text, however it is cut (request 3).
use Prim.Native.Nat.{ℕ, ◌+◌, ◌≤◌}
use native.Mathlib.Nat.{zero-add}
use native.Mathlib.Omega.{arith}
use mathlib.Core.Path.{◌≡◌, refl, sym, ap, ◌∙◌}
use mathlib.Core.Bool.{Bool, true, false}
use mathlib.Core.Logic.{◌↔◌, ◌⊎◌, inl, inr}
use mathlib.Core.Option.{Option, none, some}
use mathlib.Core.List.{List, [], ◌++◌}
use lib.ListN.{length, take, drop, length-append}
use lib.Seq.{take_at}
use Rattle.tokens.specs.Refusals.{text_most, bad_byte, open_comment}
use Rattle.tokens.specs.Tokens.{plain, toks, fault_in, fault_of}
use Rattle.tokens.proofs.Faults.{short_clean}
use Rattle.intake.specs.declared.Intake.{Intake}
use Rattle.intake.specs.Squeezed.{squeezed}
use Rattle.intake.specs.Intake.{Progress, open_at, refused_with, closed_at, raw_most, no_store, room_of, lacks, Taken, on, refused, takes, written, after_taking, chunked, last_bytes, closing, after_closing, closed, begun}
use Rattle.std.specs.Prelude.{Ok, Err}
use Rattle.intake.specs.declared.Stage.TheVariants.{Open, Closed}
use Rattle.intake.specs.Calls.{calls, all_chunks, intake, words_of}
use Rattle.intake.specs.Answers.{passes}
use Rattle.intake.proofs.Bytes.{lacks_fits, lacks_not}
use Rattle.intake.proofs.Stores.{Within, written_more}
use Rattle.intake.proofs.Turns.{Takes, Closes, closed_in_comment, closed_no_room, closed_closes}
use Rattle.intake.proofs.Pieces.{rest, fault}
use Rattle.intake.proofs.Stands.{in_plain, no_run, Reads}
use Rattle.intake.proofs.Whole.{Through, Passes, reads_through, reads_pass}
use Rattle.intake.proofs.Same.{squeezed_same}
use Rattle.intake.proofs.Joined.{calls_refused, calls_closed, Called, calls_is, within_store, same_room, Ends, shut, open_still, reads_ends}

-- ---- a refused call writes nothing, and what is refused or closed stays so

untouched : (store : List ℕ) (at : ℕ) (t : Taken) (n q : ℕ) → (after_taking store at t).0 ≡ refused_with n q → (after_taking store at t).1 ≡ store
unfolding after_taking
untouched store at (on x a) n q e = cc
untouched store at (refused m p) n q e = refl

untouched_close : (store : List ℕ) (at : ℕ) (t : Taken) (n q : ℕ) → (after_closing store at t).0 ≡ refused_with n q → (after_closing store at t).1 ≡ store
unfolding after_closing
untouched_close store at (on x a) n q e = cc
untouched_close store at (refused m p) n q e = refl

pub refused_untouched : (p : Progress) (chunk store : List ℕ) (n q : ℕ) → (chunked p chunk store).0 ≡ refused_with n q → (chunked p chunk store).1 ≡ store
unfolding chunked
refused_untouched (Ok (Open x)) chunk store n q e = untouched store x.stored (takes (room_of store) x chunk) n q e
refused_untouched (Err r) chunk store n q e = refl
refused_untouched (Ok (Closed m)) chunk store n q e = refl

pub refused_close_untouched : (p : Progress) (store : List ℕ) (n q : ℕ) → (closed p store).0 ≡ refused_with n q → (closed p store).1 ≡ store
unfolding closed
refused_close_untouched (Ok (Open x)) store n q e = untouched_close store x.stored (closing (room_of store) x) n q e
refused_close_untouched (Err r) store n q e = refl
refused_close_untouched (Ok (Closed m)) store n q e = refl

-- any later calls, and a close behind them, where the intake is refused or closed
pub record Repeats (p : Progress) : Type 0 where
  pub chunks : (cs : List (List ℕ)) (store : List ℕ) → calls p cs store ≡ (p, store)
  pub close : (store : List ℕ) → closed p store ≡ (p, store)

pub repeats : (p : Progress) → ((x : Intake) → p ≡ open_at x → ⊥) → Repeats p
unfolding closed
repeats (Ok (Open x)) h = absurd (h x refl)
repeats (Err r) h = record { chunks = calls_refused r.no r.place; close = λ store. refl }
repeats (Ok (Closed n)) h = record { chunks = calls_closed n; close = λ store. refl }

-- ---- however the text is cut

abbrev start : Intake
start = record { taken = 0; stored = 0; run = 0; mode = 0; opening = 0 }

reads_start : Reads start plain 0 [] none
reads_start = record { stands = in_plain refl; runs = no_run refl; placed = refl }

-- what all the bytes at once do, and the close behind them
abbrev finish : List ℕ → Taken → Progress × List ℕ
finish store (on y a) = closed (open_at y) (written store 0 a)
finish store (refused n p) = (refused_with n p, store)

abbrev pub Alike : Progress × List ℕ → Progress × List ℕ → Type 0
Alike r q = (r.0 ≡ q.0) × ((n : ℕ) → r.0 ≡ closed_at n → r.1 ≡ q.1)

finishes : (cs : List (List ℕ)) (store : List ℕ) → Alike (intake cs store) (finish store (takes (room_of store) start (all_chunks cs)))
unfolding intake closed
finishes cs store = by (takes (room_of store) start (all_chunks cs)) (calls begun cs store) (calls_is reads_start cs store)
  where
    by : (t : Taken) (z : Progress × List ℕ) → Called store 0 t z → Alike (closed z.0 z.1) (finish store t)
    by (on y a) z c = (ap (λ (w : Progress × List ℕ). (closed w.0 w.1).0) c, λ n h. ap (λ (w : Progress × List ℕ). (closed w.0 w.1).1) c)
    by (refused n p) z c =
        let e : (closed z.0 z.1).0 ≡ refused_with n p = ap (λ (w : Progress). (closed w z.1).0) c in
        (e, λ m h. cc)

-- the final answer is the same, and the store if nothing is refused
pub cut_alike : (cs ds : List (List ℕ)) (store : List ℕ) → all_chunks cs ≡ all_chunks ds → Alike (intake cs store) (intake ds store)
cut_alike cs ds store e =
    let f = finishes cs store in
    let g = finishes ds store in
    let k : finish store (takes (room_of store) start (all_chunks cs)) ≡ finish store (takes (room_of store) start (all_chunks ds)) =
    ap (λ (s : List ℕ). finish store (takes (room_of store) start s)) e in
    let a : (intake cs store).0 ≡ (intake ds store).0 = f.0 ∙ ap (λ (z : Progress × List ℕ). z.0) k ∙ sym g.0 in
    (a, λ n h. f.1 n h ∙ ap (λ (z : Progress × List ℕ). z.1) k ∙ sym (g.1 n (sym a ∙ h)))

-- ---- the text squeezed

-- a raw text that is not too long, clean, and squeezed has room
pub record Fitting (raw store : List ℕ) : Type 0 where
  pub short : length raw ≤ raw_most
  pub clean : fault_in (toks raw 0) ≡ none
  pub roomy : length (squeezed raw) ≤ room_of store

-- the close gives the squeezed text's length, which stands at the store's front; behind it stands what was there
pub record Squeezes (raw store : List ℕ) (n : ℕ) (after : List ℕ) : Type 0 where
  pub fitting : Fitting raw store
  pub size : n ≡ length (squeezed raw)
  pub filled : after ≡ squeezed raw ++ drop n store

module _ (raw store : List ℕ) where
  written_front : (xs : List ℕ) → written store 0 xs ≡ xs ++ drop (length xs) store
  unfolding written
  written_front xs = rw (zero-add (length xs))

  module _ (y : Intake) (a : List ℕ) (g : Through (room_of store) start plain 0 raw (length raw) none y a) where
    -- what was added, then what waits, is the squeezed text
    module _ (w : last_bytes y ≡ rest g.run g.mode g.place g.held) where
      whole : a ++ last_bytes y ≡ squeezed raw
      unfolding squeezed
      whole = rw w g.becomes

      whole_length : y.stored + length (last_bytes y) ≡ length (squeezed raw)
      whole_length = omega (arith, ap length whole, length-append a (last_bytes y), g.stored)

      whole_written : written (written store 0 a) y.stored (last_bytes y) ≡ squeezed raw ++ drop (length (squeezed raw)) store
      whole_written =
          ap (λ (n : ℕ). written (written store 0 a) n (last_bytes y)) g.stored
          ∙ written_more store 0 a (last_bytes y) (within_store store 0 (length a) g.within)
          ∙ ap (written store 0) whole
          ∙ written_front (squeezed raw)

      -- the room for what waits is the room for all
      roomy_all : lacks (room_of (written store 0 a)) y.stored (length (last_bytes y)) ≡ false → length (squeezed raw) ≤ room_of store
      roomy_all h = by (lacks_fits (room_of store) y.stored (length (last_bytes y)) (rw (same_room store 0 a g.within) at h)) g.within
        where
          by : Within (room_of store) y.stored (length (last_bytes y)) → Within (room_of store) 0 (length a) → length (squeezed raw) ≤ room_of store
          by (inr k) v = omega (arith, whole_length)
          by (inl k) (inl v) = omega (arith, whole_length, g.stored)
          by (inl k) (inr v) = omega (arith, whole_length, g.stored)

      all_roomy : length (squeezed raw) ≤ room_of store → lacks (room_of (written store 0 a)) y.stored (length (last_bytes y)) ≡ false
      all_roomy h = rw (same_room store 0 a g.within) (lacks_not (room_of store) y.stored (length (last_bytes y)) (omega (arith, whole_length)))

    closes_squeezed : (n : ℕ) → (closed (open_at y) (written store 0 a)).0 ≡ closed_at n → Squeezes raw store n (closed (open_at y) (written store 0 a)).1
    unfolding toks
    closes_squeezed n h = by (reads_ends g.reads)
      where
        by : Ends y g.mode g.place g.held g.run → Squeezes raw store n (closed (open_at y) (written store 0 a)).1
        by (open_still e f) =
            let k = closed_in_comment (written store 0 a) y e in
            let l : (closed (open_at y) (written store 0 a)).0 ≡ refused_with open_comment y.opening = ap (λ (z : Progress × List ℕ). z.0) k in
            let z : ◌≡◌ {A = ℕ} 0 1 = cc in
            absurd (omega arith)
        by (shut e f w) = at_end (lacks (room_of (written store 0 a)) y.stored (length (last_bytes y))) refl
          where
            at_end : (t : Bool) → lacks (room_of (written store 0 a)) y.stored (length (last_bytes y)) ≡ t
                → Squeezes raw store n (closed (open_at y) (written store 0 a)).1
            at_end true q =
                let k = closed_no_room (written store 0 a) y e q in
                let l : (closed (open_at y) (written store 0 a)).0 ≡ refused_with no_store y.taken = ap (λ (z : Progress × List ℕ). z.0) k in
                let z : ◌≡◌ {A = ℕ} 0 1 = cc in
                absurd (omega arith)
            at_end false q =
                let k = closed_closes (written store 0 a) y e q in
                let l : (closed (open_at y) (written store 0 a)).0 ≡ closed_at (y.stored + length (last_bytes y)) = ap (λ (z : Progress × List ℕ). z.0) k in
                let c : n ≡ y.stored + length (last_bytes y) = cc in
                let d : n ≡ length (squeezed raw) = c ∙ whole_length w in
                record {
                  fitting = record { short = omega (arith, g.short (omega arith)); clean = sym g.faults ∙ f; roomy = roomy_all w q };
                  size = d;
                  filled =
                      ap (λ (z : Progress × List ℕ). z.1) k ∙ whole_written w ∙ ap (λ (m : ℕ). squeezed raw ++ drop m store) (sym d);
                }

    squeezed_closes : fault_in (toks raw 0) ≡ none → length (squeezed raw) ≤ room_of store
        → (closed (open_at y) (written store 0 a)).0 ≡ closed_at (length (squeezed raw))
    unfolding toks
    squeezed_closes c h = by (reads_ends g.reads)
      where
        by : Ends y g.mode g.place g.held g.run → (closed (open_at y) (written store 0 a)).0 ≡ closed_at (length (squeezed raw))
        by (open_still e f) =
            let k : ◌≡◌ {A = Option (ℕ × ℕ)} none (some (open_comment, y.opening)) = sym c ∙ sym g.faults ∙ f in
            let z : ◌≡◌ {A = ℕ} 0 1 = cc in
            absurd (omega arith)
        by (shut e f w) = ap (λ (z : Progress × List ℕ). z.0) (closed_closes (written store 0 a) y e (all_roomy w h)) ∙ ap closed_at (whole_length w)

  finish_squeezed : (t : Taken) → Passes (room_of store) start plain 0 raw (length raw) none t → (n : ℕ) → (finish store t).0 ≡ closed_at n
      → Squeezes raw store n (finish store t).1
  finish_squeezed (on y a) g n h = closes_squeezed y a g n h
  finish_squeezed (refused m p) g n h = let z : ◌≡◌ {A = ℕ} 0 1 = cc in absurd (omega arith)

  squeezed_finish : (t : Taken) → Passes (room_of store) start plain 0 raw (length raw) none t → passes t ≡ true → Fitting raw store
      → (finish store t).0 ≡ closed_at (length (squeezed raw))
  unfolding passes
  squeezed_finish (on y a) g k f = squeezed_closes y a g f.clean f.roomy
  squeezed_finish (refused m p) g k f = cc

  fitting_passes : Fitting raw store → passes (takes (room_of store) start raw) ≡ true
  unfolding squeezed toks
  fitting_passes f =
      reads_pass (room_of store) reads_start raw (omega (arith, f.short)) f.clean (omega (arith, f.roomy))

-- the close gives a length only if the raw text fits, and then that of the squeezed text, which the store then holds
pub closed_squeezed : (cs : List (List ℕ)) (store : List ℕ) (n : ℕ) → (intake cs store).0 ≡ closed_at n
    → Squeezes (all_chunks cs) store n (intake cs store).1
closed_squeezed cs store n h =
    let raw = all_chunks cs in
    let f = finishes cs store in
    let s = finish_squeezed raw store (takes (room_of store) start raw) (reads_through (room_of store) reads_start raw) n (sym f.0 ∙ h) in
    record { fitting = s.fitting; size = s.size; filled = f.1 n h ∙ s.filled }

-- and every raw text that fits is closed
fitting_closed : (cs : List (List ℕ)) (store : List ℕ) → Fitting (all_chunks cs) store → (intake cs store).0 ≡ closed_at (length (squeezed (all_chunks cs)))
fitting_closed cs store f =
    let raw = all_chunks cs in
    (finishes cs store).0
    ∙ squeezed_finish raw store (takes (room_of store) start raw) (reads_through (room_of store) reads_start raw) (fitting_passes raw store f) f

-- the answer is a length exactly where the raw text fits, and it is that of the squeezed text
pub squeezes : (cs : List (List ℕ)) (store : List ℕ) (n : ℕ)
    → ((intake cs store).0 ≡ closed_at n) ↔ ((n ≡ length (squeezed (all_chunks cs))) × Fitting (all_chunks cs) store)
squeezes cs store n =
    (λ h. let s = closed_squeezed cs store n h in (s.size, s.fitting), λ f. fitting_closed cs store f.1 ∙ ap closed_at (sym f.0))

-- ---- refusals 2 and 3 are the raw text's own fault, at its place

no_of : Progress → ℕ
no_of (Ok s) = 0
no_of (Err r) = r.no

place_of : Progress → ℕ
place_of (Ok s) = 0
place_of (Err r) = r.place

module _ (raw store : List ℕ) where
  close_refused : (y : Intake) (a : List ℕ) → Through (room_of store) start plain 0 raw (length raw) none y a → (n q : ℕ)
      → (closed (open_at y) (written store 0 a)).0 ≡ refused_with n q → (n ≡ bad_byte) ⊎ (n ≡ open_comment) → fault_in (toks raw 0) ≡ some (n, q)
  unfolding toks no_of place_of
  close_refused y a g n q h d = by (reads_ends g.reads)
    where
      other : (m : ℕ) → n ≡ m → (m ≡ bad_byte → ⊥) → (m ≡ open_comment → ⊥) → ⊥
      other m e f o = either d
        where
          either : (n ≡ bad_byte) ⊎ (n ≡ open_comment) → ⊥
          either (inl k) = f (sym e ∙ k)
          either (inr k) = o (sym e ∙ k)

      by : Ends y g.mode g.place g.held g.run → fault plain 0 raw ≡ some (n, q)
      by (open_still e f) =
          let l : (closed (open_at y) (written store 0 a)).0 ≡ refused_with open_comment y.opening =
          ap (λ (z : Progress × List ℕ). z.0) (closed_in_comment (written store 0 a) y e) in
          let d : refused_with open_comment y.opening ≡ refused_with n q = sym l ∙ h in
          let u : open_comment ≡ n = ap no_of d in
          let v : y.opening ≡ q = ap place_of d in
          sym g.faults ∙ f ∙ rw (u, v)
      by (shut e f w) = at_end (lacks (room_of (written store 0 a)) y.stored (length (last_bytes y))) refl
        where
          at_end : (t : Bool) → lacks (room_of (written store 0 a)) y.stored (length (last_bytes y)) ≡ t → fault plain 0 raw ≡ some (n, q)
          at_end true k =
              let l : (closed (open_at y) (written store 0 a)).0 ≡ refused_with no_store y.taken =
              ap (λ (z : Progress × List ℕ). z.0) (closed_no_room (written store 0 a) y e k) in
              let u : n ≡ no_store = ap no_of (sym h ∙ l) in
              absurd (other no_store u (λ z. omega arith) (λ z. omega arith))
          at_end false k =
              let l : (closed (open_at y) (written store 0 a)).0 ≡ closed_at (y.stored + length (last_bytes y)) =
              ap (λ (z : Progress × List ℕ). z.0) (closed_closes (written store 0 a) y e k) in
              let z : ◌≡◌ {A = ℕ} 0 1 = cc in
              absurd (omega arith)

  finish_refused : (t : Taken) → Passes (room_of store) start plain 0 raw (length raw) none t → (n q : ℕ) → (finish store t).0 ≡ refused_with n q
      → (n ≡ bad_byte) ⊎ (n ≡ open_comment) → fault_in (toks raw 0) ≡ some (n, q)
  unfolding toks no_of place_of
  finish_refused (on y a) g n q h d = close_refused y a g n q h d
  finish_refused (refused m p) g n q h d = by d
    where
      by : (n ≡ bad_byte) ⊎ (n ≡ open_comment) → fault plain 0 raw ≡ some (n, q)
      by (inl k) =
          let u : m ≡ n = ap no_of h in
          let v : p ≡ q = ap place_of h in
          g.0 (u ∙ k) ∙ rw (v, k)
      by (inr k) =
          let u : m ≡ n = ap no_of h in
          absurd (g.1 (u ∙ k))

pub refused_as_read : (cs : List (List ℕ)) (store : List ℕ) (n q : ℕ) → (intake cs store).0 ≡ refused_with n q → (n ≡ bad_byte) ⊎ (n ≡ open_comment)
    → fault_in (toks (all_chunks cs) 0) ≡ some (n, q)
refused_as_read cs store n q h d =
    let raw = all_chunks cs in
    finish_refused raw store (takes (room_of store) start raw) (reads_through (room_of store) reads_start raw) n q (sym (finishes cs store).0 ∙ h) d

-- ---- the store reads as the same tokens

room_most_lem : (store : List ℕ) → room_of store ≤ text_most
unfolding room_of
room_most_lem store = omega arith

pub same_tokens : (raw : List ℕ) → fault_in (toks raw 0) ≡ none
    → (words_of (toks (squeezed raw) 0) ≡ words_of (toks raw 0)) × (fault_in (toks (squeezed raw) 0) ≡ none)
same_tokens raw clean = squeezed_same raw clean

-- a closed store's first n bytes are a text of the document's length with no fault, and have the raw text's tokens
pub store_reads : (cs : List (List ℕ)) (store : List ℕ) (n : ℕ) → (intake cs store).0 ≡ closed_at n
    → (words_of (toks (take n (intake cs store).1) 0) ≡ words_of (toks (all_chunks cs) 0)) × (fault_of (take n (intake cs store).1) ≡ none)
store_reads cs store n h =
    let s = closed_squeezed cs store n h in
    let text = squeezed (all_chunks cs) in
    let t : take n (intake cs store).1 ≡ text = rw s.filled (take_at text (drop n store) n (sym s.size)) in
    let k = same_tokens (all_chunks cs) s.fitting.clean in
    rw t (k.0, short_clean text (omega (arith, s.fitting.roomy, room_most_lem store)) k.1)

-- ---- the contracts allow one answer and one store

pub one_answer : (p : Progress) (chunk store : List ℕ) {r q : Progress} {after other : List ℕ} → Takes p chunk store r after → Takes p chunk store q other
    → (r ≡ q) × (after ≡ other)
one_answer p chunk store a b = (a.0 ∙ sym b.0, a.1 ∙ sym b.1)

pub one_close : (p : Progress) (store : List ℕ) {r q : Progress} {after other : List ℕ} → Closes p store r after → Closes p store q other
    → (r ≡ q) × (after ≡ other)
one_close p store a b = (a.0 ∙ sym b.0, a.1 ∙ sym b.1)

-- ---- the last answer is a refusal or a length

never_open : (store : List ℕ) (at : ℕ) (t : Taken) (x : Intake) → (after_closing store at t).0 ≡ open_at x → ⊥
unfolding after_closing
never_open store at (on y a) x e = let z : ◌≡◌ {A = ℕ} 0 1 = cc in omega arith
never_open store at (refused n p) x e = let z : ◌≡◌ {A = ℕ} 0 1 = cc in omega arith

pub close_answers : (p : Progress) (store : List ℕ) (x : Intake) → (closed p store).0 ≡ open_at x → ⊥
unfolding closed
close_answers (Ok (Open y)) store x e = never_open store y.stored (closing (room_of store) y) x e
close_answers (Err r) store x e = let z : ◌≡◌ {A = ℕ} 0 1 = cc in omega arith
close_answers (Ok (Closed n)) store x e = let z : ◌≡◌ {A = ℕ} 0 1 = cc in omega arith
