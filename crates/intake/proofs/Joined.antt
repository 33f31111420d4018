-- Calls one after the other do what one call with all the bytes does; the close behind them.
use Prim.Native.Nat.{ℕ, ◌+◌, min}
use native.Mathlib.Omega.{arith}
use mathlib.Core.Path.{◌≡◌, refl, sym, ap, ◌∙◌}
use mathlib.Core.Bool.{Bool, true, false, ◌||◌}
use mathlib.Core.Logic.{inl, inr}
use mathlib.Core.Option.{Option, none, some}
use mathlib.Core.List.{List, [], ◌∷◌, ◌++◌, append_assoc, append-nil}
use lib.ListN.{length}
use lib.Dec.{eqb}
use borrow.Author.Tests.{eqb-true, eqb-false}
use Rattle.tokens.specs.Refusals.{text_most, open_comment}
use Rattle.tokens.specs.Tokens.{Mode, plain, block, ended, lex, fault_in}
use Rattle.tokens.proofs.Reading.{slash_does, block_does}
use Rattle.tokens.specs.Written.{starts, cases}
use Rattle.intake.specs.declared.Intake.{Intake}
use Rattle.intake.specs.Squeezed.{pieces, of_run, joined_runs}
use Rattle.intake.specs.Intake.{Progress, open_at, refused_with, closed_at, room_of, is_block, is_star, waiting, step, refusal, Taken, on, refused, behind, takes, written, after_taking, chunked, last_bytes}
use Rattle.intake.specs.Calls.{calls, all_chunks}
use Rattle.intake.proofs.Stores.{Within, written_none, written_more, written_length, room_least}
use Rattle.intake.proofs.Turns.{takes_on, takes_refused}
use Rattle.intake.proofs.Pieces.{rest, fault, token_kept, token_fault, fault_goes}
use Rattle.intake.proofs.Stands.{Stands, in_plain, at_slash, in_line_lem, in_block_lem, at_star, Reads, runs_waiting, star_good}
use Rattle.intake.proofs.Whole.{Passes, reads_through}

-- ---- bytes behind bytes

abbrev then_takes : Taken → (Intake → Taken) → Taken
then_takes (on y a) f = behind a (f y)
then_takes (refused n p) f = refused n p

behind_none : (t : Taken) → t ≡ behind [] t
unfolding behind
behind_none (on x a) = refl
behind_none (refused n p) = refl

behind_then : (a : List ℕ) (t : Taken) (f : Intake → Taken) → behind a (then_takes t f) ≡ then_takes (behind a t) f
unfolding behind
behind_then a (on y m) f = by (f y)
  where
    by : (t : Taken) → behind a (behind m t) ≡ behind (a ++ m) t
    by (on x n) = ap (on x) (sym (append_assoc a m n))
    by (refused n p) = refl
behind_then a (refused n p) f = refl

module _ (room : ℕ) where
  takes_join : (x : Intake) (s t : List ℕ) → takes room x (s ++ t) ≡ then_takes (takes room x s) (λ y. takes room y t)
  unfolding takes
  takes_join x [] t = behind_none (takes room x t)
  takes_join x (b ∷ s) t = by (eqb (refusal room x b) 0) refl (takes_join (step x b).intake s t)
    where
      by : (c : Bool) → eqb (refusal room x b) 0 ≡ c
          → takes room (step x b).intake (s ++ t) ≡ then_takes (takes room (step x b).intake s) (λ y. takes room y t)
          → takes room x (b ∷ (s ++ t)) ≡ then_takes (takes room x (b ∷ s)) (λ y. takes room y t)
      by true e ih =
          let q = eqb-true (refusal room x b) 0 e in
          takes_on room x b (s ++ t) q
          ∙ ap (behind (step x b).adds) ih
          ∙ behind_then (step x b).adds (takes room (step x b).intake s) (λ y. takes room y t)
          ∙ ap (λ (z : Taken). then_takes z (λ y. takes room y t)) (sym (takes_on room x b s q))
      by false e ih =
          let q = eqb-false (refusal room x b) 0 e in
          takes_refused room x b (s ++ t) q ∙ ap (λ (z : Taken). then_takes z (λ y. takes room y t)) (sym (takes_refused room x b s q))

-- ---- calls

-- behind a refusal or the close nothing changes
pub calls_refused : (n q : ℕ) (cs : List (List ℕ)) (store : List ℕ) → calls (refused_with n q) cs store ≡ (refused_with n q, store)
unfolding calls chunked
calls_refused n q [] store = refl
calls_refused n q (c ∷ cs) store = calls_refused n q cs store

pub calls_closed : (n : ℕ) (cs : List (List ℕ)) (store : List ℕ) → calls (closed_at n) cs store ≡ (closed_at n, store)
unfolding calls chunked
calls_closed n [] store = refl
calls_closed n (c ∷ cs) store = calls_closed n cs store

-- what all the bytes do, from the place `at` of the store on, is what the calls did; a refusal tells nothing of the store
abbrev pub Called : List ℕ → ℕ → Taken → Progress × List ℕ → Type 0
Called store at (on y a) r = r ≡ (open_at y, written store at a)
Called store at (refused n p) r = r.0 ≡ refused_with n p

pub within_store : (store : List ℕ) (at n : ℕ) → Within (room_of store) at n → Within (length store) at n
within_store store at n (inl e) = inl e
within_store store at n (inr h) = inr (omega (arith, room_least store))

pub same_room : (store : List ℕ) (at : ℕ) (a : List ℕ) → Within (room_of store) at (length a) → room_of (written store at a) ≡ room_of store
unfolding room_of
same_room store at a h = ap (min text_most) (written_length store at a (within_store store at (length a) h))

called_behind : (store : List ℕ) (at : ℕ) (a : List ℕ) (next : ℕ) (t : Taken) (r : Progress × List ℕ) → Within (length store) at (length a)
    → next ≡ at + length a → Called (written store at a) next t r → Called store at (behind a t) r
unfolding behind
called_behind store at a next (on y m) r h e c = c ∙ ap (λ (l : List ℕ). (open_at y, l)) (rw e (written_more store at a m h))
called_behind store at a next (refused n p) r h e c = c

pub calls_is : {x : Intake} {m : Mode} {p : ℕ} {held : List ℕ} {r : Option Bool} → Reads x m p held r → (cs : List (List ℕ)) (store : List ℕ)
    → Called store x.stored (takes (room_of store) x (all_chunks cs)) (calls (open_at x) cs store)
unfolding takes calls all_chunks chunked after_taking
calls_is {x} k [] store = ap (λ (l : List ℕ). (open_at x, l)) (sym (written_none store x.stored))
calls_is {x} {m} {p} {held} {r} k (c ∷ cs) store =
    rw (takes_join (room_of store) x c (all_chunks cs))
    (by (takes (room_of store) x c) (reads_through (room_of store) k c) (λ y n q h t l after. calls_is {x = y} {m = n} {p = q} {held = h} {r = t} l cs after))
  where
    by : (t : Taken) → Passes (room_of store) x m p (held ++ c) (length c) r t
        → ((y : Intake) (n : Mode) (q : ℕ) (h : List ℕ) (u : Option Bool) → Reads y n q h u → (after : List ℕ)
        → Called after y.stored (takes (room_of after) y (all_chunks cs)) (calls (open_at y) cs after))
        → Called store x.stored (then_takes t (λ y. takes (room_of store) y (all_chunks cs)))
        (calls (after_taking store x.stored t).0 cs (after_taking store x.stored t).1)
    by (on y a) g ih =
        let w = within_store store x.stored (length a) g.within in
        let next = ih y g.mode g.place g.held g.run g.reads (written store x.stored a) in
        called_behind store x.stored a y.stored (takes (room_of store) y (all_chunks cs)) _ w g.stored
        (rw (same_room store x.stored a g.within) at next)
    by (refused n q) g ih = ap (λ (z : Progress × List ℕ). z.0) (calls_refused n q cs store)

-- ---- the end of the text

-- no comment is open: no fault, and what waits is what becomes of the rest; or one is, and that is the fault
pub data Ends (y : Intake) (m : Mode) (p : ℕ) (held : List ℕ) (r : Option Bool) : Type 0 where
  shut : (eqb y.mode is_block || eqb y.mode is_star) ≡ false → fault m p held ≡ none → last_bytes y ≡ rest r m p held → Ends y m p held r
  open_still : (eqb y.mode is_block || eqb y.mode is_star) ≡ true → fault m p held ≡ some (open_comment, y.opening) → Ends y m p held r

pub reads_ends : {y : Intake} {m : Mode} {p : ℕ} {held : List ℕ} {r : Option Bool} → Reads y m p held r → Ends y m p held r
unfolding last_bytes lex ended fault_in pieces joined_runs of_run cases starts
reads_ends {y} {m} {p} {held} {r} k = by k.stands
  where
    by : {m : Mode} {held : List ℕ} → Stands y p m held → Ends y m p held r
    by (in_plain e) = shut (rw e) refl (rw e (append-nil (waiting y.run) ∙ runs_waiting k.runs))
    by (at_slash e o) =
        shut (rw e) (token_fault p 47 [] (47 ∷ []) plain refl (slash_does p []))
        (rw e (ap (λ (l : List ℕ). l ++ 47 ∷ []) (runs_waiting k.runs) ∙ sym (token_kept p 47 [] (47 ∷ []) plain refl (slash_does p []) r)))
    by (in_line_lem e) = shut (rw e) refl (rw e (append-nil (waiting y.run) ∙ runs_waiting k.runs))
    by (in_block_lem {q} e o) = open_still (rw e) (rw o)
    by (at_star {q} e o) = open_still (rw e) (fault_goes (block q) (block q) p 42 [] (block_does p 42 [] q star_good refl) ∙ rw o)
