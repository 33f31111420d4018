-- Bytes written to a store one behind the other.
use Prim.Native.Nat.{ℕ, ◌+◌, ◌≤◌, ◌<◌}
use native.Mathlib.Nat.{add-zero, add_assoc}
use native.Mathlib.Numerals.{add-one}
use native.Mathlib.Omega.{arith}
use mathlib.Core.Path.{◌≡◌, refl, sym, ap, ◌∙◌}
use mathlib.Core.Bool.{Bool, true, false, not, ◌&&◌}
use mathlib.Core.Logic.{◌⊎◌, inl, inr}
use mathlib.Core.List.{List, [], ◌∷◌, ◌++◌, append_assoc}
use lib.ListN.{length, take, drop, set, length-append, length-drop, take-append-drop}
use lib.Seq.{length-take-le, set_split, take_at, drop-drop, drop-append-add}
use lib.Dec.{eqb}
use Rattle.intake.specs.declared.Change.{Change}
use Rattle.intake.specs.Intake.{room_of, lacks, written}
use Rattle.intake.specs.Answers.{only_if, adds_of, Puts}
use Rattle.intake.proofs.Bytes.{lacks_none, lacks_not, lacks_fits}

-- n bytes from a place on lie within a store of length l, or are none
abbrev pub Within : ℕ → ℕ → ℕ → Type 0
Within l at n = (n ≡ 0) ⊎ (at + n ≤ l)

pub written_none : (s : List ℕ) (at : ℕ) → written s at [] ≡ s
unfolding written
written_none s at = rw add-zero (take-append-drop at s)

pub written_one : (s : List ℕ) (at b : ℕ) → at < length s → set s at b ≡ written s at (b ∷ [])
unfolding written
written_one s at b h = set_split s at b h ∙ rw add-one

past : (p q : List ℕ) (n m : ℕ) → length p ≡ n → drop (n + m) (p ++ q) ≡ drop m q
past p q n m e = rw (← e) (drop-append-add p q m)

module _ (s : List ℕ) (at : ℕ) (xs : List ℕ) where
  none_of : length xs ≡ 0 → xs ≡ []
  none_of = by xs
    where
      by : (l : List ℕ) → length l ≡ 0 → l ≡ []
      by [] e = refl
      by (b ∷ l) e = absurd (omega arith)

  front : at + length xs ≤ length s → length (take at s ++ xs) ≡ at + length xs
  front h = simp length-append (rw (length-take-le at s (omega arith)))

  pub written_length : Within (length s) at (length xs) → length (written s at xs) ≡ length s
  unfolding written
  written_length (inl e) = ap (λ (l : List ℕ). length (written s at l)) (none_of e) ∙ ap length (written_none s at)
  written_length (inr h) =
      simp length-append (rw (length-take-le at s (omega arith), length-drop (at + length xs) s) (omega arith))

  more_of_none : (ys : List ℕ) → xs ≡ [] → written (written s at xs) (at + length xs) ys ≡ written s at (xs ++ ys)
  more_of_none ys e =
      rw e (ap (λ (n : ℕ). written (written s at []) n ys) (add-zero at) ∙ ap (λ (l : List ℕ). written l at ys) (written_none s at))

  pub written_more : (ys : List ℕ) → Within (length s) at (length xs)
      → written (written s at xs) (at + length xs) ys ≡ written s at (xs ++ ys)
  unfolding written
  written_more ys (inl e) = more_of_none ys (none_of e)
  written_more ys (inr h) =
      rw (← append_assoc (take at s) xs (drop (at + length xs) s))
      (rw (
        take_at (take at s ++ xs) (drop (at + length xs) s) (at + length xs) (front h),
        past (take at s ++ xs) (drop (at + length xs) s) (at + length xs) (length ys) (front h),
        drop-drop (length ys) (at + length xs) s,
        length-append xs ys,
        ← add_assoc at (length xs) (length ys),
      )
      (simp append_assoc))

pub within_lacks : (l at n : ℕ) → Within l at n → lacks l at n ≡ false
within_lacks l at n (inl e) = lacks_none l at n e
within_lacks l at n (inr h) = lacks_not l at n h

-- what the room holds the store holds
pub lacks_more : (room l at n : ℕ) → room ≤ l → lacks room at n ≡ false → Within l at n
lacks_more room l at n h e = by (lacks_fits room at n e)
  where
    by : Within room at n → Within l at n
    by (inl z) = inl z
    by (inr f) = inr (omega arith)

pub room_least : (s : List ℕ) → room_of s ≤ length s
unfolding room_of
room_least s = omega arith

-- ---- puts

module _ {s : List ℕ} {at : ℕ} {xs : List ℕ} {r : ℕ} {t : List ℕ} (p : Puts s at xs r t) where
  pub puts_length : Within (length s) at (length xs) → length t ≡ length s
  puts_length h = ap length p.store ∙ written_length s at xs h

  pub puts_then : {ys : List ℕ} {q : ℕ} {u : List ℕ} → Within (length s) at (length xs) → Puts t r ys q u → Puts s at (xs ++ ys) q u
  puts_then {ys} {q} {u} h n =
      record {
        store = n.store ∙ rw (p.store, p.behind) (written_more s at xs ys h);
        behind = n.behind ∙ rw (p.behind, length-append xs ys) (omega arith);
      }

pub put_none : (s : List ℕ) (at b : ℕ) (due : Bool) → due ≡ false → Puts s at (only_if due b) at s
unfolding only_if
put_none s at b due e = rw e (record { store = sym (written_none s at); behind = omega arith })

pub put_one : (s : List ℕ) (at b : ℕ) (due : Bool) → due ≡ true → at < length s → Puts s at (only_if due b) (at + 1) (set s at b)
unfolding only_if
put_one s at b due e h = rw e (record { store = written_one s at b h; behind = refl })

-- ---- what a change sends: three parts, none of which goes past the room for all

due_one : (due : Bool) (b : ℕ) → due ≡ true → length (only_if due b) ≡ 1
unfolding only_if
due_one due b e = rw e

module _ (l at : ℕ) (xs ys : List ℕ) where
  first_within : Within l at (length (xs ++ ys)) → Within l at (length xs)
  first_within (inl e) = inl (omega (arith, length-append xs ys))
  first_within (inr h) = inr (omega (arith, length-append xs ys))

  rest_within : Within l at (length (xs ++ ys)) → Within l (at + length xs) (length ys)
  rest_within (inl e) = inl (omega (arith, length-append xs ys))
  rest_within (inr h) = inr (omega (arith, length-append xs ys))

-- a byte that is due lies within
due_within : (l at b : ℕ) (due : Bool) → Within l at (length (only_if due b)) → due ≡ true → at < l
due_within l at b due (inl e) d = absurd (omega (arith, due_one due b d))
due_within l at b due (inr h) d = omega (arith, due_one due b d)

module _ (run b : ℕ) (c : Change) where
  abbrev mark : List ℕ
  mark = only_if (c.mark && not (eqb run 0)) run

  abbrev slash : List ℕ
  slash = only_if c.slash 47

  module _ (s : List ℕ) (at : ℕ) (room : lacks (length s) at (length (adds_of run b c)) ≡ false) where
    all_within : Within (length s) at (length (mark ++ (slash ++ only_if c.kept b)))
    unfolding adds_of
    all_within = lacks_fits (length s) at _ room

    mark_within : Within (length s) at (length mark)
    mark_within = first_within (length s) at mark (slash ++ only_if c.kept b) all_within

    pub room_one : (c.mark && not (eqb run 0)) ≡ true → at < length s
    room_one due = due_within (length s) at run (c.mark && not (eqb run 0)) mark_within due

    module _ {r : ℕ} {t : List ℕ} (p : Puts s at mark r t) where
      behind_mark : Within (length t) r (length (slash ++ only_if c.kept b))
      behind_mark =
          rw (puts_length p mark_within, p.behind) (rest_within (length s) at mark (slash ++ only_if c.kept b) all_within)

      slash_within : Within (length t) r (length slash)
      slash_within = first_within (length t) r slash (only_if c.kept b) behind_mark

      pub room_two : c.slash ≡ true → r < length t
      room_two due = due_within (length t) r 47 c.slash slash_within due

      module _ {q : ℕ} {u : List ℕ} (m : Puts t r slash q u) where
        behind_slash_lem : Within (length u) q (length (only_if c.kept b))
        behind_slash_lem = rw (puts_length m slash_within, m.behind) (rest_within (length t) r slash (only_if c.kept b) behind_mark)

        pub room_three : c.kept ≡ true → q < length u
        room_three due = due_within (length u) q b c.kept behind_slash_lem due

        pub put_three : {e : ℕ} {v : List ℕ} → Puts u q (only_if c.kept b) e v → Puts s at (adds_of run b c) e v
        unfolding adds_of
        put_three n = puts_then p mark_within (puts_then m slash_within n)
