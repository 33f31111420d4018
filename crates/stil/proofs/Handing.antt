-- An answer as a caller in C has it: one number, and the answer's numbers at the front of a buffer.
use Prim.Native.Nat.{ℕ, ◌+◌, ◌*◌, ◌≤◌, ◌<◌}
use mathlib.Core.Path.{◌≡◌, refl, ap, ◌∙◌}
use mathlib.Core.Bool.{Bool, true, false, ◌||◌}
use mathlib.Core.List.{List, [], ◌∷◌}
use lib.Dec.{leb, ltb}
use lib.ListN.{length, set}
use borrow.Author.Tests.{le-leb, lt-leb}
use Rattle.tokens.specs.Refusals.{text_most}
use Rattle.meaning.specs.Refusals.{no_room}
use Rattle.meaning.specs.Timing.{Event}
use Rattle.meaning.specs.Meaning.{Answer, given, refused, answering}
use Rattle.meaning.specs.Services.{Waveform, waveform}
use Rattle.data.specs.Filled.{over}
use Rattle.data.proofs.Over.{over_set, over_fits}
use Rattle.texts.specs.Told.{packed_refusal}
use Rattle.verdicts.specs.Buffers.{afterwards}
use Rattle.stil.specs.Interface.{with_room, packed, fronted, Hands, Draws}
use Rattle.services.specs.Waveforms.{events_of, Shows}
use Rattle.services.proofs.Shaping.{waveform_full, waveform_given}

-- ---- a refusal as one number

pub packed_near : (n p : ℕ) → p ≤ text_most → p * 32 + n ≡ packed_refusal n p
packed_near n p h = rw (le-leb p text_most h, packed_refusal)

pub packed_far : (n p : ℕ) → text_most < p → n ≡ packed_refusal n p
packed_far n p h = rw (lt-leb p text_most h, packed_refusal)

pub packed_refused : {A : Type 0} {a : Answer A} {n p r : ℕ} → refused n p ≡ a → r ≡ packed_refusal n p → r ≡ packed a
unfolding packed
packed_refused e h = rw (← e) h

pub packed_given : {A : Type 0} {a : Answer A} {x : A} → given x ≡ a → 0 ≡ packed a
unfolding packed
packed_given e = rw (← e)

-- ---- numbers stored one by one

module _ (l : List ℕ) (a b : ℕ) where
  over_two : set (set l 0 a) 1 b ≡ over (a ∷ b ∷ []) l
  unfolding over
  over_two = ap (λ (m : List ℕ). set m 1 b) (over_set [] l a) ∙ over_set (a ∷ []) l b

  pub two_stored : 2 ≤ length l → set (set l 0 a) 1 b ≡ fronted (a ∷ b ∷ []) l
  two_stored h = over_two ∙ over_fits (a ∷ b ∷ []) l h

  over_three : (c : ℕ) → set (set (set l 0 a) 1 b) 2 c ≡ over (a ∷ b ∷ c ∷ []) l
  over_three c = ap (λ (m : List ℕ). set m 2 c) over_two ∙ over_set (a ∷ b ∷ []) l c

  pub three_stored : (c : ℕ) → 3 ≤ length l → set (set (set l 0 a) 1 b) 2 c ≡ fronted (a ∷ b ∷ c ∷ []) l
  three_stored c h = over_three c ∙ over_fits (a ∷ b ∷ c ∷ []) l h

  over_five : (c d e : ℕ) → set (set (set (set (set l 0 a) 1 b) 2 c) 3 d) 4 e ≡ over (a ∷ b ∷ c ∷ d ∷ e ∷ []) l
  over_five c d e =
      ap (λ (m : List ℕ). set (set m 3 d) 4 e) (over_three c)
      ∙ ap (λ (m : List ℕ). set m 4 e) (over_set (a ∷ b ∷ c ∷ []) l d)
      ∙ over_set (a ∷ b ∷ c ∷ d ∷ []) l e

  pub five_stored : (c d e : ℕ) → 5 ≤ length l → set (set (set (set (set l 0 a) 1 b) 2 c) 3 d) 4 e ≡ fronted (a ∷ b ∷ c ∷ d ∷ e ∷ []) l
  five_stored c d e h = over_five c d e ∙ over_fits (a ∷ b ∷ c ∷ d ∷ e ∷ []) l h

  pub six_stored : (c d e f : ℕ) → 6 ≤ length l
      → set (set (set (set (set (set l 0 a) 1 b) 2 c) 3 d) 4 e) 5 f ≡ fronted (a ∷ b ∷ c ∷ d ∷ e ∷ f ∷ []) l
  six_stored c d e f h =
      ap (λ (m : List ℕ). set m 5 f) (over_five c d e)
      ∙ over_set (a ∷ b ∷ c ∷ d ∷ e ∷ []) l f
      ∙ over_fits (a ∷ b ∷ c ∷ d ∷ e ∷ f ∷ []) l h

pub one_stored : (l : List ℕ) (a : ℕ) → 1 ≤ length l → set l 0 a ≡ fronted (a ∷ []) l
unfolding over
one_stored l a h = over_set [] l a ∙ over_fits (a ∷ []) l h

-- ---- an answer that needs room for k numbers

module _ {A : Type 0} (k : ℕ) (l : List ℕ) {a : Answer A} where
  pub room_refused : {n p : ℕ} → a ≡ refused n p → with_room k l a ≡ refused n p
  unfolding with_room answering
  room_refused e = rw e

  module _ {x : A} (e : a ≡ given x) where
    pub room_none : length l < k → with_room k l a ≡ refused no_room 0
    unfolding with_room answering
    room_none h = rw (e, lt-leb k (length l) h, with_room)

    pub room_enough : k ≤ length l → with_room k l a ≡ given x
    unfolding with_room answering
    room_enough h = rw (e, le-leb k (length l) h, with_room)

module _ {A : Type 0} {k : ℕ} {f : A → List ℕ} {a : Answer A} {l : List ℕ} where
  pub hands_none : {n p r : ℕ} → with_room k l a ≡ refused n p → r ≡ packed_refusal n p → Hands k f a l r l
  unfolding packed afterwards
  hands_none e h = record { number = h ∙ rw e; buffer = rw e }

  pub hands_all : {x : A} {l' : List ℕ} → with_room k l a ≡ given x → l' ≡ fronted (f x) l → Hands k f a l 0 l'
  unfolding packed afterwards
  hands_all e h = record { number = rw e; buffer = h ∙ rw e }

  pub hands_alike : {b : Answer A} {r : ℕ} {l' : List ℕ} → a ≡ b → Hands k f b l r l' → Hands k f a l r l'
  hands_alike e h = rw e h

-- the same numbers of another answer
pub hands_as : {A B : Type 0} {k : ℕ} {f : A → List ℕ} {g : B → List ℕ} {a : Answer A} {x : A} {y : B} {l : List ℕ} {r : ℕ} {l' : List ℕ}
    → a ≡ given x → g y ≡ f x → Hands k g (given y) l r l' → Hands k f a l r l'
unfolding with_room answering packed afterwards
hands_as {A} {B} {k} {f} {g} {a} {x} {y} {l} {r} {l'} e q h = rw e (record { number = h.number ∙ told (leb k (length l)); buffer = h.buffer ∙ put (leb k (length l)) })
  where
    roomed : {C : Type 0} → Bool → C → Answer C
    roomed b z = elim b [ true ↦ given z | false ↦ refused no_room 0 ]

    told : (b : Bool) → packed (roomed b y) ≡ packed (roomed b x)
    told true = refl
    told false = refl

    put : (b : Bool) → afterwards (λ z. fronted (g z) l) (roomed b y) l ≡ afterwards (λ z. fronted (f z) l) (roomed b x) l
    put true = ap (λ (z : List ℕ). fronted z l) q
    put false = refl

-- ---- a waveform

module _ {a : Answer Waveform} {times letters count : List ℕ} where
  pub draws_none : {n p r : ℕ} → with_room 1 count a ≡ refused n p → r ≡ packed_refusal n p → Draws a times times letters letters count r count
  unfolding afterwards
  draws_none e h = record { counted = hands_none e h; times_are = rw e; letters_are = rw e }

  pub draws_all : {n : ℕ} {times' letters' count' : List ℕ} → a ≡ given (record { count = n; times = times'; letters = letters' }) → 1 ≤ length count
      → count' ≡ fronted (n ∷ []) count → Draws a times times' letters letters' count 0 count'
  unfolding afterwards
  draws_all e h q = let g = room_enough 1 count e h in record { counted = hands_all g q; times_are = rw g; letters_are = rw g }

-- no room for the count: without room for the events it is 19 already
module _ (text : List ℕ) (k s c : ℕ) {n : ℕ} {ts ls : List ℕ} {es : List Event} (e : events_of text k s c ≡ given es) (shows : Shows ts ls n es) (times letters count : List ℕ) where
  pub room_uncounted : length count < 1 → with_room 1 count (waveform text k s c times letters) ≡ refused no_room 0
  room_uncounted few = by (ltb (length times) n || ltb (length letters) n) refl
    where
      by : (y : Bool) → (ltb (length times) n || ltb (length letters) n) ≡ y → with_room 1 count (waveform text k s c times letters) ≡ refused no_room 0
      by true r = room_refused 1 count (waveform_full text k s c times letters e shows r refl)
      by false r = room_none 1 count (waveform_given text k s c times letters e shows r refl (refl, refl)) few
