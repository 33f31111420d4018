-- Four numbers written in a row of a list: what stands there, and everywhere else.
use Prim.Native.Nat.{ℕ, ◌+◌, ◌*◌, ◌<◌}
use native.Mathlib.Omega.{arith}
use native.Mathlib.Nat.{add-zero}
use mathlib.Core.Path.{◌≡◌, ◌∙◌}
use mathlib.Core.List.{List}
use lib.ListN.{length, get_or, set, length-set}
use lib.Seq.{get_or-set_same, get_or-set_other}
use Rattle.meaning.specs.Bounds.{signals_most}
use Rattle.feeds.specs.declared.Feed.{Feed}
use Rattle.pins.specs.Shown.{Fills}

abbrev pub four : List ℕ → ℕ → ℕ → ℕ → ℕ → ℕ → List ℕ
four l i a b c d = set (set (set (set l i a) (i + 1) b) (i + 2) c) (i + 3) d

module _ (l : List ℕ) (i a b c d : ℕ) where
  abbrev one : List ℕ
  one = set l i a

  abbrev two : List ℕ
  two = set one (i + 1) b

  abbrev three : List ℕ
  three = set two (i + 2) c

  three_length : length three ≡ length l
  three_length = simp length-set

  four_length : length (four l i a b c d) ≡ length l
  four_length = simp length-set

  four_other : (j : ℕ) → (j ≡ i → ⊥) → (j ≡ i + 1 → ⊥) → (j ≡ i + 2 → ⊥) → (j ≡ i + 3 → ⊥) → get_or (four l i a b c d) j 0 ≡ get_or l j 0
  four_other j x y z w =
      get_or-set_other three (i + 3) j d 0 w ∙ get_or-set_other two (i + 2) j c 0 z ∙ get_or-set_other one (i + 1) j b 0 y ∙ get_or-set_other l i j a 0 x

  module _ (h : i + 3 < length l) where
    four_first : get_or (four l i a b c d) i 0 ≡ a
    four_first =
        get_or-set_other three (i + 3) i d 0 (λ z. omega arith) ∙ get_or-set_other two (i + 2) i c 0 (λ z. omega arith)
        ∙ get_or-set_other one (i + 1) i b 0 (λ z. omega arith) ∙ get_or-set_same l i a 0 (omega arith)

    four_second : get_or (four l i a b c d) (i + 1) 0 ≡ b
    four_second =
        get_or-set_other three (i + 3) (i + 1) d 0 (λ z. omega arith) ∙ get_or-set_other two (i + 2) (i + 1) c 0 (λ z. omega arith)
        ∙ get_or-set_same one (i + 1) b 0 (omega (arith, length-set l i a))

    four_third : get_or (four l i a b c d) (i + 2) 0 ≡ c
    four_third =
        get_or-set_other three (i + 3) (i + 2) d 0 (λ z. omega arith)
        ∙ get_or-set_same two (i + 2) c 0 (omega (arith, length-set one (i + 1) b, length-set l i a))

    four_fourth : get_or (four l i a b c d) (i + 3) 0 ≡ d
    four_fourth = get_or-set_same three (i + 3) d 0 (omega (arith, three_length))

same_feed : {a b c d x y z w : ℕ} → a ≡ x → b ≡ y → c ≡ z → d ≡ w
    → ◌≡◌ {A = Feed} (record { at = a; end = b; left = c; from = d }) (record { at = x; end = y; left = z; from = w })
same_feed p q r s = rw (p, q, r, s)

-- a feed's four numbers lie apart from every other's
module _ (feeds : List ℕ) (level s : ℕ) (f : Feed) where
  abbrev written : List ℕ
  written = four feeds ((level * signals_most + s) * 4) f.at f.end f.left f.from

  apart : (l t k : ℕ) → (l * signals_most + t ≡ level * signals_most + s → ⊥) → k < 4
      → get_or written ((l * signals_most + t) * 4 + k) 0 ≡ get_or feeds ((l * signals_most + t) * 4 + k) 0
  apart l t k o h =
      four_other feeds ((level * signals_most + s) * 4) f.at f.end f.left f.from ((l * signals_most + t) * 4 + k)
      (λ z. o (omega arith)) (λ z. o (omega arith)) (λ z. o (omega arith)) (λ z. o (omega arith))

  pub fills : (level * signals_most + s) * 4 + 3 < length feeds → Fills feeds level s f written
  fills h =
      let i = (level * signals_most + s) * 4 in
      record {
        long = four_length feeds i f.at f.end f.left f.from;
        here = same_feed (four_first feeds i f.at f.end f.left f.from h) (four_second feeds i f.at f.end f.left f.from h)
            (four_third feeds i f.at f.end f.left f.from h) (four_fourth feeds i f.at f.end f.left f.from h);
        others = λ l t o.
            same_feed (rw add-zero at (apart l t 0 o (omega arith))) (apart l t 1 o (omega arith)) (apart l t 2 o (omega arith)) (apart l t 3 o (omega arith));
      }
