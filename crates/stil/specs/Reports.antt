-- Fail reports (request 9): what callers in C get.
use Rattle.std.specs.Prelude.{ℕ, ◌+◌, ◌≡◌, true, false, List, [], ◌∷◌, leb, length}
use Rattle.texts.specs.Told.{packed_refusal}
use Rattle.fails.specs.Fails.{Told, answers, refuses, Failed}
use Rattle.fails.specs.Service.{row_after, spared_told}
use Rattle.stil.specs.Interface.{fronted}

-- 2 to the power of 32 more, which no place in a text comes to: the refusal is the report's
abbrev pub report_refusal : ℕ → ℕ → ℕ
report_refusal n p = 4_294_967_296 + packed_refusal n p

-- the returned number: 0, or the refusal
unfoldable pub report_number : Told Failed → ℕ
report_number (answers x) = 0
report_number (refuses its n p) = elim its [ true ↦ report_refusal n p | false ↦ packed_refusal n p ]

-- and one number beside it: how many answers there are
unfoldable pub report_count : Told Failed → List ℕ → List ℕ
report_count (answers x) numbers = fronted (x.count ∷ []) numbers
report_count (refuses its n p) numbers = numbers

-- THE PROMISE: 19 also where there is no room for that number
pub record Replies (a : Told Failed) (cycles cycles' signals signals' letters letters' numbers : List ℕ) (r : ℕ) (numbers' : List ℕ) : Type 0 where
  pub number : r ≡ report_number (spared_told (leb 1 (length numbers)) a)
  pub told : numbers' ≡ report_count (spared_told (leb 1 (length numbers)) a) numbers
  pub cycles_are : cycles' ≡ row_after (λ b. b.cycles) (spared_told (leb 1 (length numbers)) a) cycles
  pub signals_are : signals' ≡ row_after (λ b. b.signals) (spared_told (leb 1 (length numbers)) a) signals
  pub letters_are : letters' ≡ row_after (λ b. b.letters) (spared_told (leb 1 (length numbers)) a) letters
