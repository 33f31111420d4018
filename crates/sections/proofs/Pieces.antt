-- Pieces put into a page one behind the other, and how long they are at most.
use Prim.Native.Nat.{ℕ, ◌+◌, ◌≤◌}
use native.Mathlib.Omega.{arith}
use mathlib.Core.Path.{◌≡◌}
use mathlib.Core.List.{List, ◌++◌}
use lib.ListN.{length}
use Rattle.pages.specs.Pages.{decimal, digits_most, Puts}
use Rattle.pages.proofs.Laws.{puts_same, puts_both, decimal_short}
use Rattle.sections.specs.Listing.{Adds}

module _ {before : List ℕ} {at : ℕ} {xs : List ℕ} {r : ℕ} {after : List ℕ} where
  pub word_adds : Puts before at xs r after → Adds before at xs (length xs) r after
  word_adds p = record { puts = p; within = omega (arith, p.behind) }

  pub adds_both : {ys last : List ℕ} {m n s : ℕ} → Adds before at xs m r after → Adds after r ys n s last → Adds before at (xs ++ ys) (m + n) s last
  adds_both p q = record { puts = puts_both p.puts q.puts; within = omega (arith, p.within, q.within) }

  -- the whole, as it is called
  pub adds_whole : {ys : List ℕ} {m n : ℕ} → Adds before at xs m r after → xs ≡ ys → m ≤ n → Adds before at ys n r after
  adds_whole p e h = record { puts = puts_same p.puts e; within = omega (arith, p.within) }

pub number_adds : {before after : List ℕ} {at r : ℕ} (n : ℕ) → Puts before at (decimal n) r after → Adds before at (decimal n) digits_most r after
number_adds n p = record { puts = p; within = omega (arith, p.behind, decimal_short n) }
