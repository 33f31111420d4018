-- Chains, in which names are parted by their bytes: a word is looked for in its own chain. Any function of the bytes would do; this one tells names apart that
-- differ near one of their ends.
use Rattle.std.specs.Prelude.{ℕ, ◌+◌, ◌-◌, ◌/◌, ◌%◌, ◌<◌, ◌≡◌, Bool, true, false, List, leb, length}
use Rattle.words.specs.Packed.{packed}

abbrev pub chains_most : ℕ
chains_most = 509

abbrev pub mixed_of : ℕ → ℕ → ℕ
mixed_of x y = (x / 2 + y / 2) % chains_most

-- how many bytes of each end are looked at: eight of a word that has them, else four, two or one
abbrev end_by : Bool → Bool → Bool → ℕ
end_by true b c = 8
end_by false true c = 4
end_by false false true = 2
end_by false false false = 1

abbrev pub end_of : ℕ → ℕ
end_of n = end_by (leb 8 n) (leb 4 n) (leb 2 n)

-- the chain that a word belongs to
unfoldable pub chain_of : List ℕ → ℕ
chain_of w = mixed_of (packed w 0 (end_of (length w))) (packed w (length w - end_of (length w)) (end_of (length w)))

-- r is the chain h, which is one of them
pub record InChain (h r : ℕ) : Type 0 where
  pub is : r ≡ h
  pub below : r < chains_most
