-- Bytes copied to a place behind them, and a run of bytes that repeats what stands before it.
use Rattle.std.specs.Prelude.{ℕ, ◌+◌, ◌≤◌, ◌<◌, ◌≡◌, List, length, get_or}

-- `count` bytes from one place on stand also from another on; all others are as they were
pub record Copies (before : List ℕ) (from to count : ℕ) (after : List ℕ) : Type 0 where
  pub copied : (i j : ℕ) → i + from ≡ j + to → to ≤ i → i < to + count → get_or after i 0 ≡ get_or before j 0
  pub ahead : (i : ℕ) → i < to → get_or after i 0 ≡ get_or before i 0
  pub behind : (i : ℕ) → to + count ≤ i → get_or after i 0 ≡ get_or before i 0
  pub long : length after ≡ length before

-- of so many bytes from a place on, each is the one `step` before it; all others are as they were
pub record Extends (before : List ℕ) (at step count : ℕ) (after : List ℕ) : Type 0 where
  pub repeats : (i j : ℕ) → i ≡ j + step → at ≤ i → i < at + count → get_or after i 0 ≡ get_or after j 0
  pub ahead : (i : ℕ) → i < at → get_or after i 0 ≡ get_or before i 0
  pub behind : (i : ℕ) → at + count ≤ i → get_or after i 0 ≡ get_or before i 0
  pub long : length after ≡ length before
