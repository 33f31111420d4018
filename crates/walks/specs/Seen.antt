-- What a window shows of some cycles, and how going through them leaves fewer to pass and to show.
use Rattle.std.specs.Prelude.{ℕ, ◌-◌, ◌<◌, ◌≡◌, List, ◌++◌, length, take, drop}
use Rattle.meaning.specs.Run.{Cycle}

-- n are passed, and of the others m are shown
abbrev pub seen : {A : Type 0} → ℕ → ℕ → List A → List A
seen n m l = take m (drop n l)

-- the cycles l, gone through with n to pass and m to show: cs are shown, and then m' are still to show and n' to pass. Where none are left to
-- show, those to pass no longer count
pub record Through (l : List Cycle) (n m : ℕ) (cs : List Cycle) (n' m' : ℕ) : Type 0 where
  pub shown : cs ≡ seen n m l
  pub show : m' ≡ m - length cs
  pub pass : 0 < m' → n' ≡ n - length l

-- from the cycles l, with n to pass and m to show, cs are shown up to the cycles l', with n' to pass and m' to show: whoever goes through those has gone through all
pub record GoesOn (l : List Cycle) (n m : ℕ) (cs l' : List Cycle) (n' m' : ℕ) : Type 0 where
  pub on : (ds : List Cycle) (n'' m'' : ℕ) → Through l' n' m' ds n'' m'' → Through l n m (cs ++ ds) n'' m''
