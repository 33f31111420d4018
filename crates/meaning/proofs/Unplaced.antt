-- A body without the places of its V's has the same rows, as many: two bodies that differ in places alone give the same.
use mathlib.Core.Path.{◌≡◌, refl, sym, ap, ap₂, ◌∙◌}
use Prim.Native.Nat.{ℕ}
use mathlib.Core.List.{List, ◌++◌, [], ◌∷◌}
use Rattle.meaning.specs.Body.{Body, done, vec, set', inner, outside, shifting}
use Rattle.meaning.specs.Run.{State, cycles, shift_of, changed, cycle_at, play, start, cycles_of, Cycle, puts}
use Rattle.meaning.specs.Services.{row, rows}
use Rattle.meaning.proofs.Windows.{rows-++}
use Rattle.meaning.proofs.Ending.{Alike, alike_follow, alike_playing}

-- every V at place 0
unfoldable pub unplaced : Body → Body
unplaced done = done
unplaced (vec p a r) = vec 0 a (unplaced r)
unplaced (set' x r) = set' x (unplaced r)
unplaced (inner w b r) = inner w (unplaced b) (unplaced r)

-- they differ in places alone
abbrev pub Twins : Body → Body → Type 0
Twins b c = unplaced b ≡ unplaced c

-- ---- what is asked of a body where it is used

pub outside_unplaced : (b : Body) → outside (unplaced b) ≡ outside b
unfolding unplaced outside
outside_unplaced done = refl
outside_unplaced (vec p a r) = rw (outside_unplaced r)
outside_unplaced (set' x r) = outside_unplaced r
outside_unplaced (inner w b r) = outside_unplaced r

pub shifting_unplaced : (b : Body) → shifting (unplaced b) ≡ shifting b
unfolding unplaced shifting
shifting_unplaced done = refl
shifting_unplaced (vec p a r) = shifting_unplaced r
shifting_unplaced (set' x r) = shifting_unplaced r
shifting_unplaced (inner w b r) = rw (outside_unplaced b, shifting_unplaced r)

-- ---- cycles and rows

cycles_unplaced : (t : ℕ) (b : Body) → cycles t (unplaced b) ≡ cycles t b
unfolding unplaced cycles
cycles_unplaced t done = refl
cycles_unplaced t (vec p a r) = rw (cycles_unplaced t r)
cycles_unplaced t (set' x r) = cycles_unplaced t r
cycles_unplaced t (inner w b r) = rw (cycles_unplaced (shift_of t w) b, cycles_unplaced t r)

-- whoever does not see a V's place sees the same
module _ {X : Type 0} (seen : List Cycle → X) (joined : (a b c d : List Cycle) → seen a ≡ seen b → seen c ≡ seen d → seen (a ++ c) ≡ seen (b ++ d))
    (placed : (p : ℕ) (s : State) → seen (cycle_at 0 s ∷ []) ≡ seen (cycle_at p s ∷ [])) where
  pub alike_play : (t : ℕ) (b : Body) (s : State) → Alike seen joined (play t (unplaced b) s) (play t b s)
  unfolding unplaced play
  alike_play t done s = (refl, refl)
  alike_play t (vec p a r) s = alike_follow seen joined _ _ _ _ (refl, placed p (puts a s)) (alike_play t r)
  alike_play t (set' x r) s = alike_play t r (changed x s)
  alike_play t (inner w b r) s = alike_follow seen joined _ _ _ _ (alike_playing seen joined t w _ _ (alike_play (shift_of t w) b) s) (alike_play t r)

module _ (mark : ℕ) where
  rows_joined : (a b c d : List Cycle) → rows mark a ≡ rows mark b → rows mark c ≡ rows mark d → rows mark (a ++ c) ≡ rows mark (b ++ d)
  rows_joined a b c d h k = rows-++ mark a c ∙ ap₂ (λ (x y : List ℕ). x ++ y) h k ∙ sym (rows-++ mark b d)

  rows_alike : (t : ℕ) (b : Body) (s : State) → rows mark (play t (unplaced b) s).1 ≡ rows mark (play t b s).1
  unfolding rows row cycle_at
  rows_alike t b s = (alike_play (rows mark) rows_joined (λ p z. refl) t b s).1

-- THE LAWS: of two bodies that differ in places alone
pub twins_cycles : (b c : Body) → Twins b c → cycles 0 b ≡ cycles 0 c
twins_cycles b c h = sym (cycles_unplaced 0 b) ∙ ap (cycles 0) h ∙ cycles_unplaced 0 c

pub twins_rows : (mark n : ℕ) (b c : Body) → Twins b c → rows mark (cycles_of n b) ≡ rows mark (cycles_of n c)
unfolding cycles_of
twins_rows mark n b c h =
    sym (rows_alike mark 0 b (start n)) ∙ ap (λ (x : Body). rows mark (play 0 x (start n)).1) h ∙ rows_alike mark 0 c (start n)
