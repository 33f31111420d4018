-- Rows and cycles: as many cycles are played as are counted, and a row has one byte a signal, the digit and LF.
use mathlib.Core.Path.{◌≡◌, refl, sym, ap, ap₂, ◌∙◌}
use Prim.Native.Nat.{ℕ, zero, suc, ◌+◌, ◌*◌}
use native.Mathlib.Nat.{add_comm, zero-mul, one-mul, suc-mul}
use mathlib.Core.Bool.{Bool, true, false}
use mathlib.Core.List.{List, [], ◌∷◌, ◌++◌}
use lib.ListN.{length, length-append, length-set, length-replicate}
use lib.Dec.{eqb}
use Rattle.meaning.specs.Body.{Assigns, Args, mark as hash, Setting, assigning, choosing, Kind, macro, procedure, listed, Way, looped, shifted, entered, Body, done, vec, set', inner}
use Rattle.meaning.specs.Run.{State, Cycle, Played, unassigned, cycles, turns_of, shift_of, put, puts, changed, cycle_at, follow, again, bare, entering, playing, play, start, cycles_of}
use Rattle.meaning.specs.Services.{shown_all, row, rows, row_width}

-- ---- as many cycles are played as are counted

length_follow : (x : Played) (f : State → Played) (c d : ℕ) → length x.1 ≡ c → ((s : State) → length (f s).1 ≡ d) → length (follow x f).1 ≡ c + d
unfolding follow
length_follow x f c d h k = length-append x.1 (f x.0).1 ∙ ap₂ (λ (a b : ℕ). a + b) h (k x.0)

pub length_again : (n c : ℕ) (f : State → Played) (s : State) → ((s : State) → length (f s).1 ≡ c) → length (again n f s).1 ≡ n * c
unfolding again
length_again zero c f s h = sym (zero-mul c)
length_again (suc n) c f s h = length_follow (f s) (λ s'. again n f s') c (n * c) (h s) (λ s'. length_again n c f s' h) ∙ add_comm c (n * c) ∙ sym (suc-mul n c)

length_entering : (k : Kind) (a : Args) (c : ℕ) (f : State → Played) (s : State) → ((s : State) → length (f s).1 ≡ c) → length (entering k a f s).1 ≡ c
unfolding entering
length_entering macro a c f s h = h _
length_entering procedure a c f s h = h _
length_entering listed a c f s h = h _

pub length_playing : (t : ℕ) (w : Way) (c : ℕ) (f : State → Played) (s : State) → ((s : State) → length (f s).1 ≡ c) → length (playing t w f s).1 ≡ turns_of t w * c
unfolding playing turns_of
length_playing t (looped n) c f s h = length_again n c f s h
length_playing t shifted c f s h = length_again t c f s h
length_playing t (entered k u a) c f s h = length_entering k a c f s h ∙ sym (one-mul c)

pub length_play : (t : ℕ) (b : Body) (s : State) → length (play t b s).1 ≡ cycles t b
unfolding play cycles
length_play t done s = refl
length_play t (vec p a r) s = length_follow _ (play t r) 1 (cycles t r) refl (length_play t r)
length_play t (set' x r) s = length_play t r (changed x s)
length_play t (inner w b r) s = length_follow _ (play t r) _ _ (length_playing t w _ _ s (length_play (shift_of t w) b)) (length_play t r)

pub rows_are_cycles : (n : ℕ) (b : Body) → length (cycles_of n b) ≡ cycles 0 b
unfolding cycles_of
rows_are_cycles n b = length_play 0 b (start n)

-- ---- over n signals every cycle has n values

abbrev pub Wide : ℕ → State → Type 0
Wide n s = length s.pins ≡ n

abbrev pub AllWide : ℕ → List Cycle → Type 0
AllWide n [] = Unit {0}
AllWide n (c ∷ cs) = (length c.pins ≡ n) × AllWide n cs

wide-++ : (n : ℕ) (cs ds : List Cycle) → AllWide n cs → AllWide n ds → AllWide n (cs ++ ds)
wide-++ n [] ds h k = k
wide-++ n (c ∷ cs) ds h k = (h.0, wide-++ n cs ds h.1 k)

-- what is played from n values leaves n, and so has every cycle on the way
abbrev pub Keeps : ℕ → (State → Played) → Type 0
Keeps n f = (s : State) → Wide n s → Wide n (f s).0 × AllWide n (f s).1

keeps_follow : (n : ℕ) (x : Played) (f : State → Played) → Wide n x.0 × AllWide n x.1 → Keeps n f → Wide n (follow x f).0 × AllWide n (follow x f).1
unfolding follow
keeps_follow n x f h k = let y = k x.0 h.0 in (y.0, wide-++ n x.1 (f x.0).1 h.1 y.1)

keeps_again : (n m : ℕ) (f : State → Played) → Keeps n f → Keeps n (again m f)
unfolding again
keeps_again n zero f h s w = (w, tt)
keeps_again n (suc m) f h s w = keeps_follow n (f s) (again m f) (h s w) (keeps_again n m f h)

wide_bare : (n : ℕ) (s : State) → Wide n s → length (bare s.pins) ≡ n
unfolding bare
wide_bare n s w = length-replicate (length s.pins) unassigned ∙ w

keeps_entering : (n : ℕ) (k : Kind) (a : Args) (f : State → Played) → Keeps n f → Keeps n (entering k a f)
unfolding entering
keeps_entering n macro a f h s w = let y = h (record { pins = s.pins; table = s.table; args = a }) w in (y.0, y.1)
keeps_entering n procedure a f h s w = (w, (h (record { pins = bare s.pins; table = s.table; args = a }) (wide_bare n s w)).1)
keeps_entering n listed a f h s w = (w, (h (record { pins = bare s.pins; table = _; args = a }) (wide_bare n s w)).1)

keeps_playing : (n t : ℕ) (v : Way) (f : State → Played) → Keeps n f → Keeps n (playing t v f)
unfolding playing
keeps_playing n t (looped m) f h = keeps_again n m f h
keeps_playing n t shifted f h = keeps_again n t f h
keeps_playing n t (entered k u a) f h = keeps_entering n k a f h

wide_either : (n : ℕ) (b : Bool) (x y : State) → Wide n x → Wide n y → Wide n (elim b [ true ↦ x | false ↦ y ])
wide_either n true x y h k = h
wide_either n false x y h k = k

wide_put : (n : ℕ) (x : ℕ × ℕ) (s : State) → Wide n s → Wide n (put x s)
unfolding put
wide_put n x s w = wide_either n (eqb x.1 hash) _ _ (length-set s.pins x.0 _ ∙ w) (length-set s.pins x.0 x.1 ∙ w)

wide_puts : (n : ℕ) (xs : Assigns) (s : State) → Wide n s → Wide n (puts xs s)
unfolding puts
wide_puts n [] s w = w
wide_puts n (x ∷ xs) s w = wide_puts n xs (put x s) (wide_put n x s w)

pub puts_long : (a : Assigns) (s : State) → length (puts a s).pins ≡ length s.pins
puts_long a s = wide_puts (length s.pins) a s refl

pub puts_table : (a : Assigns) (s : State) → (puts a s).table ≡ s.table
unfolding puts put
puts_table [] s = refl
puts_table (x ∷ a) s = puts_table a (put x s) ∙ by (eqb x.1 hash) refl
  where
    by : (w : Bool) → eqb x.1 hash ≡ w → (put x s).table ≡ s.table
    by true e = rw (e, put)
    by false e = rw (e, put)

wide_changed : (n : ℕ) (x : Setting) (s : State) → Wide n s → Wide n (changed x s)
unfolding changed
wide_changed n (assigning a) s w = wide_puts n a s w
wide_changed n (choosing k) s w = w

pub keeps_play : (n t : ℕ) (b : Body) → Keeps n (play t b)
unfolding play cycle_at
keeps_play n t done s w = (w, tt)
keeps_play n t (vec p a r) s w =
    let v = wide_puts n a s w in
    keeps_follow n (puts a s, cycle_at p (puts a s) ∷ []) (play t r) (v, (v, tt)) (keeps_play n t r)
keeps_play n t (set' x r) s w = keeps_play n t r (changed x s) (wide_changed n x s w)
keeps_play n t (inner v b r) s w = keeps_follow n _ (play t r) (keeps_playing n t v _ (keeps_play n (shift_of t v) b) s w) (keeps_play n t r)

pub every_cycle_wide : (n : ℕ) (b : Body) → AllWide n (cycles_of n b)
unfolding cycles_of start
every_cycle_wide n b = (keeps_play n 0 b (start n) (length-replicate n unassigned)).1

-- ---- a row has one byte a signal, the digit, LF

module _ (mark : ℕ) where
  pub length_shown : (l : List ℕ) → length (shown_all mark l) ≡ length l
  unfolding shown_all
  length_shown [] = refl
  length_shown (c ∷ l) = ap suc (length_shown l)

  pub row_width_lem : (c : Cycle) (n : ℕ) → length c.pins ≡ n → length (row mark c) ≡ row_width n
  unfolding row row_width
  row_width_lem c n h = length-append (shown_all mark c.pins) _ ∙ ap (λ (k : ℕ). k + 2) (length_shown c.pins ∙ h)

  pub rows_width : (n : ℕ) (cs : List Cycle) → AllWide n cs → length (rows mark cs) ≡ length cs * row_width n
  unfolding rows
  rows_width n [] h = sym (zero-mul (row_width n))
  rows_width n (c ∷ cs) h =
      length-append (row mark c) (rows mark cs) ∙ ap₂ (λ (a b : ℕ). a + b) (row_width_lem c n h.0) (rows_width n cs h.1)
      ∙ add_comm (row_width n) (length cs * row_width n) ∙ sym (suc-mul (length cs) (row_width n))
