-- From its second turn on a Loop changes nothing more: each turn leaves the state as it is and makes the same cycles. For what a turn
-- sets, having no `#` of its own, does not depend on the state before. So the first cycle that cannot be played lies in no later turn
-- than the second of any Loop.
use mathlib.Core.Path.{◌≡◌, refl, sym, ap, ap₂, ◌∙◌, subst}
use Prim.Native.Nat.{ℕ, zero, suc, ◌<◌, min}
use mathlib.Core.Bool.{Bool, true, false}
use mathlib.Core.Option.{Option, none, some, or_else}
use mathlib.Core.List.{List, [], ◌∷◌, ◌++◌}
use native.Mathlib.Omega.{arith}
use native.Mathlib.Decide.{ℕ_discrete}
use lib.ListN.{length, set, get_or, length-set}
use lib.Seq.{get_or-set_same, get_or-set_other, ext_get_or}
use lib.Dec.{eqb}
use Rattle.meaning.specs.Timing.{Tables}
use Rattle.meaning.specs.Body.{in_shift, Assigns, Args, mark, Setting, assigning, choosing, macro, procedure, listed, Way, looped, shifted, entered, Body, done, vec, set', inner, marked, arg_of}
use Rattle.meaning.specs.Run.{shift_of, State, Cycle, Played, next, taken, put, puts, changed, follow, again, entering, playing, play}
use Rattle.meaning.specs.Meaning.{playable, first_failing}
use Rattle.meaning.proofs.Options.{or_same, or_none, or_both}
use Rattle.meaning.proofs.Ending as ending

-- ---- characters set, whatever stood there

sets : Assigns → List ℕ → List ℕ
sets [] v = v
sets (x ∷ a) v = sets a (set v x.0 x.1)

sets-++ : (a b : Assigns) (v : List ℕ) → sets (a ++ b) v ≡ sets b (sets a v)
unfolding sets
sets-++ [] b v = refl
sets-++ (x ∷ a) b v = sets-++ a b (set v x.0 x.1)

length_sets : (a : Assigns) (v : List ℕ) → length (sets a v) ≡ length v
unfolding sets
length_sets [] v = refl
length_sets (x ∷ a) v = length_sets a _ ∙ length-set v x.0 x.1

-- a setting, or what was there
unfoldable pub over : {A : Type 0} → Option A → A → A
over none x = x
over (some c) x = c

-- the later of two settings
unfoldable pub later : {A : Type 0} → Option A → Option A → Option A
later x none = x
later x (some c) = some c

pub over_later : {A : Type 0} (x y : Option A) (a : A) → over (later x y) a ≡ over y (over x a)
unfolding over later
over_later x none a = refl
over_later x (some c) a = refl

over_twice : {A : Type 0} (x : Option A) (a : A) → over x (over x a) ≡ over x a
unfolding over
over_twice none a = refl
over_twice (some c) a = refl

-- what signal i holds after f: a setting, or what it held
abbrev Holds : (List ℕ → List ℕ) → ℕ → Type 0
Holds f i = (o : Option ℕ) × ((v : List ℕ) → i < length v → get_or (f v) i 0 ≡ over o (get_or v i 0))

holds_set : (j c i : ℕ) → Holds (λ v. set v j c) i
unfolding over
holds_set j c i = by (ℕ_discrete i j)
  where
    by : Dec (i ≡ j) → Holds (λ v. set v j c) i
    by (yes e) = (some c, λ v h. subst (λ (k : ℕ). get_or (set v k c) i 0 ≡ c) e (get_or-set_same v i c 0 h))
    by (no e) = (none, λ v h. get_or-set_other v j i c 0 e)

holds_sets : (a : Assigns) (i : ℕ) → Holds (sets a) i
unfolding sets over
holds_sets [] i = (none, λ v h. refl)
holds_sets (x ∷ a) i =
    let l = holds_set x.0 x.1 i in
    let m = holds_sets a i in
    (later l.0 m.0, λ v h. m.1 (set v x.0 x.1) (rw length-set h) ∙ ap (over m.0) (l.1 v h) ∙ sym (over_later l.0 m.0 _))

sets_twice : (a : Assigns) (v : List ℕ) → sets a (sets a v) ≡ sets a v
sets_twice a v =
    ext_get_or 0 (sets a (sets a v)) (sets a v) (length_sets a (sets a v)) λ i h.
    let l = holds_sets a i in
    let j : i < length (sets a v) = omega (arith, length_sets a (sets a v)) in
    let k : i < length v = omega (arith, length_sets a v) in
    l.1 (sets a v) j ∙ ap (over l.0) (l.1 v k) ∙ over_twice l.0 _ ∙ sym (l.1 v k)

-- ---- what a stretch of the run does to the state

state : List ℕ → Option ℕ → Args → State
state v k a = record { pins = v; table = k; args = a }

-- with arguments A it sets signals, perhaps chooses a table, and leaves arguments A'
record Settles (f : State → State) (A A' : Args) : Type 0 where
  pins : Assigns
  table : Option (Option ℕ)
  is : (v : List ℕ) (k : Option ℕ) → f (state v k A) ≡ state (sets pins v) (over table k) A'

abbrev Settling : (State → State) → Type 0
Settling f = (A : Args) → (A' : Args) × Settles f A A'

settling_same : Settling (λ s. s)
unfolding state sets over
settling_same A = (A, record { pins = []; table = none; is = λ v k. refl })

settling_then : {f g : State → State} → Settling f → Settling g → Settling (λ s. g (f s))
settling_then {g} h k A =
    let x = (h A).1 in
    let y = k (h A).0 in (
      y.0,
      record {
        pins = x.pins ++ y.1.pins;
        table = later x.table y.1.table;
        is = λ v j. ap g (x.is v j) ∙ y.1.is (sets x.pins v) (over x.table j)
            ∙ ap₂ (λ (w : List ℕ) (i : Option ℕ). state w i y.0) (sym (sets-++ x.pins y.1.pins v)) (sym (over_later x.table y.1.table j));
      },
    )

settling_put : (x : ℕ × ℕ) → Settling (put x)
unfolding put state sets over
settling_put x A = by (eqb x.1 mark) refl
  where
    by : (w : Bool) → eqb x.1 mark ≡ w → (A' : Args) × Settles (put x) A A'
    by true e = (taken x.0 A, record { pins = (x.0, next (arg_of x.0 A)) ∷ []; table = none; is = λ v k. rw (e, put) })
    by false e = (A, record { pins = x ∷ []; table = none; is = λ v k. rw (e, put) })

settling_puts : (xs : Assigns) → Settling (puts xs)
unfolding puts
settling_puts [] = settling_same
settling_puts (x ∷ xs) = settling_then (settling_put x) (settling_puts xs)

settling_changed : (x : Setting) → Settling (changed x)
unfolding changed state sets over
settling_changed (assigning a) = settling_puts a
settling_changed (choosing j) = λ A. (A, record { pins = []; table = some (some j); is = λ v k. refl })

settling_again : (n : ℕ) (f : State → Played) → Settling (λ s. (f s).0) → Settling (λ s. (again n f s).0)
unfolding again follow
settling_again zero f h = settling_same
settling_again (suc n) f h = settling_then h (settling_again n f h)

settling_playing : (t : ℕ) (w : Way) (f : State → Played) → Settling (λ s. (f s).0) → Settling (λ s. (playing t w f s).0)
unfolding playing entering state
settling_playing t (looped n) f h = settling_again n f h
settling_playing t shifted f h = settling_again t f h
settling_playing t (entered macro u a) f h = λ A.
    let x = (h a).1 in
    (A, record { pins = x.pins; table = x.table; is = λ v k. ap (λ (s : State). state s.pins s.table A) (x.is v k) })
settling_playing t (entered procedure u a) f h = settling_same
settling_playing t (entered listed u a) f h = settling_same

settling : (t : ℕ) (b : Body) → Settling (λ s. (play t b s).0)
unfolding play follow
settling t done = settling_same
settling t (vec p a r) = settling_then (settling_puts a) (settling t r)
settling t (set' x r) = settling_then (settling_changed x) (settling t r)
settling t (inner w b r) = settling_then (settling_playing t w (play (shift_of t w) b) (settling (shift_of t w) b)) (settling t r)

-- ---- a body without `#` of its own leaves the arguments, so a second turn leaves what the first left

-- a setting without `#`
abbrev pub Unmarked : Setting → Type 0
Unmarked (assigning a) = marked a ≡ []
Unmarked (choosing k) = Unit {0}

-- in a plain body: a Loop whose body has P, or a body entered; no Shift
abbrev pub PlainWay : Way → Type 0 → Type 0
PlainWay (looped n) P = P
PlainWay shifted P = ⊥
PlainWay (entered k t a) P = Unit {0}

-- it has no Shift, so that no `#` stands in one
pub plain_way : (w : Way) (P : Type 0) (l : List ℕ) → PlainWay w P → in_shift w l ≡ []
unfolding in_shift
plain_way (looped n) P l h = refl
plain_way shifted P l h = absurd h
plain_way (entered k t a) P l h = refl

-- a Loop's body has P
abbrev pub IfLoop : Way → Type 0 → Type 0
IfLoop (looped n) P = P
IfLoop shifted P = Unit {0}
IfLoop (entered k t a) P = Unit {0}

-- no `#` and no Shift of its own, nor of its Loops
unfoldable pub Plain : Body → Type 0
Plain done = Unit {0}
Plain (vec p a r) = (marked a ≡ []) × Plain r
Plain (set' x r) = Unmarked x × Plain r
Plain (inner w b r) = PlainWay w (Plain b) × Plain r

-- every Loop, at any depth, is plain
unfoldable pub Good : Body → Type 0
Good done = Unit {0}
Good (vec p a r) = Good r
Good (set' x r) = Good r
Good (inner w b r) = IfLoop w (Plain b) × Good b × Good r

-- it leaves the arguments
abbrev pub Keeps : (State → State) → Type 0
Keeps f = (s : State) → (f s).args ≡ s.args

keeps_puts : (xs : Assigns) → marked xs ≡ [] → Keeps (puts xs)
unfolding puts marked put
keeps_puts [] e s = refl
keeps_puts (x ∷ xs) e s = by (eqb x.1 mark) refl e (keeps_puts xs)
  where
    by : (w : Bool) → eqb x.1 mark ≡ w → ◌≡◌ {A = List ℕ} (elim w [ true ↦ x.0 ∷ marked xs | false ↦ marked xs ]) []
        → (marked xs ≡ [] → Keeps (puts xs)) → (puts xs (put x s)).args ≡ s.args
    by true h e ih = let z : ◌≡◌ {A = ℕ} 0 1 = cc in absurd (omega arith)
    by false h e ih = ih e (put x s) ∙ rw (h, put)

keeps_changed : (x : Setting) → Unmarked x → Keeps (changed x)
unfolding changed
keeps_changed (assigning a) h = keeps_puts a h
keeps_changed (choosing k) h = λ s. refl

keeps_again : (n : ℕ) (f : State → Played) → Keeps (λ s. (f s).0) → Keeps (λ s. (again n f s).0)
unfolding again follow
keeps_again zero f h s = refl
keeps_again (suc n) f h s = keeps_again n f h (f s).0 ∙ h s

keeps_playing : (t : ℕ) (w : Way) (f : State → Played) (P : Type 0) → PlainWay w P → (P → Keeps (λ s. (f s).0)) → Keeps (λ s. (playing t w f s).0)
unfolding playing entering
keeps_playing t (looped n) f P h k = keeps_again n f (k h)
keeps_playing t shifted f P h k = absurd h
keeps_playing t (entered macro u a) f P h k = λ s. refl
keeps_playing t (entered procedure u a) f P h k = λ s. refl
keeps_playing t (entered listed u a) f P h k = λ s. refl

pub keeps : (t : ℕ) (b : Body) → Plain b → Keeps (λ s. (play t b s).0)
unfolding Plain play follow
keeps t done h s = refl
keeps t (vec p a r) h s = keeps t r h.1 _ ∙ keeps_puts a h.0 s
keeps t (set' x r) h s = keeps t r h.1 _ ∙ keeps_changed x h.0 s
keeps t (inner w b r) h s = keeps t r h.1 _ ∙ keeps_playing t w (play (shift_of t w) b) (Plain b) h.0 (keeps (shift_of t w) b) s

pub plain_twice : (t : ℕ) (b : Body) → Plain b → (s : State) → (play t b (play t b s).0).0 ≡ (play t b s).0
unfolding state
plain_twice t b h s =
    let f : State → State = λ x. (play t b x).0 in
    let l = settling t b s.args in
    let v = sets l.1.pins s.pins in
    let k = over l.1.table s.table in
    let one : f s ≡ state v k l.0 = l.1.is s.pins s.table in
    let e : l.0 ≡ s.args = sym (ap (λ (x : State). x.args) one) ∙ keeps t b h s in
    ap f one
    ∙ ap (λ (A : Args). f (state v k A)) e
    ∙ l.1.is v k
    ∙ ap₂ (λ (w : List ℕ) (j : Option ℕ). state w j l.0) (sets_twice l.1.pins s.pins) (over_twice l.1.table s.table)
    ∙ sym one

-- ---- all turns from the second on are alike

-- so many times the same cycles
unfoldable pub copies : ℕ → List Cycle → List Cycle
copies zero l = []
copies (suc n) l = l ++ copies n l

module _ (f : State → Played) where
  -- turns from a state that a turn leaves as it is
  pub steady : (s : State) → (f s).0 ≡ s → (n : ℕ) → again n f s ≡ (s, copies n (f s).1)
  unfolding again follow copies
  steady s e zero = refl
  steady s e (suc n) = ap (λ (u : State). follow (u, (f s).1) (again n f)) e ∙ ap (λ (y : Played). (y.0, (f s).1 ++ y.1)) (steady s e n)

  pub turns_repeat : ((s : State) → (f (f s).0).0 ≡ (f s).0) → (n : ℕ) (s : State) → again (suc n) f s ≡ ((f s).0, (f s).1 ++ copies n (f (f s).0).1)
  unfolding again follow
  turns_repeat h n s = ap (λ (y : Played). (y.0, (f s).1 ++ y.1)) (steady (f s).0 (h s) n)

-- the turns of a Loop: the first, and the second again and again
pub loop_turns_lem : (t : ℕ) (b : Body) → Plain b → (n : ℕ) (s : State)
    → again (suc n) (play t b) s ≡ ((play t b s).0, (play t b s).1 ++ copies n (play t b (play t b s).0).1)
loop_turns_lem t b h = turns_repeat (play t b) (plain_twice t b h)

pub loop_left : (t : ℕ) (b : Body) → Plain b → (s : State) (n : ℕ) → (again (suc n) (play t b) s).0 ≡ (play t b s).0
loop_left t b h s n = ap (λ (x : Played). x.0) (loop_turns_lem t b h n s)

-- ---- at most two turns of each Loop

unfoldable pub twice : ℕ → ℕ
twice n = min n 2

unfoldable pub fewer : Way → Way
fewer (looped n) = looped (twice n)
fewer shifted = shifted
fewer (entered k t a) = entered k t a

-- a body with at most two turns of each Loop in it
unfoldable pub shortened : Body → Body
shortened done = done
shortened (vec p a r) = vec p a (shortened r)
shortened (set' x r) = set' x (shortened r)
shortened (inner w b r) = inner (fewer w) (shortened b) (shortened r)

unfoldable pub play_two : ℕ → Body → State → Played
play_two t b = play t (shortened b)

-- ---- the first failing cycle

module _ (tabs : Tables) where
  pub fails-++ : (a b : List Cycle) → first_failing tabs (a ++ b) ≡ or_else (first_failing tabs a) (first_failing tabs b)
  unfolding first_failing or_else
  fails-++ [] b = refl
  fails-++ (c ∷ a) b = by (playable tabs c) (fails-++ a b)
    where
      by : (w : Bool) → first_failing tabs (a ++ b) ≡ or_else (first_failing tabs a) (first_failing tabs b)
          → ◌≡◌ {A = Option ℕ} (elim w [ true ↦ first_failing tabs (a ++ b) | false ↦ some c.at ])
          (or_else (elim w [ true ↦ first_failing tabs a | false ↦ some c.at ]) (first_failing tabs b))
      by true h = h
      by false h = refl

  pub sound_parts : (a b : List Cycle) → first_failing tabs (a ++ b) ≡ none → (first_failing tabs a ≡ none) × (first_failing tabs b ≡ none)
  sound_parts a b h = or_both (first_failing tabs a) (first_failing tabs b) (sym (fails-++ a b) ∙ h)

  pub fails_copies : (n : ℕ) (l : List Cycle) → first_failing tabs (copies (suc n) l) ≡ first_failing tabs l
  unfolding copies first_failing
  fails_copies zero l = fails-++ l [] ∙ or_none _
  fails_copies (suc n) l = fails-++ l (copies (suc n) l) ∙ ap (or_else (first_failing tabs l)) (fails_copies n l) ∙ or_same _

  fails_joined : (a b c d : List Cycle) → first_failing tabs a ≡ first_failing tabs b → first_failing tabs c ≡ first_failing tabs d → first_failing tabs (a ++ c) ≡ first_failing tabs (b ++ d)
  fails_joined a b c d h k = fails-++ a c ∙ ap₂ or_else h k ∙ sym (fails-++ b d)

  -- the same state, and the same first failing cycle
  abbrev Alike : Played → Played → Type 0
  Alike = ending.Alike (first_failing tabs) fails_joined

  alike_trans : (x y z : Played) → Alike x y → Alike y z → Alike x z
  alike_trans x y z h k = (h.0 ∙ k.0, h.1 ∙ k.1)

  alike_twice : (f : State → Played) → ((s : State) → (f (f s).0).0 ≡ (f s).0) → (n : ℕ) (s : State) → Alike (again n f s) (again (twice n) f s)
  unfolding twice
  alike_twice f h zero s = (refl, refl)
  alike_twice f h (suc zero) s = (refl, refl)
  alike_twice f h (suc (suc n)) s =
      let least : min (suc (suc n)) 2 ≡ 2 = omega arith in
      let many = turns_repeat f h (suc n) s in
      let two = turns_repeat f h 1 s in
      let l = (f s).1 in
      let m = (f (f s).0).1 in
      rw least (
        ap (λ (y : Played). y.0) many ∙ sym (ap (λ (y : Played). y.0) two),
        ap (λ (y : Played). first_failing tabs y.1) many
            ∙ fails-++ l (copies (suc n) m)
            ∙ ap (or_else (first_failing tabs l)) (fails_copies n m ∙ sym (fails_copies 0 m))
            ∙ sym (fails-++ l (copies 1 m))
            ∙ sym (ap (λ (y : Played). first_failing tabs y.1) two),
      )

  -- fewer turns of a Loop that is plain
  alike_fewer : (t : ℕ) (w : Way) (b : Body) → IfLoop w (Plain b) → (s : State)
      → Alike (playing t w (play (shift_of t w) b) s) (playing t (fewer w) (play (shift_of t (fewer w)) b) s)
  unfolding playing fewer shift_of
  alike_fewer t (looped n) b h s = alike_twice (play t b) (plain_twice t b h) n s
  alike_fewer t shifted b h s = (refl, refl)
  alike_fewer t (entered k u a) b h s = (refl, refl)

  alike_two : (b : Body) → Good b → (t : ℕ) (s : State) → Alike (play t b s) (play t (shortened b) s)
  unfolding Good play shortened
  alike_two done h t s = (refl, refl)
  alike_two (vec p a r) h t s = ending.alike_follow (first_failing tabs) fails_joined _ _ (play t r) _ (refl, refl) (alike_two r h t)
  alike_two (set' x r) h t s = alike_two r h t (changed x s)
  alike_two (inner w b r) h t s =
      let u = shift_of t (fewer w) in
      ending.alike_follow (first_failing tabs) fails_joined _ _ (play t r) (play t (shortened r))
      (alike_trans _ (playing t (fewer w) (play u b) s) _ (alike_fewer t w b h.0 s) (ending.alike_playing (first_failing tabs) fails_joined t (fewer w) _ _ (alike_two b h.1 u) s))
      (alike_two r h.2 t)

  -- THE LAW: at most two turns of each Loop find the first failing cycle
  pub first_failing_two : (t : ℕ) (b : Body) → Good b → (s : State) → first_failing tabs (play t b s).1 ≡ first_failing tabs (play_two t b s).1
  unfolding play_two
  first_failing_two t b h s = (alike_two b h t s).1
