-- How promises join where the code doesn't hold the definition's answer: there is one, and where reading goes on the code's tables hold what is said of it.
use Prim.Native.Nat.{ℕ, ◌<◌}
use Prim.Native.String.{String}
use native.Mathlib.Omega.{arith}
use mathlib.Core.Path.{◌≡◌, refl, sym, ap, ◌∙◌}
use mathlib.Core.Bool.{Bool, true, false, cond, not, ◌&&◌}
use mathlib.Core.Option.{Option, none, some}
use mathlib.Core.List.{List}
use lib.Dec.{eqb}
use Rattle.tokens.specs.Tokens.{Toks}
use Rattle.meaning.specs.Reader.{Res, Reader, after, ◌>>=◌, give, refuse_if, ahead, due, while, until}
use Rattle.meaning.specs.Names.{known}
use Rattle.meaning.proofs.Takes.{Takes}
use Rattle.words.specs.Cursor.{alive, stream, from, Goes, Checked}
use Rattle.words.specs.declared.Cursor.{Cursor}
use Rattle.words.proofs.Flow.{from_on, from_stop, given, follows, then, checked, stays, refused_by, alive_before}
use Rattle.words.proofs.Loops.{Leads, begins, turned, over, less, on, room, ends}
use Rattle.timing.specs.Makes.{Makes, Brings}

-- ---- tests

-- a value that is there, or a refusal: the code's test says which, where reading goes on
pub known_by : {A : Type 0} {text : List ℕ} {c r : Cursor} {n p : ℕ} {b : Bool} {a : A} {o : Option A} → Checked c b n p r → eqb n 0 ≡ false
    → (alive c ≡ true → b ≡ true → o ≡ none) → (alive c ≡ true → b ≡ false → o ≡ some a) → Goes text c (known o n p) r a
unfolding known ◌>>=◌ after refuse_if give
known_by {A} {text} {c} {r} {n} {p} {b} {a} {o} e z f g = by (alive c) refl b refl
  where
    by : (x : Bool) → alive c ≡ x → (y : Bool) → b ≡ y → Goes text c (known o n p) r a
    by true q true h = rw (f q h) (refused_by (rw h at e) z)
    by true q false h = rw (g q h) (then (λ u. give a) (checked {q = false} e h z) given)
    by false q y h =
        let k : r ≡ c = e.is ∙ ap (λ (v : Bool). cond (v && b) (record { no = n; fault = 0; at = p; end = 0 }) c) q in
        rw k (stays q)

-- one of two readers, by what is ahead
abbrev pub either : {A : Type 0} → (Toks → Bool) → Reader A → Reader A → Reader A
either test m k ts = elim (test ts) [ true ↦ m ts | false ↦ k ts ]

module _ {A : Type 0} {text : List ℕ} {c r : Cursor} {a : A} {b : Bool} (test : Toks → Bool) (m k : Reader A) (e : b ≡ (alive c && test (stream text c)))
  where
    pub if_yes : b ≡ true → Goes text c m r a → Goes text c (either test m k) r a
    if_yes h g = record { same = g.same ∙ by (alive c) refl (sym e ∙ h) }
      where
        pick : Bool → Res A
        pick x = elim x [ true ↦ m (stream text c) | false ↦ k (stream text c) ]

        by : (x : Bool) → alive c ≡ x → (x && test (stream text c)) ≡ true → from text c m ≡ from text c (either test m k)
        by true p q = from_on text c m p ∙ sym (from_on text c (either test m k) p ∙ ap pick q)
        by false p q = let z : ◌≡◌ {A = ℕ} 0 1 = cc in absurd (omega arith)

    pub if_no : b ≡ false → Goes text c k r a → Goes text c (either test m k) r a
    if_no h g = record { same = g.same ∙ by (alive c) refl (sym e ∙ h) }
      where
        pick : Bool → Res A
        pick x = elim x [ true ↦ m (stream text c) | false ↦ k (stream text c) ]

        by : (x : Bool) → alive c ≡ x → (x && test (stream text c)) ≡ false → from text c k ≡ from text c (either test m k)
        by true p q = from_on text c k p ∙ sym (from_on text c (either test m k) p ∙ ap pick q)
        by false p q = from_stop text c k p ∙ sym (from_stop text c (either test m k) p)

-- ---- one reader and then the next

pub made : {A : Type 0} {text : List ℕ} {c r : Cursor} {m : Reader A} {a : A} {P : A → Type 0} → Goes text c m r a → (alive r ≡ true → P a) → Makes text c m r P
made {a = a} g h = record { it = a; goes = g; held = h }

module _ {A B : Type 0} {text : List ℕ} {c d r : Cursor} {m : Reader A} {P : B → Type 0} (k : A → Reader B) where
  pub makes_then : {a : A} → Goes text c m d a → Makes text d (k a) r P → Makes text c (m >>= k) r P
  makes_then g f = record { it = f.it; goes = then k g f.goes; held = f.held }

  pub makes_bind : {Q : A → Type 0} (f : Makes text c m d Q) → Makes text d (k f.it) r P → Makes text c (m >>= k) r P
  makes_bind f g = record { it = g.it; goes = then k f.goes g.goes; held = g.held }

-- ---- a part that is done, and what follows it

pub first : {A B : Type 0} {text : List ℕ} {c d : Cursor} {m : Reader A} {a : A} (k : A → Reader B) → Goes text c m d a → Brings text c (m >>= k) d (k a)
first k g = record { same = follows k g }

pub first_then : {A B : Type 0} {text : List ℕ} {c d r : Cursor} {m : Reader A} {n : Reader B} {a : A} (k : A → Reader B) → Goes text c m d a
    → Brings text d (k a) r n → Brings text c (m >>= k) r n
first_then k g f = record { same = f.same ∙ follows k g }

pub onward : {A : Type 0} {text : List ℕ} {c d r : Cursor} {m k : Reader A} {a : A} → Brings text c m d k → Goes text d k r a → Goes text c m r a
onward e g = record { same = g.same ∙ e.same }

pub makes_onward : {A : Type 0} {text : List ℕ} {c d r : Cursor} {m k : Reader A} {P : A → Type 0} → Brings text c m d k → Makes text d k r P → Makes text c m r P
makes_onward e g = record { it = g.it; goes = onward e g.goes; held = g.held }

-- ---- loops

-- reading on from r with some state, of which P holds, is reading m from c
pub record Looping {S : Type 0} (text : List ℕ) (c : Cursor) (m : Reader S) (test : Toks → Bool) (step : S → Reader S) (r : Cursor) (P : S → Type 0) : Type 0 where
  pub state : S
  pub leads : Leads text c m r (while test step state)
  pub kept : alive r ≡ true → P state

pub looping : {S : Type 0} {text : List ℕ} {c : Cursor} {test : Toks → Bool} {step : S → Reader S} {P : S → Type 0} (s : S) → (alive c ≡ true → P s)
    → Looping text c (while test step s) test step c P
looping s h = record { state = s; leads = begins; kept = h }

module _ {S : Type 0} {text : List ℕ} {c r : Cursor} {m : Reader S} {test : Toks → Bool} {step : S → Reader S} {P : S → Type 0} {b : Bool}
    (takes : (s : S) → Takes (step s)) (l : Looping text c m test step r P) (e : b ≡ (alive r && test (stream text r))) where
  -- one turn more
  module _ {r' : Cursor} {Q : S → Type 0} (h : b ≡ true) (f : (s : S) → P s → Makes text r (step s) r' Q) where
    turn : Makes text r (step l.state) r' Q
    turn = f l.state (l.kept (on (alive r) (test (stream text r)) e h))

    pub again : Looping text c m test step r' Q
    again = record { state = turn.it; leads = turned test step takes l.leads e h turn.goes; kept = turn.held }

    pub fewer : room text r' < room text r
    fewer = less (takes l.state) (on (alive r) (test (stream text r)) e h) turn.goes

  -- no more
  pub leaves : b ≡ false → Makes text c m r P
  leaves h = record { it = l.state; goes = over test step takes l.leads e h; held = l.kept }

-- and the closing token
pub closes : {S : Type 0} {text : List ℕ} {c d r : Cursor} {P : S → Type 0} {p : ℕ} (close : String) (step : S → Reader S) (s : S)
    → Makes text c (while (λ ts. not (ahead close ts)) step s) d P → Goes text d (due close) r p → Makes text c (until close step s) r P
closes close step s l g = record { it = l.it; goes = ends close step s l.goes g; held = λ h. l.held (alive_before g h) }
