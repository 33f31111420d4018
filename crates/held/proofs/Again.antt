-- What is read once is read again, the same, where more is declared and nothing is restricted: a head.
use mathlib.Core.Path.{◌≡◌, refl, ap, ◌∙◌, subst}
use Prim.Native.Nat.{ℕ, zero, suc, ◌≤◌}
use native.Mathlib.Omega.{arith}
use Prim.Native.String.{String}
use mathlib.Core.Bool.{Bool, true, false, not, ◌&&◌}
use mathlib.Core.Option.{Option, none, some}
use mathlib.Core.List.{List, [], ◌∷◌, ◌++◌}
use lib.Dec.{leb}
use borrow.Author.Tests.{leb-false, lt-leb}
use Rattle.tokens.specs.Written.{bytes, same}
use Rattle.tokens.specs.Tokens.{Tok, Toks, left}
use Rattle.meaning.specs.Reader.{Reader, ok, ◌>>=◌, refuse_if, any, one_of, choose, is_word, while_f, while, closed, until}
use Rattle.meaning.specs.Names.{name, find, known, old_name}
use Rattle.meaning.specs.Signals.{Names}
use Rattle.meaning.specs.Body.{Assigns, Kind, macro, procedure}
use Rattle.meaning.specs.Data.{piece, part, data_read, assign, assigns}
use Rattle.meaning.specs.Statements.{Decls, Env, used, looping, shift_head, label_head, head}
use Rattle.meaning.proofs.Gives.{bind_ok, bind_go}
use Rattle.meaning.proofs.Choices.{◌also◌}

-- wherever m answers, k answers the same
pub record Grows {A : Type 0} (m k : Reader A) : Type 0 where
  pub all : (ts : Toks) (a : A) (us : Toks) → m ts ≡ ok a us → k ts ≡ ok a us

pub self : {A : Type 0} (m : Reader A) → Grows m m
self m = record { all = λ ts a us e. e }

pub grows_bind : {A B : Type 0} (m n : Reader A) (f g : A → Reader B) → Grows m n → ((a : A) → Grows (f a) (g a)) → Grows (m >>= f) (n >>= g)
grows_bind m n f g h k = record {
  all = λ ts b us e. (
      let i = bind_ok m f ts b us e in
      bind_go n g ts i.0 i.1 (h.all ts i.0 i.1 i.2) ∙ (k i.0).all i.1 b us i.3);
}

-- the same first
pub grows_on : {A B : Type 0} (m : Reader A) (f g : A → Reader B) → ((a : A) → Grows (f a) (g a)) → Grows (m >>= f) (m >>= g)
grows_on m f g k = grows_bind m m f g (self m) k

-- the same afterwards
pub grows_first : {A B : Type 0} (m n : Reader A) (f : A → Reader B) → Grows m n → Grows (m >>= f) (n >>= f)
grows_first m n f h = grows_bind m n f f h λ a. self (f a)

pub grows_if : (c d : Bool) (n p : ℕ) → (c ≡ false → d ≡ false) → Grows (refuse_if c n p) (refuse_if d n p)
unfolding refuse_if
grows_if true d n p h = record { all = λ ts a us e. (let z : ◌≡◌ {A = ℕ} 0 1 = cc in absurd (omega arith)) }
grows_if false d n p h = record { all = λ ts a us e. rw (h refl) e }

pub grows_either : {A : Type 0} (c : Bool) (m k n l : Reader A) → Grows m n → Grows k l
    → Grows {A = A} (λ ts. elim c [ true ↦ m ts | false ↦ k ts ]) (λ ts. elim c [ true ↦ n ts | false ↦ l ts ])
grows_either true m k n l f g = f
grows_either false m k n l f g = g

-- the entries of two choices
abbrev pub EachGrows : {A : Type 0} → List (String × (ℕ → Reader A)) → List (String × (ℕ → Reader A)) → Type 0
EachGrows [] ys = Unit {0}
EachGrows (x ∷ xs) [] = ⊥
EachGrows (x ∷ xs) (y ∷ ys) = ((x.0 ≡ y.0) × ((p : ℕ) → Grows (x.1 p) (y.1 p))) × EachGrows xs ys

pub grows_one_of : {A : Type 0} (xs ys : List (String × (ℕ → Reader A))) → EachGrows xs ys → (t : Tok) → Grows (one_of xs t) (one_of ys t)
unfolding one_of
grows_one_of [] ys h t = record { all = λ ts a us e. (let z : ◌≡◌ {A = ℕ} 0 1 = cc in absurd (omega arith)) }
grows_one_of (x ∷ xs) [] h t = absurd h
grows_one_of (x ∷ xs) (y ∷ ys) h t =
    rw h.0.0 (grows_either (same t.word (bytes y.0)) (x.1 t.at) (one_of xs t) (y.1 t.at) (one_of ys t) (h.0.1 t.at) (grows_one_of xs ys h.1 t))

pub grows_choose : {A : Type 0} (xs ys : List (String × (ℕ → Reader A))) → EachGrows xs ys → Grows (choose xs) (choose ys)
unfolding choose
grows_choose xs ys h = grows_on any (one_of xs) (one_of ys) (grows_one_of xs ys h)

module _ {S : Type 0} (step turn : S → Reader S) (h : (s : S) → Grows (step s) (turn s)) where
  grows_while_f : (test : Toks → Bool) (k : ℕ) (s : S) → Grows (while_f test step k s) (while_f test turn k s)
  unfolding while_f
  grows_while_f test zero s = self (λ ts. ok s ts)
  grows_while_f test (suc k) s =
      record { all = λ ts. (grows_either (test ts) _ _ _ _ (grows_bind (step s) (turn s) _ _ (h s) (grows_while_f test k)) (self (λ ts. ok s ts))).all ts }

  pub grows_while : (test : Toks → Bool) (s : S) → Grows (while test step s) (while test turn s)
  unfolding while
  grows_while test s = record { all = λ ts. (grows_while_f test (suc (left ts)) s).all ts }

  pub grows_closed : (w : String) (s : S) → Grows (closed w step s) (closed w turn s)
  unfolding closed
  grows_closed w s = grows_first _ _ _ (grows_while _ s)

  pub grows_until : (w : String) (s : S) → Grows (until w step s) (until w turn s)
  unfolding until
  grows_until w s = grows_first _ _ _ (grows_closed w s)

-- ---- names: what was found is found where more follows

find_more : {A : Type 0} (l m : List (Tok × A)) (w : List ℕ) (a : A) → find l w ≡ some a → find (l ++ m) w ≡ some a
unfolding find
find_more [] m w a e = let z : ◌≡◌ {A = ℕ} 0 1 = cc in absurd (omega arith)
find_more {A} (x ∷ l) m w a e = by (same x.0.word w) e (find_more l m w a)
  where
    by : (b : Bool) → ◌≡◌ {A = Option A} (elim b [ true ↦ some x.1 | false ↦ find l w ]) (some a) → (find l w ≡ some a → find (l ++ m) w ≡ some a)
        → ◌≡◌ {A = Option A} (elim b [ true ↦ some x.1 | false ↦ find (l ++ m) w ]) (some a)
    by true e r = e
    by false e r = r e

grows_known : {A : Type 0} (o q : Option A) (n p : ℕ) → ((a : A) → o ≡ some a → q ≡ some a) → Grows (known o n p) (known q n p)
unfolding known
grows_known none q n p h = record { all = λ ts a us e. (let z : ◌≡◌ {A = ℕ} 0 1 = cc in absurd (omega arith)) }
grows_known (some x) q n p h = rw (h x refl) (self _)

pub grows_old : {A : Type 0} (l m : List (Tok × A)) → Grows (old_name l) (old_name (l ++ m))
unfolding old_name
grows_old l m = grows_on name _ _ λ t. grows_first _ _ _ (grows_known _ _ _ _ (find_more l m t.word))

-- ---- DATA: where `#` may stand, all is read that is read where it may not

grows_piece : (m : Bool) (t : Tok) → Grows (piece m t) (piece true t)
unfolding piece
grows_piece m t =
    grows_either (is_word t.word) _ _ _ _ (self _) (grows_one_of _ _ (
    (refl, λ p. grows_first _ _ _ (grows_if _ _ _ p λ e. refl))
    also (refl, λ p. self _)
    also tt) t)

grows_part : (m : Bool) (cs : List ℕ) → Grows (part m cs) (part true cs)
unfolding part
grows_part m cs = grows_on any _ _ λ t. grows_first _ _ _ (grows_piece m t)

grows_assign : (ns : Names) (m : Bool) (xs : Assigns) → Grows (assign ns m xs) (assign ns true xs)
unfolding assign data_read
grows_assign ns m xs = grows_on _ _ _ λ x. grows_on _ _ _ λ u. grows_on _ _ _ λ q. grows_first _ _ _ (grows_closed (part m) (part true) (grows_part m) ";" [])

pub grows_assigns : (ns : Names) (m : Bool) → Grows (assigns ns m) (assigns ns true)
unfolding assigns
grows_assigns ns m = grows_on _ _ _ λ p. grows_until (assign ns m) (assign ns true) (grows_assign ns m) "}" []

-- ---- heads

-- f has what e has, and maybe more macros and procedures behind; and it stands in a pattern
pub record Later (e f : Env) : Type 0 where
  pub names : e.names ≡ f.names
  pub tables : e.tables ≡ f.tables
  pub macros : Decls
  pub procs : Decls
  pub macros_is : e.macros ++ macros ≡ f.macros
  pub procs_is : e.procs ++ procs ≡ f.procs
  pub in_pattern : f.pattern ≡ true

leb_less : (d c n : ℕ) → d ≤ c → leb d n ≡ false → leb c n ≡ false
leb_less d c n h e = let k = leb-false d n e in lt-leb c n (omega arith)

grows_used : (k : Kind) (d c : ℕ) → d ≤ c → (ns : Names) (l m n : Decls) → l ++ m ≡ n → Grows (used k d ns l) (used k c ns n)
unfolding used
grows_used k d c h ns l m n e =
    subst (λ n. Grows (used k d ns l) (used k c ns n)) e (grows_bind _ _ _ _ (grows_old l m) λ x. grows_first _ _ _ (grows_if _ _ _ _ (leb_less d c _ h)))

grows_looping : (d c : ℕ) → d ≤ c → (p : ℕ) → Grows (looping d p) (looping c p)
unfolding looping
grows_looping d c h p = grows_first _ _ _ (grows_if _ _ _ p (leb_less d c 0 h))

grows_shift_head : (may : Bool) (d c : ℕ) → d ≤ c → (p : ℕ) → Grows (shift_head may d p) (shift_head true c p)
unfolding shift_head
grows_shift_head may d c h p = grows_bind _ _ _ _ (grows_if _ _ _ p λ e. refl) λ u. grows_first _ _ _ (grows_if _ _ _ p (leb_less d c 0 h))

grows_label_head : (may : Bool) {must : Bool} → must ≡ true → (p : ℕ) → Grows (label_head may p) (label_head must p)
unfolding label_head
grows_label_head may h p = grows_first _ _ _ (grows_if _ _ _ p λ e. ap not h)

-- THE LAW: a head reads the same in a later environment, in a macro or procedure itself, with as many levels to go, no Shift before
pub grows_head : (e f : Env) → Later e f → (own : Bool) (d c : ℕ) → d ≤ c → (seen : Bool) → Grows (head e own d seen) (head f true c false)
unfolding head
grows_head e f later own d c h seen =
    rw (later.names, later.tables) (grows_choose _ _ (
    (refl, λ p. grows_first _ _ _ (grows_assigns f.names own))
    also (refl, λ p. self _)
    also (refl, λ p. self _)
    also (refl, grows_looping d c h)
    also (refl, λ p. grows_used macro d c h f.names e.macros later.macros f.macros later.macros_is)
    also (refl, λ p. grows_used procedure d c h f.names e.procs later.procs f.procs later.procs_is)
    also (refl, grows_label_head e.pattern later.in_pattern)
    also (refl, grows_shift_head (own && not seen) d c h)
    also (refl, λ p. self _)
    also tt))
