-- Two streams whose tokens have the same words up to a border: whatever reader answers on both answers alike, and none but the reader of
-- Pattern blocks reads past the border. A border is the text's end, or `Pattern NAME {`.
use mathlib.Core.Path.{◌≡◌, refl, sym, ap, ◌∙◌, subst}
use Prim.Native.Nat.{ℕ, zero, suc, ◌≤◌, ◌<◌}
use Prim.Native.String.{String}
use native.Mathlib.Omega.{arith}
use mathlib.Core.Bool.{Bool, true, false, not, ◌&&◌}
use mathlib.Core.Option.{Option, none, some}
use mathlib.Core.Logic.{◌⊎◌, inl, ⊎_elim}
use mathlib.Core.List.{List, [], ◌∷◌}
use lib.Dec.{leb}
use Rattle.tokens.specs.Written.{bytes, same}
use Rattle.tokens.specs.Tokens.{Tok, Toks, stop, tok, left}
use Rattle.meaning.specs.Refusals.{bad_number}
use Rattle.meaning.specs.Reader.{Res, Reader, ok, refuse, after, ◌>>=◌, give, refuse_if, any, ahead_of, due_of, one_of, choose, is_word, word, if_ahead, option, while_f, while, closed, until}
use Rattle.meaning.specs.Names.{known, within}
use Rattle.meaning.specs.Document.{over}
use Rattle.meaning.proofs.Gives.{bind_ok, bind_go, give_ok, if_ok, known_ok, known_rest, due_ahead}

-- ---- a border, and two streams up to it

abbrev pub Braced : Toks → Type 0
Braced (stop n p) = ⊥
Braced (tok t ts) = t.word ≡ bytes "{"

abbrev pub Named : Toks → Type 0
Named (stop n p) = ⊥
Named (tok t ts) = (is_word t.word ≡ true) × Braced ts

abbrev pub AtBlock : Toks → Type 0
AtBlock (stop n p) = Unit {0}
AtBlock (tok t ts) = (t.word ≡ bytes "Pattern") × Named ts

-- where two streams part
pub record Border : Type 0 where
  pub first : Toks
  pub second : Toks
  pub at_first : AtBlock first
  pub at_second : AtBlock second
  pub level : over first ≡ over second

-- the same words for n tokens, up to the border
abbrev pub Like : Border → ℕ → Toks → Toks → Type 0
Like B zero ts us = (ts ≡ B.first) × (us ≡ B.second)
Like B (suc n) (stop m p) us = ⊥
Like B (suc n) (tok t ts) (stop m p) = ⊥
Like B (suc n) (tok t ts) (tok u us) = (t.word ≡ u.word) × Like B n ts us

-- what is next is the same
border_ahead : (w : List ℕ) (ts us : Toks) → AtBlock ts → AtBlock us → over ts ≡ over us → ahead_of w ts ≡ ahead_of w us
unfolding ahead_of over
border_ahead w (stop n p) (stop m q) x y e = refl
border_ahead w (stop n p) (tok u us) x y e = let z : ◌≡◌ {A = ℕ} 0 1 = cc in absurd (omega arith)
border_ahead w (tok t ts) (stop m q) x y e = let z : ◌≡◌ {A = ℕ} 0 1 = cc in absurd (omega arith)
border_ahead w (tok t ts) (tok u us) x y e = rw (x.0, y.0)

pub like_ahead : (B : Border) (w : List ℕ) (n : ℕ) (ts us : Toks) → Like B n ts us → ahead_of w ts ≡ ahead_of w us
unfolding ahead_of
like_ahead B w zero ts us l = rw (l.0, l.1) (border_ahead w B.first B.second B.at_first B.at_second B.level)
like_ahead B w (suc n) (stop m p) us l = absurd l
like_ahead B w (suc n) (tok t ts) (stop m p) l = absurd l
like_ahead B w (suc n) (tok t ts) (tok u us) l = rw l.0

-- ---- two readers on them

abbrev pub Fewer : Bool → ℕ → ℕ → Type 0
Fewer true m n = m < n
Fewer false m n = m ≤ n

fewer_one : (c : Bool) (m n : ℕ) → m ≤ n → Fewer c m (suc n)
fewer_one true m n h = omega arith
fewer_one false m n h = omega arith

fewer_on : (c : Bool) (l m n : ℕ) → l ≤ m → Fewer c m n → Fewer c l n
fewer_on true l m n h k = omega arith
fewer_on false l m n h k = omega arith

-- of the n tokens before the border, fewer are left (by one at least, where c is true)
pub record Leaves (B : Border) (c : Bool) (n : ℕ) (ts us : Toks) : Type 0 where
  pub left : ℕ
  pub fewer : Fewer c left n
  pub like : Like B left ts us

-- wherever both answer, the answers have R
pub record Alike (B : Border) (c : Bool) {A : Type 0} (R : A → A → Type 0) (m k : Reader A) : Type 0 where
  pub both : (n : ℕ) (ts us : Toks) → Like B n ts us → (a : A) (vs : Toks) → m ts ≡ ok a vs → (b : A) (ws : Toks) → k us ≡ ok b ws
      → R a b × Leaves B c n vs ws

-- or the first has read on to where P holds
pub record Near (B : Border) (P : Toks → Type 0) {A : Type 0} (R : A → A → Type 0) (m k : Reader A) : Type 0 where
  pub both : (n : ℕ) (ts us : Toks) → Like B n ts us → (a : A) (vs : Toks) → m ts ≡ ok a vs → (b : A) (ws : Toks) → k us ≡ ok b ws
      → (R a b × Leaves B false n vs ws) ⊎ P vs

-- answers that need have nothing in common, and equal ones; tokens with the same word
abbrev pub Anyhow : {A : Type 0} → A → A → Type 0
Anyhow a b = Unit {0}

abbrev pub Equal : {A : Type 0} → A → A → Type 0
Equal a b = a ≡ b

abbrev pub SameWord : Tok → Tok → Type 0
SameWord t u = t.word ≡ u.word

-- a reader that never answers
pub record Never {A : Type 0} (m : Reader A) : Type 0 where
  pub none : (ts : Toks) (a : A) (us : Toks) → m ts ≡ ok a us → ⊥

module _ {B : Border} {c : Bool} {A D : Type 0} {R : D → D → Type 0} {m k : Reader A} {f g : A → Reader D} where
  pub alike_bind : {Q : A → A → Type 0} → Alike B c Q m k → ((a b : A) → Q a b → Alike B false R (f a) (g b)) → Alike B c R (m >>= f) (k >>= g)
  alike_bind h j = record {
    both = λ n ts us l a vs e b ws d. (
        let x = bind_ok m f ts a vs e in
        let y = bind_ok k g us b ws d in
        let u = h.both n ts us l x.0 x.1 x.2 y.0 y.1 y.2 in
        let v = (j x.0 y.0 u.0).both u.1.left x.1 y.1 u.1.like a vs x.3 b ws y.3 in
        (v.0, record { left = v.1.left; fewer = fewer_on c v.1.left u.1.left n v.1.fewer u.1.fewer; like = v.1.like }));
  }

  -- equal answers
  pub alike_equal : Alike B c Equal m k → ((a : A) → Alike B false R (f a) (g a)) → Alike B c R (m >>= f) (k >>= g)
  alike_equal h j = alike_bind h λ a b q. subst (λ (x : A). Alike B false R (f a) (g x)) q (j a)

-- one reader for each state, at equal states
pub alike_at : {B : Border} {c : Bool} {A D : Type 0} {R : D → D → Type 0} {f g : A → Reader D} → ((x : A) → Alike B c R (f x) (g x))
    → (x y : A) → x ≡ y → Alike B c R (f x) (g y)
alike_at {B} {c} {A} {D} {R} {f} {g} h x y e = subst (λ (z : A). Alike B c R (f x) (g z)) e (h x)

-- the tokens stay
stays : {B : Border} {n : ℕ} {ts us vs ws : Toks} → ts ≡ vs → us ≡ ws → Like B n ts us → Leaves B false n vs ws
stays {B} {n} {ts} {us} {vs} {ws} e d l =
    record { left = n; fewer = omega arith; like = subst (λ (x : Toks). Like B n vs x) d (subst (λ (x : Toks). Like B n x us) e l) }

pub alike_give : {B : Border} {A : Type 0} {R : A → A → Type 0} (a b : A) → R a b → Alike B false R (give a) (give b)
alike_give {B} {A} {R} a b r = record {
  both = λ n ts us l x vs e y ws d. (
      let p = give_ok e in
      let q = give_ok d in
      (subst (λ (z : A). R x z) q.0 (subst (λ (z : A). R z b) p.0 r), stays p.1 q.1 l));
}

pub alike_if : {B : Border} (c d : Bool) (n p m q : ℕ) → Alike B false Anyhow (refuse_if c n p) (refuse_if d m q)
alike_if c d n p m q = record { both = λ i ts us l x vs e y ws f. (tt, stays (if_ok c n p e) (if_ok d m q f) l) }

pub alike_known : {B : Border} {A : Type 0} {R : A → A → Type 0} (o q : Option A) (n p m r : ℕ)
    → ((a b : A) → o ≡ some a → q ≡ some b → R a b) → Alike B false R (known o n p) (known q m r)
alike_known o q n p m r h = record {
  both = λ i ts us l x vs e y ws f. (h x y (known_ok o n p ts e) (known_ok q m r us f), stays (known_rest o n p ts e) (known_rest q m r us f) l);
}

pub within_ok : (a b : ℕ) (o : Option ℕ) (p : ℕ) (ts : Toks) (n : ℕ) (us : Toks) → within a b o p ts ≡ ok n us → (o ≡ some n) × (ts ≡ us)
unfolding within
within_ok a b none p ts n us e = let z : ◌≡◌ {A = ℕ} 0 1 = cc in absurd (omega arith)
within_ok a b (some x) p ts n us e = by (leb a x && leb x b) e
  where
    by : (t : Bool) → ◌≡◌ {A = Res ℕ} (elim t [ true ↦ ok x ts | false ↦ refuse bad_number p ]) (ok n us) → (some x ≡ some n) × (ts ≡ us)
    by true e = (let q : x ≡ n = cc in ap some q, let q : ts ≡ us = cc in q)
    by false e = let z : ◌≡◌ {A = ℕ} 0 1 = cc in absurd (omega arith)

pub alike_within : {B : Border} (a b p q : ℕ) (o r : Option ℕ) → o ≡ r → Alike B false Equal (within a b o p) (within a b r q)
alike_within a b p q o r h = record {
  both = λ i ts us l x vs e y ws f. (
      let u = within_ok a b o p ts x vs e in
      let v = within_ok a b r q us y ws f in
      let z : some x ≡ some y = sym u.0 ∙ h ∙ v.0 in
      (let k : x ≡ y = cc in k, stays u.1 v.1 l));
}

-- ---- readers that never answer

pub never_bind : {A D : Type 0} (m : Reader A) (f : A → Reader D) → Never m → Never (m >>= f)
never_bind m f h = record { none = λ ts a us e. (let x = bind_ok m f ts a us e in h.none ts x.0 x.1 x.2) }

pub never_then : {A D : Type 0} (m : Reader A) (f : A → Reader D) → ((a : A) → Never (f a)) → Never (m >>= f)
never_then m f h = record { none = λ ts a us e. (let x = bind_ok m f ts a us e in (h x.0).none x.1 a us x.3) }

pub never_if : (c : Bool) (n p : ℕ) → c ≡ true → Never (refuse_if c n p)
unfolding refuse_if
never_if c n p h = rw h (record { none = λ ts a us e. (let z : ◌≡◌ {A = ℕ} 0 1 = cc in omega arith) })

pub never_known : {A : Type 0} (o : Option A) (n p : ℕ) → o ≡ none → Never (known o n p)
never_known o n p h = record { none = λ ts a us e. (let q = known_ok o n p ts e in let z : ◌≡◌ {A = ℕ} 0 1 = cc in omega arith) }

pub never_within : (a b p : ℕ) (o : Option ℕ) → o ≡ none → Never (within a b o p)
never_within a b p o h =
    record { none = λ ts n us e. (let q = (within_ok a b o p ts n us e).0 in let z : ◌≡◌ {A = ℕ} 0 1 = cc in omega arith) }

pub never_refuse : {A : Type 0} {n p : ℕ} → Never {A = A} (λ ts. refuse n p)
never_refuse = record { none = λ ts a us e. (let z : ◌≡◌ {A = ℕ} 0 1 = cc in omega arith) }

pub alike_never : {B : Border} {c : Bool} {A : Type 0} {R : A → A → Type 0} {m k : Reader A} → Never m → Alike B c R m k
alike_never h = record { both = λ n ts us l a vs e b ws d. absurd (h.none ts a vs e) }

-- ---- one token; none that reads on behind it takes the border's

any_off : {A : Type 0} (f : Tok → Reader A) → ((t : Tok) → t.word ≡ bytes "Pattern" → Never (f t))
    → (ts : Toks) → AtBlock ts → (a : A) (us : Toks) → (any >>= f) ts ≡ ok a us → ⊥
unfolding any ◌>>=◌ after
any_off f h (stop n p) x a us e = let z : ◌≡◌ {A = ℕ} 0 1 = cc in omega arith
any_off f h (tok t ts) x a us e = (h t x.0).none ts a us e

module _ {B : Border} {c : Bool} {A : Type 0} {R : A → A → Type 0} {f g : Tok → Reader A}
    (h : (t : Tok) → t.word ≡ bytes "Pattern" → Never (f t)) (j : (t u : Tok) → SameWord t u → Alike B false R (f t) (g u)) where
  pub alike_any : Alike B c R (any >>= f) (any >>= g)
  unfolding any ◌>>=◌ after
  alike_any = record { both = by }
    where
      by : (n : ℕ) (ts us : Toks) → Like B n ts us → (a : A) (vs : Toks) → (any >>= f) ts ≡ ok a vs → (b : A) (ws : Toks) → (any >>= g) us ≡ ok b ws
          → R a b × Leaves B c n vs ws
      by zero ts us l a vs e b ws d =
          absurd (any_off f h B.first B.at_first a vs (subst (λ (x : Toks). (any >>= f) x ≡ ok a vs) l.0 e))
      by (suc n) (stop m p) us l a vs e b ws d = absurd l
      by (suc n) (tok t ts) (stop m p) l a vs e b ws d = absurd l
      by (suc n) (tok t ts) (tok u us) l a vs e b ws d =
          let x = (j t u l.0).both n ts us l.1 a vs e b ws d in
          (x.0, record { left = x.1.left; fewer = fewer_one c x.1.left n x.1.fewer; like = x.1.like })

-- a word is a token
pub word_any : {A : Type 0} (f : Tok → Reader A) (ts : Toks) (a : A) (us : Toks) → (word >>= f) ts ≡ ok a us → (any >>= f) ts ≡ ok a us
unfolding word
word_any f ts a us e =
    let x = bind_ok word f ts a us e in
    let y = bind_ok any _ ts x.0 x.1 x.2 in
    let z = bind_ok _ _ y.1 x.0 x.1 y.3 in
    let i = give_ok z.3 in
    let q : any ts ≡ ok x.0 x.1 = y.2 ∙ ap (λ (t : Tok). ok t y.1) i.0 ∙ ap (ok x.0) (if_ok _ _ _ z.2 ∙ i.1) in
    bind_go any f ts x.0 x.1 q ∙ x.3

pub alike_word : {B : Border} {c : Bool} {A : Type 0} {R : A → A → Type 0} {f g : Tok → Reader A}
    → ((t : Tok) → t.word ≡ bytes "Pattern" → Never (f t)) → ((t u : Tok) → SameWord t u → Alike B false R (f t) (g u))
    → Alike B c R (word >>= f) (word >>= g)
alike_word {f} {g} h j =
    record { both = λ n ts us l a vs e b ws d. (alike_any h j).both n ts us l a vs (word_any f ts a vs e) b ws (word_any g us b ws d) }

-- this token is due, which is not the border's
pub alike_due : {B : Border} {c : Bool} (w : List ℕ) → same (bytes "Pattern") w ≡ false → Alike B c Anyhow (due_of w) (due_of w)
unfolding due_of
alike_due w o =
    alike_any (λ t e. never_bind _ _ (never_if _ _ _ (ap (λ (x : List ℕ). not (same x w)) e ∙ ap not o))) λ t u e.
    alike_bind (alike_if _ _ _ _ _ _) λ x y q. alike_give _ _ tt

-- ---- choices

abbrev pub EachAlike : Border → {A : Type 0} → (A → A → Type 0) → List (String × (ℕ → Reader A)) → List (String × (ℕ → Reader A)) → Type 0
EachAlike B R [] ys = Unit {0}
EachAlike B R (x ∷ xs) [] = ⊥
EachAlike B R (x ∷ xs) (y ∷ ys) =
    ((x.0 ≡ y.0) × (same (bytes "Pattern") (bytes x.0) ≡ false) × ((p q : ℕ) → Alike B false R (x.1 p) (y.1 q))) × EachAlike B R xs ys

alike_either : {B : Border} {c : Bool} {A : Type 0} {R : A → A → Type 0} (s t : Bool) → s ≡ t → {m k n l : Reader A} → Alike B c R m n → Alike B c R k l
    → Alike B c R (λ ts. elim s [ true ↦ m ts | false ↦ k ts ]) (λ ts. elim t [ true ↦ n ts | false ↦ l ts ])
alike_either true true e f g = f
alike_either false false e f g = g
alike_either true false e f g = let z : ◌≡◌ {A = ℕ} 0 1 = cc in absurd (omega arith)
alike_either false true e f g = let z : ◌≡◌ {A = ℕ} 0 1 = cc in absurd (omega arith)

pub alike_one_of : {B : Border} {A : Type 0} {R : A → A → Type 0} (xs ys : List (String × (ℕ → Reader A))) → EachAlike B R xs ys → (t u : Tok) → SameWord t u
    → Alike B false R (one_of xs t) (one_of ys u)
unfolding one_of
alike_one_of [] ys h t u e = alike_never never_refuse
alike_one_of (x ∷ xs) [] h t u e = absurd h
alike_one_of (x ∷ xs) (y ∷ ys) h t u e =
    alike_either (same t.word (bytes x.0)) (same u.word (bytes y.0)) (ap (λ (w : List ℕ). same w (bytes x.0)) e ∙ ap (λ (s : String). same u.word (bytes s)) h.0.0)
    (h.0.2 t.at u.at) (alike_one_of xs ys h.1 t u e)

pub never_either : {A : Type 0} (c : Bool) → c ≡ false → (m : Reader A) {k : Reader A} → Never k → Never {A = A} (λ ts. elim c [ true ↦ m ts | false ↦ k ts ])
never_either true e m h = let z : ◌≡◌ {A = ℕ} 0 1 = cc in absurd (omega arith)
never_either false e m h = h

never_one_of : (B : Border) {A : Type 0} (R : A → A → Type 0) (xs ys : List (String × (ℕ → Reader A))) → EachAlike B R xs ys → (t : Tok) → t.word ≡ bytes "Pattern"
    → Never (one_of xs t)
unfolding one_of
never_one_of B R [] ys h t e = never_refuse
never_one_of B R (x ∷ xs) [] h t e = absurd h
never_one_of B R (x ∷ xs) (y ∷ ys) h t e = never_either (same t.word (bytes x.0)) (ap (λ (w : List ℕ). same w (bytes x.0)) e ∙ h.0.1) _ (never_one_of B R xs ys h.1 t e)

pub alike_choose : {B : Border} {c : Bool} {A : Type 0} {R : A → A → Type 0} (xs ys : List (String × (ℕ → Reader A))) → EachAlike B R xs ys
    → Alike B c R (choose xs) (choose ys)
unfolding choose
alike_choose {B} {R} xs ys h = alike_any (never_one_of B R xs ys h) (alike_one_of xs ys h)

-- by what is next
pub alike_test : {B : Border} {c : Bool} {A : Type 0} {R : A → A → Type 0} {test : Toks → Bool} {m k n l : Reader A}
    → ((i : ℕ) (ts us : Toks) → Like B i ts us → test ts ≡ test us) → Alike B c R m n → Alike B c R k l
    → Alike B c R (λ ts. elim (test ts) [ true ↦ m ts | false ↦ k ts ]) (λ ts. elim (test ts) [ true ↦ n ts | false ↦ l ts ])
alike_test {B} {c} {A} {R} {test} {m} {k} {n} {l} t f g = record { both = λ i ts us h a vs e b ws d. by i ts us h a vs b ws (test ts) (test us) (t i ts us h) e d }
  where
    by : (i : ℕ) (ts us : Toks) → Like B i ts us → (a : A) (vs : Toks) (b : A) (ws : Toks) (x y : Bool) → x ≡ y
        → ◌≡◌ {A = Res A} (elim x [ true ↦ m ts | false ↦ k ts ]) (ok a vs) → ◌≡◌ {A = Res A} (elim y [ true ↦ n us | false ↦ l us ]) (ok b ws)
        → R a b × Leaves B c i vs ws
    by i ts us h a vs b ws true true q e d = f.both i ts us h a vs e b ws d
    by i ts us h a vs b ws false false q e d = g.both i ts us h a vs e b ws d
    by i ts us h a vs b ws true false q e d = let z : ◌≡◌ {A = ℕ} 0 1 = cc in absurd (omega arith)
    by i ts us h a vs b ws false true q e d = let z : ◌≡◌ {A = ℕ} 0 1 = cc in absurd (omega arith)

pub alike_ahead : {B : Border} {c : Bool} {A : Type 0} {R : A → A → Type 0} (s : String) {m k n l : Reader A} → Alike B c R m n → Alike B c R k l
    → Alike B c R (if_ahead s m k) (if_ahead s n l)
unfolding if_ahead
alike_ahead {B} s f g = alike_test (λ i ts us h. like_ahead B (bytes s) i ts us h) f g

pub alike_option : {B : Border} {S : Type 0} {R : S → S → Type 0} (s : String) (f g : S → Reader S) (x y : S) → Alike B false R (f x) (g y) → R x y
    → Alike B false R (option s f x) (option s g y)
unfolding option
alike_option s f g x y h r = alike_ahead s h (alike_give x y r)

-- ---- loops

module _ {B : Border} {S : Type 0} {R : S → S → Type 0} {test : Toks → Bool} {step turn : S → Reader S}
    (t : (i : ℕ) (ts us : Toks) → Like B i ts us → test ts ≡ test us) (h : (x y : S) → R x y → Alike B true R (step x) (turn y)) where
  alike_while_f : (j k n : ℕ) (x y : S) → R x y → (ts us : Toks) → Like B n ts us → n < j → n < k → (a : S) (vs : Toks) → while_f test step j x ts ≡ ok a vs
      → (b : S) (ws : Toks) → while_f test turn k y us ≡ ok b ws → R a b × Leaves B false n vs ws
  unfolding while_f
  alike_while_f zero k n x y r ts us l lj lk a vs e b ws d = absurd (omega arith)
  alike_while_f (suc j) zero n x y r ts us l lj lk a vs e b ws d = absurd (omega arith)
  alike_while_f (suc j) (suc k) n x y r ts us l lj lk a vs e b ws d =
      by (test ts) (test us) (t n ts us l) e d λ i p q s vs₁ ws₁ z w. alike_while_f j k i p q s vs₁ ws₁ z (omega arith) (omega arith) a vs
    where
      by : (p q : Bool) → p ≡ q → ◌≡◌ {A = Res S} (elim p [ true ↦ (step x >>= λ s. while_f test step j s) ts | false ↦ ok x ts ]) (ok a vs)
          → ◌≡◌ {A = Res S} (elim q [ true ↦ (turn y >>= λ s. while_f test turn k s) us | false ↦ ok y us ]) (ok b ws)
          → ((i : ℕ) (p q : S) → R p q → (vs₁ ws₁ : Toks) → Like B i vs₁ ws₁ → i < n → while_f test step j p vs₁ ≡ ok a vs → (b : S) (ws : Toks) → while_f test turn k q ws₁ ≡ ok b ws
          → R a b × Leaves B false i vs ws)
          → R a b × Leaves B false n vs ws
      by true false z e d ih = let z : ◌≡◌ {A = ℕ} 0 1 = cc in absurd (omega arith)
      by false true z e d ih = let z : ◌≡◌ {A = ℕ} 0 1 = cc in absurd (omega arith)
      by false false z e d ih =
          let p : x ≡ a = cc in
          let q : y ≡ b = cc in
          let u : ts ≡ vs = cc in
          let v : us ≡ ws = cc in
          (rw (← p, ← q) r, stays u v l)
      by true true z e d ih =
          let p = bind_ok (step x) _ ts a vs e in
          let q = bind_ok (turn y) _ us b ws d in
          let i = (h x y r).both n ts us l p.0 p.1 p.2 q.0 q.1 q.2 in
          let o = ih i.1.left p.0 q.0 i.0 p.1 q.1 i.1.like i.1.fewer p.3 b ws q.3 in
          (o.0, record { left = o.1.left; fewer = omega (arith, o.1.fewer, i.1.fewer); like = o.1.like })

  like_left : (n : ℕ) (ts us : Toks) → Like B n ts us → (n ≤ left ts) × (n ≤ left us)
  unfolding left
  like_left zero ts us l = (omega arith, omega arith)
  like_left (suc n) (stop m p) us l = absurd l
  like_left (suc n) (tok t ts) (stop m p) l = absurd l
  like_left (suc n) (tok t ts) (tok u us) l = let i = like_left n ts us l.1 in (omega arith, omega arith)

  pub alike_while : (x y : S) → R x y → Alike B false R (while test step x) (while test turn y)
  unfolding while
  alike_while x y r = record {
    both = λ n ts us l a vs e b ws d. (
        let i = like_left n ts us l in
        alike_while_f (suc (left ts)) (suc (left us)) n x y r ts us l (omega arith) (omega arith) a vs e b ws d);
  }

-- where a loop is closed by a token, its last turn stood before it: no count is asked for
ends_here : {S : Type 0} (test : Toks → Bool) (step : S → Reader S) (k : ℕ) (x : S) (ts : Toks) → test ts ≡ false → while_f test step k x ts ≡ ok x ts
unfolding while_f
ends_here test step zero x ts e = refl
ends_here test step (suc k) x ts e = rw (e, while_f)

pub goes_on : {S : Type 0} (test : Toks → Bool) (step : S → Reader S) (k : ℕ) (x : S) (ts : Toks) → test ts ≡ true → while_f test step (suc k) x ts ≡ (step x >>= λ s. while_f test step k s) ts
unfolding while_f
goes_on test step k x ts e = rw (e, while_f)

-- the loop is not over before the token w
abbrev pub open' : List ℕ → Toks → Bool
open' w ts = not (ahead_of w ts)

-- from where P holds such a loop never comes to its token
pub record Lost (P : Toks → Type 0) (w : List ℕ) {S : Type 0} (step : S → Reader S) : Type 0 where
  pub none : (k : ℕ) (x : S) (ts : Toks) → P ts → (a : S) (us : Toks) → while_f (open' w) step k x ts ≡ ok a us → ahead_of w us ≡ true → ⊥

module _ {B : Border} {P : Toks → Type 0} {S : Type 0} {R : S → S → Type 0} {step turn : S → Reader S} (w : List ℕ)
    (lost : Lost P w step) (h : (x y : S) → R x y → Near B P R (step x) (turn y)) where
  ended : (j k n : ℕ) (x y : S) → R x y → (ts us : Toks) → Like B n ts us → ahead_of w ts ≡ true → (a : S) (vs : Toks) → while_f (open' w) step j x ts ≡ ok a vs
      → (b : S) (ws : Toks) → while_f (open' w) turn k y us ≡ ok b ws → R a b × Leaves B false n vs ws
  ended j k n x y r ts us l q a vs e b ws d =
      let u : ok x ts ≡ ok a vs = sym (ends_here (open' w) step j x ts (ap not q)) ∙ e in
      let v : ok y us ≡ ok b ws = sym (ends_here (open' w) turn k y us (ap not (sym (like_ahead B w n ts us l) ∙ q))) ∙ d in
      let p : x ≡ a = cc in
      let o : y ≡ b = cc in
      (rw (← p, ← o) r, stays (cc) (cc) l)

  alike_closed_f : (j k n : ℕ) (x y : S) → R x y → (ts us : Toks) → Like B n ts us → (a : S) (vs : Toks) → while_f (open' w) step j x ts ≡ ok a vs → ahead_of w vs ≡ true
      → (b : S) (ws : Toks) → while_f (open' w) turn k y us ≡ ok b ws → ahead_of w ws ≡ true → R a b × Leaves B false n vs ws
  unfolding while_f
  alike_closed_f zero k n x y r ts us l a vs e f b ws d g = let q : ts ≡ vs = cc in ended zero k n x y r ts us l (ap (ahead_of w) q ∙ f) a vs e b ws d
  alike_closed_f (suc j) zero n x y r ts us l a vs e f b ws d g =
      let q : us ≡ ws = cc in
      ended (suc j) zero n x y r ts us l (like_ahead B w n ts us l ∙ ap (ahead_of w) q ∙ g) a vs e b ws d
  alike_closed_f (suc j) (suc k) n x y r ts us l a vs e f b ws d g =
      by (ahead_of w ts) refl λ i p q s ps qs z u v. alike_closed_f j k i p q s ps qs z a vs u f b ws v g
    where
      by : (c : Bool) → ahead_of w ts ≡ c
          → ((i : ℕ) (p q : S) → R p q → (ps qs : Toks) → Like B i ps qs → while_f (open' w) step j p ps ≡ ok a vs → while_f (open' w) turn k q qs ≡ ok b ws → R a b × Leaves B false i vs ws)
          → R a b × Leaves B false n vs ws
      by true q ih = ended (suc j) (suc k) n x y r ts us l q a vs e b ws d
      by false q ih =
          let p = bind_ok (step x) _ ts a vs (sym (goes_on (open' w) step j x ts (ap not q)) ∙ e) in
          let o = bind_ok (turn y) _ us b ws (sym (goes_on (open' w) turn k y us (ap not (sym (like_ahead B w n ts us l) ∙ q))) ∙ d) in
          let i = (h x y r).both n ts us l p.0 p.1 p.2 o.0 o.1 o.2 in
          ⊎_elim (λ i. again i.0 i.1 p.3 o.3) (λ i. absurd (lost.none j p.0 p.1 i a vs p.3 f)) i
        where
          again : {p q : S} {ps qs : Toks} → R p q → Leaves B false n ps qs → while_f (open' w) step j p ps ≡ ok a vs → while_f (open' w) turn k q qs ≡ ok b ws → R a b × Leaves B false n vs ws
          again r v e d =
              let z = ih v.left _ _ r _ _ v.like e d in
              (z.0, record { left = z.1.left; fewer = omega (arith, z.1.fewer, v.fewer); like = z.1.like })

-- and the closing token is not the border's
module _ {B : Border} {P : Toks → Type 0} {S : Type 0} {R : S → S → Type 0} {step turn : S → Reader S} (s : String) (o : same (bytes "Pattern") (bytes s) ≡ false)
    (lost : Lost P (bytes s) step) (h : (x y : S) → R x y → Near B P R (step x) (turn y)) where
  pub near_closed : (x y : S) → R x y → Alike B false (λ (p q : S × ℕ). R p.0 q.0) (closed s step x) (closed s turn y)
  unfolding closed while
  near_closed x y r = record {
    both = λ n ts us l a vs e b ws d. (
        let p = bind_ok _ _ ts a vs e in
        let q = bind_ok _ _ us b ws d in
        let u = bind_ok _ _ p.1 a vs p.3 in
        let v = bind_ok _ _ q.1 b ws q.3 in
        let i = alike_closed_f (bytes s) lost h (suc (left ts)) (suc (left us)) n x y r ts us l p.0 p.1 p.2 (due_ahead (bytes s) p.1 u.0 u.1 u.2)
        q.0 q.1 q.2 (due_ahead (bytes s) q.1 v.0 v.1 v.2) in
        let j : Alike B false (λ (p q : S × ℕ). R p.0 q.0) (due_of (bytes s) >>= λ z. give (p.0, z)) (due_of (bytes s) >>= λ z. give (q.0, z)) =
        alike_bind (alike_due (bytes s) o) λ y z w. alike_give _ _ i.0 in
        let k = j.both i.1.left p.1 q.1 i.1.like a vs p.3 b ws q.3 in
        (k.0, record { left = k.1.left; fewer = omega (arith, k.1.fewer, i.1.fewer); like = k.1.like }));
  }

module _ {B : Border} {S : Type 0} {R : S → S → Type 0} {step turn : S → Reader S} (s : String) (o : same (bytes "Pattern") (bytes s) ≡ false)
    (h : (x y : S) → R x y → Alike B false R (step x) (turn y)) where
  pub alike_closed : (x y : S) → R x y → Alike B false (λ (p q : S × ℕ). R p.0 q.0) (closed s step x) (closed s turn y)
  alike_closed =
      near_closed {P = λ ts. ⊥} s o (record { none = λ k x ts z a us e f. z })
      λ x y r. record { both = λ n ts us l a vs e b ws d. inl ((h x y r).both n ts us l a vs e b ws d) }

  pub alike_until : (x y : S) → R x y → Alike B false R (until s step x) (until s turn y)
  unfolding until
  alike_until x y r = alike_bind (alike_closed x y r) λ p q z. alike_give _ _ z
