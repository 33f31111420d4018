-- What a reader makes of known words: it answers something with P, and leaves the words behind.
use Prim.Native.Nat.{ℕ, suc}
use Prim.Native.String.{String}
use mathlib.Core.Path.{◌≡◌, refl, sym, ap, ◌∙◌, subst}
use mathlib.Core.Bool.{Bool, true, false, not, ◌&&◌}
use mathlib.Core.Option.{Option, none, some}
use mathlib.Core.List.{List, [], ◌∷◌, ◌++◌, append_assoc, append-nil}
use lib.Dec.{leb}
use lib.ListN.{length}
use Rattle.tokens.specs.Written.{bytes, same}
use Rattle.tokens.specs.Tokens.{Tok, Toks}
use Rattle.meaning.specs.Reader.{Res, Reader, ok, after, ◌>>=◌, ◌>>◌, give, refuse_if, any, ahead_of, ahead, due_of, is_word, word, if_ahead, option, while, closed, until}
use Rattle.meaning.specs.Names.{among, is_name, name, due_among, find, is_some, new_name, known, old_name, number, within, number_in}
use Rattle.meaning.proofs.Gives.{bind_go}
use Rattle.meaning.proofs.Takes.{Takes, while_done, while_on}
use Rattle.words.proofs.Words.{same_self}
use Rattle.folded.specs.Pieces.{Piece, each}
use Rattle.folded.proofs.Words.{words, Before}

pub record Reads {A : Type 0} (m : Reader A) (ws vs : List (List ℕ)) (P : A → Type 0) : Type 0 where
  pub all : (ts us : Toks) → Before ws ts us → (a : A) × (mid : Toks) × (m ts ≡ ok a mid) × Before vs mid us × P a

module _ {A B : Type 0} {m : Reader A} {k : A → Reader B} {ws vs xs : List (List ℕ)} {Q : A → Type 0} {P : B → Type 0} where
  -- one after the other
  pub reads_bind : Reads m ws vs Q → ((a : A) → Q a → Reads (k a) vs xs P) → Reads (m >>= k) ws xs P
  reads_bind f g = record {
    all = λ ts us h. (
        let i = f.all ts us h in
        let j = (g i.0 i.4).all i.1 us i.3 in
        (j.0, j.1, bind_go m k ts i.0 i.1 i.2 ∙ j.2, j.3, j.4));
  }

pub reads_give : {A : Type 0} {P : A → Type 0} (ws : List (List ℕ)) (a : A) → P a → Reads (give a) ws ws P
unfolding give
reads_give ws a p = record { all = λ ts us h. (a, ts, refl, h, p) }

-- a test that refuses, and does not hold
pub reads_if : {A : Type 0} {P : A → Type 0} (c : Bool) (n p : ℕ) (k : Reader A) {ws vs : List (List ℕ)} → c ≡ false → Reads k ws vs P → Reads (refuse_if c n p >> k) ws vs P
unfolding refuse_if ◌>>=◌ after
reads_if c n p k e f = rw e (record { all = λ ts us h. f.all ts us h })

pub reads_known : {A B : Type 0} {P : B → Type 0} (o : Option A) (a : A) (n p : ℕ) (k : A → Reader B) {ws vs : List (List ℕ)} → o ≡ some a → Reads (k a) ws vs P
    → Reads (known o n p >>= k) ws vs P
unfolding known ◌>>=◌ after
reads_known o a n p k e f = rw e (record { all = λ ts us h. f.all ts us h })

pub reads_found : {A : Type 0} (o : Option A) (a : A) (n p : ℕ) (ws : List (List ℕ)) → o ≡ some a → Reads (known o n p) ws ws (λ x. x ≡ a)
unfolding known
reads_found o a n p ws e = rw e (record { all = λ ts us h. (a, ts, refl, h, refl) })

-- two readers that do the same
pub reads_by : {A : Type 0} {P : A → Type 0} {m k : Reader A} {ws vs : List (List ℕ)} → ((ts : Toks) → m ts ≡ k ts) → Reads k ws vs P → Reads m ws vs P
reads_by e f = record { all = λ ts us h. (let i = f.all ts us h in (i.0, i.1, e ts ∙ i.2, i.3, i.4)) }

pub reads_as : {A : Type 0} {P Q : A → Type 0} {m : Reader A} {ws vs : List (List ℕ)} → ((a : A) → Q a → P a) → Reads m ws vs Q → Reads m ws vs P
reads_as g f = record { all = λ ts us h. (let i = f.all ts us h in (i.0, i.1, i.2, i.3, g i.0 i.4)) }

-- ---- one word

pub reads_any : (w : List ℕ) (ws : List (List ℕ)) → Reads any (w ∷ ws) ws (λ t. t.word ≡ w)
unfolding any
reads_any w ws = record { all = λ ts us h. (h.0, h.1, ap any h.2, h.4, h.3) }

pub reads_due : (w : List ℕ) (ws : List (List ℕ)) → Reads (due_of w) (w ∷ ws) ws (λ p. Unit {0})
unfolding due_of
reads_due w ws = reads_bind (reads_any w ws) λ t e. reads_if _ _ _ _ (rw (e, same_self w) refl) (reads_give ws t.at tt)

pub reads_among : (ks : List String) (w : List ℕ) (ws : List (List ℕ)) → among ks w ≡ true → Reads (due_among ks) (w ∷ ws) ws (λ p. Unit {0})
unfolding due_among
reads_among ks w ws h = reads_bind (reads_any w ws) λ t e. reads_if _ _ _ _ (rw (e, h) refl) (reads_give ws t.at tt)

pub reads_word : (w : List ℕ) (ws : List (List ℕ)) → is_word w ≡ true → Reads word (w ∷ ws) ws (λ t. t.word ≡ w)
unfolding word
reads_word w ws h = reads_bind (reads_any w ws) λ t e. reads_if _ _ _ _ (rw (e, h) refl) (reads_give ws t e)

pub reads_name : (w : List ℕ) (ws : List (List ℕ)) → is_word w ≡ true → is_name w ≡ true → Reads name (w ∷ ws) ws (λ t. t.word ≡ w)
unfolding name
reads_name w ws h k = reads_bind (reads_word w ws h) λ t e. reads_if _ _ _ _ (rw (e, k) refl) (reads_give ws t e)

pub reads_new : {A : Type 0} (used : List (Tok × A)) (w : List ℕ) (ws : List (List ℕ)) → is_word w ≡ true → is_name w ≡ true → find used w ≡ none
    → Reads (new_name used) (w ∷ ws) ws (λ t. t.word ≡ w)
unfolding new_name is_some
reads_new used w ws h k f = reads_bind (reads_name w ws h k) λ t e. reads_if _ _ _ _ (rw (e, f) refl) (reads_give ws t e)

pub reads_old : {A : Type 0} (used : List (Tok × A)) (w : List ℕ) (a : A) (ws : List (List ℕ)) → is_word w ≡ true → is_name w ≡ true → find used w ≡ some a
    → Reads (old_name used) (w ∷ ws) ws (λ x. (x.0.word ≡ w) × (x.1 ≡ a))
unfolding old_name
reads_old used w a ws h k f = reads_bind (reads_name w ws h k) λ t e. reads_known _ a _ _ _ (rw e f) (reads_give ws (t, a) (e, refl))

pub reads_within : (a b n : ℕ) (o : Option ℕ) (p : ℕ) (ws : List (List ℕ)) → o ≡ some n → (leb a n && leb n b) ≡ true → Reads (within a b o p) ws ws (λ m. m ≡ n)
unfolding within
reads_within a b n o p ws e h = rw e (record { all = λ ts us k. (n, ts, rw (h, within), k, refl) })

pub reads_number : (a b n : ℕ) (w : List ℕ) (ws : List (List ℕ)) → is_word w ≡ true → number w ≡ some n → (leb a n && leb n b) ≡ true
    → Reads (number_in a b) (w ∷ ws) ws (λ m. m ≡ n)
unfolding number_in
reads_number a b n w ws h e k = reads_bind (reads_word w ws h) λ t q. reads_within a b n _ _ ws (rw q e) k

-- ---- what is next

-- the first word is not this one
abbrev pub Unlike : List ℕ → List (List ℕ) → Type 0
Unlike c [] = ⊥
Unlike c (w ∷ ws) = same w c ≡ false

pub not_ahead : (c : List ℕ) (ws : List (List ℕ)) (ts us : Toks) → Before ws ts us → Unlike c ws → ahead_of c ts ≡ false
unfolding ahead_of
not_ahead c [] ts us h k = absurd k
not_ahead c (w ∷ ws) ts us h k = rw (h.2, ahead_of, h.3) k

pub is_ahead : (c : List ℕ) (ws : List (List ℕ)) (ts us : Toks) → Before (c ∷ ws) ts us → ahead_of c ts ≡ true
unfolding ahead_of
is_ahead c ws ts us h = rw (h.2, ahead_of, h.3) (same_self c)

pub skipped : {S : Type 0} (s : String) (part : S → Reader S) (x : S) (ts : Toks) → ahead s ts ≡ false → option s part x ts ≡ ok x ts
unfolding option if_ahead give
skipped {S} s part x ts e = ap (λ (b : Bool). elim b as (λ c. Res S) [ true ↦ part x ts | false ↦ ok x ts ]) e

-- one reader where this word is next, and another where it is not
either : {A : Type 0} (m k : Reader A) → Toks → Bool → Res A
either m k ts b = elim b [ true ↦ m ts | false ↦ k ts ]

module _ {A : Type 0} {P : A → Type 0} (s : String) (m k : Reader A) {ws vs : List (List ℕ)} where
  pub reads_there : Reads m (bytes s ∷ ws) vs P → Reads (if_ahead s m k) (bytes s ∷ ws) vs P
  unfolding if_ahead either
  reads_there f = record { all = λ ts us h. (let i = f.all ts us h in (i.0, i.1, ap (either m k ts) (is_ahead (bytes s) ws ts us h) ∙ i.2, i.3, i.4)) }

  pub reads_elsewhere : Unlike (bytes s) ws → Reads k ws vs P → Reads (if_ahead s m k) ws vs P
  unfolding if_ahead either
  reads_elsewhere n f = record { all = λ ts us h. (let i = f.all ts us h in (i.0, i.1, ap (either m k ts) (not_ahead (bytes s) ws ts us h n) ∙ i.2, i.3, i.4)) }

-- a part that is missing
pub reads_without : {S B : Type 0} {P : B → Type 0} (s : String) (part : S → Reader S) (x : S) (k : S → Reader B) {ws vs : List (List ℕ)} → Unlike (bytes s) ws → Reads (k x) ws vs P
    → Reads (option s part x >>= k) ws vs P
reads_without s part x k {ws} n f = record {
  all = λ ts us h. (
      let i = f.all ts us h in
      (i.0, i.1, bind_go (option s part x) k ts x ts (skipped s part x ts (not_ahead (bytes s) ws ts us h n)) ∙ i.2, i.3, i.4));
}

-- ---- loops

-- each of the things xs behind those before it
abbrev pub AllFit : {X : Type 0} → (List X → X → Type 0) → List X → List X → Type 0
AllFit F before [] = Unit {0}
AllFit F before (x ∷ xs) = F before x × AllFit F (before ++ x ∷ []) xs

-- at least one of them
abbrev pub SomeFit : {X : Type 0} → (List X → X → Type 0) → List X → Type 0
SomeFit F [] = ⊥
SomeFit F (x ∷ xs) = AllFit F [] (x ∷ xs)

module _ {X S : Type 0} (put : X → List Piece → List Piece) (test : Toks → Bool) (step : S → Reader S) (takes : (s : S) → Takes (step s))
    (I : List X → S → Type 0) (F : List X → X → Type 0)
    (begins : (before : List X) (x : X) (k : List Piece) (ts us : Toks) → F before x → Before (words (put x k)) ts us → test ts ≡ true)
    (turn : (before : List X) (x : X) (s : S) (k : List Piece) → F before x → I before s → Reads (step s) (words (put x k)) (words k) (I (before ++ x ∷ []))) where
  pub reads_while : (xs before : List X) (s : S) (k : List Piece) → AllFit F before xs → I before s
      → ((ts us : Toks) → Before (words k) ts us → test ts ≡ false) → Reads (while test step s) (words (each put xs k)) (words k) (I (before ++ xs))
  unfolding each while after
  reads_while [] before s k f i e = record { all = λ ts us h. (s, ts, while_done test step takes s ts (e ts us h), h, subst (λ l. I l s) (sym (append-nil before)) i) }
  reads_while (x ∷ xs) before s k f i e = record {
    all = λ ts us h. (
        let a = (turn before x s (each put xs k) f.0 i).all ts us h in
        let b = (reads_while xs (before ++ x ∷ []) a.0 k f.1 a.4 e).all a.1 us a.3 in
        let on : while test step s ts ≡ while test step a.0 a.1 =
        while_on test step takes s ts (begins before x (each put xs k) ts us f.0 h) ∙ ap (λ (r : Res S). after r (while test step)) a.2 in
        (b.0, b.1, on ∙ b.2, b.3, subst (λ l. I l b.0) (append_assoc before (x ∷ []) xs) b.4));
  }

-- up to a closing word
module _ {X S : Type 0} (put : X → List Piece → List Piece) (close : String) (step : S → Reader S) (takes : (s : S) → Takes (step s))
    (I : List X → S → Type 0) (F : List X → X → Type 0)
    (begins : (before : List X) (x : X) (k : List Piece) → F before x → Unlike (bytes close) (words (put x k)))
    (turn : (before : List X) (x : X) (s : S) (k : List Piece) → F before x → I before s → Reads (step s) (words (put x k)) (words k) (I (before ++ x ∷ []))) where
  pub reads_closed : (xs before : List X) (s : S) (k : List Piece) (ws : List (List ℕ)) → AllFit F before xs → I before s → words k ≡ bytes close ∷ ws
      → Reads (closed close step s) (words (each put xs k)) ws (λ x. I (before ++ xs) x.0)
  unfolding closed
  reads_closed xs before s k ws f i e =
      reads_bind (reads_while put _ step takes I F
      (λ b x j ts us g h. ap not (not_ahead (bytes close) (words (put x j)) ts us h (begins b x j g))) turn xs before s k f i
      (λ ts us h. ap not (is_ahead (bytes close) ws ts us (subst (λ l. Before l ts us) e h)))) λ x j.
      rw e (reads_bind (reads_due (bytes close) ws) λ p u. reads_give ws (x, p) j)

  pub reads_until : (xs before : List X) (s : S) (k : List Piece) (ws : List (List ℕ)) → AllFit F before xs → I before s → words k ≡ bytes close ∷ ws
      → Reads (until close step s) (words (each put xs k)) ws (I (before ++ xs))
  unfolding until
  reads_until xs before s k ws f i e = reads_bind (reads_closed xs before s k ws f i e) λ x j. reads_give ws x.0 j

-- ---- names without their places

unfoldable pub worded : {A : Type 0} → List (Tok × A) → List (List ℕ × A)
worded [] = []
worded (x ∷ xs) = (x.0.word, x.1) ∷ worded xs

unfoldable pub find_in : {A : Type 0} → List (List ℕ × A) → List ℕ → Option A
find_in [] w = none
find_in (x ∷ xs) w = elim (same x.0 w) [ true ↦ some x.1 | false ↦ find_in xs w ]

pub find_worded : {A : Type 0} (xs : List (Tok × A)) (w : List ℕ) → find xs w ≡ find_in (worded xs) w
unfolding find find_in worded
find_worded [] w = refl
find_worded {A} (x ∷ xs) w = ap (λ (o : Option A). elim (same x.0.word w) as (λ c. Option A) [ true ↦ some x.1 | false ↦ o ]) (find_worded xs w)

pub worded-++ : {A : Type 0} (xs ys : List (Tok × A)) → worded (xs ++ ys) ≡ worded xs ++ worded ys
unfolding worded
worded-++ [] ys = refl
worded-++ {A} (x ∷ xs) ys = ap (λ (l : List (List ℕ × A)). (x.0.word, x.1) ∷ l) (worded-++ xs ys)

pub worded_length : {A : Type 0} (xs : List (Tok × A)) → length (worded xs) ≡ length xs
unfolding worded
worded_length [] = refl
worded_length (x ∷ xs) = ap suc (worded_length xs)
