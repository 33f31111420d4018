-- A body that is read ends at the brace that matches its first: every statement closes what it opens.
use mathlib.Core.Path.{◌≡◌, refl, sym, ap, ◌∙◌, subst}
use Prim.Native.Nat.{ℕ, zero, suc, ◌≤◌}
use Prim.Native.String.{String}
use native.Mathlib.Omega.{arith}
use mathlib.Core.Bool.{Bool, true, false, not}
use mathlib.Core.Option.{Option, none, some}
use mathlib.Core.List.{List, [], ◌∷◌}
use lib.Dec.{eqb}
use borrow.Author.Tests.{eqb-true, not-false}
use Rattle.tokens.specs.Written.{bytes, same}
use Rattle.tokens.specs.Bytes.{between, digit, letter, wordy}
use Rattle.tokens.specs.Tokens.{Tok, Toks, stop, tok, left}
use Rattle.meaning.specs.Refusals.{bad_argument}
use Rattle.meaning.specs.Reader.{Res, Reader, ok, refuse, after, ◌>>=◌, give, refuse_if, any, due_of, one_of, choose, is_word, word, while_f, while, closed, until}
use Rattle.meaning.specs.Names.{name, known, old_name, within, number_in}
use Rattle.meaning.specs.Signals.{Names}
use Rattle.meaning.specs.Body.{Assigns, Args, mark, Kind, Body}
use Rattle.meaning.specs.Data.{chars_of, repeat_of, times, repeated, piece, part, data_read, assign, assigns, argument, arguments}
use Rattle.meaning.specs.Statements.{Decl, Decls, Env, Head, ends, vecs, sets, loops, shifts, uses, used, chosen, looping, shift_head, label_head, head, in_shift, behind, statements_f, statements, declared}
use Rattle.meaning.specs.Edited.{from_brace}
use Rattle.meaning.proofs.Gives.{bind_ok, give_ok, if_ok, gives_if}
use Rattle.meaning.proofs.Choices.{◌also◌}
use Rattle.meaning.proofs.Alike.{within_ok}
use Rattle.meaning.proofs.Others.{same_eq}

-- how many braces are open behind a word, where d and one more were
unfoldable pub level_behind : List ℕ → ℕ → ℕ
level_behind w d = elim (same w (bytes "{")) [ true ↦ suc (suc d) | false ↦ elim (same w (bytes "}")) [ true ↦ d | false ↦ suc d ] ]

-- the tokens behind the brace that closes the first of d open ones
unfoldable pub shut : ℕ → Toks → Toks
shut d (stop n p) = stop n p
shut d (tok t ts) = elim d [ zero ↦ tok t ts | suc e ↦ shut (level_behind t.word e) ts ]

pub shut_zero : (ts : Toks) → shut 0 ts ≡ ts
unfolding shut
shut_zero (stop n p) = refl
shut_zero (tok t ts) = refl

pub shut_left : (d : ℕ) (ts : Toks) → left (shut d ts) ≤ left ts
unfolding shut left
shut_left d (stop n p) = omega arith
shut_left zero (tok t ts) = omega arith
shut_left (suc d) (tok t ts) = omega (arith, shut_left (level_behind t.word d) ts)

-- behind the matching brace
pub behind_brace : (d : ℕ) (ts : Toks) (x : Tok) (us : Toks) → from_brace d ts ≡ tok x us → (shut (suc d) ts ≡ us) × (x.word ≡ bytes "}")
unfolding from_brace shut level_behind
behind_brace d (stop n p) x us e = let z : ◌≡◌ {A = ℕ} 0 1 = cc in absurd (omega arith)
behind_brace d (tok t ts) x us e = by (same t.word (bytes "{")) (same t.word (bytes "}")) refl d e (λ d. behind_brace d ts x us)
  where
    by : (p q : Bool) → same t.word (bytes "}") ≡ q → (d : ℕ)
        → ◌≡◌ {A = Toks} (elim p [ true ↦ from_brace (suc d) ts | false ↦ elim q [ true ↦ elim d as (λ n. Toks) [ zero ↦ tok t ts | suc e ↦ from_brace e ts ] | false ↦ from_brace d ts ] ]) (tok x us)
        → ((d : ℕ) → from_brace d ts ≡ tok x us → (shut (suc d) ts ≡ us) × (x.word ≡ bytes "}"))
        → (shut (elim p [ true ↦ suc (suc d) | false ↦ elim q [ true ↦ d | false ↦ suc d ] ]) ts ≡ us) × (x.word ≡ bytes "}")
    by true q f d e ih = ih (suc d) e
    by false false f d e ih = ih d e
    by false true f (suc d) e ih = ih d e
    by false true f zero e ih =
        let i : t ≡ x = cc in
        let j : ts ≡ us = cc in
        (shut_zero ts ∙ j, ap (λ (y : Tok). y.word) (sym i) ∙ same_eq t.word (bytes "}") f)

-- ---- readers by the braces that they open and close

-- from where f d braces are open to where l a d are, whatever d is
pub record Levels {A : Type 0} (f : ℕ → ℕ) (l : A → ℕ → ℕ) (m : Reader A) : Type 0 where
  pub goes : (d : ℕ) (ts : Toks) (a : A) (us : Toks) → m ts ≡ ok a us → shut (f d) ts ≡ shut (l a d) us

-- all that were opened were closed
abbrev Even : {A : Type 0} → Reader A → Type 0
Even m = Levels suc (λ a d. suc d) m

-- one more was closed
abbrev Closes : {A : Type 0} → Reader A → Type 0
Closes m = Levels suc (λ a d. d) m

module _ {A D : Type 0} {f : ℕ → ℕ} {l : A → ℕ → ℕ} {k : D → ℕ → ℕ} {m : Reader A} {g : A → Reader D} where
  levels_bind : Levels f l m → ((a : A) → Levels (l a) k (g a)) → Levels f k (m >>= g)
  levels_bind h j = record {
    goes = λ d ts b us e. (let x = bind_ok m g ts b us e in h.goes d ts x.0 x.1 x.2 ∙ (j x.0).goes d x.1 b us x.3);
  }

-- the same with more open around it
levels_in : {A : Type 0} {f : ℕ → ℕ} {l : A → ℕ → ℕ} {m : Reader A} (g : ℕ → ℕ) → Levels f l m → Levels (λ d. f (g d)) (λ a d. l a (g d)) m
levels_in g h = record { goes = λ d. h.goes (g d) }

levels_give : {A : Type 0} {f : ℕ → ℕ} {l : A → ℕ → ℕ} (a : A) → ((d : ℕ) → f d ≡ l a d) → Levels f l (give a)
levels_give {A} {f} {l} a h = record {
  goes = λ d ts b us e. (
      let x = give_ok e in
      ap (λ (n : ℕ). shut n ts) (h d) ∙ ap (λ (c : A). shut (l c d) ts) x.0 ∙ ap (shut (l b d)) x.1);
}

module _ {A : Type 0} {f : ℕ → ℕ} {k : A → ℕ → ℕ} (c : Bool) (n p : ℕ) (g : Unit {0} → Reader A) where
  levels_if : (c ≡ false → Levels f k (g tt)) → Levels f k (refuse_if c n p >>= g)
  levels_if h = record {
    goes = λ d ts b us e. (
        let x = bind_ok (refuse_if c n p) g ts b us e in
        ap (shut (f d)) (if_ok c n p x.2) ∙ (h ((gives_if c n p).all ts x.0 x.1 x.2)).goes d x.1 b us x.3);
  }

levels_never : {A : Type 0} {f : ℕ → ℕ} {l : A → ℕ → ℕ} {n p : ℕ} → Levels f l (λ ts. refuse n p)
levels_never = record { goes = λ d ts a us e. (let z : ◌≡◌ {A = ℕ} 0 1 = cc in absurd (omega arith)) }

levels_still : {A : Type 0} {f : ℕ → ℕ} (m : Reader A) → ((ts : Toks) (a : A) (us : Toks) → m ts ≡ ok a us → ts ≡ us) → Levels f (λ a. f) m
levels_still {A} {f} m h = record { goes = λ d ts a us e. ap (shut (f d)) (h ts a us e) }

levels_known : {A : Type 0} {f : ℕ → ℕ} (o : Option A) (n p : ℕ) → Levels f (λ a. f) (known o n p)
unfolding known
levels_known none n p = levels_never
levels_known (some x) n p = levels_still _ λ ts a us e. (let q : ts ≡ us = cc in q)

levels_within : {f : ℕ → ℕ} (a b : ℕ) (o : Option ℕ) (p : ℕ) → Levels f (λ n. f) (within a b o p)
levels_within a b o p = levels_still _ λ ts n us e. (within_ok a b o p ts n us e).1

-- the same number, said otherwise
levels_from : {A : Type 0} {f g : ℕ → ℕ} {l : A → ℕ → ℕ} {m : Reader A} → ((d : ℕ) → f d ≡ g d) → Levels g l m → Levels f l m
levels_from h k = record { goes = λ d ts a us e. ap (λ (n : ℕ). shut n ts) (h d) ∙ k.goes d ts a us e }

-- ---- one token

module _ {A : Type 0} {k : A → ℕ → ℕ} {g : Tok → Reader A} where
  levels_any : ((t : Tok) → Levels (level_behind t.word) k (g t)) → Levels suc k (any >>= g)
  unfolding any ◌>>=◌ after shut
  levels_any h = record { goes = by }
    where
      by : (d : ℕ) (ts : Toks) (a : A) (us : Toks) → (any >>= g) ts ≡ ok a us → shut (suc d) ts ≡ shut (k a d) us
      by d (stop n p) a us e = let z : ◌≡◌ {A = ℕ} 0 1 = cc in absurd (omega arith)
      by d (tok t ts) a us e = (h t).goes d ts a us e

levels_due : (w : List ℕ) → Levels suc (λ p. level_behind w) (due_of w)
unfolding due_of
levels_due w = levels_any λ t. levels_if _ _ _ _ λ e. levels_give _ λ d. ap (λ (w : List ℕ). level_behind w d) (same_eq t.word w (not-false _ e))

-- a word is no brace
level_plain : (w : List ℕ) → same w (bytes "{") ≡ false → same w (bytes "}") ≡ false → (d : ℕ) → level_behind w d ≡ suc d
unfolding level_behind
level_plain w e f d = rw (e, f, level_behind)

level_word : (w : List ℕ) → is_word w ≡ true → (d : ℕ) → level_behind w d ≡ suc d
unfolding bytes is_word wordy letter digit between
level_word w e =
    level_plain w (other (bytes "{") (same w (bytes "{")) refl refl) (other (bytes "}") (same w (bytes "}")) refl refl)
  where
    other : (v : List ℕ) (c : Bool) → same w v ≡ c → is_word v ≡ false → c ≡ false
    other v false q h = refl
    other v true q h = sym e ∙ ap is_word (same_eq w v q) ∙ h

even_word : Even word
unfolding word
even_word = levels_any λ t. levels_if _ _ _ _ λ e. levels_give _ (level_word t.word (not-false _ e))

even_name : Even name
unfolding name
even_name = levels_bind even_word λ t. levels_if _ _ _ _ λ e. levels_give _ λ d. refl

even_old : {A : Type 0} (xs : List (Tok × A)) → Even (old_name xs)
unfolding old_name
even_old xs = levels_bind even_name λ t. levels_bind (levels_known _ _ _) λ a. levels_give _ λ d. refl

even_number : (a b : ℕ) → Even (number_in a b)
unfolding number_in
even_number a b = levels_bind even_word λ t. levels_within _ _ _ _

-- ---- choices and loops

abbrev EachLevels : {A : Type 0} → (A → ℕ → ℕ) → List (String × (ℕ → Reader A)) → Type 0
EachLevels l [] = Unit {0}
EachLevels l (x ∷ xs) = ((p : ℕ) → Levels (level_behind (bytes x.0)) l (x.1 p)) × EachLevels l xs

levels_one_of : {A : Type 0} {l : A → ℕ → ℕ} (xs : List (String × (ℕ → Reader A))) → EachLevels l xs → (t : Tok) → Levels (level_behind t.word) l (one_of xs t)
unfolding one_of
levels_one_of [] h t = levels_never
levels_one_of {A} {l} (x ∷ xs) h t = by (same t.word (bytes x.0)) refl (levels_one_of xs h.1 t)
  where
    by : (c : Bool) → same t.word (bytes x.0) ≡ c → Levels (level_behind t.word) l (one_of xs t)
        → Levels (level_behind t.word) l (λ ts. elim c [ true ↦ x.1 t.at ts | false ↦ one_of xs t ts ])
    by true e ih = subst (λ (w : List ℕ). Levels (level_behind w) l (x.1 t.at)) (sym (same_eq t.word (bytes x.0) e)) (h.0 t.at)
    by false e ih = ih

levels_choose : {A : Type 0} {l : A → ℕ → ℕ} (xs : List (String × (ℕ → Reader A))) → EachLevels l xs → Levels suc l (choose xs)
unfolding choose
levels_choose xs h = levels_any (levels_one_of xs h)

module _ {S : Type 0} (step : S → Reader S) (h : (s : S) → Even (step s)) where
  even_while_f : (test : Toks → Bool) (k : ℕ) (s : S) → Even (while_f test step k s)
  unfolding while_f give
  even_while_f test zero s = levels_give s λ d. refl
  even_while_f test (suc k) s = record { goes = λ d ts a us e. by d ts a us (test ts) e (even_while_f test k) }
    where
      by : (d : ℕ) (ts : Toks) (a : S) (us : Toks) (b : Bool) → ◌≡◌ {A = Res S} (elim b [ true ↦ (step s >>= λ x. while_f test step k x) ts | false ↦ ok s ts ]) (ok a us)
          → ((s : S) → Even (while_f test step k s)) → shut (suc d) ts ≡ shut (suc d) us
      by d ts a us true e ih = (levels_bind (h s) ih).goes d ts a us e
      by d ts a us false e ih = let q : ts ≡ us = cc in ap (shut (suc d)) q

  levels_closed : (w : String) (s : S) → Levels suc (λ x. level_behind (bytes w)) (closed w step s)
  unfolding closed while
  levels_closed w s =
      levels_bind {l = λ x d. suc d} (record { goes = λ d ts. (even_while_f _ (suc (left ts)) s).goes d ts }) λ x. levels_bind (levels_due _) λ p. levels_give _ λ d. refl

  levels_until : (w : String) (s : S) → Levels suc (λ x. level_behind (bytes w)) (until w step s)
  unfolding until
  levels_until w s = levels_bind (levels_closed w s) λ x. levels_give _ λ d. refl

-- ---- DATA, assignments, arguments

levels_chars : {f : ℕ → ℕ} (t : Tok) → Levels f (λ cs. f) (chars_of t)
unfolding chars_of
levels_chars t = levels_if _ _ _ _ λ e. levels_give _ λ d. refl

-- what a repeat begins with is no brace
level_repeat : (w s : List ℕ) → repeat_of w ≡ some s → (d : ℕ) → level_behind w d ≡ suc d
unfolding repeat_of bytes same
level_repeat [] s e = let z : ◌≡◌ {A = ℕ} 0 1 = cc in absurd (omega arith)
level_repeat (c ∷ w) s e = by (eqb c 114) refl e
  where
    by : (b : Bool) → eqb c 114 ≡ b → ◌≡◌ {A = Option (List ℕ)} (elim b [ true ↦ some w | false ↦ none ]) (some s) → (d : ℕ) → level_behind (c ∷ w) d ≡ suc d
    by false q e = let z : ◌≡◌ {A = ℕ} 0 1 = cc in absurd (omega arith)
    by true q e = subst (λ (x : ℕ). (d : ℕ) → level_behind (x ∷ w) d ≡ suc d) (sym (eqb-true c 114 q)) (level_plain (114 ∷ w) refl refl)

levels_times : (t : Tok) (w : List ℕ) → Levels (level_behind w) (λ n d. suc d) (times t (repeat_of w))
unfolding times
levels_times t w = by (repeat_of w) refl
  where
    by : (o : Option (List ℕ)) → repeat_of w ≡ o → Levels (level_behind w) (λ n d. suc d) (times t o)
    by none e = levels_never
    by (some s) e = record { goes = λ d ts n us q. ap (λ (k : ℕ). shut k ts) (level_repeat w s e d) ∙ ap (shut (suc d)) (within_ok _ _ _ _ ts n us q).1 }

even_repeated : Even repeated
unfolding repeated
even_repeated =
    levels_any λ t. levels_bind (levels_times t t.word) λ n. levels_bind even_word λ u. levels_bind (levels_chars u) λ cs. levels_give _ λ d. refl

levels_piece : (m : Bool) (t : Tok) → Levels (level_behind t.word) (λ cs d. suc d) (piece m t)
unfolding piece level_behind bytes same
levels_piece m t = by (is_word t.word) refl
  where
    other : Levels (level_behind t.word) (λ cs d. suc d) (one_of (("#", λ p. refuse_if (not m) bad_argument p >>= λ u. give (mark ∷ [])) ∷ ("\\", λ p. repeated) ∷ []) t)
    other = levels_one_of _ ((λ p. levels_if _ _ _ _ λ e. levels_give _ λ d. refl) also (λ p. even_repeated) also tt) t

    by : (c : Bool) → is_word t.word ≡ c
        → Levels {A = List ℕ} (level_behind t.word) (λ cs d. suc d) (λ ts. elim c [
          | true ↦ chars_of t ts
          | false ↦ one_of (("#", λ p. refuse_if (not m) bad_argument p >>= λ u. give (mark ∷ [])) ∷ ("\\", λ p. repeated) ∷ []) t ts
        ])
    by true e = levels_from (level_word t.word e) (levels_chars t)
    by false e = other

even_part : (m : Bool) (cs : List ℕ) → Even (part m cs)
unfolding part
even_part m cs = levels_any λ t. levels_bind (levels_piece m t) λ ds. levels_give _ λ d. refl

even_data : (m : Bool) → Even (data_read m)
unfolding data_read level_behind bytes same
even_data m = levels_closed (part m) (even_part m) ";" []

even_assign : (ns : Names) (m : Bool) (xs : Assigns) → Even (assign ns m xs)
unfolding assign level_behind bytes same
even_assign ns m xs =
    levels_bind (even_old ns) λ x. levels_if _ _ _ _ λ e. levels_bind (levels_due _) λ p. levels_bind (even_data m) λ d. levels_if _ _ _ _ λ f. levels_give _ λ d. refl

even_assigns : (ns : Names) (m : Bool) → Even (assigns ns m)
unfolding assigns level_behind bytes same
even_assigns ns m = levels_bind (levels_due _) λ p. levels_in suc (levels_until (assign ns m) (even_assign ns m) "}" [])

even_argument : (ns : Names) (b : Body) (xs : Args) → Even (argument ns b xs)
unfolding argument level_behind bytes same
even_argument ns b xs =
    levels_bind (even_old ns) λ x. levels_if _ _ _ _ λ e. levels_if _ _ _ _ λ e. levels_bind (levels_due _) λ p. levels_bind (even_data false) λ d.
    levels_if _ _ _ _ λ f. levels_give _ λ d. refl

even_arguments : (ns : Names) (b : Body) → Even (arguments ns b)
unfolding arguments level_behind bytes same
even_arguments ns b =
    levels_choose _ ((λ p. levels_give _ λ d. refl) also (λ p. levels_in suc (levels_closed (argument ns b) (even_argument ns b) "}" [])) also tt)

-- ---- statements

-- how many are open behind a head, where d and one more were
abbrev level_of : Head → ℕ → ℕ
level_of ends d = d
level_of (vecs p a) d = suc d
level_of (sets x) d = suc d
level_of (loops n) d = suc (suc d)
level_of shifts d = suc (suc d)
level_of (uses k x t a) d = suc d

levels_used : (k : Kind) (d : ℕ) (ns : Names) (xs : Decls) → Levels suc level_of (used k d ns xs)
unfolding used
levels_used k d ns xs =
    levels_bind (even_old xs) λ x. levels_if _ _ _ _ λ e. levels_bind (even_arguments ns _) λ a. levels_if _ _ _ _ λ e. levels_give _ λ d. refl

levels_head : (e : Env) (own : Bool) (d : ℕ) (seen : Bool) → Levels suc level_of (head e own d seen)
unfolding head chosen looping shift_head label_head level_behind bytes same
levels_head e own d seen = levels_choose _ (
    (λ p. levels_bind (even_assigns _ _) λ a. levels_give _ λ d. refl)
    also (λ p. levels_bind (even_assigns _ _) λ a. levels_give _ λ d. refl)
    also (λ p. levels_bind (even_old _) λ x. levels_bind (levels_due _) λ q. levels_give _ λ d. refl)
    also (λ p. levels_if _ _ _ _ λ f. levels_bind (even_number _ _) λ n. levels_bind (levels_due _) λ q. levels_give _ λ d. refl)
    also (λ p. levels_used _ d _ _)
    also (λ p. levels_used _ d _ _)
    also (λ p. levels_if _ _ _ _ λ f. levels_bind even_name λ t. levels_bind (levels_due _) λ q. levels_give _ λ d. refl)
    also (λ p. levels_if _ _ _ _ λ f. levels_if _ _ _ _ λ f. levels_bind (levels_due _) λ q. levels_give _ λ d. refl)
    also (λ p. levels_give _ λ d. refl)
    also tt)

closes_shift : (ns : Names) → Closes (in_shift ns)
unfolding in_shift level_behind bytes same
closes_shift ns = levels_bind (levels_due _) λ p. levels_bind (even_assigns ns true) λ a. levels_bind (levels_due _) λ q. levels_if _ _ _ _ λ e. levels_give _ λ d. refl

module _ (ns : Names) (inside : Reader Body) (h : Closes inside) (on : Bool → Reader Body) (k : (seen : Bool) → Closes (on seen)) where
  levels_behind : (seen : Bool) (x : Head) → Levels (level_of x) (λ b d. d) (behind ns inside on seen x)
  unfolding behind
  levels_behind seen ends = levels_give _ λ d. refl
  levels_behind seen (vecs p a) = levels_bind (k seen) λ r. levels_give _ λ d. refl
  levels_behind seen (sets x) = levels_bind (k seen) λ r. levels_give _ λ d. refl
  levels_behind seen (loops n) = levels_bind (levels_in suc h) λ b. levels_bind (k seen) λ r. levels_give _ λ d. refl
  levels_behind seen shifts = levels_bind (levels_in suc (closes_shift ns)) λ b. levels_bind (k true) λ r. levels_give _ λ d. refl
  levels_behind seen (uses j x t a) = levels_bind (k seen) λ r. levels_give _ λ d. refl

closes_statements_f : (e : Env) (own : Bool) (d : ℕ) (inside : Reader Body) → Closes inside → (k : ℕ) (seen : Bool) → Closes (statements_f e own d inside k seen)
unfolding statements_f
closes_statements_f e own d inside h zero seen = levels_never
closes_statements_f e own d inside h (suc k) seen =
    levels_bind (levels_head e own d seen) (levels_behind e.names inside h (statements_f e own d inside k) (closes_statements_f e own d inside h k) seen)

closes_statements : (e : Env) (d : ℕ) (own : Bool) → Closes (statements e d own)
unfolding statements
closes_statements e zero own = record { goes = λ d ts. (closes_statements_f e own zero _ levels_never (suc (left ts)) false).goes d ts }
closes_statements e (suc d) own = record { goes = λ n ts. (closes_statements_f e own (suc d) _ (closes_statements e d false) (suc (left ts)) false).goes n ts }

-- THE LAW: behind a declared body stand the tokens behind its matching brace
pub declared_shut : (e : Env) (own : Bool) (ts : Toks) (d : Decl) (us : Toks) → declared e own ts ≡ ok d us → shut 1 ts ≡ us
unfolding declared
declared_shut e own ts d us q =
    let x = bind_ok _ _ ts d us q in
    (closes_statements e _ own).goes 0 ts x.0 x.1 x.2 ∙ shut_zero x.1 ∙ (give_ok x.3).1
