-- DATA and statements on two streams with the same words up to a border. DATA alone may take the border's first word, and then never ends.
use mathlib.Core.Path.{◌≡◌, refl, sym, ap, ap₂, ◌∙◌, subst}
use Prim.Native.Nat.{ℕ, zero, suc, ◌-◌, ◌≤◌}
use native.Mathlib.Omega.{arith}
use mathlib.Core.Bool.{Bool, true, false, not}
use mathlib.Core.Option.{Option, none, some}
use mathlib.Core.Logic.{◌⊎◌, inl, inr}
use mathlib.Core.List.{List, [], ◌∷◌, ◌++◌}
use lib.ListN.{length}
use Rattle.tokens.specs.Written.{bytes, same}
use Rattle.tokens.specs.Bytes.{between, digit, letter, wordy}
use Rattle.tokens.specs.Tokens.{Tok, Toks, stop, tok, left}
use Rattle.meaning.specs.Lists.{count}
use Rattle.meaning.specs.Reader.{Reader, ok, after, ◌>>=◌, give, refuse_if, any, ahead_of, one_of, is_word, word, while_f}
use Rattle.meaning.specs.Names.{number}
use Rattle.meaning.specs.Signals.{Names}
use Rattle.meaning.specs.Timing.{Tables}
use Rattle.meaning.specs.Body.{Assigns, Args, Setting, choosing, Kind, macro, procedure, looped, shifted, entered, Body, vec, set', inner, outside, shifting, arg_of, turns}
use Rattle.meaning.specs.Data.{chars_of, stretched, repeat_of, times, repeated, piece, part, data_read, paired, assign, assigns, arg_for, argument, arguments}
use Rattle.meaning.specs.Statements.{Decl, Decls, Env, numbered, Head, ends, vecs, sets, loops, shifts, uses, used, chosen, looping, shift_head, label_head, head, in_shift, behind, statements_f, statements, declared}
use Rattle.meaning.proofs.Gives.{bind_ok, give_ok, if_ok}
use Rattle.meaning.proofs.Choices.{◌also◌}
use Rattle.meaning.proofs.Unplaced.{unplaced, Twins, outside_unplaced, shifting_unplaced}
use Rattle.meaning.proofs.Alike.{Braced, Named, AtBlock, Border, Like, Leaves, Alike, Near, Equal, SameWord, Never, alike_bind, alike_equal, alike_at, alike_give, alike_if, alike_within, never_bind, never_refuse, alike_never, never_either, alike_choose, word_any, alike_due, goes_on, open', Lost, near_closed, alike_closed, alike_until}
use Rattle.meaning.proofs.AlikeBlocks.{Paired, alike_name, alike_old, alike_number}
use Rattle.meaning.proofs.Others.{same_eq}

-- ---- what two bodies that differ in places alone have in common where they are used

-- the bodies of two declarations
abbrev pub TwinDecls : Decl → Decl → Type 0
TwinDecls d c = Twins d.body c.body

twins_outside : (b c : Body) → Twins b c → outside b ≡ outside c
twins_outside b c h = sym (outside_unplaced b) ∙ ap outside h ∙ outside_unplaced c

twins_shifting : (b c : Body) → Twins b c → shifting b ≡ shifting c
twins_shifting b c h = sym (shifting_unplaced b) ∙ ap shifting h ∙ shifting_unplaced c

twins_turns : (b c : Body) → Twins b c → (xs : Args) → turns b xs ≡ turns c xs
unfolding turns
twins_turns b c h xs =
    ap₂ (λ (o s : List ℕ). elim s as (λ l. ℕ) [ [] ↦ 0 | x ∷ l ↦ length (arg_of x xs) - count x o ]) (twins_outside b c h) (twins_shifting b c h)

-- two environments: the same names and tables, and bodies that differ in places alone
pub record TwinEnvs (e f : Env) : Type 0 where
  pub names : Paired Equal e.names f.names
  pub tables : Paired Equal e.tables f.tables
  pub macros : Paired TwinDecls e.macros f.macros
  pub procs : Paired TwinDecls e.procs f.procs

paired_numbered : (n : ℕ) (xs ys : Tables) → Paired Equal xs ys → Paired Equal (numbered n xs) (numbered n ys)
unfolding numbered
paired_numbered n [] [] h = tt
paired_numbered n [] (y ∷ ys) h = absurd h
paired_numbered n (x ∷ xs) [] h = absurd h
paired_numbered n (x ∷ xs) (y ∷ ys) h = ((h.0.0, refl), paired_numbered (suc n) xs ys h.1)

-- two heads of statements
data TwinHeads : Head → Head → Type 0 where
  both_end : TwinHeads ends ends
  both_vecs : {p q : ℕ} {a : Assigns} → TwinHeads (vecs p a) (vecs q a)
  both_sets : {x : Setting} → TwinHeads (sets x) (sets x)
  both_loops : {n : ℕ} → TwinHeads (loops n) (loops n)
  both_shifts : TwinHeads shifts shifts
  both_uses : {k : Kind} {x y : Decl} {t : ℕ} {a : Args} → TwinDecls x y → TwinHeads (uses k x t a) (uses k y t a)

used_twins : (k : Kind) (x y : Decl) → TwinDecls x y → (a b : Args) → a ≡ b → TwinHeads (uses k x (turns x.body a) a) (uses k y (turns y.body b) b)
used_twins k x y h a b e =
    subst (λ (b : Args). TwinHeads (uses k x (turns x.body a) a) (uses k y (turns y.body b) b)) e
    (subst (λ (t : ℕ). TwinHeads (uses k x (turns x.body a) a) (uses k y t a)) (twins_turns x.body y.body h a) (both_uses h))

-- ---- readers that take no token

record Still {A : Type 0} (m : Reader A) : Type 0 where
  pub stays : (ts : Toks) (a : A) (us : Toks) → m ts ≡ ok a us → ts ≡ us

still_bind : {A D : Type 0} {m : Reader A} {f : A → Reader D} → Still m → ((a : A) → Still (f a)) → Still (m >>= f)
still_bind {A} {D} {m} {f} h k = record {
  stays = λ ts a us e. (let x = bind_ok m f ts a us e in h.stays ts x.0 x.1 x.2 ∙ (k x.0).stays x.1 a us x.3);
}

still_give : {A : Type 0} (a : A) → Still (give a)
still_give a = record { stays = λ ts b us e. (give_ok e).1 }

still_if : (c : Bool) (n p : ℕ) → Still (refuse_if c n p)
still_if c n p = record { stays = λ ts a us e. if_ok c n p e }

still_never : {A : Type 0} {m : Reader A} → Never m → Still m
still_never h = record { stays = λ ts a us e. absurd (h.none ts a us e) }

still_either : {A : Type 0} (c : Bool) → c ≡ true → {m : Reader A} (k : Reader A) → Still m → Still {A = A} (λ ts. elim c [ true ↦ m ts | false ↦ k ts ])
still_either true e k h = h
still_either false e k h = let z : ◌≡◌ {A = ℕ} 0 1 = cc in absurd (omega arith)

still_chars : (t : Tok) → Still (chars_of t)
unfolding chars_of
still_chars t = still_bind (still_if _ _ _) λ u. still_give _

still_piece : (m : Bool) (t : Tok) → is_word t.word ≡ true → Still (piece m t)
unfolding piece
still_piece m t e = still_either (is_word t.word) e _ (still_chars t)

never_times : (t : Tok) (o : Option (List ℕ)) → o ≡ none → Never (times t o)
unfolding times
never_times t none e = never_refuse
never_times t (some s) e = let z : ◌≡◌ {A = ℕ} 0 1 = cc in absurd (omega arith)

never_piece : (m : Bool) (t : Tok) → t.word ≡ bytes "{" → Never (piece m t)
unfolding piece one_of bytes same is_word wordy letter digit between
never_piece m t e =
    never_either _ (ap is_word e) _
    (never_either _ (ap (λ (w : List ℕ). same w (bytes "#")) e) _ (never_either _ (ap (λ (w : List ℕ). same w (bytes "\\")) e) _ never_refuse))

pub word_pattern : (t : Tok) → t.word ≡ bytes "Pattern" → is_word t.word ≡ true
unfolding bytes is_word wordy letter digit between
word_pattern t e = ap is_word e

-- ---- behind the border's first word DATA does not end: a name stands there, and then `{`

name_open : (ts : Toks) → Named ts → ahead_of (bytes ";") ts ≡ false
unfolding ahead_of bytes is_word wordy letter digit between
name_open (stop n p) h = absurd h
name_open (tok t ts) h = by (same t.word (bytes ";")) refl
  where
    by : (c : Bool) → same t.word (bytes ";") ≡ c → c ≡ false
    by false e = refl
    by true e = let z : true ≡ false = sym h.0 ∙ ap is_word (same_eq t.word (bytes ";") e) in z

brace_open : (ts : Toks) → Braced ts → ahead_of (bytes ";") ts ≡ false
unfolding ahead_of bytes same
brace_open (stop n p) h = absurd h
brace_open (tok t ts) h = ap (λ (w : List ℕ). same w (bytes ";")) h

-- a part takes the name
part_named : (m : Bool) (cs : List ℕ) (ts : Toks) → Named ts → (a : List ℕ) (us : Toks) → part m cs ts ≡ ok a us → Braced us
unfolding part any ◌>>=◌ after
part_named m cs (stop n p) h a us e = absurd h
part_named m cs (tok t ts) h a us e = subst Braced ((still_bind (still_piece m t h.0) (λ ds. still_give (cs ++ ds))).stays ts a us e) h.1

-- and none takes the `{`
part_braced : (m : Bool) (cs : List ℕ) (ts : Toks) → Braced ts → (a : List ℕ) (us : Toks) → part m cs ts ≡ ok a us → ⊥
unfolding part any ◌>>=◌ after
part_braced m cs (stop n p) h a us e = h
part_braced m cs (tok t ts) h a us e = (never_bind _ (λ ds. give (cs ++ ds)) (never_piece m t h)).none ts a us e

no_end : {c : Bool} → c ≡ false → c ≡ true → ⊥
no_end e f = let z : ◌≡◌ {A = ℕ} 0 1 = cc in omega arith

lost_data : (m : Bool) → Lost Named (bytes ";") (part m)
unfolding while_f
lost_data m = record { none = by }
  where
    braced : (k : ℕ) (x : List ℕ) (ts : Toks) → Braced ts → (a : List ℕ) (us : Toks) → while_f (open' (bytes ";")) (part m) k x ts ≡ ok a us → ahead_of (bytes ";") us ≡ true → ⊥
    braced zero x ts h a us e f = let q : ts ≡ us = cc in no_end (brace_open ts h) (ap (ahead_of (bytes ";")) q ∙ f)
    braced (suc k) x ts h a us e f =
        let y = bind_ok (part m x) _ ts a us (sym (goes_on (open' (bytes ";")) (part m) k x ts (ap not (brace_open ts h))) ∙ e) in
        part_braced m x ts h y.0 y.1 y.2

    by : (k : ℕ) (x : List ℕ) (ts : Toks) → Named ts → (a : List ℕ) (us : Toks) → while_f (open' (bytes ";")) (part m) k x ts ≡ ok a us → ahead_of (bytes ";") us ≡ true → ⊥
    by zero x ts h a us e f = let q : ts ≡ us = cc in no_end (name_open ts h) (ap (ahead_of (bytes ";")) q ∙ f)
    by (suc k) x ts h a us e f =
        let y = bind_ok (part m x) _ ts a us (sym (goes_on (open' (bytes ";")) (part m) k x ts (ap not (name_open ts h))) ∙ e) in
        braced k y.0 y.1 (part_named m x ts h y.0 y.1 y.2) a us y.3 f

-- ---- readers that may take the border's first word, and stop behind it

module _ {B : Border} where
  near_alike : {A : Type 0} {R : A → A → Type 0} {m k : Reader A} → Alike B false R m k → Near B Named R m k
  near_alike h = record { both = λ n ts us l a vs e b ws d. inl (h.both n ts us l a vs e b ws d) }

  further : {n : ℕ} {vs ws : Toks} {T P : Type 0} (m : ℕ) → m ≤ n → (T × Leaves B false m vs ws) ⊎ P → (T × Leaves B false n vs ws) ⊎ P
  further m h (inl x) = inl (x.0, record { left = x.1.left; fewer = omega (arith, x.1.fewer, h); like = x.1.like })
  further m h (inr x) = inr x

  near_bind : {A D : Type 0} {Q : A → A → Type 0} {R : D → D → Type 0} {m k : Reader A} {f g : A → Reader D} → Alike B false Q m k
      → ((a b : A) → Q a b → Near B Named R (f a) (g b)) → Near B Named R (m >>= f) (k >>= g)
  near_bind {A} {D} {Q} {R} {m} {k} {f} {g} h j = record {
    both = λ n ts us l a vs e b ws d. (
        let x = bind_ok m f ts a vs e in
        let y = bind_ok k g us b ws d in
        let u = h.both n ts us l x.0 x.1 x.2 y.0 y.1 y.2 in
        further u.1.left u.1.fewer ((j x.0 y.0 u.0).both u.1.left x.1 y.1 u.1.like a vs x.3 b ws y.3));
  }

  near_map : {A D : Type 0} {Q : A → A → Type 0} {R : D → D → Type 0} {m k : Reader A} → Near B Named Q m k → (f g : A → D) → ((a b : A) → Q a b → R (f a) (g b))
      → Near B Named R (m >>= λ a. give (f a)) (k >>= λ a. give (g a))
  near_map {A} {D} {Q} {R} {m} {k} h f g r = record {
    both = λ n ts us l a vs e b ws d. (
        let x = bind_ok m _ ts a vs e in
        let y = bind_ok k _ us b ws d in
        by n x.0 y.0 x.1 y.1 a b vs ws (give_ok x.3) (give_ok y.3) (h.both n ts us l x.0 x.1 x.2 y.0 y.1 y.2));
  }
    where
      by : (n : ℕ) (x y : A) (ts us : Toks) (a b : D) (vs ws : Toks) → (f x ≡ a) × (ts ≡ vs) → (g y ≡ b) × (us ≡ ws) → (Q x y × Leaves B false n ts us) ⊎ Named ts
          → (R a b × Leaves B false n vs ws) ⊎ Named vs
      by n x y ts us a b vs ws p q (inr z) = inr (subst Named p.1 z)
      by n x y ts us a b vs ws p q (inl z) = inl (rw (← p.0, ← q.0) (r x y z.0), rw (← p.1, ← q.1) z.1)

  module _ {A : Type 0} {R : A → A → Type 0} {f g : Tok → Reader A}
      (h : (t : Tok) → t.word ≡ bytes "Pattern" → Still (f t)) (j : (t u : Tok) → SameWord t u → Near B Named R (f t) (g u)) where
    any_through : (ts : Toks) → AtBlock ts → (a : A) (us : Toks) → (any >>= f) ts ≡ ok a us → Named us
    unfolding any ◌>>=◌ after
    any_through (stop n p) x a us e = let z : ◌≡◌ {A = ℕ} 0 1 = cc in absurd (omega arith)
    any_through (tok t ts) x a us e = subst Named ((h t x.0).stays ts a us e) x.1

    near_any : Near B Named R (any >>= f) (any >>= g)
    unfolding any ◌>>=◌ after
    near_any = record { both = by }
      where
        by : (n : ℕ) (ts us : Toks) → Like B n ts us → (a : A) (vs : Toks) → (any >>= f) ts ≡ ok a vs → (b : A) (ws : Toks) → (any >>= g) us ≡ ok b ws
            → (R a b × Leaves B false n vs ws) ⊎ Named vs
        by zero ts us l a vs e b ws d = inr (any_through B.first B.at_first a vs (subst (λ (x : Toks). (any >>= f) x ≡ ok a vs) l.0 e))
        by (suc n) (stop m p) us l a vs e b ws d = absurd l
        by (suc n) (tok t ts) (stop m p) l a vs e b ws d = absurd l
        by (suc n) (tok t ts) (tok u us) l a vs e b ws d = further n (omega arith) ((j t u l.0).both n ts us l.1 a vs e b ws d)

    near_word : Near B Named R (word >>= f) (word >>= g)
    near_word = record { both = λ n ts us l a vs e b ws d. near_any.both n ts us l a vs (word_any f ts a vs e) b ws (word_any g us b ws d) }

  near_either : {A : Type 0} {R : A → A → Type 0} (s t : Bool) → s ≡ t → {m k n l : Reader A} → Near B Named R m n → Near B Named R k l
      → Near B Named R (λ ts. elim s [ true ↦ m ts | false ↦ k ts ]) (λ ts. elim t [ true ↦ n ts | false ↦ l ts ])
  near_either true true e f g = f
  near_either false false e f g = g
  near_either true false e f g = let z : ◌≡◌ {A = ℕ} 0 1 = cc in absurd (omega arith)
  near_either false true e f g = let z : ◌≡◌ {A = ℕ} 0 1 = cc in absurd (omega arith)

  -- ---- DATA

  alike_chars : (t u : Tok) → SameWord t u → Alike B false Equal (chars_of t) (chars_of u)
  unfolding chars_of
  alike_chars t u e = alike_bind (alike_if _ _ _ _ _ _) λ x y q. alike_give _ _ e

  alike_times : (t u : Tok) (o q : Option (List ℕ)) → o ≡ q → Alike B false Equal (times t o) (times u q)
  unfolding times
  alike_times t u none none e = alike_never never_refuse
  alike_times t u none (some y) e = alike_never never_refuse
  alike_times t u (some x) none e = let z : ◌≡◌ {A = ℕ} 0 1 = cc in absurd (omega arith)
  alike_times t u (some x) (some y) e = let q : x ≡ y = cc in alike_within _ _ _ _ _ _ (ap number q)

  near_repeated : Near B Named Equal repeated repeated
  unfolding repeated bytes repeat_of
  near_repeated =
      near_any (λ t e. still_never (never_bind _ _ (never_times t _ (ap repeat_of e)))) λ t u e.
      near_bind (alike_times t u _ _ (ap repeat_of e)) λ n m q. near_word (λ v f. still_bind (still_chars v) λ cs. still_give _) λ v w f.
      near_alike (alike_bind (alike_chars v w f) λ cs ds r. alike_give _ _ (ap₂ stretched q r))

  near_piece : (m : Bool) (t u : Tok) → SameWord t u → Near B Named Equal (piece m t) (piece m u)
  unfolding piece one_of
  near_piece m t u e =
      near_either _ _ (ap is_word e) (near_alike (alike_chars t u e))
      (near_either _ _ (ap (λ (w : List ℕ). same w (bytes "#")) e) (near_alike (alike_bind (alike_if _ _ _ _ _ _) λ x y q. alike_give _ _ refl))
      (near_either _ _ (ap (λ (w : List ℕ). same w (bytes "\\")) e) near_repeated (near_alike (alike_never never_refuse))))

  near_part : (m : Bool) (cs ds : List ℕ) → cs ≡ ds → Near B Named Equal (part m cs) (part m ds)
  unfolding part
  near_part m cs ds e =
      near_any (λ t f. still_bind (still_piece m t (word_pattern t f)) λ xs. still_give _) λ t u f.
      near_map (near_piece m t u f) (λ x. cs ++ x) (λ x. ds ++ x) λ a b q. ap₂ (λ (x y : List ℕ). x ++ y) e q

  alike_data : (m : Bool) → Alike B false (λ (x y : List ℕ × ℕ). x.0 ≡ y.0) (data_read m) (data_read m)
  unfolding data_read bytes same
  alike_data m = near_closed ";" refl (lost_data m) (near_part m) [] [] refl

  -- ---- assignments and arguments

  alike_assign : (ns ms : Names) → Paired Equal ns ms → (m : Bool) (xs : Assigns) → Alike B false Equal (assign ns m xs) (assign ms m xs)
  unfolding assign bytes same
  alike_assign ns ms h m xs =
      alike_bind (alike_old Equal ns ms h) λ x y e. alike_bind (alike_if _ _ _ _ _ _) λ p q r. alike_bind (alike_due _ refl) λ p q r.
      alike_bind (alike_data m) λ c d f. alike_bind (alike_if _ _ _ _ _ _) λ p q r. alike_give _ _ (ap₂ (λ (u v : List ℕ). xs ++ paired u v) e.1 f)

  pub alike_assigns : (ns ms : Names) → Paired Equal ns ms → (m : Bool) → Alike B false Equal (assigns ns m) (assigns ms m)
  unfolding assigns bytes same
  alike_assigns ns ms h m = alike_bind (alike_due _ refl) λ p q r. alike_until "}" refl (alike_at (alike_assign ns ms h m)) [] [] refl

  alike_argument : (ns ms : Names) → Paired Equal ns ms → (b c : Body) (xs : Args) → Alike B false Equal (argument ns b xs) (argument ms c xs)
  unfolding argument bytes same
  alike_argument ns ms h b c xs =
      alike_bind (alike_old Equal ns ms h) λ x y e. alike_bind (alike_if _ _ _ _ _ _) λ p q r. alike_bind (alike_if _ _ _ _ _ _) λ p q r.
      alike_bind (alike_due _ refl) λ p q r. alike_bind (alike_data false) λ c d f. alike_bind (alike_if _ _ _ _ _ _) λ p q r.
      alike_give _ _ (ap₂ (λ (u v : List ℕ). xs ++ arg_for u v) e.1 f)

  alike_arguments : (ns ms : Names) → Paired Equal ns ms → (b c : Body) → Alike B false (λ (x y : Args × ℕ). x.0 ≡ y.0) (arguments ns b) (arguments ms c)
  unfolding arguments bytes same
  alike_arguments ns ms h b c =
      alike_choose _ _ ((refl, refl, λ p q. alike_give _ _ refl) also (refl, refl, λ p q. alike_closed "}" refl (alike_at (alike_argument ns ms h b c)) [] [] refl) also tt)

  -- ---- statements

  alike_used : (k : Kind) (d : ℕ) (ns ms : Names) → Paired Equal ns ms → (xs ys : Decls) → Paired TwinDecls xs ys → Alike B false TwinHeads (used k d ns xs) (used k d ms ys)
  unfolding used
  alike_used k d ns ms h xs ys j =
      alike_bind (alike_old TwinDecls xs ys j) λ x y e. alike_bind (alike_if _ _ _ _ _ _) λ p q r. alike_bind (alike_arguments ns ms h _ _) λ a b f.
      alike_bind (alike_if _ _ _ _ _ _) λ p q r. alike_give _ _ (used_twins k x.1 y.1 e.1 a.0 b.0 f)

  alike_head : (e f : Env) → TwinEnvs e f → (own : Bool) (d : ℕ) (seen : Bool) → Alike B false TwinHeads (head e own d seen) (head f own d seen)
  unfolding head chosen looping shift_head label_head bytes same
  alike_head e f h own d seen = alike_choose _ _ (
      (refl, refl, λ p q. alike_equal (alike_assigns _ _ h.names own) λ a. alike_give _ _ both_vecs)
      also (refl, refl, λ p q. alike_equal (alike_assigns _ _ h.names false) λ a. alike_give _ _ both_sets)
      also (
        refl,
        refl,
        λ p q. alike_bind (alike_old Equal _ _ (paired_numbered 0 e.tables f.tables h.tables)) λ x y r. alike_bind (alike_due _ refl) λ i j k.
            alike_give _ _ (subst (λ (n : ℕ). TwinHeads (sets (choosing x.1)) (sets (choosing n))) r.1 both_sets),
      )
      also (refl, refl, λ p q. alike_bind (alike_if _ _ _ _ _ _) λ i j k. alike_equal (alike_number _ _) λ n. alike_bind (alike_due _ refl) λ i j k. alike_give _ _ both_loops)
      also (refl, refl, λ p q. alike_used macro d _ _ h.names _ _ h.macros)
      also (refl, refl, λ p q. alike_used procedure d _ _ h.names _ _ h.procs)
      also (refl, refl, λ p q. alike_bind (alike_if _ _ _ _ _ _) λ i j k. alike_bind alike_name λ t u w. alike_bind (alike_due _ refl) λ i j k. alike_give _ _ both_sets)
      also (refl, refl, λ p q. alike_bind (alike_if _ _ _ _ _ _) λ i j k. alike_bind (alike_if _ _ _ _ _ _) λ i j k. alike_bind (alike_due _ refl) λ i j k. alike_give _ _ both_shifts)
      also (refl, refl, λ p q. alike_give _ _ both_end)
      also tt)

  alike_shift : (ns ms : Names) → Paired Equal ns ms → Alike B false Twins (in_shift ns) (in_shift ms)
  unfolding in_shift bytes same unplaced
  alike_shift ns ms h =
      alike_bind (alike_due _ refl) λ p q r. alike_equal (alike_assigns ns ms h true) λ a. alike_bind (alike_due _ refl) λ i j k. alike_bind (alike_if _ _ _ _ _ _) λ i j k.
      alike_give _ _ refl

  module _ (ns ms : Names) (h : Paired Equal ns ms) (inside within : Reader Body) (i : Alike B false Twins inside within)
      (on off : Bool → Reader Body) (o : (seen : Bool) → Alike B false Twins (on seen) (off seen)) where
    alike_behind : (seen : Bool) (x y : Head) → TwinHeads x y → Alike B false Twins (behind ns inside on seen x) (behind ms within off seen y)
    unfolding behind unplaced
    alike_behind seen x y both_end = alike_give _ _ refl
    alike_behind seen x y (both_vecs {a = a}) = alike_bind (o seen) λ r s q. alike_give _ _ (ap (vec 0 a) q)
    alike_behind seen x y (both_sets {x = z}) = alike_bind (o seen) λ r s q. alike_give _ _ (ap (set' z) q)
    alike_behind seen x y (both_loops {n = n}) = alike_bind i λ b c p. alike_bind (o seen) λ r s q. alike_give _ _ (ap₂ (inner (looped n)) p q)
    alike_behind seen x y both_shifts = alike_bind (alike_shift ns ms h) λ b c p. alike_bind (o true) λ r s q. alike_give _ _ (ap₂ (inner shifted) p q)
    alike_behind seen x y (both_uses {k = k} {t = t} {a = a} p) = alike_bind (o seen) λ r s q. alike_give _ _ (ap₂ (inner (entered k t a)) p q)

  alike_statements_f : (e f : Env) → TwinEnvs e f → (own : Bool) (d : ℕ) (inside within : Reader Body) → Alike B false Twins inside within
      → (j k : ℕ) (seen : Bool) → Alike B false Twins (statements_f e own d inside j seen) (statements_f f own d within k seen)
  unfolding statements_f
  alike_statements_f e f h own d inside within i zero k seen = alike_never never_refuse
  alike_statements_f e f h own d inside within i (suc j) zero seen = record { both = λ n ts us l a vs p b ws q. (let z : ◌≡◌ {A = ℕ} 0 1 = cc in absurd (omega arith)) }
  alike_statements_f e f h own d inside within i (suc j) (suc k) seen =
      alike_bind (alike_head e f h own d seen) (alike_behind e.names f.names h.names inside within i _ _ (alike_statements_f e f h own d inside within i j k) seen)

  pub alike_statements : (e f : Env) → TwinEnvs e f → (d : ℕ) (own : Bool) → Alike B false Twins (statements e d own) (statements f d own)
  unfolding statements
  alike_statements e f h zero own =
      record { both = λ n ts us. (alike_statements_f e f h own zero _ _ (alike_never never_refuse) (suc (left ts)) (suc (left us)) false).both n ts us }
  alike_statements e f h (suc d) own =
      record { both = λ n ts us. (alike_statements_f e f h own (suc d) _ _ (alike_statements e f h d false) (suc (left ts)) (suc (left us)) false).both n ts us }

  -- THE LAW: the bodies that are declared differ in places alone
  pub alike_declared : (e f : Env) → TwinEnvs e f → (own : Bool) → Alike B false TwinDecls (declared e own) (declared f own)
  unfolding declared
  alike_declared e f h own = record {
    both = λ n ts us. (alike_bind {R = TwinDecls} {f = λ b. give (record { body = b; from = ts })} {g = λ b. give (record { body = b; from = us })}
        (alike_statements e f h _ own) (λ b c p. alike_give _ _ p)).both n ts us;
  }
