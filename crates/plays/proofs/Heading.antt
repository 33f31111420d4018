-- What a statement's head tells that was read where a body is held.
use Prim.Native.Nat.{ℕ, ◌<◌, ◌≤◌}
use Prim.Native.String.{String}
use native.Mathlib.Omega.{arith}
use mathlib.Core.Path.{◌≡◌, refl, sym, subst}
use mathlib.Core.Bool.{Bool, true, false, not, ◌||◌}
use mathlib.Core.List.{List, [], ◌∷◌}
use lib.Dec.{eqb}
use lib.ListN.{length}
use borrow.Author.Tests.{not-false}
use Rattle.tokens.specs.Written.{bytes, same}
use Rattle.tokens.specs.Tokens.{Tok, Toks, stop, tok, toks, left}
use Rattle.tokens.proofs.Laws.{left_most}
use Rattle.meaning.specs.Reader.{Reader, ok, after, ◌>>=◌, give, refuse_if, any, due, due_of, one_of, choose}
use Rattle.meaning.specs.Lists.{has, count}
use Rattle.meaning.specs.Signals.{Names}
use Rattle.meaning.specs.Body.{Assigns, Args, mark, assigning, choosing, Kind, macro, procedure, looped, shifted, entered, Body, done, vec, set', inner, marked, shifting, turns, fits}
use Rattle.meaning.specs.Data.{assigned, assigns}
use Rattle.meaning.specs.Statements.{Decl, Decls, Env, Head, ends, vecs, sets, loops, shifts, uses, used, chosen, looping, shift_head, label_head, head}
use Rattle.meaning.proofs.Gives.{Gives, gives_bind, gives_after, gives_give, gives_if, gives_choose}
use Rattle.meaning.proofs.Choices.{◌also◌}
use Rattle.held.specs.Held.{free_head, HeadAt, Holds}
use Rattle.held.proofs.Leads.{Leads, leads_bind, leads_give, leads_if, leads_refuse}
use Rattle.held.proofs.Turn.{takes_head}
use Rattle.held.proofs.Only.{Split, head_held}
use Rattle.words.specs.Cursor.{alive, stream}
use Rattle.words.specs.declared.Cursor.{Cursor}
use Rattle.words.proofs.Flow.{went}
use Rattle.sets.proofs.Tidy.{TidyBelow, bare}
use Rattle.signals.specs.Names.{AllTidy}
use Rattle.timing.specs.Makes.{Makes}
use Rattle.assigns.specs.Given.{chars}
use Rattle.assigns.proofs.Read.{differ_assigns, no_mark_assigned}
use Rattle.sums.specs.Parts.{Exact}
use Rattle.sums.proofs.Exact.{fits_exact}

-- ---- where it begins

module _ {A : Type 0} (P : A → Toks → Type 0) (t : Tok) (ts : Toks) where
  -- each entry of a choice that the token t makes
  abbrev EachLeads : List (String × (ℕ → Reader A)) → Type 0
  EachLeads [] = Unit {0}
  EachLeads (x ∷ xs) = (same t.word (bytes x.0) ≡ true → Leads (x.1 t.at) ts P) × EachLeads xs

  leads_one_of : (xs : List (String × (ℕ → Reader A))) → EachLeads xs → Leads (one_of xs t) ts P
  unfolding one_of
  leads_one_of [] h = leads_refuse _ _
  leads_one_of (x ∷ xs) h = by (same t.word (bytes x.0)) refl (leads_one_of xs h.1)
    where
      by : (c : Bool) → same t.word (bytes x.0) ≡ c → Leads (one_of xs t) ts P → Leads (one_of (x ∷ xs) t) ts P
      by true e k = record { all = λ a us q. (h.0 e).all a us (rw (e, one_of) at q) }
      by false e k = record { all = λ a us q. k.all a us (rw (e, one_of) at q) }

  leads_choose : (xs : List (String × (ℕ → Reader A))) → EachLeads xs → Leads (choose xs) (tok t ts) P
  unfolding choose any ◌>>=◌ after
  leads_choose xs h = record { all = (leads_one_of xs h).all }

-- a V's place is that of its first token; `}` is one token
abbrev Opens : Tok → Toks → Head → Toks → Type 0
Opens t ts ends us = (same t.word (bytes "}") ≡ true) × (ts ≡ us)
Opens t ts (vecs p a) us = t.at ≡ p
Opens t ts (sets x) us = Unit {0}
Opens t ts (loops n) us = Unit {0}
Opens t ts shifts us = Unit {0}
Opens t ts (uses k x n a) us = Unit {0}

opens_used : (t : Tok) (ts : Toks) (k : Kind) (d : ℕ) (ns : Names) (l : Decls) → Leads (used k d ns l) ts (Opens t ts)
unfolding used
opens_used t ts k d ns l = leads_bind _ _ λ x vs v. leads_if _ _ _ _ λ c. leads_bind _ _ λ a ws w. leads_if _ _ _ _ λ e. leads_give _ tt

opens : (e : Env) (t : Tok) (ts : Toks) → Leads (free_head e) (tok t ts) (Opens t ts)
unfolding head chosen looping shift_head label_head
opens e t ts = leads_choose (Opens t ts) t ts _ (
    (λ c. leads_bind _ _ λ a vs v. leads_give _ refl)
    also (λ c. leads_bind _ _ λ a vs v. leads_give _ tt)
    also (λ c. leads_bind _ _ λ x vs v. leads_bind _ _ λ q ws w. leads_give _ tt)
    also (λ c. leads_if _ _ _ _ λ f. leads_bind _ _ λ n vs v. leads_bind _ _ λ q ws w. leads_give _ tt)
    also (λ c. opens_used t ts _ _ e.names e.macros)
    also (λ c. opens_used t ts _ _ e.names e.procs)
    also (λ c. leads_if _ _ _ _ λ f. leads_bind _ _ λ n vs v. leads_bind _ _ λ q ws w. leads_give _ tt)
    also (λ c. leads_if _ _ _ _ λ f. leads_if _ _ _ _ λ g. leads_bind _ _ λ q vs v. leads_give _ tt)
    also (λ c. leads_give _ (c, refl))
    also tt)

-- there is a token
module _ (e : Env) where
  pub head_token : (ts : Toks) (h : Head) (us : Toks) → HeadAt e ts h us → (t : Tok) × (vs : Toks) × (ts ≡ tok t vs)
  unfolding head choose any ◌>>=◌ after
  head_token (stop n p) h us q = let z : ◌≡◌ {A = ℕ} 0 1 = cc in absurd (omega arith)
  head_token (tok t vs) h us q = (t, vs, refl)

  -- the place of a V
  pub vector_place : (ts : Toks) (t : Tok) (vs : Toks) → ts ≡ tok t vs → (p : ℕ) (a : Assigns) (us : Toks) → HeadAt e ts (vecs p a) us → t.at ≡ p
  vector_place ts t vs i p a us q = (opens e t vs).all (vecs p a) us (rw i at q)

  -- a `}` that a head was is one that is due
  pub end_due : (ts : Toks) (us : Toks) → HeadAt e ts ends us → (p : ℕ) × (due "}" ts ≡ ok p us)
  unfolding head choose due_of any refuse_if give ◌>>=◌ after
  end_due (stop n p) us q = let z : ◌≡◌ {A = ℕ} 0 1 = cc in absurd (omega arith)
  end_due (tok t vs) us q = let k = (opens e t vs).all ends us q in (t.at, rw (k.0, k.1))

-- ---- each takes a token, so a body does

pub holds_less : (e : Env) (ts : Toks) (b : Body) (us : Toks) → Holds e ts b us → left us < left ts
unfolding Holds
holds_less e ts done us x = (takes_head e _ _ _).falls ts ends us x
holds_less e ts (vec p a r) us x = omega (arith, (takes_head e _ _ _).falls ts _ x.0 x.1, holds_less e x.0 r us x.2)
holds_less e ts (set' s r) us x = omega (arith, (takes_head e _ _ _).falls ts _ x.0 x.1, holds_less e x.0 r us x.2)
holds_less e ts (inner (looped n) b r) us x =
    omega (arith, (takes_head e _ _ _).falls ts _ x.0 x.2, holds_less e x.0 b x.1 x.3, holds_less e x.1 r us x.4)
holds_less e ts (inner shifted b r) us x =
    omega (arith, (takes_head e _ _ _).falls ts _ x.0 x.2, holds_less e x.0 b x.1 x.3, holds_less e x.1 r us x.4)
holds_less e ts (inner (entered k t a) b r) us x = omega (arith, (takes_head e _ _ _).falls ts _ x.0 x.3, holds_less e x.0 r us x.6)

-- so it begins in the text
pub begins_within : (e : Env) (text : List ℕ) (at : ℕ) (b : Body) (us : Toks) → Holds e (toks text at) b us → at < length text
begins_within e text at b us x = omega (arith, holds_less e (toks text at) b us x, left_most text at)

-- ---- what it tells, whatever the text

-- its assignments go to signals below n, those of C have no `#`; the arguments of a used body fit
abbrev pub Fine : ℕ → Head → Type 0
Fine n ends = Unit {0}
Fine n (vecs p a) = TidyBelow n (assigned a)
Fine n (sets (assigning a)) = TidyBelow n (assigned a) × (marked a ≡ [])
Fine n (sets (choosing k)) = Unit {0}
Fine n (loops m) = Unit {0}
Fine n shifts = Unit {0}
Fine n (uses k x t a) = fits x.body a ≡ true

unmarked : (a : Assigns) → has mark (chars a) ≡ false → marked a ≡ []
unfolding has chars marked
unmarked [] h = refl
unmarked (x ∷ a) h = by (eqb x.1 mark) h (unmarked a)
  where
    by : (b : Bool) → (b || has mark (chars a)) ≡ false → (has mark (chars a) ≡ false → marked a ≡ [])
        → ◌≡◌ {A = List ℕ} (elim b [ true ↦ x.0 ∷ marked a | false ↦ marked a ]) []
    by true h ih = let z : ◌≡◌ {A = ℕ} 0 1 = cc in absurd (omega arith)
    by false h ih = ih h

fine_used : (n : ℕ) (k : Kind) (d : ℕ) (ns : Names) (l : Decls) → Gives (Fine n) (used k d ns l)
unfolding used
fine_used n k d ns l =
    gives_after (Fine n) _ _ λ x. gives_after (Fine n) _ _ λ u. gives_after (Fine n) _ _ λ a.
    gives_bind (λ v. not (fits x.1.body a.0) ≡ false) (Fine n) _ _ (gives_if _ _ _) λ v h. gives_give (Fine n) _ (not-false _ h)

fine_set : (n : ℕ) (ns : Names) → AllTidy n ns → Gives (λ a. TidyBelow n (assigned a) × (marked a ≡ [])) (assigns ns false)
fine_set n ns h = record { all = λ ts a us q. ((differ_assigns ns false h).all ts a us q, unmarked a ((no_mark_assigned ns).all ts a us q)) }

pub fine_head : (e : Env) (n : ℕ) → AllTidy n e.names → Gives (Fine n) (free_head e)
unfolding head chosen looping shift_head label_head assigned marked
fine_head e n h = gives_choose F _ (
    (λ p. gives_bind (λ a. TidyBelow n (assigned a)) F _ _ (differ_assigns e.names true h) λ a q. gives_give F _ q)
    also (λ p. gives_bind (λ a. TidyBelow n (assigned a) × (marked a ≡ [])) F _ _ (fine_set n e.names h) λ a q. gives_give F _ q)
    also (λ p. gives_after F _ _ λ x. gives_after F _ _ λ q. gives_give F _ tt)
    also (λ p. gives_after F _ _ λ u. gives_after F _ _ λ m. gives_after F _ _ λ q. gives_give F _ tt)
    also (λ p. fine_used n _ _ e.names e.macros)
    also (λ p. fine_used n _ _ e.names e.procs)
    also (λ p. gives_after F _ _ λ u. gives_after F _ _ λ t. gives_after F _ _ λ q. gives_give F _ (bare, refl))
    also (λ p. gives_after F _ _ λ u. gives_after F _ _ λ v. gives_after F _ _ λ q. gives_give F _ tt)
    also (λ p. gives_give F _ tt)
    also tt)
  where
    F : Head → Type 0
    F = Fine n

-- ---- a used body's Shift plays as often as its arguments say

abbrev pub Turned : Head → Type 0
Turned ends = Unit {0}
Turned (vecs p a) = Unit {0}
Turned (sets x) = Unit {0}
Turned (loops n) = Unit {0}
Turned shifts = Unit {0}
Turned (uses k x t a) = t ≡ turns x.body a

turned_used : (k : Kind) (d : ℕ) (ns : Names) (l : Decls) → Gives Turned (used k d ns l)
unfolding used
turned_used k d ns l = gives_after Turned _ _ λ x. gives_after Turned _ _ λ u. gives_after Turned _ _ λ a. gives_after Turned _ _ λ v. gives_give Turned _ refl

pub turned_head : (e : Env) → Gives Turned (free_head e)
unfolding head chosen looping shift_head label_head
turned_head e = gives_choose Turned _ (
    (λ p. gives_after Turned _ _ λ a. gives_give Turned _ tt)
    also (λ p. gives_after Turned _ _ λ a. gives_give Turned _ tt)
    also (λ p. gives_after Turned _ _ λ x. gives_after Turned _ _ λ q. gives_give Turned _ tt)
    also (λ p. gives_after Turned _ _ λ u. gives_after Turned _ _ λ n. gives_after Turned _ _ λ q. gives_give Turned _ tt)
    also (λ p. turned_used macro _ e.names e.macros)
    also (λ p. turned_used procedure _ e.names e.procs)
    also (λ p. gives_after Turned _ _ λ u. gives_after Turned _ _ λ t. gives_after Turned _ _ λ q. gives_give Turned _ tt)
    also (λ p. gives_after Turned _ _ λ u. gives_after Turned _ _ λ v. gives_after Turned _ _ λ q. gives_give Turned _ tt)
    also (λ p. gives_give Turned _ tt)
    also tt)

-- ---- where a body is held

-- the head that the code read from c to r, of which P holds, begins the body b
pub record Met (text : List ℕ) (E : Env) (n : ℕ) (b : Body) (us : Toks) (c r : Cursor) (P : Head → Type 0) : Type 0 where
  pub it : Head
  pub on : alive r ≡ true
  pub read : HeadAt E (stream text c) it (stream text r)
  pub fine : Fine n it
  pub told : P it
  pub split : Split E it (stream text r) b us

pub met : {text : List ℕ} {E : Env} {n : ℕ} {b : Body} {us : Toks} {c r : Cursor} {P : Head → Type 0} → AllTidy n E.names → Holds E (stream text c) b us
    → alive c ≡ true → Makes text c (free_head E) r P → Met text E n b us c r P
met {text} {E} {n} {b} {us} {c} {r} {P} tidy x e m =
    let i = head_held E (stream text c) b us x in
    let w = went m.goes e i.2 in
    record {
      it = i.0;
      on = w.on;
      read = rw w.behind i.2;
      fine = (fine_head E n tidy).all _ i.0 i.1 i.2;
      told = subst P w.is (m.held w.on);
      split = rw w.behind i.3;
    }

module _ {text : List ℕ} {E : Env} {n : ℕ} {b : Body} {us : Toks} {c r : Cursor} {P : Head → Type 0} (i : Met text E n b us c r P) where
  pub met_split : (h : Head) → i.it ≡ h → Split E h (stream text r) b us
  met_split h e = subst (λ (z : Head). Split E z (stream text r) b us) e i.split

  pub met_fine : (h : Head) → i.it ≡ h → Fine n h
  met_fine h e = subst (Fine n) e i.fine

  -- its arguments are just as long as is due
  pub met_exact : (k : Kind) (z : Decl) (t : ℕ) (a : Args) → i.it ≡ uses k z t a → ((s : ℕ) → count s (shifting z.body) ≤ 1) → Exact t z.body a
  met_exact k z t a e once =
      let same : t ≡ turns z.body a = subst Turned e ((turned_head E).all _ i.it _ i.read) in
      subst (λ (k : ℕ). Exact k z.body a) (sym same) (fits_exact z.body a once (met_fine (uses k z t a) e))

  -- fewer tokens are behind it
  pub met_less : left (stream text r) < left (stream text c)
  met_less = (takes_head E _ _ _).falls _ _ _ i.read
