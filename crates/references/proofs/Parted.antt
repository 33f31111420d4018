-- A statement's head ends with a token behind which something begins: `{`, `}` or `;`. So does a body, and a body begins behind one.
use Prim.Native.Nat.{ℕ}
use Prim.Native.String.{String}
use native.Mathlib.Omega.{arith}
use mathlib.Core.Path.{◌≡◌, refl, sym, ap, ◌∙◌, subst}
use mathlib.Core.Bool.{Bool, true, false}
use mathlib.Core.List.{List, [], ◌∷◌}
use Rattle.tokens.specs.Written.{bytes, same}
use Rattle.tokens.specs.Tokens.{Tok, Toks, tok}
use Rattle.meaning.specs.Bounds.{depth_most}
use Rattle.meaning.specs.Reader.{Reader, ok, ◌>>=◌, give, refuse_if, due_of, one_of, choose, closed, until}
use Rattle.meaning.specs.Signals.{Names}
use Rattle.meaning.specs.Data.{assign, assigns, argument, arguments}
use Rattle.meaning.specs.Body.{looped, shifted, entered, Kind, Body, done, vec, set', inner}
use Rattle.meaning.specs.Statements.{Decl, Decls, Env, Head, used, chosen, looping, shift_head, label_head, head, statements, declared}
use Rattle.meaning.specs.Document.{pattern, patterns}
use Rattle.meaning.proofs.Gives.{bind_ok, give_ok, if_ok}
use Rattle.meaning.proofs.Choices.{◌also◌}
use Rattle.held.specs.Held.{All, HeadAt, Holds}
use Rattle.held.proofs.Rest.{Rest, all, behind, Leaves, rest_rest, moves_leaves, moves_due, moves_name, moves_old, moves_new, moves_number, leaves_if, leaves_while}
use Rattle.held.proofs.Grammar.{moves_assign, moves_argument, moves_statements}
use Rattle.held.proofs.Leads.{Leads, leads_bind, leads_if, leads_while}
use Rattle.held.proofs.Due.{any_is, due_is}
use Rattle.held.proofs.All.{all_more}
use Rattle.meaning.specs.Labels.{parting}
use Rattle.meaning.proofs.Others.{same_eq}

-- the tokens us stand in ts behind a token behind which something begins
pub data Parted : Toks → Toks → Type 0 where
  here : {t : Tok} {ts : Toks} → parting t.word ≡ true → Parted ts (tok t ts)
  later : {t : Tok} {us ts : Toks} → Parted us ts → Parted us (tok t ts)

pub parted_rest : {us vs ts : Toks} → Parted us vs → Rest vs ts → Parted us ts
parted_rest p all = p
parted_rest p (behind r) = later (parted_rest p r)

pub parted_parted : {us vs ts : Toks} → Parted us vs → Parted vs ts → Parted us ts
parted_parted p (here e) = later p
parted_parted p (later q) = later (parted_parted p q)

-- ---- readers

-- one that ends behind such a token
record Parts {A : Type 0} (m : Reader A) : Type 0 where
  parted : (ts : Toks) (a : A) (us : Toks) → m ts ≡ ok a us → Parted us ts

-- one that takes no token
record Stays {A : Type 0} (m : Reader A) : Type 0 where
  stays : (ts : Toks) (a : A) (us : Toks) → m ts ≡ ok a us → ts ≡ us

stays_give : {A : Type 0} (a : A) → Stays (give a)
stays_give a = record { stays = λ ts b us e. (give_ok e).1 }

module _ {A B : Type 0} (m : Reader A) (k : A → Reader B) where
  parts_then : Parts m → ((a : A) → Stays (k a)) → Parts (m >>= k)
  parts_then h g = record {
    parted = λ ts b us e. (
        let i = bind_ok m k ts b us e in
        subst (λ (vs : Toks). Parted vs ts) ((g i.0).stays i.1 b us i.3) (h.parted ts i.0 i.1 i.2));
  }

  parts_last : Leaves m → ((a : A) → Parts (k a)) → Parts (m >>= k)
  parts_last h g = record {
    parted = λ ts b us e. (
        let i = bind_ok m k ts b us e in
        parted_rest ((g i.0).parted i.1 b us i.3) (h.rest ts i.0 i.1 i.2));
  }

stays_if : {A : Type 0} (c : Bool) (n p : ℕ) (a : A) → Stays (refuse_if c n p >>= λ u. give a)
stays_if c n p a = record {
  stays = λ ts b us e. (let i = bind_ok (refuse_if c n p) (λ u. give a) ts b us e in if_ok c n p i.2 ∙ (give_ok i.3).1);
}

parts_due : (w : List ℕ) → parting w ≡ true → Parts (due_of w)
parts_due w h = record { parted = λ ts p us e. subst (Parted us) (sym ((due_is w ts).all p us e)) (here h) }

module _ {S : Type 0} (close : String) (closes : parting (bytes close) ≡ true) (step : S → Reader S) (h : (s : S) → Leaves (step s)) (s : S) where
  parts_closed : Parts (closed close step s)
  unfolding closed
  parts_closed = parts_last _ _ (leaves_while step h _ s) λ x. parts_then _ _ (parts_due (bytes close) closes) λ p. stays_give _

  parts_until : Parts (until close step s)
  unfolding until
  parts_until = parts_then _ _ parts_closed λ x. stays_give _

-- ---- choices

module _ {A : Type 0} where
  -- what an entry of a choice leads to, behind its token
  abbrev Entry : String × (ℕ → Reader A) → Type 0
  Entry x = (t : Tok) → same t.word (bytes x.0) ≡ true → (ts : Toks) (a : A) (us : Toks) → x.1 t.at ts ≡ ok a us → Parted us (tok t ts)

  abbrev Entries : List (String × (ℕ → Reader A)) → Type 0
  Entries [] = Unit {0}
  Entries (x ∷ xs) = Entry x × Entries xs

  parts_one_of : (xs : List (String × (ℕ → Reader A))) → Entries xs → (t : Tok) (ts : Toks) (a : A) (us : Toks) → one_of xs t ts ≡ ok a us → Parted us (tok t ts)
  unfolding one_of
  parts_one_of [] h t ts a us e = let z : ◌≡◌ {A = ℕ} 0 1 = cc in absurd (omega arith)
  parts_one_of (x ∷ xs) h t ts a us e = by (same t.word (bytes x.0)) refl e (parts_one_of xs h.1 t ts a us)
    where
      by : (c : Bool) → same t.word (bytes x.0) ≡ c → elim c [ true ↦ x.1 t.at ts | false ↦ one_of xs t ts ] ≡ ok a us
          → (one_of xs t ts ≡ ok a us → Parted us (tok t ts)) → Parted us (tok t ts)
      by true q e ih = h.0 t q ts a us e
      by false q e ih = ih e

  parts_choose : (xs : List (String × (ℕ → Reader A))) → Entries xs → Parts (choose xs)
  unfolding choose
  parts_choose xs h = record {
    parted = λ ts a us e. (
        let i = bind_ok _ _ ts a us e in
        subst (Parted us) (sym ((any_is ts).all i.0 i.1 i.2)) (parts_one_of xs h i.0 i.1 a us i.3));
  }

  -- an entry that ends so, and one that is such a token alone
  entry : (s : String) (k : ℕ → Reader A) → ((p : ℕ) → Parts (k p)) → Entry (s, k)
  entry s k h t q ts a us e = later ((h t.at).parted ts a us e)

  alone : (s : String) (k : ℕ → Reader A) → parting (bytes s) ≡ true → ((p : ℕ) → Stays (k p)) → Entry (s, k)
  alone s k w h t q ts a us e =
      subst (λ (vs : Toks). Parted vs (tok t ts)) ((h t.at).stays ts a us e) (here (ap parting (same_eq t.word (bytes s) q) ∙ w))

-- ---- heads

opening : parting (bytes "{") ≡ true
unfolding parting bytes same
opening = refl

closing : parting (bytes "}") ≡ true
unfolding parting bytes same
closing = refl

ending : parting (bytes ";") ≡ true
unfolding parting bytes same
ending = refl

parts_assigns : (ns : Names) (m : Bool) → Parts (assigns ns m)
unfolding assigns
parts_assigns ns m = parts_last _ _ (moves_leaves (moves_due _)) λ p. parts_until "}" closing (assign ns m) (λ s. moves_leaves (moves_assign ns m s)) []

parts_arguments : (ns : Names) (b : Body) → Parts (arguments ns b)
unfolding arguments
parts_arguments ns b = parts_choose _ (
    alone ";" _ ending (λ p. stays_give _)
    also entry "{" _ (λ p. parts_closed "}" closing (argument ns b) (λ xs. moves_leaves (moves_argument ns b xs)) [])
    also tt)

parts_used : (k : Kind) (d : ℕ) (ns : Names) (l : Decls) → Parts (used k d ns l)
unfolding used
parts_used k d ns l =
    parts_last _ _ (moves_leaves (moves_old l)) λ x. parts_last _ _ (leaves_if _ _ _) λ u. parts_then _ _ (parts_arguments ns x.1.body) λ a. stays_if _ _ _ _

parts_head : (e : Env) (own : Bool) (d : ℕ) (seen : Bool) → Parts (head e own d seen)
unfolding head chosen looping shift_head label_head
parts_head e own d seen = parts_choose _ (
    entry "V" _ (λ p. parts_then _ _ (parts_assigns e.names own) λ a. stays_give _)
    also entry "C" _ (λ p. parts_then _ _ (parts_assigns e.names false) λ a. stays_give _)
    also entry "W" _ (λ p. parts_last _ _ (moves_leaves (moves_old _)) λ x. parts_then _ _ (parts_due _ ending) λ q. stays_give _)
    also entry "Loop" _ (λ p. parts_last _ _ (leaves_if _ _ _) λ u. parts_last _ _ (moves_leaves (moves_number _ _)) λ n. parts_then _ _ (parts_due _ opening) λ q. stays_give _)
    also entry "Macro" _ (λ p. parts_used _ d e.names e.macros)
    also entry "Call" _ (λ p. parts_used _ d e.names e.procs)
    also entry "X" _ (λ p. parts_last _ _ (leaves_if _ _ _) λ u. parts_last _ _ (moves_leaves moves_name) λ t. parts_then _ _ (parts_due _ ending) λ q. stays_give _)
    also entry "Shift" _ (λ p. parts_last _ _ (leaves_if _ _ _) λ u. parts_last _ _ (leaves_if _ _ _) λ v. parts_then _ _ (parts_due _ opening) λ q. stays_give _)
    also alone "}" _ closing (λ p. stays_give _)
    also tt)

-- ---- where a body is held

module _ (e : Env) where
  pub head_parted : (ts : Toks) {h : Head} {us : Toks} → HeadAt e ts h us → Parted us ts
  head_parted ts {h} {us} q = (parts_head e _ _ _).parted ts h us q

  pub holds_parted : (ts : Toks) (b : Body) (us : Toks) → Holds e ts b us → Parted us ts
  unfolding Holds
  holds_parted ts done us x = head_parted ts x
  holds_parted ts (vec p a r) us x = parted_parted (holds_parted x.0 r us x.2) (head_parted ts x.1)
  holds_parted ts (set' s r) us x = parted_parted (holds_parted x.0 r us x.2) (head_parted ts x.1)
  holds_parted ts (inner (looped n) b r) us x =
      parted_parted (holds_parted x.1 r us x.4) (parted_parted (holds_parted x.0 b x.1 x.3) (head_parted ts x.2))
  holds_parted ts (inner shifted b r) us x =
      parted_parted (holds_parted x.1 r us x.4) (parted_parted (holds_parted x.0 b x.1 x.3) (head_parted ts x.2))
  holds_parted ts (inner (entered k t a) b r) us x = parted_parted (holds_parted x.0 r us x.6) (head_parted ts x.3)

-- ---- the patterns of a text

module _ (e : Env) (b : Tok) (ts : Toks) where
  -- each of them begins behind such a token, and reading goes on behind them
  abbrev Begin : Decls → Toks → Type 0
  Begin ps us = All (λ x. Parted x.1.from ts) ps × Rest us ts

  begin_pattern : (ps : Decls) (us : Toks) → Begin ps us → Leads (pattern e b ps) us Begin
  unfolding pattern declared
  begin_pattern ps us h =
      leads_bind _ _ λ p vs v. leads_if _ _ _ _ λ c. leads_bind _ _ λ t ws w. leads_bind _ _ λ q xs x. record {
        all = λ l zs z. (
            let i = bind_ok _ _ xs l zs z in
            let j = bind_ok (statements e depth_most false) (λ body. give (record { body = body; from = xs })) xs i.0 i.1 i.2 in
            let to-name = rest_rest ((moves_leaves (moves_new _)).rest vs t ws w) ((moves_leaves (moves_due _)).rest us p vs v) in
            let begins = parted_rest (parted_rest ((parts_due _ opening).parted ws q xs x) to-name) h.1 in
            let ends = rest_rest ((moves_leaves (moves_statements e _ false)).rest xs j.0 j.1 j.2)
            (rest_rest ((moves_leaves (moves_due _)).rest ws q xs x) (rest_rest to-name h.1)) in
            let from : xs ≡ i.0.from = ap (λ (y : Decl). y.from) (give_ok j.3).0 in
            subst (λ (m : Decls). Begin m zs) (give_ok i.3).0 (
              all_more _ ps (t, i.0) h.0 (subst (λ (y : Toks). Parted y ts) from begins),
              subst (λ (y : Toks). Rest y ts) ((give_ok j.3).1 ∙ (give_ok i.3).1) ends,
            ));
      }

  pub patterns_parted : Leads (patterns e b) ts (λ ps us. All (λ x. Parted x.1.from ts) ps)
  unfolding patterns All
  patterns_parted = leads_bind _ _ λ ps us u. record {
    all = λ l zs z. ((leads_while Begin (pattern e b) begin_pattern _ ps us ((begin_pattern [] ts (tt, all)).all ps us u)).all l zs z).0;
  }
