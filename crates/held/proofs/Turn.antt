-- Statements are read one turn at a time, whatever the count: a head takes a token, and nothing that follows it gives one back.
use mathlib.Core.Path.{◌≡◌, refl}
use Prim.Native.Nat.{ℕ, zero, suc, ◌<◌}
use native.Mathlib.Omega.{arith}
use mathlib.Core.Bool.{Bool, true, false}
use Rattle.tokens.specs.Tokens.{Toks, left}
use Rattle.meaning.specs.Refusals.{too_deep}
use Rattle.meaning.specs.Reader.{Res, Reader, ok, refuse, after, ◌>>=◌}
use Rattle.meaning.specs.Signals.{Names}
use Rattle.meaning.specs.Body.{Body}
use Rattle.meaning.specs.Statements.{Env, Head, ends, vecs, sets, loops, shifts, uses, head, in_shift, behind, statements_f, statements}
use Rattle.meaning.proofs.Takes.{Takes, Keeps}
use Rattle.held.proofs.Rest.{moves_leaves, leaves_keeps, moves_takes, moves_refuse}
use Rattle.held.proofs.Grammar.{moves_head, moves_in_shift, moves_statements}

pub takes_head : (e : Env) (own : Bool) (d : ℕ) (seen : Bool) → Takes (head e own d seen)
takes_head e own d seen = moves_takes (moves_head e own d seen)

-- ---- what follows a head

-- two ways to go on that agree on few tokens agree behind a reader that gives none back
same_bind : {A B : Type 0} (m : Reader A) → Keeps m → (f g : A → Reader B) (n : ℕ) → ((a : A) (us : Toks) → left us < n → f a us ≡ g a us) → (ts : Toks) → left ts < n
    → (m >>= f) ts ≡ (m >>= g) ts
unfolding ◌>>=◌ after
same_bind {A} m h f g n k ts s = by (m ts) refl
  where
    by : (r : Res A) → m ts ≡ r → after r f ≡ after r g
    by (ok a us) q = k a us (let z = h.stays ts a us q in omega arith)
    by (refuse i p) q = refl

module _ (ns : Names) (within : Reader Body) (keeps : Keeps within) where
  same_behind : (f g : Bool → Reader Body) (n : ℕ) → ((s : Bool) (us : Toks) → left us < n → f s us ≡ g s us)
      → (seen : Bool) (h : Head) (ts : Toks) → left ts < n → behind ns within f seen h ts ≡ behind ns within g seen h ts
  unfolding behind ◌>>=◌
  same_behind f g n k seen ends ts s = refl
  same_behind f g n k seen (vecs p a) ts s = rw (k seen ts)
  same_behind f g n k seen (sets x) ts s = rw (k seen ts)
  same_behind f g n k seen (loops j) ts s = same_bind within keeps _ _ n (λ b us z. rw (k seen us)) ts s
  same_behind f g n k seen shifts ts s = same_bind (in_shift ns) (leaves_keeps (moves_leaves (moves_in_shift ns))) _ _ n (λ b us z. rw (k true us)) ts s
  same_behind f g n k seen (uses j x t a) ts s = rw (k seen ts)

-- ---- statements

module _ (e : Env) (own : Bool) (d : ℕ) (within : Reader Body) where
  -- statements from here on
  abbrev pub onward : Bool → Reader Body
  onward seen ts = statements_f e own d within (suc (left ts)) seen ts

  module _ (keeps : Keeps within) where
    same_count : (j k : ℕ) (seen : Bool) (ts : Toks) → left ts < j → left ts < k → statements_f e own d within j seen ts ≡ statements_f e own d within k seen ts
    unfolding statements_f ◌>>=◌ after
    same_count zero k seen ts x y = absurd (omega arith)
    same_count (suc j) zero seen ts x y = absurd (omega arith)
    same_count (suc j) (suc k) seen ts x y = by (λ s us z. same_count j k s us (omega arith) (omega arith)) (head e own d seen ts) refl
      where
        by : ((s : Bool) (us : Toks) → left us < left ts → statements_f e own d within j s us ≡ statements_f e own d within k s us)
            → (r : Res Head) → head e own d seen ts ≡ r
            → after r (behind e.names within (statements_f e own d within j) seen) ≡ after r (behind e.names within (statements_f e own d within k) seen)
        by ih (ok h us) q = same_behind e.names within keeps _ _ (left ts) ih seen h us ((takes_head e own d seen).falls ts h us q)
        by ih (refuse n p) q = refl

    -- THE LAW of one turn: a head, and what is behind it
    pub turn : (seen : Bool) (ts : Toks) → onward seen ts ≡ (head e own d seen >>= behind e.names within onward seen) ts
    unfolding statements_f ◌>>=◌ after
    turn seen ts = by (head e own d seen ts) refl
      where
        by : (r : Res Head) → head e own d seen ts ≡ r
            → after r (behind e.names within (statements_f e own d within (left ts)) seen) ≡ after r (behind e.names within onward seen)
        by (ok h us) q =
            same_behind e.names within keeps _ _ (left ts) (λ s vs z. same_count (left ts) (suc (left vs)) s vs z (omega arith)) seen h us
            ((takes_head e own d seen).falls ts h us q)
        by (refuse n p) q = refl

-- the bodies of Loops where d levels may stand
unfoldable pub deeper : Env → ℕ → Reader Body
deeper e zero ts = refuse too_deep 0
deeper e (suc d) ts = statements e d false ts

pub statements_onward : (e : Env) (d : ℕ) (own : Bool) (ts : Toks) → statements e d own ts ≡ onward e own d (deeper e d) false ts
unfolding statements deeper
statements_onward e zero own ts = refl
statements_onward e (suc d) own ts = refl

pub keeps_deeper : (e : Env) (d : ℕ) → Keeps (deeper e d)
unfolding deeper
keeps_deeper e zero = leaves_keeps (moves_leaves (moves_refuse too_deep 0))
keeps_deeper e (suc d) = leaves_keeps (moves_leaves (moves_statements e d false))

-- so of all statements
pub statements_turn : (e : Env) (d : ℕ) (own seen : Bool) (ts : Toks)
    → onward e own d (deeper e d) seen ts ≡ (head e own d seen >>= behind e.names (deeper e d) (onward e own d (deeper e d)) seen) ts
statements_turn e d own = turn e own d (deeper e d) (keeps_deeper e d)
